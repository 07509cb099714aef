use Rattle.std.{proofs.Common.{sym, ◌∙◌}, specs.{Prelude.position, Cmp.Lexicographic.texts_ties}}
use Rattle.mpslp_model_core.proofs.model.index_of.Goals as goal

pub returns : goal.returns
returns g c = c.find_index.ensures ∙ (λ i. position (λ entry. sym (texts_ties c.args.name.now entry.0) i) c.args.entries.now)
