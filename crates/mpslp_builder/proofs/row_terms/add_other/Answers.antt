use Rattle.std.proofs.Common.{◌≡◌, sym, ap, ◌∙◌, subst, not, Bool}
use Rattle.std.specs.{Prelude.{is_some, Result, IfOk}, List.list_any, declared.alloc.AllocError.AllocError}
use Rattle.mpslp_types.specs.Name.{same_bytes}
use Rattle.mpslp_builder.proofs.{LineLemmas.any-looked_up, row_terms.add_other.Goals.{in-Ok-None, in-Ok-Some, in-Err}}
use Rattle.indexmap.proofs.CallerLemmas.{insert_entry-new}
use Rattle.mpslp_builder.proofs.row_terms.add_other.Goals as goal

pub returns-clause-new : goal.returns-clause-new
returns-clause-new c =
    let terms = c.args.others.now.entries in
    elim c.match-insert.branch [
      | in-Ok-None w ↦
          subst (λ (r : Result Bool AllocError). IfOk r
          (λ is_new. list_any (λ term. same_bytes c.args.name term.0) terms ≡ not is_new)) (sym w.result-is)
          (any-looked_up c.args.name terms ∙ ap is_some (sym w.in-Ok-None.ensures.old ∙ w.in-Ok-None.field-0-is))
      | in-Ok-Some w ↦
          subst (λ (r : Result Bool AllocError). IfOk r
          (λ is_new. list_any (λ term. same_bytes c.args.name term.0) terms ≡ not is_new)) (sym w.result-is)
          (any-looked_up c.args.name terms ∙ ap is_some (sym w.in-Ok-Some.ensures.old ∙ w.in-Ok-Some.field-0-is))
      | in-Err w ↦ subst (λ (r : Result Bool AllocError). IfOk r
          (λ is_new. list_any (λ term. same_bytes c.args.name term.0) terms ≡ not is_new)) (sym w.result-is) tt
    ]

pub returns-clause-added : goal.returns-clause-added
returns-clause-added c =
    let terms = c.args.others.now.entries in
    let after = c.insert.new.self.entries in
    elim c.match-insert.branch [
      | in-Ok-None w ↦
          λ _.
          w.in-Ok-None.ensures.entries ∙ insert_entry-new same_bytes c.args.others.now c.args.name c.args.value
          (sym w.in-Ok-None.ensures.old ∙ w.in-Ok-None.field-0-is)
      | in-Ok-Some w ↦ λ is. let never = sym w.result-is ∙ is in cc
      | in-Err w ↦ λ is. let never = sym w.result-is ∙ is in cc
    ]
