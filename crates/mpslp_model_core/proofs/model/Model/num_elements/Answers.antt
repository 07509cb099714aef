use Rattle.std.proofs.Common.{◌∙◌}
use Rattle.mpslp_model_core.proofs.ViewLemmas.{all_sorted, elements_counted}
use Rattle.mpslp_model_core.proofs.model.Model.num_elements.Goals as goal

pub count_elements-requires : goal.count_elements-requires
count_elements-requires c = all_sorted c.self.inside.parts.columns c.self.invariant.parts.cells

pub returns : goal.returns
returns c = c.count_elements.ensures ∙ elements_counted c.self.inside.parts c.self.invariant.parts c.args.self.now c.self.view_is
