use Rattle.mpslp_model_core.specs.Numbered.{is_kept}
use Rattle.mpslp_builder_parts.proofs.KeptLemmas.{AreKept}
use Rattle.mpslp_builder_parts.proofs.moving.nonzero_first.Given as goal

abbrev pub invariant-loop-at : goal.invariant-loop-at
invariant-loop-at l = AreKept is_kept l.fn.cells.items l.fn.start l.kept l.at l.cells.items
