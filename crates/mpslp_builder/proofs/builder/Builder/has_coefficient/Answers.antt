use Rattle.mpslp_builder.proofs.{Prelude.draft, MadeDrafts.coefficients_known}
use Rattle.mpslp_builder.proofs.builder.Builder.has_coefficient.Goals as goal

pub has_coefficient-requires-clause-known : goal.has_coefficient-requires-clause-known
has_coefficient-requires-clause-known c = let b = c.self.inside in
    coefficients_known (draft b.sense b.constant b.tables) c.self.invariant.0
