use Rattle.mpslp_builder.proofs.{Prelude.{refl, declare_sense, refusals}, MadeDrafts.{none_refused, made_next}}
use Rattle.mpslp_builder.proofs.builder.Builder.sense.Goals as goal

pub invariant_of-self : goal.invariant_of-self
invariant_of-self c =
    let d = declare_sense c.args.sense in (
      made_next d c.self.view_is c.self.invariant.0 refl
          (none_refused (refusals c.args.self.now d) c.in_ok-check_sense.ensures) refl,
      c.self.invariant.1,
    )
