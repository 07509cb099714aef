use Rattle.mpslp_builder.proofs.{Prelude.{refl, declare_constant, refusals}, MadeDrafts.{none_refused, made_next}}
use Rattle.mpslp_builder.proofs.builder.Builder.constant.Goals as goal

pub invariant_of-self : goal.invariant_of-self
invariant_of-self c =
    let d = declare_constant c.args.value in (
      made_next d c.self.view_is c.self.invariant.0 c.each_value_is_a_decimal.ensures
          (none_refused (refusals c.args.self.now d) c.in_ok-check_constant.ensures) refl,
      c.self.invariant.1,
    )
