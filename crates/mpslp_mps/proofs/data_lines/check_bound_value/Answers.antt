use Rattle.mpslp_lines.proofs.HeldLemmas.{held_some, held_none}
use Rattle.mpslp_mps.proofs.Prelude.{◌∙◌, sym, ap, Bool, cond, [], ◌∷◌, Option, Some, None, option_map, FaultKind, SecondSet, number_tests}
use Rattle.mpslp_mps.specs.LineFault.{set_tests}
use Rattle.mpslp_mps.proofs.data_lines.check_bound_value.Goals as goal

pub returns-in-Err : goal.returns-in-Err
returns-in-Err c = held_some (number_tests (c.args.literal.now ∷ []))
    (set_tests (option_map (λ bytes. bytes.now) c.args.first) c.args.set.now) c.in-Err.kind c.in-Err.ensures

pub returns-in-Ok : goal.returns-in-Ok
returns-in-Ok c = let second : Bool → Option FaultKind = λ b. cond b (Some SecondSet) None in held_none
    (number_tests (c.args.literal.now ∷ [])) (set_tests (option_map (λ bytes. bytes.now) c.args.first) c.args.set.now) c.in-Ok.ensures.0
    ∙ ap second (sym c.is_second_set.ensures ∙ c.if-is_second_set.true)
