use Rattle.mpslp_mps.proofs.Prelude.{sym, ap, subst, ◌∙◌, [], ◌∷◌, Option, FaultKind, declare_range, declared_fault, IsErrorOf, LineError}
use Rattle.mpslp_mps.proofs.{Prelude.earlier_of, SideLemmas.{ranges-apart, second-range}}
use Rattle.mpslp_mps.proofs.vectors.check_ranges_apart.Goals as goal

pub returns-in-Err-Fault : goal.returns-in-Err-Fault
returns-in-Err-Fault c =
    let all = c.args.builder.now in
    let first = c.args.first.now in
    let second = c.args.second.now in
    let d1 = declare_range first.0 first.1 in
    let d2 = declare_range second.0 second.1 in
    let fault_is = subst (λ (error : LineError). IsErrorOf (declared_fault all (d1 ∷ [])) error)
    c.in-Err-Fault.field-0-is c.in-Err-Fault.ensures in
    subst (λ (o : Option FaultKind). IsErrorOf o c.error_of_both.result) (ap (λ (o : Option FaultKind). earlier_of o (declared_fault all
    (d2 ∷ []))) (sym fault_is) ∙ sym (ranges-apart all first.0 first.1 second.0 second.1 c.requires)) c.error_of_both.ensures

pub returns-in-Ok : goal.returns-in-Ok
returns-in-Ok c = second-range c.args.builder.now c.args.first.now.0 c.args.first.now.1 c.args.second.now.0 c.args.second.now.1
    c.check_range-in-Ok.result c.requires c.in-Ok.ensures c.check_range-in-Ok.ensures
