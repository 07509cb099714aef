use Rattle.mpslp_mps.proofs.Prelude.{◌≡◌, rules, Draft, with_declarations, bounds_declared, bounds_refusals}
use Rattle.mpslp_mps.proofs.SideLemmas.{sides-refused, sides-unchanged}
use Rattle.mpslp_mps.proofs.bounds.declare_bounds_given.Goals as goal

pub returns-in_err-bounds-clause-answers : goal.returns-in_err-bounds-clause-answers
returns-in_err-bounds-clause-answers c =
    let all = c.args.builder.now in
    let later = with_declarations all (bounds_declared c.args.column.now c.args.lower c.args.upper) in
    let fault_is = sides-refused all c.args.column.now c.args.lower c.args.upper c.in_err-bounds.field-0.0 (◌≡◌ {A = Draft}
    c.bounds.new.self later) (◌≡◌ {A = Draft} c.bounds.new.self all) c.requires.some c.in_err-bounds.ensures in search rules

pub returns-in_err-bounds-clause-unchanged : goal.returns-in_err-bounds-clause-unchanged
returns-in_err-bounds-clause-unchanged c =
    let all = c.args.builder.now in
    let later = with_declarations all (bounds_declared c.args.column.now c.args.lower c.args.upper) in
    sides-unchanged (bounds_refusals all c.args.column.now c.args.lower c.args.upper) c.in_err-bounds.field-0.0 (◌≡◌ {A =
    Draft} c.bounds.new.self later) (◌≡◌ {A = Draft} c.bounds.new.self all) c.from_residual.result c.in_err-bounds.ensures
