use Rattle.mpslp_mps.proofs.Prelude.{subst, ◌∙◌, Bool, true, Ok, TakesUsual}
use Rattle.mpslp_mps.proofs.UsualLines.{next-passed}
use Rattle.mpslp_mps.proofs.usual_lines.pass_next.Goals as goal

pub returns-then-branch-clause-passed : goal.returns-then-branch-clause-passed
returns-then-branch-clause-passed c =
    let context = c.args.context.now in
    let earlier = c.args.builder.now.draft in
    let column = c.args.column.now in
    let values = c.args.values.now in
    let later = c.declare_next.new.builder.draft in
    let marked = subst (λ (b : Bool). TakesUsual earlier b column values (Ok true) later) c.in_integer_part.ensures (subst (λ (b : Bool).
    TakesUsual earlier c.in_integer_part.result column values (Ok b) later) c.if-branch.true c.in_ok-declare_next.ensures.taken) in
    let passed = next-passed context earlier later column values c.requires marked in (passed.0, passed.1, c.pass_data.ensures ∙ passed.2)
