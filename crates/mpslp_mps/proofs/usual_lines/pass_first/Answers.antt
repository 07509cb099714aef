use Rattle.mpslp_mps.proofs.Prelude.{ap, subst, Bool, true, Ok, TakesUsual}
use Rattle.mpslp_mps.proofs.UsualLines.{first-split}
use Rattle.mpslp_mps.proofs.usual_lines.pass_first.Goals as goal

pub returns-then-branch-clause-passed : goal.returns-then-branch-clause-passed
returns-then-branch-clause-passed c =
    let context = c.args.context.now in
    let earlier = c.args.builder.now.draft in
    let column = c.args.column.now in
    let values = c.args.values.now in
    let later = c.declare_first.new.builder.draft in
    let marked = subst (λ (b : Bool). TakesUsual earlier b column values (Ok true) later) c.in_integer_part-is_marked.ensures
    (subst (λ (b : Bool). TakesUsual earlier c.in_integer_part-is_marked.result column values (Ok b) later)
    c.if-branch.true c.in_ok-declare_first.ensures.taken) in (
      marked,
      first-split context earlier column (c.in_ok-declare_first.ensures.absent (ap Ok c.if-branch.true)),
      c.in_ok-pass_new_column.ensures,
    )
