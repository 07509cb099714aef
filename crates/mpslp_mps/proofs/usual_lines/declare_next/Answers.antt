use Rattle.mpslp_mps.proofs.Prelude.{subst, List, ℕ, false, Ok, Number, column_line, TakesLine}
use Rattle.mpslp_mps.proofs.UsualLines.{usual-taken, usual-refused, other-errors}
use Rattle.mpslp_mps.proofs.usual_lines.declare_next.Goals as goal

pub returns-clause-taken : goal.returns-clause-taken
returns-clause-taken c =
    let earlier = c.args.builder.now.draft in
    let column = c.args.column.now in
    let later = c.next_line.new.self.draft in usual-taken earlier later c.args.is_marked column c.args.values.now c.in_ok-is_done.is_done
    (subst (λ (values : List (List ℕ × Number)). TakesLine earlier (column_line c.args.is_marked column values)
    (Ok c.in_ok-is_done.is_done)
    later) c.entries_of-first.ensures c.in_ok-is_done.ensures.taken) c.each_builder_is_made.ensures

pub returns-clause-refused : goal.returns-clause-refused
returns-clause-refused c = let first = c.in_ok-is_done in λ is there. usual-refused c.args.builder.now.draft c.args.is_marked
    c.args.column.now _ c.args.values.now c.entries_of-first.ensures (first.ensures.refused (other-errors first.is_done false is) there)
