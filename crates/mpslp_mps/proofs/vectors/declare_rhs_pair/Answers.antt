use Rattle.mpslp_mps.proofs.Prelude.{sym, subst, ◌∙◌, rules, first_so, has_row, HasMpsSides}
use Rattle.mpslp_mps.proofs.SideLemmas.{row-unknown, first-refused, sides-after}
use Rattle.mpslp_mps.proofs.vectors.declare_rhs_pair.Goals as goal

pub returns-then-not-are_rows-clause-answers : goal.returns-then-not-are_rows-clause-answers
returns-then-not-are_rows-clause-answers c = row-unknown c.args.builder.now c.args.first.0 c.args.first.1 c.args.second.0 c.args.second.1
    c.requires (sym c.are_rows.ensures ∙ c.if-not-are_rows.true)

pub returns-in_err-declare_rhs-clause-answers : goal.returns-in_err-declare_rhs-clause-answers
returns-in_err-declare_rhs-clause-answers c = let fault_is =
    first-refused c.args.builder.now c.args.first.0 c.args.first.1 c.args.second.0
    c.args.second.1 c.in_err-declare_rhs.field-0.0 c.requires (sym c.are_rows.ensures ∙ c.if-not-are_rows.false)
    c.in_err-declare_rhs.ensures.answers in
    search rules

pub declare_rhs-requires-2 : goal.declare_rhs-requires-2
declare_rhs-requires-2 c =
    let all = c.args.builder.now in
    let there = first_so (has_row all c.args.first.0) (has_row all c.args.second.0) (sym c.are_rows.ensures ∙ c.if-not-are_rows.false) in
    subst HasMpsSides (sym c.in_ok-declare_rhs.ensures.answers.1) (sides-after all c.args.first.0 c.args.first.1 c.requires there)
