use Rattle.mpslp_lp_grammar.proofs.Prelude.{[], ◌∷◌, subst, ◌≡◌, ◌+◌, ◌-◌, length, arith, Draft, by_limits, declare_row, with_declaration}
use Rattle.mpslp_lp_grammar.proofs.{Prelude.{refusals, Declares}, DeclaresLemmas.{refused-declares, refused-rows, row-added, declared-by}}
use Rattle.mpslp_lp_grammar.proofs.lp_builder.LpBuilder.declare_row.Goals as goal

pub invariant_of-self : goal.invariant_of-self
invariant_of-self = grind (arith, refused-rows)

pub returns-in_err-row_limits : goal.returns-in_err-row_limits
returns-in_err-row_limits c =
    let earlier = c.self.inside.builder.draft in
    let later = c.row_limits.new.self in
    let d = declare_row c.args.name (by_limits c.args.lower c.args.upper) in
    subst (λ (all : Draft). Declares all (d ∷ []) c.from_residual.result later) c.self.view_is
    (refused-declares earlier later d c.in_err-row_limits.field-0.0 (later ≡ with_declaration earlier d) (later ≡ earlier)
    c.from_residual.result c.from_residual.ensures.1 c.in_err-row_limits.ensures)

pub invariant_of-self-2 : goal.invariant_of-self-2
invariant_of-self-2 c =
    let earlier = c.self.inside.builder.draft in
    let later = c.row_limits.new.self in
    let form = by_limits c.args.lower c.args.upper in
    let made =
    declared-by (refusals earlier (declare_row c.args.name form)) earlier later
    (with_declaration earlier (declare_row c.args.name form)) c.in_ok-row_limits.ensures in
    let more : length later.rows ≡ length earlier.rows + 1 =
    row-added earlier later c.args.name form c.each_builder_is_made.ensures made.0 made.1 in
    omega (arith, c.saturating_add-self-inside.ensures, c.self.invariant, more)
