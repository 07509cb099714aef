use Rattle.std.proofs.Common.{arith}
use Rattle.mpslp_lp_grammar.proofs.Prelude.{◌≡◌, sym, ap, ◌∙◌, ℕ, List, [], ◌∷◌, ◌++◌, flat_map, by_limits, declare_row, with_declarations}
use Rattle.mpslp_lp_grammar.proofs.Prelude.{refusals_in_turn, refusals_in_turn-append, PartialRow, term_declared}
use Rattle.mpslp_lp_grammar.{proofs.DeclaresLemmas.{refused-here, reported-by}, specs.declared.states.PartialParts.{PartialParts}}
use Rattle.mpslp_lp_grammar.proofs.lp_builder.LpBuilder.declare_partial.Goals as goal

pub returns-in_err-declare_row : goal.returns-in_err-declare_row
returns-in_err-declare_row c =
    let earlier = c.args.self.now in
    let later = c.declare_row.new.self in
    let form = by_limits c.args.lower c.args.upper in
    let row = c.args.row.now in
    let terms = flat_map (term_declared row.name) row.terms in
    let named : c.in_ok-name.name ≡ row.name =
    c.in_ok-name.ensures ∙ c.as_bytes.ensures ∙ ap (λ (p : PartialParts). p.name) c.deref-parts.ensures
    ∙ ap (λ (r : PartialRow). r.name) c.row.view_is in
    let all = declare_row row.name form ∷ terms in
    let first = refusals_in_turn earlier (declare_row c.in_ok-name.name form ∷ []) in
    let after = refusals_in_turn (with_declarations earlier (declare_row c.in_ok-name.name form ∷ [])) terms in
    let split : refusals_in_turn earlier all ≡ first ++ after =
    ap (λ (name : List ℕ). refusals_in_turn earlier (declare_row name form ∷ terms)) (sym named)
    ∙ refusals_in_turn-append (declare_row c.in_ok-name.name form ∷ []) terms earlier in
    reported-by (refusals_in_turn earlier all) earlier later all c.from_residual-in_err-declare_row.result
    c.in_err-declare_row.field-0.0 c.from_residual-in_err-declare_row.ensures.1
    (refused-here first after (refusals_in_turn earlier all) earlier later earlier later
    (declare_row c.in_ok-name.name form ∷ []) all c.in_err-declare_row.field-0.0 split c.in_err-declare_row.ensures)

pub returns : goal.returns
returns = grind arith
