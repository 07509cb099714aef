use Rattle.std.proofs.Common.{◌≡◌, sym, ap, ◌∙◌, true, length, List, ℕ, [], ◌∷◌, ◌++◌}
use Rattle.std.specs.{Prelude.{is_some, slice_get, ◌-◌}, List.list_any, Option.option_map_or, Ordering.is_gt, FinMap.{is_sorted}}
use Rattle.mpslp_decimal.specs.Decimal.{Number}
use Rattle.mpslp_types.specs.Name.{same_bytes, bytes_cmp}
use Rattle.mpslp_builder.proofs.LineLemmas.{above_absent, above_sorted, any-found, any-both, any-none, any-more}
use Rattle.mpslp_builder.proofs.row_terms.RowTerms.add.Goals as goal

above : (c : goal.In_ok-push) → option_map_or (λ last. is_gt (bytes_cmp c.args.column.now last.0))
    (slice_get c.self.inside.first.items (length c.self.inside.first.items - 1)) true ≡ true
above c = ap (λ (terms : List (List ℕ × Number)). option_map_or (λ last. is_gt (bytes_cmp c.args.column.now last.0))
    (slice_get terms (length terms - 1)) true) (sym c.as_slice.ensures.value) ∙ c.continues_order.ensures.above
    c.if-continues_order.true

sorted : (c : goal.In_ok-push) → is_sorted bytes_cmp c.self.inside.first.items ≡ true
sorted c = c.self.invariant (c.continues_order.ensures.order c.if-continues_order.true)

pub invariant_of-self-then-continues_order : goal.invariant_of-self-then-continues_order
invariant_of-self-then-continues_order c _ = let first = c.self.inside.first.items in
    ap (is_sorted bytes_cmp) c.in_ok-push.ensures.items
    ∙ ap (λ (name : List ℕ). is_sorted bytes_cmp (first ++ (name, c.args.value) ∷ [])) c.in_ok-name.ensures.copied
    ∙ above_sorted c.args.column.now c.args.value first (sorted c) (above c)

pub returns-then-continues_order-clause-new : goal.returns-then-continues_order-clause-new
returns-then-continues_order-clause-new c =
    let column = c.args.column.now in
    let first = c.self.inside.first.items in
    ap (λ (terms : List (List ℕ × Number)). list_any (λ term. same_bytes column term.0) terms) (sym c.self.view_is)
    ∙ any-both column first c.self.inside.others.entries _
    (any-found column first ∙ ap is_some (above_absent column first (sorted c) (above c)))
    (any-none column c.self.inside.others.entries (c.is_empty.ensures.0 c.if-is_empty.true))

pub returns-clause-new : goal.returns-clause-new
returns-clause-new c = let column = c.args.column.now in
    let absent = ap (λ (terms : List (List ℕ × Number)). list_any (λ term. same_bytes column term.0) terms)
    (sym c.as_slice-2.ensures.value) ∙ sym c.is_among.ensures ∙ c.if-is_among.false in
    any-more column c.in_ok-name.name c.self.inside.first.items c.self.inside.others.entries
    c.args.self.now c.add_other.result c.self.view_is c.in_ok-name.ensures.copied absent c.add_other.ensures.new
