use Rattle.std.proofs.Common.{◌≡◌, sym, ap, subst, ◌∙◌, ◌-◌, ℕ, List, length, drop, rules, arith}
use Rattle.std.specs.{List.Sorted.IsSortedByKey, Ordering.nat_cmp, Prelude.slice_range}
use Rattle.std.proofs.lemmas.{List.{length-take-le, length-drop}, List.Sorted.answers_always}
use Rattle.mpslp_decimal.specs.Decimal.{Number}
use Rattle.mpslp_builder_parts.proofs.RunLemmas.{put_back, after_put, middle_put}
use Rattle.mpslp_builder_parts.proofs.moving.in_order_between.Goals as goal

counted : (c : goal.After-cells-2-1) → c.args.cells.len ≡ length c.args.cells.items
counted c =
    let len = c.deref_mut.ensures.len in
    let same = ap length c.deref_mut.ensures.value in omega (arith, len, same)

as_many : (c : goal.After-cells-2-1) → length c.sort_unstable_by_key.new.self ≡ c.args.end - c.args.start
as_many c =
    let left = length-drop c.args.start c.deref_mut.result.now in
    let same = ap length c.deref_mut.ensures.value in
    c.sort_unstable_by_key.ensures.len
    ∙ length-take-le (c.args.end - c.args.start) (drop c.args.start c.deref_mut.result.now)
    (omega (arith, left, same, c.requires.0, c.requires.1))

pub returns-clause-after : goal.returns-clause-after
returns-clause-after c =
    let items = c.args.cells.items in
    let sorted = c.sort_unstable_by_key.new.self in
    ap (drop c.args.end) (put_back c.deref_mut.result.now items sorted c.args.start c.args.end c.args.cells.len
    c.deref_mut.ensures.value (counted c) c.requires.0 (omega (arith, c.requires.1, counted c)) (as_many c))
    ∙ after_put c.deref_mut.result.now items sorted c.args.start c.args.end c.args.cells.len c.deref_mut.ensures.value (counted c)
    c.requires.0 (omega (arith, c.requires.1, counted c)) (as_many c)

pub returns-clause-sorted : goal.returns-clause-sorted
returns-clause-sorted c =
    let items = c.args.cells.items in
    let sorted = c.sort_unstable_by_key.new.self in
    subst (IsSortedByKey (λ (cell : ℕ × Number). cell.0) nat_cmp)
    (sym (ap (λ (es : List (ℕ × Number)). slice_range es c.args.start c.args.end)
    (put_back c.deref_mut.result.now items sorted c.args.start c.args.end c.args.cells.len c.deref_mut.ensures.value
    (counted c) c.requires.0 (omega (arith, c.requires.1, counted c)) (as_many c))
    ∙ middle_put c.deref_mut.result.now items sorted c.args.start c.args.end c.args.cells.len
    c.deref_mut.ensures.value (counted c) c.requires.0 (omega (arith, c.requires.1, counted c)) (as_many c)))
    (c.sort_unstable_by_key.ensures.sorted (λ (cell : ℕ × Number). cell.0) (answers_always _ _ _ (λ f a r g h. search rules)))
