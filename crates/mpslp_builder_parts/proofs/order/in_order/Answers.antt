use Rattle.std.proofs.{Common.{List, ap, arith, get_or, length, subst, sym, ℕ, ◌<◌, ◌∙◌, ◌≡◌}, lemmas.List.{get_or_read, Edits.length-swap}}
use Rattle.std.specs.List.{range_with_len}
use Rattle.mpslp_builder_parts.proofs.OrderLemmas.{AreMoved, all_moved, next_below, next_moved, next_numbered, none_moved}
use Rattle.mpslp_builder_parts.proofs.order.in_order.Goals as goal

pub loop-place-init : goal.loop-place-init
loop-place-init g c =
    let all = c.args.items.items in
    let order = c.args.order.now in
    let count : c.len.result ≡ length all = omega (arith, c.len.ensures) in
    let count_again : c.len-2.result ≡ length all = omega (arith, c.len-2.ensures) in
    let numbers : c.in_ok-numbers.numbers.items ≡ range_with_len 0 (length all) =
    c.in_ok-numbers.ensures ∙ ap (range_with_len 0) count in
    let places : c.in_ok-places.places.items ≡ range_with_len 0 (length all) =
    c.in_ok-places.ensures ∙ ap (range_with_len 0) count_again in
    subst (λ (ns : List ℕ). AreMoved all order 0 all ns c.in_ok-places.places.items) (sym numbers)
    (subst (λ (ps : List ℕ). AreMoved all order 0 all (range_with_len 0 (length all)) ps) (sym places) (none_moved all order))

pub index_mut-requires-in-loop-place : goal.index_mut-requires-in-loop-place
index_mut-requires-in-loop-place g c =
    let all = c.args.items.items in
    let order = c.args.order.now in
    let place = c.loop-place.place in
    let numbers = c.loop-place.numbers.items in
    let places = c.loop-place.places.items in
    let before = c.loop-place.invariant in
    let below : place < length all = next_below all order c.requires.within c.requires.apart place c.loop-place-test.true
    c.loop-place.items.items numbers places before in
    let number = next_numbered all order c.requires.within c.requires.apart place c.loop-place-test.true
    c.loop-place.items.items numbers places before in
    let moved_is : c.index-moved.result.now ≡ get_or numbers place 0 =
    get_or_read numbers place c.index-moved.result.now (omega (arith, below, before.numbers_len)) c.index-moved.ensures 0 in
    omega (arith, moved_is, number.below, before.places_len)

pub loop-place-preserved : goal.loop-place-preserved
loop-place-preserved g c =
    let all = c.args.items.items in
    let order = c.args.order.now in
    let place = c.loop-place.place in
    let numbers = c.loop-place.numbers.items in
    let places = c.loop-place.places.items in
    let before = c.loop-place.invariant in
    let below : place < length all = next_below all order c.requires.within c.requires.apart place c.loop-place-test.true
    c.loop-place.items.items numbers places before in
    let number_in : get_or order place 0 < length places =
    (let within = c.requires.within place c.loop-place-test.true in omega (arith, within, before.places_len)) in
    let from_is : c.index-from.result.now ≡ get_or places (get_or order place 0) 0 =
    get_or_read places (get_or order place 0) c.index-from.result.now number_in c.index-from.ensures 0 in
    let moved_is : c.index-moved.result.now ≡ get_or numbers place 0 =
    get_or_read numbers place c.index-moved.result.now (omega (arith, below, before.numbers_len)) c.index-moved.ensures 0 in
    let new_len : length c.swap.new.self.items ≡ length c.loop-place.items.items = ap length c.swap.ensures.items
    ∙ length-swap c.loop-place.items.items place c.index-from.result.now in
    next_moved all order c.requires.within c.requires.apart place c.loop-place-test.true c.loop-place.items.items
    numbers places before c.index-from.result.now c.index-moved.result.now c.swap.new.self.items
    from_is moved_is c.swap.ensures.by_index new_len

pub returns : goal.returns
returns g c =
    let all = c.args.items.items in
    let order = c.args.order.now in
    let items = c.loop-place.items.items in
    let numbers = c.loop-place.numbers.items in
    let places = c.loop-place.places.items in
    let is_end : c.loop-place.place ≡ length order = omega (arith, c.loop-place-test.false, c.loop-place.auto.place-end) in
    c.truncate.ensures.items ∙ all_moved all order items numbers places c.requires.within
    (subst (λ (done : ℕ). AreMoved all order done items numbers places) is_end c.loop-place.invariant)
