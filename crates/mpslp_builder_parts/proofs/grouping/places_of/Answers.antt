use Rattle.std.proofs.Common.{arith, length, get_or, ◌≡◌, ◌-◌}
use Rattle.std.proofs.lemmas.List.{get_or_read}
use Rattle.mpslp_builder_parts.specs.StoredColumns.{last_of}
use Rattle.mpslp_builder_parts.proofs.PlaceLemmas.{none_done, done_few, begun, ended, index_within, some_left, next_few}
use Rattle.mpslp_builder_parts.proofs.PlaceLemmas.{link_before, stepped, all_done}
use Rattle.mpslp_builder_parts.proofs.grouping.places_of.Goals as goal

pub loop-column-init : goal.loop-column-init
loop-column-init c =
    let few = c.if-next.false in
    let len = c.len-next.ensures in
    let count = c.len-column.ensures.len in
    let long = c.in_ok-ends.ensures.len in
    none_done c.args.links.items c.args.columns.now.entries c.len-next.result c.len-column.result
    c.in_ok-ends.ends.items c.requires (omega (arith, len)) (omega (arith, few)) (omega (arith, count)) (omega (arith, long))

pub overflow_cast-next : goal.overflow_cast-next
overflow_cast-next c =
    let few = done_few c.args.links.items (last_of c.args.columns.now.entries) (length c.args.columns.now.entries)
    c.loop-column.column c.loop-column.next c.loop-column.places.items c.loop-column.ends.items
    c.loop-column.invariant in omega (arith, few)

pub index_mut-requires : goal.index_mut-requires
index_mut-requires c =
    let some = c.loop-column-test.true in
    let under = c.loop-column.invariant.under in
    let len = c.loop-column.invariant.ends_len in
    omega (arith, some, under, len)

pub loop-at-init : goal.loop-at-init
loop-at-init c =
    let some = c.loop-column-test.true in
    begun c.args.links.items (last_of c.args.columns.now.entries) (length c.args.columns.now.entries)
    (c.loop-column.column - 1) c.loop-column.next c.loop-column.places.items c.loop-column.ends.items
    c.loop-column.column c.last_of-at.result (omega (arith, some)) c.loop-column.invariant c.last_of-at.ensures

pub loop-column-preserved : goal.loop-column-preserved
loop-column-preserved c =
    let none = c.loop-at-test.false in
    ended c.args.links.items (last_of c.args.columns.now.entries) (length c.args.columns.now.entries)
    (c.loop-column.column - 1) c.loop-at.next c.loop-at.places.items _ c.loop-at.at (omega (arith, none)) c.loop-at.invariant

pub index-at-requires : goal.index-at-requires
index-at-requires c =
    let some = c.loop-at-test.true in
    let within = index_within c.args.links.items (last_of c.args.columns.now.entries)
    (length c.args.columns.now.entries) (c.loop-column.column - 1) c.loop-at.next c.loop-at.places.items _
    c.loop-at.at (c.loop-at.at - 1) c.loop-at.invariant (omega (arith, some)) in omega (arith, within)

pub overflow_sub-next : goal.overflow_sub-next
overflow_sub-next c =
    let some = c.loop-at-test.true in
    let left = some_left c.args.links.items (last_of c.args.columns.now.entries) (length c.args.columns.now.entries)
    (c.loop-column.column - 1) c.loop-at.next c.loop-at.places.items _ c.loop-at.at (c.loop-at.at - 1)
    c.loop-at.invariant (omega (arith, some)) in omega (arith, left)

pub overflow_cast-next-in-loop-at : goal.overflow_cast-next-in-loop-at
overflow_cast-next-in-loop-at c =
    let some = c.loop-at-test.true in
    let few = next_few c.args.links.items (last_of c.args.columns.now.entries) (length c.args.columns.now.entries)
    (c.loop-column.column - 1) c.loop-at.next c.loop-at.places.items _ c.loop-at.at (c.loop-at.at - 1)
    c.loop-at.invariant (omega (arith, some)) in omega (arith, few)

pub index_mut-requires-in-loop-at : goal.index_mut-requires-in-loop-at
index_mut-requires-in-loop-at c =
    let some = c.loop-at-test.true in
    let within = index_within c.args.links.items (last_of c.args.columns.now.entries)
    (length c.args.columns.now.entries) (c.loop-column.column - 1) c.loop-at.next c.loop-at.places.items _
    c.loop-at.at (c.loop-at.at - 1) c.loop-at.invariant (omega (arith, some)) in omega (arith, within)

pub loop-at-smaller : goal.loop-at-smaller
loop-at-smaller c =
    let some = c.loop-at-test.true in
    let before = link_before c.args.links.items (last_of c.args.columns.now.entries) (length c.args.columns.now.entries)
    (c.loop-column.column - 1) c.loop-at.next c.loop-at.places.items _ c.loop-at.at (c.loop-at.at - 1)
    c.loop-at.invariant (omega (arith, some)) in
    let within = index_within c.args.links.items (last_of c.args.columns.now.entries)
    (length c.args.columns.now.entries) (c.loop-column.column - 1) c.loop-at.next c.loop-at.places.items _
    c.loop-at.at (c.loop-at.at - 1) c.loop-at.invariant (omega (arith, some)) in
    let read : c.index-at.result.now ≡ get_or c.loop-at.places.items (c.loop-at.at - 1) 0 =
    get_or_read c.loop-at.places.items (c.loop-at.at - 1) c.index-at.result.now within c.index-at.ensures 0 in
    omega (arith, before, read)

pub loop-at-preserved : goal.loop-at-preserved
loop-at-preserved c =
    let some = c.loop-at-test.true in
    let left = some_left c.args.links.items (last_of c.args.columns.now.entries) (length c.args.columns.now.entries)
    (c.loop-column.column - 1) c.loop-at.next c.loop-at.places.items _ c.loop-at.at (c.loop-at.at - 1)
    c.loop-at.invariant (omega (arith, some)) in
    let within = index_within c.args.links.items (last_of c.args.columns.now.entries)
    (length c.args.columns.now.entries) (c.loop-column.column - 1) c.loop-at.next c.loop-at.places.items _
    c.loop-at.at (c.loop-at.at - 1) c.loop-at.invariant (omega (arith, some)) in
    let read : c.index-at.result.now ≡ get_or c.loop-at.places.items (c.loop-at.at - 1) 0 =
    get_or_read c.loop-at.places.items (c.loop-at.at - 1) c.index-at.result.now within c.index-at.ensures 0 in
    stepped c.args.links.items (last_of c.args.columns.now.entries) (length c.args.columns.now.entries) (c.loop-column.column - 1)
    c.loop-at.next c.loop-at.places.items _ c.loop-at.at (c.loop-at.at - 1) c.loop-at.invariant (omega (arith, some))
    c.index-at.result.now (c.loop-at.next - 1) read (omega (arith, left))

pub returns : goal.returns
returns c =
    let none = c.loop-column-test.false in
    all_done c.args.links.items (last_of c.args.columns.now.entries) (length c.args.columns.now.entries)
    c.loop-column.column c.loop-column.next c.loop-column.places.items c.loop-column.ends.items
    (omega (arith, none)) c.loop-column.invariant
