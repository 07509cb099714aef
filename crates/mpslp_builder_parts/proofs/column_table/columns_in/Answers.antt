use Rattle.std.proofs.Common.{[], ap, length, map, subst, sym, drop, slice_index, ◌++◌, ◌<◌, ◌∙◌, ◌∷◌, ◌≡◌, ◌+◌, ℕ, List, arith, rules}
use Rattle.std.specs.List.{All}
use Rattle.std.proofs.lemmas.List.{length-map, get_or_read, get_or-drop, drop-drop}
use Rattle.mpslp_decimal.specs.Decimal.{Number}
use Rattle.mpslp_model_core.specs.{ModelColumns.{IsWithin, span_bounds, span_cells}, Numbered.each_part}
use Rattle.mpslp_builder_parts.specs.{Grouping.{AreGrouped, HasGroup}, Parts.{bounds_of, cells_of, moved_in}}
use Rattle.mpslp_builder_parts.specs.StoredColumns.{IsWhole, parts_of}
use Rattle.mpslp_builder_parts.proofs.PassLemmas.{each_part-append, holds_first, holds_later, passed_on}
use Rattle.mpslp_builder_parts.proofs.GroupLemmas.{place_within, place_apart}
use Rattle.mpslp_builder_parts.proofs.RunLemmas.{group_moved, spans-short, drop-later, all_covered, are_grouped, within-next}
use Rattle.mpslp_builder_parts.proofs.TableLemmas.{all_logged}
use Rattle.mpslp_builder_parts.proofs.column_table.columns_in.Goals as goal

pub at_places-requires-clause-within : goal.at_places-requires-clause-within
at_places-requires-clause-within c i below =
    let placed = c.in_ok-places.ensures in
    let len = placed.len in
    let at = placed.each i (omega (arith, below, len)) in
    let inside = place_within placed.numbers i (omega (arith, below, len)) in
    omega (arith, at, inside, len)

pub at_places-requires-clause-apart : goal.at_places-requires-clause-apart
at_places-requires-clause-apart c i j before below same =
    let placed = c.in_ok-places.ensures in
    let len = placed.len in
    place_apart placed.numbers i j (omega (arith, before, below, len)) (omega (arith, below, len)) before
    (sym (placed.each i (omega (arith, before, below, len))) ∙ same ∙ placed.each j (omega (arith, below, len)))

pub renumbered-cells-requires : goal.renumbered-cells-requires
renumbered-cells-requires c =
    let parts = c.into_parts-cells.ensures in
    all_covered (λ cell. cell.0 < length c.args.ranks.now) c.args.log c.at_places.result.items c.args.columns.entries 0
    c.in_ok-places.ends.items (are_grouped c.args.log c.requires.log c.args.columns.entries _
    c.at_places.result.items _ c.in_ok-places.places.items c.in_ok-places.ends.items parts.cells parts.links
    c.in_ok-places.ensures c.at_places.ensures.len c.at_places.ensures.moved) c.requires.known c.requires.within

pub loop-name-init : goal.loop-name-init
loop-name-init c =
    let log = c.args.log in
    let same : c.into_iter-name-iterator.result ≡ c.args.columns.entries =
    search (rules, c.into_iter-name-iterator.ensures.into_iter_gives) in
    let none = c.in_ok-made.ensures.items in
    let f : ℕ × Number → ℕ × Number = λ cell. (slice_index c.args.ranks.now cell.0, cell.1) in
    let parts = c.into_parts-cells.ensures in
    let grouped = c.at_places.result.items in
    let long = ap length same in
    let ends = c.in_ok-places.ensures.ends_len in
    record {
      bounds = λ i. each_part span_bounds (none i) ++ each_part bounds_of (each_part (parts_of log) (same i));
      cells = λ i. each_part (span_cells c.renumbered-cells.result.items) (none i) ++ each_part
          (moved_in c.args.ranks.now) (each_part (parts_of log) (same i));
      places = subst (All (λ column. IsWithin 0 column.1)) (sym none) (λ k d below. absurd (omega (arith, below)));
      partly = record {
        all = grouped;
        len = ap length c.renumbered-cells.ensures ∙ length-map grouped f;
        rest = c.renumbered-cells.ensures;
        groups = subst (AreGrouped log grouped 0 c.in_ok-places.ends.items) (sym same)
            (are_grouped log c.requires.log c.args.columns.entries _ grouped _ c.in_ok-places.places.items
            c.in_ok-places.ends.items parts.cells parts.links c.in_ok-places.ensures c.at_places.ensures.len
            c.at_places.ensures.moved);
        room = omega arith;
        whole = omega (arith, long, ends);
      };
      known = subst (All (λ column. IsWhole log column.1)) (sym same) c.requires.known;
      within = subst (λ es. All (λ column. All (λ cell. cell.0 < length c.args.ranks.now) (cells_of column.1))
          (each_part (parts_of log) es)) (sym same) c.requires.within;
    }

pub loop-name-preserved : goal.loop-name-preserved
loop-name-preserved c =
    let log = c.args.log in
    let made = c.loop-name.made.items in
    let cells = c.loop-name.cells.items in
    let grouped = c.nonzero_first-grouped.result.0.items in
    let after = c.in_order_between-cells.result.items in
    let nonzero = c.nonzero_first-grouped.ensures in
    let sorted = c.in_order_between-cells.ensures in
    let start = c.loop-name.start in
    let number = c.loop-name.number in
    let ends = c.in_ok-places.ends.items in
    let end = c.index-end.result.now in
    let kept = c.nonzero_first-grouped.result.1 in
    let column = c.in-Some.column in
    let left = each_part (parts_of log) c.next.new.self in
    let before = c.loop-name.invariant in
    let partly = before.partly in
    let ranks = c.args.ranks.now in
    let all = each_part (parts_of log) c.args.columns.entries in
    let parts = parts_of log column in
    let steps = ap (each_part (parts_of log)) c.in-Some.ensures.steps in
    let span = c.in_ok-span.span in
    let places = c.in_ok-span.ensures in
    let moved = moved_in ranks parts in
    let few = λ (cell : ℕ × Number). cell.0 < length ranks in
    let first = subst (AreGrouped log partly.all start (drop number ends)) c.in-Some.ensures.steps partly.groups in
    let long = ap length c.in-Some.ensures.steps in
    let as_many = partly.whole in
    let last : number + 0 ≡ number = omega arith in
    let end_is : slice_index (drop number ends) 0 ≡ end = get_or-drop number ends 0 0 ∙ ap (slice_index ends) last
    ∙ sym (get_or_read ends number end (omega (arith, long, as_many)) c.index-end.ensures 0) in
    let group = subst (λ n. HasGroup log partly.all start n column.last) end_is first.0 in
    let order = group.order in
    let whole = holds_first (λ column. IsWhole log column.1) c.loop-name.name-iterator c.next.new.self (c.in-Some.name, column)
    c.in-Some.ensures.steps before.known in
    let own = group_moved log ranks c.requires.apart partly.all start end column.last kept group whole.once
    (all_logged few log column whole
    (holds_first (λ column. All few (cells_of column.1)) (each_part (parts_of log) c.loop-name.name-iterator) left
    (c.in-Some.name, parts) steps before.within)) cells grouped after partly.rest nonzero.kept sorted.permutation sorted.sorted in
    let here : span_cells after span ≡ moved =
    (λ i. span_cells after (record span { start = places.start i; end = places.end i })) ∙ own in
    record {
      bounds = passed_on (each_part span_bounds made) (each_part span_bounds c.push.new.self.items) (each_part bounds_of left)
          (each_part bounds_of all) (c.in-Some.name, bounds_of parts)
          (ap (each_part span_bounds) c.in_ok-push.ensures.items ∙ each_part-append span_bounds made c.in-Some.name span
          ∙ (λ i. each_part span_bounds made ++ (c.in-Some.name, places.bounds i) ∷ []))
          (ap (λ columns. each_part span_bounds made ++ each_part bounds_of columns) (sym steps) ∙ before.bounds);
      cells = passed_on (each_part (span_cells cells) made) (each_part (span_cells after) c.push.new.self.items)
          (each_part (moved_in ranks) left) (each_part (moved_in ranks) all) (c.in-Some.name, moved)
          (ap (each_part (span_cells after)) c.in_ok-push.ensures.items ∙ each_part-append (span_cells after) made
          c.in-Some.name span ∙ (λ i. spans-short after cells start (sorted.before ∙ nonzero.before) made
          before.places i ++ (c.in-Some.name, here i) ∷ []))
          (ap (λ columns. each_part (span_cells cells) made ++ each_part (moved_in ranks) columns)
          (sym steps) ∙ before.cells);
      places = within-next start kept end made c.push.new.self.items (c.in-Some.name, span) nonzero.within.0 nonzero.within.1
          c.in_ok-push.ensures.items places.start places.end before.places;
      partly = record {
        all = partly.all;
        len = sorted.len ∙ nonzero.len ∙ partly.len;
        rest = drop-later after grouped kept end sorted.after nonzero.within.1 ∙ nonzero.after
            ∙ drop-later cells (map (λ (cell : ℕ × Number). (slice_index ranks cell.0, cell.1)) partly.all) start end
            partly.rest order;
        groups = subst (λ (s : ℕ × List ℕ). AreGrouped log partly.all s.0 s.1 c.next.new.self)
            (λ i. (end_is i, drop-drop 1 number ends i)) first.1;
        room = group.room;
        whole = omega (arith, long, as_many);
      };
      known = holds_later (λ column. IsWhole log column.1) c.loop-name.name-iterator c.next.new.self (c.in-Some.name, column)
          c.in-Some.ensures.steps before.known;
      within = holds_later (λ column. All few (cells_of column.1)) (each_part (parts_of log) c.loop-name.name-iterator)
          left (c.in-Some.name, parts) steps before.within;
    }
