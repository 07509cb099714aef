use Rattle.mpslp_model_core.specs.{ModelColumns.{IsWithin, columns_of, span_bounds, span_cells}, ModelParts.{bounds_in, cells_in}}
use Rattle.mpslp_model_core.proofs.ColumnLemmas.{bounds-columns_of, cells-columns_of}
use Rattle.mpslp_builder_parts.specs.Parts.{limits_in, bounds_of}
use Rattle.mpslp_builder_parts.proofs.{OrderLemmas.if_ok, RankLemmas.{AreRanks, ranks_length, ranks_apart}}
use Rattle.mpslp_builder_parts.proofs.TakenLemmas.{taken-alike, taken-all}
use Rattle.mpslp_builder.proofs.Prelude.{◌≡◌, sym, ap, subst, ◌∙◌, ℕ, ◌<◌, List, length, ◌≢◌, slice_index, each_part}
use Rattle.mpslp_builder.proofs.Prelude.{entries_at, itself, All}
use Rattle.mpslp_builder.proofs.Prelude.{moved_in, DraftMeans, no_part, cells_of, draft}
use Rattle.mpslp_builder.proofs.{FinishLemmas.{AreFinished, AreMeantParts}, TableDrafts.once_too}
use Rattle.mpslp_builder.proofs.FinishLemmas.{meant_parts, meant_draft, finished_parts, finished_cells, AreOrdered, cells_within}
use Rattle.mpslp_builder.proofs.FinishLemmas.{constant_is, ordered_alike, each_whole, few_of, within_of, apart_of, named_there}
use Rattle.mpslp_builder.proofs.builder.finish.into_model.Goals.{After-deref, After-deref-2, After-parts_of}
use Rattle.mpslp_builder.proofs.builder.finish.into_model.Goals as goal

-- the rows in the order of their names
in_rows : (c : After-deref) → AreOrdered c.args.tables.rows.entries c.in_ok-row_order.row_order.items
    (entries_at c.args.tables.rows.entries c.in_ok-row_order.row_order.items)
in_rows c = ordered_alike itself limits_in c.in_ok-rows_in.field-0.items _ _ (each_whole c.in_ok-rows_in.field-0.items
    ∙ c.in_ok-rows_in.ensures) c.in_ok-row_order.ensures.permutation c.in_ok-row_order.ensures.sorted

ranked : (c : After-deref-2) → AreRanks c.in_ok-row_order.row_order.items c.in_ok-ranks.ranks.items
ranked c = subst (λ (order : List ℕ). AreRanks order c.in_ok-ranks.ranks.items) c.deref.ensures.value
    (record {
      objective = c.in_ok-ranks.ensures.objective;
      places = c.in_ok-ranks.ensures.ranks;
      len =
          c.in_ok-ranks.ensures.len;
    })

finished : (c : After-parts_of) → AreOrdered c.args.tables.rows.entries c.in_ok-row_order.row_order.items
    (entries_at c.args.tables.rows.entries c.in_ok-row_order.row_order.items)
    → AreRanks c.in_ok-row_order.row_order.items c.in_ok-ranks.ranks.items
    → AreFinished c.args.tables.objective c.args.tables.rows.entries c.args.tables.columns.entries c.parts_of.result
finished c ordered ranks =
    let order = c.in_ok-row_order.row_order.items in
    let columns = c.args.tables.columns.entries in
    let column_order = c.in_ok-column_order.column_order.items in
    let made_rows = c.in_ok-rows_in.field-0.items in
    let made = c.in_ok-spans.spans.items in
    let cells = c.in_ok-spans.cells.items in
    let named = c.parts_of.ensures.columns ∙ c.of-columns.ensures
    ∙ ap (λ es. columns_of es cells) c.in_ok-column_order.ensures.taken in
    let ordered_spans = entries_at made column_order in
    let in_columns : AreOrdered columns column_order (entries_at columns column_order) =
    ordered_alike span_bounds bounds_of made columns column_order c.in_ok-spans.ensures.bounds
    c.in_ok-column_order.ensures.permutation c.in_ok-column_order.ensures.sorted in
    record {
      row_order = order;
      column_order = column_order;
      ranks = c.in_ok-ranks.ranks.items;
      rows_permuted = ordered.permuted;
      rows_sorted = ordered.sorted;
      columns_permuted = in_columns.permuted;
      columns_sorted = in_columns.sorted;
      ranked = ranks;
      objective_is = c.parts_of.ensures.objective;
      rows_are = (c.parts_of.ensures.rows ∙ c.in_ok-row_order.ensures.taken) ∙ sym (each_whole (entries_at made_rows order))
          ∙ taken-alike itself limits_in made_rows c.args.tables.rows.entries
          (each_whole made_rows ∙ c.in_ok-rows_in.ensures) order;
      bounds_are = ap (each_part bounds_in) named ∙ bounds-columns_of ordered_spans cells
          ∙ taken-alike span_bounds bounds_of made columns c.in_ok-spans.ensures.bounds column_order;
      cells_are = ap (each_part cells_in) named ∙ cells-columns_of ordered_spans cells
          ∙ taken-alike (span_cells cells) (moved_in c.deref-2.result.now) made columns c.in_ok-spans.ensures.cells column_order
          ∙ (λ i. each_part (moved_in (c.deref-2.ensures.value i)) (entries_at columns column_order));
    }

meant : (c : After-parts_of) → AreFinished c.args.tables.objective c.args.tables.rows.entries c.args.tables.columns.entries
    c.parts_of.result → AreMeantParts (draft c.args.sense c.args.constant c.args.tables) c.parts_of.result
meant c done =
    let rows = c.args.tables.rows.entries in
    let columns = c.args.tables.columns.entries in
    let objective = c.args.tables.objective in
    finished_parts objective rows columns c.parts_of.result done c.args.sense c.args.constant c.requires.numbered
    c.each_name_occurs_once.ensures.rows (once_too cells_of no_part columns c.each_name_occurs_once.ensures.columns)
    c.parts_of.ensures.sense (c.parts_of.ensures.constant ∙ constant_is c.args.sense c.args.constant objective rows columns
    c.requires.objective c.requires.numbered.apart)

pub ranks_of-requires-clause-few : goal.ranks_of-requires-clause-few
ranks_of-requires-clause-few c = subst (λ (order : List ℕ). length order < 4294967295) (sym c.deref.ensures.value)
    (few_of _ _ _ (in_rows (goal.at.ranks_of-requires-clause-few c).After-deref) c.requires.numbered.few)

pub ranks_of-requires-clause-within : goal.ranks_of-requires-clause-within
ranks_of-requires-clause-within c = subst (λ (order : List ℕ). (p : ℕ) → p < length order → slice_index order p < length order)
    (sym c.deref.ensures.value) (within_of _ _ _ (in_rows (goal.at.ranks_of-requires-clause-within c).After-deref))

pub ranks_of-requires-clause-apart : goal.ranks_of-requires-clause-apart
ranks_of-requires-clause-apart c = subst (λ (order : List ℕ). (p q : ℕ) → p < q → q < length order →
    slice_index order p ≢ slice_index order q) (sym c.deref.ensures.value)
    (apart_of _ _ _ (in_rows (goal.at.ranks_of-requires-clause-apart c).After-deref))

pub into_columns-requires-clause-within : goal.into_columns-requires-clause-within
into_columns-requires-clause-within c = let at = goal.at.into_columns-requires-clause-within c in
    let rows = c.args.tables.rows.entries in
    cells_within c.args.tables.objective rows c.args.tables.columns.entries (length c.deref-2.result.now) c.requires.numbered
    (ap length c.deref-2.ensures.value ∙ ranks_length (length rows) _ c.in_ok-ranks.ranks.items (in_rows at.After-deref).permuted
    (ranked at.After-deref-2))

pub into_columns-requires-clause-apart : goal.into_columns-requires-clause-apart
into_columns-requires-clause-apart c = let at = goal.at.into_columns-requires-clause-apart c in
    subst (λ (ranks : List ℕ). (n m : ℕ) → n < length ranks → m < length ranks →
    slice_index ranks n ≡ slice_index ranks m →
    n ≡ m) (sym c.deref-2.ensures.value) (ranks_apart (length c.args.tables.rows.entries) _ c.in_ok-ranks.ranks.items
    (in_rows at.After-deref).permuted (ranked at.After-deref-2))

pub of-columns-requires : goal.of-columns-requires
of-columns-requires c = subst (All (λ column. IsWithin (length c.in_ok-spans.cells.items) column.1))
    (sym c.in_ok-column_order.ensures.taken) (taken-all (λ column. IsWithin (length c.in_ok-spans.cells.items) column.1)
    c.in_ok-spans.spans.items c.in_ok-column_order.column_order.items c.in_ok-spans.ensures.places)

pub of_parts-requires : goal.of_parts-requires
of_parts-requires c = let at = goal.at.of_parts-requires c in
    let done = finished at.After-parts_of (in_rows at.After-deref) (ranked at.After-deref-2) in
    let objective = c.args.tables.objective in
    meant_parts (draft c.args.sense c.args.constant c.args.tables) c.parts_of.result c.requires.made (named_there objective
    c.requires.objective) c.requires.fault (meant at.After-parts_of done)
    (finished_cells objective c.args.tables.rows.entries c.args.tables.columns.entries c.parts_of.result done c.requires.numbered)

pub returns : goal.returns
returns c = let at = goal.at.returns c in
    let done = finished at.After-parts_of (in_rows at.After-deref) (ranked at.After-deref-2) in
    if_ok c.of_parts.result (λ model is. subst (DraftMeans (draft c.args.sense c.args.constant c.args.tables)) (sym is)
    (meant_draft (draft c.args.sense c.args.constant c.args.tables) c.parts_of.result c.requires.made
    (named_there c.args.tables.objective c.requires.objective) c.requires.fault (meant at.After-parts_of done)))
    c.of_parts.ensures
