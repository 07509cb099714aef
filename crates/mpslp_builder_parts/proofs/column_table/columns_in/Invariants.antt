use Rattle.std.{proofs.Common.{length, ◌++◌, ◌<◌, ◌≡◌}, specs.List.All}
use Rattle.mpslp_model_core.specs.{ModelColumns.{IsWithin, span_bounds, span_cells}, Numbered.each_part}
use Rattle.mpslp_builder_parts.specs.{Parts.{bounds_of, cells_of, moved_in}, StoredColumns.{IsWhole, parts_of}}
use Rattle.mpslp_builder_parts.proofs.RunLemmas.{IsPartly}
use Rattle.mpslp_builder_parts.proofs.column_table.columns_in.Given as goal

abbrev pub invariant-loop-name : goal.invariant-loop-name
invariant-loop-name l = record {
  bounds : each_part span_bounds l.made.items ++ each_part bounds_of (each_part (parts_of l.fn.log) l.name-iterator)
      ≡ each_part bounds_of (each_part (parts_of l.fn.log) l.fn.columns.entries);
  cells : each_part (span_cells l.cells.items) l.made.items ++ each_part (moved_in l.ranks)
      (each_part (parts_of l.fn.log) l.name-iterator) ≡ each_part (moved_in l.ranks)
      (each_part (parts_of l.fn.log) l.fn.columns.entries);
  places : All (λ column. IsWithin l.start column.1) l.made.items;
  partly : IsPartly l.fn.log l.ranks l.number l.start l.ends.items l.cells.items l.name-iterator;
  known : All (λ column. IsWhole l.fn.log column.1) l.name-iterator;
  within : All (λ column. All (λ cell. cell.0 < length l.ranks) (cells_of column.1))
      (each_part (parts_of l.fn.log) l.name-iterator);
}
