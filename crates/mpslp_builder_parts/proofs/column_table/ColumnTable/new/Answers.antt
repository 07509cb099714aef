use Rattle.std.proofs.Common.{sym, subst}
use Rattle.mpslp_builder_parts.specs.StoredColumns.{IsKnown}
use Rattle.mpslp_builder_parts.proofs.TableLemmas.{known_none}
use Rattle.mpslp_builder_parts.proofs.column_table.ColumnTable.new.Goals as goal

pub invariant_of-result : goal.invariant_of-result
invariant_of-result c = subst (λ es. IsKnown es c.new.result c.new-2.result) (sym c.with_hasher.ensures.empty)
    (known_none c.new.result c.new-2.result c.new.ensures c.new-2.ensures.stamps c.new-2.ensures.open_row
    c.new-2.ensures.open_column c.new-2.ensures.pairs)
