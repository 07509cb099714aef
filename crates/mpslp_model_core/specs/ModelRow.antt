-- The limits of a row, and the type and bounds of a column, as a model stores them.
use Rattle.mpslp_types.specs.Limit.{zero_limit}
use Rattle.mpslp_types.specs.declared.kinds.Limit.TheVariants as limits
use Rattle.mpslp_model_core.specs.Model.{Row, Column}
use Rattle.mpslp_model_core.specs.declared.model_row.StoredRow.{StoredRow}
use Rattle.mpslp_model_core.specs.declared.model_row.StoredRow.TheVariants as rows
use Rattle.mpslp_model_core.specs.declared.model_row.StoredBounds.{StoredBounds}
use Rattle.mpslp_model_core.specs.declared.model_row.StoredBounds.TheVariants as bounds

abbrev pub row_of_stored : StoredRow → Row
row_of_stored rows.Free = record { lower = limits.MinusInf; upper = limits.PlusInf }
row_of_stored (rows.AtMost value) = record { lower = limits.MinusInf; upper = limits.Finite value }
row_of_stored (rows.AtLeast value) = record { lower = limits.Finite value; upper = limits.PlusInf }
row_of_stored (rows.Equal value) = record { lower = limits.Finite value; upper = limits.Finite value }
row_of_stored (rows.Other row) = row.value

abbrev pub column_of_stored : StoredBounds → Column
column_of_stored (bounds.NonNegative kind) = record { kind = kind; lower = zero_limit; upper = limits.PlusInf }
column_of_stored (bounds.UpTo kind value) = record { kind = kind; lower = zero_limit; upper = limits.Finite value }
column_of_stored (bounds.Other column) = column.value
