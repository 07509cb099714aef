use Rattle.std.proofs.Common.{◌≡◌, refl, ℕ, Bool, true, false}
use Rattle.std.specs.{Prelude.{Result, Ok, Err}, declared.alloc.AllocError.AllocError}
use Rattle.mpslp_decimal.specs.Decimal.{Number}
use Rattle.mpslp_builder_parts.specs.ColumnTable.{PutsIfFree as PutsIntoColumns}
use Rattle.mpslp_builder.specs.{Calls.PutsIfFree, declared.tables.Tables.Tables}
use Rattle.mpslp_builder.proofs.tables.Tables.put_if_free.Goals as goal

-- what is put into the columns is put into the tables, of which nothing else changes
into_tables : (t u : Tables) (i n : ℕ) (x : Number) (answer : Result Bool AllocError) → u.objective ≡ t.objective →
    u.rows.entries ≡ t.rows.entries → PutsIntoColumns t.columns i n x answer u.columns → PutsIfFree t i n x answer u
into_tables t u i n x (Ok true) objective rows h = (
  h.0,
  record {
    key = h.1.key;
    parts = h.1.parts;
    was = h.1.was;
    written = record { objective = objective; rows = rows; columns = h.1.written };
  },
)
into_tables t u i n x (Ok false) objective rows h = (h.0, record { objective = objective; rows = rows; columns = h.1 })
into_tables t u i n x (Err error) objective rows h = record { objective = objective; rows = rows; columns = h }

pub returns : goal.returns
returns c = into_tables c.args.self.now _ c.args.column c.args.row c.args.value c.put_if_free.result refl refl c.put_if_free.ensures
