use Rattle.std.proofs.Common.{refl}
use Rattle.mpslp_builder.proofs.tables.Tables.put_property.Goals as goal

pub returns : goal.returns
returns c = record {
  key = c.add_property.ensures.key;
  parts = c.add_property.ensures.parts;
  was = c.add_property.ensures.was;
  written = record { objective = refl; rows = refl; columns = c.add_property.ensures.written };
}
