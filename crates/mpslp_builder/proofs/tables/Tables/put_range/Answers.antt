use Rattle.std.proofs.Common.{refl, sym, ap, ◌∙◌, false}
use Rattle.std.specs.Option.{option_map_or}
use Rattle.std.specs.Prelude.{ℕ, List, Option}
use Rattle.indexmap.specs.IndexMap.{set_value_at}
use Rattle.mpslp_model_core.specs.Limits.{is_definition_by_limits}
use Rattle.mpslp_builder_parts.specs.RowParts.{RowParts}
use Rattle.mpslp_builder.proofs.tables.Tables.put_range.Goals as goal

pub put_range-requires : goal.put_range-requires
put_range-requires c = ap (λ (o : Option (List ℕ × RowParts)). option_map_or
    (λ e. is_definition_by_limits e.1.definition) o false) (sym c.pair_mut-row.ensures.value) ∙ c.requires.typed

pub returns : goal.returns
returns c = record {
  key = c.pair_mut-row.result.0.now;
  parts = c.pair_mut-row.result.1.now;
  was = c.pair_mut-row.ensures.value;
  written = record {
    objective = refl;
    rows = ap (λ (row : RowParts). set_value_at c.args.self.now.rows.entries c.args.index row) c.put_range.ensures;
    columns = refl;
  };
}
