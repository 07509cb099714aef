use Rattle.std.proofs.Common.{refl, [], ◌∷◌, ◌++◌}
use Rattle.mpslp_mps_fields.specs.declared.sections.Section.TheVariants.{Columns}
use Rattle.mpslp_model_core.specs.Model.{listing_of}
use Rattle.mpslp_mps_text.specs.CanonicalMps.{header_line, column_lines, is_plain_column, is_integer_column, integer_part}
use Rattle.mpslp_io.proofs.{LinesAtLemmas.{flat_map-filter}, OutputLemmas.{section_of, section_then, section_same, section_text}}
use Rattle.mpslp_mps_write.proofs.mps.columns.put_columns_section.Goals as goal

pub returns : goal.returns
returns g c =
    let m = listing_of c.args.model.now in
    let plain = flat_map-filter (column_lines m) is_plain_column m.columns in
    let integer = flat_map-filter (column_lines m) is_integer_column m.columns in
    section_same (λ i. header_line Columns ∷ (plain i ++ integer_part (integer i)))
    (section_then (section_text {lines = header_line Columns ∷ []} refl c.put.ensures)
    (section_then (section_of c.put_columns.ensures) c.put_integer_part.ensures))
