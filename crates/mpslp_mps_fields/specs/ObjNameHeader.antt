-- The name of the objective on a header.
use Rattle.std.specs.Prelude.{ℕ, List, Option, Some, None, if◌then◌else◌}
use Rattle.mpslp_mps_fields.specs.Line.{Fields, is_section}
use Rattle.mpslp_mps_fields.specs.DataLine.{word_shape}
use Rattle.mpslp_mps_fields.specs.declared.sections.Section.{Section}
use Rattle.mpslp_mps_fields.specs.declared.sections.Section.TheVariants.{ObjName}

-- the name of the objective after the keyword OBJNAME
abbrev pub header_objname : Section → Fields → Option (List ℕ)
header_objname section more = if is_section ObjName (Some section) then word_shape more else None
