-- Whether a section has begun in the lines before.
use Rattle.std.specs.Prelude.{Bool, List}
use Rattle.mpslp_mps_fields.specs.Line.{LineContent, has}
use Rattle.mpslp_mps.specs.Context.{seen_sections}
use Rattle.mpslp_mps_fields.specs.declared.sections.Section.{Section}

abbrev pub has_section : List LineContent → Section → Bool
has_section before section = has (seen_sections before) section
