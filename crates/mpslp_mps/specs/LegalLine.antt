-- Lines of MPS text of legal length and bytes.
use Rattle.std.specs.Prelude.{ℕ, Bool, ◌&&◌, List}
use Rattle.std.specs.List.{list_all}
use Rattle.mpslp_lines.specs.FaultTests.{has_legal_length, is_legal_byte}
use Rattle.mpslp_mps_fields.specs.Line.{outside_comment}

abbrev pub is_legal_line : List ℕ → Bool
is_legal_line line = has_legal_length line && list_all is_legal_byte (outside_comment line)
