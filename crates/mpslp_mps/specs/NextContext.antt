-- The context after one more line, from the context before it: what a reader keeps instead of the lines.
use Rattle.std.specs.Prelude.{ℕ, Bool, List, [], ◌++◌, Option, None, if◌then◌else◌}
use Rattle.std.specs.List.{cons_option}
use Rattle.std.specs.Option.{option_map_or, option_or}
use Rattle.mpslp_types.specs.Name.{same_bytes}
use Rattle.mpslp_mps_fields.specs.Line.{Fields, LineContent, data_line, section_of_header, is_section}
use Rattle.mpslp_mps_fields.specs.DataLine.{opening_word}
use Rattle.mpslp_mps.specs.Context.{is_read, word_due_after, objname_word, marker_word, line_column, vector_set, bound_set, Context}
use Rattle.mpslp_mps_fields.specs.declared.sections.Section.{Section}
use Rattle.mpslp_mps_fields.specs.declared.sections.Section.TheVariants.{Columns, Rhs, Ranges, Bounds, EndData}

-- how a data line of the section changes a part of the context
abbrev pub changed_under : {X : Type 0} → Section → Option Section → (Fields → X → X) → LineContent → X → X
changed_under section current change (data_line fields) old = if is_section section current then change fields old else old
changed_under section current change _ old = old

-- a marker line opens or closes an integer block
abbrev pub next_part : Fields → Bool → Bool
next_part fields old = option_map_or (same_bytes opening_word) (marker_word fields) old

-- the first line of a section gives its set name
abbrev pub next_set : (Fields → Option (List ℕ)) → Fields → Option (List ℕ) → Option (List ℕ)
next_set set_of fields old = option_or old (set_of fields)

abbrev pub next_context : Context → LineContent → Context
next_context c item = record {
  section = option_or (section_of_header item) c.section;
  sections_seen = c.sections_seen ++ cons_option (section_of_header item) [];
  word_due = if is_read item then word_due_after item else c.word_due;
  objname = option_or c.objname (objname_word c.section item);
  in_integer_part = changed_under Columns c.section next_part item c.in_integer_part;
  last_column = changed_under Columns c.section (λ fields _. line_column fields) item c.last_column;
  rhs_set = changed_under Rhs c.section (next_set vector_set) item c.rhs_set;
  ranges_set = changed_under Ranges c.section (next_set vector_set) item c.ranges_set;
  bounds_set = changed_under Bounds c.section (next_set bound_set) item c.bounds_set;
}

-- without the names with which later lines are compared
abbrev pub without_names : Context → Context
without_names c = record c { objname = None; last_column = None; rhs_set = None; ranges_set = None; bounds_set = None }

-- after the line of ENDATA no line is read, and no name is kept
abbrev pub kept_context : Context → Context
kept_context c = if is_section EndData c.section then without_names c else c
