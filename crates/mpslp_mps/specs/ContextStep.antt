-- What a line of a known shape does to the context.
use Rattle.std.specs.Prelude.{ℕ, Bool, List, [], ◌∷◌, ◌++◌, Option, Some, None}
use Rattle.std.specs.Option.{option_or}
use Rattle.mpslp_mps.specs.Context.{Context}
use Rattle.mpslp_mps_fields.specs.declared.sections.Section.{Section}
use Rattle.mpslp_mps_fields.specs.declared.sections.Section.TheVariants.{Rhs, Ranges, Bounds}

-- after the header of a section, which may lack its word, or name the objective
abbrev pub after_header : Context → Section → Option Section → Option (List ℕ) → Context
after_header c section word_due objective =
    record c { section = Some section; sections_seen = c.sections_seen ++ section ∷ []; word_due = word_due; objname = option_or c.objname objective }

-- after the word of OBJNAME on a line of its own; only the first name counts
abbrev pub after_objname : Context → List ℕ → Context
after_objname c name = record c { word_due = None; objname = option_or c.objname (Some name) }

-- after a data line that does not matter for later lines
abbrev pub after_data : Context → Context
after_data c = record c { word_due = None }

-- after a marker line
abbrev pub after_marker : Context → Bool → Context
after_marker c opens = record c { word_due = None; in_integer_part = opens; last_column = None }

-- after a line of a column
abbrev pub after_column : Context → List ℕ → Context
after_column c column = record c { word_due = None; last_column = Some column }

-- after a line of RHS, RANGES or BOUNDS; the first one of a section gives the set name
abbrev pub after_set : Context → Section → List ℕ → Context
after_set c Rhs set = record c { word_due = None; rhs_set = option_or c.rhs_set (Some set) }
after_set c Ranges set = record c { word_due = None; ranges_set = option_or c.ranges_set (Some set) }
after_set c Bounds set = record c { word_due = None; bounds_set = option_or c.bounds_set (Some set) }
after_set c _ set = record c { word_due = None }
