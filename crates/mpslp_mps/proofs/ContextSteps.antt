-- What a line of a known shape does to the context.
use Rattle.mpslp_mps.proofs.Prelude
use Prelude.{arith, ◌≡◌, ℕ, List, [], ◌∷◌, ◌++◌, Bool, true, false, cond, append-nil, Option, Some, None, option_map, option_or, Number}
use Prelude.{same_bytes, Fields, header, data_line, is_section, section_named, section_of_word_due, word_shape, column_shape}
use Prelude.{is_marker_line, marker_shape, opening_word, vector_shape, BoundLine, bound_type, bound_shape, header_objname, BoundType}
use Prelude.{Section, ObjName, Columns, Rhs, Ranges, Bounds, Context, line_column, vector_set, bound_set, next_part, next_set}
use Prelude.{next_context, named_values, after_header, after_objname, after_marker, after_column, after_set, fields}

-- ---- what a line of a known shape does to the context, as `next_context` defines

-- a line that gives nothing leaves what is known unchanged
same-option : {X : Type 0} (o : Option X) → option_or o None ≡ o
same-option = grind arith

-- ---- headers

pub step-header : (c : Context) (keyword : List ℕ) (more : Fields) (section : Section) → section_named keyword ≡ Some section
    → next_context c (header keyword more) ≡ after_header c section (section_of_word_due section more) (header_objname section more)
step-header = grind arith

-- ---- data lines

-- after a data line of a section
abbrev under : Context → Fields → Option Section → Context
under c fields section = record c {
  sections_seen = c.sections_seen ++ [];
  word_due = None;
  objname = option_or c.objname (cond (is_section ObjName section) (word_shape fields) None);
  in_integer_part = cond (is_section Columns section) (next_part fields c.in_integer_part) c.in_integer_part;
  last_column = cond (is_section Columns section) (line_column fields) c.last_column;
  rhs_set =
      cond (is_section Rhs section) (next_set vector_set fields c.rhs_set) c.rhs_set;
  ranges_set = cond (is_section Ranges section) (next_set vector_set fields c.ranges_set) c.ranges_set;
  bounds_set = cond (is_section Bounds section) (next_set bound_set fields c.bounds_set) c.bounds_set;
}

pub step-objname : (c : Context) (fields : Fields) (name : List ℕ) → c.section ≡ Some ObjName → word_shape fields ≡ Some name
    → next_context c (data_line fields) ≡ after_objname c name
step-objname = grind (arith, append-nil)

pub step-column : (c : Context) (fields : Fields) (column : List ℕ) (values : List (List ℕ × Number)) → c.section ≡ Some Columns
    → is_marker_line fields ≡ false → option_map named_values (column_shape fields) ≡ Some (column, values)
    → next_context c (data_line fields) ≡ after_column c column
step-column = grind (arith, append-nil, same-option)

pub step-marker : (c : Context) (fields : Fields) (opens : Bool) → c.section ≡ Some Columns → is_marker_line fields ≡ true
    → option_map (same_bytes opening_word) (marker_shape fields) ≡ Some opens → next_context c (data_line fields) ≡ after_marker c opens
step-marker = grind (arith, append-nil, same-option)

-- the set name of a line of RHS or RANGES
set-of : (fields : Fields) (set : List ℕ) (values : List (List ℕ × Number))
    → option_map named_values (vector_shape fields) ≡ Some (set, values) → vector_set fields ≡ Some set
set-of = grind arith

pub step-right_side : (c : Context) (fields : Fields) (set : List ℕ) (values : List (List ℕ × Number)) → c.section ≡ Some Rhs
    → option_map named_values (vector_shape fields) ≡ Some (set, values) → next_context c (data_line fields) ≡ after_set c Rhs set
step-right_side = grind (arith, append-nil, same-option, set-of)

pub step-range : (c : Context) (fields : Fields) (set : List ℕ) (values : List (List ℕ × Number)) → c.section ≡ Some Ranges
    → option_map named_values (vector_shape fields) ≡ Some (set, values) → next_context c (data_line fields) ≡ after_set c Ranges set
step-range = grind (arith, append-nil, same-option, set-of)

pub step-bound : (c : Context) (letters : List ℕ) (more : Fields) (type : BoundType) (line : BoundLine) → c.section ≡ Some Bounds
    → bound_type letters ≡ Some type → bound_shape type more ≡ Some line
    → next_context c (data_line (letters ∷ more)) ≡ after_set c Bounds line.set
step-bound = grind (arith, append-nil, same-option)
