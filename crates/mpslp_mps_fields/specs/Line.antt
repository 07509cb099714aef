-- Lines of MPS text: their fields, and the headers of sections.
use Rattle.std.specs.Prelude.{ℕ, nat_lt, ◌==◌, Bool, true, false, ◌||◌, not, if◌then◌else◌, List, [], ◌∷◌, length, filter, codes, Option, Some, None}
use Rattle.mpslp_types.specs.Basics.{list_all, list_any, slice_split, find, is_nonempty, is_one_of, same_bytes}
use Rattle.mpslp_mps_fields.specs.declared.sections.Section.{Section, TheVariants.Name, TheVariants.ObjSense, TheVariants.ObjName, TheVariants.Rows, TheVariants.Columns, TheVariants.Rhs, TheVariants.Ranges, TheVariants.Bounds, TheVariants.EndData}
use Rattle.mpslp_types.specs.declared.faults.FaultKind.{FaultKind, TheVariants.Quadratic, TheVariants.Sos, TheVariants.Indicator, TheVariants.UnknownSection}

-- the fields of a line, in order
abbrev pub Fields : Type 0
Fields = List (List ℕ)

-- a space or a tab
abbrev pub is_blank : ℕ → Bool
is_blank byte = byte == 32 || byte == 9

-- the parts between runs of spaces and tabs
abbrev pub fields : List ℕ → Fields
fields line = filter (λ run. nat_lt 0 (length run)) (slice_split is_blank line)

abbrev pub begins_with : (ℕ → Bool) → List ℕ → Bool
begins_with test [] = false
begins_with test (byte ∷ _) = test byte

-- a `*` in column 1
abbrev pub is_comment : List ℕ → Bool
is_comment line = begins_with (λ byte. byte == 42) line

-- a comment, or only spaces and tabs
abbrev pub is_skipped : List ℕ → Bool
is_skipped line = is_comment line || list_all is_blank line

-- a data line begins with a space or tab; any other line that is not skipped is a header
abbrev pub is_data : List ℕ → Bool
is_data line = begins_with is_blank line

-- the part of a line outside comments; a comment may contain any bytes
abbrev pub outside_comment : List ℕ → List ℕ
outside_comment line = if is_comment line then [] else line

-- ---- the content of a line

-- a header is its keyword and the fields after it
pub data LineContent : Type 0 where
  skipped : LineContent
  header : List ℕ → Fields → LineContent
  data_line : Fields → LineContent

abbrev pub header_of : Fields → LineContent
header_of [] = skipped
header_of (keyword ∷ more) = header keyword more

abbrev pub content_of : List ℕ → LineContent
content_of line = if is_skipped line then skipped else (if is_data line then data_line (fields line) else header_of (fields line))

-- ---- sections

-- only upper case
abbrev pub keyword_of : Section → List ℕ
keyword_of Name = codes "NAME"
keyword_of ObjSense = codes "OBJSENSE"
keyword_of ObjName = codes "OBJNAME"
keyword_of Rows = codes "ROWS"
keyword_of Columns = codes "COLUMNS"
keyword_of Rhs = codes "RHS"
keyword_of Ranges = codes "RANGES"
keyword_of Bounds = codes "BOUNDS"
keyword_of EndData = codes "ENDATA"

abbrev pub sections : List Section
sections = Name ∷ ObjSense ∷ ObjName ∷ Rows ∷ Columns ∷ Rhs ∷ Ranges ∷ Bounds ∷ EndData ∷ []

-- the section of this keyword
abbrev pub section_named : List ℕ → Option Section
section_named keyword = find (λ section. same_bytes keyword (keyword_of section)) sections

-- the section that a line begins
abbrev pub section_of_header : LineContent → Option Section
section_of_header (header keyword _) = section_named keyword
section_of_header _ = None

abbrev pub is_section : Section → Option Section → Bool
is_section section None = false
is_section section (Some current) = same_bytes (keyword_of section) (keyword_of current)

-- whether a line is the header of the section
abbrev pub begins : Section → LineContent → Bool
begins section item = is_section section (section_of_header item)

-- whether a section is one of these
abbrev pub has : List Section → Section → Bool
has set section = list_any (λ other. is_section section (Some other)) set

-- ---- headers

-- a header that is not a section of this profile
abbrev pub unknown_section : List ℕ → FaultKind
unknown_section keyword =
    if is_one_of (codes "QSECTION" ∷ codes "QMATRIX" ∷ codes "QUADOBJ" ∷ codes "QCMATRIX" ∷ codes "CSECTION" ∷ []) keyword then Quadratic
    else (if is_one_of (codes "SOS" ∷ codes "SOS1" ∷ codes "SOS2" ∷ []) keyword then Sos
    else (if is_one_of (codes "INDICATORS" ∷ []) keyword then Indicator else UnknownSection))

-- what may follow the keyword: anything after NAME, one word after OBJSENSE and OBJNAME
abbrev pub may_follow : Section → Fields → Bool
may_follow Name more = true
may_follow ObjSense [] = true
may_follow ObjSense (word ∷ []) = true
may_follow ObjName [] = true
may_follow ObjName (word ∷ []) = true
may_follow _ more = not (is_nonempty more)

-- a section of one word: after the keyword of its header, or on a line of its own
abbrev pub takes_word : Section → Bool
takes_word ObjSense = true
takes_word ObjName = true
takes_word _ = false

-- the section whose word is missing after its header
abbrev pub section_of_word_due : Section → Fields → Option Section
section_of_word_due section [] = if takes_word section then Some section else None
section_of_word_due section more = None
