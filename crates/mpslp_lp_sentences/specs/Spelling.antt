-- The tokens of each phrase, and which phrases are right.
use Rattle.std.specs.Prelude.{ℕ, Bool, true, false, not, ◌&&◌, List, [], ◌∷◌, ◌++◌, map, codes, Option, Some, None}
use Rattle.std.specs.List.{flat_map, list_all, list_any}
use Rattle.mpslp_decimal.specs.Decimal.{Number as Decimal}
use Rattle.mpslp_types.specs.Name.{same_bytes, lower_byte}
use Rattle.mpslp_types.specs.declared.kinds.Sense.{Sense}
use Rattle.mpslp_types.specs.declared.kinds.Sense.TheVariants as senses
use Rattle.mpslp_lp_grammar.specs.declared.signs.Sign.{Sign as SignOf}
use Rattle.mpslp_lp_grammar.specs.declared.signs.Sign.TheVariants.{Minus}
use Rattle.mpslp_lp_tokens.specs.declared.relations.Relation.TheVariants.{AtMost, AtLeast}
use Rattle.mpslp_lp_grammar.specs.Terminal.{Terminal}
use Rattle.mpslp_lp_grammar.specs.Terminal.Terminal.{Opens, Name, Number, Sign, Compares, Colon, Infinity, Free}
use Rattle.mpslp_lp_tokens.specs.declared.words.SectionWord.{SectionWord}
use Rattle.mpslp_lp_tokens.specs.declared.words.SectionWord.TheVariants as words
use Rattle.mpslp_lp_sentences.specs.Phrases.{Side, Term, Item, Objective, Row, RowSection, Bound, Section, File}
use Rattle.mpslp_lp_sentences.specs.Phrases.Side.{side}
use Rattle.mpslp_lp_sentences.specs.Phrases.Term.{term}
use Rattle.mpslp_lp_sentences.specs.Phrases.Item.{a_term, a_constant}
use Rattle.mpslp_lp_sentences.specs.Phrases.Objective.{objective}
use Rattle.mpslp_lp_sentences.specs.Phrases.Row.{row, row_between, row_from_above}
use Rattle.mpslp_lp_sentences.specs.Phrases.RowSection.{no_rows, rows}
use Rattle.mpslp_lp_sentences.specs.Phrases.Bound.{bound, free_bound, turned_bound, bounds_between, bounds_from_above}
use Rattle.mpslp_lp_sentences.specs.Phrases.Section.{bounds, generals, binaries, semis}
use Rattle.mpslp_lp_sentences.specs.Phrases.File.{file}

-- ---- parts of phrases

abbrev pub sign_tokens : List SignOf → List Terminal
sign_tokens signs = map (λ sign. Sign sign) signs

abbrev pub number_tokens : Option Decimal → List Terminal
number_tokens None = []
number_tokens (Some value) = Number value ∷ []

abbrev pub label_tokens : Option (List ℕ) → List Terminal
label_tokens None = []
label_tokens (Some name) = Name name ∷ Colon ∷ []

abbrev pub side_tokens : Side → List Terminal
side_tokens (side None None) = Infinity ∷ []
side_tokens (side None (Some value)) = Number value ∷ []
side_tokens (side (Some sign) None) = Sign sign ∷ Infinity ∷ []
side_tokens (side (Some sign) (Some value)) = Sign sign ∷ Number value ∷ []

abbrev pub name_tokens : List (List ℕ) → List Terminal
name_tokens names = map (λ name. Name name) names

-- ---- the objective

abbrev pub term_tokens : Term → List Terminal
term_tokens (term signs number column) = sign_tokens signs ++ (number_tokens number ++ Name column ∷ [])

abbrev pub item_tokens : Item → List Terminal
item_tokens (a_term part) = term_tokens part
item_tokens (a_constant signs value) = sign_tokens signs ++ Number value ∷ []

abbrev pub sense_word : Sense → SectionWord
sense_word senses.Minimize = words.Minimize
sense_word senses.Maximize = words.Maximize

abbrev pub objective_tokens : Objective → List Terminal
objective_tokens (objective sense label items) = Opens (sense_word sense) ∷ (label_tokens label ++ flat_map item_tokens items)

-- ---- rows

abbrev pub terms_tokens : List Term → List Terminal
terms_tokens terms = flat_map term_tokens terms

abbrev pub row_tokens : Row → List Terminal
row_tokens (row label terms relation right) = label_tokens label ++ (terms_tokens terms ++ Compares relation ∷ side_tokens right)
row_tokens (row_between label lower terms upper) = label_tokens label ++ (side_tokens lower ++ Compares AtMost ∷ (terms_tokens terms ++ Compares AtMost ∷ side_tokens upper))
row_tokens (row_from_above label upper terms lower) = label_tokens label ++ (side_tokens upper ++ Compares AtLeast ∷ (terms_tokens terms ++ Compares AtLeast ∷ side_tokens lower))

abbrev pub row_section_tokens : RowSection → List Terminal
row_section_tokens no_rows = []
row_section_tokens (rows opening lines) = opening ++ flat_map row_tokens lines

-- ---- the other sections

abbrev pub bound_tokens : Bound → List Terminal
bound_tokens (bound column relation right) = Name column ∷ Compares relation ∷ side_tokens right
bound_tokens (free_bound column) = Name column ∷ Free ∷ []
bound_tokens (turned_bound left relation column) = side_tokens left ++ Compares relation ∷ Name column ∷ []
bound_tokens (bounds_between lower column upper) = side_tokens lower ++ Compares AtMost ∷ Name column ∷ Compares AtMost ∷ side_tokens upper
bound_tokens (bounds_from_above upper column lower) = side_tokens upper ++ Compares AtLeast ∷ Name column ∷ Compares AtLeast ∷ side_tokens lower

abbrev pub section_tokens : Section → List Terminal
section_tokens (bounds lines) = Opens words.Bounds ∷ flat_map bound_tokens lines
section_tokens (generals names) = Opens words.Generals ∷ name_tokens names
section_tokens (binaries names) = Opens words.Binaries ∷ name_tokens names
section_tokens (semis opening names) = opening ++ name_tokens names

-- ---- the file

abbrev pub file_tokens : File → List Terminal
file_tokens (file first second sections) = objective_tokens first ++ (row_section_tokens second ++ (flat_map section_tokens sections ++ Opens words.End ∷ []))

-- ---- which phrases are right

-- "Reserved words": `st` and the like; `subject to`; `such that`. The second word in letters of either case
abbrev pub is_word : List ℕ → List ℕ → Bool
is_word wanted word = same_bytes (map lower_byte word) wanted

abbrev pub opens_rows : List Terminal → Bool
opens_rows (Opens words.Rows ∷ []) = true
opens_rows (Opens words.Subject ∷ Name word ∷ []) = is_word (codes "to") word
opens_rows (Opens words.Such ∷ Name word ∷ []) = is_word (codes "that") word
opens_rows _ = false

-- "Reserved words": `semi`; `semis`; `semi - continuous`
abbrev pub opens_semis : List Terminal → Bool
opens_semis (Opens words.Semi ∷ []) = true
opens_semis (Opens words.Semis ∷ []) = true
opens_semis (Opens words.Semi ∷ Sign Minus ∷ Name word ∷ []) = is_word (codes "continuous") word
opens_semis _ = false

-- "Items": only the first item of the objective and the first term of a row may omit the sign
abbrev pub has_sign : List SignOf → Bool
has_sign [] = false
has_sign (sign ∷ more) = true

abbrev pub is_signed_term : Term → Bool
is_signed_term (term signs number column) = has_sign signs

abbrev pub is_signed_item : Item → Bool
is_signed_item (a_term part) = is_signed_term part
is_signed_item (a_constant signs value) = has_sign signs

abbrev pub are_items : List Item → Bool
are_items [] = true
are_items (first ∷ later) = list_all is_signed_item later

-- "Grammar": one or more terms
abbrev pub are_terms : List Term → Bool
are_terms [] = false
are_terms (first ∷ later) = list_all is_signed_term later

abbrev pub is_row : Row → Bool
is_row (row label terms relation right) = are_terms terms
is_row (row_between label lower terms upper) = are_terms terms
is_row (row_from_above label upper terms lower) = are_terms terms

abbrev pub is_row_section : RowSection → Bool
is_row_section no_rows = true
is_row_section (rows opening lines) = opens_rows opening && list_all is_row lines

abbrev pub is_section : Section → Bool
is_section (semis opening names) = opens_semis opening
is_section _ = true

-- "The file": each of these sections at most once
abbrev pub same_section : Section → Section → Bool
same_section (bounds _) (bounds _) = true
same_section (generals _) (generals _) = true
same_section (binaries _) (binaries _) = true
same_section (semis _ _) (semis _ _) = true
same_section _ _ = false

abbrev pub are_sections : List Section → Bool
are_sections [] = true
are_sections (first ∷ later) = is_section first && (not (list_any (same_section first) later) && are_sections later)

abbrev pub is_objective : Objective → Bool
is_objective (objective sense label items) = are_items items

abbrev pub is_file : File → Bool
is_file (file first second sections) = is_objective first && (is_row_section second && are_sections sections)
