-- Errors of LP text that depend on earlier tokens, each defined by a token and all tokens before it. The latter are listed from
-- the last one to the first: `x ∷ earlier` are the tokens before the next one if x is the last of them.
use Rattle.std.specs.Prelude.{◌≡◌, ℕ, ◌+◌, ◌-◌, ◌^◌, min, nat_lt, Bool, true, false, ◌&&◌, ◌||◌, not, IsTrue, List, [], ◌∷◌, ◌++◌, length, reverse, Option, Some, None, is_none, unwrap_or, if◌then◌else◌, codes}
use Rattle.std.specs.List.{list_any, list_all, flat_map, cons_option}
use Rattle.std.specs.Option.{option_map_or}
use Rattle.std.specs.Str.Lines.{lines}
use Rattle.mpslp_types.specs.Name.{same_bytes}
use Rattle.mpslp_types.specs.declared.faults.Fault.{Fault}
use Rattle.mpslp_types.specs.declared.faults.FaultKind.{FaultKind}
use Rattle.mpslp_lp_tokens.specs.Token.{section_of}
use Rattle.mpslp_lp_tokens.specs.declared.words.Section.{Section}
use Rattle.mpslp_lp_tokens.specs.declared.words.Section.TheVariants.{Objective, Rows, Bounds, Generals, Binaries, SemiContinuous, End}
use Rattle.mpslp_lp_tokens.specs.declared.words.SectionWord.{SectionWord}
use Rattle.mpslp_lp_tokens.specs.declared.words.SectionWord.TheVariants as words
use Rattle.mpslp_lp_tokens.specs.declared.relations.Relation.{Relation}
use Rattle.mpslp_lp_tokens.specs.declared.relations.Relation.TheVariants.{AtMost, AtLeast}
use Rattle.mpslp_lp_grammar.specs.Terminal.{Terminal, lexical_fault}
use Rattle.mpslp_lp_grammar.specs.TerminalToken.{terminals}
use Rattle.mpslp_lp_grammar.specs.Terminal.Terminal.{Opens, Name, Number, Sign, Compares, Colon, Infinity, Free}
use Rattle.mpslp_lp.specs.FirstFault.{IsFirstLpFault}
use Rattle.mpslp_lp_sentences.specs.Meaning.{row_name, turned}

-- ---- sections

abbrev pub is_section : Section → Section → Bool
is_section Objective Objective = true
is_section Rows Rows = true
is_section Bounds Bounds = true
is_section Generals Generals = true
is_section Binaries Binaries = true
is_section SemiContinuous SemiContinuous = true
is_section End End = true
is_section _ _ = false

abbrev pub opens : Section → Terminal → Bool
opens section (Opens word) = is_section section (section_of word)
opens section _ = false

-- a token before opens the section
abbrev pub has_opened : List Terminal → Section → Bool
has_opened earlier section = list_any (opens section) earlier

-- the section of the last section word before
abbrev pub current_section : List Terminal → Option Section
current_section [] = None
current_section (Opens word ∷ earlier) = Some (section_of word)
current_section (_ ∷ earlier) = current_section earlier

abbrev pub is_under : Section → List Terminal → Bool
is_under section earlier = option_map_or (is_section section) (current_section earlier) false

-- ---- SectionRepeated: a section word whose section was opened before

abbrev pub repeats_section : List Terminal → Terminal → Bool
repeats_section earlier (Opens word) = has_opened earlier (section_of word)
repeats_section earlier _ = false

-- ---- SectionOrder: a section word where its section may not be opened

-- the objective, then the rows, then the others in any order, then `end`
abbrev pub section_rank : Section → ℕ
section_rank Objective = 0
section_rank Rows = 1
section_rank Bounds = 2
section_rank Generals = 2
section_rank Binaries = 2
section_rank SemiContinuous = 2
section_rank End = 3

abbrev pub opens_later : Section → Terminal → Bool
opens_later section (Opens word) = nat_lt (section_rank section) (section_rank (section_of word))
opens_later section _ = false

-- a section that must come after this one was opened
abbrev pub comes_late : List Terminal → Section → Bool
comes_late earlier section = list_any (opens_later section) earlier

-- the objective, which must come before this section, was not opened
abbrev pub comes_early : List Terminal → Section → Bool
comes_early earlier Objective = false
comes_early earlier section = not (has_opened earlier Objective)

abbrev pub breaks_order : List Terminal → Terminal → Bool
breaks_order earlier (Opens word) = not (has_opened earlier (section_of word)) && (comes_early earlier (section_of word) || comes_late earlier (section_of word))
breaks_order earlier _ = false

-- ---- rows

-- the last token before is a name
abbrev pub ends_in_name : List Terminal → Bool
ends_in_name (Name name ∷ earlier) = true
ends_in_name _ = false

-- the last token before is a number or an infinity
abbrev pub ends_in_value : List Terminal → Bool
ends_in_value (Number value ∷ earlier) = true
ends_in_value (Infinity ∷ earlier) = true
ends_in_value _ = false

-- the last token before is `subject` or `such`, so that the next one is the last word of the heading
abbrev pub is_first_word : SectionWord → Bool
is_first_word words.Subject = true
is_first_word words.Such = true
is_first_word _ = false

abbrev pub ends_in_first_word : List Terminal → Bool
ends_in_first_word (Opens word ∷ earlier) = is_first_word word
ends_in_first_word _ = false

-- `st` and the like
abbrev pub is_rows_word : SectionWord → Bool
is_rows_word words.Rows = true
is_rows_word _ = false

-- A row begins after the heading, after its label, and after the number or the infinity with which the row before it ends.
abbrev pub begins_row : List Terminal → Bool
begins_row (Opens word ∷ earlier) = is_rows_word word
begins_row (Name word ∷ earlier) = ends_in_first_word earlier
begins_row (Colon ∷ earlier) = true
begins_row (Number value ∷ earlier) = true
begins_row (Infinity ∷ earlier) = true
begins_row _ = false

-- the relation before a right-hand side follows the name of the last term
abbrev pub follows_terms : List Terminal → Bool
follows_terms (Compares relation ∷ earlier) = ends_in_name earlier
follows_terms _ = false

-- what is found in the tokens, or before the sign that is the last of them
abbrev pub after_sign : {X : Type 0} → (List Terminal → X) → List Terminal → X
after_sign found (Sign sign ∷ earlier) = found earlier
after_sign found earlier = found earlier

-- A number after these tokens may be the left side of a row: at most one sign is between it and the beginning of the row. It is
-- the right-hand side: at most one sign is between it and the relation after the terms.
abbrev pub may_be_left_side : List Terminal → Bool
may_be_left_side earlier = after_sign begins_row earlier

abbrev pub is_right_side : List Terminal → Bool
is_right_side earlier = after_sign follows_terms earlier

-- ---- ConstantInRow: a sign or a relation after a number among the terms of a row, which is neither its left side, before a
-- relation, nor its right-hand side

abbrev pub ends_in_constant : List Terminal → Terminal → Bool
ends_in_constant (Number value ∷ earlier) (Sign sign) = not (is_right_side earlier)
ends_in_constant (Number value ∷ earlier) (Compares relation) = not (is_right_side earlier) && not (may_be_left_side earlier)
ends_in_constant _ _ = false

abbrev pub follows_constant : List Terminal → Terminal → Bool
follows_constant earlier token = is_under Rows earlier && ends_in_constant earlier token

-- ---- MixedSenses: a second relation of a row or a bound in another direction than the first, or any after `=`

-- the relation after the left side of a row, which follows a number or an infinity, if only terms come after it
abbrev pub left_relation : List Terminal → Option Relation
left_relation (Compares relation ∷ earlier) = if ends_in_value earlier then Some relation else None
left_relation (Name column ∷ earlier) = left_relation earlier
left_relation (Number value ∷ earlier) = left_relation earlier
left_relation (Sign sign ∷ earlier) = left_relation earlier
left_relation _ = None

-- the relation before the column of a bound, if this column is the last token before
abbrev pub last_relation : List Terminal → Option Relation
last_relation (Compares relation ∷ earlier) = Some relation
last_relation _ = None

abbrev pub bound_relation : List Terminal → Option Relation
bound_relation (Name column ∷ earlier) = last_relation earlier
bound_relation _ = None

-- both are `<`, or both are `>`
abbrev pub agree : Relation → Relation → Bool
agree AtMost AtMost = true
agree AtLeast AtLeast = true
agree _ _ = false

abbrev pub differs_from : Option Relation → Relation → Bool
differs_from first second = option_map_or (λ relation. not (agree relation second)) first false

abbrev pub mixes_under : Option Section → List Terminal → Terminal → Bool
mixes_under (Some Rows) earlier (Compares relation) = differs_from (left_relation earlier) relation
mixes_under (Some Bounds) earlier (Compares relation) = differs_from (bound_relation earlier) relation
mixes_under _ earlier _ = false

abbrev pub mixes_senses : List Terminal → Terminal → Bool
mixes_senses earlier token = mixes_under (current_section earlier) earlier token

-- ---- DuplicateEntry: the name of a term, which an earlier term of the row or the objective has too

-- the columns of the terms after the last heading, label, relation or infinity
abbrev pub term_columns : List Terminal → List (List ℕ)
term_columns (Name column ∷ earlier) = if ends_in_first_word earlier then [] else column ∷ term_columns earlier
term_columns (Number value ∷ earlier) = term_columns earlier
term_columns (Sign sign ∷ earlier) = term_columns earlier
term_columns _ = []

abbrev pub is_named : List ℕ → List (List ℕ) → Bool
is_named name names = list_any (same_bytes name) names

abbrev pub repeats_column : List Terminal → Terminal → Bool
repeats_column earlier (Name column) = is_named column (term_columns earlier)
repeats_column earlier _ = false

abbrev pub repeats_entry : List Terminal → Terminal → Bool
repeats_entry earlier token = (is_under Objective earlier || is_under Rows earlier) && repeats_column earlier token

-- ---- names that tokens give

-- how a token, after those before it, gives a name
abbrev pub Naming : Type 0
Naming = List Terminal → Terminal → Option (List ℕ)

-- the names that the tokens give in this way
abbrev pub collected : Naming → List Terminal → List (List ℕ)
collected naming [] = []
collected naming (token ∷ earlier) = cons_option (naming earlier token) (collected naming earlier)

-- the token gives in one way a name that an earlier token has given in another
abbrev pub names_again : Naming → Naming → List Terminal → Terminal → Bool
names_again naming other earlier token = option_map_or (λ column. is_named column (collected other earlier)) (naming earlier token) false

-- ---- DuplicateRhs: a second constant of the objective. A number is a constant if a sign or a section word follows it

abbrev pub ends_in_number : List Terminal → Bool
ends_in_number (Number value ∷ earlier) = true
ends_in_number _ = false

abbrev pub may_follow_constant : Terminal → Bool
may_follow_constant (Sign sign) = true
may_follow_constant (Opens word) = true
may_follow_constant _ = false

abbrev pub completes_constant : List Terminal → Terminal → Bool
completes_constant earlier token = is_under Objective earlier && (may_follow_constant token && ends_in_number earlier)

abbrev pub has_constant_before : List Terminal → Bool
has_constant_before [] = false
has_constant_before (token ∷ earlier) = completes_constant earlier token || has_constant_before earlier

abbrev pub repeats_constant : List Terminal → Terminal → Bool
repeats_constant earlier token = completes_constant earlier token && has_constant_before earlier

-- ---- DuplicateBound: a token that completes a second lower bound of a column, or a second upper one

abbrev pub gives_lower : Relation → Bool
gives_lower AtMost = false
gives_lower _ = true

abbrev pub gives_upper : Relation → Bool
gives_upper AtLeast = false
gives_upper _ = true

abbrev pub last_name : List Terminal → Option (List ℕ)
last_name (Name name ∷ earlier) = Some name
last_name _ = None

-- the column before a relation that gives the bound
abbrev pub column_before : (Relation → Bool) → List Terminal → Option (List ℕ)
column_before gives (Compares relation ∷ earlier) = if gives relation then last_name earlier else None
column_before gives _ = None

-- `x < v` is complete with the last token of `v`, `v > x` with its name and `x free` with `free`
abbrev pub completed : (Relation → Bool) → Naming
completed gives earlier (Number value) = after_sign (column_before gives) earlier
completed gives earlier Infinity = after_sign (column_before gives) earlier
completed gives earlier Free = last_name earlier
completed gives earlier (Name column) = if option_map_or (λ relation. gives (turned relation)) (last_relation earlier) false then Some column else None
completed gives earlier _ = None

abbrev pub completes_bound : (Relation → Bool) → Naming
completes_bound gives earlier token = if is_under Bounds earlier then completed gives earlier token else None

abbrev pub repeats_bound : List Terminal → Terminal → Bool
repeats_bound earlier token =
    names_again (completes_bound gives_lower) (completes_bound gives_lower) earlier token
    || names_again (completes_bound gives_upper) (completes_bound gives_upper) earlier token

-- ---- SemiContinuous: the later name of a column that is in Generals or Binaries, and in the semi-continuous section

abbrev pub ends_in_sign : List Terminal → Bool
ends_in_sign (Sign sign ∷ earlier) = true
ends_in_sign _ = false

abbrev pub names_integer : Naming
names_integer earlier (Name column) = if is_under Generals earlier || is_under Binaries earlier then Some column else None
names_integer earlier _ = None

-- a name after a sign is the last word of `semi-continuous`
abbrev pub names_semi : Naming
names_semi earlier (Name column) = if is_under SemiContinuous earlier && not (ends_in_sign earlier) then Some column else None
names_semi earlier _ = None

abbrev pub changes_kind : List Terminal → Terminal → Bool
changes_kind earlier token = names_again names_integer names_semi earlier token || names_again names_semi names_integer earlier token

-- ---- DuplicateRow: the last token of a row with the name of an earlier row, or of the objective

abbrev pub is_value : Terminal → Bool
is_value (Number value) = true
is_value Infinity = true
is_value _ = false

-- the last token of the right-hand side of a row
abbrev pub ends_row : List Terminal → Terminal → Bool
ends_row earlier token = is_value token && (is_under Rows earlier && is_right_side earlier)

abbrev pub rows_before : List Terminal → ℕ
rows_before [] = 0
rows_before (token ∷ earlier) = if ends_row earlier token then rows_before earlier + 1 else rows_before earlier

-- the label of the row that the tokens are in, if it has one
abbrev pub label_before : List Terminal → Option (List ℕ)
label_before [] = None
label_before (Colon ∷ earlier) = last_name earlier
label_before (Opens word ∷ earlier) = None
label_before (token ∷ earlier) = if ends_row earlier token then None else label_before earlier

abbrev pub names_row : Naming
names_row earlier token = if ends_row earlier token then Some (row_name (rows_before earlier + 1) (label_before earlier)) else None

-- the name of the objective: its label, or `obj`
abbrev pub objective_before : List Terminal → List ℕ
objective_before [] = codes "obj"
objective_before (Colon ∷ earlier) = if is_under Objective earlier then unwrap_or (last_name earlier) (codes "obj") else objective_before earlier
objective_before (_ ∷ earlier) = objective_before earlier

abbrev pub names_objective : Naming → List Terminal → Terminal → Bool
names_objective naming earlier token = option_map_or (same_bytes (objective_before earlier)) (naming earlier token) false

abbrev pub repeats_row : List Terminal → Terminal → Bool
repeats_row earlier token = names_again names_row names_row earlier token || names_objective names_row earlier token

-- ---- the laws

-- The error is on a line of the text that has a token for which this holds, in terms of the tokens before it: those of the
-- lines before, and of this line. None of these lines has an error by itself.
pub record IsAtToken (is_such : List Terminal → Terminal → Bool) (bytes : List ℕ) (fault : Fault) : Type 0 where
  pub before : List (List ℕ)
  pub line : List ℕ
  pub later : List (List ℕ)
  pub text : lines bytes ≡ before ++ line ∷ later
  pub number : fault.line ≡ min (length before + 1) (2 ^ 64 - 1)
  pub sound : IsTrue (list_all (λ l. is_none (lexical_fault l)) (before ++ line ∷ []))
  pub front : List Terminal
  pub token : Terminal
  pub back : List Terminal
  pub tokens : terminals line ≡ front ++ token ∷ back
  pub such : is_such (reverse (flat_map terminals before ++ front)) token ≡ true

-- A first error of this kind is on such a line.
abbrev pub IsInWords : FaultKind → (List Terminal → Terminal → Bool) → Type 0
IsInWords kind is_such = (bytes : List ℕ) (fault : Fault) → IsFirstLpFault bytes fault → fault.kind ≡ kind → IsAtToken is_such bytes fault
