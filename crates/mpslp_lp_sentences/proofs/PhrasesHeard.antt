-- How the grammar reads the objective, rows and sections.
use Rattle.mpslp_lp_sentences.proofs.Prelude
use Prelude.{arith, ◌≡◌, refl, sym, subst, ℕ, List, [], ◌∷◌, ◌++◌, Bool, true, false, append_assoc, Option, Some, None, flat_map, list_all}
use Prelude.{first_so, second_so, Decimal, Sense, Declarations, Draft, empty_draft, with_declarations, refusals_in_turn}
use Prelude.{with_declarations-append, SignOf, ◌>>=◌, ahead, Terminal, Opens, Name, Number, Sign, Colon, start, no_section_seen}
use Prelude.{with_section, declares, SectionsSeen, BeforeItems, InObjective, signed_item, items, objective_item, objective_declared}
use Prelude.{default_objective, first_item_declared, objective_named, objective_from, objective_rule, point_at, at, parts-taken, Item, term}
use Prelude.{a_term, a_constant, objective, sign_tokens, label_tokens, item_tokens, is_objective, objective_tokens, sense_word}
use Prelude.{is_signed_item, are_items, coefficient, item_declares, objective_declares, ap, ◌∙◌, ◌+◌, length, ◌||◌, cond, is_some, list_any}
use Prelude.{find, same_bytes, bytes_cmp, nor, RowDefinition, declare_row, with_declaration, has_coefficient, itself_named, has-put_key}
use Prelude.{IsSortedDraft, term_declared, AreNew, map, if◌then◌else◌, unwrap_or, enumerate_from, append-nil, Limit, MinusInf, PlusInf}
use Prelude.{DuplicateEntry, by_limits, sorted-with_declarations, next, Compares, Point, refuses, goes_to, Relation, AtMost, AtLeast}
use Prelude.{BetweenRows, InRow, PartialRow, Limits, sides_by, colon, default_row, without_terms, row_item, row_first, row_after_left}
use Prelude.{row_signed, row_from, row_named, row_limits, row_declared, Side, Term, Row, row, row_between}
use Prelude.{row_from_above, side_tokens, term_tokens, terms_tokens, row_tokens, is_signed_term, is_row, limit, term_declares, row_name}
use Prelude.{row_with, row_declares, not, not_so, both_so, sorted-draft_of, Minus, section_fault, has_seen, Context, Place, InSemis}
use Prelude.{semi_from, may_begin_section, Kind, RowSection, File, no_rows, rows, bounds}
use Prelude.{generals, binaries, semis, file, name_tokens, row_section_tokens, section_tokens, opens_rows, is_row_section, same_section}
use Prelude.{are_sections, is_file, objective_name, row_section_declares, section_declares, file_declares}
use Rattle.std.specs.{Cmp.Lexicographic.nat_list_cmp_total, FinMap.Entries.length-put}
use Rattle.mpslp_lp_sentences.specs.{Phrases.{Objective, Section}, Meaning.limits_by, Spelling.is_section}
use Rattle.mpslp_lp_sentences.proofs.Whole.{Tokens, listened, listened-one}
use Rattle.mpslp_lp_sentences.proofs.Hears.{first_of_all, here, Hears, IsWhole, IsWholeAnywhere, whole-begins, hears-next, hears-ahead}
use Rattle.mpslp_lp_sentences.proofs.Hears.{hears-declares, whole-joined, multiplied, multiplied-value, term_before, term-before}
use Rattle.mpslp_lp_sentences.proofs.Hears.{is_no_name, hears-lone, hears-signs, hears-signed_number, hears-term, stamped}
use Rattle.mpslp_lp_sentences.proofs.Hears.{onward, ending, hears-goes, side_first, side_rest, side-split, hears-first, hears-relation}
use Rattle.mpslp_lp_sentences.proofs.Hears.{is_elsewhere, whole-opens, whole-bounds, whole-names}
use Rattle.mpslp_lp_tokens.specs.declared.words.Section.TheVariants as sections
use Rattle.mpslp_lp_tokens.specs.declared.words.SectionWord.TheVariants as words

-- ---- how the grammar reads the objective

-- what may follow a constant
abbrev pub is_opening : Terminal → Bool
is_opening (Opens word) = true
is_opening (Sign sign) = true
is_opening _ = false

abbrev pub is_section_word : Terminal → Bool
is_section_word (Opens word) = true
is_section_word _ = false

no_name-opening : (x : Terminal) → is_opening x ≡ true → is_no_name x ≡ true
no_name-opening = grind arith

-- tokens after items begin with an item's sign or as the tokens after them
opening-items : (parts : List Item) (xs : List Terminal) → list_all is_signed_item parts ≡ true
    → is_section_word (first_of_all xs) ≡ true → is_opening (first_of_all (flat_map item_tokens parts ++ xs)) ≡ true
opening-items [] xs h k = grind arith
opening-items (a_term (term (sign ∷ _) _ _) ∷ _) _ h k = refl
opening-items (a_constant (sign ∷ _) _ ∷ _) _ h k = refl
opening-items _ xs h k = absurd cc

-- the sections that are open after the first word
abbrev pub after_word : SectionsSeen
after_word = with_section no_section_seen sections.Objective

module _ (last : ℕ) (later : Tokens) where
  -- ---- one item

  -- a constant after its first sign
  heard-signed_constant : (name : List ℕ) (seen : SectionsSeen) (earlier : Draft) (sign : SignOf)
      (signs : List SignOf) (value : Decimal) (xs : List Terminal) (made : Declarations) → is_opening (first_of_all xs) ≡ true
      → refusals_in_turn earlier (item_declares name (a_constant (sign ∷ signs) value)) ≡ [] → IsWhole last later
      (point_at (InObjective name) seen
      (with_declarations earlier (item_declares name (a_constant (sign ∷ signs) value)))) xs made
      → Hears last later (signed_item (here seen earlier) sign >>= objective_item (here seen earlier) name)
      (sign_tokens signs ++ Number value ∷ xs) (item_declares name (a_constant (sign ∷ signs) value) ++ made)
  heard-signed_constant name seen earlier sign signs value xs made opens h rest = let context = here seen earlier in
      hears-signs last later signs context sign (objective_item context name) (Number value ∷ xs) _
      (hears-signed_number last later context (multiplied sign signs) value (objective_item context name) xs _
      (hears-lone _ _ (multiplied sign signs) value (objective_item context name) xs _ (no_name-opening _ opens)
      (subst (λ v. (n : ℕ) → Hears last later (objective_item context name (items.Lone v (at n (first_of_all
      xs)))) xs (item_declares name (a_constant (sign ∷ signs) value) ++ made))
      (sym (multiplied-value sign signs value)) (λ n. grind arith))))

  -- an item after another one
  whole-later : (name : List ℕ) (seen : SectionsSeen) (earlier : Draft) (part : Item) (xs : List Terminal) (made : Declarations)
      → is_signed_item part ≡ true → is_opening (first_of_all xs) ≡ true → refusals_in_turn earlier (item_declares name part) ≡ []
      → IsWhole last later (point_at (InObjective name) seen (with_declarations earlier (item_declares name part))) xs made
      → IsWhole last later (point_at (InObjective name) seen earlier) (item_tokens part ++ xs) (item_declares name part ++ made)
  whole-later name seen earlier (a_term (term (sign ∷ signs) number column)) xs made s _ h rest =
      subst (λ tokens. IsWhole last later (point_at (InObjective name) seen earlier) tokens
      (item_declares name (a_term (term (sign ∷ signs) number column)) ++ made))
      (term-before (sign ∷ signs) number column xs)
      (whole-begins last later (point_at (InObjective name) seen earlier) (Sign sign)
      (term_before signs number column xs) _
      (λ n. hears-term last later (here _ earlier) sign signs number column (objective_item (here _
      _) name) xs _ (grind arith)))
  whole-later name seen earlier (a_constant (sign ∷ signs) value) xs made s opens h rest = subst (λ tokens. IsWhole last later
      (point_at (InObjective name) seen earlier) tokens (item_declares name (a_constant (sign ∷ signs) value) ++ made))
      (sym (append_assoc (sign_tokens (sign ∷ signs)) (Number value ∷ []) xs))
      (whole-begins last later (point_at (InObjective name) seen earlier) (Sign sign)
      (sign_tokens signs ++ Number value ∷ xs) _
      (λ n. heard-signed_constant name seen earlier sign signs value xs _ opens h rest))
  whole-later name seen earlier _ xs made sign opens h rest = absurd cc

  -- the first item
  whole-first : (name : List ℕ) (seen : SectionsSeen) (earlier : Draft) (part : Item) (xs : List Terminal) (made : Declarations)
      → is_opening (first_of_all xs) ≡ true → refusals_in_turn earlier (item_declares name part) ≡ []
      → IsWhole last later (point_at (InObjective name) seen (with_declarations earlier (item_declares name part))) xs made
      → IsWhole last later (point_at (BeforeItems name) seen earlier) (item_tokens part ++ xs) (item_declares name part ++ made)
  whole-first name seen earlier (a_term (term (sign ∷ signs) number column)) xs made _ h rest =
      subst (λ tokens. IsWhole last later (point_at (BeforeItems name) seen earlier) tokens
      (item_declares name (a_term (term (sign ∷ signs) number column)) ++ made))
      (term-before (sign ∷ signs) number column xs)
      (whole-begins last later (point_at (BeforeItems name) seen earlier) (Sign sign)
      (term_before signs number column xs) _
      (λ n. hears-term last later (here _ earlier) sign signs number column (objective_item (here _
      _) name) xs _ (grind arith)))
  whole-first name seen earlier (a_term (term [] None column)) xs made opens h rest = grind arith
  whole-first name seen earlier (a_term (term [] (Some size) column)) xs made opens h rest = grind arith
  whole-first name seen earlier (a_constant (sign ∷ signs) value) xs made opens h rest = subst (λ tokens. IsWhole last later
      (point_at (BeforeItems name) seen earlier) tokens (item_declares name (a_constant (sign ∷ signs) value) ++ made))
      (sym (append_assoc (sign_tokens (sign ∷ signs)) (Number value ∷ []) xs))
      (whole-begins last later (point_at (BeforeItems name) seen earlier) (Sign sign)
      (sign_tokens signs ++ Number value ∷ xs) _
      (λ n. heard-signed_constant name seen earlier sign signs value xs _ opens h rest))
  whole-first name seen earlier (a_constant [] value) xs made opens h rest = grind arith

  -- ---- items one after another

  whole-items : (name : List ℕ) (seen : SectionsSeen) (parts : List Item) (earlier : Draft) (xs : List Terminal)
      (made : Declarations) → list_all is_signed_item parts ≡ true
      → is_section_word (first_of_all xs) ≡ true → refusals_in_turn earlier (flat_map (item_declares name) parts) ≡ []
      → IsWholeAnywhere last later seen (with_declarations earlier (flat_map (item_declares name) parts)) xs made →
      IsWhole last later (point_at (InObjective name) seen earlier) (flat_map item_tokens parts ++ xs)
      (flat_map (item_declares name) parts ++ made)
  whole-items _ _ [] _ _ _ _ _ h rest = rest _ refl
  whole-items name seen (part ∷ parts) earlier xs made sign opens h rest = let first = item_declares name part in
      let more = flat_map (item_declares name) parts in
      let taken = parts-taken earlier first more h in
      let signs = second_so _ _ sign in
      whole-joined last later (point_at (InObjective name) seen earlier) (item_tokens part) (flat_map item_tokens parts)
      xs first more made (whole-later name seen earlier part (flat_map item_tokens parts ++ xs) _ (first_so _ _ sign)
      (opening-items parts xs signs opens) taken.0 (whole-items name _ parts (with_declarations earlier first) _ _ signs
      opens taken.1 (subst (λ draft. IsWholeAnywhere last later seen draft xs made)
      (with_declarations-append first more earlier) rest)))

  -- all items
  whole-all_items : (name : List ℕ) (seen : SectionsSeen) (parts : List Item) (earlier : Draft) (xs : List Terminal)
      (made : Declarations) → are_items parts ≡ true → is_section_word (first_of_all xs) ≡ true →
      refusals_in_turn earlier (flat_map (item_declares name) parts) ≡ [] →
      IsWholeAnywhere last later seen (with_declarations earlier (flat_map (item_declares name) parts)) xs made
      → IsWhole last later (point_at (BeforeItems name) seen earlier) (flat_map item_tokens parts ++ xs)
      (flat_map (item_declares name) parts ++ made)
  whole-all_items _ _ [] _ _ _ _ _ h rest = rest _ refl
  whole-all_items name seen (part ∷ parts) earlier xs made signs opens h rest = let first = item_declares name part in
      let more = flat_map (item_declares name) parts in
      let taken = parts-taken earlier first more h in
      whole-joined last later (point_at (BeforeItems name) seen earlier) (item_tokens part)
      (flat_map item_tokens parts) xs first more made
      (whole-first name seen earlier part (flat_map item_tokens parts ++ xs) _
      (opening-items parts xs signs opens) taken.0
      (whole-items name _ parts (with_declarations earlier first) _ _ signs opens taken.1
      (subst (λ draft. IsWholeAnywhere last later seen draft xs made) (with_declarations-append first more earlier) rest)))

  -- ---- the objective

  hears-plain : (sense : Sense) (xs : List Terminal) (made : Declarations) → is_no_name (first_of_all xs) ≡ true →
      IsWhole last later (point_at (BeforeItems default_objective) after_word
      (with_declarations empty_draft (objective_declared sense default_objective))) xs made →
      Hears last later (objective_rule (here after_word empty_draft) sense) xs
      (objective_declared sense default_objective ++ made)
  hears-plain = grind arith

  -- a name that is no label: it is the first item
  hears-second : (sense : Sense) (column : List ℕ) (x : Terminal) (n : ℕ) (xs : List Terminal) (made : Declarations)
      → is_opening x ≡ true → refusals_in_turn empty_draft (first_item_declared sense column) ≡ [] → IsWhole last later
      (point_at (InObjective default_objective) after_word
      (with_declarations empty_draft (first_item_declared sense column))) xs made →
      Hears last later (objective_named (here after_word empty_draft) sense column (at n x)) xs
      (first_item_declared sense column ++ made)
  hears-second = grind arith

  hears-objective : (sense : Sense) (label : Option (List ℕ)) (parts : List Item) (xs : List Terminal) (made : Declarations)
      → are_items parts ≡ true → is_section_word (first_of_all xs) ≡ true → refusals_in_turn empty_draft
      (objective_declares (objective sense label parts)) ≡ [] →
      IsWholeAnywhere last later after_word
      (with_declarations empty_draft (objective_declares (objective sense label parts))) xs made →
      Hears last later (objective_rule (here after_word empty_draft) sense)
      (label_tokens label ++ (flat_map item_tokens parts ++ xs))
      (objective_declares (objective sense label parts) ++ made)
  hears-objective sense (Some name) parts xs _ signs opens h rest = let context = here after_word empty_draft in
      let tokens = flat_map item_tokens parts ++ xs in hears-ahead last later (objective_from context sense)
      (Name name ∷ Colon ∷ tokens) _ (λ n. hears-next last later (λ first. ahead >>= objective_named context sense name)
      (Name name) (Colon ∷ tokens) _ (λ m. hears-ahead last later (objective_named context sense name) (Colon ∷ tokens) _
      (λ k. hears-next last later (λ colon. declares context (at k Colon) (BeforeItems name)
      (objective_declared sense name)) Colon tokens _
      (λ j. hears-declares last later context (at k Colon) (BeforeItems name) (objective_declared sense name)
      tokens _ refl (whole-all_items name _ parts
      (with_declarations empty_draft (objective_declared sense name)) _ _ signs opens h rest)))))
  hears-objective sense None [] xs made signs opens h rest = grind arith
  hears-objective sense None (a_term (term (sign ∷ more) number column) ∷ parts) xs _ signs opens h rest = hears-plain _ (flat_map
      item_tokens (a_term (term (sign ∷ more) number column) ∷ parts) ++ xs) _ refl
      (whole-all_items default_objective _ (a_term (term (sign ∷ more) number _) ∷ parts)
      (with_declarations empty_draft (objective_declared sense default_objective)) _ _ signs opens h rest)
  hears-objective sense None (a_term (term [] (Some size) column) ∷ parts) xs _ signs opens h rest = hears-plain _
      (flat_map item_tokens (a_term (term [] (Some size) column) ∷ parts) ++ xs) _ refl
      (whole-all_items default_objective _ (a_term (term [] (Some size) _) ∷ parts)
      (with_declarations empty_draft (objective_declared sense default_objective)) _ _ signs opens h rest)
  hears-objective sense None (a_constant (sign ∷ more) value ∷ parts) xs _ signs opens h rest = hears-plain _
      (flat_map item_tokens (a_constant (sign ∷ more) value ∷ parts) ++ xs) _ refl
      (whole-all_items default_objective _ (a_constant (sign ∷ more) value ∷ parts)
      (with_declarations empty_draft (objective_declared sense default_objective)) _ _ signs opens h rest)
  hears-objective sense None (a_constant [] value ∷ parts) xs _ signs opens h rest =
      hears-plain _ (flat_map item_tokens (a_constant [] value ∷ parts) ++ xs) _ refl (whole-all_items default_objective _
      (a_constant [] value ∷ parts) (with_declarations empty_draft (objective_declared sense default_objective)) _ _
      signs opens h rest)
  hears-objective sense None (a_term (term [] None column) ∷ parts) xs made signs opens h rest =
      let context = here after_word empty_draft in
      let tokens = flat_map item_tokens parts ++ xs in
      let first = first_item_declared sense column in
      let more = flat_map (item_declares default_objective) parts in
      let taken = parts-taken empty_draft first more h in
      hears-ahead last later (objective_from context sense) (Name column ∷ tokens) _
      (λ n. hears-next last later (λ first_token. ahead >>= objective_named context sense column) (Name column) tokens _
      (λ m. hears-ahead last later (objective_named context sense column) tokens _
      (λ k. hears-second _ _ (first_of_all tokens) k tokens _ (opening-items parts xs signs opens) taken.0
      (whole-items _ _ _ (with_declarations empty_draft first) _ _ signs opens taken.1
      (subst (λ draft. IsWholeAnywhere last later after_word draft xs made)
      (with_declarations-append first more empty_draft) rest)))))

  begun : (sense : Sense) (xs : List Terminal) (made : Declarations) → Hears last later
      (objective_rule (here after_word empty_draft) sense) xs made → IsWhole last later start (Opens (sense_word sense) ∷ xs) made
  begun = grind arith

  -- the objective, and then a section or the end
  pub whole-objective : (part : Objective) (xs : List Terminal) (made : Declarations)
      → is_objective part ≡ true → is_section_word (first_of_all xs) ≡ true →
      refusals_in_turn empty_draft (objective_declares part) ≡ [] →
      IsWholeAnywhere last later after_word (with_declarations empty_draft (objective_declares part)) xs made
      → IsWhole last later start (objective_tokens part ++ xs) (objective_declares part ++ made)
  whole-objective (objective sense label parts) xs made signs opens h rest = subst (λ tokens. IsWhole last later start
      (Opens (sense_word sense) ∷ tokens) (objective_declares (objective sense label parts) ++ made)) (sym (append_assoc
      (label_tokens label) (flat_map item_tokens parts) xs))
      (begun sense _ _ (hears-objective _ label parts xs _ signs opens h rest))

-- ---- what is known of rows that are not rejected: their columns are new in the row, and each row adds one to their
-- number

abbrev pub Pair : Type 0
Pair = List ℕ × Decimal

-- ---- columns of a row

-- so the columns of terms that are not rejected are new
pub terms-new : (owner : List ℕ) (terms : List Pair) (earlier : Draft) (seen : List Pair) → refusals_in_turn earlier
    (flat_map (term_declared owner) terms) ≡ [] →
    ((column : List ℕ) → has_coefficient earlier (record { row = owner; column = column }) ≡ false →
    list_any (λ (entry : Pair). same_bytes column entry.0) seen ≡ false) → AreNew seen terms
terms-new _ [] _ _ h _ = tt
terms-new owner (entry ∷ terms) earlier seen h known =
    let taken = parts-taken earlier (term_declared owner entry) (flat_map (term_declared owner) terms) h in (
      known _ (grind arith),
      terms-new _ terms (with_declarations earlier (term_declared owner entry)) _ taken.1 further,
    )
  where
    any-append : (column : List ℕ) (xs : List Pair) → list_any (λ (t : Pair). same_bytes column t.0) xs ≡ false
        → same_bytes column entry.0 ≡ false → list_any (λ (t : Pair). same_bytes column t.0) (xs ++ entry ∷ []) ≡ false
    any-append _ [] a b = ap (λ s. s || false) b
    any-append column (x ∷ xs) a b = let parts = nor _ _ a in
        ap (λ s. s || list_any (λ t. same_bytes column t.0) (xs ++ entry ∷ [])) parts.0 ∙ any-append _ xs parts.1 b

    further : (column : List ℕ) → has_coefficient (with_declarations earlier (term_declared owner entry))
        (record { row = owner; column = column }) ≡ false →
        list_any (λ (t : Pair). same_bytes column t.0) (seen ++ entry ∷ []) ≡ false
    further = grind (arith, nor, has-put_key, any-append, itself_named)

-- ---- the number of rows

terms-rows : (owner : List ℕ) (terms : List Pair) (earlier : Draft) →
    (with_declarations earlier (flat_map (term_declared owner) terms)).rows ≡ earlier.rows
terms-rows _ [] _ = refl
terms-rows _ (entry ∷ terms) _ = terms-rows _ terms _

new_name : (earlier : Draft) (name : List ℕ) (form : RowDefinition)
    → refusals_in_turn earlier (declare_row name form ∷ []) ≡ [] → is_some (find bytes_cmp name earlier.rows) ≡ false
new_name = grind arith

-- a row that is not rejected adds one
pub row-adds : (earlier : Draft) (name : List ℕ) (form : RowDefinition) (terms : List Pair)
    → IsSortedDraft earlier → refusals_in_turn earlier (declare_row name form ∷ flat_map (term_declared name) terms) ≡ []
    → length (with_declarations earlier (declare_row name form ∷ flat_map (term_declared name) terms)).rows ≡ length
    earlier.rows + 1
row-adds earlier name form terms sorted h =
    ap length (terms-rows name terms (with_declaration earlier (declare_row _ _)))
    ∙ length-put bytes_cmp nat_list_cmp_total name form earlier.rows sorted.rows
    ∙ ap (λ b. cond b (length earlier.rows) (length earlier.rows + 1))
    (new_name earlier name form (parts-taken earlier (declare_row _ _ ∷ [])
    (flat_map (term_declared name) terms) h).0)

-- ---- how the grammar reads rows

-- a column and its coefficient
abbrev pub pair : Term → Pair
pair (term signs number column) = (column, coefficient signs number)

pub terms-declare : (name : List ℕ) (terms : List Term) →
    flat_map (term_declared name) (map pair terms) ≡ flat_map (term_declares name) terms
terms-declare _ [] = refl
terms-declare name (term signs number column ∷ terms) = grind (arith, terms-declare name terms)

abbrev pub row_at : List ℕ → Option (Limit × Relation) → List Pair → PartialRow
row_at name left terms = record { name = name; left = left; terms = terms }

abbrev pub in_row : SectionsSeen → Draft → List ℕ → Option (Limit × Relation) → List Pair → Point
in_row sections_seen earlier name left terms = point_at (InRow (row_at name left terms)) sections_seen earlier

-- the first token of a term, and its others before further tokens
abbrev term_first : List SignOf → Option Decimal → List ℕ → Terminal
term_first (sign ∷ signs) number column = Sign sign
term_first [] None column = Name column
term_first [] (Some size) column = Number size

abbrev term_rest : List SignOf → Option Decimal → List ℕ → List Terminal → List Terminal
term_rest (sign ∷ signs) number column xs = term_before signs number column xs
term_rest [] None column xs = xs
term_rest [] (Some size) column xs = Name column ∷ xs

term-split : (signs : List SignOf) (number : Option Decimal) (column : List ℕ) (xs : List Terminal)
    → term_first signs number column ∷ term_rest signs number column xs ≡ term_before signs number column xs
term-split = grind arith

abbrev is_no_colon : Terminal → Bool
is_no_colon Colon = false
is_no_colon _ = true

module _ (last : ℕ) (later : Tokens) (sections_seen : SectionsSeen) (earlier : Draft) where
  -- ---- the first term

  hears-first_term : (name : List ℕ) (signs : List SignOf) (number : Option Decimal) (column : List ℕ) (xs : List Terminal)
      (made : Declarations) → IsWhole last later
      (in_row sections_seen earlier name None ((column, coefficient signs number) ∷ [])) xs made
      → (n : ℕ) → Hears last later
      (row_from (here sections_seen earlier) name (at n (term_first signs number column))) (term_rest signs number column xs) made
  hears-first_term name (sign ∷ []) None column xs made rest n = grind arith
  hears-first_term name (sign ∷ []) (Some size) column xs made rest n = grind arith
  hears-first_term name (sign ∷ second ∷ signs) number column xs _ rest n = let context = here sections_seen earlier in
      hears-ahead last later (row_signed _ _ _) (Sign second ∷ term_before signs number column xs) _
      (λ m. hears-term last later context sign (second ∷ signs) number column
      (row_item context (without_terms name None)) xs _ (grind arith))
  hears-first_term name [] None column xs made rest n = grind arith
  hears-first_term name [] (Some size) column xs made rest n = grind arith

  -- ---- the left side

  -- a left side is what precedes a relation
  hears-left : (name : List ℕ) (part : Side) (relation : Relation) (xs : List Terminal) (made : Declarations)
      → Hears last later (row_after_left (here sections_seen earlier) name (limit part)) (Compares relation ∷ xs) made →
      (n : ℕ) → Hears last later (row_from (here sections_seen earlier) name (at n (side_first part)))
      (side_rest part (Compares relation ∷ xs)) made
  hears-left = grind arith

  hears-after_left : (name : List ℕ) (value : Limit) (relation : Relation)
      (signs : List SignOf) (number : Option Decimal) (column : List ℕ) (xs : List Terminal) (made : Declarations) →
      IsWhole last later (in_row sections_seen earlier name (Some (value, relation))
      ((column, coefficient signs number) ∷ [])) xs made →
      Hears last later (row_after_left (here sections_seen earlier) name value)
      (Compares relation ∷ term_before signs number column xs) made
  hears-after_left name value relation signs number column xs _ rest = let context = here sections_seen earlier in
      hears-relation last later context relation
      (λ r. next >>= row_first context (without_terms name (Some (value, r)))) (term_before signs number column xs) _
      (hears-first last later context signs number column
      (row_item context (without_terms name (Some (value, relation)))) xs _ (grind arith))

  -- ---- the label

  labelled : (name : List ℕ) (xs : List Terminal) (made : Declarations) →
      Hears last later (next >>= row_from (here sections_seen earlier) name) xs made →
      IsWhole last later (point_at BetweenRows sections_seen earlier) (Name name ∷ Colon ∷ xs) made
  labelled name xs _ h = whole-begins last later (point_at BetweenRows sections_seen earlier) (Name name) (Colon ∷ xs) _
      (λ n line. listened-one ((next >>= row_from (here sections_seen earlier) name)
      (stamped (onward line) xs (ending last later))) (at (line 0) Colon)
      (stamped (onward line) xs (ending last later)) ∙ h (onward line))

  -- a name that no colon follows
  unlabelled : (column : List ℕ) (xs : List Terminal) (made : Declarations) → is_no_colon (first_of_all xs) ≡ true
      → Hears last later (row_named (here sections_seen earlier) column false) xs made
      → (n : ℕ) → Hears last later (colon >>= row_named (here sections_seen earlier) column) xs made
  unlabelled column xs made no_colon h n line = grind arith

  -- the label and the first term
  whole-first_term : (label : Option (List ℕ)) (signs : List SignOf) (number : Option Decimal)
      (column : List ℕ) (xs : List Terminal) (made : Declarations) → is_no_colon (first_of_all xs) ≡ true → IsWhole last later
      (in_row sections_seen earlier (row_name (length earlier.rows + 1) label) None
      ((column, coefficient signs number) ∷ [])) xs made →
      IsWhole last later (point_at BetweenRows sections_seen earlier)
      (label_tokens label ++ term_before signs number column xs) made
  whole-first_term (Some name) signs number column xs made _ rest = subst (λ tokens. IsWhole last later
      (point_at BetweenRows sections_seen earlier) (Name name ∷ Colon ∷ tokens) made) (term-split signs number column xs)
      (labelled name (term_first signs number column ∷ term_rest signs number column xs) _
      (hears-next last later (row_from (here _ _) name) (term_first signs number column)
      (term_rest signs number column xs) _ (hears-first_term name signs number column xs _ rest)))
  whole-first_term None (sign ∷ signs) number column xs _ _ rest =
      whole-begins last later (point_at BetweenRows sections_seen earlier) (Sign sign) (term_before signs number column xs) _
      (hears-first_term (default_row (here sections_seen earlier)) (sign ∷ signs) number column xs _ rest)
  whole-first_term None [] (Some size) column xs made no_colon rest = grind arith
  whole-first_term None [] None column xs made no_colon rest = grind arith

  -- the label, the left side and the first term
  whole-left_side : (label : Option (List ℕ)) (part : Side)
      (relation : Relation) (signs : List SignOf) (number : Option Decimal) (column : List ℕ) (xs : List Terminal)
      (made : Declarations) → IsWhole last later
      (in_row sections_seen earlier (row_name (length earlier.rows + 1) label) (Some (limit part, relation))
      ((column, coefficient signs number) ∷ [])) xs made → IsWhole last later (point_at BetweenRows sections_seen earlier)
      (label_tokens label ++ (side_tokens part ++ Compares relation ∷ term_before signs number column xs)) made
  whole-left_side (Some name) part relation signs number column xs made rest = let tokens = Compares relation ∷ term_before
      signs number column xs in subst (λ ys. IsWhole last later (point_at BetweenRows sections_seen earlier)
      (Name name ∷ Colon ∷ ys) made) (side-split part tokens) (labelled name (side_first part ∷ side_rest part tokens) _
      (hears-next last later (row_from (here _ _) name) (side_first part) (side_rest part tokens) _ (hears-left name part relation
      (term_before signs number column xs) _ (hears-after_left name (limit part) relation signs number column xs _ rest))))
  whole-left_side None part relation signs number column xs made rest = let name = default_row (here sections_seen earlier) in
      let tokens = Compares relation ∷ term_before signs number column xs in
      subst (λ ys. IsWhole last later (point_at BetweenRows sections_seen earlier) ys made) (side-split part tokens)
      (whole-begins last later (point_at BetweenRows sections_seen earlier) (side_first part) (side_rest part tokens) _
      (λ n line. (grind arith) ∙ hears-left name part
      relation (term_before signs number column xs) _
      (hears-after_left name (limit part) relation signs number column xs _ rest) n line))

  -- ---- further terms

  whole-terms : (name : List ℕ) (left : Option (Limit × Relation))
      (terms : List Term) (seen : List Pair) (xs : List Terminal) (made : Declarations) → list_all is_signed_term terms ≡ true
      → AreNew seen (map pair terms) →
      IsWhole last later (in_row sections_seen earlier name left (seen ++ map pair terms)) xs made
      → IsWhole last later (in_row sections_seen earlier name left seen) (terms_tokens terms ++ xs) made
  whole-terms name left [] seen xs made signs new rest = grind (arith, append-nil)
  whole-terms name left (term [] number column ∷ terms) seen xs made signs new rest = absurd cc
  whole-terms name left (term (sign ∷ more) number column ∷ terms) seen xs made signs new rest = let context =
      here sections_seen earlier in
      let tokens = terms_tokens terms ++ xs in
      let value = coefficient (sign ∷ more) number in
      subst (λ ys. IsWhole last later (in_row sections_seen earlier name left seen) ys made)
      (term-before (sign ∷ more) number column tokens
      ∙ sym (append_assoc (term_tokens (term (sign ∷ more) number column)) (terms_tokens terms) xs))
      (whole-begins last later (in_row sections_seen earlier name left seen) (Sign sign) (term_before more number column tokens) _
      (λ n. hears-term last later context sign more number column (row_item _ _) tokens _
      (λ m line. ap (λ b. listened (if b then refuses context (at m (Name column)) DuplicateEntry else goes_to
      context (InRow (row_at name left (seen ++ (column, value) ∷ []))) [])
      (stamped line tokens (ending last later))) new.0 ∙ hears-goes last later context (InRow (row_at name left
      (seen ++ (column, value) ∷ []))) [] tokens _
      (whole-terms name left terms _ xs _ signs new.1
      (subst (λ all. IsWhole last later (in_row sections_seen earlier name left all) xs made)
      (sym (append_assoc seen ((column, value) ∷ []) (map _ _))) rest)) line)))
  -- ---- the end of a row

-- ---- whole rows

pub declared-is : (name : List ℕ) (relation : Relation) (value : Limit) (terms : List Term)
    → row_declared (row_at name None (map pair terms)) (sides_by relation value) ≡ row_with name (limits_by relation value) terms
declared-is = grind (arith, terms-declare)

-- the limits of a row, of which one may be missing
abbrev definition_of : Limits → RowDefinition
definition_of limits = by_limits (unwrap_or limits.lower MinusInf) (unwrap_or limits.upper PlusInf)

-- after a term a sign or a relation follows, and no colon
colon-free : (terms : List Term) (relation : Relation) (xs : List Terminal)
    → list_all is_signed_term terms ≡ true → is_no_colon (first_of_all (terms_tokens terms ++ Compares relation ∷ xs)) ≡ true
colon-free (term [] number column ∷ terms) relation xs h = absurd cc
colon-free _ _ _ h = refl

-- the columns of a row that is not rejected
row-new : (earlier : Draft) (name : List ℕ) (form : RowDefinition) (terms : List Pair)
    → refusals_in_turn earlier (declare_row name form ∷ flat_map (term_declared name) terms) ≡ [] → AreNew [] terms
row-new = grind (arith, terms-new, parts-taken)

-- the tokens of a row, in the order in which they are read
pub row-order : (label first more end xs : List Terminal) →
    (label ++ ((first ++ more) ++ end)) ++ xs ≡ label ++ (first ++ (more ++ (end ++ xs)))
row-order = grind (arith, append_assoc)

pub between-order : (label left first more end xs : List Terminal) (relation : Terminal)
    → (label ++ (left ++ relation ∷ ((first ++ more) ++ end))) ++ xs ≡ label ++
    (left ++ relation ∷ (first ++ (more ++ (end ++ xs))))
between-order = grind (arith, append_assoc)

-- a row adds one to the rows
adds-one : (earlier : Draft) (name : List ℕ) (form : RowDefinition) (terms : List Term) → IsSortedDraft earlier →
    refusals_in_turn earlier (row_with name form terms) ≡ [] →
    length (with_declarations earlier (row_with name form terms)).rows ≡ length earlier.rows + 1
adds-one earlier name form _ sorted h = subst (λ ds. refusals_in_turn earlier (declare_row name form ∷ ds) ≡ [] → length
    (with_declarations earlier (declare_row name form ∷ ds)).rows ≡ length earlier.rows + 1) (terms-declare _ _)
    (row-adds _ _ _ _ sorted) h

pub row-counted : (place : ℕ) (part : Row) (earlier : Draft) → IsSortedDraft earlier → refusals_in_turn earlier
    (row_declares (place, part)) ≡ [] →
    length (with_declarations earlier (row_declares (place, part))).rows ≡ length earlier.rows + 1
row-counted _ (row _ _ _ _) _ sorted h = adds-one _ _ _ _ sorted h
row-counted _ (row_between _ _ terms _) _ sorted h = adds-one _ _ _ terms sorted h
row-counted _ (row_from_above _ _ terms _) _ sorted h = adds-one _ _ _ terms sorted h

module _ (last : ℕ) (later : Tokens) (sections_seen : SectionsSeen) where
  abbrev At : Draft → List Terminal → Declarations → Type 0
  At earlier xs made = IsWhole last later (point_at BetweenRows sections_seen earlier) xs made

  -- if the row is not rejected, and whatever follows it
  abbrev Reads : Draft → List Terminal → Declarations → Type 0
  Reads earlier tokens ds = (xs : List Terminal) (made : Declarations)
      → refusals_in_turn earlier ds ≡ [] → At (with_declarations earlier ds) xs made → At earlier (tokens ++ xs) (ds ++ made)

  reads-row : (part : Row) (earlier : Draft) → is_row part ≡ true →
      Reads earlier (row_tokens part) (row_declares (length earlier.rows + 1, part))
  reads-row (row label (term signs number column ∷ terms) relation right) earlier ok = let name = row_name (length _ + 1) label in
      let all =
      term _ _ _ ∷ terms in subst (Reads earlier (row_tokens (row label all relation right)))
      (declared-is _ relation (limit right) all) (λ
      xs made h rest. let new = row-new earlier name (definition_of (sides_by relation (limit right))) (map pair all) h in
      let end : List
      Terminal = Compares relation ∷ (side_tokens right ++ xs) in
      subst (λ (tokens : List Terminal). At earlier tokens (row_declared (row_at
      name None (map pair all)) (sides_by relation (limit right)) ++ made))
      (ap (λ (tokens : List Terminal). label_tokens label ++ tokens)
      (term-before signs number column (terms_tokens terms ++ end))
      ∙ sym (row-order (label_tokens label) (term_tokens (term signs number column)) (terms_tokens terms)
      (Compares relation ∷ side_tokens right) xs)) (whole-first_term last later sections_seen earlier label
      signs number column (terms_tokens terms ++ end) _ (colon-free terms relation (side_tokens right ++ xs) ok)
      (whole-terms _ _ _ _ _ _ _ _ _ _ ok new.1 (grind arith))))
  reads-row (row_between label lower (term signs number column ∷ terms) upper) earlier ok =
      let name = row_name (length earlier.rows + 1) label in
      let all : List Term = term signs number column ∷ terms in
      let left : Option
      (Limit × Relation) = Some (limit lower, AtMost) in subst (Reads earlier (row_tokens (row_between label lower all upper)))
      (ap (λ (more : Declarations). declare_row name (by_limits (limit lower) (limit upper)) ∷ more) (terms-declare name all))
      (λ xs made h rest. let new = row-new earlier name (by_limits (limit lower) (limit upper)) (map pair all) h in
      let end : List
      Terminal = Compares AtMost ∷ (side_tokens upper ++ xs) in subst (λ (tokens : List Terminal). At earlier tokens (row_declared
      (row_at name left (map pair all)) (row_limits left AtMost (limit upper)) ++ made))
      (ap (λ (tokens : List Terminal). label_tokens label ++ (side_tokens lower ++ Compares AtMost ∷ tokens))
      (term-before signs number column (terms_tokens terms ++ end))
      ∙ sym (between-order (label_tokens label) (side_tokens lower) (term_tokens (term signs number column))
      (terms_tokens terms) (Compares AtMost ∷ side_tokens upper) xs (Compares AtMost)))
      (whole-left_side last later sections_seen earlier label lower AtMost signs number column
      (terms_tokens terms ++ end) _ (whole-terms last later sections_seen earlier name left terms
      ((column, coefficient signs number) ∷ []) end _ ok new.1 (grind arith))))
  reads-row (row_from_above label upper (term signs number column ∷ terms) lower) earlier ok = let name =
      row_name (length earlier.rows + 1)
      label in
      let all : List Term = term signs number column ∷ terms in
      let left : Option (Limit × Relation) = Some (limit upper, AtLeast)
      in subst (Reads earlier (row_tokens (row_from_above label upper all lower)))
      (ap (λ (more : Declarations). declare_row name (by_limits
      (limit lower) (limit upper)) ∷ more) (terms-declare name all)) (λ xs made h rest. let new =
      row-new earlier name (by_limits (limit
      lower) (limit upper)) (map pair all) h in
      let end : List Terminal = Compares AtLeast ∷ (side_tokens lower ++ xs) in subst (λ (tokens :
      List Terminal). At earlier tokens
      (row_declared (row_at name left (map pair all)) (row_limits left AtLeast (limit lower)) ++ made))
      (ap (λ (tokens : List Terminal). label_tokens label ++ (side_tokens upper ++ Compares AtLeast ∷ tokens))
      (term-before signs number column (terms_tokens terms ++ end))
      ∙ sym (between-order (label_tokens label) (side_tokens upper) (term_tokens (term signs number
      column)) (terms_tokens terms) (Compares AtLeast ∷ side_tokens lower) xs (Compares AtLeast)))
      (whole-left_side last later sections_seen earlier label upper AtLeast signs number column
      (terms_tokens terms ++ end) _ (whole-terms _ _ _ _ _ _ _ _ _ _ ok new.1 (grind arith))))
  reads-row _ earlier ok = absurd cc

  pub whole-rows : (parts : List Row) (place : ℕ) (earlier : Draft) (xs : List Terminal) (made : Declarations)
      → list_all is_row parts ≡ true → place ≡ length earlier.rows + 1 → IsSortedDraft earlier
      → refusals_in_turn earlier (flat_map row_declares (enumerate_from place parts)) ≡ [] →
      IsWholeAnywhere last later sections_seen
      (with_declarations earlier (flat_map row_declares (enumerate_from place parts))) xs made →
      IsWhole last later (point_at BetweenRows sections_seen earlier) (flat_map row_tokens parts ++ xs)
      (flat_map row_declares (enumerate_from place parts) ++ made)
  whole-rows [] _ _ _ _ _ _ _ h rest = rest _ refl
  whole-rows (part ∷ parts) place earlier xs made ok is sorted h rest = let first = row_declares (place, part) in
      let more = flat_map row_declares (enumerate_from _ _) in
      let taken = parts-taken earlier first more h in
      whole-joined last later (point_at BetweenRows sections_seen earlier) (row_tokens part) (flat_map row_tokens parts)
      xs first more made (subst (λ p. Reads earlier (row_tokens part) (row_declares (p, part))) (sym is)
      (reads-row _ _ (first_so _ _ ok)) (flat_map row_tokens parts ++ xs) (more ++ made) taken.0
      (whole-rows parts _ _ _ _ (second_so _ _ ok)
      (ap (λ p. p + 1) (is ∙ sym (row-counted place part _ sorted taken.0)))
      (sorted-with_declarations first _ sorted) taken.1
      (subst (λ draft. IsWholeAnywhere last later sections_seen draft xs made)
      (with_declarations-append first more earlier) rest)))

-- ---- how the grammar reads the sections of a file, and the file

-- the tokens of a file before its `end`
abbrev pub front_tokens : File → List Terminal
front_tokens (file first second parts) = objective_tokens first ++ (row_section_tokens second ++ flat_map section_tokens parts)

-- ---- sections that were opened

abbrev pub kind_of : Section → Kind
kind_of (bounds lines) = sections.Bounds
kind_of (generals names) = sections.Generals
kind_of (binaries names) = sections.Binaries
kind_of (semis opening names) = sections.SemiContinuous

-- in a file that has begun and not ended
pub record IsInside (seen : SectionsSeen) : Type 0 where
  pub begun : seen.objective ≡ true
  pub open_still : seen.end ≡ false

pub inside-after : (part : Section) (seen : SectionsSeen) → IsInside seen → IsInside (with_section seen (kind_of part))
inside-after = grind arith

abbrev pub is_fresh : SectionsSeen → Section → Bool
is_fresh seen part = not (has_seen seen (kind_of part))

may-open : (part : Section) (seen : SectionsSeen) → IsInside seen → has_seen seen (kind_of part) ≡ false →
    section_fault seen (kind_of part) ≡ None
may-open = grind arith

fresh-still : (first part : Section) (seen : SectionsSeen)
    → same_section first part ≡ false → has_seen (with_section seen (kind_of first)) (kind_of part) ≡ has_seen seen (kind_of part)
fresh-still = grind arith

all-fresh_still : (first : Section) (parts : List Section) (seen : SectionsSeen) → list_any (same_section first) parts ≡ false
    → list_all (is_fresh seen) parts ≡ true → list_all (is_fresh (with_section seen (kind_of first))) parts ≡ true
all-fresh_still _ [] _ _ _ = refl
all-fresh_still _ (part ∷ parts) _ apart fresh = let both = nor _ _ apart in
    both_so _ _ (ap not (fresh-still _ _ _ both.0) ∙ first_so _ _ fresh) (all-fresh_still _ parts _ both.1 (second_so _ _ fresh))

-- ---- first tokens

-- no sign, so that `semi` is the whole heading
abbrev is_plain : Terminal → Bool
is_plain (Sign sign) = false
is_plain _ = true

plain-names : (names : List (List ℕ)) (xs : List Terminal) → is_section_word (first_of_all xs) ≡ true →
    is_plain (first_of_all (name_tokens names ++ xs)) ≡ true
plain-names [] _ h = (grind arith)
plain-names (name ∷ _) _ h = refl

sections-begin : (parts : List Section) → are_sections parts ≡ true →
    is_section_word (first_of_all (flat_map section_tokens parts)) ≡ true
sections-begin [] h = refl
sections-begin (part ∷ parts) h = grind arith

row_section-begins : (part : RowSection) (xs : List Terminal) → is_row_section part ≡ true
    → is_section_word (first_of_all xs) ≡ true → is_section_word (first_of_all (row_section_tokens part ++ xs)) ≡ true
row_section-begins = grind arith

-- ---- the objective declares no rows

items-rows : (name : List ℕ) (parts : List Item) (earlier : Draft) →
    (with_declarations earlier (flat_map (item_declares name) parts)).rows ≡ earlier.rows
items-rows _ [] _ = refl
items-rows name (part ∷ parts) earlier =
    grind (arith, with_declarations-append, items-rows name parts (with_declarations earlier (item_declares name part)))

pub objective-rows : (part : Objective) → (with_declarations empty_draft (objective_declares part)).rows ≡ []
objective-rows (objective _ label parts) = items-rows (objective_name label) parts _

-- ---- nothing was opened

before-rows : (parts : List Section) → list_all (is_fresh after_word) parts ≡ true
before-rows [] = refl
before-rows (bounds _ ∷ parts) = before-rows parts
before-rows (generals _ ∷ parts) = before-rows parts
before-rows (binaries _ ∷ parts) = before-rows parts
before-rows (semis _ _ ∷ parts) = before-rows parts

abbrev pub after_rows : SectionsSeen
after_rows = with_section after_word sections.Rows

after-rows : (parts : List Section) → list_all (is_fresh after_rows) parts ≡ true
after-rows [] = refl
after-rows (bounds _ ∷ parts) = after-rows parts
after-rows (generals _ ∷ parts) = after-rows parts
after-rows (binaries _ ∷ parts) = after-rows parts
after-rows (semis _ _ ∷ parts) = after-rows parts

module _ (last : ℕ) (later : Tokens) where
  -- ---- one section

  -- what follows `semi` if no dash does
  hears-semi : (context : Context) (x : Terminal) (n : ℕ) (xs : List Terminal) (made : Declarations) → is_plain x ≡ true → IsWhole
      last later (point_at InSemis context.sections_seen context.builder) xs made →
      Hears last later (semi_from context (at n x)) xs made
  hears-semi = grind arith

  whole-section : (part : Section) (place : Place) (seen : SectionsSeen) (earlier : Draft) (xs : List Terminal)
      (made : Declarations) → may_begin_section place ≡ true → section_fault seen (kind_of part) ≡ None
      → is_section part ≡ true → is_section_word (first_of_all xs) ≡ true → refusals_in_turn earlier (section_declares part) ≡ []
      → IsWholeAnywhere last later (with_section seen (kind_of part)) (with_declarations earlier (section_declares part)) xs made
      → IsWhole last later (point_at place seen earlier) (section_tokens part ++ xs) (section_declares part ++ made)
  whole-section (bounds lines) place seen earlier xs made may fault ok opens h rest =
      grind (arith, whole-opens, hears-goes, here, whole-bounds)
  whole-section (generals names) place seen earlier xs made may fault ok opens h rest =
      grind (arith, whole-opens, hears-goes, here, whole-names)
  whole-section (binaries names) place seen earlier xs made may fault ok opens h rest =
      grind (arith, whole-opens, hears-goes, here, whole-names)
  whole-section (semis (Opens words.Semi ∷ []) names) _ seen earlier xs _ may fault _ opens h rest =
      whole-opens last later _ seen earlier words.Semi (name_tokens names ++ xs) _ may fault (λ n. hears-ahead last later
      (semi_from (here _ _)) (name_tokens names ++ xs) _ (λ m. hears-semi (here _ _) (first_of_all (name_tokens names ++ xs)) m
      (name_tokens names ++ xs) _ (plain-names names xs opens)
      (whole-names _ _ InSemis _ _ (λ a b c d. refl) refl _ _ _ _ h rest)))
  whole-section (semis (Opens words.Semis ∷ []) names) place seen earlier xs made may fault ok opens h rest =
      grind (arith, whole-opens, hears-goes, here, whole-names)
  whole-section (semis (Opens words.Semi ∷ Sign Minus ∷ Name word ∷ []) names) place seen earlier xs made may fault ok
      opens h rest =
      grind (arith, here, whole-opens, hears-ahead, hears-next, whole-names)
  whole-section (semis _ names) place seen earlier xs made may fault ok opens h rest = absurd cc

  -- ---- all sections, and the end

  pub whole-sections : (parts : List Section) (seen : SectionsSeen) (earlier : Draft) → is_elsewhere last later ≡ true →
      IsInside seen → list_all (is_fresh seen) parts ≡ true → are_sections parts ≡ true →
      refusals_in_turn earlier (flat_map section_declares parts) ≡ [] →
      IsWholeAnywhere last later seen earlier (flat_map section_tokens parts) (flat_map section_declares parts)
  whole-sections [] seen earlier elsewhere inside fresh ok h place may = grind arith
  whole-sections (part ∷ parts) seen earlier elsewhere inside fresh ok h _ may = let more = flat_map section_declares parts in
      let taken = parts-taken earlier (section_declares part) more h in
      let good = first_so _ _ ok in
      let others = second_so _ _ ok in
      let apart = not_so _ (first_so _ _ others) in
      let later_ok = second_so _ _ others in whole-section _ _ _ _ _ _ may
      (may-open _ _ inside (not_so _ (first_so _ _ fresh))) good (sections-begin parts later_ok) taken.0
      (whole-sections parts _ _ elsewhere (inside-after _ _ inside)
      (all-fresh_still part parts seen apart (second_so _ _ fresh)) later_ok taken.1)

  -- ---- the rows

  whole-opening : (opening : List Terminal) (place : Place) (earlier : Draft) (xs : List Terminal) (made : Declarations)
      → may_begin_section place ≡ true → opens_rows opening ≡ true →
      IsWhole last later (point_at BetweenRows after_rows earlier) xs made →
      IsWhole last later (point_at place after_word earlier) (opening ++ xs) made
  whole-opening = grind arith

  whole-second : (second : RowSection) (parts : List Section) (earlier : Draft) → earlier.rows ≡ [] → IsSortedDraft earlier
      → is_row_section second ≡ true → is_elsewhere last later ≡ true → are_sections parts ≡ true → refusals_in_turn earlier
      (row_section_declares second ++ flat_map section_declares parts) ≡ [] → IsWholeAnywhere last later after_word earlier
      (row_section_tokens second ++ flat_map section_tokens parts)
      (row_section_declares second ++ flat_map section_declares parts)
  whole-second no_rows parts earlier none sorted ok elsewhere good h place may =
      grind (arith, whole-sections, after_word, before-rows)
  whole-second (rows opening lines) parts earlier none sorted ok elsewhere good h place may =
      let made = flat_map row_declares (enumerate_from 1 _) in
      let taken = parts-taken earlier made (flat_map section_declares parts) h in
      subst (λ tokens. IsWhole last later (point_at place after_word earlier) tokens (made ++ flat_map section_declares parts))
      (sym (append_assoc opening (flat_map row_tokens lines) (flat_map section_tokens parts)))
      (whole-opening opening _ earlier (flat_map row_tokens lines ++ flat_map section_tokens parts) _ may
      (first_so _ _ ok) (whole-rows last later after_rows lines 1 _ (flat_map section_tokens parts) _
      (second_so _ _ ok) (ap (λ entries. length entries + 1) (sym none)) sorted taken.0 (whole-sections parts
      after_rows (with_declarations earlier made) elsewhere (record { begun = refl; open_still = refl })
      (after-rows parts) good taken.1)))

  -- ---- the file

  pub whole-file : (whole : File) → is_file whole ≡ true → is_elsewhere last later ≡ true
      → refusals_in_turn empty_draft (file_declares whole) ≡ [] →
      IsWhole last later start (front_tokens whole) (file_declares whole)
  whole-file (file first second parts) ok elsewhere h = let more =
      row_section_declares second ++ flat_map section_declares parts in
      let taken = parts-taken empty_draft (objective_declares first) more h in
      let others = second_so _ _ ok in
      let good = second_so _ _
      others in whole-objective _ _ _ _ _ (first_so _ _ ok)
      (row_section-begins second (flat_map section_tokens parts) (first_so _ _ others) (sections-begin parts good))
      taken.0 (whole-second second parts (with_declarations empty_draft (objective_declares first))
      (objective-rows first) (sorted-draft_of (objective_declares first)) (first_so _ _ others) elsewhere good taken.1)
