-- The converse for the objective and for rows: what is read there is a list of phrases.
use Rattle.mpslp_lp_sentences.proofs.Prelude
use Prelude.{◌≡◌, ◌<◌, refl, sym, ap, subst, ◌∙◌, ℕ, List, [], ◌∷◌, ◌++◌, Bool, true, append_assoc, length, arith, Option, Some, None}
use Prelude.{flat_map, list_all, false≢true, none-some, Sense, Minimize, Maximize, Declarations, Draft, empty_draft, with_declarations}
use Prelude.{refusals_in_turn, SignOf, ahead, ◌>>=◌, Terminal, Opens, Name, Number, Sign, Colon, start, declares, SectionsSeen, Place}
use Prelude.{BeforeItems, InObjective, items, objective_item, objective_declared, default_objective, first_item_declared, objective_named}
use Prelude.{objective_from, objective_rule, may_begin_section, SectionWord, point_at, at, Item, term, a_term, a_constant, objective}
use Prelude.{sense_word, item_tokens, label_tokens, objective_tokens, is_signed_item, are_items, is_objective, product_of, signed}
use Prelude.{item_declares, objective_declares, ◌≤◌, zero, suc, ◌+◌, false, map, if◌then◌else◌, list_any, enumerate_from, append-nil}
use Prelude.{Decimal, same_bytes, limit_of, Limit, MixedSenses, DuplicateEntry, both_so, by_limits, declare_row, IsSortedDraft}
use Prelude.{sorted-with_declarations, next, Compares, Infinity, Relation, AtMost, AtLeast, BetweenRows, InRow, refuses}
use Prelude.{goes_to, side_rule, number_item, colon, default_row, without_terms, row_item, row_first, row_after_left, row_number}
use Prelude.{row_signed, row_from, row_named, fits_left, row_limits, row_declared, row_whole, row_end, parts-taken, Side, Term, Row, side}
use Prelude.{row, row_between, row_from_above, side_tokens, term_tokens, terms_tokens, row_tokens, is_signed_term, is_row, coefficient}
use Prelude.{limit, row_name, row_declares}
use Rattle.mpslp_lp_sentences.{specs.Phrases.Objective, proofs.Hears.{here, onward, infinity-is}}
use Rattle.mpslp_lp_sentences.proofs.PhrasesHeard.{after_word, Pair, pair, row_at, in_row, terms-declare, declared-is, row-counted}
use Rattle.mpslp_lp_sentences.proofs.Found.{onwards, Heard, Complete, complete-phrase, heard-next, heard-ahead, unless-heard, AnItem}
use Rattle.mpslp_lp_sentences.proofs.Found.{found_term, found_lone, constant_tokens, sign-heard, item-heard, rest-shorter, complete-joined}
use Rattle.mpslp_lp_sentences.proofs.Found.{Reading, all-phrases, all_declare, all-flat, Anything, all_at, onwards-append, number-heard}
use Rattle.mpslp_lp_sentences.proofs.Found.{item-from_signed, first_number-heard, side-heard, relation-heard, is_no_opening}
use Rattle.mpslp_lp_sentences.proofs.Whole.{listened-one}
use Rattle.mpslp_lp_tokens.specs.declared.words.SectionWord.TheVariants as words
use Rattle.mpslp_lp_grammar.specs.Items as grammar_items

-- ---- what tokens have to be if the grammar reads an objective

-- ---- one item

-- an item, and the rest of the objective
record ItemFound
    (name : List ℕ) (seen : SectionsSeen) (earlier : Draft) (line : ℕ →
    ℕ) (xs : List Terminal) (made : Declarations) : Type 0 where
  it : Item
  rest : List Terminal
  more : Declarations
  same : xs ≡ item_tokens it ++ rest
  is : made ≡ item_declares name it ++ more
  heard : Complete (point_at (InObjective name) seen (with_declarations earlier (item_declares name it)))
      (onwards (item_tokens it) line) rest more

item-found : (name : List ℕ) (seen : SectionsSeen) (earlier : Draft) (line : ℕ → ℕ) (xs : List Terminal) (made : Declarations)
    → AnItem (objective_item (here seen earlier) name) line xs made → ItemFound name seen earlier line xs made
item-found name _ earlier line _ _ (found_term _ _ column rest n same h) = let part = a_term (term _ _ _) in
    let found = unless-heard (here _ _) (at n (Name column)) (refusals_in_turn earlier (item_declares name part))
    (InObjective name) (item_declares name part) (onwards (item_tokens part) line) rest _ h in
    record { it = part; rest = rest; more = found.goes.more; same = same; is = found.goes.is; heard = found.goes.rest }
item-found name seen earlier line xs made (found_lone signs value y rest n same h) = by y same h
  where
    part : Item
    part = a_constant signs value

    from : (z : Terminal) → xs ≡ constant_tokens signs value ++ z ∷ rest
        → Heard (declares (here seen earlier) (at n z) (InObjective name) (item_declares name (a_constant signs value)))
        (onwards (constant_tokens signs value) line) (z ∷ rest) made → ItemFound name seen earlier line xs made
    from z e k = let found = unless-heard _ _ _ _ _ (onwards (constant_tokens signs value) line) (z ∷ rest) _ k in
        record {
          it = a_constant _ _;
          rest = z ∷ rest;
          more = found.goes.more;
          same = e;
          is = found.goes.is;
          heard =
              found.goes.rest;
        }

    by : (z : Terminal) → xs ≡ constant_tokens signs value ++ z ∷ rest
        → Heard (objective_item (here seen earlier) name (items.Lone (signed (product_of signs) value) (at n z)))
        (onwards (constant_tokens signs value) line) (z ∷ rest) made → ItemFound name seen earlier line xs made
    by (Sign _) e k = from _ e k
    by (Opens _) e k = from _ e k
    by _ e k = absurd cc

-- an item has a token
item-shorter : (part : Item) (rest xs : List Terminal) → xs ≡ item_tokens part ++ rest → length rest < length xs
item-shorter part rest xs same = subst (λ (ys : List Terminal). length rest < length ys) (sym same) (by part)
  where
    of_more : (x : Terminal) (ys : List Terminal) → length rest < length (x ∷ (ys ++ rest))
    of_more = grind (arith, rest-shorter)

    by : (it : Item) → length rest < length (item_tokens it ++ rest)
    by (a_term (term [] None column)) = of_more (Name column) []
    by (a_term (term [] (Some size) column)) = of_more (Number size) (Name column ∷ [])
    by (a_term (term (sign ∷ _) _ _)) = of_more (Sign sign) _
    by (a_constant [] value) = of_more (Number value) []
    by (a_constant (sign ∷ _) _) = of_more (Sign sign) _

-- ---- items after another one

abbrev item_declared : List ℕ → Draft → Item → Declarations
item_declared name earlier part = item_declares name part

abbrev in_objective : List ℕ → Unit {0} → Place
in_objective name from = InObjective name

one-item : (name : List ℕ) (seen : SectionsSeen) →
    Reading item_tokens (item_declared name) is_signed_item (in_objective name) Anything seen
one-item _ _ _ _ _ (Opens _) _ _ no_opening _ h = absurd (false≢true no_opening)
one-item name seen _ earlier line (Sign sign) xs _ _ after h =
    let found = item-found _ _ _ _ _ _
    (sign-heard _ (here _ earlier) _ _ _ _ (complete-phrase (point_at (InObjective name) seen earlier) line (Sign sign)
    xs _ h)) in record {
      it = found.it;
      good_it = grind arith;
      rest = found.rest;
      more = found.more;
      same = found.same;
      is = found.is;
      to = tt;
      after = tt;
      heard = found.heard;
      shorter = item-shorter _ _ _ found.same;
    }
one-item _ _ _ _ _ _ _ _ _ _ h = absurd (none-some _ h)

-- ---- all items

record ItemsFound (good : List Item → Bool)
    (name : List ℕ) (seen : SectionsSeen) (earlier : Draft) (line : ℕ →
    ℕ) (xs : List Terminal) (made : Declarations) : Type 0 where
  its : List Item
  good_its : good its ≡ true
  word : SectionWord
  rest : List Terminal
  more : Declarations
  same : xs ≡ flat_map item_tokens its ++ Opens word ∷ rest
  is : made ≡ flat_map (item_declares name) its ++ more
  place : Place
  may : may_begin_section place ≡ true
  heard : Complete (point_at place seen (with_declarations earlier (flat_map (item_declares name) its)))
      (onwards (flat_map item_tokens its) line) (Opens word ∷ rest) more

later-items : (name : List ℕ) (seen : SectionsSeen) (earlier : Draft) (line : ℕ → ℕ) (xs : List Terminal) (made : Declarations)
    → Complete (point_at (InObjective name) seen earlier) line xs made →
    ItemsFound (list_all is_signed_item) name seen earlier line xs made
later-items name seen earlier line xs made h = let all =
    all-phrases _ _ _ _ _ _ (one-item _ _) (length xs) tt _ _ _ _ (omega arith) tt h in
    let flat : all_declare (item_declared name) earlier all.its ≡ flat_map (item_declares name) all.its =
    all-flat (item_declares name) all.its earlier in record {
      its = all.its;
      good_its = all.good_its;
      word = all.word;
      rest = all.rest;
      more = all.more;
      same = all.same;
      is = all.is ∙ ap (λ ds. ds ++ all.more) flat;
      place = InObjective name;
      may = refl;
      heard = subst (λ ds. Complete (point_at (InObjective name) seen (with_declarations earlier ds))
          (onwards (flat_map item_tokens all.its) line) (Opens all.word ∷ all.rest) all.more) flat all.heard;
    }

-- an item and those after it
items-after : (name : List ℕ) (seen : SectionsSeen) (earlier : Draft) (line : ℕ → ℕ) (xs : List Terminal) (made : Declarations)
    → ItemFound name seen earlier line xs made → ItemsFound are_items name seen earlier line xs made
items-after name seen earlier line _ _ first = let declared = item_declares name first.it in
    let all = later-items _ _ _ _ _ _ first.heard in record {
      its = first.it ∷ all.its;
      good_its = all.good_its;
      word = all.word;
      rest = all.rest;
      more = all.more;
      same = first.same ∙ ap (λ ys. item_tokens first.it ++ ys) all.same
          ∙ sym (append_assoc (item_tokens first.it) (flat_map item_tokens all.its) (Opens all.word ∷ all.rest));
      is = first.is ∙ ap (λ ds. declared ++ ds) all.is
          ∙ sym (append_assoc declared (flat_map (item_declares name) all.its) all.more);
      place = all.place;
      may = all.may;
      heard = complete-joined all.place seen earlier declared (flat_map (item_declares name) all.its)
          (item_tokens first.it) (flat_map item_tokens all.its) line (Opens all.word ∷ all.rest) _ all.heard;
    }

all-items : (name : List ℕ) (seen : SectionsSeen) (earlier : Draft) (line : ℕ → ℕ) (xs : List Terminal) (made : Declarations)
    → Complete (point_at (BeforeItems name) seen earlier) line xs made → ItemsFound are_items name seen earlier line xs made
all-items _ _ _ _ [] _ h = absurd (none-some _ h)
all-items name _ _ _ (Opens word ∷ xs) made h = record {
  its = [];
  good_its = refl;
  word = word;
  rest = xs;
  more = made;
  same = refl;
  is = refl;
  place = BeforeItems name;
  may = refl;
  heard = h;
}
all-items name seen earlier line (x ∷ xs) _ h = items-after _ _ _ _ _ _ (item-found _ _ _ _ _ _
    (item-heard x _ (here seen earlier) _ _ _ (complete-phrase (point_at (BeforeItems name) seen earlier) line x xs _ h)))

-- ---- the objective

pub record ObjectiveFound (line : ℕ → ℕ) (xs : List Terminal) (made : Declarations) : Type 0 where
  pub part : Objective
  pub good : is_objective part ≡ true
  pub word : SectionWord
  pub rest : List Terminal
  pub more : Declarations
  pub same : xs ≡ objective_tokens part ++ Opens word ∷ rest
  pub is : made ≡ objective_declares part ++ more
  pub place : Place
  pub may : may_begin_section place ≡ true
  pub heard : Complete (point_at place after_word (with_declarations empty_draft (objective_declares part)))
      (onwards (objective_tokens part) line) (Opens word ∷ rest) more

-- the objective after its first word
record BodyFound (sense : Sense) (line : ℕ → ℕ) (xs : List Terminal) (made : Declarations) : Type 0 where
  label : Option (List ℕ)
  its : List Item
  good_its : are_items its ≡ true
  word : SectionWord
  rest : List Terminal
  more : Declarations
  same : xs ≡ (label_tokens label ++ flat_map item_tokens its) ++ Opens word ∷ rest
  is : made ≡ objective_declares (objective sense label its) ++ more
  place : Place
  may : may_begin_section place ≡ true
  heard : Complete (point_at place after_word (with_declarations empty_draft (objective_declares (objective sense label its))))
      (onwards (label_tokens label ++ flat_map item_tokens its) line) (Opens word ∷ rest) more

body-heard : (sense : Sense) (line : ℕ → ℕ) (xs : List Terminal) (made : Declarations)
    → Heard (objective_rule (here after_word empty_draft) sense) line xs made → BodyFound sense line xs made
body-heard _ _ [] _ h = absurd (none-some _ h)
body-heard sense line (Name name ∷ []) made h = grind arith
body-heard sense line (Name name ∷ Colon ∷ xs) _ h = let context = here after_word empty_draft in
    let second = heard-ahead (objective_named context sense name) (onward line) Colon xs _
    (heard-next (λ first. ahead >>= objective_named context sense name) line (Name name) (Colon ∷ xs) _
    (heard-ahead (objective_from context sense) line (Name name) (Colon ∷ xs) _ h)) in
    let found = unless-heard context (at (line 1) Colon) (refusals_in_turn empty_draft (objective_declared sense name)) _
    (objective_declared sense name) (onward (onward line)) xs _
    (heard-next (λ colon. declares context (at (line 1) Colon) (BeforeItems
    name) (objective_declared sense name)) (onward line) Colon xs _ second) in
    let all = all-items _ _ _ _ _ _ found.goes.rest in record {
      label = Some name;
      its = all.its;
      good_its = all.good_its;
      word = all.word;
      rest = all.rest;
      more = all.more;
      same = ap (λ ys. Name name ∷ Colon ∷ ys) all.same;
      is = found.goes.is ∙ ap (λ ds. objective_declared sense name ++ ds) all.is;
      place = all.place;
      may = all.may;
      heard = all.heard;
    }
body-heard sense line (Name name ∷ y ∷ xs) _ h = let context = here after_word empty_draft in
    let first = first_item_declared sense name in
    let second = heard-ahead (objective_named context sense name) (onward line) y xs _
    (heard-next (λ token. ahead >>= objective_named context sense name) line (Name name) (y ∷ xs) _
    (heard-ahead (objective_from context sense) line (Name name) (y ∷ xs) _ h)) in
    let found = unless-heard context
    (at (line 1) y) (refusals_in_turn empty_draft first) (InObjective default_objective) first (onward line) (y ∷ xs) _ second in
    let all = later-items default_objective _ (with_declarations empty_draft first) (onward line) _ _ found.goes.rest in record {
      label = None;
      its = a_term (term [] None _) ∷ all.its;
      good_its = all.good_its;
      word = all.word;
      rest = all.rest;
      more = all.more;
      same = ap (λ ys. Name name ∷ ys) all.same;
      is = found.goes.is ∙ ap (λ ds. first ++ ds) all.is;
      place = all.place;
      may = all.may;
      heard = all.heard;
    }
body-heard sense line (x ∷ xs) _ h = let context = here after_word empty_draft in
    let found = unless-heard context (at (line 0) x) (refusals_in_turn empty_draft (objective_declared sense default_objective))
    (BeforeItems default_objective) (objective_declared sense default_objective) line
    (x ∷ xs) _ (heard-ahead (objective_from context sense) line x xs _ h) in
    let all = all-items _ _ _ _ _ _ found.goes.rest in record {
      label = None;
      its = all.its;
      good_its = all.good_its;
      word = all.word;
      rest = all.rest;
      more = all.more;
      same = all.same;
      is = found.goes.is ∙ ap (λ ds. objective_declared sense default_objective ++ ds) all.is;
      place = all.place;
      may = all.may;
      heard = all.heard;
    }

objective-from_body : (sense : Sense) (line : ℕ → ℕ) (xs : List Terminal) (made : Declarations)
    → BodyFound sense (onward line) xs made → ObjectiveFound line (Opens (sense_word sense) ∷ xs) made
objective-from_body sense _ _ _ body = record {
  part = objective sense body.label _;
  good = body.good_its;
  word = body.word;
  rest = body.rest;
  more = body.more;
  same = ap (λ ys. Opens (sense_word sense) ∷ ys) body.same;
  is = body.is;
  place = body.place;
  may = body.may;
  heard = body.heard;
}

pub objective-heard : (line : ℕ → ℕ) (xs : List Terminal) (made : Declarations) → Complete start line xs made →
    ObjectiveFound line xs made
objective-heard line (Opens words.Minimize ∷ xs) _ h =
    objective-from_body Minimize _ xs _ (body-heard _ _ _ _ (complete-phrase start line (Opens words.Minimize) xs _ h))
objective-heard line (Opens words.Maximize ∷ xs) _ h =
    objective-from_body Maximize _ xs _ (body-heard _ _ _ _ (complete-phrase start line (Opens words.Maximize) xs _ h))
objective-heard _ _ _ h = absurd (none-some _ h)

-- ---- what tokens have to be if the grammar reads rows

-- ---- the first term

-- the first term of a row, and the rest of the text
record TermFound (seen : SectionsSeen) (earlier : Draft)
    (name : List ℕ) (left : Option (Limit × Relation)) (line : ℕ → ℕ) (xs : List Terminal) (made : Declarations) : Type 0 where
  signs : List SignOf
  number : Option Decimal
  column : List ℕ
  rest : List Terminal
  same : xs ≡ term_tokens (term signs number column) ++ rest
  heard : Complete (in_row seen earlier name left ((column, coefficient signs number) ∷ []))
      (onwards (term_tokens (term signs number column)) line) rest made

term-found : (seen : SectionsSeen)
    (earlier : Draft) (name : List ℕ) (left : Option (Limit × Relation)) (line : ℕ → ℕ) (xs : List Terminal) (made : Declarations)
    → AnItem (row_item (here seen earlier) (without_terms name left)) line xs made → TermFound seen earlier name left line xs made
term-found = grind arith

-- ---- the left side

-- a relation after a left side, and the first term
record AfterLeft (seen : SectionsSeen)
    (earlier : Draft) (name : List ℕ) (value : Limit) (line : ℕ → ℕ) (xs : List Terminal) (made : Declarations) : Type 0 where
  relation : Relation
  tail : List Terminal
  same : xs ≡ Compares relation ∷ tail
  first : TermFound seen earlier name (Some (value, relation)) (onward line) tail made

after_left-heard : (seen : SectionsSeen)
    (earlier : Draft) (name : List ℕ) (value : Limit) (line : ℕ → ℕ) (xs : List Terminal) (made : Declarations)
    → Heard (row_after_left (here seen earlier) name value) line xs made → AfterLeft seen earlier name value line xs made
after_left-heard seen earlier name value line xs made h =
    let compared = relation-heard xs (here seen earlier)
    (λ relation. next >>= row_first (here seen earlier) (without_terms name (Some (value, relation)))) line made h in record {
      relation = compared.relation;
      tail = compared.rest;
      same = compared.same;
      first = by compared.relation compared.rest compared.heard;
    }
  where
    by : (relation : Relation) (ys : List Terminal) → Heard (next >>= row_first (here seen earlier) (without_terms name
        (Some (value, relation)))) (onward line) ys made →
        TermFound seen earlier name (Some (value, relation)) (onward line) ys made
    by relation [] k = absurd cc
    by relation (y ∷ ys) k = term-found seen earlier name (Some (value, relation)) (onward line) (y ∷ ys) made
        (item-heard y ys (here seen earlier)
        (row_item (here seen earlier) (without_terms name (Some (value, relation)))) (onward line) made
        (heard-next (row_first (here seen earlier) (without_terms name (Some (value, relation)))) (onward line) y ys made k))

abbrev left_tokens : Option (Side × Relation) → List Terminal
left_tokens None = []
left_tokens (Some left) = side_tokens left.0 ++ Compares left.1 ∷ []

abbrev left_of : Option (Side × Relation) → Option (Limit × Relation)
left_of None = None
left_of (Some left) = Some (limit left.0, left.1)

-- a row after its label, up to its first term
record Begun
    (seen : SectionsSeen) (earlier : Draft) (name : List ℕ) (line : ℕ →
    ℕ) (xs : List Terminal) (made : Declarations) : Type 0 where
  left : Option (Side × Relation)
  tail : List Terminal
  same : xs ≡ left_tokens left ++ tail
  first : TermFound seen earlier name (left_of left) (onwards (left_tokens left) line) tail made

begun-plain : (seen : SectionsSeen) (earlier : Draft) (name : List ℕ) (line : ℕ → ℕ) (xs : List Terminal) (made : Declarations)
    → TermFound seen earlier name None line xs made → Begun seen earlier name line xs made
begun-plain = grind arith

begun-sided : (seen : SectionsSeen) (earlier : Draft)
    (name : List ℕ) (part : Side) (line : ℕ → ℕ) (xs rest : List Terminal) (made : Declarations) → xs ≡ side_tokens part ++ rest
    → AfterLeft seen earlier name (limit part) (onwards (side_tokens part) line) rest made → Begun seen earlier name line xs made
begun-sided seen earlier name part line _ _ made same after = record {
  left = Some (part, after.relation);
  tail = after.tail;
  same = same ∙ ap (λ ys. side_tokens part ++ ys) after.same
      ∙ sym (append_assoc (side_tokens part) (Compares after.relation ∷ []) after.tail);
  first = subst (λ l. TermFound seen earlier name (Some (limit part, after.relation)) l after.tail made)
      (sym (onwards-append (side_tokens part) (Compares after.relation ∷ []) line)) after.first;
}

-- the tokens of a number with its signs as a side, of which at most one is a sign
abbrev IsSide : List SignOf → Decimal → Type 0
IsSide signs value = (part : Side) × (limit part ≡ limit_of (signed (product_of signs) value))
    × (side_tokens part ≡ constant_tokens signs value)

number-begins : (seen : SectionsSeen) (earlier : Draft) (name : List ℕ) (line : ℕ → ℕ) (xs : List Terminal) (made : Declarations)
    → ((signs : List SignOf) (value : Decimal) (rest : List Terminal) → xs ≡ constant_tokens signs value ++ rest →
    IsSide signs value) → AnItem (row_number (here seen earlier) name) line xs made → Begun seen earlier name line xs made
number-begins = grind
    (arith, found_term, begun-plain, term-found, found_lone, constant_tokens, here, at, onwards, begun-sided, after_left-heard)

plain-side : (v : Decimal) (tail : List Terminal) (signs : List SignOf) (value : Decimal) (rest : List Terminal)
    → Number v ∷ tail ≡ constant_tokens signs value ++ rest → IsSide signs value
plain-side v _ [] value _ e = (side None (Some value), refl, refl)
plain-side v tail (sign ∷ signs) value rest e = absurd cc

signed-side : (s : SignOf) (v : Decimal) (tail : List Terminal) (signs : List SignOf) (value : Decimal) (rest : List Terminal)
    → Sign s ∷ Number v ∷ tail ≡ constant_tokens signs value ++ rest → IsSide signs value
signed-side s v _ (sign ∷ []) value _ e =
    (side (Some sign) (Some value), ap (λ q. limit_of (signed q value)) (sym (grind arith)), refl)
signed-side s v tail _ value rest e = absurd cc

begun-heard : (seen : SectionsSeen)
    (earlier : Draft) (name : List ℕ) (line : ℕ → ℕ) (x : Terminal) (xs : List Terminal) (made : Declarations)
    → Heard (row_from (here seen earlier) name (at (line 0) x)) (onward line) xs made → Begun seen earlier name line (x ∷ xs) made
begun-heard _ _ _ _ Infinity xs _ h = begun-sided _ _ _ (side None None) _ _ xs _ refl (after_left-heard _ _ _ _ _ _ _ h)
begun-heard _ _ _ _ (Number _) _ _ h = number-begins _ _ _ _ _ _ (plain-side _ _) (first_number-heard _ _ _ _ _ h)
begun-heard _ _ _ line (Name column) xs _ h =
    begun-plain _ _ _ _ _ _ (term-found _ _ _ _ _ _ _ (found_term [] None column xs (line 0) refl h))
begun-heard seen earlier name line (Sign sign) (Infinity ∷ xs) made h = begun-sided _ _ _
    (side (Some sign) None) _ _ _ _ refl (subst (λ v. AfterLeft seen earlier name v (onward (onward line)) xs made)
    (infinity-is sign) (after_left-heard _ _ _ _ _ _ _
    (heard-next (λ word. row_after_left (here seen earlier) name (grammar_items.infinity sign))
    (onward line) Infinity xs _ (heard-ahead (row_signed (here _ _) name sign) (onward line) Infinity xs _ h))))
begun-heard seen earlier name line (Sign sign) (Number value ∷ xs) _ h = number-begins _ _ _ _ _ _ (signed-side _ _ _)
    (item-from_signed _ _ _ _ _ (number-heard _ _ _ _ _ _
    (heard-next (λ number. number_item sign value >>= row_number (here seen earlier) name) (onward line)
    (Number value) xs _ (heard-ahead (row_signed (here _ _) name sign) (onward line) (Number value) xs _ h))))
begun-heard seen earlier name line (Sign sign) (y ∷ xs) _ h = begun-plain _ _ _ _ _ _ (term-found _ _ _ _ _ _ _
    (sign-heard _ (here seen earlier) _ _ _ _ (heard-ahead (row_signed (here seen earlier) name sign) (onward line) y xs _ h)))
begun-heard _ _ _ _ _ _ _ h = absurd (none-some _ h)

-- ---- the label

record Labelled (seen : SectionsSeen) (earlier : Draft) (line : ℕ → ℕ) (xs : List Terminal) (made : Declarations) : Type 0 where
  label : Option (List ℕ)
  tail : List Terminal
  same : xs ≡ label_tokens label ++ tail
  begun : Begun seen earlier (row_name (length earlier.rows + 1) label) (onwards (label_tokens label) line) tail made

after_colon : (seen : SectionsSeen) (earlier : Draft) (name : List ℕ) (line : ℕ → ℕ) (xs : List Terminal) (made : Declarations)
    → Heard (next >>= row_from (here seen earlier) name) line xs made → Begun seen earlier name line xs made
after_colon _ _ _ _ [] _ h = absurd (none-some _ h)
after_colon _ _ name line (y ∷ xs) _ h = begun-heard _ _ _ _ y _ _ (heard-next (row_from (here _ _) name) line y xs _ h)

named-heard : (seen : SectionsSeen) (earlier : Draft) (name : List ℕ) (line : ℕ → ℕ) (xs : List Terminal) (made : Declarations)
    → Heard (colon >>= row_named (here seen earlier) name) (onward line) xs made →
    Labelled seen earlier line (Name name ∷ xs) made
named-heard _ _ _ _ [] _ h = absurd (none-some _ h)
named-heard seen earlier name line (Colon ∷ xs) _ h = record {
  label = Some name;
  tail = xs;
  same = refl;
  begun = after_colon _ _ _ _ _ _ (sym (listened-one (row_named (here seen earlier) name true (all_at (onward (onward line)) xs))
      (at (line 1) Colon) (all_at (onward (onward line)) xs)) ∙ h);
}
named-heard seen earlier name line (y ∷ xs) _ h = let default = default_row (here seen earlier) in record {
  label = None;
  tail = Name name ∷ y ∷ xs;
  same = refl;
  begun = begun-plain _ _ _ _ _ _ (record {
    signs = [];
    number = None;
    column = name;
    rest = y ∷ xs;
    same = refl;
    heard = grind arith;
  });
}

labelled-heard : (seen : SectionsSeen) (earlier : Draft) (line : ℕ → ℕ) (x : Terminal) (xs : List Terminal) (made : Declarations)
    → is_no_opening x ≡ true → Complete (point_at BetweenRows seen earlier) line (x ∷ xs) made →
    Labelled seen earlier line (x ∷ xs) made
labelled-heard _ _ _ (Opens _) _ _ no_opening h = absurd (false≢true no_opening)
labelled-heard seen earlier line (Name name) xs _ _ h =
    named-heard _ _ _ _ _ _ (complete-phrase (point_at BetweenRows seen earlier) line (Name name) xs _ h)
labelled-heard seen earlier line x xs _ _ h = grind (arith, begun-heard, here)

-- ---- further terms, and the end of a row

record Ended (seen : SectionsSeen) (earlier : Draft) (name : List ℕ)
    (left : Option (Limit × Relation)) (before : List Pair) (line : ℕ →
    ℕ) (xs : List Terminal) (made : Declarations) : Type 0 where
  terms : List Term
  good : list_all is_signed_term terms ≡ true
  relation : Relation
  part : Side
  rest : List Terminal
  more : Declarations
  same : xs ≡ terms_tokens terms ++ Compares relation ∷ (side_tokens part ++ rest)
  fits : fits_left left relation ≡ true
  is : made ≡ row_declared (row_at name left (before ++ map pair terms)) (row_limits left relation (limit part)) ++ more
  heard : Complete (point_at BetweenRows seen
      (with_declarations earlier (row_declared (row_at name left (before ++ map pair terms))
      (row_limits left relation (limit part)))))
      (onwards (terms_tokens terms ++ Compares relation ∷ side_tokens part) line) rest more

end-heard : (seen : SectionsSeen) (earlier : Draft) (name : List ℕ) (left : Option (Limit × Relation))
    (before : List Pair) (line : ℕ → ℕ) (relation : Relation) (n : ℕ) (xs : List Terminal) (made : Declarations) →
    Heard (row_end (here seen earlier) (row_at name left before) relation (at n (Compares relation))) (onward line)
    xs made → Ended seen earlier name left before line (Compares relation ∷ xs) made
end-heard seen earlier name left before line relation n xs made h = by (fits_left left relation) refl h
  where
    by : (b : Bool) → fits_left left relation ≡ b →
        Heard (if b then (side_rule (here seen earlier) >>= row_whole (here seen earlier) (row_at name left before)
        relation) else refuses (here seen earlier) (at n (Compares relation)) MixedSenses) (onward line) xs made
        → Ended seen earlier name left before line (Compares relation ∷ xs) made
    by false fits k = absurd cc
    by true fits k =
        let part = side-heard xs (here seen earlier) (row_whole (here seen earlier) (row_at name left before) relation)
        (onward line) made k in
        let declared = row_declared (row_at name left before) (row_limits left relation (limit part.part)) in
        let found = unless-heard (here seen earlier) part.last (refusals_in_turn earlier declared) BetweenRows declared
        (onwards (side_tokens part.part) (onward line)) part.rest made part.heard in
        let all : before ++ map pair [] ≡ before = append-nil before in record {
          terms = [];
          good = refl;
          relation = relation;
          part = part.part;
          rest = part.rest;
          more = found.goes.more;
          same = ap (λ (ys : List Terminal). Compares relation ∷ ys) part.same;
          fits = fits;
          is = found.goes.is ∙ ap (λ (ts : List Pair). row_declared (row_at name left ts)
              (row_limits left relation (limit part.part)) ++ found.goes.more) (sym all);
          heard = subst (λ (ts : List Pair). Complete (point_at BetweenRows seen
              (with_declarations earlier (row_declared (row_at name left ts) (row_limits left relation (limit part.part)))))
              (onwards (side_tokens part.part) (onward line)) part.rest found.goes.more) (sym all) found.goes.rest;
        }

-- what follows a term that begins with a sign is shorter
term-shorter : (signs : List SignOf) (number : Option Decimal) (column : List ℕ) (rest xs : List Terminal)
    → xs ≡ term_tokens (term signs number column) ++ rest → length rest < length xs
term-shorter signs number column rest xs same = subst (λ ys. length rest < length ys) (sym same) (by signs number)
  where
    of_more : (x : Terminal) (ys : List Terminal) → length rest < length (x ∷ (ys ++ rest))
    of_more = grind (arith, rest-shorter)

    by : (ss : List SignOf) (v : Option Decimal) → length rest < length (term_tokens (term ss v column) ++ rest)
    by [] None = of_more (Name column) []
    by [] (Some size) = of_more (Number size) (Name column ∷ [])
    by (sign ∷ _) v = of_more (Sign sign) _

terms-heard : (n : ℕ) (seen : SectionsSeen) (earlier : Draft)
    (name : List ℕ) (left : Option (Limit × Relation)) (before : List Pair) (line : ℕ →
    ℕ) (xs : List Terminal) (made : Declarations) → length xs ≤ n →
    Complete (in_row seen earlier name left before) line xs made → Ended seen earlier name left before line xs made
terms-heard n seen earlier name left before line (Compares relation ∷ xs) made _ h =
    end-heard seen earlier name left before line relation (line 0) xs made
    (complete-phrase (in_row seen earlier name left before) line (Compares relation) xs made h)
terms-heard zero seen earlier name left before line (Sign sign ∷ xs) made fits h = absurd (omega (arith, fits))
terms-heard (suc n) seen earlier name left before line (Sign sign ∷ xs) made fits h = by (sign-heard xs (here seen earlier) sign
    (row_item (here seen earlier) (row_at name left before)) line made
    (complete-phrase (in_row seen earlier name left before) line (Sign sign) xs made h))
    (λ more tokens l short k. terms-heard n seen earlier name left more l tokens made (omega (arith, fits, short)) k)
  where
    joined : (signs : List SignOf) (number : Option Decimal) (column : List ℕ) (rest : List Terminal) → Sign sign ∷ xs
        ≡ term_tokens (term signs number column) ++ rest →
        Ended seen earlier name left (before ++ (column, coefficient signs number) ∷ [])
        (onwards (term_tokens (term signs number column)) line) rest made →
        Ended seen earlier name left before line (Sign sign ∷ xs) made
    joined signs number column rest same later = let first : Term = term signs number column in
        let value : Pair = (column, coefficient signs number) in
        let all : (before ++ value ∷ []) ++ map pair later.terms ≡ before ++ map pair (first ∷ later.terms) = append_assoc before
        (value ∷ []) (map pair later.terms) in
        let end : List Terminal = Compares later.relation ∷ side_tokens later.part in
        let declared : List Pair → Declarations =
        λ ts. row_declared (row_at name left ts) (row_limits left later.relation (limit later.part)) in record {
          terms = first ∷ later.terms;
          good = both_so _ _ (grind arith) later.good;
          relation = later.relation;
          part = later.part;
          rest = later.rest;
          more = later.more;
          same = same ∙ ap (λ (ys : List Terminal). term_tokens first ++ ys) later.same ∙ sym (append_assoc
              (term_tokens first) (terms_tokens later.terms) (Compares later.relation ∷ (side_tokens later.part ++ later.rest)));
          fits = later.fits;
          is = later.is ∙ ap (λ (ts : List Pair). declared ts ++ later.more) all;
          heard = subst (λ (ts : List Pair). Complete (point_at BetweenRows seen (with_declarations earlier (declared ts)))
              (onwards (terms_tokens (first ∷ later.terms) ++ end) line) later.rest later.more) all
              (subst (λ (l : ℕ → ℕ). Complete
              (point_at BetweenRows seen (with_declarations earlier
              (declared ((before ++ value ∷ []) ++ map pair later.terms)))) l later.rest later.more)
              (sym (ap (λ (tokens : List Terminal). onwards tokens line) (append_assoc (term_tokens first)
              (terms_tokens later.terms) end) ∙ onwards-append (term_tokens first) (terms_tokens later.terms ++ end)
              line)) later.heard);
        }

    taken : (signs : List SignOf) (number : Option Decimal) (column : List ℕ) (rest : List Terminal) (n : ℕ) (l : ℕ →
        ℕ) (b : Bool) → Heard (if b then refuses (here seen earlier) (at n (Name column)) DuplicateEntry else goes_to
        (here seen earlier) (InRow (row_at name left (before ++ (column, coefficient signs number) ∷ []))) []) l rest made
        → Complete (in_row seen earlier name left (before ++ (column, coefficient signs number) ∷ [])) l rest made
    taken = grind arith

    by : AnItem (row_item (here seen earlier) (row_at name left before)) line (Sign sign ∷ xs) made → ((more : List Pair)
        (tokens : List Terminal) (l : ℕ → ℕ) → length tokens < length (Sign sign ∷ xs) →
        Complete (in_row seen earlier name left more) l tokens made →
        Ended seen earlier name left more l tokens made) → Ended seen earlier name left before line (Sign sign ∷ xs) made
    by (found_term signs number column rest n same k) later = joined signs number column rest same
        (later (before ++ (column, coefficient signs number) ∷ []) rest (onwards (term_tokens (term signs number column)) line)
        (term-shorter signs number column rest (Sign sign ∷ xs) same) (taken signs number column rest n
        (onwards (term_tokens (term signs number column)) line) (list_any (λ (t : Pair). same_bytes column t.0) before) k))
    by (found_lone signs value y rest n same k) later = grind arith
terms-heard n _ _ _ _ _ _ _ made _ h = absurd (none-some made h)

-- ---- a whole row

abbrev pub row_declared_at : Draft → Row → Declarations
row_declared_at earlier part = row_declares (length earlier.rows + 1, part)

-- the row that has these parts
record RowOf (place : ℕ) (label : Option (List ℕ))
    (left : Option (Side × Relation)) (first : Term) (terms : List Term) (relation : Relation) (part : Side) : Type 0 where
  it : Row
  good : is_row it ≡ true
  tokens : row_tokens it ≡ label_tokens
      label ++ (left_tokens left ++ (term_tokens first ++ (terms_tokens terms ++ Compares relation ∷ side_tokens part)))
  declared : row_declared (row_at (row_name place label) (left_of left) (map pair (first ∷ terms)))
      (row_limits (left_of left) relation (limit part)) ≡ row_declares (place, it)

between-tokens : (label : Option (List ℕ)) (left : Side) (relation : Relation) (first : Term) (terms : List Term)
    (end : List Terminal) → label_tokens
    label ++ (side_tokens left ++ Compares relation ∷ ((term_tokens first ++ terms_tokens terms) ++ end))
    ≡ label_tokens label ++ ((side_tokens left ++ Compares relation ∷ []) ++ (term_tokens first ++ (terms_tokens terms ++ end)))
between-tokens = grind (arith, append_assoc)

row-of : (place : ℕ)
    (label : Option (List ℕ)) (left : Option (Side × Relation)) (first : Term) (terms : List Term) (relation : Relation)
    (part : Side) → list_all is_signed_term terms ≡ true → fits_left (left_of left) relation ≡ true →
    RowOf place label left first terms relation part
row-of _ label None first terms relation part good _ = record {
  it = row _ (first ∷ terms) relation part;
  good = good;
  tokens = ap (λ tokens. label_tokens label ++ tokens)
      (append_assoc (term_tokens _) (terms_tokens terms) (Compares relation ∷ side_tokens part));
  declared = declared-is _ relation (limit part) (first ∷ terms);
}
row-of place label (Some (lower, AtMost)) first terms AtMost part good _ = record {
  it = row_between _ _ (first ∷ terms) part;
  good = good;
  tokens = between-tokens _ _ _ _ terms (Compares AtMost ∷ side_tokens part);
  declared = ap (λ more. declare_row (row_name place label) (by_limits (limit lower) (limit part)) ∷ more)
      (terms-declare (row_name place label) (first ∷ terms));
}
row-of place label (Some (upper, AtLeast)) first terms AtLeast part good _ = record {
  it = row_from_above _ _ (first ∷ terms) part;
  good = good;
  tokens = between-tokens _ _ _ _ terms (Compares AtLeast ∷ side_tokens part);
  declared = ap (λ more. declare_row (row_name place label) (by_limits (limit part) (limit upper)) ∷ more)
      (terms-declare (row_name place label) (first ∷ terms));
}
row-of place label _ first terms _ part good fits = absurd cc

-- a row has a relation at its end
end-shorter : (terms : List Term) (relation : Relation) (part : Side) (rest xs : List Terminal)
    → xs ≡ terms_tokens terms ++ Compares relation ∷ (side_tokens part ++ rest) → length rest < length xs
end-shorter terms relation part rest xs same =
    by (rest-shorter (terms_tokens terms) (Compares relation ∷ (side_tokens part ++ rest)) _ same) (rest-shorter _ _ _ refl)
  where
    by : length (Compares relation ∷ (side_tokens part ++ rest)) ≤ length xs →
        length rest ≤ length (side_tokens part ++ rest) → length rest < length xs
    by a b = omega (arith, a, b)

abbrev pub between_rows : Unit {0} → Place
between_rows from = BetweenRows

pub one-row : (seen : SectionsSeen) → Reading row_tokens row_declared_at is_row between_rows Anything seen
one-row seen from earlier line x xs made no_opening after h = let label = labelled-heard _ _ _ x _ _ no_opening h in
    let begun = label.begun in
    let name = row_name (length _ + 1) label.label in
    let first = begun.first in
    let head : Term = term first.signs first.number first.column in
    let on : ℕ → ℕ = onwards (term_tokens head) (onwards (left_tokens begun.left) (onwards (label_tokens label.label) line)) in
    let ended = terms-heard (length first.rest) _ _ _ _ _ _ _ _ (omega arith) first.heard in
    let end : List Terminal = Compares ended.relation ∷ side_tokens ended.part in
    let whole = row-of (length earlier.rows + 1) label.label begun.left head ended.terms ended.relation ended.part
    ended.good ended.fits in
    let front : List Terminal =
    label_tokens label.label ++ (left_tokens begun.left ++ (term_tokens head ++ (terms_tokens ended.terms ++ end))) in
    let all : x ∷ xs ≡ front ++ ended.rest =
    label.same ∙ ap (λ (ys : List Terminal). label_tokens label.label ++ ys)
    (begun.same ∙ ap (λ (ys : List Terminal). left_tokens begun.left ++ ys)
    (first.same ∙ ap (λ (ys : List Terminal). term_tokens head ++ ys) ended.same)) ∙ (grind (arith, append_assoc)) in
    let lines : onwards (row_tokens whole.it) line ≡ onwards (terms_tokens ended.terms ++ end) on =
    ap (λ (tokens : List Terminal). onwards tokens line) whole.tokens
    ∙ (grind (arith, onwards-append, onwards)) in
    let short : length ended.rest < length first.rest =
    end-shorter ended.terms ended.relation ended.part ended.rest first.rest ended.same in
    let shorter_first : length first.rest ≤ length begun.tail =
    rest-shorter (term_tokens head) first.rest begun.tail first.same in
    let shorter_left : length begun.tail ≤ length label.tail =
    rest-shorter (left_tokens begun.left) begun.tail label.tail begun.same in
    let shorter_label : length label.tail ≤ length (x ∷ xs) =
    rest-shorter (label_tokens label.label) label.tail (x ∷ xs) label.same in
    record {
      it = whole.it;
      good_it = whole.good;
      rest = ended.rest;
      more = ended.more;
      same = all ∙ ap (λ (ys : List Terminal). ys ++ ended.rest) (sym whole.tokens);
      is = ended.is ∙ ap (λ (ds : Declarations). ds ++ ended.more) whole.declared;
      to = tt;
      after = tt;
      heard = subst (λ (ds : Declarations). Complete (point_at BetweenRows seen (with_declarations earlier ds))
          (onwards (row_tokens whole.it) line) ended.rest ended.more) whole.declared (subst (λ (l : ℕ → ℕ). Complete (point_at
          BetweenRows seen (with_declarations earlier
          (row_declared (row_at name (left_of begun.left) (map pair (head ∷ ended.terms)))
          (row_limits (left_of begun.left) ended.relation (limit ended.part))))) l ended.rest ended.more)
          (sym lines) ended.heard);
      shorter = omega (arith, short, shorter_first, shorter_left, shorter_label);
    }

-- ---- all rows

-- rows that are not rejected are numbered by their place
pub rows-numbered : (its : List Row) (earlier : Draft) → IsSortedDraft earlier →
    refusals_in_turn earlier (all_declare row_declared_at earlier its) ≡ [] →
    all_declare row_declared_at earlier its ≡ flat_map row_declares (enumerate_from (length earlier.rows + 1) its)
rows-numbered [] _ _ h = refl
rows-numbered (it ∷ its) earlier sorted h = let first = row_declared_at earlier it in
    let taken = parts-taken earlier first (all_declare
    row_declared_at (with_declarations earlier first) its) h in
    ap (λ more. first ++ more) (rows-numbered its _ (sorted-with_declarations first _ sorted) taken.1
    ∙ ap (λ n. flat_map row_declares (enumerate_from (n + 1) its)) (row-counted (length _ + 1) it _ sorted taken.0))
