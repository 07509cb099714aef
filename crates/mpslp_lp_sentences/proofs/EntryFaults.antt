-- A second term of a column in a row or in the objective is as `FaultsInWords` defines it.
use Rattle.mpslp_lp_sentences.proofs.Prelude
use Prelude.{arith, ◌≡◌, refl, ap, ◌∙◌, subst, ℕ, List, [], ◌∷◌, ◌++◌, append_assoc, Bool, true, false, rules, Option, Some, None, ◌||◌}
use Prelude.{◌&&◌, unwrap_or, if◌then◌else◌, list_any, flat_map, append-nil, list_any-append, Decimal, limit_of, same_bytes, BuildFault}
use Prelude.{FaultKind, Limit, Sense, MinusInf, PlusInf, or_left, or_right, those_of, RowDefinition, Declaration, Declarations, Draft}
use Prelude.{by_limits, empty_draft, with_declaration, with_declarations, declare_row, declare_column, declare_semi, bounds_declared}
use Prelude.{has_name, has_coefficient, has_row, have_infinite_side, refusals_in_turn, itself_named, has-put, has-put_key, same_name}
use Prelude.{kind_of_build_fault, Objective, Rows, SectionWord, Context, Relation, SignOf, ItemOwner, OfObjective, OfRow, Place}
use Prelude.{AtStart, BeforeItems, InObjective, BetweenRows, InRow, InBounds, InSemis, SideOwner, SideOfRow, SideOfBound, State, Between}
use Prelude.{AtObjective, ObjectiveName, AtSemi, Signs, ItemNumber, RowLeftRelation, BoundName, BoundLeftRelation, AtSide, SideSign}
use Prelude.{AfterEnd, AfterToken, Goes, Refuses, refuse, with_made, declare_unless_refused, step_after_declarations, declare_at, end_term}
use Prelude.{begin_item, end_bound, end_side, no_limits, may_begin_section, open_section, begin_row}
use Prelude.{step_at_second_relation, name_taken, begin_phrase, begin, one, apply_sign, infinity, Limits, limits_by, flip, term_declared}
use Prelude.{objective_declared, default_objective, first_item_declared, without_terms, row_limits, row_declared, PartialRow}
use Prelude.{Terminal, Opens, Name, Number, Sign, Compares, Colon, Infinity, Free, new_column, step_after_lone_number, step, AreNew}
use Prelude.{IsInWords, current_section, is_under, is_named, last_name, term_columns, repeats_entry}
use Rattle.mpslp_model_core.specs.Model.{CoefficientKey}
use Rattle.mpslp_builder.specs.Declaration.{is_objective}
use Rattle.mpslp_lp_sentences.proofs.FaultedTokens.{in-words, refuses, first-refused, signs-by, item-by, limit-by, listed-by, bound_name-by}
use Rattle.mpslp_lp_sentences.proofs.FaultedTokens.{bound_column-by, side-by, begin-by, objective-by, objective_name-by, item_number-by}
use Rattle.mpslp_lp_sentences.proofs.{FaultedTokens.semi-by, RowShapes.{PlaceShape, Shape, HasTerms}}
use Rattle.mpslp_lp_sentences.proofs.RowNames.{ObjectiveAt, Known, known-later}
use Rattle.mpslp_lp_sentences.proofs.SectionFaults.{section_at_place, section_of_item, section_at}
use Rattle.mpslp_types.specs.declared.faults.BuildFault.TheVariants as builds
use Rattle.mpslp_types.specs.declared.faults.FaultKind.TheVariants as kinds

abbrev Tokens : Type 0
Tokens = List Terminal

abbrev Pair : Type 0
Pair = List ℕ × Decimal

abbrev key : List ℕ → List ℕ → CoefficientKey
key row column = record { row = row; column = column }

-- ---- what is known of terms

-- each coefficient is that of a row, or of the objective
abbrev AreKnown : Draft → Type 0
AreKnown all = (k : CoefficientKey) → has_coefficient all k ≡ true → has_row all k.row ≡ true

-- the columns of the terms of the objective, which has this name
record ObjectiveEntries (name : List ℕ) (earlier : Tokens) (all : Draft) : Type 0 where
  named : is_objective all name ≡ true
  columns : (column : List ℕ) → has_coefficient all (key name column) ≡ true → is_named column (term_columns earlier) ≡ true

abbrev OwnerEntries : ItemOwner → Tokens → Draft → Type 0
OwnerEntries (OfObjective name) earlier all = ObjectiveEntries name earlier all
OwnerEntries (OfRow row) earlier all = AreNew [] row.terms

abbrev SideEntries : SideOwner → Type 0
SideEntries (SideOfRow row relation) = AreNew [] row.terms
SideEntries (SideOfBound is_new column relation) = Unit {0}

abbrev PlaceEntries : Place → Tokens → Draft → Type 0
PlaceEntries (BeforeItems name) earlier all = ObjectiveEntries name earlier all
PlaceEntries (InObjective name) earlier all = ObjectiveEntries name earlier all
PlaceEntries (InRow row) earlier all = AreNew [] row.terms
PlaceEntries _ earlier all = Unit {0}

abbrev EntriesAt : State → Tokens → Draft → Type 0
EntriesAt (Between place) earlier all = PlaceEntries place earlier all
EntriesAt (Signs owner sign) earlier all = OwnerEntries owner earlier all
EntriesAt (ItemNumber owner sign value) earlier all = OwnerEntries owner earlier all
EntriesAt (RowLeftRelation row) earlier all = AreNew [] row.terms
EntriesAt (AtSide sided) earlier all = SideEntries sided
EntriesAt (SideSign sided sign) earlier all = SideEntries sided
EntriesAt _ earlier all = Unit {0}

-- ---- what an error says

abbrev Says : Tokens → Terminal → FaultKind → Type 0
Says earlier token kinds.DuplicateEntry = repeats_entry earlier token ≡ true
Says earlier token _ = Unit {0}

abbrev KeepsEntries : Tokens → Terminal → AfterToken → Type 0
KeepsEntries earlier token (Goes after next) = AreKnown after.builder × EntriesAt next (token ∷ earlier) after.builder
KeepsEntries earlier token (Refuses kind) = Says earlier token kind

refused : (context : Context) (earlier : Tokens) (token : Terminal) (kind : FaultKind) → Says earlier token kind →
    KeepsEntries earlier token (refuse context token kind)
refused context earlier (Opens word) kind h = by _ _
  where
    by : (a b : Bool) → Says earlier (Opens word)
        (unwrap_or (if a then Some kinds.SectionRepeated else (if b then Some kinds.SectionOrder else None)) kind)
    by = grind arith
refused _ _ _ _ h = h

bad : (context : Context) (earlier : Tokens) (token : Terminal) → KeepsEntries earlier token (refuse context token kinds.BadToken)
bad = grind arith

branch : (earlier : Tokens) (token : Terminal) (b : Bool) (x y : AfterToken) → (b ≡ true → KeepsEntries earlier token x)
    → (b ≡ false → KeepsEntries earlier token y) → KeepsEntries earlier token (if b then x else y)
branch = grind arith

never : {b : Bool} {X : Type 0} → b ≡ false → b ≡ true → X
never e k = grind arith

says-by : (earlier : Tokens) (token : Terminal) (all : Draft) (made : Declarations)
    → (refuses kinds.DuplicateEntry all made ≡ true → repeats_entry earlier token ≡ true)
    → (first : BuildFault) → refuses (kind_of_build_fault first) all made ≡ true → Says earlier token (kind_of_build_fault first)
says-by = grind arith

-- ---- declarations

declared : (context : Context) (earlier : Tokens) (token : Terminal) (place : Place) (made : Declarations) →
    (refuses kinds.DuplicateEntry context.builder made ≡ true → repeats_entry earlier token ≡ true) →
    AreKnown (with_declarations context.builder made) →
    PlaceEntries place (token ∷ earlier) (with_declarations context.builder made) →
    KeepsEntries earlier token (declare_at context token place made)
declared context earlier token place made refusal known entries = by (refusals_in_turn context.builder made) refl
  where
    by : (refusals : List BuildFault) → refusals_in_turn context.builder made ≡ refusals
        → KeepsEntries earlier token (declare_unless_refused context token refusals place made)
    by [] e = (known, entries)
    by (first ∷ _) e = refused context earlier token _ (says-by earlier _ _ made refusal _ (first-refused made _ _ _ e))

declared-before : (context : Context) (earlier : Tokens) (token : Terminal) (made : Declarations) (next : AfterToken)
    → refuses kinds.DuplicateEntry context.builder made ≡ false → KeepsEntries earlier token next
    → KeepsEntries earlier token (step_after_declarations context token (refusals_in_turn context.builder made) made next)
declared-before context earlier token made next unrefused h = by (refusals_in_turn context.builder made) refl
  where
    by : (refusals : List BuildFault) → refusals_in_turn context.builder made ≡ refusals
        → KeepsEntries earlier token (step_after_declarations context token refusals made next)
    by [] e = h
    by (first ∷ _) e = refused context earlier token _
        (says-by earlier _ _ made (λ k. never unrefused k) _ (first-refused made _ _ _ e))

bound : (context : Context) (is_new : Bool)
    (column : List ℕ) (limits : Limits) (earlier : Tokens) (token : Terminal) (left : Option (List ℕ × Relation)) →
    AreKnown context.builder → KeepsEntries earlier token
    (end_bound context (new_column is_new column) column limits token (InBounds left))
bound context is_new column limits earlier token left known = by _ _ _
  where
    front : Draft
    front = with_declarations context.builder (new_column is_new column)

    by : (a b c : Bool) → KeepsEntries earlier token (declare_unless_refused context token
        (those_of ((a, builds.UnknownColumn) ∷ (b, builds.DuplicateBound) ∷ (c, builds.InfiniteValue) ∷ []))
        (InBounds left) (new_column is_new column ++ bounds_declared column limits.lower limits.upper))
    by = grind arith

-- ---- terms

-- one more coefficient
known-more : (all : Draft) (name column : List ℕ) (value : Decimal)
    → AreKnown all → has_row all name ≡ true → AreKnown (with_declarations all (term_declared name (column, value)))
known-more all name column value known there k h = search (rules, has-put_key, same_name)

known-terms : (name : List ℕ) (terms : List Pair) (all : Draft)
    → AreKnown all → has_row all name ≡ true → AreKnown (with_declarations all (flat_map (term_declared name) terms))
known-terms _ [] _ known _ = known
known-terms _ (term ∷ terms) all known there = known-terms _ terms _ (known-more all _ _ _ known there) there

-- the columns of a row that has no coefficients yet are new
terms-unrefused : (name : List ℕ) (terms seen : List Pair) (all : Draft) → AreNew seen terms
    → ((column : List ℕ) → has_coefficient all (key name column) ≡ true →
    list_any (λ (term : Pair). same_bytes column term.0) seen ≡ true) →
    refuses kinds.DuplicateEntry all (flat_map (term_declared name) terms) ≡ false
terms-unrefused _ [] _ _ _ _ = refl
terms-unrefused name (term ∷ terms) seen all new known = none _ refl _ (terms-unrefused _ terms _ _ new.1 further)
  where
    none : (b : Bool) → has_coefficient all (key name term.0) ≡ b → (rest : Bool) → rest ≡ false → ((b || false) || rest) ≡ false
    none = grind arith

    further : (column : List ℕ) → has_coefficient (with_declarations all (term_declared name term)) (key name column) ≡ true
        → list_any (λ (t : Pair). same_bytes column t.0) (seen ++ term ∷ []) ≡ true
    further = grind (arith, list_any-append, has-put_key, or_right, or_left)

row_ended : (context : Context) (row : PartialRow) (relation : Relation) (l : Limit) (earlier : Tokens) (token : Terminal)
    → AreKnown context.builder → AreNew [] row.terms →
    KeepsEntries earlier token (end_side context (SideOfRow row relation) l token)
row_ended context row relation l earlier token known new = by (has_row context.builder row.name) refl (have_infinite_side form)
  where
    form : RowDefinition
    form = by_limits (unwrap_or (row_limits row.left relation l).lower MinusInf)
        (unwrap_or (row_limits row.left relation l).upper PlusInf)

    all : Draft
    all = with_declaration context.builder (declare_row row.name form)

    there : has_row all row.name ≡ true
    there = grind (arith, or_right, all, has-put, form, or_left, itself_named)

    after : has_row context.builder row.name ≡ false → (refusals : List BuildFault)
        → refusals_in_turn all (flat_map (term_declared row.name) row.terms) ≡ refusals → KeepsEntries earlier token
        (declare_unless_refused context token refusals BetweenRows (row_declared row (row_limits row.left relation l)))
    after e [] k = (known-terms row.name row.terms all (grind (arith, has-put, or_right)) there, tt)
    after e (first ∷ more) k = refused context earlier token (kind_of_build_fault first) (says-by earlier token all
        (flat_map (term_declared row.name) row.terms)
        (λ m. never (terms-unrefused row.name row.terms [] all new
        (λ column n. never e (known (key row.name column) n))) m) first
        (first-refused (flat_map (term_declared row.name) row.terms) all first more k))

    by : (b : Bool) → has_row context.builder row.name ≡ b → (c : Bool) → KeepsEntries earlier token
        (declare_unless_refused context token
        (those_of ((b, builds.DuplicateRow) ∷ (c, builds.InfiniteValue) ∷ []) ++ refusals_in_turn all
        (flat_map (term_declared row.name) row.terms)) BetweenRows (row_declared row (row_limits row.left relation l)))
    by = grind (arith, refused, after, all)

-- ---- items

new-more : (terms seen : List Pair) (column : List ℕ) (value : Decimal) → AreNew seen terms
    → list_any (λ (t : Pair). same_bytes column t.0) (seen ++ terms) ≡ false → AreNew seen (terms ++ (column, value) ∷ [])
new-more [] seen column value new h = grind (arith, append-nil)
new-more (term ∷ terms) seen column value new h = grind (
  arith,
  term,
  append_assoc,
  new-more terms (seen ++ term ∷ []) column value new.1
      (ap (λ (ts : List Pair). list_any (λ (t : Pair). same_bytes column t.0) ts) (append_assoc seen (term ∷ []) terms) ∙ h),
)

-- what is known where a term of the owner may end
abbrev Owned : ItemOwner → Tokens → Draft → Type 0
Owned (OfObjective name) earlier all = ObjectiveEntries name earlier all × (current_section earlier ≡ Some Objective)
Owned (OfRow row) earlier all = AreNew [] row.terms × HasTerms row.terms earlier × (current_section earlier ≡ Some Rows)

repeats : (earlier : Tokens) (column : List ℕ) → (is_under Objective earlier || is_under Rows earlier) ≡ true
    → is_named column (term_columns earlier) ≡ true → repeats_entry earlier (Name column) ≡ true
repeats = grind arith

term : (context : Context) (owner : ItemOwner) (column : List ℕ) (value : Decimal) (earlier : Tokens) → AreKnown context.builder
    → Owned owner earlier context.builder →
    KeepsEntries earlier (Name column) (end_term context owner column value (Name column))
term context (OfObjective name) column value earlier known h =
    grind (arith, declared, repeats, known-more, or_left, has-put_key, or_right)
term context (OfRow _) column _ earlier known h =
    branch _ _ _ _ _ (λ e. refused context earlier (Name column) kinds.DuplicateEntry
    (repeats earlier column (grind arith) (h.1 _ e))) (λ e. (known, new-more _ _ _ _ h.0 e))

owner-signed : (owner : ItemOwner) (sign : SignOf) (earlier : Tokens) (all : Draft) → OwnerEntries owner earlier all →
    OwnerEntries owner (Sign sign ∷ earlier) all
owner-signed = grind arith

owner-numbered : (owner : ItemOwner) (value : Decimal) (earlier : Tokens) (all : Draft) →
    OwnerEntries owner earlier all → OwnerEntries owner (Number value ∷ earlier) all
owner-numbered = grind arith

owner-entries : (owner : ItemOwner) (earlier : Tokens) (all : Draft) → Owned owner earlier all → OwnerEntries owner earlier all
owner-entries = grind arith

item : (context : Context) (owner : ItemOwner) (earlier : Tokens) → AreKnown context.builder
    → Owned owner earlier context.builder → (token : Terminal) → KeepsEntries earlier token (begin_item context owner token)
item = grind (arith, owner-entries, item-by, bad, owner-signed, term, owner-numbered)

-- a row without terms
no_terms : (label : List ℕ) (earlier : Tokens) (all : Draft) → current_section earlier ≡ Some Rows →
    Owned (OfRow (without_terms label None)) earlier all
no_terms label earlier all here = (tt, λ column e. absurd cc, here)

-- ---- the first token of a phrase

opened : (context : Context) (earlier : Tokens) (word : SectionWord) → AreKnown context.builder →
    KeepsEntries earlier (Opens word) (open_section context word)
opened = grind arith

row : (context : Context) (label : List ℕ) (earlier : Tokens) → AreKnown context.builder
    → current_section earlier ≡ Some Rows → (token : Terminal) → KeepsEntries earlier token (begin_row context label token)
row = grind arith

second : (context : Context) (left : Option (List ℕ × Relation)) (earlier : Tokens) → AreKnown context.builder
    → (relation : Relation) → KeepsEntries earlier (Compares relation)
    (step_at_second_relation context left relation (Compares relation))
second = grind arith

listed : (place : Place) (kind_declared : List ℕ → Declaration) (context : Context) (earlier : Tokens) → AreKnown context.builder
    → ((column : List ℕ) → refuses kinds.DuplicateEntry context.builder
    (declare_column column ∷ kind_declared column ∷ []) ≡ false) →
    ((column : List ℕ) → AreKnown (with_declarations context.builder (declare_column column ∷ kind_declared column ∷ [])))
    → ((column : List ℕ) → PlaceEntries place (Name column ∷ earlier) (with_declarations context.builder (declare_column column
    ∷ kind_declared column ∷ []))) → (token : Terminal) →
    KeepsEntries earlier token (name_taken place kind_declared context token)
listed place kind_declared context earlier _ none same entries token =
    listed-by (KeepsEntries earlier) context place kind_declared (bad context earlier) (λ column. declared context _ _ _
    (declare_column _ ∷ kind_declared column ∷ []) (λ e. never (none column) e) (same column) (entries column)) token

phrase : (place : Place) (context : Context) (earlier : Tokens)
    → AreKnown context.builder → PlaceEntries place earlier context.builder → PlaceShape place earlier
    → current_section earlier ≡ section_at_place place → (token : Terminal) →
    KeepsEntries earlier token (begin_phrase place context token)
phrase AtStart context earlier _ h _ _ token = bad context earlier token
phrase (BeforeItems name) context earlier known h shape here token = grind (arith, item)
phrase InSemis context earlier known h _ _ token =
    listed InSemis declare_semi context earlier known (λ column. refl) (λ column. known) (λ column. tt) token
phrase _ context earlier known h shape here token = grind arith

first : (place : Place) (context : Context) (earlier : Tokens)
    → AreKnown context.builder → PlaceEntries place earlier context.builder → PlaceShape place earlier
    → current_section earlier ≡ section_at_place place → (token : Terminal) →
    KeepsEntries earlier token (begin place context token)
first place context earlier known h shape here token = begin-by (KeepsEntries earlier) context place
    (λ word. branch earlier (Opens word) (may_begin_section place) (open_section context word)
    (refuse context (Opens word) kinds.BadToken) (λ e. opened context earlier word known)
    (λ e. bad context earlier (Opens word))) (phrase _ context _ known h shape here) token

lone : (context : Context) (owner : ItemOwner) (value : Decimal) (earlier : Tokens)
    → AreKnown context.builder → OwnerEntries owner earlier context.builder → current_section earlier ≡ section_of_item owner
    → (token : Terminal) → KeepsEntries earlier token (step_after_lone_number context owner value token)
lone context owner value earlier known h here token = grind arith

-- ---- the objective

none-there : (all : Draft) → all ≡ empty_draft → (k : CoefficientKey) → has_coefficient all k ≡ false
none-there = grind arith

first_objective : (context : Context) (sense : Sense) (earlier : Tokens) → AreKnown context.builder →
    context.builder ≡ empty_draft → current_section earlier ≡ Some Objective → (token : Terminal) →
    KeepsEntries earlier token (step context (AtObjective sense) token)
first_objective context sense earlier known none here _ = objective-by (KeepsEntries earlier) _ _ (λ label. (known, tt))
    (λ t. declared-before context _ t (objective_declared sense default_objective) _ (ap (λ d. refuses kinds.DuplicateEntry d
    (objective_declared sense default_objective)) none)
    (first (BeforeItems default_objective) _ _ (λ k e. never (none-there _ none k) e)
    (record {
      named = itself_named default_objective;
      columns =
          λ column e. never (none-there _ none (key default_objective column)) e;
    }) tt here t)) _

named_objective : (context : Context) (sense : Sense) (label : List ℕ) (earlier : Tokens)
    → context.builder ≡ empty_draft → last_name earlier ≡ Some label → current_section earlier ≡ Some Objective
    → (token : Terminal) → KeepsEntries earlier token (step context (ObjectiveName sense label) token)
named_objective context sense label earlier none last here token = objective_name-by (KeepsEntries earlier) context sense label
    (declared context earlier Colon (BeforeItems label) (objective_declared sense label) (λ e. never (ap (λ (d : Draft).
    refuses kinds.DuplicateEntry d (objective_declared sense label)) none) e) (λ k e. never (none-there context.builder none k) e)
    (record { named = itself_named label; columns = λ column e. never (none-there context.builder none (key label column)) e }))
    (λ t. declared-before context earlier t (first_item_declared sense label)
    (begin (InObjective default_objective) (with_made context (first_item_declared sense label)) t)
    (ap (λ (d : Draft). refuses kinds.DuplicateEntry d (first_item_declared sense label)) none)
    (first (InObjective default_objective) (with_made context (first_item_declared sense label)) earlier known entries
    tt here t)) token
  where
    known : AreKnown (with_declarations context.builder (first_item_declared sense label))
    known = known-more (with_declarations context.builder (objective_declared sense default_objective))
        default_objective label one (λ k e. never (none-there context.builder none k) e) (or_left
        (same_bytes default_objective default_objective) (has_name context.builder.rows default_objective)
        (itself_named default_objective))

    last_of : (a b : Bool) → (a && b) ≡ true → b ≡ true
    last_of = grind arith

    columns : (column : List ℕ) → has_coefficient (with_declarations context.builder (first_item_declared sense label))
        (key default_objective column) ≡ true → is_named column (term_columns earlier) ≡ true
    columns = grind (arith, has-put_key, same_name, last_of, never, none-there)

    entries : ObjectiveEntries default_objective earlier (with_declarations context.builder (first_item_declared sense label))
    entries = grind (arith, itself_named, columns)

-- ---- each state

side : (context : Context) (sided : SideOwner) (l : Limit) (earlier : Tokens) (token : Terminal)
    → AreKnown context.builder → SideEntries sided → KeepsEntries earlier token (end_side context sided l token)
side _ (SideOfRow row _) l _ _ known h = row_ended _ row _ l _ _ known h
side context (SideOfBound is_new column relation) l earlier token known h =
    bound context is_new column (limits_by relation l) earlier token None known

by-state : (context : Context) (state : State) (earlier : Tokens)
    → AreKnown context.builder → EntriesAt state earlier context.builder → ObjectiveAt state earlier context.builder →
    Shape state earlier → current_section earlier ≡ section_at state → (token : Terminal) →
    KeepsEntries earlier token (step context state token)
by-state context (Between place) earlier known h o shape here token = grind (arith, first)
by-state context (AtObjective sense) earlier known h o shape here token = grind (arith, first_objective)
by-state _ (ObjectiveName _ _) _ _ h o _ here _ = named_objective _ _ _ _ o.0.none o.1 here _
by-state context AtSemi earlier known h o shape here token =
    semi-by (KeepsEntries earlier) context (known, tt) (first InSemis (with_made context []) earlier known tt shape here) token
by-state context (Signs owner sign) earlier known h o shape here token =
    grind (arith, owner-entries, signs-by, bad, owner-signed, term, owner-numbered)
by-state context (ItemNumber owner sign value) earlier known h o shape here token = grind (arith, item_number-by, term, lone)
by-state context (RowLeftRelation partial) earlier known h o shape here token = grind (arith, item)
by-state context (BoundName column) earlier known h o _ _ token = bound_name-by (KeepsEntries earlier) context column
    (bad context earlier) (bound context true column no_limits earlier Free None known) (λ relation. (known, tt)) token
by-state context (BoundLeftRelation l relation) earlier known h o _ _ token =
    bound_column-by (KeepsEntries earlier) context l relation (bad context earlier)
    (λ name. bound context true name (limits_by (flip _) l) earlier (Name name) (Some (name, relation)) known) token
by-state context (AtSide _) earlier known h o _ _ token = side-by
    (KeepsEntries earlier) _ _ (bad context earlier) (λ sign. (known, h)) (λ value. side _ _ _ _ _ known h)
    (side _ _ _ _ _ known h) token
by-state context (SideSign sided sign) earlier known h o _ _ token =
    limit-by (KeepsEntries earlier) context (λ l t. end_side context sided l t) sign (bad context earlier)
    (λ value. side context _ (limit_of (apply_sign sign value)) earlier (Number value) known h)
    (side context _ (infinity sign) earlier Infinity known h) token
by-state context AfterEnd earlier _ h o _ _ token = bad context earlier token
by-state context _ earlier known h o shape here token = grind arith

-- ---- the law

record Entered (earlier : Tokens) (context : Context) (state : State) : Type 0 where
  rows : Known earlier context state
  known : AreKnown context.builder
  entries : EntriesAt state earlier context.builder

taken : (earlier : Tokens) (context : Context) (state : State) (token : Terminal) → Entered earlier context state →
    KeepsEntries earlier token (step context state token)
taken = grind (arith, by-state, opened)

entered-later : (earlier : Tokens) (context : Context) (state : State) (token : Terminal) (after : Context) (next : State)
    → Entered earlier context state → step context state token ≡ Goes after next → Entered (token ∷ earlier) after next
entered-later earlier _ _ token _ _ h e = let parts = subst (λ answer. KeepsEntries earlier token answer) e (taken _ _ _ _ h) in
    record { rows = known-later _ _ _ _ _ _ h.rows e; known = parts.0; entries = parts.1 }

pub duplicate-entry : IsInWords kinds.DuplicateEntry repeats_entry
duplicate-entry = in-words _ _ _
    (record { at_start = grind arith; goes = entered-later; refuses = (grind (arith, taken)) }) refl refl
