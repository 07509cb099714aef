-- The rows that were declared are those that tokens have ended, each with the name that its label or its position gives.
use Rattle.mpslp_lp_sentences.proofs.Prelude
use Prelude.{arith, ◌≡◌, refl, sym, ap, ◌∙◌, subst, ℕ, List, [], ◌∷◌, ◌++◌, ◌+◌, Bool, true, false, length, Option, Some, None, codes, ◌||◌}
use Prelude.{unwrap_or, if◌then◌else◌, flat_map, cons_option, option_map_or, Decimal, same_bytes, BuildFault, FaultKind, Limit, MinusInf}
use Prelude.{PlusInf, or_left, or_right, either, those_of, RowDefinition, Declarations, Draft, by_limits, empty_draft, with_declaration}
use Prelude.{with_declarations, declare_row, bounds_declared, has_name, has_row, refusals_in_turn, itself_named, has-put, same_name}
use Prelude.{IsSortedDraft, sorted-with_declarations, kind_of_build_fault, Objective, Rows, Context, Relation, ItemOwner, OfObjective}
use Prelude.{OfRow, To, That, Place, AtStart, BetweenRows, InRow, InBounds, SideOwner, SideOfRow, SideOfBound, State, Between, AtObjective}
use Prelude.{ObjectiveName, AtLastWord, Signs, ItemNumber, RowName, RowLabel, RowSign, RowNumber, RowLeft, RowLeftRelation, AtSide}
use Prelude.{SideSign, AfterToken, Goes, Refuses, refuse, declare_unless_refused, step_after_declarations, declare_at, end_bound}
use Prelude.{end_side, term_declared, row_limits, row_declared, PartialRow, Limits, Terminal, Opens, Colon, new_column, has_opened}
use Prelude.{current_section, is_named, collected, last_name, is_right_side, is_value, ends_row, rows_before, label_before, names_row}
use Prelude.{objective_before, names_objective, repeats_row, row_name, Sense, declare_column, declare_integer, declare_binary}
use Prelude.{declare_semi, Section, SectionWord, SignOf, LastWord, BeforeItems, InObjective, InGenerals, InBinaries, InSemis, AtSemi}
use Prelude.{BoundName, BoundSign, BoundLeft, BoundLeftRelation, AfterEnd, with_made, end_term, step_after_signs, begin_item, no_limits}
use Prelude.{opened_by, is_last_word, open_section, begin_row, step_at_second_relation, begin_phrase, begin, limits_by, flip}
use Prelude.{objective_declared, default_objective, first_item_declared, Name, Number, Sign, Compares, Free}
use Prelude.{step_after_lone_number, step, IsInWords, is_section}
use Rattle.mpslp_builder.specs.Declaration.{is_objective}
use Rattle.mpslp_lp_sentences.proofs.FaultedTokens.{refuses, first-refused, terms-refuse, in-words, first_named, signs-by, item-by}
use Rattle.mpslp_lp_sentences.proofs.FaultedTokens.{limit-by, listed-by, last_word-by, bound_name-by, bound_column-by, side-by}
use Rattle.mpslp_lp_sentences.proofs.FaultedTokens.{begin-by, objective-by, objective_name-by, item_number-by, semi-by}
use Rattle.mpslp_lp_sentences.proofs.{PhrasesHeard.row-adds, RowShapes.{PlaceShape, SideShape, SignedSideShape, NameShape}}
use Rattle.mpslp_lp_sentences.proofs.RowShapes.{SignShape, Shape, Shaped, shaped-later}
use Rattle.mpslp_lp_sentences.proofs.SectionFaults.{section_at_place, section_of_item, section_of_side, section_at}
use Rattle.mpslp_types.specs.declared.faults.BuildFault.TheVariants as builds
use Rattle.mpslp_types.specs.declared.faults.FaultKind.TheVariants as kinds

-- ---- what is known of rows

abbrev pub Tokens : Type 0
Tokens = List Terminal

pub record Rowed (earlier : Tokens) (all : Draft) : Type 0 where
  pub rows : (name : List ℕ) → has_name all.rows name ≡ true → is_named name (collected names_row earlier) ≡ true
  pub count : length all.rows ≡ rows_before earlier
  pub sorted : IsSortedDraft all

-- after the objective has its name
pub record HasObjective (earlier : Tokens) (all : Draft) : Type 0 where
  pub opened : has_opened earlier Objective ≡ true
  pub name : all.objective ≡ Some (objective_before earlier)

-- before the objective has its name
pub record IsEmpty (earlier : Tokens) (all : Draft) : Type 0 where
  pub opened : has_opened earlier Objective ≡ true
  pub none : all ≡ empty_draft
  pub name : objective_before earlier ≡ codes "obj"

abbrev pub ObjectiveAt : State → Tokens → Draft → Type 0
ObjectiveAt (Between AtStart) earlier all = (earlier ≡ []) × (all ≡ empty_draft)
ObjectiveAt (AtObjective sense) earlier all = IsEmpty earlier all
ObjectiveAt (ObjectiveName sense label) earlier all = IsEmpty earlier all × (last_name earlier ≡ Some label)
ObjectiveAt _ earlier all = HasObjective earlier all

-- the name of the row that has begun
abbrev pub IsNameOf : List ℕ → Tokens → Type 0
IsNameOf name earlier = name ≡ row_name (rows_before earlier + 1) (label_before earlier)

abbrev pub ItemName : ItemOwner → Tokens → Type 0
ItemName (OfObjective objective) earlier = Unit {0}
ItemName (OfRow row) earlier = IsNameOf row.name earlier

abbrev pub SideName : SideOwner → Tokens → Type 0
SideName (SideOfRow row relation) earlier = IsNameOf row.name earlier
SideName (SideOfBound is_new column relation) earlier = Unit {0}

abbrev pub PlaceName : Place → Tokens → Type 0
PlaceName BetweenRows earlier = label_before earlier ≡ None
PlaceName (InRow row) earlier = IsNameOf row.name earlier
PlaceName _ earlier = Unit {0}

abbrev pub NameAt : State → Tokens → Type 0
NameAt (Between place) earlier = PlaceName place earlier
NameAt (AtLastWord To) earlier = label_before earlier ≡ None
NameAt (AtLastWord That) earlier = label_before earlier ≡ None
NameAt (Signs owner sign) earlier = ItemName owner earlier
NameAt (ItemNumber owner sign value) earlier = ItemName owner earlier
NameAt (RowName label) earlier = label_before earlier ≡ None
NameAt (RowLabel label) earlier = IsNameOf label earlier
NameAt (RowSign label sign) earlier = IsNameOf label earlier
NameAt (RowNumber label sign value) earlier = IsNameOf label earlier
NameAt (RowLeft label l) earlier = IsNameOf label earlier
NameAt (RowLeftRelation row) earlier = IsNameOf row.name earlier
NameAt (AtSide sided) earlier = SideName sided earlier
NameAt (SideSign sided sign) earlier = SideName sided earlier
NameAt _ earlier = Unit {0}

-- ---- what an error says

abbrev pub Says : Tokens → Terminal → FaultKind → Type 0
Says earlier token kinds.DuplicateRow = repeats_row earlier token ≡ true
Says earlier token _ = Unit {0}

abbrev pub KeepsRows : Tokens → Terminal → AfterToken → Type 0
KeepsRows earlier token (Goes after next) =
    Rowed (token ∷ earlier) after.builder × ObjectiveAt next (token ∷ earlier) after.builder × NameAt next (token ∷ earlier)
KeepsRows earlier token (Refuses kind) = Says earlier token kind

pub refused : (context : Context) (earlier : Tokens) (token : Terminal) (kind : FaultKind)
    → Says earlier token kind → KeepsRows earlier token (refuse context token kind)
refused context earlier (Opens word) kind h = by _ _
  where
    by : (a b : Bool) → Says earlier (Opens word)
        (unwrap_or (if a then Some kinds.SectionRepeated else (if b then Some kinds.SectionOrder else None)) kind)
    by = grind arith
refused _ _ _ _ h = h

pub bad : (context : Context) (earlier : Tokens) (token : Terminal) →
    KeepsRows earlier token (refuse context token kinds.BadToken)
bad = grind arith

pub branch : (earlier : Tokens) (token : Terminal) (b : Bool) (x y : AfterToken)
    → KeepsRows earlier token x → KeepsRows earlier token y → KeepsRows earlier token (if b then x else y)
branch = grind arith

pub says-by : (earlier : Tokens) (token : Terminal) (all : Draft) (made : Declarations)
    → (refuses kinds.DuplicateRow all made ≡ true → repeats_row earlier token ≡ true)
    → (first : BuildFault) → refuses (kind_of_build_fault first) all made ≡ true → Says earlier token (kind_of_build_fault first)
says-by = grind arith

-- ---- one token more

-- a token that ends no row, and declarations of other things
pub rowed-later : (token : Terminal) (earlier : Tokens) (all later : Draft)
    → ends_row earlier token ≡ false → later.rows ≡ all.rows → IsSortedDraft later → Rowed earlier all →
    Rowed (token ∷ earlier) later
rowed-later = grind arith

-- the token is no label, or the section is that of the rows
abbrev pub is_no_colon : Terminal → Bool
is_no_colon Colon = false
is_no_colon _ = true

pub objective-later : (token : Terminal) (earlier : Tokens) (all later : Draft)
    → is_no_colon token ≡ true → later.objective ≡ all.objective → HasObjective earlier all → HasObjective (token ∷ earlier) later
objective-later = grind arith

-- ---- a value that is no right side of a row

-- ---- declarations

-- what is known before a token, once the objective has begun
pub record Here (earlier : Tokens) (context : Context) : Type 0 where
  pub rowed : Rowed earlier context.builder
  pub objective : HasObjective earlier context.builder
  pub seen : context.sections_seen.objective ≡ true

-- a token that ends no row and declares nothing
pub rowed-on : (token : Terminal) (earlier : Tokens) (context : Context)
    → ends_row earlier token ≡ false → Here earlier context → Rowed (token ∷ earlier) context.builder
rowed-on = grind arith

pub objective-on : (token : Terminal) (earlier : Tokens) (context : Context)
    → is_no_colon token ≡ true → Here earlier context → HasObjective (token ∷ earlier) context.builder
objective-on = grind arith

pub never : (b : Bool) {X : Type 0} → b ≡ false → b ≡ true → X
never b e k = grind arith

pub declared : (context : Context) (earlier : Tokens) (token : Terminal) (place : Place) (made : Declarations) →
    Here earlier context → ends_row earlier token ≡ false → is_no_colon token ≡ true →
    (with_declarations context.builder made).rows ≡ context.builder.rows →
    (with_declarations context.builder made).objective ≡ context.builder.objective →
    refuses kinds.DuplicateRow context.builder made ≡ false →
    (HasObjective (token ∷ earlier) (with_declarations context.builder made) →
    ObjectiveAt (Between place) (token ∷ earlier) (with_declarations context.builder made))
    → PlaceName place (token ∷ earlier) → KeepsRows earlier token (declare_at context token place made)
declared context earlier token place made h none keeps rows objective unrefused at name =
    by (refusals_in_turn context.builder made) refl
  where
    by : (refusals : List BuildFault) → refusals_in_turn context.builder made ≡ refusals
        → KeepsRows earlier token (declare_unless_refused context token refusals place made)
    by [] e = grind (arith, rowed-later, sorted-with_declarations, objective-later)
    by (first ∷ more) e = refused context earlier token (kind_of_build_fault first) (says-by earlier token context.builder made
        (λ k. never (refuses kinds.DuplicateRow context.builder made) unrefused k) first
        (first-refused made context.builder first more e))

pub declared-before : (context : Context) (earlier : Tokens) (token : Terminal) (made : Declarations) (next : AfterToken)
    → refuses kinds.DuplicateRow context.builder made ≡ false → KeepsRows earlier token next
    → KeepsRows earlier token (step_after_declarations context token (refusals_in_turn context.builder made) made next)
declared-before context earlier token made next unrefused h = by (refusals_in_turn context.builder made) refl
  where
    by : (refusals : List BuildFault) → refusals_in_turn context.builder made ≡ refusals
        → KeepsRows earlier token (step_after_declarations context token refusals made next)
    by [] e = h
    by (first ∷ more) e = refused context earlier token (kind_of_build_fault first) (says-by earlier token context.builder made
        (λ k. never (refuses kinds.DuplicateRow context.builder made) unrefused k) first
        (first-refused made context.builder first more e))

pub bound : (context : Context) (is_new : Bool) (column : List ℕ) (limits : Limits)
    (earlier : Tokens) (token : Terminal) (left : Option (List ℕ × Relation)) → Here earlier context →
    ends_row earlier token ≡ false → is_no_colon token ≡ true →
    KeepsRows earlier token (end_bound context (new_column is_new column) column limits token (InBounds left))
bound context is_new column limits earlier token left h none keeps = by _ _ _
  where
    front : Draft
    front = with_declarations context.builder (new_column is_new column)

    rows : (b : Bool) → (with_declarations context.builder
        (new_column b column ++ bounds_declared column limits.lower limits.upper)).rows ≡ context.builder.rows
    rows = grind arith

    objective : (b : Bool) → (with_declarations context.builder
        (new_column b column ++ bounds_declared column limits.lower limits.upper)).objective ≡ context.builder.objective
    objective = grind arith

    by : (a b c : Bool) → KeepsRows earlier token (declare_unless_refused context token
        (those_of ((a, builds.UnknownColumn) ∷ (b, builds.DuplicateBound) ∷ (c, builds.InfiniteValue) ∷ []))
        (InBounds left) (new_column is_new column ++ bounds_declared column limits.lower limits.upper))
    by a b c = grind (arith, refused, rowed-later, rows, sorted-with_declarations, objective-later, objective)

-- ---- the end of a row

pub terms-rows : (name : List ℕ) (terms : List (List ℕ × Decimal)) (all : Draft) →
    (with_declarations all (flat_map (term_declared name) terms)).rows ≡ all.rows
terms-rows _ [] _ = refl
terms-rows _ (term ∷ terms) _ = terms-rows _ terms _

pub terms-objective : (name : List ℕ) (terms : List (List ℕ × Decimal)) (all : Draft)
    → (with_declarations all (flat_map (term_declared name) terms)).objective ≡ all.objective
terms-objective _ [] _ = refl
terms-objective _ (term ∷ terms) _ = terms-objective _ terms _

pub row_ended : (context : Context) (row : PartialRow) (relation : Relation) (l : Limit) (earlier : Tokens) (token : Terminal)
    → Here earlier context → IsNameOf row.name earlier → is_value token ≡ true → current_section earlier ≡ Some Rows
    → is_right_side earlier ≡ true → KeepsRows earlier token (end_side context (SideOfRow row relation) l token)
row_ended context row relation l earlier token h name value here right = by (refusals_in_turn context.builder made) refl
  where
    form : RowDefinition
    form = by_limits (unwrap_or (row_limits row.left relation l).lower MinusInf)
        (unwrap_or (row_limits row.left relation l).upper PlusInf)

    made : Declarations
    made = row_declared row (row_limits row.left relation l)

    ends : ends_row earlier token ≡ true
    ends = grind arith

    named : names_row earlier token ≡ Some row.name
    named = grind arith

    -- of the objective, or of an earlier row
    is_objective-named : (o : Option (List ℕ)) → o ≡ Some (objective_before earlier)
        → option_map_or (same_bytes row.name) o false ≡ true → names_objective names_row earlier token ≡ true
    is_objective-named None e k = absurd cc
    is_objective-named (Some n) e k =
        ap (λ (found : Option (List ℕ)). option_map_or (same_bytes (objective_before earlier)) found false)
        named ∙ subst (λ (m : List ℕ). same_bytes (objective_before earlier) m ≡ true)
        (sym (same_name row.name n k ∙ one n (objective_before earlier) e)) (itself_named (objective_before earlier))
      where
        one : (a b : List ℕ) → Some a ≡ Some b → a ≡ b
        one a b m = cc

    repeated : has_row context.builder row.name ≡ true → repeats_row earlier token ≡ true
    repeated k = either (is_objective context.builder row.name) (has_name context.builder.rows row.name)
        (repeats_row earlier token) (λ e. or_right _ _
        (is_objective-named context.builder.objective h.objective.name e)) (λ e. or_left _ _ (ap
        (λ (o : Option (List ℕ)). option_map_or (λ c. is_named c (collected names_row earlier)) o false) named
        ∙ h.rowed.rows row.name e)) k

    only : (b c : Bool) → c ≡ false → ((b || false) || c) ≡ true → b ≡ true
    only = grind arith

    rowed : refusals_in_turn context.builder made ≡ [] → Rowed (token ∷ earlier) (with_declarations context.builder made)
    rowed none = record {
      rows = λ other e. found other (same_bytes other row.name) refl
          (sym (has-put other row.name form context.builder.rows)
          ∙ ap (λ (entries : List (List ℕ × RowDefinition)). has_name entries other)
          (sym (terms-rows row.name row.terms (with_declaration context.builder (declare_row row.name form)))) ∙ e);
      count = row-adds context.builder row.name form row.terms h.rowed.sorted none
          ∙ ap (λ (n : ℕ). n + 1) h.rowed.count
          ∙ sym (ap (λ (b : Bool). if b then rows_before earlier + 1 else rows_before earlier) ends);
      sorted = sorted-with_declarations made context.builder h.rowed.sorted;
    }
      where
        found : (other : List ℕ) (b : Bool) → same_bytes other row.name ≡ b → (b || has_name context.builder.rows other) ≡ true
            → is_named other (cons_option (names_row earlier token) (collected names_row earlier)) ≡ true
        found other true e k = ap (λ (o : Option (List ℕ)). is_named other
            (cons_option o (collected names_row earlier))) named ∙ or_left _ _ e
        found other false e k = (grind arith)

    keeps : (t : Terminal) → is_value t ≡ true → is_no_colon t ≡ true
    keeps = grind arith

    no_label : (t : Terminal) → is_value t ≡ true → ends_row earlier t ≡ true → label_before (t ∷ earlier) ≡ None
    no_label = grind arith

    by : (refusals : List BuildFault) → refusals_in_turn context.builder made ≡ refusals
        → KeepsRows earlier token (declare_unless_refused context token refusals BetweenRows made)
    by [] e = (
      rowed e,
      objective-later token earlier context.builder (with_declarations context.builder made) (keeps token value)
          (terms-objective row.name row.terms (with_declaration context.builder (declare_row row.name form))) h.objective,
      no_label token value ends,
    )
    by (first ∷ more) e = refused context earlier token (kind_of_build_fault first) (says-by earlier token context.builder made
        (λ k. repeated (only (has_row context.builder row.name)
        (refuses kinds.DuplicateRow (with_declaration context.builder (declare_row row.name form))
        (flat_map (term_declared row.name) row.terms)) (terms-refuse kinds.DuplicateRow refl refl refl row.name row.terms
        (with_declaration context.builder (declare_row row.name form))) k)) first
        (first-refused made context.builder first more e))

-- ---- a row with the name of an earlier row or of the objective is as `FaultsInWords` defines it: in each state, what
-- is known of the rows before is known after each token

-- ---- items

-- no value ends a row here
abbrev NoEnd : Tokens → Type 0
NoEnd earlier = (token : Terminal) → ends_row earlier token ≡ false

item-kept : (owner : ItemOwner) (value : Decimal) (earlier : Tokens)
    → ends_row earlier (Number value) ≡ false → ItemName owner earlier → ItemName owner (Number value ∷ earlier)
item-kept = grind arith

item-signed : (owner : ItemOwner) (sign : SignOf) (earlier : Tokens) → ItemName owner earlier →
    ItemName owner (Sign sign ∷ earlier)
item-signed = grind arith

term : (context : Context) (owner : ItemOwner) (column : List ℕ) (value : Decimal) (earlier : Tokens)
    → Here earlier context → ItemName owner earlier →
    KeepsRows earlier (Name column) (end_term context owner column value (Name column))
term _ (OfObjective objective) column value _ h _ =
    declared _ _ (Name column) (InObjective objective) (term_declared objective (column, value)) h refl refl refl refl
    refl (λ o. o) tt
term context (OfRow row) column value earlier h name = grind arith

signs : (context : Context) (owner : ItemOwner) (sign : SignOf) (earlier : Tokens) → Here earlier context
    → ItemName owner earlier → NoEnd earlier → (token : Terminal) →
    KeepsRows earlier token (step_after_signs context owner sign token)
signs = grind (arith, signs-by, bad, rowed-on, objective-on, item-signed, term, item-kept)

item : (context : Context) (owner : ItemOwner) (earlier : Tokens) → Here earlier context
    → ItemName owner earlier → NoEnd earlier → (token : Terminal) → KeepsRows earlier token (begin_item context owner token)
item = grind (arith, item-by, bad, rowed-on, objective-on, item-signed, term, item-kept)

-- ---- sections

record IsStart (earlier : Tokens) (context : Context) : Type 0 where
  first : earlier ≡ []
  none : context.builder ≡ empty_draft
  unseen : context.sections_seen.objective ≡ false

opened : (context : Context) (earlier : Tokens) (word : SectionWord) → Here earlier context →
    KeepsRows earlier (Opens word) (open_section context word)
opened = grind arith

-- at the start only the objective may begin
begun : (context : Context) (earlier : Tokens) (word : SectionWord)
    → Rowed earlier context.builder → IsStart earlier context → KeepsRows earlier (Opens word) (open_section context word)
begun = grind arith

-- ---- the first token of a phrase

row : (context : Context) (label : List ℕ) (earlier : Tokens) → Here earlier context
    → IsNameOf label earlier → NoEnd earlier → (token : Terminal) → KeepsRows earlier token (begin_row context label token)
row = grind arith

second : (context : Context) (left : Option (List ℕ × Relation)) (earlier : Tokens) → Here earlier context
    → (relation : Relation) → KeepsRows earlier (Compares relation)
    (step_at_second_relation context left relation (Compares relation))
second = grind arith

elsewhere-no_end : (earlier : Tokens) (section : Section) → current_section earlier ≡ Some section →
    is_section Rows section ≡ false → NoEnd earlier
elsewhere-no_end earlier section here other token = grind arith

-- a place after the start
abbrev is_later : Place → Bool
is_later AtStart = false
is_later _ = true

phrase : (place : Place) (context : Context) (earlier : Tokens) → Here earlier context → PlaceName place earlier →
    PlaceShape place earlier → current_section earlier ≡ section_at_place place → (token : Terminal) →
    KeepsRows earlier token (begin_phrase place context token)
phrase AtStart context earlier h _ _ _ token = bad context earlier token
phrase (BeforeItems objective) context earlier h name shape here token = grind (arith, item, elsewhere-no_end)
phrase (InObjective objective) context earlier h name shape here token = grind arith
phrase BetweenRows context earlier h name shape here token = grind arith
phrase (InRow partial) context earlier h name _ _ token = (grind arith)
phrase (InBounds left) context earlier h name shape here token = grind arith
phrase InGenerals context earlier h _ _ _ token =
    listed-by (KeepsRows earlier) context InGenerals declare_integer (bad context earlier)
    (λ column. declared _ _ (Name column) InGenerals (declare_column _ ∷ declare_integer _ ∷ []) h refl refl refl
    refl refl (λ o. o) tt) token
phrase InBinaries context earlier h _ _ _ token =
    listed-by (KeepsRows earlier) context InBinaries declare_binary (bad context earlier)
    (λ column. declared _ _ (Name column) InBinaries (declare_column _ ∷ declare_binary _ ∷ []) h refl refl refl
    refl refl (λ o. o) tt) token
phrase InSemis context earlier h _ _ _ token = listed-by (KeepsRows earlier) context InSemis declare_semi (bad context earlier)
    (λ column. declared _ _ (Name column) InSemis (declare_column _ ∷ declare_semi _ ∷ []) h refl refl refl refl refl
    (λ o. o) tt) token

first : (place : Place) (context : Context) (earlier : Tokens) → Here earlier context → PlaceName place earlier →
    PlaceShape place earlier → current_section earlier ≡ section_at_place place → (token : Terminal) →
    KeepsRows earlier token (begin place context token)
first = grind (arith, begin-by, branch, opened, bad, phrase)

lone : (context : Context) (owner : ItemOwner) (value : Decimal) (earlier : Tokens) → Here earlier context →
    current_section earlier ≡ section_of_item owner → (token : Terminal) →
    KeepsRows earlier token (step_after_lone_number context owner value token)
lone context owner value earlier h here token = grind arith

-- ---- each state

here_from : (earlier : Tokens) (context : Context) → Rowed earlier context.builder
    → HasObjective earlier context.builder → context.sections_seen.objective ≡ has_opened earlier Objective → Here earlier context
here_from = grind arith

-- the objective gets its name without a label
unlabelled : (context : Context) (earlier : Tokens) (made : Declarations) → Rowed earlier context.builder →
    IsEmpty earlier context.builder → context.sections_seen.objective ≡ has_opened earlier Objective →
    (with_declarations context.builder made).rows ≡ context.builder.rows →
    (with_declarations context.builder made).objective ≡ Some default_objective → Here earlier (with_made context made)
unlabelled = grind (arith, sorted-with_declarations, opened)

named_objective : (context : Context) (sense : Sense) (label : List ℕ) (earlier : Tokens) →
    Rowed earlier context.builder → IsEmpty earlier context.builder → last_name earlier ≡ Some label →
    context.sections_seen.objective ≡ has_opened earlier Objective → current_section earlier ≡ Some Objective →
    (token : Terminal) → KeepsRows earlier token (step context (ObjectiveName sense label) token)
named_objective context sense label earlier rowed empty last seen here token =
    objective_name-by (KeepsRows earlier) context sense label (by _ refl) (λ t. declared-before context earlier t
    (first_item_declared sense label)
    (begin (InObjective default_objective) (with_made context (first_item_declared sense label)) t)
    (ap (λ d. refuses kinds.DuplicateRow d (first_item_declared sense label)) empty.none)
    (first (InObjective default_objective) _ _ (unlabelled context _ (first_item_declared sense label) rowed empty
    seen refl refl) tt tt here t)) token
  where
    by : (refusals : List BuildFault) → refusals_in_turn context.builder (objective_declared sense label) ≡ refusals
        → KeepsRows earlier Colon (declare_unless_refused context Colon refusals (BeforeItems label)
        (objective_declared sense label))
    by = grind arith

last_word : (context : Context) (wanted : LastWord) (earlier : Tokens) → Here earlier context
    → NameAt (AtLastWord wanted) earlier → (token : Terminal) → KeepsRows earlier token (step context (AtLastWord wanted) token)
last_word context wanted earlier h name token = last_word-by (KeepsRows earlier) context wanted (bad context earlier)
    (λ word. branch earlier (Name word) (is_last_word wanted word) (Goes (with_made context []) (Between (opened_by wanted)))
    (refuse context (Name word) kinds.BadToken) (by _ _ name) (bad context earlier (Name word))) token
  where
    by : (w : LastWord) (word : List ℕ) → NameAt (AtLastWord w) earlier →
        KeepsRows earlier (Name word) (Goes (with_made context []) (Between (opened_by w)))
    by = grind arith

row_named : (context : Context) (label : List ℕ) (earlier : Tokens)
    → Here earlier context → label_before earlier ≡ None → NameShape label earlier →
    PlaceShape (InRow (first_named context label)) earlier → current_section earlier ≡ Some Rows →
    (token : Terminal) → KeepsRows earlier token (step context (RowName label) token)
row_named = grind arith

-- the sign of a row, and then a number or an infinity
signed-no_end : (earlier : Tokens) → SignShape earlier → NoEnd earlier
signed-no_end earlier h token = grind arith

row_signed : (context : Context) (label : List ℕ) (sign : SignOf) (earlier : Tokens) → Here earlier context
    → IsNameOf label earlier → SignShape earlier → (token : Terminal) →
    KeepsRows earlier token (step context (RowSign label sign) token)
row_signed = grind (arith, bad, rowed-on, objective-on, term, signed-no_end)

row_numbered : (context : Context) (label : List ℕ) (sign : SignOf) (value : Decimal) (earlier : Tokens) → Here earlier context
    → IsNameOf label earlier → (token : Terminal) → KeepsRows earlier token (step context (RowNumber label sign value) token)
row_numbered = grind arith

value-no_label : (token : Terminal) → is_value token ≡ true → is_no_colon token ≡ true
value-no_label = grind arith

side : (context : Context) (sided : SideOwner) (l : Limit) (earlier : Tokens) (token : Terminal)
    → Here earlier context → SideName sided earlier → SideShape sided earlier
    → current_section earlier ≡ section_of_side sided → is_value token ≡ true →
    KeepsRows earlier token (end_side context sided l token)
side context (SideOfRow row relation) l earlier token h name shape here value = grind (arith, row_ended)
side context (SideOfBound is_new column relation) l earlier token h name shape here value =
    grind (arith, bound, elsewhere-no_end, value-no_label)

signed_side : (context : Context) (sided : SideOwner) (l : Limit) (earlier : Tokens) (token : Terminal)
    → Here earlier context → SideName sided earlier → SignedSideShape sided earlier
    → current_section earlier ≡ section_of_side sided → is_value token ≡ true →
    KeepsRows earlier token (end_side context sided l token)
signed_side context (SideOfRow row relation) l earlier token h name shape here value = grind (arith, row_ended)
signed_side context (SideOfBound is_new column relation) l earlier token h name shape here value =
    grind (arith, bound, elsewhere-no_end, value-no_label)

by-state : (context : Context) (state : State) (earlier : Tokens) → Rowed earlier context.builder →
    ObjectiveAt state earlier context.builder → NameAt state earlier → Shape state earlier →
    current_section earlier ≡ section_at state → context.sections_seen.objective ≡ has_opened earlier Objective →
    (token : Terminal) → KeepsRows earlier token (step context state token)
by-state context (Between AtStart) earlier r o n sh here v token = grind arith
by-state context (AtObjective sense) earlier r o n sh here v token =
    grind (arith, objective-by, rowed-later, opened, declared-before, refuses, first, unlabelled)
by-state _ (ObjectiveName _ _) _ r o n _ here v _ = named_objective _ _ _ _ r o.0 o.1 v here _
by-state context (AtLastWord wanted) earlier r o n sh here v token = grind (arith, last_word, here_from)
by-state context AtSemi earlier r o n sh here v token = grind (arith, here_from, semi-by, rowed-on, objective-on, first)
by-state context (Signs owner sign) earlier r o n sh here v token = grind (arith, signs, here_from)
by-state context (ItemNumber owner sign value) earlier r o n sh here v token = grind (arith, here_from, item_number-by, term, lone)
by-state context (RowName _) _ r o n sh here v _ = row_named _ _ _ (here_from _ _ r o v) n sh (grind arith) here _
by-state context (RowLabel label) earlier r o n sh here v token = grind arith
by-state context (RowSign label sign) earlier r o n sh here v token = grind arith
by-state context (RowNumber label sign value) earlier r o n sh here v token = grind arith
by-state context (RowLeft label l) earlier r o n sh here v token = grind arith
by-state context (RowLeftRelation partial) earlier r o n sh here v token = grind (arith, item, here_from)
by-state context (BoundName column) earlier r o n _ _ v token = let h = here_from _ _ r o v in
    bound_name-by (KeepsRows earlier) _ _ (bad context earlier)
    (bound context true column no_limits _ Free None h refl refl)
    (λ relation. (rowed-on _ _ _ refl h, objective-on _ _ _ refl h, tt)) token
by-state context (BoundSign sign) earlier r o n sh here v token = grind arith
by-state context (BoundLeft l) earlier r o n sh here v token = grind arith
by-state context (BoundLeftRelation l relation) earlier r o n _ _ v token = let h = here_from _ context r o v in
    bound_column-by (KeepsRows earlier) context l relation
    (bad context earlier) (λ name. bound _ true name (limits_by (flip _) l) _ (Name name) (Some (name, relation)) h refl
    refl) token
by-state context (AtSide sided) earlier r o n sh here v token = grind (arith, here_from, side-by, bad, rowed-on, objective-on, side)
by-state context (SideSign sided sign) earlier r o n sh here v token = grind (arith, here_from, limit-by, bad, signed_side)
by-state context AfterEnd earlier r o n _ _ v token = bad context earlier token
by-state context _ earlier r o n sh here v token = grind (arith, first, here_from)

-- ---- the law

pub record Known (earlier : Tokens) (context : Context) (state : State) : Type 0 where
  pub shaped : Shaped earlier context state
  pub rowed : Rowed earlier context.builder
  pub objective : ObjectiveAt state earlier context.builder
  pub name : NameAt state earlier

taken : (earlier : Tokens) (context : Context) (state : State) (token : Terminal) → Known earlier context state →
    KeepsRows earlier token (step context state token)
taken _ context _ token known =
    by-state context _ _ known.rowed known.objective known.name known.shaped.shape known.shaped.opened.current
    (known.shaped.opened.seen Objective) token

pub known-later : (earlier : Tokens) (context : Context) (state : State) (token : Terminal) (after : Context) (next : State)
    → Known earlier context state → step context state token ≡ Goes after next → Known (token ∷ earlier) after next
known-later earlier _ _ token _ _ known h = let parts =
    subst (λ answer. KeepsRows earlier token answer) h (taken _ _ _ _ known) in
    record { shaped = shaped-later _ _ _ _ _ _ known.shaped h; rowed = parts.0; objective = parts.1; name = parts.2 }

repeated : (earlier : Tokens) (context : Context) (state : State) (token : Terminal)
    → Known earlier context state → step context state token ≡ Refuses kinds.DuplicateRow → repeats_row earlier token ≡ true
repeated = grind (arith, taken)

pub duplicate-row : IsInWords kinds.DuplicateRow repeats_row
duplicate-row = in-words _ _ _ (record { at_start = grind arith; goes = known-later; refuses = repeated }) refl refl
