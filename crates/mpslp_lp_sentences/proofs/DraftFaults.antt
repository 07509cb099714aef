-- What was declared is shown by the tokens before, so that a bound, a constant or a kind of a column that was declared before
-- is as `FaultsInWords` defines it.
use Rattle.mpslp_lp_sentences.proofs.Prelude
use Prelude.{arith, rules, ◌≡◌, refl, ap, ◌∙◌, subst, ℕ, List, [], ◌∷◌, ◌++◌, Bool, true, false, Option, Some, None, is_some, ◌||◌, ◌&&◌}
use Prelude.{not, unwrap_or, if◌then◌else◌, list_all, flat_map, cons_option, option_map_or, first_so, second_so, put, list_all-append}
use Prelude.{Decimal, is_plus_infinite, is_minus_infinite, bytes_cmp, BuildFault, FaultKind, Limit, Sense, both_so, or_left, or_right}
use Prelude.{so_not, either, those_of, Declaration, Declarations, Draft, with_declaration, with_declarations, declare_constant, declare_rhs}
use Prelude.{declare_column, declare_lower, declare_upper, declare_marked, declare_integer, declare_binary, declare_semi, bounds_declared}
use Prelude.{has_name, has_column, is_integer, is_semi, refusals_in_turn, itself_named, has-put, same_name}
use Prelude.{kind_of_build_fault, Objective, Bounds, Generals, Binaries, SemiContinuous, SectionWord, Context, Relation, ItemOwner}
use Prelude.{OfObjective, OfRow, Place, AtStart, BeforeItems, InObjective, BetweenRows, InBounds, InGenerals, InBinaries, InSemis}
use Prelude.{SideOwner, SideOfRow, SideOfBound, State, Between, AtObjective, ObjectiveName, AtSemi, Signs, ItemNumber, RowLabel, BoundName}
use Prelude.{BoundLeftRelation, AtSide, SideSign, AfterToken, Goes, Refuses, refuse, with_made, declare_unless_refused}
use Prelude.{step_after_declarations, declare_at, end_term, begin_item, end_bound, end_side, no_limits, open_section}
use Prelude.{begin_row, step_at_second_relation, begin_phrase, begin, Limits, limits_by, flip, term_declared, objective_declared}
use Prelude.{default_objective, first_item_declared, row_limits, row_declared, PartialRow, start, Terminal, Opens, Name, Sign}
use Prelude.{Compares, Colon, Free, new_column, begin_phrase_after, step_after_lone_number, step, IsInWords, is_section, current_section}
use Prelude.{is_under, is_named, collected, names_again, ends_in_number, ends_in_sign, may_follow_constant, completes_constant}
use Prelude.{has_constant_before, repeats_constant, gives_lower, gives_upper, last_name, column_before, after_sign}
use Prelude.{completed, completes_bound, repeats_bound, names_integer, names_semi, changes_kind}
use Rattle.mpslp_lp_sentences.proofs.FaultedTokens.{in-words, refuses, first-refused, terms-refuse, signs-by, item-by, limit-by, listed-by}
use Rattle.mpslp_lp_sentences.proofs.FaultedTokens.{lone-by, bound_name-by, bound_column-by, side-by, begin-by, objective-by}
use Rattle.mpslp_lp_sentences.proofs.FaultedTokens.{objective_name-by, item_number-by, semi-by}
use Rattle.mpslp_lp_sentences.proofs.RowShapes.{SideShape, SignedSideShape, NumberShape, Shape, Shaped, shaped-later}
use Rattle.mpslp_lp_sentences.proofs.SectionFaults.{section_of_item, section_of_side, section_at}
use Rattle.mpslp_types.specs.declared.faults.BuildFault.TheVariants as builds
use Rattle.mpslp_types.specs.declared.faults.FaultKind.TheVariants as kinds

-- ---- what was declared is shown by the tokens

pub record Shown (earlier : List Terminal) (all : Draft) : Type 0 where
  pub lowers : (name : List ℕ) → has_name all.lowers name ≡ true →
      is_named name (collected (completes_bound gives_lower) earlier) ≡ true
  pub uppers : (name : List ℕ) → has_name all.uppers name ≡ true →
      is_named name (collected (completes_bound gives_upper) earlier) ≡ true
  pub integers : (name : List ℕ) → is_integer all name ≡ true → is_named name (collected names_integer earlier) ≡ true
  pub semis : (name : List ℕ) → is_semi all name ≡ true → is_named name (collected names_semi earlier) ≡ true
  pub constant : is_some all.constant ≡ true → has_constant_before earlier ≡ true
  pub no_rhs : all.rhs_values ≡ []

-- the same for one declaration; no right-hand side is declared by itself
abbrev is_shown : List Terminal → Declaration → Bool
is_shown earlier (declare_constant value) = has_constant_before earlier
is_shown earlier (declare_rhs row value) = false
is_shown earlier (declare_lower column limit) = is_named column (collected (completes_bound gives_lower) earlier)
is_shown earlier (declare_upper column limit) = is_named column (collected (completes_bound gives_upper) earlier)
is_shown earlier (declare_marked column) = is_named column (collected names_integer earlier)
is_shown earlier (declare_integer column) = is_named column (collected names_integer earlier)
is_shown earlier (declare_binary column) = is_named column (collected names_integer earlier)
is_shown earlier (declare_semi column) = is_named column (collected names_semi earlier)
is_shown earlier _ = true

named-put : {X : Type 0} (name new : List ℕ) (value : X) (entries : List (List ℕ × X)) (names : List (List ℕ))
    → (has_name entries name ≡ true → is_named name names ≡ true)
    → is_named new names ≡ true → has_name (put bytes_cmp new value entries) name ≡ true → is_named name names ≡ true
named-put name new value entries names old here h = search (rules, has-put, same_name)

-- ---- one declaration more

shown-one : (d : Declaration) (all : Draft) (earlier : List Terminal) → Shown earlier all → is_shown earlier d ≡ true
    → Shown earlier (with_declaration all d)
shown-one (declare_rhs row value) all earlier h k = absurd cc
shown-one (declare_lower column limit) all earlier h k = grind (arith, named-put)
shown-one (declare_upper column limit) all earlier h k = grind (arith, named-put)
shown-one (declare_marked column) all earlier h k = grind (arith, either, named-put, or_left, or_right)
shown-one (declare_integer column) all earlier h k = grind (arith, either, or_left, named-put, or_right)
shown-one (declare_binary column) all earlier h k = grind (arith, either, or_left, or_right, named-put)
shown-one (declare_semi column) all earlier h k = grind (arith, named-put)
shown-one _ all earlier h k = grind arith

shown-all : (ds : Declarations) (all : Draft) (earlier : List Terminal)
    → Shown earlier all → list_all (is_shown earlier) ds ≡ true → Shown earlier (with_declarations all ds)
shown-all [] _ _ h k = h
shown-all (d ∷ ds) all earlier h k = grind (
  arith,
  shown-one,
  shown-all ds (with_declaration all d) earlier (shown-one d all earlier h (first_so
      (is_shown earlier d) (list_all (is_shown earlier) ds) k))
      (second_so (is_shown earlier d) (list_all (is_shown earlier) ds) k),
)

-- ---- one token more

named-more : (name : List ℕ) (new : Option (List ℕ)) (names : List (List ℕ)) → is_named name names ≡ true
    → is_named name (cons_option new names) ≡ true
named-more = grind arith

-- a name that the last token names
named-now : (name : List ℕ) (new : Option (List ℕ)) (names : List (List ℕ)) → new ≡ Some name →
    is_named name (cons_option new names) ≡ true
named-now = grind (arith, or_left, itself_named)

shown-later : (token : Terminal) (earlier : List Terminal) (all : Draft) → Shown earlier all → Shown (token ∷ earlier) all
shown-later token earlier _ h = record {
  lowers = λ name e. named-more name (completes_bound gives_lower earlier token)
      (collected (completes_bound gives_lower) earlier) (h.lowers _ e);
  uppers = λ name e. named-more name (completes_bound gives_upper earlier token)
      (collected (completes_bound gives_upper) earlier) (h.uppers _ e);
  integers = λ name e. named-more name (names_integer earlier token) (collected names_integer earlier) (h.integers _ e);
  semis = λ name e. named-more name (names_semi earlier token) (collected names_semi earlier) (h.semis _ e);
  constant = λ e. or_right _ _ (h.constant e);
  no_rhs = h.no_rhs;
}

-- ---- what an error says

abbrev Says : List Terminal → Terminal → FaultKind → Type 0
Says earlier token kinds.DuplicateBound = repeats_bound earlier token ≡ true
Says earlier token kinds.SemiContinuous = changes_kind earlier token ≡ true
Says earlier token kinds.DuplicateRhs = repeats_constant earlier token ≡ true
Says earlier token _ = Unit {0}

abbrev KeepsShown : List Terminal → Terminal → AfterToken → Type 0
KeepsShown earlier token (Goes after next) = Shown (token ∷ earlier) after.builder
KeepsShown earlier token (Refuses kind) = Says earlier token kind

-- if what was declared before is shown with this token
abbrev Steps : List Terminal → Draft → Terminal → AfterToken → Type 0
Steps earlier all token taken = Shown (token ∷ earlier) all → KeepsShown earlier token taken

refused : (context : Context) (earlier : List Terminal) (token : Terminal) (kind : FaultKind)
    → Says earlier token kind → KeepsShown earlier token (refuse context token kind)
refused context earlier (Opens word) kind h = by _ _
  where
    by : (a b : Bool) → Says earlier (Opens word)
        (unwrap_or (if a then Some kinds.SectionRepeated else (if b then Some kinds.SectionOrder else None)) kind)
    by = grind arith
refused _ _ _ _ h = h

bad : (context : Context) (earlier : List Terminal) (all : Draft) (token : Terminal)
    → Steps earlier all token (refuse context token kinds.BadToken)
bad context earlier all token n = grind arith

-- ---- declarations

-- what the errors of some declarations say
record Refused (earlier : List Terminal) (token : Terminal) (all : Draft) (made : Declarations) : Type 0 where
  bound : refuses kinds.DuplicateBound all made ≡ true → repeats_bound earlier token ≡ true
  semi : refuses kinds.SemiContinuous all made ≡ true → changes_kind earlier token ≡ true
  rhs : refuses kinds.DuplicateRhs all made ≡ true → repeats_constant earlier token ≡ true

says-by : (earlier : List Terminal) (token : Terminal) (all : Draft) (made : Declarations) → Refused earlier token all made
    → (first : BuildFault) → refuses (kind_of_build_fault first) all made ≡ true → Says earlier token (kind_of_build_fault first)
says-by = grind arith

declared : (context : Context) (earlier : List Terminal) (token : Terminal) (place : Place) (made : Declarations)
    → list_all (is_shown (token ∷ earlier)) made ≡ true
    → Refused earlier token context.builder made → Steps earlier context.builder token (declare_at context token place made)
declared context earlier token place made shown refusal n = by (refusals_in_turn context.builder made) refl
  where
    by : (refusals : List BuildFault) → refusals_in_turn context.builder made ≡ refusals
        → KeepsShown earlier token (declare_unless_refused context token refusals place made)
    by [] e = shown-all made _ _ n shown
    by (first ∷ _) e = refused context earlier token _ (says-by _ _ _ _ refusal _ (first-refused made _ _ _ e))

declared-before : (context : Context) (earlier : List Terminal) (token : Terminal) (made : Declarations) (next : AfterToken)
    → list_all (is_shown (token ∷ earlier)) made ≡ true
    → Refused earlier token context.builder made → Steps earlier (with_declarations context.builder made) token next
    → Steps earlier context.builder token (step_after_declarations context token (refusals_in_turn context.builder made)
    made next)
declared-before context earlier token made next shown refusal h n = by (refusals_in_turn context.builder made) refl
  where
    by : (refusals : List BuildFault) → refusals_in_turn context.builder made ≡ refusals
        → KeepsShown earlier token (step_after_declarations context token refusals made next)
    by [] e = h (shown-all made _ _ n shown)
    by (first ∷ _) e = refused context earlier token _ (says-by _ _ _ _ refusal _ (first-refused made _ _ _ e))

-- ---- terms and rows

term : (context : Context) (owner : ItemOwner) (column : List ℕ) (value : Decimal) (earlier : List Terminal)
    → Steps earlier context.builder (Name column) (end_term context owner column value (Name column))
term context owner column value earlier n = grind arith

terms-shown : (earlier : List Terminal) (name : List ℕ) (terms : List (List ℕ × Decimal))
    → list_all (is_shown earlier) (flat_map (term_declared name) terms) ≡ true
terms-shown _ _ [] = refl
terms-shown earlier _ (term ∷ terms) = terms-shown earlier _ terms

never : (b : Bool) {X : Type 0} → b ≡ false → b ≡ true → X
never b e k = grind arith

row_side : (context : Context) (row : PartialRow) (relation : Relation) (l : Limit) (earlier : List Terminal) (token : Terminal)
    → Steps earlier context.builder token (end_side context (SideOfRow row relation) l token)
row_side context row relation l earlier token n = declared context _ _ BetweenRows
    (row_declared row (row_limits row.left relation l)) (terms-shown (token ∷ earlier) row.name row.terms) (record {
      bound = λ e. never _ (terms-refuse kinds.DuplicateBound refl refl refl row.name row.terms _) e;
      semi = λ e. never _ (terms-refuse kinds.SemiContinuous refl refl refl row.name row.terms _) e;
      rhs = λ e. never _ (terms-refuse kinds.DuplicateRhs refl refl refl row.name row.terms _) e;
    }) n

-- ---- bounds

-- a token completes bounds of a column
record Completes (earlier : List Terminal) (token : Terminal) (column : List ℕ) (limits : Limits) : Type 0 where
  lower : is_some limits.lower ≡ true → completes_bound gives_lower earlier token ≡ Some column
  upper : is_some limits.upper ≡ true → completes_bound gives_upper earlier token ≡ Some column

-- a name that an earlier token has named
again : (naming : List Terminal → Terminal → Option (List ℕ)) (earlier : List Terminal) (token : Terminal)
    (column : List ℕ) → naming earlier token ≡ Some column → is_named column (collected naming earlier) ≡ true →
    names_again naming naming earlier token ≡ true
again = grind arith

bounds-shown : (earlier : List Terminal) (token : Terminal) (column : List ℕ) (limits : Limits) →
    Completes earlier token column limits →
    list_all (is_shown (token ∷ earlier)) (bounds_declared column limits.lower limits.upper) ≡ true
bounds-shown earlier token column limits h = search (rules, both_so, named-now)

bound : (context : Context) (is_new : Bool) (column : List ℕ) (limits : Limits) (earlier : List Terminal)
    (token : Terminal) (place : Place) → Shown earlier context.builder → Completes earlier token column limits
    → KeepsShown earlier token (end_bound context (new_column is_new column) column limits token place)
bound context is_new column limits earlier token place shown h = by (not (has_column front column))
    ((is_some limits.lower && has_name front.lowers column) || (is_some limits.upper && has_name front.uppers column))
    (option_map_or is_plus_infinite limits.lower false || option_map_or is_minus_infinite limits.upper false)
    (λ e. twice is_new e)
  where
    front : Draft
    front = with_declarations context.builder (new_column is_new column)

    fine : (b : Bool) → list_all (is_shown (token ∷ earlier)) (new_column b column) ≡ true
    fine true = refl
    fine false = refl

    one : (a b : Bool) → (a && b) ≡ true → (a ≡ true) × (b ≡ true)
    one = grind arith

    repeated : ((is_some limits.lower && has_name context.builder.lowers column)
        || (is_some limits.upper && has_name context.builder.uppers column)) ≡ true → repeats_bound earlier token ≡ true
    repeated e = either (is_some limits.lower && has_name context.builder.lowers column) (is_some limits.upper
        && has_name context.builder.uppers column) (repeats_bound earlier token) (λ a. let parts = one (is_some limits.lower)
        (has_name context.builder.lowers column) a in
        or_left _ _ (again (completes_bound gives_lower) earlier token column (h.lower
        parts.0) (shown.lowers column parts.1))) (λ a. let parts =
        one (is_some limits.upper) (has_name context.builder.uppers column) a in
        or_right _ _ (again (completes_bound gives_upper) earlier token column (h.upper parts.0) (shown.uppers column parts.1))) e

    twice : (b : Bool) → ((is_some limits.lower && has_name
        (with_declarations context.builder (new_column b column)).lowers column)
        || (is_some limits.upper && has_name (with_declarations context.builder (new_column b column)).uppers column)) ≡ true
        → repeats_bound earlier token ≡ true
    twice true e = repeated e
    twice false e = repeated e

    by : (a b c : Bool) → (b ≡ true → repeats_bound earlier token ≡ true) →
        KeepsShown earlier token (declare_unless_refused context token
        (those_of ((a, builds.UnknownColumn) ∷ (b, builds.DuplicateBound) ∷ (c, builds.InfiniteValue) ∷ [])) place
        (new_column is_new column ++ bounds_declared column limits.lower limits.upper))
    by true b c k = refused context earlier token kinds.UnknownColumn tt
    by false true c k = refused context earlier token kinds.DuplicateBound (k refl)
    by false false true k = refused context earlier token kinds.InfiniteValue tt
    by false false false k = shown-all (new_column is_new column ++ bounds_declared column limits.lower limits.upper)
        context.builder (token ∷ earlier) (shown-later token earlier context.builder shown)
        (list_all-append (is_shown (token ∷ earlier)) (new_column is_new column)
        (bounds_declared column limits.lower limits.upper)
        ∙ both_so _ _ (fine is_new) (bounds-shown earlier token column limits h))

within : (gives : Relation → Bool) (earlier : List Terminal) (token : Terminal) (column : List ℕ) →
    current_section earlier ≡ Some Bounds → completed gives earlier token ≡ Some column →
    completes_bound gives earlier token ≡ Some column
within = grind arith

free-completes : (earlier : List Terminal) (column : List ℕ)
    → current_section earlier ≡ Some Bounds → last_name earlier ≡ Some column → Completes earlier Free column no_limits
free-completes = grind arith

-- a number or an infinity
abbrev IsValue : Terminal → Type 0
IsValue token = (gives : Relation → Bool) (earlier : List Terminal) →
    completed gives earlier token ≡ after_sign (column_before gives) earlier

side-completes : (earlier : List Terminal) (token : Terminal) (relation : Relation) (l : Limit) (column : List ℕ)
    → IsValue token → current_section earlier ≡ Some Bounds → ((gives : Relation → Bool) → gives relation ≡ true
    → after_sign (column_before gives) earlier ≡ Some column) → Completes earlier token column (limits_by relation l)
side-completes earlier token _ l _ value here h = record {
  lower = λ e. within gives_lower earlier token _ here (value gives_lower earlier ∙ h gives_lower (grind arith));
  upper = λ e. within gives_upper earlier token _ here (value gives_upper earlier ∙ h gives_upper (grind arith));
}

-- ---- names in Generals, Binaries and among the semi-continuous columns

only : (b : Bool) → ((b || false) || false) ≡ true → b ≡ true
only = grind arith

integer-named : (earlier : List Terminal) (column : List ℕ)
    → (is_under Generals earlier || is_under Binaries earlier) ≡ true → names_integer earlier (Name column) ≡ Some column
integer-named = grind arith

semi-named : (earlier : List Terminal) (column : List ℕ)
    → (is_under SemiContinuous earlier && not (ends_in_sign earlier)) ≡ true → names_semi earlier (Name column) ≡ Some column
semi-named = grind arith

integer-refused : (earlier : List Terminal) (column : List ℕ) (all : Draft) (made : Declarations) → (is_under Generals earlier
    || is_under Binaries earlier) ≡ true → Shown earlier all → is_semi all column ≡ true →
    changes_kind earlier (Name column) ≡ true
integer-refused = grind arith

integers_listed : (context : Context) (earlier : List Terminal) → (is_under Generals earlier || is_under Binaries earlier) ≡ true
    → Shown earlier context.builder → (column : List ℕ) → Steps earlier context.builder
    (Name column) (declare_at context (Name column) InGenerals (declare_column column ∷ declare_integer column ∷ []))
integers_listed context earlier under shown column n = declared _ _ _ _ (declare_column _ ∷ declare_integer _ ∷ []) (both_so _ _
    (named-now column (names_integer earlier (Name column)) (collected names_integer earlier)
    (integer-named earlier column under)) refl)
    (record {
      bound = λ e. absurd cc;
      semi = λ e. integer-refused _ _ _ [] under shown (only _ e);
      rhs =
          λ e. absurd cc;
    }) n

binaries_listed : (context : Context) (earlier : List Terminal) → (is_under Generals earlier || is_under Binaries earlier) ≡ true
    → Shown earlier context.builder → (column : List ℕ) → Steps earlier context.builder
    (Name column) (declare_at context (Name column) InBinaries (declare_column column ∷ declare_binary column ∷ []))
binaries_listed context earlier under shown column n = declared _ _ _ _ (declare_column _ ∷ declare_binary _ ∷ []) (both_so _ _
    (named-now column (names_integer earlier (Name column)) (collected names_integer earlier)
    (integer-named earlier column under)) refl)
    (record {
      bound = λ e. absurd cc;
      semi = λ e. integer-refused _ _ _ [] under shown (only _ e);
      rhs =
          λ e. absurd cc;
    }) n

semis_listed : (context : Context) (earlier : List Terminal) →
    (is_under SemiContinuous earlier && not (ends_in_sign earlier)) ≡ true → Shown earlier context.builder →
    (column : List ℕ) → Steps earlier context.builder (Name column)
    (declare_at context (Name column) InSemis (declare_column column ∷ declare_semi column ∷ []))
semis_listed context earlier under shown column n =
    declared _ _ _ _ (declare_column _ ∷ declare_semi _ ∷ [])
    (both_so _ _ (named-now _ _ _ (semi-named earlier _ under)) refl) (record {
      bound = λ e. absurd cc;
      semi = λ e. or_right _ _ (ap (λ o. option_map_or (λ c. is_named c (collected names_integer earlier)) o false)
          (semi-named earlier column under) ∙ shown.integers column (only _ e));
      rhs = λ e. absurd cc;
    }) n

-- ---- the constant

constant-completes : (earlier : List Terminal) (token : Terminal) → current_section earlier ≡ Some Objective
    → ends_in_number earlier ≡ true → may_follow_constant token ≡ true → completes_constant earlier token ≡ true
constant-completes = grind arith

-- ---- the first token of a phrase

opened : (context : Context) (earlier : List Terminal) (word : SectionWord) →
    Steps earlier context.builder (Opens word) (open_section context word)
opened context earlier word n = grind arith

item : (context : Context) (owner : ItemOwner) (earlier : List Terminal) (token : Terminal) →
    Steps earlier context.builder token (begin_item context owner token)
item = grind (arith, item-by, bad, term)

row : (context : Context) (label : List ℕ) (earlier : List Terminal) (token : Terminal) →
    Steps earlier context.builder token (begin_row context label token)
row = grind arith

second : (context : Context) (left : Option (List ℕ × Relation)) (earlier : List Terminal) (relation : Relation)
    → Steps earlier context.builder (Compares relation) (step_at_second_relation context left relation (Compares relation))
second context left earlier relation n = grind arith

-- what is known where names are listed
abbrev Listed : Place → List Terminal → Draft → Type 0
Listed InGenerals earlier all = (current_section earlier ≡ Some Generals) × Shown earlier all
Listed InBinaries earlier all = (current_section earlier ≡ Some Binaries) × Shown earlier all
Listed InSemis earlier all = (current_section earlier ≡ Some SemiContinuous) × Shown earlier all × (ends_in_sign earlier ≡ false)
Listed _ earlier all = Unit {0}

phrase : (place : Place) (context : Context) (earlier : List Terminal)
    → Listed place earlier context.builder → (token : Terminal) →
    Steps earlier context.builder token (begin_phrase place context token)
phrase (BeforeItems objective) _ _ h _ = item _ (OfObjective objective) _ _
phrase InGenerals context earlier h token =
    listed-by (Steps earlier context.builder) context InGenerals declare_integer (bad context earlier context.builder)
    (integers_listed context _ (ap (λ o. option_map_or (is_section Generals) o false || option_map_or
    (is_section Binaries) o false) h.0) h.1) token
phrase InBinaries context earlier h token =
    listed-by (Steps earlier context.builder) context InBinaries declare_binary (bad context earlier context.builder)
    (binaries_listed context _ (ap (λ o. option_map_or (is_section Generals) o false || option_map_or
    (is_section Binaries) o false) h.0) h.1) token
phrase InSemis context earlier h token =
    listed-by (Steps earlier context.builder) context InSemis declare_semi (bad context earlier context.builder)
    (semis_listed context _ (both_so _ _ (ap (λ o. option_map_or (is_section SemiContinuous) o false) h.0)
    (so_not _ h.2)) h.1) token
phrase _ context earlier h token = grind arith

first : (place : Place) (context : Context) (earlier : List Terminal)
    → Listed place earlier context.builder → (token : Terminal) → Steps earlier context.builder token (begin place context token)
first = grind (arith, begin-by, opened, bad, phrase)

lone : (context : Context) (owner : ItemOwner) (value : Decimal) (earlier : List Terminal)
    → Shown earlier context.builder → current_section earlier ≡ section_of_item owner → NumberShape owner earlier
    → (token : Terminal) → Steps earlier context.builder token (step_after_lone_number context owner value token)
lone context (OfObjective objective) value earlier shown here last token =
    lone-by (Steps earlier context.builder) context objective value (bad context earlier context.builder)
    (λ sign. complete (Sign sign) refl) (λ word. complete (Opens word) refl) token
  where
    complete : (t : Terminal) → may_follow_constant t ≡ true
        → Steps earlier context.builder t (begin_phrase_after context (declare_constant value ∷ []) (InObjective objective) t)
    complete t may = let now = constant-completes _ t here last may in
        declared-before _ _ t (declare_constant _ ∷ []) _ (both_so _ _ (or_left _ _ now) refl)
        (record { bound = λ e. absurd cc; semi = λ e. absurd cc; rhs = λ e. both_so _ _ now (grind arith) })
        (first (InObjective objective) _ _ tt t)
lone context (OfRow partial) value earlier shown here last token = grind arith

-- ---- each state

-- the declarations at the start of the objective
started : (context : Context) (earlier : List Terminal) (made : Declarations) (place : Place)
    → Listed place earlier (with_declarations context.builder made) → (token : Terminal) →
    list_all (is_shown (token ∷ earlier)) made ≡ true → Refused earlier token context.builder made →
    Steps earlier context.builder token (begin_phrase_after context made place token)
started = grind (arith, declared-before, first)

nothing-refused : (earlier : List Terminal) (token : Terminal) (all : Draft) (sense : Sense) (label : List ℕ) →
    Refused earlier token all (objective_declared sense label)
nothing-refused = grind arith

first-refused_none : (earlier : List Terminal) (token : Terminal) (all : Draft) (sense : Sense) (column : List ℕ)
    → Refused earlier token all (first_item_declared sense column)
first-refused_none = grind arith

side : (context : Context) (sided : SideOwner) (l : Limit) (earlier : List Terminal) (token : Terminal)
    → Shown earlier context.builder → current_section earlier ≡ section_of_side sided
    → SideShape sided earlier → IsValue token → Steps earlier context.builder token (end_side context sided l token)
side context (SideOfRow partial relation) l _ _ _ _ _ _ = row_side context partial relation l _ _
side _ (SideOfBound _ _ _) l _ _ shown here shape value =
    λ n. bound _ _ _ _ _ _ _ shown (side-completes _ _ _ l _ value here (λ gives k. grind arith))

signed_side : (context : Context) (sided : SideOwner) (l : Limit) (earlier : List Terminal) (token : Terminal)
    → Shown earlier context.builder → current_section earlier ≡ section_of_side sided
    → SignedSideShape sided earlier → IsValue token → Steps earlier context.builder token (end_side context sided l token)
signed_side context (SideOfRow partial relation) l _ _ _ _ _ _ = row_side context partial relation l _ _
signed_side _ (SideOfBound is_new _ _) l _ _ shown here shape value =
    λ n. bound _ _ _ _ _ _ _ shown (side-completes _ _ _ l _ value here (λ gives k. grind arith))

by-state : (context : Context) (state : State) (earlier : List Terminal) → Shown earlier context.builder → current_section earlier
    ≡ section_at state → Shape state earlier → (token : Terminal) → Steps earlier context.builder token (step context state token)
by-state _ (Between _) _ shown here shape _ = first _ _ _ (grind arith) _
by-state context (AtObjective sense) earlier _ _ _ _ = objective-by (Steps earlier context.builder) _ _
    (λ name n. n) (λ t. started context _ _ (BeforeItems default_objective) tt t refl
    (nothing-refused _ t _ sense default_objective)) _
by-state context (ObjectiveName sense label) earlier _ _ _ _ = objective_name-by (Steps earlier context.builder) context sense label
    (declared context earlier Colon (BeforeItems label) _ refl (nothing-refused _ _ context.builder sense label))
    (λ t. started context earlier _ (InObjective default_objective) tt t refl (first-refused_none _ t _ _ _)) _
by-state context AtSemi earlier shown here shape token =
    semi-by (Steps earlier context.builder) context (λ n. n)
    (first InSemis (with_made context []) earlier (here, shown, shape)) token
by-state _ (Signs _ _) _ _ _ _ token = (grind (arith, signs-by, bad, term))
by-state context (ItemNumber owner sign value) earlier shown here shape token = grind (arith, item_number-by, term, lone)
by-state context (RowLabel label) earlier _ _ _ token = row context label earlier token
by-state context (BoundName column) earlier shown here shape token =
    bound_name-by (Steps earlier context.builder) context column (bad context earlier context.builder)
    (λ n. bound context true _ _ _ _ (InBounds None) shown (free-completes _ _ here shape)) (λ relation n. n) token
by-state context (BoundLeftRelation l relation) earlier shown here shape token =
    bound_column-by (Steps earlier context.builder) context l relation (bad context earlier context.builder)
    (λ name n. bound context true name (limits_by (flip relation) l) earlier (Name name)
    (InBounds (Some (name, relation))) shown (grind arith)) token
by-state context (AtSide sided) earlier shown here shape token = grind (arith, side-by, bad, side)
by-state context (SideSign sided sign) earlier shown here shape token = grind (arith, limit-by, bad, signed_side)
by-state context _ earlier shown here shape token = grind arith

-- ---- the laws

pub record Known (earlier : List Terminal) (context : Context) (state : State) : Type 0 where
  pub shaped : Shaped earlier context state
  pub shown : Shown earlier context.builder

pub none-known : Known [] start.context (Between AtStart)
none-known = grind arith

taken : (earlier : List Terminal) (context : Context) (state : State) (token : Terminal)
    → Known earlier context state → KeepsShown earlier token (step context state token)
taken _ _ _ _ known = by-state _ _ _ known.shown known.shaped.opened.current known.shaped.shape _ (shown-later _ _ _ known.shown)

pub known-later : (earlier : List Terminal) (context : Context) (state : State) (token : Terminal) (after : Context)
    (next : State) → Known earlier context state → step context state token ≡ Goes after next → Known (token ∷ earlier) after next
known-later earlier _ _ token _ _ known h = record {
  shaped = shaped-later _ _ _ _ _ _ known.shaped h;
  shown = subst (λ answer. KeepsShown earlier token answer) h (taken _ _ _ _ known);
}

says : (kind : FaultKind) (earlier : List Terminal) (context : Context) (state : State) (token : Terminal)
    → Known earlier context state → step context state token ≡ Refuses kind → Says earlier token kind
says _ earlier _ _ token known h = subst (λ answer. KeepsShown earlier token answer) h (taken _ _ _ _ known)

pub duplicate-bound : IsInWords kinds.DuplicateBound repeats_bound
duplicate-bound = in-words _ _ _ (record { at_start = none-known; goes = known-later; refuses = says _ }) refl refl

pub semi-continuous : IsInWords kinds.SemiContinuous changes_kind
semi-continuous = in-words _ _ _ (record { at_start = none-known; goes = known-later; refuses = says _ }) refl refl

pub duplicate-rhs : IsInWords kinds.DuplicateRhs repeats_constant
duplicate-rhs = in-words _ _ _ (record { at_start = none-known; goes = known-later; refuses = says _ }) refl refl
