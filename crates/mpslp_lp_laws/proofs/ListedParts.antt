-- What the declarations of the canonical text of a listing put into each map.
use Rattle.mpslp_lp_laws.proofs.Prelude
use Prelude.{arith, rules, ◌≡◌, refl, ap, ◌∙◌, List, [], ◌∷◌, ◌++◌, ℕ, true, false, Option, Some, None, filter, unwrap_or, if◌then◌else◌}
use Prelude.{flat_map, append-nil, flat_map-append, Number, is_zero, have_same_value, Row, Column, Listing, limit_of, RowDefinition}
use Prelude.{by_limits, Declaration, declare_sense, declare_objective, declare_constant, declare_row, Declarations, Draft, draft_of, Sense}
use Prelude.{Limit, MinusInf, Finite, PlusInf, flat_map-flat_map, flat_map-none, named, Limits, row_limits, term_declared}
use Prelude.{objective_declared, Term, objective_terms, row_terms, is_integer_column, is_semi_column, map, CoefficientKey}
use Prelude.{row_part, rhs_part, column_part, coefficient_part, lower_part, upper_part, marked_part}
use Prelude.{integer_part, binary_part, semi_part, stated, all_stated, flat_map_single, Bool, ◌&&◌, is_sorted, entries, entries_sorted}
use Prelude.{IsDecimal, is_one_of, bytes_cmp, LinearModel, key_cmp, is_sound_row, is_sound_column, is_sound_coefficient}
use Prelude.{IsSound, listing_of, at_name, names_in, true_from, Each-both, Each-from_list_all, own-found, sym, is_some, filter_map}
use Prelude.{◌||◌, list_any, cons_option, IsTotalOrder, first_so, second_so, Ordering, find, zero_number, same_bytes}
use Prelude.{or_left, or_right, equal_from, find-front, some_cons, some_append_left, some_append_right, same_key, itself_named, any-name}
use Prelude.{same_name, key_total, term_in, has_coefficients, objective_term, some_term, found-each}
use Rattle.std.specs.declared.cmp.Ordering.TheVariants.{Equal}
use Rattle.mpslp_types.proofs.EachLemmas.{Each}
use Rattle.mpslp_builder.proofs.{ListingLemmas.{is_sound_entry, place_at}, SlotLemmas.{flat-same}}
use Rattle.mpslp_lp_laws.proofs.PhraseWalk.{terms_declared, constant_declared, objective_made, general_made, semi_made, column_made}
use Rattle.mpslp_lp_laws.proofs.PhraseWalk.{left_of}
use Rattle.mpslp_lp_laws.proofs.TextWalk.{row_left, row_relation, row_right, row_made, listed_declarations}

-- ---- what is declared of a row and of a column

abbrev pub limits_stated : Limit → Limit → Limits
limits_stated lower upper = row_limits (left_of (row_left lower upper)) (row_relation lower upper)
    (limit_of (row_right lower upper))

abbrev pub form_of : Limits → RowDefinition
form_of limits = by_limits (unwrap_or limits.lower MinusInf) (unwrap_or limits.upper PlusInf)

abbrev pub form_stated : Row → RowDefinition
form_stated row = form_of (limits_stated row.lower row.upper)

abbrev pub lower_stated : Limit → Limit → Option Limit
lower_stated MinusInf (Finite upper) = Some MinusInf
lower_stated (Finite lower) (Finite upper) = if have_same_value lower upper then Some (limit_of upper) else Some (limit_of lower)
lower_stated (Finite lower) _ = if is_zero lower then None else Some (limit_of lower)
lower_stated _ _ = Some MinusInf

abbrev pub upper_stated : Limit → Limit → Option Limit
upper_stated MinusInf (Finite upper) = Some (limit_of upper)
upper_stated (Finite lower) (Finite upper) = Some (limit_of upper)
upper_stated (Finite lower) _ = None
upper_stated _ _ = Some PlusInf

abbrev pub column_lower : Column → Option Limit
column_lower column = lower_stated column.lower column.upper

abbrev pub column_upper : Column → Option Limit
column_upper column = upper_stated column.lower column.upper

-- the draft of what the canonical text of these lists declares
abbrev pub drafted : Listing → Draft
drafted m = draft_of (listed_declarations m)

-- ---- all sections

-- What a kind of declaration puts into a map: for a row, for a term in a row or the objective, and for a column by its
-- bounds or its type.
pub record PartsOf {Y : Type 0} (part : Declaration → List Y)
    (row : List ℕ × Row → List Y) (term : List ℕ → Term → List Y) (bound general semi : List ℕ × Column → List Y) : Type 0 where
  pub of_sense : (s : Sense) → part (declare_sense s) ≡ []
  pub of_objective : (name : List ℕ) → part (declare_objective name) ≡ []
  pub of_constant : (value : Number) → part (declare_constant value) ≡ []
  pub of_row : (entry : List ℕ × Row) → part (declare_row entry.0 (form_stated entry.1)) ≡ row entry
  pub of_term : (name : List ℕ) (t : Term) → flat_map part (term_declared name t) ≡ term name t
  pub of_bound : (column : List ℕ × Column) → flat_map part (column_made column) ≡ bound column
  pub of_general : (column : List ℕ × Column) → flat_map part (general_made column) ≡ general column
  pub of_semi : (column : List ℕ × Column) → flat_map part (semi_made column) ≡ semi column

module _ {Y : Type 0} (part : Declaration → List Y) (row : List ℕ × Row → List Y) (term : List ℕ → Term →
    List Y) (bound general semi : List ℕ × Column → List Y) where
  follow : (xs ys : Declarations) (us vs : List Y) → flat_map part xs ≡ us → flat_map part ys ≡ vs →
      flat_map part (xs ++ ys) ≡ us ++ vs
  follow xs ys _ _ h k = flat_map-append part xs ys ∙ (λ i. h i ++ k i)

  section : {X : Type 0} (made : X → Declarations) (own : X → List Y)
      → ((x : X) → flat_map part (made x) ≡ own x) → (xs : List X) → flat_map part (flat_map made xs) ≡ flat_map own xs
  section made own h xs = flat_map-flat_map part made xs ∙ flat-same (λ x. flat_map part (made x)) own h xs

  -- a row, and its terms
  abbrev pub row_parts : Listing → List ℕ × Row → List Y
  row_parts m entry = row entry ++ flat_map (term entry.0) (row_terms m entry.0)

  abbrev pub all_parts : Listing → List Y
  all_parts m = flat_map (term m.objective) (objective_terms m) ++ (flat_map (row_parts m) m.rows ++ (flat_map bound m.columns
      ++ (flat_map general (filter is_integer_column m.columns) ++ flat_map semi (filter is_semi_column m.columns))))

  objective-parts : (h : PartsOf part row term bound general semi) (m : Listing)
      → flat_map part (objective_made m) ≡ flat_map (term m.objective) (objective_terms m)
  objective-parts h m = follow (objective_declared m.sense m.objective)
      (terms_declared m.objective (objective_terms m) ++ constant_declared m.constant) []
      (flat_map (term m.objective) (objective_terms m) ++ []) (λ i. h.of_sense m.sense i ++ (h.of_objective m.objective i ++
      [])) (follow (terms_declared m.objective (objective_terms m)) (constant_declared m.constant) _ _
      (section (term_declared m.objective) (term m.objective) (h.of_term m.objective) (objective_terms m))
      (grind arith)) ∙ append-nil (flat_map (term m.objective) (objective_terms m))

  rows-parts : (h : PartsOf part row term bound general semi) (m : Listing) (entry : List ℕ × Row) →
      flat_map part (row_made m entry) ≡ row_parts m entry
  rows-parts h m entry = λ i. h.of_row entry i ++ section (term_declared entry.0) (term entry.0) (h.of_term entry.0)
      (row_terms m entry.0) i

  -- the sections one after another
  pub listed-parts : PartsOf part row term bound general semi → (m : Listing) →
      flat_map part (listed_declarations m) ≡ all_parts m
  listed-parts h m = follow (objective_made m) _ _ _
      (objective-parts h m) (follow (flat_map (row_made m) m.rows) _ _ _
      (section (row_made m) (row_parts m) (rows-parts h m) m.rows)
      (follow (flat_map column_made m.columns) _ _ _ (section column_made bound h.of_bound m.columns)
      (follow (flat_map general_made (filter is_integer_column m.columns))
      (flat_map semi_made (filter is_semi_column m.columns)) _ _ (section general_made
      general h.of_general (filter is_integer_column m.columns))
      (section semi_made semi h.of_semi (filter is_semi_column m.columns)))))

-- ---- if some sections put nothing into a map

abbrev pub nothing : {X Y : Type 0} → X → List Y
nothing x = []

abbrev pub nothing_of : {Y : Type 0} → List ℕ → Term → List Y
nothing_of name term = []

abbrev pub own_name : {X : Type 0} → List ℕ × X → List (List ℕ × Unit {0})
own_name entry = named entry ∷ []

-- if the lines of rows put nothing into it either
without-rows : {Y : Type 0} (m : Listing) (more : List Y)
    → flat_map nothing (objective_terms m) ++ (flat_map (λ entry. flat_map nothing (row_terms m entry.0)) m.rows ++ more) ≡ more
without-rows = search (rules, flat_map-none)

-- a map into which only the lines of columns put something
pub columns-parts : {Y : Type 0} (part : Declaration → List Y) (bound general semi : List ℕ × Column → List Y)
    → PartsOf part nothing nothing_of bound general semi → (m : Listing) → flat_map part (listed_declarations m)
    ≡ flat_map bound m.columns ++ (flat_map general (filter is_integer_column m.columns) ++ flat_map semi
    (filter is_semi_column m.columns))
columns-parts part bound general semi h m = listed-parts part nothing nothing_of bound general semi h m ∙ without-rows m _

-- only the lines of bounds
pub bounds-parts : {Y : Type 0} (part : Declaration → List Y) (bound : List ℕ × Column → List Y) → PartsOf
    part nothing nothing_of bound nothing nothing → (m : Listing) →
    flat_map part (listed_declarations m) ≡ flat_map bound m.columns
bounds-parts part bound h m = columns-parts part bound nothing nothing h m ∙ (λ i. flat_map bound m.columns ++ (flat_map-none
    (filter is_integer_column m.columns) i ++ flat_map-none (filter is_semi_column m.columns) i))
    ∙ append-nil (flat_map bound m.columns)

-- ---- each map of the draft that the declarations of the canonical text of a listing make

-- ---- rows

abbrev pub row_forms : List (List ℕ × Row) → List (List ℕ × RowDefinition)
row_forms rows = map (λ row. (row.0, form_stated row.1)) rows

pub rows-part : (m : Listing) → flat_map row_part (listed_declarations m) ≡ row_forms m.rows
rows-part m = listed-parts row_part (λ row. (row.0, form_stated row.1) ∷ []) nothing_of nothing nothing nothing (record {
  of_sense = λ _. refl;
  of_objective = λ _. refl;
  of_constant = λ _. refl;
  of_row = λ _. refl;
  of_term = λ _ _. refl;
  of_bound = grind arith;
  of_general = λ _. refl;
  of_semi = λ _. refl;
}) m ∙ (grind (arith, flat_map-none, flat-same, append-nil))
    ∙ (λ i. flat_map_single (λ row. (row.0, form_stated row.1)) m.rows i ++ (flat_map-none m.columns i ++ (flat_map-none
    (filter is_integer_column m.columns) i ++ flat_map-none (filter is_semi_column m.columns) i))) ∙ append-nil (row_forms m.rows)

-- ---- bounds

pub lowers-part : (m : Listing) → flat_map lower_part (listed_declarations m) ≡ all_stated column_lower m.columns
lowers-part = bounds-parts lower_part (λ column. stated column.0 (column_lower column.1)) (record {
  of_sense = λ _. refl;
  of_objective = λ _. refl;
  of_constant = λ _. refl;
  of_row = λ _. refl;
  of_term = λ _ _. refl;
  of_bound = λ column. grind arith;
  of_general = λ _. refl;
  of_semi = λ _. refl;
})

pub uppers-part : (m : Listing) → flat_map upper_part (listed_declarations m) ≡ all_stated column_upper m.columns
uppers-part = bounds-parts upper_part (λ column. stated column.0 (column_upper column.1)) (record {
  of_sense = λ _. refl;
  of_objective = λ _. refl;
  of_constant = λ _. refl;
  of_row = λ _. refl;
  of_term = λ _ _. refl;
  of_bound = λ column. grind arith;
  of_general = λ _. refl;
  of_semi = λ _. refl;
})

pub integers-part : (m : Listing) → flat_map integer_part (listed_declarations m) ≡ map named (filter is_integer_column m.columns)
integers-part m = columns-parts integer_part nothing own_name nothing (record {
  of_sense = λ _. refl;
  of_objective = λ _. refl;
  of_constant = λ _. refl;
  of_row = λ _. refl;
  of_term = λ _ _. refl;
  of_bound = grind arith;
  of_general = λ _. refl;
  of_semi = λ _. refl;
}) m ∙ (λ i. flat_map-none m.columns i ++ (flat_map_single named (filter is_integer_column m.columns) i ++ flat_map-none
    (filter is_semi_column m.columns) i)) ∙ append-nil (map named (filter is_integer_column m.columns))

pub semis-part : (m : Listing) → flat_map semi_part (listed_declarations m) ≡ map named (filter is_semi_column m.columns)
semis-part m = columns-parts semi_part nothing nothing own_name (record {
  of_sense = λ _. refl;
  of_objective = λ _. refl;
  of_constant = λ _. refl;
  of_row = λ _. refl;
  of_term = λ _ _. refl;
  of_bound = grind arith;
  of_general = λ _. refl;
  of_semi = λ _. refl;
}) m ∙ (λ i. flat_map-none m.columns i
    ++ (flat_map-none (filter is_integer_column m.columns) i ++ flat_map_single named (filter is_semi_column m.columns) i))

-- the names that the bounds of a column declare
abbrev pub bound_names : List ℕ × Column → List (List ℕ × Unit {0})
bound_names column = flat_map column_part (column_made column)

-- columns are named by terms, by bounds and by their types
pub columns-part : (m : Listing) →
    flat_map column_part (listed_declarations m) ≡ all_parts column_part nothing (λ _. own_name) bound_names own_name own_name m
columns-part = grind (arith, listed-parts column_part nothing, column_part)

abbrev pub own_coefficient : List ℕ → Term → List (CoefficientKey × Number)
own_coefficient row term = (record { row = row; column = term.0 }, term.1) ∷ []

pub coefficients-part : (m : Listing) → flat_map coefficient_part (listed_declarations m) ≡ flat_map
    (own_coefficient m.objective) (objective_terms m) ++ flat_map
    (λ row. flat_map (own_coefficient row.0) (row_terms m row.0)) m.rows
coefficients-part m = let rows = flat_map (λ row. flat_map (own_coefficient row.0) (row_terms m row.0)) m.rows in
    listed-parts coefficient_part nothing own_coefficient nothing nothing nothing (record {
      of_sense = λ _. refl;
      of_objective = λ _. refl;
      of_constant = λ _. refl;
      of_row = λ _. refl;
      of_term = λ _ _. refl;
      of_bound = grind arith;
      of_general = λ _. refl;
      of_semi = λ _. refl;
    }) m ∙ (λ i. flat_map (own_coefficient m.objective) (objective_terms m) ++ (rows ++ (flat_map-none m.columns i
    ++ (flat_map-none (filter is_integer_column m.columns) i ++ flat_map-none (filter is_semi_column m.columns) i))))
    ∙ ap (λ (es : List (CoefficientKey × Number)). flat_map (own_coefficient m.objective) (objective_terms m) ++ es)
    (append-nil rows)

-- nothing is declared of these kinds
abbrev HasNoPart : {Y : Type 0} → (Declaration → List Y) → Type 0
HasNoPart part = PartsOf part nothing nothing_of nothing nothing nothing

no-part : {Y : Type 0} (part : Declaration → List Y) → HasNoPart part → (m : Listing) → flat_map part (listed_declarations m) ≡ []
no-part part h m = bounds-parts part nothing h m ∙ flat_map-none m.columns

pub no-right_sides : (m : Listing) → flat_map rhs_part (listed_declarations m) ≡ []
no-right_sides = no-part rhs_part (record {
  of_sense = λ _. refl;
  of_objective = λ _. refl;
  of_constant = λ _. refl;
  of_row = λ _. refl;
  of_term = λ _ _. refl;
  of_bound = grind arith;
  of_general = λ _. refl;
  of_semi = λ _. refl;
})

pub no-marks : (m : Listing) → flat_map marked_part (listed_declarations m) ≡ []
no-marks = no-part marked_part (record {
  of_sense = λ _. refl;
  of_objective = λ _. refl;
  of_constant = λ _. refl;
  of_row = λ _. refl;
  of_term = λ _ _. refl;
  of_bound = grind arith;
  of_general = λ _. refl;
  of_semi = λ _. refl;
})

pub no-binaries : (m : Listing) → flat_map binary_part (listed_declarations m) ≡ []
no-binaries = no-part binary_part (record {
  of_sense = λ _. refl;
  of_objective = λ _. refl;
  of_constant = λ _. refl;
  of_row = λ _. refl;
  of_term = λ _ _. refl;
  of_bound = grind arith;
  of_general = λ _. refl;
  of_semi = λ _. refl;
})

-- ---- the listing of a well-formed model

pub record IsSoundListing (m : Listing) : Type 0 where
  pub constant : IsDecimal m.constant
  pub rows : Each (λ row. is_sound_row row ≡ true) m.rows
  pub columns : Each (λ column. is_sound_column column ≡ true) m.columns
  pub coefficients : Each (λ entry. is_sound_entry m entry ≡ true) m.coefficients
  pub rows_sorted : is_sorted bytes_cmp m.rows ≡ true
  pub columns_sorted : is_sorted bytes_cmp m.columns ≡ true
  pub coefficients_sorted : is_sorted key_cmp m.coefficients ≡ true

pub sound-listing : (m : LinearModel) → IsSound m → IsSoundListing (listing_of m)
sound-listing m h = record {
  constant = h.constant;
  rows = Each-from_list_all is_sound_row (entries m.rows) h.rows;
  columns = Each-from_list_all is_sound_column (entries m.columns) h.columns;
  coefficients = Each-from_list_all (is_sound_coefficient m) (entries m.coefficients) h.coefficients;
  rows_sorted = true_from _ (entries_sorted m.rows);
  columns_sorted = true_from _ (entries_sorted m.columns);
  coefficients_sorted = true_from _ (entries_sorted m.coefficients);
}

-- ---- columns that are well-formed, and found by their names

abbrev pub IsOwnColumn : Listing → List ℕ × Column → Type 0
IsOwnColumn m column = (is_sound_column column ≡ true) × (at_name m.columns column.0 ≡ Some column.1)

pub own-columns : (m : Listing) → IsSoundListing m → Each (IsOwnColumn m) m.columns
own-columns m h = Each-both (λ column. is_sound_column column ≡ true) (λ column. at_name m.columns column.0 ≡ Some column.1)
    (IsOwnColumn m) (λ column k is. (k, is)) m.columns h.columns (own-found m.columns h.columns_sorted)

-- ---- each coefficient of a well-formed listing is printed as a term of its row or of the objective

-- ---- columns without coefficients

has-some : (row column : List ℕ) (value : Number) (es : List (CoefficientKey × Number)) →
    find key_cmp (place_at row column) es ≡ Some value →
    list_any (λ (entry : CoefficientKey × Number). same_bytes entry.0.column column) es ≡ true
has-some row column value [] is = grind (arith)
has-some row column value (e ∷ es) is = grind (
  arith,
  has-some row column value es,
  or_left,
  same_key (place_at row column) e.0,
  equal_from
      (key_cmp (place_at row column) e.0),
  itself_named column,
  or_right,
)

pub no-coefficient : (m : Listing) (row : List ℕ) (column : List ℕ × Column)
    → has_coefficients m column ≡ false → find key_cmp (place_at row column.0) m.coefficients ≡ None
no-coefficient = grind (arith, has-some)

-- ---- what terms put into a map

module _ {K X : Type 0} (R : K → K → Ordering) (total : IsTotalOrder R) (same : (x y : K) → R x y ≡ Equal →
    x ≡ y) (key_of : List ℕ → List ℕ → K) (entry_of : Term → X) where
  -- an entry for each term, by its row or the objective, and its column
  abbrev pub own_entry : List ℕ → Term → List (K × X)
  own_entry row term = (key_of row term.0, entry_of term) ∷ []

  abbrev pub row_entries : Listing → List ℕ × Row → List (K × X)
  row_entries m row = flat_map (own_entry row.0) (row_terms m row.0)

  abbrev pub all_entries : Listing → List (K × X)
  all_entries m = flat_map (own_entry m.objective) (objective_terms m) ++ flat_map (row_entries m) m.rows

  abbrev SomeAt : K → List (K × X) → Type 0
  SomeAt key es = is_some (find R key es) ≡ true

  -- the columns of this name have terms, so there is an entry for it
  pub hit : (row q : List ℕ) (f : List ℕ × Column → Option Term) (columns : List (List ℕ × Column))
      → list_any (λ column. same_bytes q column.0) columns ≡ true → ((column : List ℕ × Column) → same_bytes q column.0 ≡ true
      → (value : Number) × (f column ≡ Some (column.0, value))) →
      SomeAt (key_of row q) (flat_map (own_entry row) (filter_map f columns))
  hit row q f [] h some = cc
  hit row q f (column ∷ columns) h some = by (same_bytes q column.0) refl h (f column) refl (λ k. hit row q f columns k some)
    where
      rest : List (K × X)
      rest = flat_map (own_entry row) (filter_map f columns)

      by : (b : Bool) → same_bytes q column.0 ≡ b → (b || list_any (λ c. same_bytes q c.0) columns) ≡ true
          → (t : Option Term) → f column ≡ t → (list_any (λ c. same_bytes q c.0) columns ≡ true → SomeAt (key_of row q) rest)
          → SomeAt (key_of row q) (flat_map (own_entry row) (cons_option t (filter_map f columns)))
      by true e k t at _ = grind (arith, rest, same_name, find-front)
      by false e k None _ more = more k
      by false e k (Some t) _ more = some_cons R total same (key_of row q) (key_of row t.0) (entry_of t) rest (more k)

  in-rows : (q : K) (row : List ℕ) (f : List ℕ × Row → List (K × X)) (rows : List (List ℕ × Row)) →
      list_any (λ r. same_bytes row r.0) rows ≡ true →
      ((r : List ℕ × Row) → same_bytes row r.0 ≡ true → SomeAt q (f r)) → SomeAt q (flat_map f rows)
  in-rows q row f [] h some = cc
  in-rows q row f (r ∷ rows) h some = by (same_bytes row r.0) refl h (λ k. in-rows q row f rows k some)
    where
      by : (b : Bool) → same_bytes row r.0 ≡ b → (b || list_any (λ d. same_bytes row d.0) rows) ≡ true
          → (list_any (λ d. same_bytes row d.0) rows ≡ true → SomeAt q (flat_map f rows)) → SomeAt q (f r ++ flat_map f rows)
      by true e k _ = some_append_left R total same q (f r) (flat_map f rows) (some r e)
      by false e k more = some_append_right R total same q (f r) (flat_map f rows) (more k)

  -- a row with terms has no other
  some-kept : (q : K) (row : List ℕ) (columns : List (List ℕ × Column)) (terms : List Term)
      → SomeAt q (flat_map (own_entry row) terms) → SomeAt q (flat_map (own_entry row) (some_term columns terms))
  some-kept = grind arith

  module _ (m : Listing) (h : IsSoundListing m) where
    term-there : (key : CoefficientKey) (value : Number) → find key_cmp key m.coefficients ≡ Some value → (row : List ℕ)
        → key.row ≡ row → (column : List ℕ × Column) → same_bytes key.column column.0 ≡ true →
        term_in m row column ≡ Some (column.0, value)
    term-there key value is row named column e = grind (arith, named, same_name key.column column.0 e)

    in-objective : (key : CoefficientKey) (value : Number) → find key_cmp key m.coefficients ≡ Some value → key.row ≡ m.objective
        → (column : List ℕ × Column) → same_bytes key.column column.0 ≡ true →
        (v : Number) × (objective_term m column ≡ Some (column.0, v))
    in-objective key value is named column e =
        elim (has_coefficients m column) as
        (λ b. (v : Number) × ((if b then term_in m m.objective column else Some (column.0, zero_number))
        ≡ Some (column.0, v))) [
          | true ↦ (value, term-there key value is m.objective named column e)
          | false ↦
              (zero_number, refl)
        ]

    -- an entry for each coefficient
    pub each-line_text : (key : CoefficientKey) (value : Number)
        → find key_cmp key m.coefficients ≡ Some value → SomeAt (key_of key.row key.column) (all_entries m)
    each-line_text key value is = by (same_bytes key.row m.objective) refl rows
      where
        names : Bool
        names = is_one_of (names_in m.columns) key.column

        sound : is_sound_entry m (key, value) ≡ true
        sound = found-each key_cmp key_total same_key (λ k v. is_sound_entry m (k, v) ≡ true) m.coefficients
            h.coefficients key value is

        placed : (names && is_one_of (m.objective ∷ names_in m.rows) key.row) ≡ true
        placed = grind (arith, names, sound)

        columns : list_any (λ column. same_bytes key.column column.0) m.columns ≡ true
        columns = sym (any-name key.column m.columns) ∙ first_so names (is_one_of (m.objective ∷ names_in m.rows) key.row) placed

        rows : (same_bytes key.row m.objective || is_one_of (names_in m.rows) key.row) ≡ true
        rows = second_so names (is_one_of (m.objective ∷ names_in m.rows) key.row) placed

        at_row : (row : List ℕ × Row) → same_bytes key.row row.0 ≡ true → SomeAt (key_of key.row key.column) (row_entries m row)
        at_row row e = let named = same_name key.row row.0 e in ap (λ (name : List ℕ). is_some (find R (key_of name key.column)
            (row_entries m row))) named ∙ some-kept (key_of row.0 key.column) row.0 m.columns
            (filter_map (term_in m row.0) m.columns)
            (hit row.0 key.column (term_in m row.0) m.columns columns
            (λ column k. (value, term-there key value is row.0 named column k)))

        by : (b : Bool) → same_bytes key.row m.objective ≡ b
            → (b || is_one_of (names_in m.rows) key.row) ≡ true → SomeAt (key_of key.row key.column) (all_entries m)
        by true e k = let named = same_name key.row m.objective e in some_append_left R total same
            (key_of key.row key.column) (flat_map (own_entry m.objective) (objective_terms m)) (flat_map (row_entries m) m.rows)
            (ap (λ (name : List ℕ). is_some
            (find R (key_of name key.column) (flat_map (own_entry m.objective) (objective_terms m)))) named
            ∙ hit m.objective key.column (objective_term m) m.columns columns (in-objective key value is named))
        by false e k = some_append_right R total same
            (key_of key.row key.column) (flat_map (own_entry m.objective) (objective_terms m)) (flat_map (row_entries m) m.rows)
            (in-rows (key_of key.row key.column) key.row (row_entries m) m.rows (sym (any-name key.row m.rows) ∙ k) at_row)
