-- What the declarations of a canonical text mean: the rows, coefficients, columns and objective of the listing.
use Rattle.mpslp_lp_laws.proofs.Prelude
use Prelude.{arith, ◌≡◌, refl, sym, ap, ◌∙◌, List, [], ◌∷◌, ℕ, Bool, true, false, not, map, Some, None, is_some, if◌then◌else◌, list_all}
use Prelude.{Number, have_same_value, same_decimal, Row, is_sound_row, Listing, has_infinite_rhs, bytes_cmp, limit_of, is_bounded_decimal}
use Prelude.{are_sides, Limit, Finite, RowDefinition, by_limits, empty_draft, row_entry, row_passes, Each-map, Each-all, list_all-from_Each}
use Prelude.{puts, rows-all, sorted-mapped, bytes_total, tied_names, puts-own, row_sides, lower_of}
use Prelude.{upper_of, bounded_so, bounded_finite, ◌++◌, cond, filter, filter_map, flat_map, first_so, second_so, find}
use Prelude.{is_zero, Column, CoefficientKey, key_cmp, Each-weaker, Each-append, Each-flat_map, coefficients-all, same_key, value_in}
use Prelude.{key_total, Term, term_in, objective_term, objective_terms, some_term, row_terms, puts-kept, found-each, Option, is_none}
use Prelude.{unwrap_or, ◌&&◌, ◌||◌, is_lower_side, is_upper_side, Kind, PlusInf, at_name, has_name, column_of, lowers-all, uppers-all}
use Prelude.{marked-all, integers-all, binaries-all, semis-all, is_integer_kind, is_semi_kind, is_integer_column, is_semi_column}
use Prelude.{then_stated, all_stated, find-kept, find-stated, sorted-stated, sorted-kept, column_sides, named, IsDecimal, zero-is}
use Prelude.{Declaration, declare_constant, declare_row, declare_column, declare_coefficient, declare_lower, declare_upper, declare_integer}
use Prelude.{declare_semi, Declarations, Draft, with_declarations, bounds_declared, constant_of, rhs_values-all, with_declarations-append}
use Prelude.{limits_by, term_declared, objective_declared, AtLeast, append_assoc, list_any, zero_number, same_bytes, T_from, Each-filter}
use Prelude.{puts-give, finds_own, some_append_left, column_part, columns-all, same_name, has_coefficients, found-any, LinearModel, IsSound}
use Prelude.{listing_of, Sense, Minimize, draft_of, AreConsistent, DraftMeans, Means}
use Rattle.mpslp_types.proofs.EachLemmas.{Each}
use Rattle.mpslp_builder.{specs.{Meaning.row_limits, Bounds.{zero_limit, one_limit}}, proofs.BoundsLemmas.column_of-is}
use Rattle.mpslp_builder.proofs.SlotLemmas.{Stays, stays-all}
use Rattle.mpslp_builder.proofs.EntryLemmas.{model-back, columns-back, no-negative_upper, binary-within}
use Rattle.mpslp_lp_laws.proofs.PhraseWalk.{column_and, terms_declared, constant_declared, general_made, semi_made}
use Rattle.mpslp_lp_laws.proofs.{PhraseWalk.{column_made}, TextWalk.{listed_declarations, row_made}}
use Rattle.mpslp_builder.proofs.ListingLemmas.{is_sound_entry, place_at}
use Rattle.mpslp_lp_laws.proofs.ListedParts.{IsSoundListing, sound-listing, limits_stated, form_of, drafted, row_forms, rows-part}
use Rattle.mpslp_lp_laws.proofs.ListedParts.{own_coefficient, coefficients-part, no-coefficient, each-line_text, IsOwnColumn}
use Rattle.mpslp_lp_laws.proofs.ListedParts.{own-columns, lower_stated, column_lower, column_upper, lowers-part}
use Rattle.mpslp_lp_laws.proofs.ListedParts.{uppers-part, integers-part, semis-part, no-marks, no-binaries, form_stated}
use Rattle.mpslp_lp_laws.proofs.ListedParts.{no-right_sides, all_parts, nothing, own_name, bound_names, columns-part, hit}
use Rattle.mpslp_lp_laws.proofs.LineLemmas.{Holds, each-filter_map}
use Rattle.mpslp_builder.proofs.BoundsLemmas as kinds

-- ---- the rows that are declared are those of the listing: each has its limits

-- limits that are equal are the same decimal
between-stated : (a b : Number) → is_bounded_decimal a ≡ true
    → is_bounded_decimal b ≡ true → form_of (limits_stated (Finite a) (Finite b)) ≡ by_limits (Finite a) (Finite b)
between-stated a b p q = grind (
  arith,
  bounded_finite b q,
  same_decimal a b (bounded_so a p) (bounded_so b q),
  bounded_so a p,
  bounded_so b q,
  bounded_finite a p,
)

-- what is declared of a row are its limits
pub limits-back : (lower upper : Limit) → are_sides lower upper ≡ true →
    form_of (limits_stated lower upper) ≡ by_limits lower upper
limits-back = grind (arith, lower_of, upper_of, form_of, limits_stated, bounded_finite, between-stated)

abbrev own_form : List ℕ × Row → List ℕ × RowDefinition
own_form row = (row.0, by_limits row.1.lower row.1.upper)

forms-own : (rows : List (List ℕ × Row)) → Each (λ row. is_sound_row row ≡ true) rows → row_forms rows ≡ map own_form rows
forms-own [] h = refl
forms-own (row ∷ rows) h = λ i. (row.0, limits-back row.1.lower row.1.upper (row_sides row h.0) i) ∷ forms-own rows h.1 i

rows-drafted : (m : Listing) → IsSoundListing m → (drafted m).rows ≡ map own_form m.rows
rows-drafted m h = rows-all (listed_declarations m) empty_draft
    ∙ ap (λ (es : List (List ℕ × RowDefinition)). puts bytes_cmp es []) (rows-part m ∙ forms-own m.rows h.rows) ∙ puts-own
    bytes_cmp bytes_total tied_names (map own_form m.rows)
    (sorted-mapped (λ row. by_limits row.1.lower row.1.upper) m.rows ∙ h.rows_sorted)

pub rows-back : (m : Listing) → IsSoundListing m → map (row_entry (drafted m)) (drafted m).rows ≡ m.rows
rows-back m h = ap (map (row_entry (drafted m))) (rows-drafted m h) ∙ each-back m.rows
  where
    each-back : (rows : List (List ℕ × Row)) → map (row_entry (drafted m)) (map own_form rows) ≡ rows
    each-back [] = refl
    each-back (row ∷ rows) = ap (λ (more : List (List ℕ × Row)). row ∷ more) (each-back rows)

-- a row declared by limits has no right-hand side, and its limits are decimals
pub finite-rows : (m : Listing) → IsSoundListing m →
    list_all (λ row. not (row_passes (drafted m) has_infinite_rhs row)) (drafted m).rows ≡ true
finite-rows m h = ap (list_all (λ row. not (row_passes (drafted m) has_infinite_rhs row))) (rows-drafted m h)
    ∙ list_all-from_Each (λ row. not (row_passes (drafted m) has_infinite_rhs row)) (map own_form m.rows)
    (Each-map (λ row. not (row_passes (drafted m) has_infinite_rhs row) ≡ true) own_form m.rows
    (Each-all (λ row. not (row_passes (drafted m) has_infinite_rhs (own_form row)) ≡ true) (λ _. refl) m.rows))

pub exact-rows : (m : Listing) → IsSoundListing m → list_all (λ row. is_some (row_limits (drafted m) row)) (drafted m).rows ≡ true
exact-rows m h = ap (list_all (λ row. is_some (row_limits (drafted m) row))) (rows-drafted m h) ∙ list_all-from_Each
    (λ row. is_some (row_limits (drafted m) row)) (map own_form m.rows)
    (Each-map (λ row. is_some (row_limits (drafted m) row) ≡ true) own_form m.rows
    (Each-all (λ row. is_some (row_limits (drafted m) (own_form row)) ≡ true) (λ _. refl) m.rows))

-- ---- the coefficients that are declared, without zeros, are those of the listing

abbrev is_kept : Number → Bool
is_kept value = not (is_zero value)

-- the value printed for a key is that of the listing, or 0 if it has none
abbrev IsTrueEntry : Listing → CoefficientKey × Number → Type 0
IsTrueEntry m entry = find key_cmp entry.0 m.coefficients ≡ cond (is_kept entry.1) (Some entry.1) None

abbrev IsTrueTerm : Listing → List ℕ → Term → Type 0
IsTrueTerm m row term = IsTrueEntry m (place_at row term.0, term.1)

module _ (m : Listing) (h : IsSoundListing m) where
  kept : (key : CoefficientKey) (value : Number) → find key_cmp key m.coefficients ≡ Some value → is_kept value ≡ true
  kept key value is = first_so _ _ (second_so _ _
      (found-each key_cmp key_total same_key (λ k v. is_sound_entry m (k, v) ≡ true) m.coefficients h.coefficients key value is))

  terms-true : (row : List ℕ) (columns : List (List ℕ × Column)) → Each (IsTrueTerm m row) (filter_map (term_in m row) columns)
  terms-true row columns = each-filter_map (IsTrueTerm m row) (term_in m row) columns
      (Each-all (λ column. Holds (IsTrueTerm m row) (term_in m row column)) (grind (arith, place_at, kept)) columns)

  -- ---- the objective

  objective-true : Each (IsTrueTerm m m.objective) (objective_terms m)
  objective-true = each-filter_map (IsTrueTerm m m.objective) (objective_term m) m.columns
      (Each-all (λ column. Holds (IsTrueTerm m m.objective) (objective_term m column))
      (grind (arith, place_at, kept, no-coefficient)) m.columns)

  -- ---- rows

  -- ---- all entries

  entries-true : (row : List ℕ) (terms : List Term) → Each (IsTrueTerm m row) terms →
      Each (IsTrueEntry m) (flat_map (own_coefficient row) terms)
  entries-true row terms k = Each-flat_map (IsTrueEntry m) (own_coefficient row) terms
      (Each-weaker (IsTrueTerm m row) (λ term. Each (IsTrueEntry m) (own_coefficient row term)) (λ term is. (is, tt)) terms k)

  abbrev row_coefficients : List ℕ × Row → List (CoefficientKey × Number)
  row_coefficients row = flat_map (own_coefficient row.0) (row_terms m row.0)

  all-true : Each (IsTrueEntry m) (flat_map (own_coefficient m.objective) (objective_terms m) ++ flat_map row_coefficients m.rows)
  all-true = Each-append (IsTrueEntry m) (flat_map (own_coefficient m.objective) (objective_terms m))
      (flat_map row_coefficients m.rows) (entries-true m.objective (objective_terms m) objective-true)
      (Each-flat_map (IsTrueEntry m) row_coefficients m.rows
      (Each-all (λ row. Each (IsTrueEntry m) (row_coefficients row))
      (λ row. entries-true row.0 (row_terms m row.0) (grind (arith, terms-true))) m.rows))

  -- The coefficients that are declared, without zeros, are those of the listing.
  pub coefficients-kept : filter (λ entry. not (is_zero entry.1)) (drafted m).coefficients ≡ m.coefficients
  coefficients-kept = ap (filter (λ (entry : CoefficientKey × Number). not (is_zero entry.1)))
      (coefficients-all (listed_declarations m) empty_draft
      ∙ ap (λ (es : List (CoefficientKey × Number)). puts key_cmp es []) (coefficients-part m)) ∙ puts-kept key_cmp key_total
      same_key is_kept m.coefficients (flat_map (own_coefficient m.objective) (objective_terms m) ++ flat_map
      row_coefficients m.rows) h.coefficients_sorted all-true (λ key some. let found =
      value_in (find key_cmp key m.coefficients) some in
      each-line_text key_cmp key_total same_key place_at (λ (term : Term). term.1) m h key found.0 found.1)

-- ---- the columns that are declared are those of the listing: each has its type and its bounds

-- ---- bounds, types

lower-at : (m : Listing) → IsSoundListing m → (q : List ℕ) →
    at_name (drafted m).lowers q ≡ then_stated column_lower (at_name m.columns q)
lower-at = grind (
  arith,
  lowers-all,
  listed_declarations,
  puts,
  lowers-part,
  puts-own,
  bytes_total,
  tied_names,
  all_stated,
  column_lower,
  sorted-stated,
  find-stated,
)

upper-at : (m : Listing) → IsSoundListing m → (q : List ℕ) →
    at_name (drafted m).uppers q ≡ then_stated column_upper (at_name m.columns q)
upper-at = grind (
  arith,
  uppers-all,
  listed_declarations,
  puts,
  uppers-part,
  puts-own,
  bytes_total,
  tied_names,
  all_stated,
  column_upper,
  sorted-stated,
  find-stated,
)

-- the names of the columns that pass a test
named-own : (m : Listing) → IsSoundListing m → (p : List ℕ × Column → Bool) →
    puts bytes_cmp (map named (filter p m.columns)) [] ≡ map named (filter p m.columns)
named-own m h p = puts-own bytes_cmp bytes_total tied_names
    (map named (filter p m.columns)) (sorted-mapped (λ _. tt) (filter p m.columns) ∙ sorted-kept bytes_cmp p m.columns
    h.columns_sorted)

at-named : (q : List ℕ) (columns : List (List ℕ × Column)) → has_name (map named columns) q ≡ is_some (at_name columns q)
at-named q [] = refl
at-named q (column ∷ columns) = grind (arith, named, at-named q columns)

-- whether a column is among those whose type passes
kind-at : (m : Listing) → IsSoundListing m → (p : Kind → Bool) (q : List ℕ) (column : Column)
    → at_name m.columns q ≡ Some column →
    has_name (map named (filter (λ (c : List ℕ × Column). p c.1.kind) m.columns)) q ≡ p column.kind
kind-at m h p q column is = at-named q (filter (λ (c : List ℕ × Column). p c.1.kind) m.columns)
    ∙ ap is_some (find-kept bytes_cmp bytes_total tied_names (λ (c : Column). p c.kind) q m.columns h.columns_sorted
    ∙ ap (then_stated (λ (c : Column). cond (p c.kind) (Some c) None)) is) ∙ by (p column.kind)
  where
    by : (b : Bool) → is_some (cond b (Some column) None) ≡ b
    by true = refl
    by false = refl

integers-drafted : (m : Listing) → IsSoundListing m → (drafted m).integers ≡ map named (filter is_integer_column m.columns)
integers-drafted = grind (arith, integers-all, listed_declarations, puts, integers-part, named-own)

semis-drafted : (m : Listing) → IsSoundListing m → (drafted m).semis ≡ map named (filter is_semi_column m.columns)
semis-drafted = grind (arith, semis-all, listed_declarations, puts, semis-part, named-own)

marked-none : (m : Listing) → (drafted m).marked ≡ []
marked-none m = marked-all (listed_declarations m) empty_draft
    ∙ ap (λ (es : List (List ℕ × Unit {0})). puts bytes_cmp es []) (no-marks m)

pub binaries-none : (m : Listing) → (drafted m).binaries ≡ []
binaries-none m = binaries-all (listed_declarations m) empty_draft
    ∙ ap (λ (es : List (List ℕ × Unit {0})). puts bytes_cmp es []) (no-binaries m)

-- ---- the bounds follow from what is declared and the defaults

either-same : (a b : Number) → is_bounded_decimal a ≡ true
    → is_bounded_decimal b ≡ true →
    unwrap_or (if have_same_value a b then Some (limit_of b) else Some (limit_of a)) zero_limit ≡ Finite a
either-same a b p q = grind (
  arith,
  bounded_finite b q,
  same_decimal a b (bounded_so a p) (bounded_so b q),
  bounded_so a p,
  bounded_so b q,
  bounded_finite a p,
)

no_side : false ≡ true → ⊥
no_side e = cc

lower-back : (l u : Limit) → is_lower_side l ≡ true → is_upper_side u ≡ true → unwrap_or (lower_stated l u) zero_limit ≡ l
lower-back = grind (arith, either-same, no_side)

same_integer : (k : Kind) → is_integer_kind k ≡ kinds.is_integer_kind k
same_integer = grind arith

same_semi : (k : Kind) → is_semi_kind k ≡ kinds.is_semi_kind k
same_semi = grind arith

or_none : (b : Bool) → (false || (b || false)) ≡ b
or_none = grind arith

-- each column has its type and bounds
bounds-back : (m : Listing) → IsSoundListing m → (column : List ℕ × Column) → IsOwnColumn m column →
    column_of (drafted m) column.0 ≡ column.1
bounds-back m h column k =
    let name = column.0 in
    let l = column.1.lower in
    let u = column.1.upper in
    let sides = column_sides column k.0 in
    let marked = marked-none m in
    let binaries = binaries-none m in column_of-is (drafted m) name column.1
    ((λ i. has_name (marked i) name || (has_name (integers-drafted m h i) name || has_name (binaries i) name)) ∙ or_none (has_name
    (map named (filter is_integer_column m.columns)) name) ∙ kind-at m h is_integer_kind name column.1 k.1
    ∙ same_integer column.1.kind) (ap (λ (es : List (List ℕ × Unit {0})). has_name es name) (semis-drafted m h)
    ∙ kind-at m h is_semi_kind name column.1 k.1 ∙ same_semi column.1.kind)
    (ap (λ (o : Option Limit). unwrap_or o zero_limit) (lower-at m h name ∙ ap (then_stated column_lower) k.1)
    ∙ lower-back l u (lower_of l u sides) (upper_of l u sides))
    ((λ i. unwrap_or ((upper-at m h name ∙ ap (then_stated column_upper) k.1) i)
    (if has_name (binaries i) name || (has_name (marked i) name && (is_none (at_name (drafted m).lowers name) && is_none
    (at_name (drafted m).uppers name))) then one_limit else PlusInf)) ∙ (grind (arith, bounded_finite, no_side)))

pub each-back : (m : Listing) → IsSoundListing m → Each (λ column. column_of (drafted m) column.0 ≡ column.1) m.columns
each-back m h = Each-weaker (IsOwnColumn m) (λ column. column_of (drafted m) column.0 ≡ column.1) (bounds-back m h)
    m.columns (own-columns m h)

-- ---- the sense, the objective and the constant that are declared are those of the listing

-- ---- the declarations of terms, rows and columns, by their kinds

record EachKind (P : Declaration → Type 0) : Type 0 where
  pub of_row : (x : List ℕ) (form : RowDefinition) → P (declare_row x form)
  pub of_column : (x : List ℕ) → P (declare_column x)
  pub of_coefficient : (key : CoefficientKey) (v : Number) → P (declare_coefficient key v)
  pub of_lower : (x : List ℕ) (l : Limit) → P (declare_lower x l)
  pub of_upper : (x : List ℕ) (l : Limit) → P (declare_upper x l)
  pub of_integer : (x : List ℕ) → P (declare_integer x)
  pub of_semi : (x : List ℕ) → P (declare_semi x)

-- what is declared after the objective
abbrev rest_declared : Listing → Declarations
rest_declared m = flat_map (row_made m) m.rows ++ (flat_map column_made m.columns
    ++ (flat_map general_made (filter is_integer_column m.columns) ++ flat_map semi_made (filter is_semi_column m.columns)))

module _ (P : Declaration → Type 0) (h : EachKind P) where
  each-terms : (row : List ℕ) (terms : List Term) → Each P (terms_declared row terms)
  each-terms row terms = Each-flat_map P (term_declared row) terms (Each-all (λ (term : Term). Each P (term_declared row term))
      (λ term. (h.of_column term.0, (h.of_coefficient (record { row = row; column = term.0 }) term.1, tt))) terms)

  each-row : (m : Listing) (row : List ℕ × Row) → Each P (row_made m row)
  each-row m row = (h.of_row row.0 (form_stated row.1), each-terms row.0 (row_terms m row.0))

  both : (x : List ℕ) (a b : Limit) → Each P (column_and x (record { lower = Some a; upper = Some b }))
  both x a b = (h.of_column x, (h.of_lower x a, (h.of_upper x b, tt)))

  in_turn : (x : List ℕ) (a b : Limit) → Each P (column_and x (limits_by AtLeast a) ++ bounds_declared x None (Some b))
  in_turn x a b = (h.of_column x, (h.of_lower x a, (h.of_upper x b, tt)))

  each-rest : (m : Listing) → Each P (rest_declared m)
  each-rest m = Each-append P (flat_map (row_made m) m.rows) _
      (Each-flat_map P (row_made m) m.rows (Each-all (λ row. Each P (row_made m row)) (each-row m) m.rows))
      (Each-append P (flat_map column_made m.columns) _ (Each-flat_map P column_made m.columns (Each-all (λ
      column. Each P (column_made column)) (λ column. grind arith) m.columns)) (Each-append P (flat_map general_made (filter
      is_integer_column m.columns)) (flat_map semi_made (filter is_semi_column m.columns)) (Each-flat_map P general_made (filter
      is_integer_column m.columns) (Each-all (λ column. Each P (general_made column)) (λ column. (
        h.of_column column.0,
        (
          h.of_integer
              column.0,
          tt,
        ),
      )) (filter is_integer_column m.columns))) (Each-flat_map P semi_made (filter is_semi_column m.columns) (Each-all (λ
      column. Each P (semi_made column)) (λ column. (h.of_column column.0, (h.of_semi column.0, tt)))
      (filter is_semi_column m.columns)))))

  -- and in its items
  each-after : ((v : Number) → P (declare_constant v))
      → (m : Listing) → Each P ((terms_declared m.objective (objective_terms m) ++ constant_declared m.constant) ++
      rest_declared m)
  each-after k m = Each-append P (terms_declared m.objective (objective_terms m) ++ constant_declared m.constant)
      (rest_declared m) (Each-append P (terms_declared m.objective (objective_terms m))
      (constant_declared m.constant) (each-terms m.objective (objective_terms m)) (elim (is_zero m.constant) as (λ t. Each P
      (if t then [] else declare_constant m.constant ∷ [])) [ true ↦ tt | false ↦ (k m.constant, tt) ])) (each-rest m)

-- ---- the sense and the objective

abbrev begun : Listing → Draft
begun m = with_declarations empty_draft (objective_declared m.sense m.objective)

pub sense-drafted : (m : Listing) → (drafted m).sense ≡ Some m.sense
sense-drafted m = grind (arith, stays-all (λ d. d.sense) (Some m.sense), each-after (Stays (λ d. d.sense) (Some m.sense)))

pub objective-drafted : (m : Listing) → (drafted m).objective ≡ Some m.objective
objective-drafted m = grind
    (arith, stays-all (λ d. d.objective) (Some m.objective), each-after (Stays (λ d. d.objective) (Some m.objective)))

-- ---- the constant

-- it is declared unless it is 0
abbrev stated_constant : Number → Option Number
stated_constant value = if is_zero value then None else Some value

constant-added : (all : Draft) (value : Number) → all.constant ≡ None →
    (with_declarations all (constant_declared value)).constant ≡ stated_constant value
constant-added = grind arith

constant-drafted : (m : Listing) → (drafted m).constant ≡ stated_constant m.constant
constant-drafted m =
    let terms = terms_declared m.objective (objective_terms m) in
    let constant = constant_declared m.constant in ap (λ (all
    : Draft). all.constant) (with_declarations-append (terms ++ constant) (rest_declared m) (begun m))
    ∙ stays-all (λ d. d.constant) (stated_constant m.constant) (rest_declared m)
    (each-rest (Stays (λ d. d.constant) (stated_constant m.constant)) (grind arith) m)
    (with_declarations (begun m) (terms ++ constant))
    (ap (λ (all : Draft). all.constant) (with_declarations-append terms constant (begun
    m)) ∙ constant-added (with_declarations (begun m) terms) m.constant
    (stays-all (λ d. d.constant) None terms (each-terms (Stays (λ d. d.constant) None) (grind arith) m.objective
    (objective_terms m)) (begun m) refl))

no-right_side : (m : Listing) → (drafted m).rhs_values ≡ []
no-right_side m = rhs_values-all (listed_declarations m) empty_draft
    ∙ ap (λ (es : List (List ℕ × Number)). puts bytes_cmp es []) (no-right_sides m)

pub constant-back : (m : Listing) → IsDecimal m.constant → constant_of (drafted m) ≡ m.constant
constant-back = grind (arith, constant-drafted, no-right_side, drafted, zero-is)

-- ---- the columns that are declared are those of a well-formed listing, however often each is named

abbrev Names : Type 0
Names = List (List ℕ × Unit {0})

-- the names that are declared: of terms, of bounds, and of integer and semi-continuous columns
abbrev listed_names : Listing → Names
listed_names m = all_parts column_part nothing (λ _. own_name) bound_names own_name own_name m

-- ---- all of them are names of columns

module _ (P : List ℕ × Unit {0} → Type 0) where
  abbrev HoldsOfColumn : List ℕ × Column → Type 0
  HoldsOfColumn column = P (named column)

  abbrev HoldsOfTerm : Term → Type 0
  HoldsOfTerm term = P (named term)

  objective-term-holds : (m : Listing) (column : List ℕ × Column) → HoldsOfColumn column →
      Holds HoldsOfTerm (objective_term m column)
  objective-term-holds = grind arith

  some-holds : (columns : List (List ℕ × Column)) (terms : List Term)
      → Each HoldsOfColumn columns → Each HoldsOfTerm terms → Each HoldsOfTerm (some_term columns terms)
  some-holds = grind arith

  terms-named : (terms : List Term) → Each HoldsOfTerm terms → Each P (flat_map own_name terms)
  terms-named terms h = Each-flat_map P own_name terms
      (Each-weaker HoldsOfTerm (λ term. Each P (own_name term)) (λ term is. (is, tt)) terms h)

  kept-named : (p : List ℕ × Column → Bool) (columns : List (List ℕ × Column)) → Each HoldsOfColumn columns →
      Each P (flat_map own_name (filter p columns))
  kept-named p columns h = Each-flat_map P own_name (filter p columns) (Each-filter (λ column. Each P (own_name column)) p columns
      (Each-weaker HoldsOfColumn (λ column. p column ≡ true → Each P (own_name column)) (λ column is _. (is, tt)) columns h))

  listed-named : (m : Listing) → Each HoldsOfColumn m.columns → Each P (listed_names m)
  listed-named m h = Each-append P (flat_map own_name (objective_terms m)) _
      (terms-named (objective_terms m)
      (each-filter_map HoldsOfTerm (objective_term m) m.columns
      (Each-weaker HoldsOfColumn (λ column. Holds HoldsOfTerm (objective_term m column)) (objective-term-holds
      m) m.columns h))) (Each-append P (flat_map (λ row. flat_map own_name (row_terms m row.0)) m.rows) _
      (Each-flat_map P (λ row. flat_map own_name (row_terms m row.0)) m.rows
      (Each-all (λ row. Each P (flat_map own_name (row_terms m row.0))) (λ row. terms-named (row_terms
      m row.0) (some-holds m.columns (filter_map (term_in m row.0) m.columns) h
      (each-filter_map HoldsOfTerm (term_in m row.0) m.columns
      (Each-weaker HoldsOfColumn (λ column. Holds HoldsOfTerm (term_in m row.0 column)) (grind arith) m.columns
      h)))) m.rows)) (Each-append P (flat_map bound_names m.columns) _
      (Each-flat_map P bound_names m.columns (Each-weaker HoldsOfColumn (λ column. Each P (bound_names
      column)) (λ column is. grind arith) m.columns h))
      (Each-append P (flat_map own_name (filter is_integer_column m.columns))
      (flat_map own_name (filter is_semi_column m.columns)) (kept-named is_integer_column m.columns h)
      (kept-named is_semi_column m.columns h))))

-- ---- and each column is among them

any-each : {X : Type 0} (p : X → Bool) (Q : X → Type 0) (Goal : Type 0)
    → ((x : X) → p x ≡ true → Q x → Goal) → (xs : List X) → list_any p xs ≡ true → Each Q xs → Goal
any-each p Q Goal f [] h k = grind (arith)
any-each p Q Goal f (x ∷ xs) h k = grind (arith, any-each p Q Goal f xs)

module _ (m : Listing) (h : IsSoundListing m) where
  abbrev IsNamed : List ℕ → Names → Type 0
  IsNamed name names = is_some (at_name names name) ≡ true

  abbrev term_names : Names
  term_names = flat_map own_name (objective_terms m) ++ flat_map (λ row. flat_map own_name (row_terms m row.0)) m.rows

  -- a term comes first
  in-listed : (name : List ℕ) → IsNamed name term_names → IsNamed name (listed_names m)
  in-listed = grind (arith, bound_names, own_name, append_assoc, some_append_left, bytes_total, tied_names)

  with-coefficient : (column : List ℕ × Column) → has_coefficients m column ≡ true → IsNamed column.0 term_names
  with-coefficient column some = any-each (λ (entry : CoefficientKey × Number). same_bytes entry.0.column column.0)
      (λ entry. find key_cmp entry.0 m.coefficients ≡ Some entry.1) (IsNamed column.0 term_names)
      (λ entry e is. ap (λ (name : List ℕ). is_some (at_name term_names name))
      (sym (same_name entry.0.column column.0 e)) ∙ each-line_text bytes_cmp bytes_total tied_names
      (λ _ name. name) (λ _. tt) m h entry.0 entry.1 is) m.coefficients some
      (finds_own key_cmp key_total same_key m.coefficients (T_from _ h.coefficients_sorted))

  -- one without coefficients is in the objective
  without-coefficients : (column : List ℕ × Column) → IsOwnColumn m column → has_coefficients m column ≡ false →
      IsNamed column.0 term_names
  without-coefficients column own none =
      some_append_left bytes_cmp bytes_total tied_names column.0 (flat_map own_name (objective_terms m))
      (flat_map (λ row. flat_map own_name (row_terms m row.0)) m.rows) (hit bytes_cmp bytes_total tied_names
      (λ _ name. name) (λ _. tt) m.objective column.0 (objective_term m) m.columns (found-any column.0 column.1 m.columns own.1)
      (λ c e. (
        zero_number,
        ap (λ (b : Bool). if b then term_in m m.objective c else Some (c.0, zero_number))
            (alike c e ∙ none),
      )))
    where
      alike : (c : List ℕ × Column) → same_bytes column.0 c.0 ≡ true → has_coefficients m c ≡ has_coefficients m column
      alike c e = grind (arith, same_name column.0 c.0 e)

-- ---- the columns of the draft

unmapped : (Q : List ℕ × Unit {0} → Type 0) (columns : List (List ℕ × Column)) → Each Q (map named columns) →
    Each (λ column. Q (named column)) columns
unmapped Q [] h = tt
unmapped Q (column ∷ columns) h = (h.0, unmapped Q columns h.1)

pub columns-drafted : (m : Listing) → IsSoundListing m → (drafted m).columns ≡ map named m.columns
columns-drafted m h =
    let target = map named m.columns in
    let sorted = T_from _ (sorted-mapped (λ _. tt) m.columns ∙ h.columns_sorted) in
    columns-all (listed_declarations m) empty_draft ∙ ap (λ (es : Names). puts bytes_cmp es []) (columns-part m)
    ∙ puts-give bytes_cmp bytes_total tied_names target (listed_names m) sorted
    (listed-named (λ e. find bytes_cmp e.0 target ≡ Some e.1) m
    (unmapped (λ e. find bytes_cmp e.0 target ≡ Some e.1) m.columns
    (finds_own bytes_cmp bytes_total tied_names target sorted))) (Each-map (λ e. is_some (find
    bytes_cmp e.0 (listed_names m)) ≡ true) named m.columns
    (Each-weaker (IsOwnColumn m) (λ column. is_some (at_name (listed_names m) column.0) ≡ true)
    (λ column own. grind (arith, in-listed, with-coefficient, without-coefficients)) m.columns (own-columns m h)))

-- ---- the draft of what the canonical text of a well-formed model declares means the model

-- The draft of what is printed for a well-formed model means it.
pub draft-means : (m : LinearModel) → IsSound m → DraftMeans (draft_of (listed_declarations (listing_of m))) m
draft-means m sound =
    let listing = listing_of m in
    let h = sound-listing m sound in
    let all = drafted listing in
    let declared = columns-drafted listing h in
    let back = each-back listing h in record {
      finite_rhs_values = finite-rows listing h;
      exact_limits = exact-rows listing h;
      model = model-back all m (record {
        sense = ap (λ (o : Option Sense). unwrap_or o Minimize) (sense-drafted listing);
        objective = ap (λ (o : Option (List ℕ)). unwrap_or o []) (objective-drafted listing);
        constant = constant-back listing h.constant;
        rows = rows-back listing h;
        columns = columns-back all listing.columns declared back;
        coefficients = coefficients-kept listing h;
      });
      sound = sound;
      no_negative_upper = no-negative_upper all listing.columns declared back h.columns;
      binary_within = binary-within all listing.columns declared back (binaries-none listing);
    }

-- So the declarations mean it, if they are consistent.
pub listed-means : (m : LinearModel) → IsSound m → AreConsistent (listed_declarations (listing_of m)) →
    Means (listed_declarations (listing_of m)) m
listed-means m sound consistent = record { consistent = consistent; meant = draft-means m sound }
