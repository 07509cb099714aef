-- Terms of the objective and of rows, as the accessors of a model return them.
use Rattle.mpslp_lp_write.proofs.Prelude
use Prelude.{◌≡◌, refl, sym, ap, subst, ◌∙◌, ℕ, ◌+◌, ◌<◌, ◌≤◌, Bool, true, false, not, cond, List, [], ◌∷◌, ◌++◌, length, map, get_or}
use Prelude.{arith, Option, Some, None, is_some, unwrap_or, filter, filter_map, slice_get, ◌&&◌, ◌||◌, if◌then◌else◌, All, flat_map}
use Prelude.{list_any, cons_option, range_with_len, option_map, find, entries, length-map, slice_get_within, slice_get-get_or}
use Prelude.{get_or_from_slice_get, Number, is_zero, zero_number, LinearModel, CoefficientKey, Column, key_cmp, IsSound, Listing}
use Prelude.{listing_of, num_columns, column_name, coefficient_at, column_elements, has_coefficient, row_columns, Lines, Term, term_line}
use Prelude.{some_term, term_lines, row_term_lines, numbered_term_lines, has_lines, coefficient-not_zero, named-lines, flat_map-all}
use Prelude.{flat_map-kept, flat_map-numbers}
use Rattle.mpslp_builder.proofs.{DraftEntries.{same_key, key_total_sorted as key_total}, SlotLemmas.same_name}
use Rattle.mpslp_builder.proofs.ListingLemmas.{place_at}
use Rattle.mpslp_model_core.proofs.CellLemmas.{equal_from}
use Rattle.mpslp_types.proofs.BoolLemmas.{or_left, or_right, both_false}
use Rattle.mpslp_types.specs.Name.{same_bytes}
use Rattle.std.proofs.{lemmas.List.Elements.{All-filter, filter_passes}, lemmas.List.FromFn.{length-range_with_len, get_or-range_with_len}}
use Rattle.std.specs.{Cmp.{second_so, tied_itself}, Cmp.Lexicographic.{nat_list_eq_equiv}, Ordering.{is_eq, eq_by_cmp}}

abbrev Coefficients : Type 0
Coefficients = List (CoefficientKey × Number)

no_value : (v : Number) → ◌≡◌ {A = Option Number} None (Some v) → ⊥
no_value v e = cc

some_value : (v : Number) → ◌≡◌ {A = Option Number} (Some v) None → ⊥
some_value v e = cc

not_both : {b : Bool} → b ≡ true → b ≡ false → ⊥
not_both p q = absurd cc

-- ---- whether a column has coefficients

abbrev is_in : List ℕ → CoefficientKey × Number → Bool
is_in column e = same_bytes e.0.column column

-- a coefficient of a row, and not of the objective
abbrev is_row_entry : List ℕ → List ℕ → CoefficientKey × Number → Bool
is_row_entry objective column e = not (same_bytes objective e.0.row) && same_bytes column e.0.column

found-in : (row column : List ℕ) (es : Coefficients) (v : Number) → find key_cmp (place_at row column) es ≡ Some v →
    list_any (is_in column) es ≡ true
found-in row column [] v is = absurd (no_value v is)
found-in row column (e ∷ es) v is = by (eq_by_cmp key_cmp (place_at row column) e.0) refl is (found-in row column es v)
  where
    by : (b : Bool) → eq_by_cmp key_cmp (place_at row column) e.0 ≡ b →
        cond b (Some e.1) (find key_cmp (place_at row column) es) ≡ Some v →
        (find key_cmp (place_at row column) es ≡ Some v → list_any (is_in column) es ≡ true) →
        (is_in column e || list_any (is_in column) es) ≡ true
    by true tie h more =
        or_left (is_in column e) (list_any (is_in column) es)
        (ap (λ (key : CoefficientKey). same_bytes key.column column)
        (sym (same_key (place_at row column) e.0 (equal_from (key_cmp (place_at row column) e.0) tie)))
        ∙ nat_list_eq_equiv.refl column)
    by false tie h more = or_right (is_in column e) (list_any (is_in column) es) (more h)

element-in : (objective column : List ℕ) (es : Coefficients) → 0 < length (filter (is_row_entry objective column) es) →
    list_any (is_in column) es ≡ true
element-in objective column [] some = absurd (omega arith)
element-in objective column (e ∷ es) some = by (is_row_entry objective column e) refl some (element-in objective column es)
  where
    rest : Coefficients
    rest = filter (is_row_entry objective column) es

    by : (b : Bool) → is_row_entry objective column e ≡ b → 0 < length (cond b (e ∷ rest) rest)
        → (0 < length rest → list_any (is_in column) es ≡ true) → (is_in column e || list_any (is_in column) es) ≡ true
    by true passes h more =
        or_left (is_in column e) (list_any (is_in column) es)
        (nat_list_eq_equiv.symm e.0.column column ∙ second_so (not (same_bytes objective e.0.row))
        (same_bytes column e.0.column) passes)
    by false passes h more = or_right (is_in column e) (list_any (is_in column) es) (more h)

-- a column without a coefficient in the objective or a row has no coefficients
none-in : (objective column : List ℕ) (es : Coefficients) → find key_cmp (place_at objective column) es ≡ None
    → length (filter (is_row_entry objective column) es) ≤ 0 → list_any (is_in column) es ≡ false
none-in objective column [] is few = refl
none-in objective column (e ∷ es) is few =
    by (eq_by_cmp key_cmp (place_at objective column) e.0) refl (is_row_entry objective column e) refl is few
    (none-in objective column es)
  where
    rest : Coefficients
    rest = filter (is_row_entry objective column) es

    other : eq_by_cmp key_cmp (place_at objective column) e.0 ≡ false → is_row_entry objective column e ≡ false →
        (b : Bool) → is_in column e ≡ b → is_in column e ≡ false
    other tie fails false here = here
    other tie fails true here = absurd (cases (same_bytes objective e.0.row) refl)
      where
        same : same_bytes column e.0.column ≡ true
        same = nat_list_eq_equiv.symm column e.0.column ∙ here

        cases : (b : Bool) → same_bytes objective e.0.row ≡ b → ⊥
        cases true row =
            let r = same_name objective e.0.row row in
            let c = same_name column e.0.column same in
            let tied : eq_by_cmp key_cmp (place_at objective column) e.0 ≡ true =
            (λ i. eq_by_cmp key_cmp (place_at objective column) (place_at (sym r i) (sym c i)))
            ∙ ap is_eq (tied_itself key_total (place_at objective column)) in
            not_both tied tie
        cases false row = not_both {b = is_row_entry objective column e} (λ i. not (row i) && same i) fails

    by : (b : Bool) → eq_by_cmp key_cmp (place_at objective column) e.0 ≡ b → (c : Bool) → is_row_entry objective column e ≡ c
        → cond b (Some e.1) (find key_cmp (place_at objective column) es) ≡ None → length (cond c (e ∷ rest) rest) ≤ 0
        → (find key_cmp (place_at objective column) es ≡ None → length rest ≤ 0 → list_any (is_in column) es ≡ false)
        → (is_in column e || list_any (is_in column) es) ≡ false
    by true tie c passes h few more = absurd (some_value e.1 h)
    by false tie true passes h few more = absurd (omega arith)
    by false tie false passes h few more =
        both_false (is_in column e) (list_any (is_in column) es) (other tie passes (is_in column e) refl) (more h few)

-- ---- the term of a column in the objective

-- by whether it has coefficients, and by that of the objective
abbrev objective_stated : List ℕ → Bool → Option Number → Lines
objective_stated column has o =
    term_lines (if has then option_map (λ (value : Number). (column, value)) o else Some (column, zero_number))

-- by its name
abbrev pub objective_lines_of : Listing → List ℕ → Lines
objective_lines_of m column = objective_stated column (list_any (is_in column) m.coefficients)
    (find key_cmp (place_at m.objective column) m.coefficients)

module _ (m : LinearModel) (sound : IsSound m) (column : List ℕ) where
  abbrev here : Option Number
  here = find key_cmp (place_at m.objective column) (entries m.coefficients)

  abbrev has : Bool
  has = list_any (is_in column) (entries m.coefficients)

  pub objective-needed : is_zero (coefficient_at m m.objective column) ≡ false
      → term_line (column, coefficient_at m m.objective column) ∷ [] ≡ objective_lines_of (listing_of m) column
  objective-needed some = by here refl some
    where
      by : (o : Option Number) → here ≡ o → is_zero (unwrap_or o zero_number) ≡ false →
          term_line (column, unwrap_or o zero_number) ∷ [] ≡ objective_stated column has o
      by None is h = absurd (not_both refl h)
      by (Some v) is h = ap (λ (b : Bool). objective_stated column b (Some v))
          (sym (found-in m.objective column (entries m.coefficients) v is))

  pub objective-only : length (column_elements m column) ≤ 0
      → term_line (column, coefficient_at m m.objective column) ∷ [] ≡ objective_lines_of (listing_of m) column
  objective-only few = by here refl
    where
      by : (o : Option Number) → here ≡ o → term_line (column, unwrap_or o zero_number) ∷ [] ≡ objective_stated column has o
      by None is = ap (λ (b : Bool). objective_stated column b None)
          (sym (none-in m.objective column (entries m.coefficients) is few))
      by (Some v) is = ap (λ (b : Bool). objective_stated column b (Some v))
          (sym (found-in m.objective column (entries m.coefficients) v is))

  pub objective-left : is_zero (coefficient_at m m.objective column) ≡ true → 0 < length (column_elements m column) →
      [] ≡ objective_lines_of (listing_of m) column
  objective-left none some = by here refl none
    where
      by : (o : Option Number) → here ≡ o → is_zero (unwrap_or o zero_number) ≡ true → [] ≡ objective_stated column has o
      by None is h = ap (λ (b : Bool). objective_stated column b None)
          (sym (element-in m.objective column (entries m.coefficients) some))
      by (Some v) is h = absurd (not_both h (coefficient-not_zero m sound m.objective column v is))

-- ---- the term of a column in a row

-- by its name
abbrev pub row_lines_of : Listing → List ℕ → List ℕ → Lines
row_lines_of m row column = term_lines
    (option_map (λ (value : Number). (column, value)) (find key_cmp (place_at row column) m.coefficients))

has_lines-append : (front back : Lines) → has_lines (front ++ back) ≡ (has_lines front || has_lines back)
has_lines-append [] back = refl
has_lines-append (line ∷ front) back = refl

row-listed : (m : LinearModel) (row column : List ℕ) → has_coefficient m row column ≡ true
    → term_line (column, coefficient_at m row column) ∷ [] ≡ row_lines_of (listing_of m) row column
row-listed m row column has = by (find key_cmp (place_at row column) (entries m.coefficients)) has
  where
    by : (o : Option Number) → is_some o ≡ true
        → term_line (column, unwrap_or o zero_number) ∷ [] ≡ term_lines (option_map (λ (value : Number). (column, value)) o)
    by None h = absurd (not_both h refl)
    by (Some v) h = refl

row-unlisted : (m : LinearModel) (row column : List ℕ) → has_coefficient m row column ≡ false →
    row_lines_of (listing_of m) row column ≡ []
row-unlisted m row column none = by (find key_cmp (place_at row column) (entries m.coefficients)) none
  where
    by : (o : Option Number) → is_some o ≡ false → term_lines (option_map (λ (value : Number). (column, value)) o) ≡ []
    by None h = refl
    by (Some v) h = absurd (not_both refl h)

module _ (m : LinearModel) (row : List ℕ) where
  abbrev lines_of : List ℕ → Lines
  lines_of column = row_lines_of (listing_of m) row column

  abbrev in_row : ℕ → Bool
  in_row j = has_coefficient m row (column_name m j)

  abbrev numbers : List ℕ
  numbers = range_with_len 0 (num_columns m)

  numbers-below : All (λ (j : ℕ). j < num_columns m) numbers
  numbers-below k d below =
      let within : k < num_columns m = subst (λ (n : ℕ). k < n) (length-range_with_len 0 (num_columns m)) below in
      let same : get_or numbers k d ≡ 0 + k = get_or-range_with_len 0 (num_columns m) k d within in
      omega arith

  -- the line of a column in which the row has a coefficient
  pub term-listed : (k j : ℕ) → slice_get (row_columns m row) k ≡ Some j
      → term_line (column_name m j, coefficient_at m row (column_name m j)) ∷ [] ≡ numbered_term_lines m row j
  term-listed k j at =
      let within : k < length (row_columns m row) = slice_get_within (row_columns m row) k j at in
      let passes : in_row (get_or (row_columns m row) k j) ≡ true = filter_passes in_row numbers k j within in
      let same : get_or (row_columns m row) k j ≡ j = get_or_from_slice_get (row_columns m row) k j j at in
      let below : j < num_columns m =
      subst (λ (i : ℕ). i < num_columns m) same
      (All-filter in_row (λ (i : ℕ). i < num_columns m) numbers numbers-below k j within) in
      row-listed m row (column_name m j) (ap in_row (sym same) ∙ passes) ∙ named-lines lines_of (entries m.columns) j below

  -- the other columns have none
  none-unlisted : All (λ (j : ℕ). in_row j ≡ false → numbered_term_lines m row j ≡ []) numbers
  none-unlisted k d below none =
      let within : k < num_columns m = subst (λ (n : ℕ). k < n) (length-range_with_len 0 (num_columns m)) below in
      let same : get_or numbers k d ≡ 0 + k = get_or-range_with_len 0 (num_columns m) k d within in
      let under : get_or numbers k d < num_columns m = omega arith in
      sym (named-lines lines_of (entries m.columns) (get_or numbers k d) under)
      ∙ row-unlisted m row (column_name m (get_or numbers k d)) none

  -- the lines of all columns are those of the listed ones
  pub terms-listed : flat_map (numbered_term_lines m row) (row_columns m row) ≡ flat_map
      (row_term_lines (listing_of m) row) (entries m.columns)
  terms-listed =
      let stated = row_term_lines (listing_of m) row in
      let columns = entries m.columns in
      flat_map-kept in_row (numbered_term_lines m row) numbers none-unlisted
      ∙ flat_map-numbers stated columns (num_columns m)
      ∙ flat_map-all stated columns (num_columns m)
      (subst (λ (n : ℕ). length columns ≤ n) (sym (length-map columns (λ (e : List ℕ × Column). e.0))) (omega arith))

  pub some-listed : 0 < length (row_columns m row) → has_lines (flat_map (numbered_term_lines m row) (row_columns m row)) ≡ true
  some-listed some =
      by (row_columns m row)
      (λ k d within. ap has_lines (sym
      (term-listed k (get_or (row_columns m row) k d) (slice_get-get_or (row_columns m row) k d within)))) some
    where
      by : (js : List ℕ) → All (λ (j : ℕ). has_lines (numbered_term_lines m row j) ≡ true) js → 0 < length js →
          has_lines (flat_map (numbered_term_lines m row) js) ≡ true
      by [] each h = absurd (omega arith)
      by (j ∷ js) each h =
          has_lines-append (numbered_term_lines m row j) (flat_map (numbered_term_lines m row) js)
          ∙ ap (λ (b : Bool). b || has_lines (flat_map (numbered_term_lines m row) js)) (each 0 j (omega arith))

  pub none-listed : length (row_columns m row) ≤ 0 → has_lines (flat_map (numbered_term_lines m row) (row_columns m row)) ≡ false
  none-listed none = by (row_columns m row) none
    where
      by : (js : List ℕ) → length js ≤ 0 → has_lines (flat_map (numbered_term_lines m row) js) ≡ false
      by [] h = refl
      by (j ∷ js) h = absurd (omega arith)

-- ---- all terms of a row

pub terms-joined : {X : Type 0} (f : X → Option Term) (xs : List X) →
    flat_map (λ x. term_lines (f x)) xs ≡ map term_line (filter_map f xs)
terms-joined f [] = refl
terms-joined {X} f (x ∷ xs) =
    elim (f x) as (λ o. term_lines o ++ flat_map (λ x. term_lines (f x)) xs ≡ map term_line (cons_option o (filter_map f xs))) [
      | None ↦ terms-joined f xs
      | Some term ↦ ap (λ (l : Lines). term_line term ∷ l) (terms-joined f xs)
    ]

pub some-terms : (columns : List (List ℕ × Column)) (terms : List Term) → has_lines (map term_line terms) ≡ true
    → map term_line terms ≡ map term_line (some_term columns terms)
some-terms columns [] h = absurd (not_both h refl)
some-terms [] (term ∷ terms) h = refl
some-terms (column ∷ columns) (term ∷ terms) h = refl

pub no-terms : (columns : List (List ℕ × Column)) (terms : List Term) (first : List ℕ) →
    slice_get (map (λ column. column.0) columns) 0 ≡ Some first → has_lines (map term_line terms) ≡ false →
    map term_line terms ++ term_line (first, zero_number) ∷ [] ≡ map term_line (some_term columns terms)
no-terms [] [] first named h = absurd (no_name first named)
  where
    no_name : (name : List ℕ) → ◌≡◌ {A = Option (List ℕ)} None (Some name) → ⊥
    no_name name e = cc
no-terms (column ∷ columns) [] first named h = let same : first ≡ column.0 = cc in
    ap (λ (name : List ℕ). term_line (name, zero_number) ∷ []) same
no-terms columns (term ∷ terms) first named h = absurd (not_both refl h)
