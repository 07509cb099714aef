-- The cells of a column: its coefficient in the objective, if any, and then those in rows as a model numbers them.
use Rattle.std.proofs.Common.{arith, ◌≡◌, refl, sym, ap, ◌∙◌, ℕ, Bool, true, false, not, cond, List, [], ◌∷◌, map}
use Rattle.std.specs.{Prelude.{Option, Some, None, filter, filter_map, ◌&&◌, ◌||◌}, List.{cons_option}, Option.{option_map}}
use Rattle.std.specs.{Ordering.{is_lt, eq_by_cmp, ordering_then}, Cmp.{first_so, second_so, Lexicographic.{texts_ties, nat_list_eq_equiv}}}
use Rattle.std.specs.{declared.cmp.Ordering.{Ordering, TheVariants.{Equal}}, FinMap.{find, is_sorted, Entries.{below_all}}}
use Rattle.std.specs.FinMap.Entries.{is_sorted-where_key, find-where_key, same_entries}
use Rattle.mpslp_decimal.specs.Decimal.{Number, is_decimal, is_zero}
use Rattle.mpslp_types.specs.Name.{same_bytes, is_one_of, bytes_cmp}
use Rattle.mpslp_types.proofs.{BoolLemmas.{both_so, T_from, true_from}, EachLemmas.{Each, Each-filter, Each-all}}
use Rattle.mpslp_model_core.specs.{Model.{LinearModel, CoefficientKey, key_cmp, IsSound, Listing, listing_of}, Views.{column_elements}}
use Rattle.mpslp_builder.{specs.Declaration.{names_in}, proofs.DraftEntries.{same_key, bytes_total, key_total_sorted as key_total}}
use Rattle.mpslp_builder.proofs.{DraftEntries.{tied_names}, SlotLemmas.{same_name}, EntryLemmas.{found-each}}
use Rattle.mpslp_mps_text.specs.CanonicalMps.{cell_at, column_coefficients}
use Rattle.mpslp_builder.proofs.ListingLemmas.{place_at, is_sound_entry, IsSoundListing, sound-listing}

-- ---- two keys of one column compare as their rows do, whichever comes first in the order of keys

then-equal : (r : Ordering) → ordering_then r Equal ≡ r
then-equal = grind arith

in-one-column : (row other column : List ℕ) → key_cmp (place_at row column) (place_at other column) ≡ bytes_cmp row other
in-one-column = grind (arith, bytes_total, then-equal)

as-rows : (column row : List ℕ) (key : CoefficientKey) → key.column ≡ column →
    key_cmp (place_at row column) key ≡ bytes_cmp row key.row
as-rows = grind (arith, place_at, in-one-column)

as-places : (column : List ℕ) (a b : CoefficientKey) → a.column ≡ column → b.column ≡ column → key_cmp a b ≡ bytes_cmp a.row b.row
as-places = grind (arith, place_at, as-rows)

-- ---- coefficients of one column, by their rows

abbrev pub by_row : CoefficientKey × Number → List ℕ × Number
by_row entry = (entry.0.row, entry.1)

abbrev InColumn : List ℕ → CoefficientKey × Number → Type 0
InColumn column entry = entry.0.column ≡ column

rows-below : (column : List ℕ) (key : CoefficientKey) (es : List (CoefficientKey × Number)) → key.column ≡ column
    → Each (InColumn column) es → below_all key_cmp key es ≡ true → below_all bytes_cmp key.row (map by_row es) ≡ true
rows-below column key [] here h below = refl
rows-below column key (e ∷ es) here h below =
    grind (
      arith,
      both_so,
      as-places,
      rows-below column key es here h.1
          (second_so (is_lt (key_cmp key e.0)) (below_all key_cmp key es) below),
    )

rows-sorted : (column : List ℕ) (es : List (CoefficientKey × Number)) → Each (InColumn column) es → is_sorted key_cmp es ≡ true
    → is_sorted bytes_cmp (map by_row es) ≡ true
rows-sorted column [] h sorted = refl
rows-sorted column (e ∷ es) h sorted =
    grind (
      arith,
      both_so,
      rows-below,
      rows-sorted column es h.1
          (second_so (below_all key_cmp e.0 es) (is_sorted key_cmp es) sorted),
    )

rows-found : (column row : List ℕ) (es : List (CoefficientKey × Number)) → Each (InColumn column) es
    → find bytes_cmp row (map by_row es) ≡ find key_cmp (place_at row column) es
rows-found column row [] h = refl
rows-found column row (e ∷ es) h = grind (arith, as-rows, rows-found column row es h.1)

-- ---- what is printed of one row after another

module _ (coefficients : List (CoefficientKey × Number)) (column : List ℕ) where
  abbrev at : List ℕ → Option Number
  at row = find key_cmp (place_at row column) coefficients

  abbrev cells : List (List ℕ) → List (List ℕ × Number)
  cells names = filter_map (cell_at coefficients column) names

  abbrev stated_at : List ℕ → Option Number → List (List ℕ × Number) → List (List ℕ × Number)
  stated_at name o rest = cons_option (option_map (λ (value : Number). (name, value)) o) rest

  cells-below : {X : Type 0} (name : List ℕ) (es : List (List ℕ × X)) → below_all bytes_cmp name es ≡ true
      → below_all bytes_cmp name (cells (map (λ e. e.0) es)) ≡ true
  cells-below name [] h = refl
  cells-below {X} name (e ∷ es) h =
      let rest = cells-below name es (second_so (is_lt (bytes_cmp name e.0)) (below_all bytes_cmp name es) h) in
      let here = first_so (is_lt (bytes_cmp name e.0)) (below_all bytes_cmp name es) h in
      grind (arith, both_so)

  cells-sorted : {X : Type 0} (es : List (List ℕ × X)) → is_sorted bytes_cmp es ≡ true
      → is_sorted bytes_cmp (cells (map (λ e. e.0) es)) ≡ true
  cells-sorted [] h = refl
  cells-sorted {X} (e ∷ es) h =
      let rest = cells-sorted es (second_so (below_all bytes_cmp e.0 es) (is_sorted bytes_cmp es) h) in
      let below = cells-below e.0 es (first_so (below_all bytes_cmp e.0 es) (is_sorted bytes_cmp es) h) in
      grind (arith, cells-below, both_so)

  none-either : (b : Bool) → ◌≡◌ {A = Option Number} (cond b None None) None
  none-either = grind arith

  cells-found : (row : List ℕ) (names : List (List ℕ)) →
      find bytes_cmp row (cells names) ≡ cond (is_one_of names row) (at row) None
  cells-found row [] = refl
  cells-found row (name ∷ names) = by (same_bytes row name) refl (at name) refl (cells-found row names)
    where
      tie : (b : Bool) → same_bytes row name ≡ b → eq_by_cmp bytes_cmp row name ≡ b
      tie b is = sym (texts_ties row name) ∙ is

      by : (b : Bool) → same_bytes row name ≡ b → (o : Option Number) → at name ≡ o
          → find bytes_cmp row (cells names) ≡ cond (is_one_of names row) (at row) None
          → find bytes_cmp row (stated_at name o (cells names)) ≡ cond (b || is_one_of names row) (at row) None
      by true is None there more =
          let none : at row ≡ None = ap at (same_name row name is) ∙ there in
          grind (arith, same_name, none-either)
      by true is (Some v) there more =
          ap (λ (b : Bool). cond b (Some v) (find bytes_cmp row (cells names))) (tie true is)
          ∙ sym (ap at (same_name row name is) ∙ there)
      by false is None there more = more
      by false is (Some v) there more =
          ap (λ (b : Bool). cond b (Some v) (find bytes_cmp row (cells names))) (tie false is) ∙ more

-- ---- both are equal

abbrev is_of : List ℕ → List ℕ → CoefficientKey → Bool
is_of objective column key = not (same_bytes objective key.row) && same_bytes column key.column

module _ (m : Listing) (h : IsSoundListing m) (column : List ℕ) where
  abbrev elements : List (CoefficientKey × Number)
  elements = filter (λ entry. is_of m.objective column entry.0) m.coefficients

  all-in : Each (InColumn column) elements
  all-in =
      Each-filter (InColumn column) (λ entry. is_of m.objective column entry.0) m.coefficients
      (Each-all _ (λ entry passes. sym
      (same_name column entry.0.column
      (second_so (not (same_bytes m.objective entry.0.row)) (same_bytes column entry.0.column) passes)))
      m.coefficients)

  sorted-elements : is_sorted key_cmp elements ≡ true
  sorted-elements =
      true_from (is_sorted key_cmp elements)
      (is_sorted-where_key key_cmp (is_of m.objective column) m.coefficients
      (T_from (is_sorted key_cmp m.coefficients) h.coefficients_sorted))

  found : (row : List ℕ)
      → find key_cmp (place_at row column) elements
      ≡ cond (is_of m.objective column (place_at row column)) (at m.coefficients column row) None
  found row =
      find-where_key key_cmp (is_of m.objective column) (place_at row column)
      (λ other tie. ap (is_of m.objective column) (sym (same_key (place_at row column) other tie))) m.coefficients

  agree : (row : List ℕ) (o : Option Number) → at m.coefficients column row ≡ o
      → cond (is_one_of (names_in m.rows) row) o None ≡ cond (is_of m.objective column (place_at row column)) o None
  agree row None is = grind (arith, none-either, place_at)
  agree row (Some v) is = by (same_bytes row m.objective) refl there
    where
      there : (same_bytes row m.objective || is_one_of (names_in m.rows) row) ≡ true
      there =
          let columns = is_one_of (names_in m.columns) column in
          let rows = is_one_of (m.objective ∷ names_in m.rows) row in
          let sound =
          found-each key_cmp key_total same_key (λ key value. is_sound_entry m (key, value) ≡ true) m.coefficients h.coefficients
          (place_at row column) v is in
          second_so columns rows
          (second_so (not (is_zero v)) (columns && rows) (second_so (is_decimal v) (not (is_zero v) && (columns && rows)) sound))

      by : (b : Bool) → same_bytes row m.objective ≡ b → (b || is_one_of (names_in m.rows) row) ≡ true
          → cond (is_one_of (names_in m.rows) row) (Some v) None
          ≡ cond (not (same_bytes m.objective row) && same_bytes column column) (Some v) None
      by true same k =
          let absent : is_one_of (names_in m.rows) row ≡ false =
          ap (is_one_of (names_in m.rows)) (same_name row m.objective same) ∙ h.no_row in
          let objective : same_bytes m.objective row ≡ true = nat_list_eq_equiv.symm m.objective row ∙ same in
          grind (arith, same_name)
      by false other k =
          let objective : same_bytes m.objective row ≡ false = nat_list_eq_equiv.symm m.objective row ∙ other in
          let itself : same_bytes column column ≡ true = nat_list_eq_equiv.refl column in
          grind arith

  pub row-cells : cells m.coefficients column (names_in m.rows) ≡ map by_row elements
  row-cells =
      same_entries bytes_cmp bytes_total tied_names (cells m.coefficients column (names_in m.rows)) (map by_row elements)
      (T_from (is_sorted bytes_cmp (cells m.coefficients column (names_in m.rows)))
      (cells-sorted m.coefficients column m.rows h.rows_sorted))
      (T_from (is_sorted bytes_cmp (map by_row elements)) (rows-sorted column elements all-in sorted-elements))
      (λ row. cells-found m.coefficients column row (names_in m.rows) ∙ agree row (at m.coefficients column row) refl
      ∙ sym (found row) ∙ sym (rows-found column row elements all-in))

-- the coefficient of the objective in a column, and those of rows
pub column-cells : (m : LinearModel) → IsSound m → (column : List ℕ)
    → column_coefficients (listing_of m) column
    ≡ cons_option (cell_at (listing_of m).coefficients column m.objective) (map by_row (column_elements m column))
column-cells m sound column =
    ap (cons_option (cell_at (listing_of m).coefficients column m.objective))
    (row-cells (listing_of m) (sound-listing m sound) column)
