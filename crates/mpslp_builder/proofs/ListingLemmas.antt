-- The listing of a well-formed model: what its well-formedness says of each entry.
use Rattle.std.proofs.Common.{◌≡◌, ℕ, Bool, true, false, not, List, ◌∷◌}
use Rattle.std.specs.{Prelude.{Some, ◌&&◌}, Cmp.{first_so, second_so}, FinMap.{find, entries, is_sorted, entries_sorted}}
use Rattle.mpslp_decimal.specs.Decimal.{Number, IsDecimal, is_decimal, is_zero}
use Rattle.mpslp_types.specs.Name.{bytes_cmp, is_mps_name, is_one_of}
use Rattle.mpslp_types.proofs.{BoolLemmas.{not_so, true_from}, EachLemmas.{Each, Each-from_list_all}}
use Rattle.mpslp_model_core.specs.Model.{LinearModel, CoefficientKey, key_cmp, IsSound, Listing, listing_of, is_sound_row, is_sound_column}
use Rattle.mpslp_builder.specs.Declaration.{names_in}
use Rattle.mpslp_builder.proofs.{DraftEntries.{same_key, key_total_sorted as key_total}, EntryLemmas.{found-each}}

-- a decimal other than 0, of a row or the objective and of a column that exist
abbrev pub is_sound_entry : Listing → CoefficientKey × Number → Bool
is_sound_entry m entry = is_decimal entry.1
    && (not (is_zero entry.1) && (is_one_of (names_in m.columns) entry.0.column && is_one_of
    (m.objective ∷ names_in m.rows) entry.0.row))

pub record IsSoundListing (m : Listing) : Type 0 where
  pub objective : is_mps_name m.objective ≡ true
  pub no_row : is_one_of (names_in m.rows) m.objective ≡ false
  pub constant : IsDecimal m.constant
  pub rows : Each (λ row. is_sound_row row ≡ true) m.rows
  pub columns : Each (λ column. is_sound_column column ≡ true) m.columns
  pub coefficients : Each (λ entry. is_sound_entry m entry ≡ true) m.coefficients
  pub rows_sorted : is_sorted bytes_cmp m.rows ≡ true
  pub columns_sorted : is_sorted bytes_cmp m.columns ≡ true
  pub coefficients_sorted : is_sorted key_cmp m.coefficients ≡ true

pub sound-listing : (m : LinearModel) → IsSound m → IsSoundListing (listing_of m)
sound-listing m h = record {
  objective = h.objective;
  no_row = h.objective_is_no_row;
  constant = h.constant;
  rows = Each-from_list_all is_sound_row _ h.rows;
  columns = Each-from_list_all is_sound_column _ h.columns;
  coefficients = Each-from_list_all _ _ h.coefficients;
  rows_sorted = true_from _ (entries_sorted m.rows);
  columns_sorted = true_from _ (entries_sorted m.columns);
  coefficients_sorted = true_from _ (entries_sorted m.coefficients);
}

-- ---- its coefficients

abbrev pub place_at : List ℕ → List ℕ → CoefficientKey
place_at row column = record { row = row; column = column }

pub coefficient-not_zero : (m : LinearModel) → IsSound m → (row column : List ℕ) (v : Number)
    → find key_cmp (place_at row column) (entries m.coefficients) ≡ Some v → is_zero v ≡ false
coefficient-not_zero m sound row column v is =
    let h = sound-listing m sound in
    let at =
    found-each key_cmp key_total same_key (λ key value. is_sound_entry (listing_of m) (key, value) ≡ true)
    (listing_of m).coefficients h.coefficients (place_at row column) v is in
    not_so (is_zero v) (first_so (not (is_zero v)) _ (second_so (is_decimal v) _ at))
