-- The canonical LP text of a model that is given by its lists.
use Rattle.mpslp_lp_laws.proofs.Prelude
use Prelude.{◌≡◌, ◌∙◌, ap, subst, List, ℕ, Bool, true, ◌&&◌, Some, None, first_so, second_so, is_sorted, from_sorted, entries-from_sorted}
use Prelude.{LinearModel, key_cmp, Listing, listing_of, bytes_cmp, T_from, DeclaresLp, Passes, declares-from_passes, text_of, listed_lines}
use Prelude.{canonical_lp, unfit_in, unfit}
use Rattle.mpslp_types.specs.declared.faults.NameAt.{NameAt}

abbrev pub model_in : Listing → LinearModel
model_in m = record {
  sense = m.sense;
  objective = m.objective;
  constant = m.constant;
  rows = from_sorted m.rows;
  columns = from_sorted m.columns;
  coefficients = from_sorted m.coefficients;
}

abbrev pub is_in_order : Listing → Bool
is_in_order m = is_sorted bytes_cmp m.rows && (is_sorted bytes_cmp m.columns && is_sorted key_cmp m.coefficients)

pub listing_of-model_in : (m : Listing) → is_in_order m ≡ true → listing_of (model_in m) ≡ m
listing_of-model_in m h =
    let more = second_so _ _ h in
    let rows = entries-from_sorted bytes_cmp m.rows (T_from _ (first_so _ _ h)) in
    let columns = entries-from_sorted bytes_cmp m.columns (T_from _ (first_so _ _ more)) in
    let coefficients = entries-from_sorted key_cmp m.coefficients (T_from _ (second_so _ _ more)) in λ i. record {
      sense = m.sense;
      objective = m.objective;
      constant = m.constant;
      rows = rows i;
      columns = columns i;
      coefficients = coefficients i;
    }

-- the model of these lists has this text, which declares it, and each name is an LP name
pub record IsPrinted (m : Listing) (output : List ℕ) : Type 0 where
  pub prints : canonical_lp (model_in m) ≡ output
  pub declares : DeclaresLp output (model_in m)
  pub fits : unfit (model_in m) ≡ None

pub line_text-from_passes : (m : Listing) (output : List ℕ) → is_in_order m ≡ true → text_of (listed_lines m) ≡ output →
    unfit_in m ≡ None → Passes output (model_in m) → IsPrinted m output
line_text-from_passes m output sorted text fits passes = record {
  prints = ap (λ (l : Listing). text_of (listed_lines l)) (listing_of-model_in m sorted) ∙ text;
  declares = subst (DeclaresLp output) passes.model (declares-from_passes output (model_in m) passes);
  fits = ap unfit_in (listing_of-model_in m sorted) ∙ fits;
}

-- if a name of the model of these lists is not an LP name
pub unfit-listed : (m : Listing) (place : NameAt) → is_in_order m ≡ true → unfit_in m ≡ Some place →
    unfit (model_in m) ≡ Some place
unfit-listed m _ sorted h = ap unfit_in (listing_of-model_in m sorted) ∙ h
