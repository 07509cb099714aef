-- The canonical text of the model of a draft, from the draft's lists.
use Rattle.mpslp_mps_laws.proofs.Prelude
use Prelude.{Bool, BuildFault, DeclaresMps, Draft, Each, Fault, LinearModel, List, Listing, Minimize, None, Option, Passes, T_from, [], ap}
use Prelude.{bytes_cmp, canonical_mps, column_of, constant_of, declares-from_passes, draft_in, drop, entries-from_sorted, filter, first_so}
use Prelude.{get_or, is_sorted, is_zero, key_cmp, listed_lines, listing_of, map, model_of, objective_name, passes-from_tests, row_entry}
use Prelude.{second_so, tests, text_of, true, unwrap_or, ℕ, ◌&&◌, ◌∙◌, ◌∷◌, ◌≡◌}
use Rattle.std.specs.Prelude.{not}

-- the bytes declare a model whose canonical text is this
pub record IsPrinted (bytes output : List ℕ) : Type 0 where
  pub model : LinearModel
  pub declares : DeclaresMps bytes model
  pub prints : canonical_mps model ≡ output

abbrev pub listing_in : Draft → Listing
listing_in all = record {
  sense = unwrap_or all.sense Minimize;
  objective = objective_name all;
  constant = constant_of all;
  rows = map (row_entry all) all.rows;
  columns = map (λ column. (column.0, column_of all column.0)) all.columns;
  coefficients = filter (λ entry. not (is_zero entry.1)) all.coefficients;
}

abbrev pub is_in_order : Listing → Bool
is_in_order m = is_sorted bytes_cmp m.rows && (is_sorted bytes_cmp m.columns && is_sorted key_cmp m.coefficients)

pub listing_of-model : (all : Draft) → is_in_order (listing_in all) ≡ true → listing_of (model_of all) ≡ listing_in all
listing_of-model all h =
    let m = listing_in all in
    let more = second_so _ _ h in
    let rows = entries-from_sorted bytes_cmp m.rows (T_from _ (first_so _ _ h)) in
    let columns = entries-from_sorted bytes_cmp m.columns (T_from _ (first_so _ _ more)) in
    let coefficients = entries-from_sorted key_cmp m.coefficients (T_from _ (second_so _ _ more)) in
    λ i. record {
      sense = m.sense;
      objective = m.objective;
      constant = m.constant;
      rows = rows i;
      columns = columns i;
      coefficients = coefficients i;
    }

pub line_text-from_passes : (bytes output : List ℕ) → Passes bytes → is_in_order (listing_in (draft_in bytes)) ≡ true
    → text_of (listed_lines (listing_in (draft_in bytes))) ≡ output → IsPrinted bytes output
line_text-from_passes bytes output passes sorted text =
    record {
      model = model_of (draft_in bytes);
      declares = declares-from_passes bytes passes;
      prints = ap (λ (m : Listing). text_of (listed_lines m)) (listing_of-model (draft_in bytes) sorted) ∙ text;
    }

-- what is computed of a file, and what each worked file has
abbrev pub printed_of : List ℕ → (Bool × Bool × Bool × List BuildFault × Option Fault) × Bool × List ℕ
printed_of bytes = (tests bytes, is_in_order (listing_in (draft_in bytes)), text_of (listed_lines (listing_in (draft_in bytes))))

pub each-printed : (rows : List (List ℕ × List ℕ)) → map (λ row. printed_of row.0) rows
    ≡ map (λ row. ((true, true, true, [], None), true, row.1)) rows → Each (λ row. IsPrinted row.0 row.1) rows
each-printed [] h = tt
each-printed (row ∷ rows) h =
    let here = ap (λ its. get_or its 0 (printed_of row.0)) h in (
      line_text-from_passes row.0 row.1 (passes-from_tests row.0 (ap (λ it. it.0) here)) (ap (λ it. it.1) here)
          (ap (λ it. it.2) here),
      each-printed rows (ap (drop 1) h),
    )
