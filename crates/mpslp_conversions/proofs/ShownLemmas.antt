-- Rows and columns by number, and the line of one by the results of a model's accessors.
use Rattle.std.proofs.Common.{◌≡◌, refl, sym, ap, ◌∙◌, ℕ, zero, suc, ◌≤◌, ◌+◌, List, [], ◌∷◌, ◌++◌, length, map, take, arith}
use Rattle.std.proofs.lemmas.{List.{length-map, FromFn.{length-enumerate_from}}, Option.{slice_get-map, get_or_from_slice_get}}
use Rattle.std.specs.{Prelude.{Option, Some, None, slice_get}, List.{flat_map, enumerate_from}, Option.{option_map, option_map_or}}
use Rattle.std.specs.FinMap.{entries}
use Rattle.mpslp_decimal.specs.Decimal.{Number}
use Rattle.mpslp_model_core.specs.{Model.{LinearModel, Row, Column}, Views.{row_names, column_names, rows_of, columns_of, column_name}}
use Rattle.mpslp_model_core.specs.Views.{column_elements, numbered_elements, row_sense, right_hand_side, row_range, coefficient_at}
use Rattle.mpslp_types.specs.declared.kinds.{Kind.{Kind}, Limit.{Limit}}
use Rattle.mpslp_io.{specs.LinesAt.{lines_at}, proofs.LinesAtLemmas.{flat_map-all}}
use Rattle.mpslp_conversions.specs.ShownText.{row_line, row_text, column_line, column_text, entries_text}

no_value : {X : Type 0} (x : X) → ◌≡◌ {A = Option X} None (Some x) → ⊥
no_value x e = cc

-- the entry at an index, with its number
numbered-at : {X : Type 0} (n : ℕ) (xs : List X) (i : ℕ)
    → slice_get (enumerate_from n xs) i ≡ option_map (λ (x : X). (n + i, x)) (slice_get xs i)
numbered-at n [] _ = refl
numbered-at {X} n (x ∷ xs) zero = grind arith
numbered-at {X} n (x ∷ xs) (suc i) =
    let same : n + 1 + i ≡ n + suc i = omega arith in
    numbered-at (n + 1) xs i ∙ ap {B = Option (ℕ × X)} (λ (k : ℕ). option_map (λ (y : X). (k, y)) (slice_get xs i)) same

-- the number of entries, by their names
pub all-numbered : {X L : Type 0} (f : ℕ × (List ℕ × X) → List L) (es : List (List ℕ × X)) (n : ℕ) →
    length (map (λ e. e.0) es) ≤ n → flat_map f (take n (enumerate_from 0 es)) ≡ flat_map f (enumerate_from 0 es)
all-numbered {X} = grind (arith, length-map, length-enumerate_from, flat_map-all)

-- the number of nonzeros of a column
pub all-elements : {L : Type 0} (m : LinearModel) (name : List ℕ) (f : Option ℕ × Number → List L) (n : ℕ)
    → length (column_elements m name) ≤ n → flat_map f (take n (numbered_elements m name)) ≡ flat_map f (numbered_elements m name)
all-elements = grind (arith, length-map, flat_map-all)

pub row-seen : (m : LinearModel) (i : ℕ) (name : List ℕ) (letter : ℕ) (lower upper : Limit) (rhs range : Number)
    → slice_get (row_names m) i ≡ Some name → option_map row_sense (slice_get (rows_of m) i) ≡ Some letter
    → option_map (λ (row : Row). row.lower) (slice_get (rows_of m) i) ≡ Some lower
    → option_map (λ (row : Row). row.upper) (slice_get (rows_of m) i) ≡ Some upper
    → option_map right_hand_side (slice_get (rows_of m) i) ≡ Some rhs →
    option_map row_range (slice_get (rows_of m) i) ≡ Some range →
    row_line i name letter lower upper rhs range ≡ lines_at row_text (enumerate_from 0 (entries m.rows)) i
row-seen = grind (arith, slice_get-map, numbered-at, no_value)

pub column-seen : (m : LinearModel) (j : ℕ) (name : List ℕ) (kind : Kind) (lower upper : Limit) (value : Number)
    → slice_get (column_names m) j ≡ Some name →
    option_map (λ (column : Column). column.kind) (slice_get (columns_of m) j) ≡ Some kind →
    option_map (λ (column : Column). column.lower) (slice_get (columns_of m) j) ≡ Some lower
    → option_map (λ (column : Column). column.upper) (slice_get (columns_of m) j) ≡ Some upper
    → value ≡ coefficient_at m m.objective (column_name m j)
    → column_line j name kind lower upper value ++ entries_text m j (column_name m j)
    ≡ lines_at (column_text m) (enumerate_from 0 (entries m.columns)) j
column-seen m j name kind lower upper value named has_kind has_lower has_upper has_value =
    let es = entries m.columns in
    let kept = slice_get-map (λ (e : List ℕ × Column). e.1) es j in
    by (slice_get es j) (get_or_from_slice_get (column_names m) j name [] named)
    (sym (slice_get-map (λ (e : List ℕ × Column). e.0) es j) ∙ named)
    (ap (option_map (λ (column : Column). column.kind)) (sym kept) ∙ has_kind)
    (ap (option_map (λ (column : Column). column.lower)) (sym kept) ∙ has_lower)
    (ap (option_map (λ (column : Column). column.upper)) (sym kept) ∙ has_upper)
    ∙ ap (λ (o : Option (ℕ × (List ℕ × Column))). option_map_or (column_text m) o []) (sym (numbered-at 0 es j))
  where
    by : (o : Option (List ℕ × Column)) → column_name m j ≡ name → option_map (λ (e : List ℕ × Column). e.0) o ≡ Some name
        → option_map (λ (column : Column). column.kind) (option_map (λ (e : List ℕ × Column). e.1) o) ≡ Some kind
        → option_map (λ (column : Column). column.lower) (option_map (λ (e : List ℕ × Column). e.1) o) ≡ Some lower
        → option_map (λ (column : Column). column.upper) (option_map (λ (e : List ℕ × Column). e.1) o) ≡ Some upper
        → column_line j name kind lower upper value ++ entries_text m j (column_name m j)
        ≡ option_map_or (column_text m) (option_map (λ (x : List ℕ × Column). (0 + j, x)) o) []
    by None is a b c d = absurd (no_value name a)
    by (Some column) is a b c d = grind arith
