-- Models are the same if and only if their parts are.
use Rattle.std.proofs.Common.{arith, ◌≡◌, refl, sym, ap, ◌∙◌, ℕ, List, [], ◌∷◌, map, true, false, cond}
use Rattle.std.specs.{Prelude.{Option, Some, None, is_some}, Option.option_and_then, List.list_all, Ordering.{eq_by_cmp, nat_cmp}}
use Rattle.std.specs.{Cmp.{first_so, second_so, nat_cmp_total}, FinMap.{find, is_sorted, nat_cmp-IsAntisymmetric, Entries.same_entries}}
use Rattle.mpslp_decimal.specs.Decimal.{Number}
use Rattle.mpslp_types.{specs.Name.bytes_cmp, proofs.BoolLemmas.T_from}
use Rattle.mpslp_model_core.specs.{Model.{Column, LinearModel, key_cmp}, Columned.column_entries}
use Rattle.mpslp_model_core.specs.ModelParts.{linear_model, AreModelParts, bounds_in, cells_in, columns_in, cells_by_name, name_of_row_key}
use Rattle.mpslp_model_core.specs.{Numbered.{sorted_of, each_part, name_of, all_cells, all_named, IsOnce}, Same.IsSameObjective}
use Rattle.mpslp_model_core.specs.{ModelColumns.ModelColumn, declared.model.ModelParts.ModelParts}
use Rattle.mpslp_model_core.proofs.CellLemmas.{bytes_total, key_total, find-sorted_of, at, find-all_cells, name_same}
use Rattle.mpslp_model_core.proofs.ViewLemmas.{rows_seen, columns_seen, coefficients_seen, apart_in, once_in}
use Rattle.std.specs.FinMap as maps

-- each part of two models is the same
pub record AreSameParts (v w : LinearModel) (m n : ModelParts) : Type 0 where
  pub objective : IsSameObjective v w
  pub rows : m.rows.items ≡ n.rows.items
  pub columns : column_entries m.columns ≡ column_entries n.columns

abbrev cells_of : List (List ℕ × ModelColumn) → List (List ℕ × List (ℕ × Number))
cells_of columns = each_part cells_in columns

abbrev bounds_of : List (List ℕ × ModelColumn) → List (List ℕ × Column)
bounds_of columns = each_part bounds_in columns

-- ---- the model from its columns

bounds_stated : (columns : List (List ℕ × ModelColumn))
    → map (λ (t : List ℕ × (Column × List (ℕ × Number))). (t.0, t.1.0)) (column_entries columns) ≡ bounds_of columns
bounds_stated [] = refl
bounds_stated (c ∷ cs) = grind (arith, bounds_stated cs)

cells_stated : (columns : List (List ℕ × ModelColumn))
    → map (λ (t : List ℕ × (Column × List (ℕ × Number))). (t.0, t.1.1)) (column_entries columns) ≡ cells_of columns
cells_stated [] = refl
cells_stated (c ∷ cs) = grind (arith, cells_stated cs)

pub same-parts : {m n : ModelParts} {v w : LinearModel} → linear_model m ≡ v → linear_model n ≡ w → AreSameParts v w m n → v ≡ w
same-parts {m} {n} {v} {w} see seen p =
    let sense : m.sense ≡ n.sense = ap (λ (x : LinearModel). x.sense) see ∙ p.objective.0
    ∙ sym (ap (λ (x : LinearModel). x.sense) seen) in
    let objective : m.objective ≡ n.objective = ap (λ (x : LinearModel). x.objective) see ∙ p.objective.1
    ∙ sym (ap (λ (x : LinearModel). x.objective) seen) in
    let constant : m.constant ≡ n.constant = ap (λ (x : LinearModel). x.constant) see ∙ p.objective.2
    ∙ sym (ap (λ (x : LinearModel). x.constant) seen) in
    let bounds : columns_in m ≡ columns_in n =
    sym (bounds_stated m.columns) ∙ ap (map (λ (t : List ℕ × (Column × List (ℕ × Number))). (t.0, t.1.0))) p.columns
    ∙ bounds_stated n.columns in
    let cells : cells_by_name m ≡ cells_by_name n =
    sym (cells_stated m.columns) ∙ ap (map (λ (t : List ℕ × (Column × List (ℕ × Number))). (t.0, t.1.1))) p.columns
    ∙ cells_stated n.columns in
    let inside : linear_model m ≡ linear_model n = λ i. record {
      sense = sense i;
      objective = objective i;
      constant = constant i;
      rows = maps.from_sorted (p.rows i);
      columns = maps.from_sorted (bounds i);
      coefficients = maps.from_sorted (sorted_of key_cmp (all_cells (name_of (Some (objective i)) (p.rows i)) (cells i)));
    } in
    sym see ∙ inside ∙ seen

-- ---- the columns from the model

-- nothing is found at a number without a row
unnamed_cells : (name : ℕ → Option (List ℕ)) (n : ℕ) (es : List (ℕ × Number)) → name n ≡ None →
    list_all (λ e. is_some (name e.0)) es ≡ true → find nat_cmp n es ≡ None
unnamed_cells name n [] none h = refl
unnamed_cells name n (e ∷ es) none h = grind (arith, unnamed_cells name n es none)

unnamed : (name : ℕ → Option (List ℕ)) (n : ℕ) (c : List ℕ) (cols : List (List ℕ × List (ℕ × Number))) → name n ≡ None
    → all_named name cols ≡ true → option_and_then (find nat_cmp n) (find bytes_cmp c cols) ≡ None
unnamed name n c [] none h = refl
unnamed name n c (col ∷ cols) none h =
    elim (eq_by_cmp bytes_cmp c col.0) as
    (λ b. option_and_then (find nat_cmp n) (cond b (Some col.1) (find bytes_cmp c cols)) ≡ None) [
      | true ↦ unnamed_cells name n col.1 none (first_so (list_all (λ e. is_some (name e.0)) col.1) (all_named name cols) h)
      | false ↦ unnamed name n c cols none (second_so (list_all (λ e. is_some (name e.0)) col.1) (all_named name cols) h)
    ]

abbrev FindSame : List (List ℕ × List (ℕ × Number)) → List (List ℕ × List (ℕ × Number)) → Type 0
FindSame xs ys = (c : List ℕ) (n : ℕ) →
    option_and_then (find nat_cmp n) (find bytes_cmp c xs) ≡ option_and_then (find nat_cmp n) (find bytes_cmp c ys)

-- the first column is found by its name
first_found : (c : List ℕ) (name : List ℕ) (cells : List (ℕ × Number)) (cols : List (List ℕ × List (ℕ × Number))) → c ≡ name
    → find bytes_cmp c ((name, cells) ∷ cols) ≡ Some cells
first_found = grind (arith, bytes_total)

same_after : (name other : List ℕ) (a b : List (ℕ × Number)) (xs ys : List (List ℕ × List (ℕ × Number))) → name ≡ other
    → IsOnce ((name, a) ∷ xs) → IsOnce ((other, b) ∷ ys) → FindSame ((name, a) ∷ xs) ((other, b) ∷ ys) → FindSame xs ys
same_after name other a b xs ys same once once_too alike c n =
    elim (eq_by_cmp bytes_cmp c name) as (λ t. eq_by_cmp bytes_cmp c name ≡ t → option_and_then (find nat_cmp n)
    (cond t (Some a) (find bytes_cmp c xs)) ≡ option_and_then (find nat_cmp n) (cond t (Some b) (find bytes_cmp c ys))
    → option_and_then (find nat_cmp n) (find bytes_cmp c xs) ≡ option_and_then (find nat_cmp n) (find bytes_cmp c ys)) [
      | true ↦ λ tie _.
          let is : c ≡ name = name_same c name tie in
          let one : find bytes_cmp c xs ≡ None = ap (λ (k : List ℕ). find bytes_cmp k xs) is ∙ once.0 in
          let two : find bytes_cmp c ys ≡ None = ap (λ (k : List ℕ). find bytes_cmp k ys) (is ∙ same) ∙ once_too.0 in
          ap (option_and_then (find nat_cmp n)) (one ∙ sym two)
      | false ↦ λ _ later. later
    ] refl (alike c n ∙ ap (λ (k : List ℕ). option_and_then (find nat_cmp n) (find bytes_cmp c ((k, b) ∷ ys))) (sym same))

same_stated : (xs ys : List (List ℕ × ModelColumn)) → IsOnce (cells_of xs) → IsOnce (cells_of ys)
    → list_all (λ c. is_sorted nat_cmp c.1) (cells_of xs) ≡ true → list_all (λ c. is_sorted nat_cmp c.1) (cells_of ys) ≡ true
    → bounds_of xs ≡ bounds_of ys → FindSame (cells_of xs) (cells_of ys) → column_entries xs ≡ column_entries ys
same_stated [] [] once once_too g h same alike = refl
same_stated [] (b ∷ ys) once once_too g h same alike = absurd cc
same_stated (a ∷ xs) [] once once_too g h same alike = absurd cc
same_stated (a ∷ xs) (b ∷ ys) once once_too g h same alike =
    let heads : ◌≡◌ {A = List ℕ × Column} (a.0, a.1.bounds) (b.0, b.1.bounds) = cc in
    let rest : bounds_of xs ≡ bounds_of ys = cc in
    let names : a.0 ≡ b.0 = ap (λ (p : List ℕ × Column). p.0) heads in
    let sorted = first_so (is_sorted nat_cmp a.1.cells) (list_all (λ c. is_sorted nat_cmp c.1) (cells_of xs)) g in
    let sorted_too = first_so (is_sorted nat_cmp b.1.cells) (list_all (λ c. is_sorted nat_cmp c.1) (cells_of ys)) h in
    let cells : a.1.cells ≡ b.1.cells = same_entries nat_cmp nat_cmp_total nat_cmp-IsAntisymmetric a.1.cells b.1.cells
    (T_from _ sorted) (T_from _ sorted_too)
    (λ n. ap (option_and_then (find nat_cmp n)) (sym (first_found a.0 a.0 a.1.cells (cells_of xs) refl))
    ∙ alike a.0 n ∙ ap (option_and_then (find nat_cmp n)) (first_found a.0 b.0 b.1.cells (cells_of ys) names)) in
    let more = same_stated xs ys once.1 once_too.1 (second_so (is_sorted nat_cmp a.1.cells) (list_all (λ c. is_sorted nat_cmp c.1)
    (cells_of xs)) g) (second_so (is_sorted nat_cmp b.1.cells) (list_all (λ c. is_sorted nat_cmp c.1) (cells_of ys)) h) rest
    (same_after a.0 b.0 a.1.cells b.1.cells (cells_of xs) (cells_of ys) names once once_too alike) in
    λ i. (names i, ((ap (λ (p : List ℕ × Column). p.1) heads) i, cells i)) ∷ more i

pub parts-same : {m n : ModelParts} {v w : LinearModel} → linear_model m ≡ v → AreModelParts m → linear_model n ≡ w →
    AreModelParts n → v ≡ w → AreSameParts v w m n
parts-same {m} {n} {v} {w} see p seen q same =
    let rows : m.rows.items ≡ n.rows.items = sym (rows_seen see p) ∙ ap (λ (x : LinearModel). maps.entries x.rows) same
    ∙ rows_seen seen q in
    let objective : m.objective ≡ n.objective = ap (λ (x : LinearModel). x.objective) (see ∙ same ∙ sym seen) in
    let names : name_of_row_key m ≡ name_of_row_key n = λ i. name_of (Some (objective i)) (rows i) in
    let columns : columns_in m ≡ columns_in n = sym (columns_seen see p) ∙ ap (λ (x : LinearModel). maps.entries x.columns) same
    ∙ columns_seen seen q in
    let all = all_cells (name_of_row_key m) (cells_by_name m) in
    let all_too = all_cells (name_of_row_key n) (cells_by_name n) in
    let coefficients : sorted_of key_cmp all ≡ sorted_of key_cmp all_too = sym (coefficients_seen m see)
    ∙ ap (λ (x : LinearModel). maps.entries x.coefficients) same ∙ coefficients_seen n seen in
    let alike : FindSame (cells_by_name m) (cells_by_name n) = λ c k.
    elim (name_of_row_key m k) as (λ o. name_of_row_key m k ≡ o →
    option_and_then (find nat_cmp k) (find bytes_cmp c (cells_by_name m)) ≡ option_and_then (find nat_cmp k)
    (find bytes_cmp c (cells_by_name n))) [
      | None ↦ λ no. unnamed (name_of_row_key m) k c (cells_by_name m) no p.named
          ∙ sym (unnamed (name_of_row_key n) k c (cells_by_name n) (sym (ap (λ (f : ℕ → Option (List ℕ)). f k) names)
          ∙ no) q.named)
      | Some r ↦ λ is.
          sym (find-all_cells (name_of_row_key m) (apart_in m p) k r c (cells_by_name m) is (once_in m p))
          ∙ sym (find-sorted_of key_cmp key_total (at r c) all)
          ∙ ap (find key_cmp (at r c)) coefficients
          ∙ find-sorted_of key_cmp key_total (at r c) all_too
          ∙ find-all_cells (name_of_row_key n) (apart_in n q) k r c (cells_by_name n)
          (sym (ap (λ (f : ℕ → Option (List ℕ)). f k) names) ∙ is) (once_in n q)
    ] refl in
    record {
      objective = (
        ap (λ (x : LinearModel). x.sense) same,
        ap (λ (x : LinearModel). x.objective) same,
        ap
            (λ (x : LinearModel). x.constant) same,
      );
      rows = rows;
      columns = same_stated m.columns n.columns (once_in m p) (once_in n q) p.cells q.cells columns alike;
    }
