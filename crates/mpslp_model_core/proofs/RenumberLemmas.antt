-- Coefficients with the final numbers of their rows: renumbering and sorting does not change the nonzero ones.
use Rattle.std.proofs.Common.{◌≡◌, refl, sym, ap, subst, ◌∙◌, ℕ, zero, suc, ◌<◌, List, [], ◌∷◌, true, cond, map, not, arith, IsPermutation}
use Rattle.std.proofs.Common.{false, inl, inr}
use Rattle.std.proofs.lemmas.List.Sorted.{IsPermutation-sym, IsPermutation-trans, IsPermutation-map, All-permutation}
use Rattle.std.specs.{Prelude.{Option, Some, None, filter, ◌⊎◌}, Cmp.nat_cmp_total, Ordering.{nat_cmp, is_lt, eq_by_cmp}, List.All}
use Rattle.std.specs.{FinMap.{find, is_sorted, nat_cmp-IsAntisymmetric, Entries.same_entries}, Option.{option_and_then, option_map_or}}
use Rattle.mpslp_decimal.specs.Decimal.{Number, is_zero}
use Rattle.mpslp_types.{proofs.{BoolLemmas.{T_from, true_from}, EachLemmas.{Each, Each-filter, Each-weaker}}, specs.Name.bytes_cmp}
use Rattle.mpslp_model_core.specs.Numbered.{sorted_of, is_kept, IsOnceBy, column_cells, all_cells, IsInjective, IsOnce}
use Rattle.mpslp_model_core.{specs.Model.{CoefficientKey, key_cmp}, proofs.CellLemmas.{sorted_of-alike, sorted_of-sorted, find-sorted_of}}
use Rattle.mpslp_model_core.proofs.CellLemmas.{is_sorted-sorted_of, NeverFalls, find-filter, once-sorted, is_sorted-filter}
use Rattle.mpslp_model_core.proofs.CellLemmas.{filter-permutation, once-filter, once-permutation, find-permutation, sorted_of-permutation}
use Rattle.mpslp_model_core.proofs.CellLemmas.{permuted-is_map, same_key, key_total, equal_from, at, or_else, find-two, find-all_cells}

-- ---- coefficients with the final numbers of their rows

-- a property at each index is one of each item
pub each-from_all : {X : Type 0} (P : X → Type 0) (xs : List X) → All P xs → Each P xs
each-from_all P [] h = tt
each-from_all P (x ∷ xs) h = (h zero x (omega arith), each-from_all P xs (λ k d l. h (suc k) d (omega arith)))

pub all-from_each : {X : Type 0} (P : X → Type 0) (xs : List X) → Each P xs → All P xs
all-from_each P [] h k d l = absurd (omega arith)
all-from_each P (x ∷ xs) h zero d l = h.0
all-from_each P (x ∷ xs) h (suc k) d l = all-from_each P xs h.1 k d (omega arith)

-- a value that is found, unless it is 0
abbrev pub unless_zero : Option Number → Option Number
unless_zero o = option_and_then (λ v. cond (not (is_zero v)) (Some v) None) o

abbrev pub renamed : (ℕ → ℕ) → List (ℕ × Number) → List (ℕ × Number)
renamed rank es = map (λ e. (rank e.0, e.1)) es

-- different numbers within a bound get different final numbers
abbrev pub KeepsApart : ℕ → (ℕ → ℕ) → Type 0
KeepsApart bound rank = (n m : ℕ) → n < bound → m < bound → rank n ≡ rank m → n ≡ m

-- a property of each entry of a map is one of the entries from which it is made
pub each-of_map : (P : ℕ × Number → Type 0) (es : List (ℕ × Number)) → IsOnceBy nat_cmp es →
    All P (sorted_of nat_cmp es) → Each P es
each-of_map P es once h = each-from_all P es (All-permutation P (sorted_of nat_cmp es) es
    (IsPermutation-sym es (sorted_of nat_cmp es) (sorted_of-permutation nat_cmp nat_cmp_total es once)) h)

pub each-kept : (P : ℕ × Number → Type 0) (es : List (ℕ × Number)) → Each P es → Each P (filter is_kept es)
each-kept P es h = Each-filter P is_kept es (Each-weaker P (λ e. is_kept e ≡ true → P e) (λ e p _. p) es h)

module _ (bound : ℕ) (rank : ℕ → ℕ) (apart : KeepsApart bound rank) where
  -- what is found at a final number is the value of the earlier number
  pub find-renamed : (n : ℕ) (es : List (ℕ × Number)) → n < bound → Each (λ e. e.0 < bound) es
      → find nat_cmp (rank n) (renamed rank es) ≡ find nat_cmp n es
  find-renamed n [] h within = refl
  find-renamed n (e ∷ es) h within = grind (arith, find-renamed n es h within.1)

  pub once-renamed : (es : List (ℕ × Number)) → Each (λ e. e.0 < bound) es → IsOnceBy nat_cmp es →
      IsOnceBy nat_cmp (renamed rank es)
  once-renamed [] within once = tt
  once-renamed (e ∷ es) within once = grind (arith, once-renamed es within.1 once.1, find-renamed)

  renamed-kept : (es : List (ℕ × Number)) → filter is_kept (renamed rank es) ≡ renamed rank (filter is_kept es)
  renamed-kept [] = refl
  renamed-kept (e ∷ es) = grind (arith, renamed-kept es)

  -- The coefficients in any order give the renumbered ones of the map.
  pub moved-from_any_order : (es ys : List (ℕ × Number)) → IsOnceBy nat_cmp es → Each (λ e. e.0 < bound) es
      → IsPermutation (renamed rank (filter is_kept es)) ys → NeverFalls (λ e d. is_lt (nat_cmp e.0 d.0)) ys
      → ys ≡ filter is_kept (sorted_of nat_cmp (renamed rank (sorted_of nat_cmp es)))
  moved-from_any_order es ys once within p rises = let all = renamed rank es in
      let map_of = renamed rank (sorted_of nat_cmp es) in
      let kept = filter is_kept all in
      let target = filter is_kept (sorted_of nat_cmp map_of) in
      let all_once = once-renamed es within once in
      let map_permuted = IsPermutation-map (λ (e : ℕ × Number). (rank e.0, e.1)) es (sorted_of nat_cmp es)
      (sorted_of-permutation nat_cmp nat_cmp_total es once) in
      let map_once = once-permutation nat_cmp nat_cmp_total all map_of map_permuted all_once in
      let permuted = IsPermutation-trans all
      map_of (sorted_of nat_cmp map_of) map_permuted (sorted_of-permutation nat_cmp nat_cmp_total map_of map_once) in
      let kept_once = once-filter nat_cmp nat_cmp_total is_kept all all_once in permuted-is_map nat_cmp nat_cmp_total
      nat_cmp-IsAntisymmetric kept ys kept_once
      (subst (λ (es : List (ℕ × Number)). IsPermutation es ys) (sym (renamed-kept es)) p) rises
      ∙ sorted_of-alike nat_cmp nat_cmp_total nat_cmp-IsAntisymmetric kept target
      (find-permutation nat_cmp nat_cmp_total kept target
      (filter-permutation is_kept all (sorted_of nat_cmp map_of) permuted) kept_once)
      ∙ sorted_of-sorted nat_cmp nat_cmp_total nat_cmp-IsAntisymmetric target
      (T_from (is_sorted nat_cmp target)
      (is_sorted-filter nat_cmp nat_cmp_total is_kept (sorted_of nat_cmp
      map_of) (true_from (is_sorted nat_cmp (sorted_of nat_cmp map_of)) (is_sorted-sorted_of nat_cmp nat_cmp_total map_of))))

  -- what is found among renumbered coefficients
  pub find-moved : (n : ℕ) (es : List (ℕ × Number)) → n < bound → Each (λ e. e.0 < bound) es
      → find nat_cmp (rank n) (filter is_kept (sorted_of nat_cmp (renamed rank es))) ≡ unless_zero (find nat_cmp n es)
  find-moved n es h within = find-filter nat_cmp nat_cmp_total (λ (v : Number). not (is_zero v)) (rank n)
      (sorted_of nat_cmp (renamed rank es)) (once-sorted nat_cmp nat_cmp_total (sorted_of nat_cmp (renamed rank es))
      (true_from (is_sorted nat_cmp (sorted_of nat_cmp (renamed rank es)))
      (is_sorted-sorted_of nat_cmp nat_cmp_total (renamed rank es))))
      ∙ ap unless_zero (find-sorted_of nat_cmp nat_cmp_total (rank n) (renamed rank es) ∙ find-renamed n es h within)

-- ---- renumbering rows and sorting columns does not change the nonzero coefficients

-- a row without a number has no coefficient
module _ (name : ℕ → Option (List ℕ)) (r : List ℕ) (nameless : (n : ℕ) → name n ≡ Some r → ⊥) where
  none_in_column : (c d : List ℕ) (es : List (ℕ × Number)) → find key_cmp (at r c) (column_cells name d es) ≡ None
  none_in_column c d [] = refl
  none_in_column c d (e ∷ es) =
      let rest = column_cells name d es in
      elim (name e.0) as (λ o. name e.0 ≡ o →
      find key_cmp (at r c) (option_map_or (λ row. (at row d, e.1) ∷ rest) o rest) ≡ None) [
        | None ↦ λ _. none_in_column c d es
        | Some s ↦ λ is.
            elim (eq_by_cmp key_cmp (at r c) (at s d)) as (λ b. eq_by_cmp key_cmp (at r c) (at s d) ≡ b
            → cond b (Some e.1) (find key_cmp (at r c) rest) ≡ None) [
              | true ↦ λ tie. absurd (nameless e.0 (is ∙ ap (λ (p : CoefficientKey). Some p.row)
                  (sym (same_key (at r c) (at s d) (equal_from (key_cmp (at r c) (at s d)) tie)))))
              | false ↦ λ _. none_in_column c d es
            ] refl
      ] refl

  pub none_in_all : (c : List ℕ) (cols : List (List ℕ × List (ℕ × Number))) → find key_cmp (at r c) (all_cells name cols) ≡ None
  none_in_all c [] = refl
  none_in_all c (col ∷ cols) = grind (arith, none_in_all c cols, find-two, at, or_else, none_in_column)

-- Each row keeps its name under its final number, and no other row has a name. Each column keeps its coefficients under the
-- final numbers.
pub record AreRenumbered (name later : ℕ → Option (List ℕ)) (rank : ℕ →
    ℕ) (cols moved : List (List ℕ × List (ℕ × Number))) : Type 0 where
  pub apart : IsInjective name
  pub apart_later : IsInjective later
  pub named : (r : List ℕ) → ((n : ℕ) × (name n ≡ Some r)) ⊎ ((n : ℕ) → name n ≡ Some r → ⊥)
  pub keeps : (n : ℕ) (r : List ℕ) → name n ≡ Some r → later (rank n) ≡ Some r
  pub adds_none : (m : ℕ) (r : List ℕ) → later m ≡ Some r → (n : ℕ) × (name n ≡ Some r)
  pub once : IsOnce cols
  pub once_later : IsOnce moved
  pub cells : (n : ℕ) (r c : List ℕ) → name n ≡ Some r → option_and_then (find nat_cmp (rank n)) (find bytes_cmp c moved)
      ≡ unless_zero (option_and_then (find nat_cmp n) (find bytes_cmp c cols))

pub renumbered : (name later : ℕ → Option (List ℕ)) (rank : ℕ → ℕ) (cols moved : List (List ℕ × List (ℕ × Number))) →
    AreRenumbered name later rank cols moved →
    sorted_of key_cmp (all_cells later moved) ≡ filter is_kept (sorted_of key_cmp (all_cells name cols))
renumbered name later rank cols moved a =
    let old = all_cells name cols in
    let new = all_cells later moved in
    let old_sorted = true_from (is_sorted key_cmp (sorted_of key_cmp old)) (is_sorted-sorted_of key_cmp key_total old) in
    let kept = filter is_kept (sorted_of key_cmp old) in
    same_entries key_cmp key_total same_key (sorted_of key_cmp new) kept
    (is_sorted-sorted_of key_cmp key_total new)
    (T_from (is_sorted key_cmp kept) (is_sorted-filter key_cmp key_total is_kept (sorted_of key_cmp old) old_sorted))
    (λ q.
    find-sorted_of key_cmp key_total q new
    ∙ elim (a.named q.row) as (λ _. find key_cmp q new ≡ unless_zero (find key_cmp q old)) [
      | inl n ↦
          find-all_cells later a.apart_later (rank n.0) q.row q.column moved (a.keeps n.0 q.row n.1) a.once_later
          ∙ a.cells n.0 q.row q.column n.1
          ∙ ap unless_zero (sym (find-all_cells name a.apart n.0 q.row q.column cols n.1 a.once))
      | inr nameless ↦
          none_in_all later q.row (λ m is. let old = a.adds_none m q.row is in nameless old.0 old.1) q.column moved
          ∙ ap unless_zero (sym (none_in_all name q.row nameless q.column cols))
    ]
    ∙ sym (find-filter key_cmp key_total (λ (v : Number). not (is_zero v)) q (sorted_of key_cmp old)
    (once-sorted key_cmp key_total (sorted_of key_cmp old) old_sorted) ∙ ap unless_zero (find-sorted_of key_cmp key_total q old)))
