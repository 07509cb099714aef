-- Coefficients by row number, put one after another, in any order, and sorted: what is found at a place.
pub use Rattle.mpslp_model_core.specs.KeyOrder.{key_total}
use Rattle.std.proofs.Common.{arith, ◌≡◌, ℕ, List, refl, ap, [], ◌∷◌, ◌++◌, Bool, true, false, cond, sym, ◌∙◌, rules, zero, suc, ◌<◌}
use Rattle.std.proofs.{Common.{length, get_or, set, swap, IsPermutation, subst, ◌≤◌}, Math.Dec.T}
use Rattle.std.proofs.lemmas.List.Sorted.{IsPermutation-keeps, IsPermutation-refl, IsPermutation-cons, IsPermutation-trans}
use Rattle.std.proofs.lemmas.List.Sorted.{IsPermutation-swap, IsPermutation-append_left, sorted_far, ranks_by}
use Rattle.std.specs.Cmp.{IsTotalOrder, first_so, second_so, eq_by_cmp_equiv, tied_itself, Lexicographic.nat_list_cmp_total}
use Rattle.std.specs.Ordering.{ordering_then, is_eq, is_lt, eq_by_cmp, nat_cmp}
use Rattle.std.specs.declared.cmp.Ordering.{Ordering, TheVariants.{Equal, Less, Greater}}
use Rattle.std.specs.FinMap.{slice_cmp-IsAntisymmetric, nat_cmp-IsAntisymmetric, find, put, is_sorted}
use Rattle.std.specs.FinMap.Entries.{find-put, same_entries, is_sorted-put, below_all, find-append, by_order, find_tied}
use Rattle.std.specs.{Prelude.{Option, Some, is_some, ◌&&◌, None, ◌||◌, filter, map}, Option.{option_map_or, option_and_then}, Map.lookup}
use Rattle.std.specs.List.{AllByRecursion, Sorted.{IsSortedBy, IsStrictlySortedBy}}
use Rattle.mpslp_decimal.specs.Decimal.{Number}
use Rattle.mpslp_types.{specs.Name.bytes_cmp, proofs.{BoolLemmas.{true_from, T_from, both_so}, EachLemmas.Each}}
use Rattle.mpslp_model_core.specs.Model.{CoefficientKey, key_cmp}
use Rattle.mpslp_model_core.specs.Numbered.{sorted_of, column_cells, all_cells, IsInjective, IsOnce, IsOnceBy}
use Rattle.std.specs.declared.cmp.Ordering.TheVariants as orders

-- ---- the orders of names and of keys of coefficients

pub bytes_total : IsTotalOrder bytes_cmp
bytes_total = nat_list_cmp_total

-- names that compare as equal are the same
pub tied_names : (a b : List ℕ) → bytes_cmp a b ≡ orders.Equal → a ≡ b
tied_names = slice_cmp-IsAntisymmetric nat_cmp-IsAntisymmetric

then_first : (a b : Ordering) → ordering_then a b ≡ orders.Equal → a ≡ orders.Equal
then_first = grind arith

then_second : (a b : Ordering) → ordering_then a b ≡ orders.Equal → b ≡ orders.Equal
then_second = grind arith

-- keys that compare as equal are the same
pub same_key : (a b : CoefficientKey) → key_cmp a b ≡ orders.Equal → a ≡ b
same_key a b h = let columns =
    tied_names a.column b.column (then_first (bytes_cmp a.column b.column) (bytes_cmp a.row b.row) h) in
    let rows = tied_names a.row b.row (then_second (bytes_cmp a.column b.column) (bytes_cmp a.row b.row) h) in grind arith

-- ---- entries put one after another, in any order and any number of times

-- equality, by its test
pub equal_from : (r : Ordering) → is_eq r ≡ true → r ≡ Equal
equal_from = grind arith

none_is : false ≡ true → ⊥
none_is e = cc

module _ {K : Type 0} (R : K → K → Ordering) (o : IsTotalOrder R) (same : (x y : K) → R x y ≡ Equal → x ≡ y) where
  tied : (k : K) → eq_by_cmp R k k ≡ true
  tied = grind arith

  apart : (k q : K) (r : Ordering) → R k q ≡ r → is_lt r ≡ true → eq_by_cmp R q k ≡ true → ⊥
  apart = grind arith

module _ {K X : Type 0} (R : K → K → Ordering) where
  -- entries put one after another
  abbrev pub puts : List (K × X) → List (K × X) → List (K × X)
  puts [] base = base
  puts (e ∷ es) base = puts es (put R e.0 e.1 base)

  pub puts-append : (xs ys base : List (K × X)) → puts (xs ++ ys) base ≡ puts ys (puts xs base)
  puts-append [] ys base = refl
  puts-append (x ∷ xs) ys base = puts-append xs ys (put R x.0 x.1 base)

  -- what is found in the first is found in the second too
  abbrev pub IsPartOf : List (K × X) → List (K × X) → Type 0
  IsPartOf base target = (q : K) (x : X) → find R q base ≡ Some x → find R q target ≡ Some x

  module _ (o : IsTotalOrder R) (same : (x y : K) → R x y ≡ Equal → x ≡ y) where
    -- sorted entries stay sorted
    pub is_sorted-puts : (es base : List (K × X)) → T (is_sorted R base) → T (is_sorted R (puts es base))
    is_sorted-puts [] base h = h
    is_sorted-puts (e ∷ es) base h = grind (arith, is_sorted-puts es (put R e.0 e.1 base), is_sorted-put)

    part_put : (target : List (K × X)) (k : K) (v : X) (base : List (K × X)) → find R k target ≡ Some v → IsPartOf base target
        → IsPartOf (put R k v base) target
    part_put = grind (arith, find-put, equal_from)

    part_puts : (target es base : List (K × X)) → Each (λ e. find R e.0 target ≡ Some e.1) es → IsPartOf base target →
        IsPartOf (puts es base) target
    part_puts target [] base h part = part
    part_puts target (e ∷ es) base h part = grind (arith, part_puts target es (put R e.0 e.1 base) h.1, part_put)

    kept_put : (q k : K) (v : X) (base : List (K × X)) → is_some (find R q base) ≡ true →
        is_some (find R q (put R k v base)) ≡ true
    kept_put = grind (arith, find-put)

    kept_puts : (q : K) (es base : List (K × X)) → is_some (find R q base) ≡ true → is_some (find R q (puts es base)) ≡ true
    kept_puts q [] base h = h
    kept_puts q (e ∷ es) base h = kept_puts q es (put R e.0 e.1 base) (kept_put q e.0 e.1 base h)

    here_put : (q k : K) (v : X) (base : List (K × X)) → eq_by_cmp R q k ≡ true → is_some (find R q (put R k v base)) ≡ true
    here_put = grind (arith, find-put)

    -- what is among the entries is found after they are put
    some_puts : (q : K) (es base : List (K × X)) → is_some (find R q es) ≡ true → is_some (find R q (puts es base)) ≡ true
    some_puts q [] base h = cc
    some_puts q (e ∷ es) base h = grind (arith, some_puts q es (put R e.0 e.1 base), kept_puts, here_put)

    -- each key of a list that is found in another
    some_in : (q : K) (target es : List (K × X)) → Each (λ e. is_some (find R e.0 es) ≡ true) target →
        is_some (find R q target) ≡ true → is_some (find R q es) ≡ true
    some_in q [] es h found = cc
    some_in q (e ∷ target) es h found = grind (arith, some_in q target es h.1)

    alike : (a b : Option X) → ((x : X) → a ≡ Some x → b ≡ Some x) → (is_some b ≡ true → is_some a ≡ true) → a ≡ b
    alike = grind arith

    -- Entries that all are those of the target, and have all of its keys, make the target.
    pub puts-give : (target es : List (K × X)) → T (is_sorted R target) → Each (λ e. find R e.0 target ≡ Some e.1) es
        → Each (λ e. is_some (find R e.0 es) ≡ true) target → puts es [] ≡ target
    puts-give target es sorted own all =
        grind (
          arith,
          same_entries R o same (puts es []) target,
          is_sorted-puts es [],
          part_puts target es [] own,
          alike,
          some_puts,
          some_in,
        )

    -- the key of an entry in a list is found there
    pub find-front : (k : K) (v : X) (es : List (K × X)) → is_some (find R k ((k, v) ∷ es)) ≡ true
    find-front = grind arith

    -- a key that is found among some entries is found among more
    pub some_cons : (q k : K) (v : X) (es : List (K × X)) → is_some (find R q es) ≡ true → is_some (find R q ((k, v) ∷ es)) ≡ true
    some_cons = grind arith

    pub some_append_left : (q : K) (xs ys : List (K × X)) → is_some (find R q xs) ≡ true → is_some (find R q (xs ++ ys)) ≡ true
    some_append_left q [] ys h = cc
    some_append_left q (x ∷ xs) ys h = grind (arith, some_append_left q xs ys)

    pub some_append_right : (q : K) (xs ys : List (K × X)) → is_some (find R q ys) ≡ true → is_some (find R q (xs ++ ys)) ≡ true
    some_append_right q [] ys h = h
    some_append_right q (x ∷ xs) ys h = grind (arith, some_append_right q xs ys h)

    -- a sorted list finds each entry of its own
    pub finds_own : (es : List (K × X)) → T (is_sorted R es) → Each (λ e. find R e.0 es ≡ Some e.1) es
    finds_own [] h = tt
    finds_own (e ∷ es) h = let below =
        first_so (below_all R e.0 es) (is_sorted R es) (true_from (below_all R e.0 es && is_sorted R es) h) in
        let rest = finds_own es (T_from (is_sorted R es)
        (second_so (below_all R e.0 es) (is_sorted R es) (true_from (below_all R e.0 es && is_sorted R es) h))) in
        (ap (λ (b : Bool). cond b (Some e.1) (find R e.0 es)) (tied R o same e.0), keep e es es below rest)
      where
        past : (e d : K × X) (es : List (K × X)) → (eq_by_cmp R d.0 e.0 ≡ true → ⊥) → find R d.0 es ≡ Some d.1 →
            find R d.0 (e ∷ es) ≡ Some d.1
        past e d es isnt is = by (eq_by_cmp R d.0 e.0) refl
          where
            by : (b : Bool) → eq_by_cmp R d.0 e.0 ≡ b → cond b (Some e.1) (find R d.0 es) ≡ Some d.1
            by true t = absurd (isnt t)
            by false t = is

        keep : (e : K × X) (es ds : List (K × X)) → below_all R e.0 ds ≡ true → Each (λ d. find R d.0 es ≡ Some d.1) ds
            → Each (λ d. find R d.0 (e ∷ es) ≡ Some d.1) ds
        keep e es [] below rest = tt
        keep e es (d ∷ ds) below rest = (
          past e d es (apart R o same e.0 d.0 (R e.0 d.0) refl (first_so (is_lt (R e.0 d.0)) (below_all R e.0 ds) below)) rest.0,
          keep e es ds (second_so (is_lt (R e.0 d.0)) (below_all R e.0 ds) below) rest.1,
        )

-- ---- entries in any order, and the sorted map of them

module _ {K X : Type 0} (R : K → K → Ordering) (o : IsTotalOrder R) where
  -- what is found in the map is the first such entry
  pub find-sorted_of : (q : K) (es : List (K × X)) → find R q (sorted_of R es) ≡ find R q es
  find-sorted_of q [] = refl
  find-sorted_of q (e ∷ es) = grind (arith, find-sorted_of q es, find-put)

  pub is_sorted-sorted_of : (es : List (K × X)) → T (is_sorted R (sorted_of R es))
  is_sorted-sorted_of [] = tt
  is_sorted-sorted_of (e ∷ es) = grind (arith, is_sorted-sorted_of es, is_sorted-put)

  module _ (same : (x y : K) → R x y ≡ Equal → x ≡ y) where
    -- lists in which the same entries are found make the same map
    pub sorted_of-alike : (es fs : List (K × X)) → ((q : K) → find R q es ≡ find R q fs) → sorted_of R es ≡ sorted_of R fs
    sorted_of-alike es fs h = grind (arith, same_entries, is_sorted-sorted_of es, is_sorted-sorted_of fs, find-sorted_of)

    -- a list in which one more entry is found makes the map with that entry
    pub sorted_of-put : (k : K) (v : X) (es fs : List (K × X)) →
        ((q : K) → find R q es ≡ cond (eq_by_cmp R q k) (Some v) (find R q fs)) → sorted_of R es ≡ put R k v (sorted_of R fs)
    sorted_of-put k v es fs h = same_entries R o same (sorted_of R es) (put R k v (sorted_of R fs)) (is_sorted-sorted_of es)
        (is_sorted-put R o k v (sorted_of R fs) (is_sorted-sorted_of fs)) (λ q. find-sorted_of q es ∙ h q
        ∙ ap (cond (eq_by_cmp R q k) (Some v)) (sym (find-sorted_of q fs)) ∙ sym (find-put R o q k v (sorted_of R fs)))

    -- a new entry at the end
    pub sorted_of-append : (k : K) (v : X) (es : List (K × X)) → find R k es ≡ None →
        sorted_of R (es ++ (k, v) ∷ []) ≡ put R k v (sorted_of R es)
    sorted_of-append = grind (arith, sorted_of-put, find-append)

    -- a sorted list is its own map
    pub sorted_of-sorted : (es : List (K × X)) → T (is_sorted R es) → sorted_of R es ≡ es
    sorted_of-sorted es h = grind (arith, same_entries, is_sorted-sorted_of es, find-sorted_of)

-- ---- coefficients by row number: what is found at a place

-- ---- equal keys

abbrev pub at : List ℕ → List ℕ → CoefficientKey
at row column = record { row = row; column = column }

-- the first if there is one, otherwise the second
abbrev pub or_else : {X : Type 0} → Option X → Option X → Option X
or_else None b = b
or_else (Some x) b = Some x

pub name_tied : (a b : List ℕ) → a ≡ b → eq_by_cmp bytes_cmp a b ≡ true
name_tied = grind (arith, bytes_total)

pub number_tied : (n m : ℕ) → n ≡ m → eq_by_cmp nat_cmp n m ≡ true
number_tied = grind arith

pub number_same : (n m : ℕ) → eq_by_cmp nat_cmp n m ≡ true → n ≡ m
number_same = grind arith

pub name_same : (a b : List ℕ) → eq_by_cmp bytes_cmp a b ≡ true → a ≡ b
name_same = grind (arith, tied_names, equal_from)

then_eq : (a b : Ordering) → is_eq a ≡ true → is_eq (ordering_then a b) ≡ is_eq b
then_eq = grind arith

-- places in one column are equal if and only if their rows are
in_column : (r s c : List ℕ) → eq_by_cmp key_cmp (at r c) (at s c) ≡ eq_by_cmp bytes_cmp r s
in_column = grind (arith, then_eq, bytes_total)

shadowed : {X : Type 0} (b : Bool) (x y z : X) → cond b x z ≡ cond b x (cond b y z)
shadowed = grind arith

pub swapped : {X : Type 0} (a b : Bool) (x y z : X) → (a ≡ true → b ≡ true → ⊥) → cond a x (cond b y z) ≡ cond b y (cond a x z)
swapped = grind arith

-- ---- entries one list after another

pub find-two : {K X : Type 0} (R : K → K → Ordering) (q : K) (xs ys : List (K × X)) →
    find R q (xs ++ ys) ≡ or_else (find R q xs) (find R q ys)
find-two R q [] ys = refl
find-two {K} {X} R q (x ∷ xs) ys = grind (arith, find-two R q xs ys)

or_none : {X : Type 0} (a : Option X) → or_else a None ≡ a
or_none = grind arith

pub first_none : {X : Type 0} (a b : Option X) → or_else a b ≡ None → a ≡ None
first_none = grind arith

pub clear : {X : Type 0} (a b : Option X) → or_else a b ≡ None → b ≡ None
clear = grind arith

-- ---- numbers that identify rows

module _ (name : ℕ → Option (List ℕ)) (apart : IsInjective name) where
  same_row : (n m : ℕ) (r s : List ℕ) → name n ≡ Some r → name m ≡ Some s → eq_by_cmp bytes_cmp r s ≡ eq_by_cmp nat_cmp n m
  same_row = grind (arith, number_tied, name_same, number_same, name_tied)

  not_named : (n m : ℕ) (r : List ℕ) → name n ≡ Some r → name m ≡ None → eq_by_cmp nat_cmp n m ≡ false
  not_named = grind arith

  -- what is found at a row of the column is the value at its number
  pub find-column_cells : (n : ℕ) (r c : List ℕ) (es : List (ℕ × Number)) → name n ≡ Some r
      → find key_cmp (at r c) (column_cells name c es) ≡ find nat_cmp n es
  find-column_cells n r c [] p = refl
  find-column_cells n r c (e ∷ es) p = grind (arith, find-column_cells n r c es p, not_named, in_column, same_row)

  -- nothing is found in another column
  pub find-other_column : (q : CoefficientKey) (c : List ℕ) (es : List (ℕ × Number)) → eq_by_cmp bytes_cmp q.column c ≡ false
      → find key_cmp q (column_cells name c es) ≡ None
  find-other_column q c [] h = refl
  find-other_column q c (e ∷ es) h = grind (arith, find-other_column q c es h)

  -- a value that is put at a number is found at its row
  pub find-put_cell : (q : CoefficientKey) (n : ℕ) (v : Number) (r c : List ℕ) (es : List (ℕ × Number)) →
      name n ≡ Some r → find key_cmp q (column_cells name c (put nat_cmp n v es)) ≡ cond (eq_by_cmp key_cmp q (at r c))
      (Some v) (find key_cmp q (column_cells name c es))
  find-put_cell q n v r c [] p = grind arith
  find-put_cell q n v r c (e ∷ es) p =
      let rest = column_cells name c es in
      let here : Option (List ℕ) → List (CoefficientKey × Number) = λ o. option_map_or (λ row. (at row c, e.1) ∷ rest) o rest in
      elim (nat_cmp n e.0) as (λ w. nat_cmp n e.0 ≡ w →
      find key_cmp q (column_cells name c (by_order w ((n, v) ∷ e ∷ es) ((e.0, v) ∷ es) (e ∷ put nat_cmp n v es))) ≡
      cond (eq_by_cmp key_cmp q (at r c)) (Some v) (find key_cmp q (here (name e.0)))) [
        | Less ↦ λ _. ap
            (λ (o : Option (List ℕ)). find key_cmp q
            (option_map_or (λ row. (at row c, v) ∷ here (name e.0)) o (here (name e.0)))) p
        | Equal ↦ λ tie.
            let named : name e.0 ≡ Some r = ap name (sym (nat_cmp-IsAntisymmetric n e.0 tie)) ∙ p in
            ap (λ (o : Option (List ℕ)). find key_cmp q (option_map_or (λ row. (at row c, v) ∷ rest) o rest)) named
            ∙ shadowed (eq_by_cmp key_cmp q (at r c)) (Some v) (Some e.1) (find key_cmp q rest)
            ∙ ap (λ (o : Option (List ℕ)). cond (eq_by_cmp key_cmp q (at r c)) (Some v) (find key_cmp q (here o))) (sym named)
        | Greater ↦ λ tie.
            let after = column_cells name c (put nat_cmp n v es) in
            elim (name e.0) as (λ o. name e.0 ≡ o → find key_cmp q (option_map_or (λ row. (at row c, e.1) ∷ after) o after)
            ≡ cond (eq_by_cmp key_cmp q (at r c)) (Some v) (find key_cmp q (here o))) [
              | None ↦ λ _. find-put_cell q n v r c es p
              | Some s ↦ λ named.
                  ap (cond (eq_by_cmp key_cmp q (at s c)) (Some e.1)) (find-put_cell q n v r c es p)
                  ∙ swapped (eq_by_cmp key_cmp q (at s c)) (eq_by_cmp key_cmp q (at r c)) (Some e.1) (Some v)
                  (find key_cmp q rest) (λ a b.
                  let joined : eq_by_cmp key_cmp (at r c) (at s c) ≡ true =
                  ap is_eq (sym (key_total.congr q (at r c) (at s c) (equal_from (key_cmp q (at r c)) b))) ∙ a in
                  let same : is_eq (nat_cmp n e.0) ≡ true = sym (in_column r s c ∙ same_row n e.0 r s p named) ∙ joined in
                  let no : is_eq Greater ≡ true = ap is_eq (sym tie) ∙ same in
                  cc)
            ] refl
      ] refl

  -- ---- all columns

  -- at a row of a column that occurs only once
  pub find-all_cells : (n : ℕ) (r c : List ℕ) (cols : List (List ℕ × List (ℕ × Number))) → name n ≡ Some r → IsOnce cols
      → find key_cmp (at r c) (all_cells name cols) ≡ option_and_then (find nat_cmp n) (find bytes_cmp c cols)
  find-all_cells n r c [] p once = refl
  find-all_cells n r c (col ∷ cols) p once =
      grind (
        arith,
        find-all_cells n r c cols p once.1,
        find-two key_cmp (at r c) (column_cells name col.0 col.1) (all_cells name cols),
        name_same c col.0,
        find-column_cells n r c col.1 p,
        or_none (find key_cmp (at r c) (column_cells name col.0 col.1)),
        find-other_column (at r c) col.0 col.1,
      )

-- ---- a map in two parts

some_of : {A : Type 0} (a b : Option A) → is_some (or_else a b) ≡ (is_some a || is_some b)
some_of = grind arith

pub or_left : (a b r : Bool) → r ≡ a → r ≡ true → r ≡ (a || b)
or_left = grind arith

pub or_right : (a b r : Bool) → false ≡ a → r ≡ b → r ≡ (a || b)
or_right = grind arith

pub lookup_is_find : {K X : Type 0} (R : K → K → Ordering) (q : K) (es : List (K × X)) →
    lookup (λ k. is_eq (R q k)) es ≡ find R q es
lookup_is_find R q [] = refl
lookup_is_find R q (e ∷ es) = grind (arith, lookup_is_find R q es)

module _ {K X : Type 0} (R : K → K → Ordering) (o : IsTotalOrder R) where
  of_two : (q : K) (xs ys : List (K × X)) → find R q (sorted_of R (xs ++ ys)) ≡ or_else (find R q xs) (find R q ys)
  of_two = grind (arith, find-sorted_of, find-two)

  -- what is in one of the parts is in the map
  pub has_two : (q : K) (xs ys : List (K × X)) →
      is_some (find R q (sorted_of R (xs ++ ys))) ≡ (is_some (find R q xs) || is_some (find R q ys))
  has_two = grind (arith, of_two, some_of)

  none_of_two : (q : K) (xs ys : List (K × X)) → find R q (sorted_of R (xs ++ ys)) ≡ None →
      or_else (find R q xs) (find R q ys) ≡ None
  none_of_two = grind (arith, of_two)

  pub absent_first : (q : K) (xs ys : List (K × X)) → find R q (sorted_of R (xs ++ ys)) ≡ None → find R q xs ≡ None
  absent_first q xs ys h = search (rules, first_none, none_of_two)

  module _ (same : (x y : K) → R x y ≡ Equal → x ≡ y) where
    -- an entry that is put into the first part
    pub put_first : (k : K) (v : X) (xs zs ys : List (K × X)) → zs ≡ put R k v xs →
        sorted_of R (zs ++ ys) ≡ put R k v (sorted_of R (xs ++ ys))
    put_first = grind (arith, sorted_of-put, find-two, or_else, find-put)

    -- an entry that is put into the second part, and is in neither
    pub put_second : (k : K) (v : X) (xs ys zs : List (K × X))
        → ((q : K) → lookup (λ x. is_eq (R q x)) zs ≡ cond (is_eq (R k q)) (Some v) (lookup (λ x. is_eq (R q x)) ys))
        → find R k (sorted_of R (xs ++ ys)) ≡ None → sorted_of R (xs ++ zs) ≡ put R k v (sorted_of R (xs ++ ys))
    put_second = grind (
      arith,
      sorted_of-put,
      find-two,
      or_else,
      lookup_is_find,
      eq_by_cmp_equiv,
      find_tied,
      equal_from,
      absent_first,
    )

-- ---- a property that exchanges of neighbours keep is kept by permutations

-- A relation holds for each permutation if it is reflexive and transitive, and if it is kept under a common head and under an
-- exchange of the first two items.
module _ {X : Type 0} (R : List X → List X → Type 0) (same : (xs : List X) → R xs xs)
    (skip : (x : X) (xs ys : List X) → R xs ys → R (x ∷ xs) (x ∷ ys))
    (turn : (x y : X) (xs : List X) → R (x ∷ y ∷ xs) (y ∷ x ∷ xs))
    (chain : (xs ys zs : List X) → R xs ys → R ys zs → R xs zs) where
  to_head : (xs : List X) (j : ℕ) (x d : X) → j < length xs → R (x ∷ xs) (get_or xs j d ∷ set xs j x)
  to_head [] j x d h = absurd (omega arith)
  to_head (y ∷ xs) zero x d h = turn x y xs
  to_head (y ∷ xs) (suc j) x d h =
      chain _ _ _ (turn x y xs) (chain _ _ _ (skip y _ _ (to_head xs j x d (omega arith))) (turn y (get_or xs j d) (set xs j x)))

  exchanged : (xs : List X) (i j : ℕ) (d : X) → i < length xs → j < length xs →
      R xs (set (set xs i (get_or xs j d)) j (get_or xs i d))
  exchanged [] i j d p q = absurd (omega arith)
  exchanged (x ∷ xs) zero zero d p q = same (x ∷ xs)
  exchanged (x ∷ xs) zero (suc j) d p q = grind (arith, to_head)
  exchanged (x ∷ xs) (suc i) zero d p q = grind (arith, to_head)
  exchanged (x ∷ xs) (suc i) (suc j) d p q = grind (arith, exchanged xs i j d)

  swapped_permutation : (xs : List X) (i j : ℕ) → i < length xs → j < length xs → R xs (swap xs i j)
  swapped_permutation [] i j p q = same []
  swapped_permutation (x ∷ xs) i j p q = exchanged (x ∷ xs) i j x p q

  -- a relation that is kept by one exchange is kept by a permutation
  pub along_permutation : (xs ys : List X) → IsPermutation xs ys → R xs ys
  along_permutation xs = IsPermutation-keeps xs (R xs) (same xs) (λ l i j p q h. chain xs l _ h (swapped_permutation l i j p q))

-- ---- entries with distinct keys: what is found does not depend on their order

pub passed : {X : Type 0} (b : Bool) (v : X) (o : Option X) → cond b (Some v) o ≡ None → (b ≡ false) × (o ≡ None)
passed = grind arith

pub two_heads : {X : Type 0} (x y : X) (xs : List X) → IsPermutation (x ∷ y ∷ xs) (y ∷ x ∷ xs)
two_heads x y xs = IsPermutation-swap (x ∷ y ∷ xs) (y ∷ x ∷ xs) 0 1 (omega arith) (omega arith) refl

-- ---- parts of a list in another order

pub filter-permutation : {X : Type 0} (p : X → Bool) (xs ys : List X) → IsPermutation xs ys →
    IsPermutation (filter p xs) (filter p ys)
filter-permutation {X} p = along_permutation (λ xs ys. IsPermutation (filter p xs) (filter p ys))
    (λ xs. IsPermutation-refl (filter p xs)) skip turn (λ xs ys zs. IsPermutation-trans (filter p xs) (filter p ys) (filter p zs))
  where
    skip : (x : X) (xs ys : List X) → IsPermutation (filter p xs) (filter p ys) →
        IsPermutation (filter p (x ∷ xs)) (filter p (x ∷ ys))
    skip x xs ys h =
        elim (p x) as (λ b. IsPermutation (cond b (x ∷ filter p xs) (filter p xs)) (cond b (x ∷ filter p ys) (filter p ys))) [
          | true ↦ IsPermutation-cons x (filter p xs) (filter p ys) h
          | false ↦ h
        ]

    turn : (x y : X) (xs : List X) → IsPermutation (filter p (x ∷ y ∷ xs)) (filter p (y ∷ x ∷ xs))
    turn x y xs =
        let rest = filter p xs in
        elim (p x) as (λ a. IsPermutation (cond a (x ∷ cond (p y) (y ∷ rest) rest) (cond (p y) (y ∷ rest) rest))
        (cond (p y) (y ∷ cond a (x ∷ rest) rest) (cond a (x ∷ rest) rest))) [
          | true ↦ elim (p y) as (λ b. IsPermutation (x ∷ cond b (y ∷ rest) rest) (cond b (y ∷ x ∷ rest) (x ∷ rest))) [
            | true ↦ two_heads x y rest
            | false ↦ IsPermutation-refl (x ∷ rest)
          ]
          | false ↦ IsPermutation-refl (cond (p y) (y ∷ rest) rest)
        ]

-- ---- keys that strictly ascend

rising_once : {K X : Type 0} (R : K → K → Ordering) (k : K) (es : List (K × X)) →
    AllByRecursion (λ q. R k q ≡ Less) (map (λ e. e.0) es) → find R k es ≡ None
rising_once R k [] h = refl
rising_once R k (e ∷ es) h = grind (arith, rising_once R k es h.1)

pub once-from_rising : {K X : Type 0} (R : K → K → Ordering) (es : List (K × X)) →
    IsStrictlySortedBy R (map (λ e. e.0) es) → IsOnceBy R es
unfolding IsStrictlySortedBy
once-from_rising R [] h = tt
once-from_rising R (e ∷ es) h = grind (arith, once-from_rising R es h.1, rising_once)

-- ---- lists that do not descend

-- no item is below an earlier one
abbrev pub NeverFalls : {X : Type 0} → (X → X → Bool) → List X → Type 0
NeverFalls lt [] = Unit {0}
NeverFalls lt (x ∷ xs) = Each (λ y. lt y x ≡ false) xs × NeverFalls lt xs

never_below : {X : Type 0} (lt : X → X → Bool) (x : X) (xs : List X) →
    ((j : ℕ) (d : X) → j < length xs → lt (get_or xs j d) x ≡ false) → Each (λ y. lt y x ≡ false) xs
never_below lt x [] h = tt
never_below lt x (y ∷ xs) h = (h zero y (omega arith), never_below lt x xs (λ j d l. h (suc j) d (omega arith)))

never_falls : {X : Type 0} (lt : X → X → Bool) (xs : List X)
    → ((i j : ℕ) (d : X) → i ≤ j → j < length xs → lt (get_or xs j d) (get_or xs i d) ≡ false) → NeverFalls lt xs
never_falls lt [] h = tt
never_falls lt (x ∷ xs) h = (
  never_below lt x xs (λ j d l. h zero (suc j) d (omega arith) (omega arith)),
  never_falls lt
      xs (λ i j d w l. h (suc i) (suc j) d (omega arith) (omega arith)),
)

-- the result of a sort by keys
pub never_falls-from_sort : {K X : Type 0} {R : K → K → Ordering} (o : IsTotalOrder R) (key : X → K) (xs : List X)
    → IsSortedBy (λ x y. is_lt (R (key x) (key y))) xs → NeverFalls (λ x y. is_lt (R (key x) (key y))) xs
never_falls-from_sort {R = R} o key xs h =
    never_falls (λ x y. is_lt (R (key x) (key y))) xs (sorted_far (λ x y. is_lt (R (key x) (key y))) (ranks_by o key) xs h)

module _ {K X : Type 0} (R : K → K → Ordering) (o : IsTotalOrder R) where
  -- ---- what is found

  record AreAlike (xs ys : List (K × X)) : Type 0 where
    once : IsOnceBy R xs → IsOnceBy R ys
    found : IsOnceBy R xs → (q : K) → find R q xs ≡ find R q ys

  alike-skip : (x : K × X) (xs ys : List (K × X)) → AreAlike xs ys → AreAlike (x ∷ xs) (x ∷ ys)
  alike-skip = grind arith

  alike-turn : (x y : K × X) (xs : List (K × X)) → AreAlike (x ∷ y ∷ xs) (y ∷ x ∷ xs)
  alike-turn = grind arith

  all-alike : (xs ys : List (K × X)) → IsPermutation xs ys → AreAlike xs ys
  all-alike = along_permutation AreAlike (λ xs. record { once = λ h. h; found = λ h q. refl }) alike-skip alike-turn
      (λ xs ys zs a b. record { once = λ h. b.once (a.once h); found = λ h q. a.found h q ∙ b.found (a.once h) q })

  pub once-permutation : (xs ys : List (K × X)) → IsPermutation xs ys → IsOnceBy R xs → IsOnceBy R ys
  once-permutation xs ys p = (all-alike xs ys p).once

  pub find-permutation : (xs ys : List (K × X)) → IsPermutation xs ys → IsOnceBy R xs → (q : K) → find R q xs ≡ find R q ys
  find-permutation xs ys p = (all-alike xs ys p).found

  -- an entry at a new key is put between the others
  pub put-permutation : (k : K) (v : X) (es : List (K × X)) → find R k es ≡ None → IsPermutation ((k, v) ∷ es) (put R k v es)
  put-permutation k v [] h = IsPermutation-refl _
  put-permutation k v (e ∷ es) h =
      let first = passed (eq_by_cmp R k e.0) e.1 (find R k es) h in
      elim (R k e.0) as (λ w. R k e.0 ≡ w
      → IsPermutation ((k, v) ∷ e ∷ es) (by_order w ((k, v) ∷ e ∷ es) ((e.0, v) ∷ es) (e ∷ put R k v es))) [
        | Less ↦ λ _. IsPermutation-refl ((k, v) ∷ e ∷ es)
        | Equal ↦ λ is. let tie : eq_by_cmp R k e.0 ≡ true = ap is_eq is in
            let none : eq_by_cmp R k e.0 ≡ false = first.0 in absurd cc
        | Greater ↦ λ _. IsPermutation-trans ((k, v) ∷ e ∷ es) (e ∷ (k, v) ∷ es) (e ∷ put R k v es) (two_heads (k, v) e es)
            (IsPermutation-cons e ((k, v) ∷ es) (put R k v es) (put-permutation k v es first.1))
      ] refl

  pub sorted_of-permutation : (es : List (K × X)) → IsOnceBy R es → IsPermutation es (sorted_of R es)
  sorted_of-permutation [] h = IsPermutation-refl []
  sorted_of-permutation (e ∷ es) h = IsPermutation-trans (e ∷ es) (e ∷ sorted_of R es) (put R e.0 e.1 (sorted_of R es))
      (IsPermutation-cons e es (sorted_of R es) (sorted_of-permutation es h.1))
      (put-permutation e.0 e.1 (sorted_of R es) (find-sorted_of R o e.0 es ∙ h.0))

  -- ---- sorted entries

  all_above : (k : K) (es : List (K × X)) → find R k es ≡ None → Each (λ e. is_lt (R e.0 k) ≡ false) es → below_all R k es ≡ true
  all_above k [] none h = refl
  all_above k (e ∷ es) none h = grind (arith, all_above k es)

  -- entries with distinct keys that do not descend are sorted
  pub is_sorted-once : (es : List (K × X)) → IsOnceBy R es → NeverFalls (λ e d. is_lt (R e.0 d.0)) es → is_sorted R es ≡ true
  is_sorted-once [] once h = refl
  is_sorted-once (e ∷ es) once h = grind (arith, is_sorted-once es once.1 h.1, both_so, all_above)

  -- entries sorted by key are the map of these entries in any order
  pub permuted-is_map : ((x y : K) → R x y ≡ Equal → x ≡ y) → (es fs : List (K × X)) → IsOnceBy R es → IsPermutation es fs
      → NeverFalls (λ e d. is_lt (R e.0 d.0)) fs → fs ≡ sorted_of R es
  permuted-is_map same es fs once p h =
      grind (
        arith,
        sorted_of-sorted,
        is_sorted-once,
        once-permutation es fs p once,
        sorted_of-alike R o same fs es,
        find-permutation es fs p once,
      )

  -- strictly ascending keys are distinct
  none_below : (k : K) (es : List (K × X)) → below_all R k es ≡ true → find R k es ≡ None
  none_below k [] h = refl
  none_below k (e ∷ es) h = grind (arith, none_below k es)

  pub once-sorted : (es : List (K × X)) → is_sorted R es ≡ true → IsOnceBy R es
  once-sorted [] h = tt
  once-sorted (e ∷ es) h = grind (arith, once-sorted es, none_below, first_so, second_so)

  -- two lists without a common key
  pub once-append : (xs ys : List (K × X)) → IsOnceBy R xs → IsOnceBy R ys →
      ((q : K) → is_some (find R q ys) ≡ true → find R q xs ≡ None) → IsOnceBy R (xs ++ ys)
  once-append [] ys a b h = b
  once-append (x ∷ xs) ys a b h = grind (arith, once-append xs ys a.1 b, find-two, or_else, passed, tied_itself)

  pub once-filter : (p : K × X → Bool) (es : List (K × X)) → IsOnceBy R es → IsOnceBy R (filter p es)
  once-filter p [] h = tt
  once-filter p (e ∷ es) h =
      elim (p e) as (λ b. IsOnceBy R (cond b (e ∷ filter p es) (filter p es))) [
        | true ↦ (none_kept e.0 es h.0, once-filter p es h.1)
        | false ↦ once-filter p es h.1
      ]
    where
      none_kept : (k : K) (es : List (K × X)) → find R k es ≡ None → find R k (filter p es) ≡ None
      none_kept k [] none = refl
      none_kept k (e ∷ es) none =
          let first = passed (eq_by_cmp R k e.0) e.1 (find R k es) none in
          elim (p e) as (λ b. find R k (cond b (e ∷ filter p es) (filter p es)) ≡ None) [
            | true ↦ ap (λ (b : Bool). cond b (Some e.1) (find R k (filter p es))) first.0 ∙ none_kept k es first.1
            | false ↦ none_kept k es first.1
          ]

  -- ---- entries that pass a test

  below-filter : (p : K × X → Bool) (k : K) (es : List (K × X)) → below_all R k es ≡ true → below_all R k (filter p es) ≡ true
  below-filter p k [] h = refl
  below-filter p k (e ∷ es) h = grind (arith, below-filter p k es)

  pub is_sorted-filter : (p : K × X → Bool) (es : List (K × X)) → is_sorted R es ≡ true → is_sorted R (filter p es) ≡ true
  is_sorted-filter p [] h = refl
  is_sorted-filter p (e ∷ es) h = grind (arith, is_sorted-filter p es, second_so, both_so, below-filter, first_so)

  -- the value that is found is the same, if it passes
  pub find-filter : (p : X → Bool) (q : K) (es : List (K × X)) → IsOnceBy R es
      → find R q (filter (λ e. p e.1) es) ≡ option_and_then (λ x. cond (p x) (Some x) None) (find R q es)
  find-filter p q [] h = refl
  find-filter p q (e ∷ es) h = grind (arith, find-filter p q es h.1)

  pub once-left : (xs ys : List (K × X)) → IsOnceBy R (xs ++ ys) → IsOnceBy R xs
  once-left [] ys h = tt
  once-left (x ∷ xs) ys h = grind (arith, once-left xs ys h.1, first_none, find-two)

  pub once-apart : (xs ys : List (K × X)) → IsOnceBy R (xs ++ ys) → (q : K) → is_some (find R q ys) ≡ true → find R q xs ≡ None
  once-apart [] ys h q there = refl
  once-apart (x ∷ xs) ys h q there = grind (arith, once-apart xs ys h.1 q there, clear, find-two, find_tied, equal_from)

  -- ---- two parts, to either of which an entry may be added

  pub once-put_first : (k : K) (v : X) (xs zs ys : List (K × X)) → zs ≡ put R k v xs → find R k (sorted_of R (xs ++ ys)) ≡ None
      → IsOnceBy R (xs ++ ys) → IsOnceBy R (zs ++ ys)
  once-put_first k v xs zs ys is absent h = let none : find R k (xs ++ ys) ≡ None =
      sym (find-sorted_of R o k (xs ++ ys)) ∙ absent in
      let before : find R k xs ≡ None = first_none (find R k xs) (find R k ys) (sym (find-two R k xs ys) ∙ none) in
      subst (λ (zs : List (K × X)). IsOnceBy R (zs ++ ys)) (sym is) (once-permutation ((k, v) ∷ xs ++ ys) (put R k v xs ++ ys)
      (IsPermutation-append_left ys ((k, v) ∷ xs) (put R k v xs) (put-permutation k v xs before)) (none, h))

  pub once-put_second : (k : K) (v : X) (xs ys zs : List (K × X)) → IsOnceBy R zs
      → ((q : K) → lookup (λ x. is_eq (R q x)) zs ≡ cond (is_eq (R k q)) (Some v) (lookup (λ x. is_eq (R q x)) ys))
      → find R k (sorted_of R (xs ++ ys)) ≡ None → IsOnceBy R (xs ++ ys) → IsOnceBy R (xs ++ zs)
  once-put_second = grind (arith, once-append, once-left, find_tied, equal_from, absent_first, once-apart, lookup_is_find)
