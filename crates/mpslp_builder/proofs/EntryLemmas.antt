-- Entries in the order of their keys, with distinct names, and of columns; a draft that gives back a model's parts means the model.
pub use Rattle.mpslp_builder.proofs.MeaningFromNoFault.{one_of-names}
use Rattle.mpslp_builder.proofs.Prelude
use Prelude.{arith, ◌≡◌, refl, sym, ap, subst, ◌∙◌, List, [], ◌∷◌, ◌++◌, Bool, true, false, not, cond, Option, Some, None, is_some, filter}
use Prelude.{◌||◌, flat_map, list_any, is_eq, is_lt, eq_by_cmp, IsTotalOrder, first_so, second_so, Ordering, Equal, find, put, is_sorted}
use Prelude.{find-put, same_entries, below_all, both_so, or_left, or_right, T_from, true_from, Each, Each-weaker, equal_from, puts}
use Prelude.{is_sorted-puts, puts-give, finds_own, some_append_left, some_append_right, map, T, Each-both, Each-append, Each-map}
use Prelude.{Each-flat_map, Each-filter, list_any-append, are_distinct, not_so, ℕ, suc, zero, ◌+◌, ◌<◌, ◌≤◌, length, get_or, ◌&&◌}
use Prelude.{position_or_len, remove, is_le, is_gt, ordering_then, ordering_reverse, nat_list_cmp_total, same_bytes, bytes_cmp}
use Prelude.{CoefficientKey, key_cmp, less_from, suc_of, texts_ties, is_one_of, at_name, names_in, unwrap_or, list_all, FinMap, is_zero}
use Prelude.{LinearModel, Column, is_sound_column, is_at_most, Minimize, Draft, has_name, zero_limit, one_limit, lower_bound, upper_bound}
use Prelude.{column_of, has_negative_upper, has_binary_bounds, objective_name, constant_of, row_entry, model_of, Each-all}
use Prelude.{list_all-from_Each}
use Rattle.mpslp_builder.proofs.{MeaningFromNoFault.sorted-mapped, DraftEntries.{bytes_total, tied_names}}
use Rattle.std.specs.FinMap as maps

-- ---- entries in the order of their keys: put one after another, made of what some elements have, and filtered

-- the first if there is one, otherwise the second
abbrev pub first_there : {X : Type 0} → Option X → Option X → Option X
first_there (Some x) other = Some x
first_there None other = other

-- what a value makes, if there is one
abbrev pub then_stated : {X V : Type 0} → (X → Option V) → Option X → Option V
then_stated f None = None
then_stated f (Some x) = f x

-- an entry, if there is a value
abbrev pub stated : {K V : Type 0} → K → Option V → List (K × V)
stated key None = []
stated key (Some value) = (key, value) ∷ []

below_not_tied : (r : Ordering) → is_lt r ≡ true → is_eq r ≡ false
below_not_tied = grind arith

module _ {K X : Type 0} (R : K → K → Ordering) where
  -- a key below all keys is not found
  none-later : (x : K) (es : List (K × X)) → below_all R x es ≡ true → find R x es ≡ None
  none-later x [] h = refl
  none-later x (e ∷ es) h = grind (arith, below_not_tied, none-later x es (second_so (is_lt (R x e.0)) (below_all R x es) h))

  below-kept : (p : K × X → Bool) (x : K) (es : List (K × X)) → below_all R x es ≡ true → below_all R x (filter p es) ≡ true
  below-kept p x [] h = refl
  below-kept p x (e ∷ es) h = grind (arith, both_so, below-kept p x es (second_so (is_lt (R x e.0)) (below_all R x es) h))

  pub sorted-kept : (p : K × X → Bool) (es : List (K × X)) → is_sorted R es ≡ true → is_sorted R (filter p es) ≡ true
  sorted-kept p [] h = refl
  sorted-kept p (e ∷ es) h = grind
      (arith, both_so, below-kept, sorted-kept p es (second_so (below_all R e.0 es) (is_sorted R es) h))

  module _ (o : IsTotalOrder R) (same : (x y : K) → R x y ≡ Equal → x ≡ y) where
    -- a key equal to one below all keys is not found
    none-tied : (q x : K) (es : List (K × X)) → eq_by_cmp R q x ≡ true → below_all R x es ≡ true → find R q es ≡ None
    none-tied q x es tie below = ap (λ (k : K). find R k es) (same q x (equal_from (R q x) tie)) ∙ none-later x es below

    -- what is found after sorted entries are put
    pub find-puts : (q : K) (es base : List (K × X)) → is_sorted R es ≡ true
        → find R q (puts R es base) ≡ first_there (find R q es) (find R q base)
    find-puts q [] base h = refl
    find-puts q (e ∷ es) base h = find-puts q es (put R e.0 e.1 base) (second_so (below_all R e.0 es) (is_sorted R es) h)
        ∙ ap (first_there (find R q es)) (find-put R o q e.0 e.1 base) ∙ by (eq_by_cmp R q e.0) refl
      where
        by : (b : Bool) → eq_by_cmp R q e.0 ≡ b
            → first_there (find R q es) (cond b (Some e.1) (find R q base)) ≡ first_there
            (cond b (Some e.1) (find R q es)) (find R q base)
        by true tie = ap (λ (f : Option X). first_there f (Some e.1))
            (none-tied q e.0 es tie (first_so (below_all R e.0 es) (is_sorted R es) h))
        by false tie = refl

    -- putting sorted entries leaves them unchanged
    pub puts-own : (es : List (K × X)) → is_sorted R es ≡ true → puts R es [] ≡ es
    puts-own es h = let own = finds_own R o same es (T_from (is_sorted R es) h) in
        puts-give R o same es es (T_from (is_sorted R es) h) own
        (Each-weaker (λ e. find R e.0 es ≡ Some e.1) (λ e. is_some (find R e.0 es) ≡ true) (λ e is. ap is_some is) es own)

    -- a property of all entries that are put is one of each that is found
    pub found-puts : (Q : K → X → Type 0) (es base : List (K × X)) → Each (λ e. Q e.0 e.1) es
        → ((q : K) (x : X) → find R q base ≡ Some x → Q q x) → (q : K) (x : X) → find R q (puts R es base) ≡ Some x → Q q x
    found-puts Q [] base h was q x is = was q x is
    found-puts Q (e ∷ es) base h was q x is = found-puts Q es (put R e.0 e.1 base) h.1 now q x is
      where
        unwrap : (v y : X) → ◌≡◌ {A = Option X} (Some v) (Some y) → v ≡ y
        unwrap v y e = cc

        now : (k : K) (y : X) → find R k (put R e.0 e.1 base) ≡ Some y → Q k y
        now k y here = by (eq_by_cmp R k e.0) refl (sym (find-put R o k e.0 e.1 base) ∙ here)
          where
            by : (b : Bool) → eq_by_cmp R k e.0 ≡ b → cond b (Some e.1) (find R k base) ≡ Some y → Q k y
            by true tie at = let key : e.0 ≡ k = sym (same k e.0 (equal_from (R k e.0) tie)) in
                subst (λ (j : K). Q j y) key (subst (λ (v : X). Q e.0 v) (unwrap e.1 y at) h.0)
            by false tie at = was k y at

    -- a property of all entries is one of each that is found
    pub found-each : (P : K → X → Type 0) (es : List (K × X)) → Each (λ e. P e.0 e.1) es → (q : K) (v : X) →
        find R q es ≡ Some v → P q v
    found-each P [] h q v is = absurd (nothing v is)
      where
        nothing : (y : X) → ◌≡◌ {A = Option X} None (Some y) → ⊥
        nothing y e = cc
    found-each P (e ∷ es) h q v is = by (eq_by_cmp R q e.0) refl is (λ more. found-each P es h.1 q v more)
      where
        unwrap : (x y : X) → ◌≡◌ {A = Option X} (Some x) (Some y) → x ≡ y
        unwrap x y e = cc

        by : (b : Bool) → eq_by_cmp R q e.0 ≡ b → cond b (Some e.1) (find R q es) ≡ Some v →
            (find R q es ≡ Some v → P q v) → P q v
        by true tie at more = subst (λ (k : K). P k v) (sym (same q e.0 (equal_from (R q e.0) tie)))
            (subst (λ (x : X). P e.0 x) (unwrap e.1 v at) h.0)
        by false tie at more = more at

    kept_put : (q k : K) (v : X) (base : List (K × X)) → is_some (find R q base) ≡ true →
        is_some (find R q (put R k v base)) ≡ true
    kept_put q k v base h = ap is_some (find-put R o q k v base) ∙ by (eq_by_cmp R q k)
      where
        by : (b : Bool) → is_some (cond b (Some v) (find R q base)) ≡ true
        by true = refl
        by false = h

    kept_puts : (q : K) (es base : List (K × X)) → is_some (find R q base) ≡ true → is_some (find R q (puts R es base)) ≡ true
    kept_puts q [] base h = h
    kept_puts q (e ∷ es) base h = kept_puts q es (put R e.0 e.1 base) (kept_put q e.0 e.1 base h)

    -- what is among the entries is found after they are put
    pub some-puts : (q : K) (es base : List (K × X)) → is_some (find R q es) ≡ true → is_some (find R q (puts R es base)) ≡ true
    some-puts q [] base h = cc
    some-puts q (e ∷ es) base h = by (eq_by_cmp R q e.0) refl (λ is. some-puts q es (put R e.0 e.1 base) is) h
      where
        by : (b : Bool) → eq_by_cmp R q e.0 ≡ b →
            (is_some (find R q es) ≡ true → is_some (find R q (puts R es (put R e.0 e.1 base))) ≡ true) →
            is_some (cond b (Some e.1) (find R q es)) ≡ true → is_some (find R q (puts R es (put R e.0 e.1 base))) ≡ true
        by true tie more is = kept_puts q es (put R e.0 e.1 base)
            (ap is_some (find-put R o q e.0 e.1 base) ∙ ap (λ (b : Bool). is_some (cond b (Some e.1) (find R q base))) tie)
        by false tie more is = more is

    -- what is found among the entries whose values are kept
    pub find-kept : (keep : X → Bool) (q : K) (es : List (K × X)) → is_sorted R es ≡ true
        → find R q (filter (λ e. keep e.1) es) ≡ then_stated (λ x. cond (keep x) (Some x) None) (find R q es)
    find-kept keep q [] h = refl
    find-kept keep q (e ∷ es) h = by (eq_by_cmp R q e.0) refl
        (find-kept keep q es (second_so (below_all R e.0 es) (is_sorted R es) h))
      where
        by : (b : Bool) → eq_by_cmp R q e.0 ≡ b →
            find R q (filter (λ x. keep x.1) es) ≡ then_stated (λ x. cond (keep x) (Some x) None) (find R q es) →
            find R q (cond (keep e.1) (e ∷ filter (λ x. keep x.1) es) (filter (λ x. keep x.1) es))
            ≡ then_stated (λ x. cond (keep x) (Some x) None) (cond b (Some e.1) (find R q es))
        by true tie more = elim (keep e.1)
            as (λ k. find R q (cond k (e ∷ filter (λ x. keep x.1) es) (filter (λ x. keep x.1) es)) ≡ cond k (Some e.1) None) [
              | true ↦ ap (λ (b : Bool). cond b (Some e.1) (find R q (filter (λ x. keep x.1) es))) tie
              | false ↦ more ∙ ap (then_stated (λ x. cond (keep x) (Some x) None))
                  (none-tied q e.0 es tie (first_so (below_all R e.0 es) (is_sorted R es) h))
            ]
        by false tie more = elim (keep e.1) as (λ k. find R q (cond k (e ∷ filter (λ x. keep x.1) es) (filter (λ x. keep x.1) es))
            ≡ then_stated (λ x. cond (keep x) (Some x) None) (find R q es)) [
              | true ↦ ap (λ (b : Bool). cond b (Some e.1) (find R q (filter (λ x. keep x.1) es))) tie ∙ more
              | false ↦ more
            ]

    -- Entries of which those kept are the target's, and the others are at none of its keys, give the target when they are put and filtered.
    pub puts-kept : (keep : X → Bool) (target es : List (K × X)) → is_sorted R target ≡ true
        → Each (λ e. find R e.0 target ≡ cond (keep e.1) (Some e.1) None) es
        → ((q : K) → is_some (find R q target) ≡ true → is_some (find R q es) ≡ true) →
        filter (λ e. keep e.1) (puts R es []) ≡ target
    puts-kept keep target es sorted own all = let drafted = puts R es [] in
        let in_order : is_sorted R drafted ≡ true = true_from (is_sorted R drafted) (is_sorted-puts R o same es [] tt) in
        same_entries R o same (filter (λ e. keep e.1) drafted) target (T_from _ (sorted-kept (λ e. keep e.1) drafted in_order))
        (T_from (is_sorted R target) sorted) (λ q. find-kept keep q drafted in_order ∙ alike q (find R q drafted) refl)
      where
        never : (y : X) → ◌≡◌ {A = Option X} None (Some y) → ⊥
        never y e = cc

        none_of : (t : Option X) → (is_some t ≡ true → ⊥) → None ≡ t
        none_of None h = refl
        none_of (Some x) h = absurd (h refl)

        no_none : false ≡ true → ⊥
        no_none e = cc

        alike : (q : K) (f : Option X) → find R q (puts R es []) ≡ f →
            then_stated (λ x. cond (keep x) (Some x) None) f ≡ find R q target
        alike q (Some x) is =
            sym (found-puts (λ k v. find R k target ≡ cond (keep v) (Some v) None) es [] own
            (λ k y none. absurd (never y none)) q x is)
        alike q None is = none_of (find R q target) (λ there. no_none (sym (ap is_some is) ∙ some-puts q es [] (all q there)))

-- the entries that some elements make
abbrev pub all_stated : {K X V : Type 0} → (X → Option V) → List (K × X) → List (K × V)
all_stated f xs = flat_map (λ x. stated x.0 (f x.1)) xs

module _ {K X V : Type 0} (R : K → K → Ordering) (f : X → Option V) where
  below-stated : (k : K) (xs : List (K × X)) → below_all R k xs ≡ true → below_all R k (all_stated f xs) ≡ true
  below-stated k [] h = refl
  below-stated k (x ∷ xs) h = grind (arith, both_so, below-stated k xs (second_so (is_lt (R k x.0)) (below_all R k xs) h))

  -- entries that some of sorted ones make are sorted
  pub sorted-stated : (xs : List (K × X)) → is_sorted R xs ≡ true → is_sorted R (all_stated f xs) ≡ true
  sorted-stated [] h = refl
  sorted-stated (x ∷ xs) h = grind
      (arith, both_so, below-stated, sorted-stated xs (second_so (below_all R x.0 xs) (is_sorted R xs) h))

  -- what is found among them
  pub find-stated : (o : IsTotalOrder R) (same : (x y : K) → R x y ≡ Equal → x ≡ y) (q : K) (xs : List (K × X)) →
      is_sorted R xs ≡ true → find R q (all_stated f xs) ≡ then_stated f (find R q xs)
  find-stated o same q [] h = refl
  find-stated o same q (x ∷ xs) h =
      by (eq_by_cmp R q x.0) refl (f x.1) refl (find-stated o same q xs (second_so (below_all R x.0 xs) (is_sorted R xs) h))
    where
      by : (b : Bool) → eq_by_cmp R q x.0 ≡ b → (v : Option V) → f x.1 ≡ v →
          find R q (all_stated f xs) ≡ then_stated f (find R q xs) →
          find R q (stated x.0 v ++ all_stated f xs) ≡ then_stated f (cond b (Some x.1) (find R q xs))
      by true tie (Some v) is more = ap (λ (b : Bool). cond b (Some v) (find R q (all_stated f xs))) tie ∙ sym is
      by true tie None is more = more
          ∙ ap (then_stated f) (none-tied R o same q x.0 xs tie (first_so (below_all R x.0 xs) (is_sorted R xs) h)) ∙ sym is
      by false tie (Some v) is more = ap (λ (b : Bool). cond b (Some v) (find R q (all_stated f xs))) tie ∙ more
      by false tie None is more = more

-- ---- lists in two parts

pub filter-not_not : {X : Type 0} (p : X → Bool) (xs : List X) → filter (λ x. not (not (p x))) xs ≡ filter p xs
filter-not_not p [] = refl
filter-not_not p (x ∷ xs) = grind (arith, filter-not_not p xs)

module _ {K X Y : Type 0} (R : K → K → Ordering) (o : IsTotalOrder R) (same : (x y : K) → R x y ≡ Equal →
    x ≡ y) (f : Y → List (K × X)) where
  abbrev SomeIn : K → List (K × X) → List (K × X) → Type 0
  SomeIn q left right = (is_some (find R q left) || is_some (find R q right)) ≡ true

  wider_left : (q : K) (own left right : List (K × X)) → SomeIn q left right → SomeIn q (own ++ left) right
  wider_left = grind (arith, or_left, some_append_right, or_right)

  wider_right : (q : K) (own left right : List (K × X)) → SomeIn q left right → SomeIn q left (own ++ right)
  wider_right = grind (arith, or_left, or_right, some_append_right)

  -- what is found among an element's own entries is found in one of the two parts
  pub found-either : (p hit : Y → Bool) (q : K) (xs : List Y) → list_any hit xs ≡ true → ((y : Y) → hit y ≡ true
      → is_some (find R q (f y)) ≡ true) → SomeIn q (flat_map f (filter p xs)) (flat_map f (filter (λ y. not (p y)) xs))
  found-either p hit q [] h some = cc
  found-either p hit q (x ∷ xs) h some = by (hit x) refl h (λ k. found-either p hit q xs k some) (p x)
    where
      by : (b : Bool) → hit x ≡ b → (b || list_any hit xs) ≡ true → (list_any hit xs ≡ true → SomeIn q (flat_map f (filter p xs))
          (flat_map f (filter (λ y. not (p y)) xs))) → (c : Bool) → SomeIn q (flat_map f (cond c (x ∷ filter p xs) (filter p xs)))
          (flat_map f (cond (not c) (x ∷ filter (λ y. not (p y)) xs) (filter (λ y. not (p y)) xs)))
      by true e k more true = or_left
          (is_some (find R q (f x ++ flat_map f (filter p xs)))) _
          (some_append_left R o same q (f x) (flat_map f (filter p xs)) (some x e))
      by true e k more false = or_right (is_some (find R q (flat_map f (filter p xs))))
          _ (some_append_left R o same q (f x) (flat_map f (filter (λ y. not (p y)) xs)) (some x e))
      by false e k more true = wider_left q (f x) (flat_map f (filter p xs)) (flat_map f (filter (λ y. not (p y)) xs)) (more k)
      by false e k more false = wider_right q (f x) (flat_map f (filter p xs)) (flat_map f (filter (λ y. not (p y)) xs)) (more k)

-- ---- entries of a list that is declared in two parts, with some elements in both: they are sorted again

module _ {K X Y : Type 0} (R : K → K → Ordering) (o : IsTotalOrder R) (same : (x y : K) → R x y ≡ Equal →
    x ≡ y) (entry : Y → K × X) (f : Y → List (K × X)) where
  -- what is found among an element's own entries is found in the whole
  found : (p : Y → Bool) (xs : List Y) → Each (λ x. is_some (find R (entry x).0 (f x)) ≡ true) xs
      → Each (λ x. p x ≡ true → is_some (find R (entry x).0 (flat_map f (filter p xs))) ≡ true) xs
  found p [] h = tt
  found p (x ∷ xs) h = by _ refl (found p xs h.1)
    where
      by : (b : Bool) → p x ≡ b → Each (λ y. p y ≡ true → is_some (find R (entry y).0 (flat_map f (filter p xs))) ≡ true) xs
          → (p x ≡ true → is_some (find R (entry x).0 (flat_map f (cond b (x ∷ filter p xs) (filter p xs)))) ≡ true)
          × Each (λ y. p y ≡ true → is_some (find R (entry y).0 (flat_map f (cond b (x ∷ filter p xs) (filter p xs)))) ≡ true) xs
      by true e more = (
        λ _. some_append_left R o same (entry x).0 (f x) (flat_map f (filter p xs)) h.0,
        Each-weaker _ _ (λ y found q. some_append_right R o same (entry y).0 (f x) (flat_map f (filter p xs)) (found q)) xs more,
      )
      by false e more = (λ q. cc, more)

  in_either : (p : Y → Bool) (xs ys : List (K × X)) (x : Y) → (p x ≡ true → is_some (find R (entry x).0 xs) ≡ true)
      → (not (p x) ≡ true → is_some (find R (entry x).0 ys) ≡ true) → is_some (find R (entry x).0 (xs ++ ys)) ≡ true
  in_either = grind (arith, some_append_left, some_append_right)

  -- Entries of the elements that pass, and then of the others, give all elements' entries in order.
  pub parted-give : (p : Y → Bool) (xs : List Y) → T (is_sorted R (map entry xs)) →
      Each (λ x. is_some (find R (entry x).0 (f x)) ≡ true) xs → Each (λ x. Each (λ e. e ≡ entry x) (f x)) xs
      → puts R (flat_map f (filter p xs) ++ flat_map f (filter (λ x. not (p x)) xs)) [] ≡ map entry xs
  parted-give p xs sorted some own = let target = map entry xs in
      let finds : Each (λ x. find R _ _ ≡ Some _) xs = Each-unmap _ xs (finds_own R o same _ sorted) in
      let right : Each (λ x. Each _ _) xs = Each-both _ _ _ (λ x is each. Each-weaker _ _ (λ e same_entry. subst
      (λ d. find R d.0 (map entry xs) ≡ Some d.1) (sym same_entry) is) _ each) xs finds own in puts-give R o same _ _ sorted
      (Each-append _ _ (flat_map f (filter _ xs))
      (Each-flat_map _ f _ (Each-filter _ p xs (Each-weaker _ _ (λ x is _. is) xs right)))
      (Each-flat_map _ f (filter _ xs)
      (Each-filter _ (λ x. not _) xs (Each-weaker _ _ (λ x is _. is) xs right)))) (Each-map _ _ xs
      (Each-both _ _ _ (λ x g h. in_either p _ (flat_map f (filter _ xs)) x g h) xs (found p xs some)
      (found (λ x. not _) xs some)))
    where
      Each-unmap : (Q : K × X → Type 0) (ys : List Y) → Each Q (map entry ys) → Each (λ y. Q (entry y)) ys
      Each-unmap Q [] h = tt
      Each-unmap Q (y ∷ ys) h = (h.0, Each-unmap Q ys h.1)

-- ---- lists without duplicates: joined, made by a flat_map, and the keys of sorted entries

module _ {K : Type 0} (same : K → K → Bool) where
  -- no key equals this one
  abbrev pub IsNew : K → List K → Type 0
  IsNew k keys = list_any (λ later. same later k) keys ≡ false

  new_append : (k : K) (xs ys : List K) → IsNew k xs → IsNew k ys → IsNew k (xs ++ ys)
  new_append = grind (arith, list_any-append)

  -- joined: no later key is an earlier one
  pub distinct-append : (xs ys : List K) → are_distinct same xs ≡ true → are_distinct same ys ≡ true → Each (λ x. IsNew x ys) xs
      → are_distinct same (xs ++ ys) ≡ true
  distinct-append [] ys h k apart = k
  distinct-append (x ∷ xs) ys h k apart = let only = list_any (λ later. same later x) xs in
      let here = not_so only (first_so (not only) (are_distinct same xs) h) in
      both_so (not (list_any (λ later. same later x) (xs ++ ys))) (are_distinct same (xs ++ ys))
      (ap not (new_append x xs ys here apart.0))
      (distinct-append xs ys (second_so (not only) (are_distinct same xs) h) k apart.1)

  new_flat : {X : Type 0} (f : X → List K) (k : K) (xs : List X) → Each (λ x. IsNew k (f x)) xs → IsNew k (flat_map f xs)
  new_flat f k [] h = refl
  new_flat f k (x ∷ xs) h = new_append k (f x) (flat_map f xs) h.0 (new_flat f k xs h.1)

  -- the keys of each element differ from those of later elements
  abbrev pub Apart : {X : Type 0} → (X → List K) → List X → Type 0
  Apart f [] = Unit {0}
  Apart f (x ∷ xs) = Each (λ k. Each (λ y. IsNew k (f y)) xs) (f x) × Apart f xs

  -- made of elements whose keys differ, each without duplicates
  pub distinct-flat_map : {X : Type 0} (f : X → List K) (xs : List X) → Each (λ x. are_distinct same (f x) ≡ true) xs → Apart f xs
      → are_distinct same (flat_map f xs) ≡ true
  distinct-flat_map f [] h apart = refl
  distinct-flat_map f (x ∷ xs) h apart = distinct-append (f x) (flat_map f xs) h.0 (distinct-flat_map f xs h.1 apart.1)
      (Each-weaker _ _ (λ k each. new_flat f k xs each) (f x) apart.0)

module _ {K : Type 0} (R : K → K → Ordering) (o : IsTotalOrder R) (same : K → K → Bool) (equal : (x y : K) →
    same x y ≡ true → x ≡ y) where
  differs : (x y : K) (b : Bool) → same y x ≡ b → is_lt (R x y) ≡ true → b ≡ false
  differs = grind arith

module _ {K X : Type 0} (R : K → K → Ordering) (o : IsTotalOrder R) (same : K → K → Bool) (equal : (x y : K) →
    same x y ≡ true → x ≡ y) where
  none_above : (x : K) (es : List (K × X)) → below_all R x es ≡ true →
      list_any (λ later. same later x) (map (λ e. e.0) es) ≡ false
  none_above x [] h = refl
  none_above x (e ∷ es) h = grind (arith, differs, none_above x es (second_so (is_lt (R x e.0)) (below_all R x es) h))

  -- the keys of sorted entries
  pub distinct-sorted : (es : List (K × X)) → is_sorted R es ≡ true → are_distinct same (map (λ e. e.0) es) ≡ true
  distinct-sorted [] h = refl
  distinct-sorted (e ∷ es) h = grind
      (arith, both_so, none_above, distinct-sorted es (second_so (below_all R e.0 es) (is_sorted R es) h))

-- ---- the coefficients of a column are adjacent, because all are sorted by column first; and at most one is the
-- objective's

-- ---- the part of a list that passes a test

-- ---- the first that passes

-- ---- keys in a total order

module _ {K : Type 0} (R : K → K → Ordering) (o : IsTotalOrder R) where
  reversed : (x y : K) (r : Ordering) → R x y ≡ r → R y x ≡ ordering_reverse r
  reversed = grind arith

  own_tie : (r : Ordering) → r ≡ ordering_reverse r → is_le r ≡ true
  own_tie = grind arith

  at_most_itself : (x : K) → is_le (R x x) ≡ true
  at_most_itself x = own_tie _ (o.antisymm x x)

  -- what is at most something below the key is below the key
  below_too : (k x y : K) → is_le (R x y) ≡ true → is_gt (R k y) ≡ true → is_gt (R k x) ≡ true
  below_too = grind arith

  -- ---- entries without the one that has the key

  module _ {X : Type 0} where
    -- the entries after one that has the key do not have it
    above_kept : (k x : K) (es : List (K × X)) → is_eq (R k x) ≡ true → below_all R x es ≡ true
        → filter (λ e. not (is_eq (R k e.0))) es ≡ es
    above_kept k x [] tie above = refl
    above_kept k x (e ∷ es) tie above = let here =
        o.congr k x e.0 (equal_from _ tie) ∙ less_from _ (first_so (is_lt _) _ above) in
        ap (λ r. cond (not (is_eq r)) (e ∷ filter (λ y. not (is_eq (R k y.0))) es) (filter (λ y. not (is_eq (R k y.0))) es)) here
        ∙ ap (λ ys. e ∷ ys) (above_kept k x es tie (second_so (is_lt _) _ above))

    -- without the entries that have the key: at most one is left out
    without_key : (k : K) (es : List (K × X)) → is_sorted R es ≡ true
        → filter (λ e. not (is_eq (R k e.0))) es ≡ remove es (position_or_len (λ e. is_eq (R k e.0)) es)
    without_key k [] sorted = refl
    without_key k (e ∷ es) sorted =
        let n = position_or_len _ es in
        let kept = filter _ es in
        elim (is_eq _) as (λ b. is_eq (R k e.0) ≡ b → cond (not b) (e ∷ kept) kept ≡ remove (e ∷ es) (cond (not b) (1 + n) 0)) [
          | true ↦ λ tie. above_kept k e.0 es tie (first_so _ _ sorted)
          | false ↦ λ _. ap (λ ys. e ∷ ys) (without_key k es (second_so _ _ sorted))
              ∙ ap (λ i. remove (e ∷ es) i) (sym (suc_of n))
        ] refl

-- ---- the coefficients of a column

by_first : (a b : Ordering) → is_lt (ordering_then a b) ≡ true → is_le a ≡ true
by_first = grind arith

module _ {X : Type 0} where
  -- the columns of later coefficients are not lower
  below_columns : (x : CoefficientKey) (es : List (CoefficientKey × X)) (i : ℕ) (d : CoefficientKey × X) →
      below_all key_cmp x es ≡ true → i < length es → is_le (bytes_cmp x.column (get_or es i d).0.column) ≡ true
  below_columns x [] i d h in' = absurd (omega arith)
  below_columns x (e ∷ es) zero d h in' = grind (arith, by_first)
  below_columns x (e ∷ es) (suc i) d h in' = below_columns x es i d (second_so _ _ h) (omega arith)

  columns_rise : (es : List (CoefficientKey × X)) (i j : ℕ) (d : CoefficientKey × X) → is_sorted key_cmp es ≡ true →
      i ≤ j → j < length es → is_le (bytes_cmp (get_or es i d).0.column (get_or es j d).0.column) ≡ true
  columns_rise [] i j d sorted le in' = absurd (omega arith)
  columns_rise (e ∷ es) zero zero d sorted le in' = at_most_itself _ nat_list_cmp_total e.0.column
  columns_rise (e ∷ es) zero (suc j) d sorted le in' = grind (arith, below_columns, arith)
  columns_rise (e ∷ es) (suc i) zero d sorted le in' = absurd (omega arith)
  columns_rise (e ∷ es) (suc i) (suc j) d sorted le in' = grind (
    arith,
    columns_rise es i j d (second_so (below_all key_cmp e.0 es) (is_sorted key_cmp es) sorted) (omega arith)
        (omega arith),
  )

  abbrev pub elements : List ℕ → List ℕ → List (CoefficientKey × X) → List (CoefficientKey × X)
  elements objective column es = filter (λ e. not (same_bytes objective e.0.row) && same_bytes column e.0.column) es

-- ---- one left out

-- ---- entries with names: what is found among them by a name

-- an entry's name, without a value
abbrev pub named : {X : Type 0} → List ℕ × X → List ℕ × Unit {0}
named entry = (entry.0, tt)

-- the same as a test of each entry
pub any-name : {X : Type 0} (q : List ℕ) (es : List (List ℕ × X)) →
    is_one_of (names_in es) q ≡ list_any (λ e. same_bytes q e.0) es
any-name q [] = refl
any-name q (e ∷ es) = grind (arith, any-name q es)

-- an entry that is found is in the list
pub found-any : {X : Type 0} (q : List ℕ) (x : X) (es : List (List ℕ × X)) → at_name es q ≡ Some x
    → list_any (λ e. same_bytes q e.0) es ≡ true
found-any {X} q x [] is = grind (arith)
found-any {X} q x (e ∷ es) is = by (eq_by_cmp bytes_cmp q e.0) refl is (λ more. found-any q x es more)
  where
    by : (b : Bool) → eq_by_cmp bytes_cmp q e.0 ≡ b → cond b (Some e.1) (at_name es q) ≡ Some x → (at_name es q ≡ Some x
        → list_any (λ d. same_bytes q d.0) es ≡ true) → (same_bytes q e.0 || list_any (λ d. same_bytes q d.0) es) ≡ true
    by true tie at more = or_left (same_bytes q e.0) _ (texts_ties q e.0 ∙ tie)
    by false tie at more = or_right (same_bytes q e.0) _ (more at)

-- a sorted list finds its own entries
pub own-found : {X : Type 0} (es : List (List ℕ × X)) → is_sorted bytes_cmp es ≡ true → Each (λ e. at_name es e.0 ≡ Some e.1) es
own-found = grind (arith, finds_own, bytes_total, tied_names)

pub names_sorted : {X Y : Type 0} (g : X → Y) (es : List (List ℕ × X)) → is_sorted bytes_cmp es ≡ true
    → is_sorted bytes_cmp (map (λ e. (e.0, g e.1)) es) ≡ true
names_sorted g es h = sorted-mapped (λ e. g e.1) es ∙ h

pub at-mapped : {X Y : Type 0} (g : X → Y) (q : List ℕ) (es : List (List ℕ × X))
    → at_name (map (λ e. (e.0, g e.1)) es) q ≡ then_stated (λ x. Some (g x)) (at_name es q)
at-mapped g q [] = refl
at-mapped {X} {Y} g q (e ∷ es) = grind (arith, then_stated, at-mapped g q es)

-- ---- a draft that gives back the parts of a well-formed model gives back the model

-- ---- the model

from_sorted-back : {K X : Type 0} {R : K → K → Ordering} (m : FinMap R X) (es : List (K × X)) → es ≡ maps.entries m
    → m ≡ maps.from_sorted es
from_sorted-back {K} {X} {R} m es e =
    maps.same_entries_map m _ (sym
    (maps.entries-from_sorted R es (subst (λ xs. T (is_sorted R xs)) (sym e) (maps.entries_sorted m)) ∙ e))

-- each part of a model, as the draft has it
pub record GivesBack (all : Draft) (m : LinearModel) : Type 0 where
  pub sense : unwrap_or all.sense Minimize ≡ m.sense
  pub objective : objective_name all ≡ m.objective
  pub constant : constant_of all ≡ m.constant
  pub rows : map (row_entry all) all.rows ≡ maps.entries m.rows
  pub columns : map (λ column. (column.0, column_of all column.0)) all.columns ≡ maps.entries m.columns
  pub coefficients : filter (λ entry. not (is_zero entry.1)) all.coefficients ≡ maps.entries m.coefficients

pub model-back : (all : Draft) (m : LinearModel) → GivesBack all m → m ≡ model_of all
model-back = grind (arith, from_sorted-back)

-- ---- columns, each of which is given back

module _ (all : Draft) (columns : List (List ℕ × Column)) (declared : all.columns ≡ map named columns)
    (back : Each (λ column. column_of all column.0 ≡ column.1) columns) where
  pub columns-back : map (λ column. (column.0, column_of all column.0)) all.columns ≡ columns
  columns-back = ap (map _) declared ∙ each _ back
    where
      each : (cs : List (List ℕ × Column)) → Each (λ column. column_of all column.0 ≡ column.1) cs
          → map (λ column. (column.0, column_of all column.0)) (map named cs) ≡ cs
      each [] h = refl
      each (c ∷ cs) h = λ i. (c.0, h.0 i) ∷ each cs h.1 i

  names-pass : (p : List ℕ → Bool) → Each (λ column. p column.0 ≡ true) columns → list_all p (names_in all.columns) ≡ true
  names-pass p each = ap (λ es. list_all p (names_in es)) declared ∙ list_all-from_Each p _ (Each-map _ _ _ (Each-map _ _ _ each))

  nonnegative-upper : (column : List ℕ × Column) → is_sound_column column ≡ true → column_of all column.0 ≡ column.1
      → not (has_negative_upper all column.0) ≡ true
  nonnegative-upper column sound is = grind arith

  -- bounds are not crossed, so no column without a declared lower bound has an upper bound below 0
  pub no-negative_upper : Each (λ column. is_sound_column column ≡ true) columns
      → list_all (λ name. not (has_negative_upper all name)) (names_in all.columns) ≡ true
  no-negative_upper sound = names-pass (λ name. not _) (Each-both _ _ (λ column. not _ ≡ true) nonnegative-upper _ sound back)

  -- if none is declared binary, all binary columns have bounds within 0 and 1
  pub binary-within : all.binaries ≡ [] → list_all (λ name. not (has_binary_bounds all name)) (names_in all.columns) ≡ true
  binary-within none = names-pass _ (Each-all _ (λ column. ap (λ (es : List (List ℕ × Unit {0})). not (has_name es column.0
      && not (is_at_most zero_limit (lower_bound all column.0) && is_at_most (upper_bound all column.0) one_limit))) none) _)
