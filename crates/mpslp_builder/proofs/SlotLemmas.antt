-- Slots that are filled only once: the order of declarations does not matter, and what was declared stays declared.
use Rattle.mpslp_builder.proofs.Prelude
use Prelude.{arith, rules, ◌≡◌, refl, sym, ap, ◌∙◌, ℕ, List, [], ◌∷◌, ◌++◌, Bool, true, false, not, cond, and_comm, ◌&&◌, ◌||◌, Option}
use Prelude.{Some, is_some, option_map_or, list_any, list_all, eq_by_cmp, both_tied, texts_ties, nat_list_cmp_total, same_text, find, put}
use Prelude.{find-put, list_any-append, list_all-append, same_bytes, bytes_cmp, CoefficientKey, key_cmp, key_total, RowDefinition, by_type}
use Prelude.{by_limits, Declaration, declare_sense, declare_objective, declare_constant, declare_row, declare_rhs, declare_range}
use Prelude.{declare_column, declare_coefficient, declare_lower, declare_upper, declare_marked, declare_integer, declare_binary}
use Prelude.{declare_semi, Declarations, Draft, with_declaration, at_name, has_name, has_row, has_coefficient, is_definition_by_limits}
use Prelude.{is_row_by_limits, are_distinct, Slot, sense_slot, objective_slot, constant_slot, row_slot, rhs_slot, range_slot}
use Prelude.{coefficient_slot, lower_slot, upper_slot, same_slot, slots_of, all_slots, or_end, all_true, mixed, mixed_more, IsTotalOrder}
use Prelude.{Ordering, Less, Equal, is_sorted, same_entries, is_sorted-put, T, IsPermutation, nat_list_eq_equiv}
use Prelude.{LinearModel, empty_draft, with_declarations, draft_of, is_known, AreConsistent}
use Prelude.{Means, along_permutation, flat_map, flat_map-append, Each, first_so, second_so, has_column, is_objective, is_integer, is_semi}
use Prelude.{or_right, either_more, not_so}

-- ---- slots that are free before each declaration are filled only once

-- ---- one more entry

pub at-put : {X : Type 0} (q k : List ℕ) (v : X) (es : List (List ℕ × X))
    → at_name (put bytes_cmp k v es) q ≡ cond (same_bytes q k) (Some v) (at_name es q)
at-put {X} q k v es = find-put _ nat_list_cmp_total q k v es ∙ ap (λ b. cond b (Some v) (find bytes_cmp q es))
    (sym (texts_ties q k))

is_some-cond : {X : Type 0} (b : Bool) (v : X) (o : Option X) → is_some (cond b (Some v) o) ≡ (b || is_some o)
is_some-cond = grind arith

pub has-put : {X : Type 0} (q k : List ℕ) (v : X) (es : List (List ℕ × X)) →
    has_name (put bytes_cmp k v es) q ≡ (same_bytes q k || has_name es q)
has-put q k v es = ap is_some (at-put q k v es) ∙ is_some-cond _ v _

pub key_ties : (a b : CoefficientKey) → (same_bytes a.row b.row && same_bytes a.column b.column) ≡ eq_by_cmp key_cmp a b
key_ties a b = and_comm _ (same_bytes _ b.column) ∙ both_tied _ _ _ _ (texts_ties a.column _) (texts_ties a.row _)

pub has-put_key : {X : Type 0} (q k : CoefficientKey) (v : X) (es : List (CoefficientKey × X)) → is_some
    (find key_cmp q (put key_cmp k v es)) ≡ ((same_bytes q.row k.row && same_bytes q.column k.column) || is_some
    (find key_cmp q es))
has-put_key q k v es = ap is_some (find-put _ key_total q k v es)
    ∙ is_some-cond _ v _ ∙ ap (λ b. b || is_some (find key_cmp q es)) (sym (key_ties q k))

-- ---- filled slots

abbrev pub is_filled : Draft → Slot → Bool
is_filled all sense_slot = is_some all.sense
is_filled all objective_slot = is_some all.objective
is_filled all constant_slot = is_some all.constant
is_filled all (row_slot name) = has_row all name
is_filled all (rhs_slot name) = has_name all.rhs_values name || is_row_by_limits all name
is_filled all (range_slot name) = has_name all.ranges name || is_row_by_limits all name
is_filled all (coefficient_slot key) = has_coefficient all key
is_filled all (lower_slot name) = has_name all.lowers name
is_filled all (upper_slot name) = has_name all.uppers name

abbrev pub are_fresh : Draft → List Slot → Bool
are_fresh all slots = list_all (λ slot. not (is_filled all slot)) slots

abbrev pub fills : Declaration → Slot → Bool
fills d slot = list_any (same_slot slot) (slots_of d)

-- there was no objective
row_by_objective : (o : Option (List ℕ)) (name n : List ℕ) (r : Bool) → (not (is_some o)) ≡ true
    → (same_bytes n name || r) ≡ ((same_bytes n name || false) || (option_map_or (same_bytes n) o false || r))
row_by_objective = grind arith

in_row : (a o r : Bool) (rest : Bool) → rest ≡ false → (o || (a || r)) ≡ ((a || rest) || (o || r))
in_row = grind arith

after_or : (s a r l : Bool) → ((s || r) || l) ≡ ((s || false) || (r || l))
after_or = grind arith

limits_of_cond : (b : Bool) (definition : RowDefinition) (o : Option RowDefinition) → option_map_or is_definition_by_limits
    (cond b (Some definition) o) false ≡ cond b (is_definition_by_limits definition)
    (option_map_or is_definition_by_limits o false)
limits_of_cond = grind arith

pub fresh_row : (a b : Bool) (rest : Bool) → (not (a || b) && rest) ≡ true → b ≡ false
fresh_row = grind arith

-- a slot of a row by limits, after one more row: `here` says that the row has this name
by_type_after : (here r was : Bool) → (here ≡ true → was ≡ false) → (r || cond here false was) ≡ (r || was)
by_type_after = grind arith

by_limits_after : (here r was : Bool) → (r || cond here true was) ≡ ((here || false) || (r || was))
by_limits_after = grind arith

limits_at : (all : Draft) (n name : List ℕ) (definition : RowDefinition) → is_row_by_limits (with_declaration all
    (declare_row name definition)) n ≡ cond (same_bytes n name) (is_definition_by_limits definition) (is_row_by_limits all n)
limits_at all n name definition = ap (λ o. option_map_or is_definition_by_limits o false) (at-put n _ _ _) ∙ limits_of_cond _ _ _

pub same_name : (a b : List ℕ) → same_bytes a b ≡ true → a ≡ b
same_name a b h = same_text a b (sym h)

was_no_limits : (all : Draft) (n name : List ℕ) (rest : Bool) → (not (has_row all name) && rest) ≡ true → same_bytes n name ≡ true
    → is_row_by_limits all n ≡ false
was_no_limits all n name rest h same = search (rules, fresh_row)

-- A declaration whose slots were free fills these and no others.
pub filled-with_declaration : (all : Draft) (d : Declaration) (slot : Slot) → are_fresh all (slots_of d) ≡ true
    → is_filled (with_declaration all d) slot ≡ (fills d slot || is_filled all slot)
filled-with_declaration all (declare_objective name) (row_slot n) h = grind (arith, row_by_objective)
filled-with_declaration all (declare_row name (by_type type)) (row_slot n) h = grind (arith, has-put, in_row)
filled-with_declaration all (declare_row name (by_limits l u)) (row_slot n) h = grind (arith, has-put, in_row)
filled-with_declaration all (declare_row name (by_type type)) (rhs_slot n) h =
    grind (arith, limits_at, by_type_after, was_no_limits)
filled-with_declaration all (declare_row name (by_type type)) (range_slot n) h =
    grind (arith, limits_at, by_type_after, was_no_limits)
filled-with_declaration all (declare_row name (by_limits l u)) (rhs_slot n) h = grind (arith, limits_at, by_limits_after)
filled-with_declaration all (declare_row name (by_limits l u)) (range_slot n) h = grind (arith, limits_at, by_limits_after)
filled-with_declaration all (declare_row name (by_type type)) _ h = refl
filled-with_declaration all (declare_row name (by_limits l u)) _ h = refl
filled-with_declaration all (declare_rhs row v) (rhs_slot n) h = grind (arith, has-put, after_or)
filled-with_declaration all (declare_range row v) (range_slot n) h = grind (arith, has-put, after_or)
filled-with_declaration all (declare_coefficient key v) (coefficient_slot p) h =
    grind (arith, has-put_key p key v all.coefficients, or_end)
filled-with_declaration all (declare_lower name v) (lower_slot n) h = has-put n _ v _ ∙ or_end _ (has_name _ n)
filled-with_declaration all (declare_upper name v) (upper_slot n) h = has-put n _ v _ ∙ or_end _ (has_name _ n)
filled-with_declaration all (declare_sense x) sense_slot h = refl
filled-with_declaration all (declare_constant x) sense_slot h = refl
filled-with_declaration all (declare_column x) sense_slot h = refl
filled-with_declaration all (declare_marked x) sense_slot h = refl
filled-with_declaration all (declare_integer x) sense_slot h = refl
filled-with_declaration all (declare_binary x) sense_slot h = refl
filled-with_declaration all (declare_semi x) sense_slot h = refl
filled-with_declaration all _ _ h = refl

-- ---- distinct slots

-- none of the later slots is one of the earlier ones
abbrev pub are_apart : List Slot → List Slot → Bool
are_apart earlier later = list_all (λ slot. not (list_any (same_slot slot) earlier)) later

pub apart-cons : (x : Slot) (xs later : List Slot) →
    are_apart (x ∷ xs) later ≡ (not (list_any (λ slot. same_slot slot x) later) && are_apart xs later)
apart-cons x xs [] = refl
apart-cons x xs (y ∷ later) = grind (arith, apart-cons x xs later)

pub are_distinct-append : (earlier later : List Slot) → are_distinct same_slot (earlier ++ later)
    ≡ (are_distinct same_slot earlier && (are_apart earlier later && are_distinct same_slot later))
are_distinct-append [] later = ap (λ b. b && are_distinct same_slot later) (sym (all_true later))
are_distinct-append (x ∷ xs) later = grind (arith, list_any-append, mixed_more, apart-cons, are_distinct-append xs later)

distinct_own : (d : Declaration) → are_distinct same_slot (slots_of d) ≡ true
distinct_own = grind arith

fresh-with_declaration : (all : Draft) (d : Declaration) (later : List Slot) → are_fresh all (slots_of d) ≡ true
    → are_fresh (with_declaration all d) later ≡ (are_apart (slots_of d) later && are_fresh all later)
fresh-with_declaration all d [] h = refl
fresh-with_declaration all d (slot ∷ later) h =
    grind (arith, filled-with_declaration, mixed, fresh-with_declaration all d later h)

-- ---- in turn

-- the slots of each declaration are free before it
abbrev pub are_fresh_in_turn : Draft → Declarations → Bool
are_fresh_in_turn before [] = true
are_fresh_in_turn before (d ∷ more) = are_fresh before (slots_of d) && are_fresh_in_turn (with_declaration before d) more

-- So no slot was filled before, and none is filled twice, in any order.
pub fresh_in_turn-is : (declarations : Declarations) (before : Draft)
    → are_fresh_in_turn before declarations ≡ (are_fresh before (all_slots declarations) && are_distinct same_slot
    (all_slots declarations))
fresh_in_turn-is [] before = refl
fresh_in_turn-is (d ∷ more) before = search (
  rules,
  fresh_in_turn-is more (with_declaration before d),
  fresh-with_declaration before d
      (all_slots more),
  distinct_own d,
  are_distinct-append (slots_of d) (all_slots more),
  list_all-append,
)

-- ---- entries with different keys can be put in either order, and putting an entry that is already there has no effect

module _ {K X : Type 0} (R : K → K → Ordering) (o : IsTotalOrder R) where
  -- the first key is below the second
  put_below : (j k : K) (w v : X) → R j k ≡ Less → (es : List (K × X)) → put R k v (put R j w es) ≡ put R j w (put R k v es)
  put_below j k w v below [] = grind (arith)
  put_below j k w v below (e ∷ es) = grind (arith, put_below j k w v below es)

  -- at different keys, in either order
  pub put-put : (j k : K) (w v : X) (es : List (K × X)) → eq_by_cmp R j k ≡ false →
      put R k v (put R j w es) ≡ put R j w (put R k v es)
  put-put = grind (arith, put_below)

  -- an entry that is in sorted entries
  pub put-again : (k : K) (v : X) (es : List (K × X)) → ((x y : K) → R x y ≡ Equal → x ≡ y) → T (is_sorted R es) →
      find R k es ≡ Some v → put R k v es ≡ es
  put-again k v es same sorted there =
      same_entries R o same _ es (is_sorted-put R o k v es sorted) sorted (λ q. find-put R o q k v es ∙ by q _ refl)
    where
      by : (q : K) (b : Bool) → eq_by_cmp R q k ≡ b → cond b (Some v) (find R q es) ≡ find R q es
      by = grind arith

-- ---- the order of declarations does not matter: consistent declarations make the same draft in any order

-- ---- two entries of one map

names_turn : {X : Type 0} (j k : List ℕ) (w v : X) (es : List (List ℕ × X)) → same_bytes k j ≡ false
    → put bytes_cmp k v (put bytes_cmp j w es) ≡ put bytes_cmp j w (put bytes_cmp k v es)
names_turn j k w v es apart = sym (put-put _ nat_list_cmp_total k j v w es (sym (texts_ties k j) ∙ apart))

-- the same value at either name
units_turn : (j k : List ℕ) (es : List (List ℕ × Unit {0})) →
    put bytes_cmp k tt (put bytes_cmp j tt es) ≡ put bytes_cmp j tt (put bytes_cmp k tt es)
units_turn j k es = search (rules, same_name, names_turn)

keys_turn : {X : Type 0} (j k : CoefficientKey) (w v : X) (es : List (CoefficientKey × X)) → (same_bytes k.row j.row
    && same_bytes k.column j.column) ≡ false → put key_cmp k v (put key_cmp j w es) ≡ put key_cmp j w (put key_cmp k v es)
keys_turn j k w v es apart = sym (put-put _ key_total k j v w es (sym (key_ties k j) ∙ apart))

-- ---- two declarations

heads_apart : (a b : Slot) (more others : List Slot) → are_apart (a ∷ more) (b ∷ others) ≡ true → same_slot b a ≡ false
heads_apart = grind arith

-- Two declarations that share no slot make the same draft in either order.
pub with_declaration-with_declaration : (all : Draft) (x y : Declaration) → are_apart (slots_of x) (slots_of y) ≡ true
    → with_declaration (with_declaration all x) y ≡ with_declaration (with_declaration all y) x
with_declaration-with_declaration all (declare_sense a) (declare_sense b) h = absurd cc
with_declaration-with_declaration all (declare_objective a) (declare_objective b) h = absurd cc
with_declaration-with_declaration all (declare_constant a) (declare_constant b) h = absurd cc
with_declaration-with_declaration all (declare_row j w) (declare_row k v) h = grind (arith, names_turn, heads_apart)
with_declaration-with_declaration all (declare_rhs j w) (declare_rhs k v) h = grind (arith, names_turn, heads_apart)
with_declaration-with_declaration all (declare_range j w) (declare_range k v) h = grind (arith, names_turn, heads_apart)
with_declaration-with_declaration all (declare_column j) (declare_column k) h =
    ap (λ columns. record all { columns = columns }) (units_turn j k _)
with_declaration-with_declaration all (declare_coefficient j w) (declare_coefficient k v) h =
    grind (arith, keys_turn, heads_apart)
with_declaration-with_declaration all (declare_lower j w) (declare_lower k v) h = grind (arith, names_turn, heads_apart)
with_declaration-with_declaration all (declare_upper j w) (declare_upper k v) h = grind (arith, names_turn, heads_apart)
with_declaration-with_declaration all (declare_marked j) (declare_marked k) h =
    ap (λ marked. record all { marked = marked }) (units_turn j k _)
with_declaration-with_declaration all (declare_integer j) (declare_integer k) h =
    ap (λ integers. record all { integers = integers }) (units_turn j k _)
with_declaration-with_declaration all (declare_binary j) (declare_binary k) h =
    ap (λ binaries. record all { binaries = binaries }) (units_turn j k _)
with_declaration-with_declaration all (declare_semi j) (declare_semi k) h =
    ap (λ semis. record all { semis = semis }) (units_turn j k _)
with_declaration-with_declaration all _ _ h = refl

-- ---- slots, in either order

same_slot_turn : (a b : Slot) → same_slot a b ≡ same_slot b a
same_slot_turn (row_slot a) (row_slot b) = nat_list_eq_equiv.symm a b
same_slot_turn (rhs_slot a) (rhs_slot b) = nat_list_eq_equiv.symm a b
same_slot_turn (range_slot a) (range_slot b) = nat_list_eq_equiv.symm a b
same_slot_turn (coefficient_slot a) (coefficient_slot b) =
    λ i. nat_list_eq_equiv.symm a.row b.row i && nat_list_eq_equiv.symm a.column b.column i
same_slot_turn (lower_slot a) (lower_slot b) = nat_list_eq_equiv.symm a b
same_slot_turn (upper_slot a) (upper_slot b) = nat_list_eq_equiv.symm a b
same_slot_turn sense_slot sense_slot = refl
same_slot_turn objective_slot objective_slot = refl
same_slot_turn constant_slot constant_slot = refl
same_slot_turn _ _ = refl

apart_turn : (xs ys : List Slot) → are_apart xs ys ≡ are_apart ys xs
apart_turn [] ys = all_true ys
apart_turn (x ∷ xs) ys = grind (arith, apart-cons, same_slot_turn, apart_turn xs ys)

and_turn : (a b c : Bool) → (a && (b && c)) ≡ (b && (a && c))
and_turn = grind arith

or_turn : (a b c : Bool) → (a || (b || c)) ≡ (b || (a || c))
or_turn = grind arith

distinct_parts : (a b c e f g : Bool) → (a && ((c && e) && (b && (f && g)))) ≡ (b && ((c && f) && (a && (e && g))))
distinct_parts = grind arith

distinct_three : (xs ys zs : List Slot) → are_distinct same_slot (xs ++ (ys ++ zs)) ≡ (are_distinct same_slot xs
    && ((are_apart xs ys && are_apart xs zs) && (are_distinct same_slot ys && (are_apart ys zs && are_distinct same_slot zs))))
distinct_three = grind (arith, are_distinct-append, list_all-append)

distinct_turn : (xs ys zs : List Slot) → are_distinct same_slot (xs ++ (ys ++ zs)) ≡ are_distinct same_slot (ys ++ (xs ++ zs))
distinct_turn = grind (arith, distinct_three, distinct_parts, are_apart, apart_turn)

-- ---- declarations in another order

-- The second list has the declarations of the first: tests of all declarations and of their slots have the same results, and if
-- no slot is filled twice, both lists make the same draft.
record Reorders (xs ys : Declarations) : Type 0 where
  pub any : (p : Declaration → Bool) → list_any p xs ≡ list_any p ys
  pub all : (p : Declaration → Bool) → list_all p xs ≡ list_all p ys
  pub slots : (p : Slot → Bool) → list_all p (all_slots xs) ≡ list_all p (all_slots ys)
  pub distinct : are_distinct same_slot (all_slots xs) ≡ are_distinct same_slot (all_slots ys)
  pub draft : are_distinct same_slot (all_slots xs) ≡ true → (before : Draft) →
      with_declarations before xs ≡ with_declarations before ys

reorders_same : (xs : Declarations) → Reorders xs xs
reorders_same = grind arith

reorders_skip : (x : Declaration) (xs ys : Declarations) → Reorders xs ys → Reorders (x ∷ xs) (x ∷ ys)
reorders_skip = grind (arith, list_all-append, are_distinct-append, are_apart)

reorders_turn : (x y : Declaration) (xs : Declarations) → Reorders (x ∷ y ∷ xs) (y ∷ x ∷ xs)
reorders_turn = grind (
  arith,
  or_turn,
  and_turn,
  list_all-append,
  distinct_turn,
  are_apart,
  distinct_three,
  with_declaration-with_declaration,
)

reorders_chain : (xs ys zs : Declarations) → Reorders xs ys → Reorders ys zs → Reorders xs zs
reorders_chain = grind arith

reorders : (xs ys : Declarations) → IsPermutation xs ys → Reorders xs ys
reorders = along_permutation _ reorders_same reorders_skip reorders_turn reorders_chain

-- ---- what does not depend on the order

-- the draft
pub draft-permutation : (xs ys : Declarations) → IsPermutation xs ys → AreConsistent xs → draft_of xs ≡ draft_of ys
draft-permutation xs ys moved c = (reorders xs ys moved).draft c.once empty_draft

-- whether they are consistent
pub consistent-permutation : (xs ys : Declarations) → IsPermutation xs ys → AreConsistent xs → AreConsistent ys
consistent-permutation xs ys moved c = grind (arith, reorders xs ys moved, draft-permutation xs ys moved c)

-- In any order the declarations mean the same model.
pub means-permutation : (xs ys : Declarations) (m : LinearModel) → IsPermutation xs ys → Means xs m → Means ys m
means-permutation xs ys m moved means = grind
    (arith, consistent-permutation xs ys moved means.consistent, draft-permutation xs ys moved means.consistent)

-- ---- declared zero coefficients do not change the others; and lists that are made in parts

-- bytes that compare as equal are equal
pub same_bytes-true : (a b : List ℕ) → same_bytes a b ≡ true → a ≡ b
same_bytes-true = same_name

-- a list made in two steps
pub flat_map-flat_map : {X Y Z : Type 0} (f : Y → List Z) (g : X → List Y) (xs : List X)
    → flat_map f (flat_map g xs) ≡ flat_map (λ x. flat_map f (g x)) xs
flat_map-flat_map f g [] = refl
flat_map-flat_map f g (x ∷ xs) = grind (arith, flat_map-append, flat_map-flat_map f g xs)

-- parts that are all empty
pub flat_map-none : {X Y : Type 0} (xs : List X) → flat_map {A = Y} (λ (_ : X). []) xs ≡ []
flat_map-none [] = refl
flat_map-none (x ∷ xs) = flat_map-none xs

-- ---- lists made of the lists that elements make

pub flat-none : {X Y : Type 0} (f : X → List Y) → ((x : X) → f x ≡ []) → (xs : List X) → flat_map f xs ≡ []
flat-none f h [] = refl
flat-none f h (x ∷ xs) = λ i. h x i ++ flat-none f h xs i

pub flat-same : {X Y : Type 0} (f g : X → List Y) → ((x : X) → f x ≡ g x) → (xs : List X) → flat_map f xs ≡ flat_map g xs
flat-same f g h [] = refl
flat-same f g h (x ∷ xs) = λ i. h x i ++ flat-same f g h xs i

-- ---- the parts of a draft that declarations leave unchanged

-- a part that has a value keeps it
abbrev pub Stays : {X : Type 0} → (Draft → X) → X → Declaration → Type 0
Stays part value d = (all : Draft) → part all ≡ value → part (with_declaration all d) ≡ value

pub stays-all : {X : Type 0} (part : Draft → X) (value : X) (ds : Declarations) → Each (Stays part value) ds → (all : Draft)
    → part all ≡ value → part (with_declarations all ds) ≡ value
stays-all part value [] h all is = is
stays-all part value (d ∷ ds) h all is = stays-all _ _ ds h.1 _ (h.0 all is)

-- a part that no declaration changes
pub kept-all : {X : Type 0} (part : Draft → X) (ds : Declarations) →
    Each (λ d. (all : Draft) → part (with_declaration all d) ≡ part all) ds → (all : Draft) →
    part (with_declarations all ds) ≡ part all
kept-all part [] h all = refl
kept-all part (d ∷ ds) h all = kept-all part ds h.1 _ ∙ h.0 all

-- ---- what a later draft keeps of an earlier one: if no slot is filled twice, what was declared stays declared

-- ---- what a later draft keeps

-- The later draft keeps what the earlier one has.
pub record Extends (before after : Draft) : Type 0 where
  pub objective : (name : List ℕ) → before.objective ≡ Some name → after.objective ≡ Some name
  pub constant : is_some before.constant ≡ true → is_some after.constant ≡ true
  pub right_side : (name : List ℕ) → has_name before.rhs_values name ≡ true → has_name after.rhs_values name ≡ true
  pub row : (name : List ℕ) (definition : RowDefinition) → at_name before.rows name ≡ Some definition →
      at_name after.rows name ≡ Some definition
  pub column : (name : List ℕ) → has_column before name ≡ true → has_column after name ≡ true
  pub integer : (name : List ℕ) → is_integer before name ≡ true → is_integer after name ≡ true
  pub semi : (name : List ℕ) → is_semi before name ≡ true → is_semi after name ≡ true

pub itself : (all : Draft) → Extends all all
itself = grind arith

pub then_on : (a b c : Draft) → Extends a b → Extends b c → Extends a c
then_on a b c f g = record {
  objective = λ n h. g.objective n (f.objective n h);
  constant = λ h. g.constant (f.constant h);
  right_side = λ n h. g.right_side n (f.right_side n h);
  row = λ n definition h. g.row n _ (f.row n _ h);
  column = λ n h. g.column n (f.column n h);
  integer = λ n h. g.integer n (f.integer n h);
  semi = λ n h. g.semi n (f.semi n h);
}

pub more_entries : {X : Type 0} (q k : List ℕ) (v : X) (es : List (List ℕ × X)) → has_name es q ≡ true →
    has_name (put bytes_cmp k v es) q ≡ true
more_entries = grind (arith, has-put, or_right)

-- one more row, of a new name
kept_row : (b : Bool) (new : RowDefinition) (o : Option RowDefinition) (definition : RowDefinition) →
    (b ≡ true → o ≡ Some definition → ⊥) → o ≡ Some definition → cond b (Some new) o ≡ Some definition
kept_row = grind arith

is_new_row : (all : Draft) (name q : List ℕ) (definition : RowDefinition) (rest : Bool) → (not (has_row all name) && rest) ≡ true
    → same_bytes q name ≡ true → at_name all.rows q ≡ Some definition → ⊥
is_new_row all name q definition rest h same found = search (rules, same_name, not_so, or_right)

pub extends-with_declaration : (all : Draft) (d : Declaration) → are_fresh all (slots_of d) ≡ true →
    Extends all (with_declaration all d)
extends-with_declaration all (declare_row name definition) h = grind (arith, at-put, kept_row, is_new_row)
extends-with_declaration all (declare_rhs row v) h = grind (arith, more_entries)
extends-with_declaration all (declare_column name) h = grind (arith, more_entries)
extends-with_declaration all (declare_marked c) h = grind (arith, either_more, more_entries)
extends-with_declaration all (declare_integer c) h = grind (arith, either_more, more_entries)
extends-with_declaration all (declare_binary c) h = grind (arith, either_more, more_entries)
extends-with_declaration all (declare_semi c) h = grind (arith, more_entries)
extends-with_declaration all _ h = grind arith

pub extends-in_turn : (declarations : Declarations) (before : Draft) → are_fresh_in_turn before declarations ≡ true
    → Extends before (with_declarations before declarations)
extends-in_turn [] before h = itself _
extends-in_turn (d ∷ more) before h = then_on _ _ _ (extends-with_declaration _ d (first_so _ (are_fresh_in_turn _ more) h))
    (extends-in_turn more _ (second_so _ (are_fresh_in_turn _ more) h))

-- ---- what follows for names

pub objective_is : (o : Option (List ℕ)) (q : List ℕ) → option_map_or (same_bytes q) o false ≡ true → o ≡ Some q
objective_is o q h = search (rules, same_name)

pub value_in : {X : Type 0} (o : Option X) → is_some o ≡ true → (x : X) × (o ≡ Some x)
value_in = grind arith

pub itself_named : (q : List ℕ) → same_bytes q q ≡ true
itself_named q = nat_list_eq_equiv.refl q

pub is_objective-after : (before after : Draft) (q : List ℕ) → Extends before after → is_objective before q ≡ true →
    is_objective after q ≡ true
is_objective-after = grind arith

pub has_row-after : (before after : Draft) (q : List ℕ) → Extends before after → has_row before q ≡ true → has_row after q ≡ true
has_row-after = grind arith

pub known-after : (before after : Draft) (d : Declaration) → Extends before after → is_known before d ≡ true →
    is_known after d ≡ true
known-after before after (declare_rhs row v) e h = has_row-after _ _ row e h
known-after before after (declare_range row v) e h = has_row-after _ _ row e h
known-after before after (declare_coefficient key v) e h = grind arith
known-after before after (declare_lower c l) e h = e.column c h
known-after before after (declare_upper c l) e h = e.column c h
known-after before after (declare_marked c) e h = e.column c h
known-after before after (declare_integer c) e h = e.column c h
known-after before after (declare_binary c) e h = e.column c h
known-after before after (declare_semi c) e h = e.column c h
known-after before after _ e h = refl
