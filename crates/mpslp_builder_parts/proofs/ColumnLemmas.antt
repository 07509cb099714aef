-- Entries of which contracts see a part each, for any function that gives this part.
use Rattle.std.proofs.Common.{◌≡◌, refl, sym, ap, ◌∙◌, ℕ, zero, suc, ◌<◌, List, [], ◌∷◌, ◌++◌, length, Bool, true, false, cond}
use Rattle.std.proofs.Common.{arith, rules}
use Rattle.std.specs.Prelude.{Option, None, Some, is_some, slice_get, OnOk, OnErr, Result}
use Rattle.std.specs.{FinMap.find, List.{AllByRecursion, IsDistinct, position_or_len}, Map.{keys_of, lookup, lookup_key}}
use Rattle.std.specs.{Cmp.Lexicographic.texts_ties, Option.{option_map, option_map_or}}
use Rattle.indexmap.specs.IndexMap.{insert_entry, set_value_at}
use Rattle.mpslp_decimal.specs.Decimal.{Number}
use Rattle.mpslp_types.specs.Name.{bytes_cmp, same_bytes}
use Rattle.mpslp_model_core.specs.Numbered.{IsOnce, each_part}
use Rattle.mpslp_builder_parts.specs.ColumnTable.{ColumnEntries, IsChanged, cells_in_column, name_in}
use Rattle.mpslp_builder_parts.specs.Parts.{ColumnParts, cells_of, no_part}
use Rattle.mpslp_builder_parts.proofs.{PassLemmas.each_part-append, TakenLemmas.part_at}

-- ---- one entry

module _ {V X : Type 0} (f : V → X) where
  pub each_part-set : (es : List (List ℕ × V)) (i : ℕ) (w : V) →
      each_part f (set_value_at es i w) ≡ set_value_at (each_part f es) i (f w)
  each_part-set [] i w = refl
  each_part-set (e ∷ es) zero w = refl
  each_part-set (e ∷ es) (suc i) w = ap (λ (more : List (List ℕ × X)). (e.0, f e.1) ∷ more) (each_part-set es i w)

  -- a write that keeps this part
  pub each_part-kept : (es : List (List ℕ × V)) (i : ℕ) (k : List ℕ) (v w : V) → slice_get es i ≡ Some (k, v) → f w ≡ f v
      → each_part f (set_value_at es i w) ≡ each_part f es
  each_part-kept [] i k v w at same = refl
  each_part-kept (e ∷ es) zero k v w at same = grind (arith)
  each_part-kept (e ∷ es) (suc i) k v w at same = grind (arith, at, each_part-kept es i k v w at same)

  -- an entry keeps its name
  pub name_of_part : (es : List (List ℕ × V)) (i : ℕ)
      → option_map (λ e. e.0) (slice_get es i) ≡ option_map (λ e. e.0) (slice_get (each_part f es) i)
  name_of_part [] i = refl
  name_of_part (e ∷ es) zero = refl
  name_of_part (e ∷ es) (suc i) = name_of_part es i

  -- an entry with a name is there
  pub place_of_part : (es : List (List ℕ × V)) (i : ℕ) → is_some (option_map (λ e. e.0) (slice_get (each_part f es) i)) ≡ true
      → i < length es
  place_of_part [] i there = cc
  place_of_part (e ∷ es) zero there = omega arith
  place_of_part (e ∷ es) (suc i) there = let more = place_of_part es i there in omega (arith, more)

  -- the part of a part
  pub each_part-twice : {Y : Type 0} (g : X → Y) (es : List (List ℕ × V)) →
      each_part g (each_part f es) ≡ each_part (λ v. g (f v)) es
  each_part-twice g [] = refl
  each_part-twice {Y} g (e ∷ es) = ap (λ (more : List (List ℕ × Y)). (e.0, g (f e.1)) ∷ more) (each_part-twice g es)

  pub find-each_part : (q : List ℕ) (es : List (List ℕ × V))
      → find bytes_cmp q (each_part f es) ≡ option_map f (lookup (λ k. same_bytes q k) es)
  find-each_part q [] = refl
  find-each_part q (e ∷ es) =
      ap (λ b. cond b (Some (f e.1)) (find bytes_cmp q (each_part f es))) (sym (texts_ties q e.0))
      ∙ (grind (arith, find-each_part q es))

  none_of : (q : List ℕ) (es : List (List ℕ × V)) → AllByRecursion (λ y. same_bytes q y ≡ false) (keys_of es)
      → find bytes_cmp q (each_part f es) ≡ None
  none_of q [] h = refl
  none_of q (e ∷ es) h =
      ap (λ b. cond b (Some (f e.1)) (find bytes_cmp q (each_part f es))) (sym (texts_ties q e.0) ∙ h.0) ∙ none_of q es h.1

  -- distinct keys give distinct names
  pub once-from_distinct : (es : List (List ℕ × V)) → IsDistinct (λ x y. same_bytes x y) (keys_of es) → IsOnce (each_part f es)
  unfolding IsDistinct
  once-from_distinct [] h = tt
  once-from_distinct (e ∷ es) h = (none_of e.0 es h.0, once-from_distinct es h.1)

-- a name that is there keeps its place when it is inserted, so its value can be put back
pub value_back : {V : Type 0} (q : List ℕ) (w old : V) (es : List (List ℕ × V)) → Some old ≡ lookup (λ k. same_bytes q k) es
    → set_value_at (insert_entry (λ x y. same_bytes x y) es q w) (position_or_len (λ k. same_bytes q k) (keys_of es)) old ≡ es
value_back q w old [] h = cc
value_back q w old (e ∷ es) h = grind (arith, value_back q w old es)

-- ---- what a look-up shows

key_found : {K X : Type 0} (t : K → Bool) (es : List (K × X)) (k : K) → Some k ≡ lookup_key t es → t k ≡ true
key_found t [] k h = cc
key_found {K} t (e ∷ es) k h = grind (arith, key_found t es k)

-- so has the one at whose index a name is inserted that is there
pub name_back : {V : Type 0} (q : List ℕ) (old : V) (es : List (List ℕ × V)) → Some old ≡ lookup (λ k. same_bytes q k) es
    → option_map (λ e. e.0) (slice_get es (position_or_len (λ k. same_bytes q k) (keys_of es))) ≡ Some q
name_back q old [] h = cc
name_back q old (e ∷ es) h = search (rules, h, name_back q old es)

-- the entry that is found has the name that was looked for
pub found_name : {X : Type 0} (q : List ℕ) (es : List (List ℕ × X)) (i : ℕ) (k : List ℕ) (x : X) → slice_get es i ≡ Some (k, x)
    → Some k ≡ lookup_key (λ k. same_bytes q k) es → option_map (λ e. e.0) (slice_get es i) ≡ Some q
found_name {X} q es i k x at h = search (rules, at, key_found)

pub on_err : {A E P Q : Type 0} (r : Result A E) → (P → Q) → OnErr r P → OnErr r Q
on_err = grind arith

pub on_ok : {A E P Q : Type 0} (r : Result A E) → (P → Q) → OnOk r P → OnOk r Q
on_ok = grind arith

pub none_there : {X : Type 0} (o : Option X) → is_some o ≡ false → o ≡ None
none_there = grind arith

pub some_mapped : {X Y : Type 0} (f : X → Y) (o : Option X) → is_some (option_map f o) ≡ is_some o
some_mapped = grind arith

mapped_twice : {X Y Z : Type 0} (f : X → Y) (g : Y → Z) (o : Option X) →
    option_map g (option_map f o) ≡ option_map (λ x. g (f x)) o
mapped_twice = grind arith

mapped_or : {X Y : Type 0} (f : X → List Y) (o : Option X) →
    option_map_or (λ part. part) (option_map f o) [] ≡ option_map_or f o []
mapped_or = grind arith

-- ---- the columns of a table

module _ {V : Type 0} (f : V → ColumnParts) (es : List (List ℕ × V)) (old : ColumnEntries)
    (view_is : record { entries = each_part f es } ≡ old) where
  -- a column that has a name in the view is stored
  pub place_within : (i : ℕ) → is_some (name_in old i) ≡ true → i < length es
  place_within i there = place_of_part f es i (ap (λ (columns : ColumnEntries). is_some (name_in columns i)) view_is ∙ there)

  -- a column is found by a key if it is found by its name
  pub found_part : (q : List ℕ) →
      is_some (lookup (λ k. same_bytes q k) es) ≡ is_some (find bytes_cmp q (each_part no_part old.entries))
  found_part q = sym (some_mapped (λ v. no_part (f v)) (lookup (λ k. same_bytes q k) es))
      ∙ ap is_some (sym (find-each_part (λ v. no_part (f v)) q es))
      ∙ ap (λ (parts : List (List ℕ × Unit {0})). is_some (find bytes_cmp q parts)) (sym (each_part-twice f no_part es)
      ∙ ap (λ (columns : ColumnEntries). each_part no_part columns.entries) view_is)

  -- one more entry
  pub added : (more : List (List ℕ × V)) (k : List ℕ) (v : V) → more ≡ es ++ (k, v) ∷ [] → (w : ColumnParts) → f v ≡ w
      → each_part f more ≡ old.entries ++ (k, w) ∷ []
  added more k v is w same = ap (each_part f) is ∙ each_part-append f es k v ∙ (λ j. (view_is j).entries ++ (k, same j) ∷ [])

  -- a part of the column of a number
  pub parts_there : {X : Type 0} (g : ColumnParts → X) (i : ℕ)
      → option_map (λ (e : List ℕ × V). g (f e.1)) (slice_get es i)
      ≡ option_map (λ (e : List ℕ × ColumnParts). g e.1) (slice_get old.entries i)
  parts_there g i = sym (mapped_twice (λ (e : List ℕ × V). (e.0, f e.1)) (λ e. g e.1) (slice_get es i))
      ∙ ap (option_map (λ (e : List ℕ × ColumnParts). g e.1)) (sym (part_at f es i)
      ∙ ap (λ (columns : ColumnEntries). slice_get columns.entries i) view_is)

  -- its coefficients
  pub cells_there : (i : ℕ) (o : Option (List ℕ × V)) → o ≡ slice_get es i
      → option_map_or (λ (e : List ℕ × V). cells_of (f e.1)) o [] ≡ cells_in_column old i
  cells_there i o is = ap (λ (o : Option (List ℕ × V)). option_map_or (λ e. cells_of (f e.1)) o []) is
      ∙ sym (mapped_or (λ (e : List ℕ × V). cells_of (f e.1)) (slice_get es i))
      ∙ ap (λ (cells : Option (List (ℕ × Number))). option_map_or (λ part. part) cells []) (parts_there cells_of i)
      ∙ mapped_or (λ (e : List ℕ × ColumnParts). cells_of e.1) (slice_get old.entries i)

  module _ (i : ℕ) (k : List ℕ) (v : V) (at : slice_get es i ≡ Some (k, v)) where
    pub was_in : slice_get old.entries i ≡ Some (k, f v)
    was_in = ap (λ (columns : ColumnEntries). slice_get columns.entries i) (sym view_is) ∙ part_at f es i
        ∙ ap (option_map (λ (e : List ℕ × V). (e.0, f e.1))) at

    -- what is written is the changed part
    pub changed : (change : ColumnParts → ColumnParts) (w : V) → f w ≡ change (f v)
        → IsChanged i change old (record { entries = each_part f (set_value_at es i w) })
    changed change w is = record {
      key = k;
      parts = f v;
      was = was_in;
      written = each_part-set f es i w ∙ (λ j. set_value_at (view_is j).entries i (is j));
    }

    -- writing what has the same part changes nothing
    pub unchanged : (w : V) → f w ≡ f v → each_part f (set_value_at es i w) ≡ old.entries
    unchanged w same = each_part-kept f es i k v w at same ∙ ap (λ (columns : ColumnEntries). columns.entries) view_is
