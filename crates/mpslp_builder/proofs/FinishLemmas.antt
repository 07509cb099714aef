-- The model that finish makes of tables whose rows and columns are sorted by name.
use Rattle.mpslp_builder.proofs.Prelude
use Prelude.{◌≡◌, refl, sym, ap, subst, ◌∙◌, ℕ, zero, suc, ◌+◌, ◌<◌, List, [], ◌∷◌, length, map, arith, Bool, true, false, cond}
use Prelude.{IsPermutation, Option, Some, None, slice_get, filter_map, option_map_or, is_eq, is_lt, eq_by_cmp, find}
use Prelude.{cons_option, range_with_len, IsSortedBy, bytes_cmp, same_bytes, Each, Each-both, sorted_of, each_part}
use Prelude.{given_parts, IsOnce, bytes_total, tied_names, along_permutation, all-from_each, name_at, entries_at, ◌++◌, is_some, option_map}
use Prelude.{Number, Sense, Each-weaker, IsInjective, find-sorted_of, or_else, find-two, name_same, ObjectiveParts, ColumnParts, RowParts}
use Prelude.{Draft, at_name, declared_of, column_of, row_entry, definition_of, rhs_of, range_of, no_part, lower_of, upper_of, as_part}
use Prelude.{mark_of, integer_of, binary_of, semi_of, objective_rhs, name_of_row_key, draft_from, declared_in, get_or, inl, inr, ◌⊎◌}
use Prelude.{filter, slice_index, option_and_then, nat_cmp, lookup, list_all, Each-from_list_all, Row, key_cmp}
use Prelude.{columns_in, all_cells, all_named, is_kept, ModelParts, name_tied, moved_in, order_within, cells_of, name_of_objective}
use Prelude.{cells_by_name, AreNumbered, rules, ◌≢◌, unwrap_or, All, negated, zero_number, constant_of, rhs_in, itself, order_length}
use Prelude.{order_apart, as_many, is_sorted, put, Minimize, Free, true_from, both_so, Each-map, plain_limits, linear_model}
use Prelude.{AreModelParts, moved_cells, is_sorted-sorted_of, is_sorted-filter, each-kept, IsMade, objective_name, row_limits, model_of}
use Prelude.{DraftMeans, file_fault, list_all-from_Each}
use Rattle.std.proofs.lemmas.List.Sorted.{IsPermutation-refl, IsPermutation-cons, IsPermutation-trans, IsPermutation-map, All-permutation}
use Rattle.std.specs.{Cmp.{tied_itself}}
use Rattle.mpslp_model_core.proofs.CellLemmas.{NeverFalls, never_falls-from_sort, permuted-is_map, two_heads, find-permutation}
use Rattle.mpslp_model_core.proofs.{CellLemmas.once-permutation, RenumberLemmas.{each-from_all, unless_zero, find-moved, renumbered}}
use Rattle.mpslp_builder_parts.specs.Parts.{limits_in, bounds_of}
use Rattle.mpslp_builder_parts.proofs.RankLemmas.{AreRanks, rank_at, ranks_length, ranks_apart, get-taken, place_below, length-taken}
use Rattle.mpslp_builder.proofs.{TableDrafts.{find-each_part, once_too}, MadeDrafts.meant-from_made, DraftEntries.sorted-from_made}
use Rattle.mpslp_builder.proofs.MeaningFromNoFault.{sorted-mapped}
use Rattle.mpslp_model_core.specs.ModelParts as parts

-- ---- entries that are sorted by name: the part of each is in the order of the maps of a draft

-- ---- what numbers refer to, in another order

-- one more in front, if there is one
front_kept : {Y : Type 0} (o : Option Y) (xs ys : List Y) → IsPermutation xs ys →
    IsPermutation (cons_option o xs) (cons_option o ys)
front_kept None xs ys h = h
front_kept (Some x) xs ys h = IsPermutation-cons x xs ys h

fronts_turned : {Y : Type 0} (a b : Option Y) (xs : List Y)
    → IsPermutation (cons_option a (cons_option b xs)) (cons_option b (cons_option a xs))
fronts_turned = grind (arith, two_heads)

filter_map-permutation : {X Y : Type 0} (f : X → Option Y) (xs ys : List X) → IsPermutation xs ys
    → IsPermutation (filter_map f xs) (filter_map f ys)
filter_map-permutation f = along_permutation (λ xs ys. IsPermutation (filter_map f xs) (filter_map f ys))
    (λ xs. IsPermutation-refl (filter_map f xs)) (λ x xs ys h. front_kept (f x) (filter_map f xs) (filter_map f ys) h) (λ x y xs.
    fronts_turned (f x) (f y) (filter_map f xs)) (λ xs ys zs. IsPermutation-trans (filter_map f xs) (filter_map f ys)
    (filter_map f zs))

taken-range : {X : Type 0} (xs ys : List X) (k : ℕ) → ((i : ℕ) → i < length ys → slice_get xs (k + i) ≡ slice_get ys i)
    → entries_at xs (range_with_len k (length ys)) ≡ ys
taken-range xs [] k h = refl
taken-range {X} xs (y ∷ ys) k h = let here : k + 0 ≡ k = omega arith in
    let first : slice_get xs k ≡ Some y = ap (slice_get xs) (sym here) ∙ h zero (omega arith) in
    (λ i. cons_option (first i) (entries_at xs (range_with_len (k + 1) (length ys)))) ∙ ap (λ (more : List X). y ∷ more)
    (taken-range xs ys (k + 1) (λ i l. let step : (k + 1) + i ≡ k + suc i = omega arith in
    ap (slice_get xs) step ∙ h (suc i) (omega (arith, l))))

taken-all : {X : Type 0} (xs : List X) → entries_at xs (range_with_len 0 (length xs)) ≡ xs
taken-all xs = taken-range xs xs 0 (λ i l. let none : 0 + i ≡ i = omega arith in ap (slice_get xs) none)

pub taken-permutation : {X : Type 0} (xs : List X) (order : List ℕ) → IsPermutation (range_with_len 0 (length xs)) order
    → IsPermutation xs (entries_at xs order)
taken-permutation xs order p = subst (λ (ys : List _). IsPermutation ys (entries_at xs order)) (taken-all xs)
    (filter_map-permutation (slice_get xs) (range_with_len 0 (length xs)) order p)

-- ---- their names do not descend

name_at-get : {V : Type 0} (entries : List (List ℕ × V)) (n : ℕ) (e : List ℕ × V) → slice_get entries n ≡ Some e →
    name_at entries n ≡ e.0
name_at-get = grind arith

taken-each : {X : Type 0} (xs : List X) (Q : ℕ → Type 0) (P : X → Type 0) →
    ((n : ℕ) (x : X) → slice_get xs n ≡ Some x → Q n → P x) → (ns : List ℕ) → Each Q ns → Each P (entries_at xs ns)
taken-each xs Q P f [] h = tt
taken-each {X} xs Q P f (n ∷ ns) h = grind (arith, taken-each xs Q P f ns h.1)

never_falls-taken : {V : Type 0} (entries : List (List ℕ × V)) (ns : List ℕ) → NeverFalls (λ n m. is_lt
    (bytes_cmp (name_at entries n) (name_at entries m))) ns →
    NeverFalls (λ e d. is_lt (bytes_cmp e.0 d.0)) (entries_at entries ns)
never_falls-taken entries [] h = tt
never_falls-taken {V} entries (n ∷ ns) h =
    elim (slice_get entries n) as (λ o. slice_get entries n ≡ o
    → NeverFalls (λ e d. is_lt (bytes_cmp e.0 d.0)) (cons_option o (entries_at entries ns))) [
      | None ↦ λ _. never_falls-taken entries ns h.1
      | Some e ↦ λ is. (
        taken-each entries (λ m. is_lt (bytes_cmp (name_at entries m) (name_at entries n)) ≡ false)
            (λ d. is_lt (bytes_cmp d.0 e.0) ≡ false) (λ m d at below. let there = name_at-get entries m d at in
            let here = name_at-get entries n e is in
            sym (λ i. is_lt (bytes_cmp (there i) (here i))) ∙ below) ns h.0,
        never_falls-taken entries ns h.1,
      )
    ] refl

module _ {V X : Type 0} (f : V → X) where
  part-map : (es : List (List ℕ × V)) → each_part f es ≡ map (λ e. (e.0, f e.1)) es
  part-map [] = refl
  part-map (e ∷ es) = grind (arith, part-map es)

  part-each : (P : List ℕ → Type 0) (es : List (List ℕ × V)) → Each (λ e. P e.0) es → Each (λ e. P e.0) (each_part f es)
  part-each P [] h = tt
  part-each P (e ∷ es) h = (h.0, part-each P es h.1)

  part-never_falls : (es : List (List ℕ × V)) → NeverFalls (λ e d. is_lt (bytes_cmp e.0 d.0)) es
      → NeverFalls (λ e d. is_lt (bytes_cmp e.0 d.0)) (each_part f es)
  part-never_falls [] h = tt
  part-never_falls (e ∷ es) h = (part-each (λ name. is_lt (bytes_cmp name e.0) ≡ false) es h.0, part-never_falls es h.1)

  pub parts-permutation : (es ordered : List (List ℕ × V)) → IsPermutation es ordered →
      IsPermutation (each_part f es) (each_part f ordered)
  parts-permutation es ordered p = subst (λ (xs : List (List ℕ × X)). IsPermutation xs (each_part f ordered)) (sym (part-map es))
      (subst (IsPermutation (map (λ (e : List ℕ × V). (e.0, f e.1)) es)) (sym (part-map ordered))
      (IsPermutation-map (λ (e : List ℕ × V). (e.0, f e.1)) es ordered p))

  -- the parts of the entries, in the order of their names, are those of the map
  pub ordered_parts : (es : List (List ℕ × V)) (order : List ℕ) → IsOnce (each_part f es)
      → IsPermutation (range_with_len 0 (length es)) order →
      IsSortedBy (λ n m. is_lt (bytes_cmp (name_at es n) (name_at es m))) order →
      each_part f (entries_at es order) ≡ sorted_of bytes_cmp (each_part f es)
  ordered_parts es order once p sorted = permuted-is_map bytes_cmp bytes_total tied_names (each_part f es)
      (each_part f (entries_at es order)) once (parts-permutation es (entries_at es order) (taken-permutation es order p))
      (part-never_falls (entries_at es order)
      (never_falls-taken es order (never_falls-from_sort bytes_total (name_at es) order sorted)))

-- ---- what is found at an entry's own name

differs : {V X : Type 0} (f : V → X) (q : List ℕ) (es : List (List ℕ × V)) → find bytes_cmp q (each_part f es) ≡ None
    → Each (λ d. eq_by_cmp bytes_cmp d.0 q ≡ false) es
differs f q [] h = tt
differs f q (e ∷ es) h = grind (arith, bytes_total, differs f q es)

module _ {V X : Type 0} (f : V → Option X) where
  pub no_part-found : (q : List ℕ) (es : List (List ℕ × V)) → Each (λ d. eq_by_cmp bytes_cmp d.0 q ≡ false) es
      → find bytes_cmp q (given_parts f es) ≡ None
  no_part-found q [] h = refl
  no_part-found q (e ∷ es) h = grind (arith, bytes_total, no_part-found q es h.1)

  -- each entry's own part is found at its name
  pub own_parts : {Y : Type 0} (g : V → Y) (es : List (List ℕ × V)) → IsOnce (each_part g es)
      → Each (λ e. find bytes_cmp e.0 (given_parts f es) ≡ f e.1) es
  own_parts g [] h = tt
  own_parts g (e ∷ es) h =
      let others = differs g e.0 es h.0 in
      let rest = given_parts f es in
      let tie : eq_by_cmp bytes_cmp e.0 e.0 ≡ true = ap is_eq (tied_itself bytes_total e.0) in
      elim (f e.1) as (λ o. f e.1 ≡ o →
      Each (λ d. find bytes_cmp d.0 (option_map_or (λ x. (e.0, x) ∷ rest) o rest) ≡ f d.1) (e ∷ es)) [
        | None ↦ λ none. (no_part-found e.0 es others ∙ sym none, own_parts g es h.1)
        | Some x ↦ λ is. (
          ap (λ (b : Bool). cond b (Some x) (find bytes_cmp e.0 rest)) tie ∙ sym is,
          Each-both (λ d. eq_by_cmp bytes_cmp d.0 e.0 ≡ false) (λ d. find bytes_cmp d.0 rest ≡ f d.1)
              (λ d. cond (eq_by_cmp bytes_cmp d.0 e.0) (Some x) (find bytes_cmp d.0 rest) ≡ f d.1)
              (λ d apart own. ap (λ (b : Bool). cond b (Some x) (find bytes_cmp d.0 rest)) apart ∙ own) es others
              (own_parts g es h.1),
        )
      ] refl

-- a property of all entries is one of all entries in another order
pub each-ordered : {V : Type 0} (P : List ℕ × V → Type 0) (es : List (List ℕ × V)) (order : List ℕ)
    → IsPermutation (range_with_len 0 (length es)) order → Each P es → Each P (entries_at es order)
each-ordered P es order p h =
    each-from_all P (entries_at es order) (All-permutation P es (entries_at es order) (taken-permutation es order p)
    (all-from_each P es h))

-- ---- keys that are distinct

-- ---- what tables state of a row or of a column is what their draft states of its name

-- a property at each index is one of each entry
each-from_get : {X : Type 0} (P : X → Type 0) (xs : List X) → ((i : ℕ) (x : X) → slice_get xs i ≡ Some x → P x) → Each P xs
each-from_get P [] h = tt
each-from_get P (x ∷ xs) h = (h zero x refl, each-from_get P xs (λ i y is. h (suc i) y is))

-- ---- rows

-- what a draft states of a row's name
abbrev pub SaysRow : Draft → List ℕ × RowParts → Type 0
SaysRow d e = (at_name d.rhs_values e.0 ≡ e.1.rhs) × (at_name d.ranges e.0 ≡ e.1.range)

no_objective : (objective : Option ObjectiveParts) (rows : List (List ℕ × RowParts)) →
    IsInjective (name_of_row_key objective rows) → (i : ℕ) (e : List ℕ × RowParts) → slice_get rows i ≡ Some e →
    find bytes_cmp e.0 (objective_rhs objective) ≡ None
no_objective None rows apart i e is = refl
no_objective (Some o) rows apart i e is =
    elim (o.rhs) as (λ r. find bytes_cmp e.0 (option_map_or (λ value. (o.name, value) ∷ []) r []) ≡ None) [
      | None ↦ refl
      | Some value ↦
          elim (eq_by_cmp bytes_cmp e.0 o.name) as (λ b. eq_by_cmp bytes_cmp e.0 o.name ≡ b → cond b (Some value) None ≡ None) [
            | true ↦ λ tie.
                let same : e.0 ≡ o.name = name_same e.0 o.name tie in
                let zero_is : zero
                ≡ suc i = apart zero (suc i) o.name refl (ap (option_map (λ (e : List ℕ × RowParts). e.0)) is ∙ ap Some same) in
                absurd (cc)
            | false ↦ λ _. refl
          ] refl
    ]

pub rows_say : (sense : Option Sense) (constant : Option Number) (objective : Option ObjectiveParts)
    (rows : List (List ℕ × RowParts)) (columns : List (List ℕ × ColumnParts)) →
    IsInjective (name_of_row_key objective rows) → IsOnce (each_part definition_of rows) →
    Each (SaysRow (draft_from sense constant objective rows columns)) rows
rows_say sense constant objective rows columns apart once =
    Each-both (λ e. at_name (sorted_of bytes_cmp (objective_rhs objective ++ given_parts rhs_of rows)) e.0 ≡ e.1.rhs)
    (λ e. at_name (sorted_of bytes_cmp (given_parts range_of rows)) e.0 ≡ e.1.range)
    (SaysRow (draft_from sense constant objective rows columns)) (λ e a b. (a, b)) rows
    (Each-both (λ e. find bytes_cmp e.0 (objective_rhs objective) ≡ None)
    (λ e. find bytes_cmp e.0 (given_parts rhs_of rows) ≡ e.1.rhs)
    (λ e. at_name (sorted_of bytes_cmp (objective_rhs objective ++ given_parts rhs_of rows)) e.0 ≡ e.1.rhs)
    (λ e none own. find-sorted_of bytes_cmp bytes_total e.0
    (objective_rhs objective ++ given_parts rhs_of rows) ∙ find-two bytes_cmp e.0 (objective_rhs objective)
    (given_parts rhs_of rows) ∙ ap (λ (o : Option Number). or_else o (find bytes_cmp e.0 (given_parts rhs_of rows)))
    none ∙ own) rows (each-from_get (λ e. find bytes_cmp e.0 (objective_rhs objective) ≡ None) rows
    (no_objective objective rows apart)) (own_parts rhs_of definition_of rows once))
    (Each-weaker (λ e. find bytes_cmp e.0 (given_parts range_of rows) ≡ e.1.range)
    (λ e. at_name (sorted_of bytes_cmp (given_parts range_of rows)) e.0 ≡ e.1.range)
    (λ e own. find-sorted_of bytes_cmp bytes_total e.0 (given_parts range_of rows) ∙ own) rows
    (own_parts range_of definition_of rows once))

-- rows with the same parts as in the draft have the limits that are meant
pub rows_meant : (d : Draft) (rows : List (List ℕ × RowParts)) → Each (SaysRow d) rows
    → each_part limits_in rows ≡ map (row_entry d) (each_part definition_of rows)
rows_meant d [] h = refl
rows_meant d (e ∷ rows) h = grind (arith, rows_meant d rows h.1)

-- ---- columns

abbrev pub SaysColumn : Draft → List ℕ × ColumnParts → Type 0
SaysColumn d e = declared_in e.1 ≡ declared_of d e.0

is_part : (b : Bool) → is_some (as_part b) ≡ b
is_part = grind arith

module _ (columns : List (List ℕ × ColumnParts)) (once : IsOnce (each_part no_part columns)) where
  says : {X : Type 0} (f : ColumnParts → Option X) →
      Each (λ e. f e.1 ≡ at_name (sorted_of bytes_cmp (given_parts f columns)) e.0) columns
  says f = Each-weaker (λ e. find bytes_cmp e.0 (given_parts f columns) ≡ f e.1)
      (λ e. f e.1 ≡ at_name (sorted_of bytes_cmp (given_parts f columns)) e.0)
      (λ e own. sym (find-sorted_of bytes_cmp bytes_total e.0 (given_parts f columns) ∙ own)) columns
      (own_parts f no_part columns once)

  pub columns_say : (sense : Option Sense) (constant : Option Number) (objective : Option ObjectiveParts)
      (rows : List (List ℕ × RowParts)) → Each (SaysColumn (draft_from sense constant objective rows columns)) columns
  columns_say sense constant objective rows =
      let d = draft_from sense constant objective rows columns in
      let sides = Each-both (λ e. e.1.sides.lower ≡ at_name d.lowers e.0) (λ e. e.1.sides.upper ≡ at_name d.uppers e.0)
      (λ e. (e.1.sides.lower ≡ at_name d.lowers e.0) × (e.1.sides.upper ≡ at_name d.uppers e.0)) (λ e a b. (a, b))
      columns (says lower_of) (says upper_of) in
      let whole = Each-both (λ e. mark_of e.1 ≡ at_name d.marked e.0) (λ e. integer_of e.1 ≡ at_name d.integers e.0)
      (λ e. (mark_of e.1 ≡ at_name d.marked e.0) × (integer_of e.1 ≡ at_name d.integers e.0)) (λ e a b. (a, b)) columns
      (says mark_of) (says integer_of) in
      let kinds = Each-both (λ e. binary_of e.1 ≡ at_name d.binaries e.0) (λ e. semi_of e.1 ≡ at_name d.semis e.0)
      (λ e. (binary_of e.1 ≡ at_name d.binaries e.0) × (semi_of e.1 ≡ at_name d.semis e.0)) (λ e a b. (a, b)) columns
      (says binary_of) (says semi_of) in
      let flags = Each-both (λ e. (mark_of e.1 ≡ at_name d.marked e.0) × (integer_of e.1 ≡ at_name d.integers e.0))
      (λ e. (binary_of e.1 ≡ at_name d.binaries e.0) × (semi_of e.1 ≡ at_name d.semis e.0))
      (λ e. ((mark_of e.1 ≡ at_name d.marked e.0) × (integer_of e.1 ≡ at_name d.integers e.0))
      × ((binary_of e.1 ≡ at_name d.binaries e.0) × (semi_of e.1 ≡ at_name d.semis e.0))) (λ e a b. (a, b)) columns whole kinds in
      Each-both (λ e. (e.1.sides.lower ≡ at_name d.lowers e.0) × (e.1.sides.upper ≡ at_name d.uppers e.0))
      (λ e. ((mark_of e.1 ≡ at_name d.marked e.0) × (integer_of e.1 ≡ at_name d.integers e.0))
      × ((binary_of e.1 ≡ at_name d.binaries e.0) × (semi_of e.1 ≡ at_name d.semis e.0)))
      (SaysColumn d)
      (λ e s f i. record {
        lower = s.0 i;
        upper = s.1 i;
        marked = (sym (is_part e.1.marked) ∙ ap is_some f.0.0) i;
        integer = (sym (is_part e.1.integer) ∙ ap is_some f.0.1) i;
        binary = (sym (is_part e.1.binary) ∙ ap is_some f.1.0) i;
        semi = (sym (is_part e.1.semi) ∙ ap is_some f.1.1) i;
      }) columns sides flags

pub columns_meant : (d : Draft) (columns : List (List ℕ × ColumnParts)) → Each (SaysColumn d) columns
    → each_part bounds_of columns ≡ map (λ column. (column.0, column_of d column.0)) (each_part no_part columns)
columns_meant d [] h = refl
columns_meant d (e ∷ columns) h = grind (arith, columns_meant d columns h.1)

-- ---- tables whose rows and columns are sorted by name make the model that their draft means

-- ---- names of rows

-- a name is that of a row, or of none
row_named : (rows : List (List ℕ × RowParts)) (r : List ℕ)
    → ((i : ℕ) × (option_map (λ e. e.0) (slice_get rows i) ≡ Some r)) ⊎ ((i : ℕ) →
    option_map (λ e. e.0) (slice_get rows i) ≡ Some r → ⊥)
row_named [] r = inr (λ i is. cc)
row_named (e ∷ rows) r =
    elim (eq_by_cmp bytes_cmp e.0 r) as (λ b. eq_by_cmp bytes_cmp e.0 r ≡ b →
    ((i : ℕ) × (option_map (λ e. e.0) (slice_get (e ∷ rows) i)
    ≡ Some r)) ⊎ ((i : ℕ) → option_map (λ e. e.0) (slice_get (e ∷ rows) i) ≡ Some r → ⊥)) [
      | true ↦ λ tie. inl (zero, ap Some (name_same e.0 r tie))
      | false ↦ λ differ.
          elim (row_named rows r) as (λ _. ((i : ℕ) × (option_map (λ e. e.0) (slice_get (e ∷ rows) i) ≡ Some r)) ⊎
          ((i : ℕ) → option_map (λ e. e.0) (slice_get (e ∷ rows) i) ≡ Some r → ⊥)) [
            | inl at ↦ inl (suc at.0, at.1)
            | inr none ↦ inr (λ i is. by i is differ none)
          ]
    ] refl
  where
    by : (i : ℕ) → option_map (λ e. e.0) (slice_get (e ∷ rows) i) ≡ Some r → eq_by_cmp bytes_cmp e.0 r ≡ false
        → ((i : ℕ) → option_map (λ e. e.0) (slice_get rows i) ≡ Some r → ⊥) → ⊥
    by zero is differ none = let same : e.0 ≡ r = cc in
        let tie : eq_by_cmp bytes_cmp e.0 r ≡ true = name_tied e.0 r same in cc
    by (suc i) is differ none = none i is

all_named_rows : (objective : Option ObjectiveParts) (rows : List (List ℕ × RowParts)) (r : List ℕ)
    → ((n : ℕ) × (name_of_row_key objective rows n ≡ Some r)) ⊎ ((n : ℕ) → name_of_row_key objective rows n ≡ Some r → ⊥)
all_named_rows objective rows r =
    elim (row_named rows r)
    as (λ _. ((n : ℕ) × (name_of_row_key objective rows n ≡ Some r)) ⊎ ((n : ℕ) →
    name_of_row_key objective rows n ≡ Some r → ⊥)) [
      | inl at ↦ inl (suc at.0, at.1)
      | inr none ↦
          elim (name_of_objective objective) as (λ o. name_of_objective objective ≡ o
          → ((n : ℕ) × (name_of_row_key objective rows n ≡ Some r)) ⊎ ((n : ℕ) → name_of_row_key objective rows n ≡ Some r → ⊥)) [
            | None ↦ λ is. inr (λ n named. no_name n (λ e. let t : None ≡ Some r = sym is ∙ e in cc) none named)
            | Some name ↦ λ is.
                elim (eq_by_cmp bytes_cmp name r) as (λ b. eq_by_cmp bytes_cmp name r ≡ b
                → ((n : ℕ) × (name_of_row_key objective rows n ≡ Some r)) ⊎ ((n : ℕ) →
                name_of_row_key objective rows n ≡ Some r → ⊥)) [
                  | true ↦ λ tie. inl (zero, is ∙ ap Some (name_same name r tie))
                  | false ↦ λ differ. inr (λ n named. no_name n (λ e. let t : Some name ≡ Some r = sym is ∙ e in
                      let same : name ≡ r = cc in
                      let tie : eq_by_cmp bytes_cmp name r ≡ true = name_tied name r same in cc) none named)
                ] refl
          ] refl
    ]
  where
    no_name : (n : ℕ) → (name_of_objective objective ≡ Some r → ⊥) →
        ((i : ℕ) → option_map (λ e. e.0) (slice_get rows i) ≡ Some r → ⊥) → name_of_row_key objective rows n ≡ Some r → ⊥
    no_name zero first none is = first is
    no_name (suc n) first none is = none n is

-- ---- numbers that have a name

named-row : (objective : Option ObjectiveParts) (rows : List (List ℕ × RowParts)) (i : ℕ) (r : List ℕ)
    → name_of_row_key objective rows (suc i) ≡ Some r → i < length rows
named-row = grind (arith, place_below)

module _ (objective : Option ObjectiveParts) (rows : List (List ℕ × RowParts)) where
  number-within : (n : ℕ) (r : List ℕ) → name_of_row_key objective rows n ≡ Some r → n < length rows + 1
  number-within zero r is = omega arith
  number-within (suc i) r is = let row = named-row objective rows i r is in omega (arith, row)

  within-column : (cells : List (ℕ × Number)) → list_all (λ e. is_some (name_of_row_key objective rows e.0)) cells ≡ true
      → Each (λ e. e.0 < length rows + 1) cells
  within-column cells h = Each-weaker (λ e. is_some (name_of_row_key objective rows e.0) ≡ true)
      (λ e. e.0 < length rows + 1) (λ e there. (grind (arith, number-within))) cells
      (Each-from_list_all (λ e. is_some (name_of_row_key objective rows e.0)) cells h)

  pub within-all : (cs : List (List ℕ × ColumnParts)) → all_named (name_of_row_key objective rows) (cells_by_name cs) ≡ true
      → Each (λ e. Each (λ cell. cell.0 < length rows + 1) (cells_of e.1)) cs
  within-all [] h = tt
  within-all (c ∷ cs) h = grind (arith, within-column (cells_of c.1), within-all cs)

-- ---- sorted tables

pub record AreFinished (objective : Option ObjectiveParts) (rows : List (List ℕ × RowParts))
    (columns : List (List ℕ × ColumnParts)) (m : ModelParts) : Type 0 where
  pub row_order : List ℕ
  pub column_order : List ℕ
  pub ranks : List ℕ
  pub rows_permuted : IsPermutation (range_with_len 0 (length rows)) row_order
  pub rows_sorted : IsSortedBy (λ n k. is_lt (bytes_cmp (name_at rows n) (name_at rows k))) row_order
  pub columns_permuted : IsPermutation (range_with_len 0 (length columns)) column_order
  pub columns_sorted : IsSortedBy (λ n k. is_lt (bytes_cmp (name_at columns n) (name_at columns k))) column_order
  pub ranked : AreRanks row_order ranks
  pub objective_is : name_of_objective objective ≡ Some m.objective
  pub rows_are : m.rows.items ≡ each_part limits_in (entries_at rows row_order)
  pub bounds_are : columns_in m ≡ each_part bounds_of (entries_at columns column_order)
  pub cells_are : parts.cells_by_name m ≡ each_part (moved_in ranks) (entries_at columns column_order)

part-get : {V X : Type 0} (f : V → X) (es : List (List ℕ × V)) (i : ℕ)
    → option_map (λ e. e.0) (slice_get (each_part f es) i) ≡ option_map (λ e. e.0) (slice_get es i)
part-get f (e ∷ es) (suc i) = part-get f es i
part-get f _ _ = refl

module _ (objective : Option ObjectiveParts) (rows : List (List ℕ × RowParts)) (columns : List (List ℕ × ColumnParts))
    (m : ModelParts) (f : AreFinished objective rows columns m) where
  -- the names of the later numbers
  later-row : (k : ℕ) → parts.name_of_row_key m (suc k) ≡ option_map (λ e. e.0) (slice_get (entries_at rows f.row_order) k)
  later-row k = (λ i. option_map (λ (e : List ℕ × Row). e.0) (slice_get (f.rows_are i) k))
      ∙ part-get limits_in (entries_at rows f.row_order) k

  later-at : (k : ℕ) → k < length f.row_order
      → parts.name_of_row_key m (suc k) ≡ name_of_row_key objective rows (suc (get_or f.row_order k 0))
  later-at = grind (arith, later-row, get-taken, order_within)

  pub keeps : (n : ℕ) (r : List ℕ) → name_of_row_key objective rows n ≡ Some r →
      parts.name_of_row_key m (slice_index f.ranks n) ≡ Some r
  keeps zero r is = grind arith
  keeps (suc i) r is = let at = rank_at (length rows) f.row_order f.ranks f.rows_permuted f.ranked i
      (named-row objective rows i r is) in
      ap (parts.name_of_row_key m) at.3 ∙ later-at at.0 at.1 ∙ ap (λ (k : ℕ). name_of_row_key objective rows (suc k)) at.2 ∙ is

  earlier : (k : ℕ) (r : List ℕ) → parts.name_of_row_key m k ≡ Some r
      → (n : ℕ) × (name_of_row_key objective rows n ≡ Some r) × (slice_index f.ranks n ≡ k)
  earlier zero r is = grind arith
  earlier (suc k) r is = let there : k < length f.row_order = placed (sym (later-row k) ∙ is) in
      let place : suc (get_or f.row_order k 0) ≡ get_or f.row_order k 0 + 1 = omega arith in
      let next : k + 1 ≡ suc k = omega arith in (
        suc (get_or f.row_order k 0),
        sym (later-at k there) ∙ is,
        ap (λ (n : ℕ). slice_index f.ranks n) place
            ∙ f.ranked.places k there ∙ next,
      )
    where
      placed : option_map (λ e. e.0) (slice_get (entries_at rows f.row_order) k) ≡ Some r → k < length f.row_order
      placed named =
          elim (slice_get (entries_at rows f.row_order) k) as (λ o. slice_get (entries_at rows f.row_order) k ≡ o
          → option_map (λ e. e.0) o ≡ Some r → k < length f.row_order) [
            | None ↦ λ _ never. cc
            | Some e ↦ λ at _. length-taken rows f.row_order k (place_below (entries_at rows f.row_order) k e at)
          ] refl named

  number-below : (n : ℕ) (r : List ℕ) → name_of_row_key objective rows n ≡ Some r → n < length f.ranks
  number-below n r is = grind (
    arith,
    ranks_length (length rows) f.row_order f.ranks f.rows_permuted f.ranked,
    named-row
        objective rows,
  )

  -- ---- coefficients

  lookup-holds : (P : ColumnParts → Type 0) (t : List ℕ → Bool) (cs : List (List ℕ × ColumnParts)) (v : ColumnParts) →
      Each (λ e. P e.1) cs → lookup t cs ≡ Some v → P v
  lookup-holds P t [] v h is = cc
  lookup-holds P t (c ∷ cs) v h is = grind (arith, lookup-holds P t cs v h.1)

  module _ (n : AreNumbered objective rows columns) (once : IsOnce (each_part no_part columns)) where
    found_cells : (k : ℕ) (r c : List ℕ) → name_of_row_key objective rows k ≡ Some r
        → option_and_then (find nat_cmp (slice_index f.ranks k)) (find bytes_cmp c (parts.cells_by_name m))
        ≡ unless_zero (option_and_then (find nat_cmp k) (find bytes_cmp c (cells_by_name columns)))
    found_cells k r c is =
        let moved_once = once_too no_part (moved_in f.ranks) columns once in
        let permuted = parts-permutation (moved_in f.ranks) columns (entries_at columns f.column_order)
        (taken-permutation columns f.column_order f.columns_permuted) in
        let moved = ap (find bytes_cmp c) f.cells_are
        ∙ sym (find-permutation bytes_cmp bytes_total (each_part (moved_in f.ranks) columns)
        (each_part (moved_in f.ranks) (entries_at columns f.column_order)) permuted moved_once c)
        ∙ find-each_part (moved_in f.ranks) c columns in
        ap (option_and_then (find nat_cmp (slice_index f.ranks k))) moved
        ∙ elim (lookup (λ k. same_bytes c k) columns) as (λ o. lookup (λ k. same_bytes c k) columns ≡ o
        → option_and_then (find nat_cmp (slice_index f.ranks k)) (option_map (moved_in f.ranks) o)
        ≡ unless_zero (option_and_then (find nat_cmp k) (option_map cells_of o))) [
          | None ↦ λ _. refl
          | Some v ↦ λ at.
              find-moved (length f.ranks) (λ k. slice_index f.ranks k)
              (ranks_apart (length rows) f.row_order f.ranks f.rows_permuted f.ranked) k (cells_of v) (number-below k r is)
              (lookup-holds (λ v. Each (λ cell. cell.0 < length f.ranks) (cells_of v)) (λ k. same_bytes c k) columns v
              (subst (λ (bound : ℕ). Each (λ e. Each (λ cell. cell.0 < bound) (cells_of e.1)) columns)
              (sym (ranks_length (length rows) f.row_order f.ranks f.rows_permuted f.ranked))
              (within-all objective rows columns n.named)) at)
        ] refl
        ∙ ap (λ o. unless_zero (option_and_then (find nat_cmp k) o)) (sym (find-each_part cells_of c columns))

    -- the coefficients of the model are the nonzero ones of the draft
    pub coefficients_are : sorted_of key_cmp (all_cells (parts.name_of_row_key m) (parts.cells_by_name m))
        ≡ filter is_kept (sorted_of key_cmp (all_cells (name_of_row_key objective rows) (cells_by_name columns)))
    coefficients_are =
        renumbered (name_of_row_key objective rows) (parts.name_of_row_key m) (λ k. slice_index f.ranks k) (cells_by_name columns)
        (parts.cells_by_name m)
        (record {
          apart = n.apart;
          apart_later = λ a b r p q. let x = earlier a r p in
              let y = earlier b r q in sym x.2
              ∙ ap (λ (k : ℕ). slice_index f.ranks k) (n.apart x.0 y.0 r x.1 y.1) ∙ y.2;
          named = all_named_rows objective rows;
          keeps = keeps;
          adds_none = λ k r is. let e = earlier k r is in (e.0, e.1);
          once = once_too no_part cells_of columns once;
          once_later = subst IsOnce (sym f.cells_are)
              (once-permutation bytes_cmp bytes_total (each_part (moved_in f.ranks) columns)
              (each_part (moved_in f.ranks) (entries_at columns f.column_order))
              (parts-permutation (moved_in f.ranks) columns (entries_at columns f.column_order)
              (taken-permutation columns f.column_order f.columns_permuted)) (once_too no_part (moved_in f.ranks) columns once));
          cells = found_cells;
        })

-- ---- what the steps of `finish` require of tables

-- entries, their indices in the order of their names, and the entries in that order
pub record AreOrdered {V : Type 0} (entries : List (List ℕ × V)) (order : List ℕ) (ordered : List (List ℕ × V)) : Type 0 where
  pub permuted : IsPermutation (range_with_len 0 (length entries)) order
  pub sorted : IsSortedBy (λ n k. is_lt (bytes_cmp (name_at entries n) (name_at entries k))) order
  pub are : ordered ≡ entries_at entries order

-- ---- numbers of cells

pub cells_within : (objective : Option ObjectiveParts) (rows : List (List ℕ × RowParts))
    (columns : List (List ℕ × ColumnParts)) (bound : ℕ) → AreNumbered objective rows columns → bound ≡ length rows + 1 →
    All (λ column. All (λ cell. cell.0 < bound) column.1.cells) columns
cells_within objective rows columns bound n is = grind (arith, all-from_each, within-all objective rows columns n.named)

-- ---- the right-hand side of the objective

apart_rows : (o : ObjectiveParts) (rows : List (List ℕ × RowParts)) → ((i : ℕ) (e : List ℕ × RowParts) → slice_get rows i ≡ Some e
    → e.0 ≡ o.name → ⊥) → Each (λ e. eq_by_cmp bytes_cmp e.0 o.name ≡ false) rows
apart_rows o [] h = tt
apart_rows o (e ∷ rows) h = grind
    (arith, h zero e refl, name_same e.0 o.name, apart_rows o rows (λ i d is same. h (suc i) d is same))

pub objective_says : (o : ObjectiveParts) (rows : List (List ℕ × RowParts)) → IsInjective (name_of_row_key (Some o) rows)
    → at_name (sorted_of bytes_cmp (objective_rhs (Some o) ++ given_parts rhs_of rows)) o.name ≡ o.rhs
objective_says o rows apart =
    let given = given_parts rhs_of rows in
    let none : find bytes_cmp o.name given ≡ None = no_part-found rhs_of o.name rows
    (apart_rows o rows (λ i e is same. let zero_is : zero
    ≡ suc i = apart zero (suc i) o.name refl (ap (option_map (λ (e : List ℕ × RowParts). e.0)) is ∙ ap Some same) in
    absurd cc)) in
    find-sorted_of bytes_cmp bytes_total o.name (objective_rhs (Some o) ++ given)
    ∙ find-two bytes_cmp o.name (objective_rhs (Some o)) given ∙ (grind (arith, or_else, name_tied))

pub constant_is : (sense : Option Sense) (constant : Option Number) (objective : Option ObjectiveParts)
    (rows : List (List ℕ × RowParts)) (columns : List (List ℕ × ColumnParts)) → is_some objective ≡ true →
    IsInjective (name_of_row_key objective rows) →
    unwrap_or constant (negated (unwrap_or (rhs_in objective) zero_number)) ≡ constant_of
    (draft_from sense constant objective rows columns)
constant_is = grind (arith, objective_says)

-- ---- the order of entries, as the contracts state it

name_of_part : {V X : Type 0} (f : V → X) (es : List (List ℕ × V)) (n : ℕ)
    → name_at es n ≡ option_map_or (λ part. part.0) (slice_get (each_part f es) n) []
name_of_part f (e ∷ es) (suc n) = name_of_part f es n
name_of_part f _ _ = refl

-- entries with the same parts have the same names
names_alike : {V W X : Type 0} (f : W → X) (g : V → X) (made : List (List ℕ × W)) (entries : List (List ℕ × V))
    → each_part f made ≡ each_part g entries → (n : ℕ) → name_at made n ≡ name_at entries n
names_alike f g made entries same n = grind (arith, name_of_part f made n, name_of_part g entries n)

-- the order of entries with the same parts
pub ordered_alike : {V W X : Type 0} (f : W → X) (g : V → X) (made : List (List ℕ × W)) (entries : List (List ℕ × V))
    (order : List ℕ) → each_part f made ≡ each_part g entries → IsPermutation (range_with_len 0 (length made)) order
    → IsSortedBy (λ n k. is_lt (bytes_cmp (name_at made n) (name_at made k))) order →
    AreOrdered entries order (entries_at entries order)
ordered_alike = grind (arith, as_many, names_alike)

-- entries are the whole parts of themselves
pub each_whole : {X : Type 0} (es : List (List ℕ × X)) → each_part itself es ≡ es
each_whole [] = refl
each_whole {X} (e ∷ es) = grind (arith, each_whole es)

module _ (rows : List (List ℕ × RowParts)) (order : List ℕ) (ordered : List (List ℕ × RowParts))
    (o : AreOrdered rows order ordered) where
  pub few_of : length rows < 4294967295 → length order < 4294967295
  few_of few = search (rules, order_length)

  pub within_of : (p : ℕ) → p < length order → slice_index order p < length order
  within_of = grind (arith, order_within, order_length)

  pub apart_of : (p q : ℕ) → p < q → q < length order → slice_index order p ≢ slice_index order q
  apart_of = order_apart (length rows) order o.permuted

-- an objective that is declared has a name
pub named_there : (objective : Option ObjectiveParts) → is_some objective ≡ true → is_some (name_of_objective objective) ≡ true
named_there = grind arith

-- ---- the model that `finish` makes of tables, from its parts

-- The parts of a model are what a draft means by them.
pub record AreMeantParts (all : Draft) (m : ModelParts) : Type 0 where
  pub sense : m.sense ≡ unwrap_or all.sense Minimize
  pub objective : m.objective ≡ objective_name all
  pub constant : m.constant ≡ constant_of all
  pub rows : m.rows.items ≡ map (row_entry all) all.rows
  pub columns : columns_in m ≡ map (λ column. (column.0, column_of all column.0)) all.columns
  pub coefficients : sorted_of key_cmp (all_cells (parts.name_of_row_key m) (parts.cells_by_name m)) ≡ filter is_kept
      all.coefficients

pub meant_model : (all : Draft) (m : ModelParts) → AreMeantParts all m → linear_model m ≡ model_of all
meant_model = grind arith

-- The cells of a model are in the order of their numbers, and each number is that of a row.
pub record AreCells (m : ModelParts) : Type 0 where
  pub sorted : list_all (λ c. is_sorted nat_cmp c.1) (parts.cells_by_name m) ≡ true
  pub named : all_named (parts.name_of_row_key m) (parts.cells_by_name m) ≡ true

pub meant_parts : (all : Draft) (m : ModelParts) → IsMade all → is_some all.objective ≡ true → file_fault all ≡ None →
    AreMeantParts all m → AreCells m → AreModelParts m
meant_parts all m made there none p cells = grind (
  arith,
  sorted-from_made all made,
  sorted-mapped (λ row. unwrap_or (row_limits all row)
      (plain_limits Free zero_number)) all.rows,
  true_from,
  sorted-mapped (λ column. column_of all column.0) all.columns,
  meant_model all m p,
  meant-from_made all made there none,
)

pub meant_draft : (all : Draft) (m : ModelParts) → IsMade all → is_some all.objective ≡ true → file_fault all ≡ None →
    AreMeantParts all m → DraftMeans all (linear_model m)
meant_draft all m made there none p = subst (DraftMeans all) (sym (meant_model all m p)) (meant-from_made all made there none)

-- ---- the cells of a column that are moved

module _ (P : ℕ → Type 0) where
  each-put : (k : ℕ) (v : Number) (es : List (ℕ × Number)) → P k → Each (λ e. P e.0) es → Each (λ e. P e.0) (put nat_cmp k v es)
  each-put k v [] here h = (here, tt)
  each-put k v (e ∷ es) here h = grind (arith, each-put k v es here h.1)

  each-sorted_of : (es : List (ℕ × Number)) → Each (λ e. P e.0) es → Each (λ e. P e.0) (sorted_of nat_cmp es)
  each-sorted_of [] h = tt
  each-sorted_of (e ∷ es) h = each-put e.0 e.1 (sorted_of nat_cmp es) h.0 (each-sorted_of es h.1)

moved_sorted : (ranks : List ℕ) (cells : List (ℕ × Number)) → is_sorted nat_cmp (moved_cells ranks cells) ≡ true
moved_sorted ranks cells = search (rules, is_sorted-filter, true_from, is_sorted-sorted_of)

module _ (objective : Option ObjectiveParts) (rows : List (List ℕ × RowParts)) (columns : List (List ℕ × ColumnParts))
    (m : ModelParts) (f : AreFinished objective rows columns m) where
  all_sorted : (cs : List (List ℕ × ColumnParts)) → list_all (λ c. is_sorted nat_cmp c.1) (each_part (moved_in f.ranks) cs) ≡ true
  all_sorted [] = refl
  all_sorted (c ∷ cs) = grind (arith, both_so, moved_sorted f.ranks, all_sorted cs)

  moved_named : (cells : List (ℕ × Number)) → list_all (λ e. is_some (name_of_row_key objective rows e.0)) cells ≡ true
      → list_all (λ e. is_some (parts.name_of_row_key m e.0)) (moved_cells f.ranks cells) ≡ true
  moved_named cells h = let P : ℕ → Type 0 = λ k. is_some (parts.name_of_row_key m k) ≡ true in
      let all = map (λ e. (slice_index f.ranks e.0, e.1)) cells in
      list_all-from_Each (λ e. is_some (parts.name_of_row_key m e.0)) (moved_cells f.ranks cells)
      (each-kept (λ e. P e.0) (sorted_of nat_cmp all)
      (each-sorted_of P all (Each-map (λ e. P e.0) (λ e. (slice_index f.ranks e.0, e.1)) cells
      (Each-weaker (λ e. is_some (name_of_row_key objective rows e.0) ≡ true) (λ e. P (slice_index f.ranks e.0))
      (λ e there. still_named e.0 there) cells (Each-from_list_all (λ e. is_some (name_of_row_key objective rows e.0))
      cells h)))))
    where
      still_named : (k : ℕ) → is_some (name_of_row_key objective rows k) ≡ true
          → is_some (parts.name_of_row_key m (slice_index f.ranks k)) ≡ true
      still_named k there = grind (arith, keeps objective rows columns m f k)

  each_named : (cs : List (List ℕ × ColumnParts)) → all_named (name_of_row_key objective rows) (cells_by_name cs) ≡ true
      → Each (λ c. list_all (λ e. is_some (parts.name_of_row_key m e.0)) (moved_in f.ranks c.1) ≡ true) cs
  each_named [] h = tt
  each_named (c ∷ cs) h = grind (arith, moved_named (cells_of c.1), each_named cs)

  all_named-from : (cs : List (List ℕ × ColumnParts)) → Each (λ c. list_all (λ e. is_some (parts.name_of_row_key m e.0))
      (moved_in f.ranks c.1) ≡ true) cs → all_named (parts.name_of_row_key m) (each_part (moved_in f.ranks) cs) ≡ true
  all_named-from [] h = refl
  all_named-from (c ∷ cs) h = grind (arith, both_so, all_named-from cs h.1)

  pub finished_cells : AreNumbered objective rows columns → AreCells m
  finished_cells n = record {
    sorted = ap (list_all (λ c. is_sorted nat_cmp c.1)) f.cells_are ∙ all_sorted (entries_at columns f.column_order);
    named = ap (all_named (parts.name_of_row_key m)) f.cells_are
        ∙ all_named-from (entries_at columns f.column_order)
        (each-ordered (λ c. list_all (λ e. is_some (parts.name_of_row_key m e.0)) (moved_in f.ranks c.1) ≡ true) columns
        f.column_order f.columns_permuted (each_named columns n.named));
  }

  -- what sorted tables become in the model
  pub finished_parts : (sense : Option Sense) (constant : Option Number) → AreNumbered objective rows columns
      → IsOnce (each_part definition_of rows) → IsOnce (each_part no_part columns) →
      m.sense ≡ unwrap_or sense Minimize →
      m.constant ≡ constant_of (draft_from sense constant objective rows columns) →
      AreMeantParts (draft_from sense constant objective rows columns) m
  finished_parts sense constant n rows_once columns_once is_sense is_constant =
      let d = draft_from sense constant objective rows columns in
      record {
        sense = is_sense;
        objective = sym (ap (λ (o : Option (List ℕ)). unwrap_or o []) f.objective_is);
        constant = is_constant;
        rows = f.rows_are
            ∙ rows_meant d (entries_at rows f.row_order) (each-ordered (SaysRow d) rows f.row_order f.rows_permuted
            (rows_say sense constant objective rows columns n.apart rows_once))
            ∙ ap (map (row_entry d)) (ordered_parts definition_of rows f.row_order rows_once f.rows_permuted f.rows_sorted);
        columns = f.bounds_are
            ∙ columns_meant d (entries_at columns f.column_order)
            (each-ordered (SaysColumn d) columns f.column_order f.columns_permuted
            (columns_say columns columns_once sense constant objective rows))
            ∙ ap (map (λ column. (column.0, column_of d column.0)))
            (ordered_parts no_part columns f.column_order columns_once f.columns_permuted f.columns_sorted);
        coefficients = coefficients_are objective rows columns m f n columns_once;
      }
