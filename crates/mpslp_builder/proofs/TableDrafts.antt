-- The draft that tables represent, and how it changes if a row or a column is added or written.
pub use Rattle.mpslp_builder_parts.proofs.PassLemmas.{each_part-append}
pub use Rattle.mpslp_builder_parts.proofs.ColumnLemmas.{each_part-kept, find-each_part, found_name, none_there, on_err, on_ok}
pub use Rattle.mpslp_builder_parts.proofs.ColumnLemmas.{once-from_distinct, some_mapped}
use Rattle.mpslp_builder.proofs.Prelude
use Prelude.{arith, ◌≡◌, refl, sym, ap, ◌∙◌, ℕ, zero, suc, List, [], ◌∷◌, ◌++◌, Bool, true, false, cond, length, inl, inr, Option, Some}
use Prelude.{None, is_some, slice_get, ◌⊎◌, option_map, option_map_or, eq_by_cmp, texts_ties, find, same_bytes}
use Prelude.{bytes_cmp, each_part, given_parts, IsOnce, name_tied, name_same, set_value_at, ◌||◌, nat_cmp, put}
use Prelude.{lookup, Number, CoefficientKey, key_cmp, sorted_of, column_cells, all_cells, IsInjective, equal_from, bytes_total, tied_names}
use Prelude.{find-sorted_of, at, or_else, find-two, at_name, has_name, ◌<◌, length-append, list_all, second_so, nat_list_eq_equiv, Sense}
use Prelude.{both_so, RowDefinition, all_named, sorted_of-put, sorted_of-append, Draft, with_declaration, declare_objective, declare_row}
use Prelude.{declare_rhs, declare_range, is_objective, has_row, definition_of, rhs_of, range_of, objective_rhs}
use Prelude.{name_of_row_key, cells_by_name, draft_from, AreNumbered, ObjectiveParts, RowParts, ColumnParts, option_and_then, first_so}
use Prelude.{nat_cmp-IsAntisymmetric, Limit, same_key, find-all_cells, with_declarations, declare_column, declare_coefficient}
use Prelude.{declare_marked, declare_integer, declare_binary, declare_semi, bounds_declared, has_column, has_coefficient, no_part, cells_of}
use Prelude.{lower_of, upper_of, mark_of, integer_of, binary_of, semi_of, new_column, with_cell, with_bounds}
use Prelude.{Tables, draft, BuildFault, DuplicateRow, OutOfMemory, if◌then◌else◌, HasRowAdded, IsSameTables, Err, Ok}
use Rattle.mpslp_builder.specs.Calls.{AddsRow}
use Rattle.std.specs.FinMap.Entries.{find_tied}
use Rattle.mpslp_model_core.proofs.CellLemmas.{key_total, first_none, find-put_cell, swapped, clear}
use Rattle.mpslp_builder.proofs.DraftEntries.{put_all}

-- ---- entries with distinct names, and what is found by a name

module _ {V X : Type 0} (f : V → X) where
  -- a name among the entries is found
  pub there_found : (es : List (List ℕ × V)) (i : ℕ) (q : List ℕ) → option_map (λ e. e.0) (slice_get es i) ≡ Some q
      → find bytes_cmp q (each_part f es) ≡ None → ⊥
  there_found [] i q h none = cc
  there_found (e ∷ es) zero q h none = grind (arith, name_tied)
  there_found (e ∷ es) (suc i) q h none = grind (arith, there_found es i q h)

  -- what is found is among the entries
  pub found_there : (es : List (List ℕ × V)) (q : List ℕ) → is_some (find bytes_cmp q (each_part f es)) ≡ true
      → (i : ℕ) × (option_map (λ e. e.0) (slice_get es i) ≡ Some q)
  found_there [] q h = cc
  found_there (e ∷ es) q h =
      elim (eq_by_cmp bytes_cmp q e.0) as (λ b. eq_by_cmp bytes_cmp q e.0 ≡ b
      → is_some (cond b (Some (f e.1)) (find bytes_cmp q (each_part f es))) ≡ true
      → (i : ℕ) × (option_map (λ e. e.0) (slice_get (e ∷ es) i) ≡ Some q)) [
        | true ↦ λ tie _. (zero, ap Some (sym (name_same q e.0 tie)))
        | false ↦ λ _ more. let at = found_there es q more in (suc at.0, at.1)
      ] refl h

  -- what is found by the name of an entry is the part of that entry
  pub find_own : (es : List (List ℕ × V)) (i : ℕ) (k : List ℕ) (v : V) → IsOnce (each_part f es) → slice_get es i ≡ Some (k, v)
      → find bytes_cmp k (each_part f es) ≡ Some (f v)
  find_own [] i k v once is = cc
  find_own (e ∷ es) zero k v once is = grind (arith, name_tied)
  find_own (e ∷ es) (suc i) k v once is = grind (arith, find_own es i k v once.1 is, name_same k e.0)

module _ {V X Y : Type 0} (f : V → X) (g : V → Y) where
  -- a missing name is missing in each part
  pub none_too : (q : List ℕ) (es : List (List ℕ × V)) → find bytes_cmp q (each_part f es) ≡ None →
      find bytes_cmp q (each_part g es) ≡ None
  none_too q [] h = refl
  none_too q (e ∷ es) h = grind (arith, none_too q es)

  pub once_too : (es : List (List ℕ × V)) → IsOnce (each_part f es) → IsOnce (each_part g es)
  once_too [] h = tt
  once_too (e ∷ es) h = (none_too e.0 es h.0, once_too es h.1)

module _ {V X Y : Type 0} (f : V → X) (g : V → Option Y) where
  -- a missing part is not given
  pub none_given : (q : List ℕ) (es : List (List ℕ × V)) → find bytes_cmp q (each_part f es) ≡ None →
      find bytes_cmp q (given_parts g es) ≡ None
  none_given q [] none = refl
  none_given q (e ∷ es) none = grind (arith, none_given q es)

  -- what is given by the name of an entry is the part of that entry
  pub find_given_own : (es : List (List ℕ × V)) (i : ℕ) (k : List ℕ) (v : V) → IsOnce (each_part f es) →
      slice_get es i ≡ Some (k, v) → find bytes_cmp k (given_parts g es) ≡ g v
  find_given_own [] i k v once is = cc
  find_given_own (e ∷ es) zero k v once is = grind (arith, none_given, name_tied)
  find_given_own (e ∷ es) (suc i) k v once is =
      grind (arith, find_given_own es i k v once.1 is, there_found f es i e.0, name_same k e.0)

-- ---- one more entry, or another value

pub name_kept : {V : Type 0} (es : List (List ℕ × V)) (i j : ℕ) (w : V)
    → option_map (λ e. e.0) (slice_get (set_value_at es i w) j) ≡ option_map (λ e. e.0) (slice_get es j)
name_kept (e ∷ es) zero (suc j) w = refl
name_kept (e ∷ es) (suc i) (suc j) w = name_kept es i j w
name_kept _ _ _ _ = refl

pub names-more : {V : Type 0} (xs ys : List (List ℕ × V)) (i : ℕ) (r : List ℕ) → option_map (λ e. e.0) (slice_get xs i) ≡ Some r
    → option_map (λ e. e.0) (slice_get (xs ++ ys) i) ≡ Some r
names-more [] ys i r h = cc
names-more (x ∷ xs) ys zero r h = h
names-more (x ∷ xs) ys (suc i) r h = names-more xs ys i r h

pub old_or_last : {V : Type 0} (xs : List (List ℕ × V)) (k : List ℕ) (v : V) (i : ℕ) (r : List ℕ) → option_map (λ e. e.0)
    (slice_get (xs ++ (k, v) ∷ []) i) ≡ Some r → (option_map (λ e. e.0) (slice_get xs i) ≡ Some r) ⊎ ((i ≡ length xs) × (k ≡ r))
old_or_last [] k v zero r h = inr (refl, cc)
old_or_last [] k v (suc i) r h = cc
old_or_last (x ∷ xs) k v zero r h = inl h
old_or_last (x ∷ xs) k v (suc i) r h = grind (arith, inl, inr, old_or_last xs k v i r h)

-- ---- the parts of a map's entries by their names, and how they change if an entry is added or written

module _ {V X : Type 0} (f : V → X) where
  -- what is found at a key is the part at its name
  pub at_name-each_part : (q : List ℕ) (es : List (List ℕ × V)) (o : Option V) → o ≡ lookup (λ k. same_bytes q k) es
      → option_map f o ≡ at_name (sorted_of bytes_cmp (each_part f es)) q
  at_name-each_part q es o h = ap (option_map f) h
      ∙ sym (find-sorted_of bytes_cmp bytes_total q (each_part f es) ∙ find-each_part f q es)

  -- a name is one of the map's if and only if it is a key
  pub has_name-each_part : (q : List ℕ) (es : List (List ℕ × V))
      → is_some (lookup (λ k. same_bytes q k) es) ≡ has_name (sorted_of bytes_cmp (each_part f es)) q
  has_name-each_part = grind (arith, find-sorted_of, bytes_total, find-each_part, some_mapped)

  -- a name that is not in the map is no key
  pub absent-each_part : (q : List ℕ) (es : List (List ℕ × V)) → has_name (sorted_of bytes_cmp (each_part f es)) q ≡ false
      → find bytes_cmp q (each_part f es) ≡ None
  absent-each_part = grind (arith, find-sorted_of, bytes_total)

-- ---- coefficients

module _ {V : Type 0} (f : V → List (ℕ × Number)) (name : ℕ → Option (List ℕ)) (apart : IsInjective name) where
  -- a coefficient is put at a free place
  pub find-put_in_column : (q : CoefficientKey) (n : ℕ) (x : Number) (r : List ℕ) (es : List (List ℕ × V)) (i : ℕ)
      (k : List ℕ) (v w : V) → name n ≡ Some r → slice_get es i ≡ Some (k, v) → f w ≡ put nat_cmp n x (f v)
      → find key_cmp (at r k) (all_cells name (each_part f es)) ≡ None →
      find key_cmp q (all_cells name (each_part f (set_value_at es i w))) ≡ cond (eq_by_cmp key_cmp q (at r k))
      (Some x) (find key_cmp q (all_cells name (each_part f es)))
  find-put_in_column q n x r [] i k v w p is put_there absent = cc
  find-put_in_column q n x r (e ∷ es) zero k v w p is put_there absent = grind (
    arith,
    find-put_cell name apart q n x r k (f v) p,
    find-two
        key_cmp q (column_cells name e.0 (f w)) (all_cells name (each_part f es)),
    or_else,
    at r k,
    or_else (find key_cmp q (column_cells name
        k (f v))) (find key_cmp q (all_cells name (each_part f es))),
    find-two key_cmp q (column_cells name k (f v)) (all_cells name
        (each_part f es)),
  )
  find-put_in_column q n x r (e ∷ es) (suc i) k v w p is put_there absent =
      let front = column_cells _ e.0 (f e.1) in
      let rest = all_cells name (each_part f es) in
      let split = sym (find-two key_cmp (at r k) front rest) ∙ absent in
      let more = find-put_in_column q n x r es i k v w p is put_there
      (clear (find key_cmp (at r k) front) (find key_cmp (at r k) rest) split) in
      find-two key_cmp q front (all_cells name (each_part f (set_value_at es i w)))
      ∙ ap (or_else (find key_cmp q front)) more
      ∙ elim (eq_by_cmp key_cmp q (at r k)) as (λ b. eq_by_cmp key_cmp q (at r k) ≡ b → or_else (find key_cmp q front)
      (cond b (Some x) (find key_cmp q rest)) ≡ cond b (Some x) (or_else (find key_cmp q front) (find key_cmp q rest))) [
        | true ↦ λ tie.
            let none : find key_cmp q front ≡ None =
            sym (find_tied key_cmp key_total q (at r k) (equal_from (key_cmp q (at r k)) tie) front)
            ∙ first_none (find key_cmp (at r k) front) (find key_cmp (at r k) rest) split in
            ap (λ (o : Option Number). or_else o (Some x)) none
        | false ↦ λ _. refl
      ] refl
      ∙ ap (cond (eq_by_cmp key_cmp q (at r k)) (Some x)) (sym (find-two key_cmp q front rest))

-- ---- parts that are declared

module _ {V X : Type 0} (f : V → Option X) where
  pub given_parts-without : (es : List (List ℕ × V)) (k : List ℕ) (v : V) → f v ≡ None →
      given_parts f (es ++ (k, v) ∷ []) ≡ given_parts f es
  given_parts-without [] k v none = grind arith
  given_parts-without (e ∷ es) k v none = grind (arith, given_parts-without es k v none)

  pub given_parts-kept : (es : List (List ℕ × V)) (i : ℕ) (k : List ℕ) (v w : V) → slice_get es i ≡ Some (k, v) → f w ≡ f v
      → given_parts f (set_value_at es i w) ≡ given_parts f es
  given_parts-kept [] i k v w at same = refl
  given_parts-kept (e ∷ es) zero k v w at same = grind (arith)
  given_parts-kept (e ∷ es) (suc i) k v w at same = grind (arith, at, given_parts-kept es i k v w at same)

  none_given_part : (q : List ℕ) (es : List (List ℕ × V)) → lookup (λ k. same_bytes q k) es ≡ None →
      find bytes_cmp q (given_parts f es) ≡ None
  none_given_part q [] none = refl
  none_given_part q (e ∷ es) none =
      elim (same_bytes q e.0) as (λ b. same_bytes q e.0 ≡ b → cond b (Some e.1) (lookup (λ k. same_bytes q k) es) ≡ None
      → find bytes_cmp q (given_parts f (e ∷ es)) ≡ None) [
        | true ↦ λ _ h. cc
        | false ↦ λ differ h.
            elim (f e.1) as (λ o. find bytes_cmp q
            (option_map_or (λ x. (e.0, x) ∷ given_parts f es) o (given_parts f es)) ≡ None) [
              | None ↦ none_given_part q es h
              | Some x ↦ ap (λ b. cond b (Some x) (find bytes_cmp q (given_parts f es))) (sym (texts_ties q e.0) ∙ differ)
                  ∙ none_given_part q es h
            ]
      ] refl none

pub or_right : (a b r : Bool) → false ≡ a → r ≡ b → r ≡ (a || b)
or_right = grind arith

-- a row that is not added, if the objective has another name
pub row_refused : (t u : Tables) (name : List ℕ) (parts : RowParts) (b : Bool) (fault : BuildFault)
    → is_objective (draft None None t) name ≡ false → is_some (lookup (λ k. same_bytes name k) t.rows.entries) ≡ b
    → fault ≡ (if b then DuplicateRow else OutOfMemory) → IsSameTables t u → AddsRow t name parts (Err fault) u
row_refused t u name parts b fault other found is same = grind (arith, has_name-each_part definition_of name t.rows.entries)

-- and one that is added
pub row_new : (t u : Tables) (name : List ℕ) (parts : RowParts) → is_objective (draft None None t) name ≡ false
    → lookup (λ k. same_bytes name k) t.rows.entries ≡ None → length t.rows.entries < 4294967294 → HasRowAdded t name parts u
    → AddsRow t name parts (Ok tt) u
row_new t u name parts other none few added = grind (arith, has_name-each_part definition_of name t.rows.entries)

-- ---- a part that is put, whether it was declared or not

module _ {V X : Type 0} (f : V → Option X) where
  pub find-given_any : (q : List ℕ) (x : X) (es : List (List ℕ × V)) (i : ℕ) (k : List ℕ) (v w : V) → slice_get es i ≡ Some (k, v)
      → f w ≡ Some x → IsOnce (each_part (λ (y : V). y) es) → find bytes_cmp q (given_parts f (set_value_at es i w))
      ≡ cond (eq_by_cmp bytes_cmp q k) (Some x) (find bytes_cmp q (given_parts f es))
  find-given_any q x [] i k v w is after once = cc
  find-given_any q x (e ∷ es) zero k v w is after once = grind (arith)
  find-given_any q x (e ∷ es) (suc i) k v w is after once =
      let rest = given_parts f es in
      let more = find-given_any q x es i k v w is after once.1 in
      elim (f e.1) as (λ o. find bytes_cmp q
      (option_map_or (λ y. (e.0, y) ∷ given_parts f (set_value_at es i w)) o (given_parts f (set_value_at es i w)))
      ≡ cond (eq_by_cmp bytes_cmp q k) (Some x) (find bytes_cmp q (option_map_or (λ y. (e.0, y) ∷ rest) o rest))) [
        | None ↦ more
        | Some y ↦
            ap (cond (eq_by_cmp bytes_cmp q e.0) (Some y)) more
            ∙ swapped _ _ _ _ _
            (λ a b.
            let same = sym (tied_names q e.0 (equal_from (bytes_cmp q e.0) a)) ∙ tied_names q k (equal_from (bytes_cmp q k) b) in
            not_later es i k v is (ap (λ (n : List ℕ). find bytes_cmp n (each_part (λ (y : V). y) es)) (sym same) ∙ once.0))
      ]
    where
      not_later : (es : List (List ℕ × V)) (i : ℕ) (k : List ℕ) (v : V) → slice_get es i ≡ Some (k, v)
          → find bytes_cmp k (each_part (λ (y : V). y) es) ≡ None → ⊥
      not_later [] i k v is none = cc
      not_later (e ∷ es) zero k v is none = grind (arith, bytes_total)
      not_later (e ∷ es) (suc i) k v is none = grind (arith, not_later es i k v is)

-- ---- how the draft of tables changes with the objective, and with a row that is added or written

-- ---- numbers that still name what they named

module _ (name later : ℕ → Option (List ℕ)) (more : (n : ℕ) (r : List ℕ) → name n ≡ Some r → later n ≡ Some r) where
  named_later : (n : ℕ) → is_some (name n) ≡ true → later n ≡ name n
  named_later = grind arith

  column_cells-more : (c : List ℕ) (es : List (ℕ × Number)) → list_all (λ e. is_some (name e.0)) es ≡ true
      → column_cells later c es ≡ column_cells name c es
  column_cells-more c [] h = refl
  column_cells-more c (e ∷ es) h = grind (
    arith,
    named_later,
    column_cells-more c es
        (second_so (is_some (name e.0)) (list_all (λ (e : ℕ × Number). is_some (name e.0)) es) h),
  )

  pub all_cells-more : (cols : List (List ℕ × List (ℕ × Number))) → all_named name cols ≡ true →
      all_cells later cols ≡ all_cells name cols
  all_cells-more [] h = refl
  all_cells-more (c ∷ cols) h = grind (
    arith,
    column_cells-more,
    all_cells-more cols (second_so (list_all (λ (e : ℕ × Number). is_some (name e.0)) c.1)
        (all_named name cols) h),
  )

  cells_named-more : (es : List (ℕ × Number)) → list_all (λ e. is_some (name e.0)) es ≡ true →
      list_all (λ e. is_some (later e.0)) es ≡ true
  cells_named-more [] h = refl
  cells_named-more (e ∷ es) h = grind (
    arith,
    both_so,
    named_later,
    cells_named-more es
        (second_so (is_some (name e.0)) (list_all (λ (e : ℕ × Number). is_some (name e.0)) es) h),
  )

  pub all_named-more : (cols : List (List ℕ × List (ℕ × Number))) → all_named name cols ≡ true → all_named later cols ≡ true
  all_named-more [] h = refl
  all_named-more (c ∷ cols) h = grind (
    arith,
    both_so,
    cells_named-more,
    all_named-more cols
        (second_so (list_all (λ (e : ℕ × Number). is_some (name e.0)) c.1) (all_named name cols) h),
  )

left_false : (a b : Bool) → (a || b) ≡ false → a ≡ false
left_false = grind arith

right_false : (a b : Bool) → (a || b) ≡ false → b ≡ false
right_false = grind arith

-- one more entry in front of others
pub find-after : {X : Type 0} (q k : List ℕ) (x : X) (front back more : List (List ℕ × X)) → find bytes_cmp k front ≡ None
    → find bytes_cmp q more ≡ cond (eq_by_cmp bytes_cmp q k) (Some x) (find bytes_cmp q back)
    → find bytes_cmp q (front ++ more) ≡ cond (eq_by_cmp bytes_cmp q k) (Some x) (find bytes_cmp q (front ++ back))
find-after {X} q k x front back more absent put_there =
    find-two bytes_cmp q front more
    ∙ ap (or_else (find bytes_cmp q front)) put_there
    ∙ elim (eq_by_cmp bytes_cmp q k) as (λ b. eq_by_cmp bytes_cmp q k ≡ b → or_else (find bytes_cmp q front)
    (cond b (Some x) (find bytes_cmp q back)) ≡ cond b (Some x) (or_else (find bytes_cmp q front) (find bytes_cmp q back))) [
      | true ↦ λ tie.
          let same : q ≡ k = tied_names q k (equal_from (bytes_cmp q k) tie) in
          ap (λ (o : Option X). or_else o (Some x)) (ap (λ (n : List ℕ). find bytes_cmp n front) same ∙ absent)
      | false ↦ λ _. refl
    ] refl
    ∙ ap (cond (eq_by_cmp bytes_cmp q k) (Some x)) (sym (find-two bytes_cmp q front back))

module _ (sense : Option Sense) (constant : Option Number) (objective : Option ObjectiveParts)
    (rows : List (List ℕ × RowParts)) (columns : List (List ℕ × ColumnParts)) where
  -- ---- a row

  module _ (k : List ℕ) (definition : RowDefinition) where
    abbrev added : List (List ℕ × RowParts)
    added = rows ++ (k, record { definition = definition; rhs = None; range = None }) ∷ []

    kept_name : (n : ℕ) (r : List ℕ) → name_of_row_key objective rows n ≡ Some r → name_of_row_key objective added n ≡ Some r
    kept_name zero r h = h
    kept_name (suc i) r h = names-more _ _ i r h

    missing : has_row (draft_from sense constant objective rows columns) k ≡ false →
        find bytes_cmp k (each_part definition_of rows) ≡ None
    missing absent = let all = draft_from sense constant _ rows columns in
        absent-each_part _ k _ (right_false (is_objective all k) (has_name all.rows k) absent)

    pub row_draft : AreNumbered objective rows columns →
        has_row (draft_from sense constant objective rows columns) k ≡ false →
        draft_from sense constant objective added columns ≡ with_declaration
        (draft_from sense constant objective rows columns) (declare_row k definition)
    row_draft numbered absent = let parts : RowParts = record { definition = definition; rhs = None; range = None } in
        let forms = ap (sorted_of bytes_cmp) (each_part-append definition_of rows k parts)
        ∙ sorted_of-append _ bytes_total tied_names k _ _ (missing absent) in
        let cells = all_cells-more _ _ kept_name (cells_by_name columns) numbered.named in
        let rhs_values = given_parts-without _ rows k _ refl in
        let ranges = given_parts-without _ rows k _ refl in
        λ i. record (draft_from sense constant objective rows columns) {
          rows = forms i;
          rhs_values = sorted_of bytes_cmp (objective_rhs objective ++ rhs_values i);
          ranges =
              sorted_of bytes_cmp (ranges i);
          coefficients = sorted_of key_cmp (cells i);
        }

    old_or_new : (n : ℕ) (r : List ℕ) → name_of_row_key objective added n ≡ Some r
        → (name_of_row_key objective rows n ≡ Some r) ⊎ ((n ≡ suc (length rows)) × (k ≡ r))
    old_or_new zero r h = inl h
    old_or_new (suc i) r h = grind (arith, old_or_last)

    not_new : has_row (draft_from sense constant objective rows columns) k ≡ false → (n : ℕ) →
        name_of_row_key objective rows n ≡ Some k → ⊥
    not_new absent zero h = let all = draft_from sense constant _ rows columns in
        let none = left_false (is_objective all k) (has_name all.rows k) absent in
        let own : same_bytes k k ≡ false = sym (ap (λ (o : Option (List ℕ)). option_map_or (same_bytes k) o false) h) ∙ none in
        let so : same_bytes k k ≡ true = nat_list_eq_equiv.refl k in cc
    not_new absent (suc i) h = there_found definition_of rows i k h (missing absent)

    pub row_numbered : AreNumbered objective rows columns → length rows < 4294967294
        → has_row (draft_from sense constant objective rows columns) k ≡ false → AreNumbered objective added columns
    row_numbered numbered few absent = record {
      few = simp length-append (omega arith);
      apart = λ n m r p q.
          (grind (arith, old_or_new, not_new));
      named = all_named-more _ _ kept_name (cells_by_name columns)
          numbered.named;
    }

  -- ---- a row that is written

  module _ (i : ℕ) (k : List ℕ) (v w : RowParts) (row : slice_get rows i ≡ Some (k, v)) where
    same_name_at : (n : ℕ) → name_of_row_key objective (set_value_at rows i w) n ≡ name_of_row_key objective rows n
    same_name_at zero = refl
    same_name_at (suc j) = name_kept _ i j w

    same_length : (rows : List (List ℕ × RowParts)) (i : ℕ) → length (set_value_at rows i w) ≡ length rows
    same_length [] i = refl
    same_length (e ∷ es) zero = refl
    same_length (e ∷ es) (suc i) = ap suc (same_length es i)

    still : (n : ℕ) (r : List ℕ) → name_of_row_key objective rows n ≡ Some r →
        name_of_row_key objective (set_value_at rows i w) n ≡ Some r
    still n r h = same_name_at n ∙ h

    pub written_numbered : AreNumbered objective rows columns → AreNumbered objective (set_value_at rows i w) columns
    written_numbered numbered = record {
      few = rw (same_length _ i) numbered.few;
      apart = λ n m r p q. numbered.apart n m r (sym (same_name_at n) ∙ p) (sym (same_name_at m) ∙ q);
      named = all_named-more _ _ still
          (cells_by_name columns) numbered.named;
    }

    same_cells : AreNumbered objective rows columns →
        sorted_of key_cmp (all_cells (name_of_row_key objective (set_value_at rows i w)) (cells_by_name columns)) ≡
        sorted_of key_cmp (all_cells (name_of_row_key objective rows) (cells_by_name columns))
    same_cells numbered = ap (sorted_of key_cmp) (all_cells-more (name_of_row_key objective rows)
        (name_of_row_key objective (set_value_at rows i w)) still (cells_by_name columns) numbered.named)

    same_forms : definition_of w ≡ definition_of v
        → sorted_of bytes_cmp (each_part definition_of (set_value_at rows i w)) ≡ sorted_of bytes_cmp
        (each_part definition_of rows)
    same_forms same = ap (sorted_of bytes_cmp) (each_part-kept definition_of rows i k v w row same)

    pub range_draft : (x : Number) → AreNumbered objective rows columns → IsOnce (each_part definition_of rows)
        → w ≡ record v { range = Some x } → draft_from sense constant objective (set_value_at rows i w) columns
        ≡ with_declaration (draft_from sense constant objective rows columns) (declare_range k x)
    range_draft x numbered once is = let rhs_values = given_parts-kept _ _ i k v w row (ap rhs_of is) in
        let ranges = sorted_of-put _ bytes_total tied_names k x (given_parts range_of (set_value_at rows i w))
        (given_parts range_of rows) (λ q. find-given_any range_of q x rows i k v w row (ap range_of is)
        (once_too definition_of (λ (y : RowParts). y) rows once)) in
        λ j. record (draft_from sense constant objective rows columns) {
          rows = same_forms (ap definition_of is) j;
          rhs_values =
              sorted_of bytes_cmp (objective_rhs objective ++ rhs_values j);
          ranges = ranges j;
          coefficients =
              same_cells numbered j;
        }

    -- the objective has another name than its rows
    pub other_rhs : AreNumbered objective rows columns → find bytes_cmp k (objective_rhs objective) ≡ None
    other_rhs numbered = grind (arith, tied_names k, equal_from, numbered.apart zero (suc i) k)

    pub rhs_draft : (x : Number) → AreNumbered objective rows columns → IsOnce (each_part definition_of rows)
        → w ≡ record v { rhs = Some x } → draft_from sense constant objective (set_value_at rows i w) columns
        ≡ with_declaration (draft_from sense constant objective rows columns) (declare_rhs k x)
    rhs_draft x numbered once is = let ranges = given_parts-kept _ _ i k v w row (ap range_of is) in
        let front = objective_rhs _ in
        let rhs_values = sorted_of-put _ bytes_total tied_names k x
        (front ++ given_parts rhs_of (set_value_at rows i w)) (front ++ given_parts rhs_of rows)
        (λ q. find-after q k x front (given_parts rhs_of rows) (given_parts rhs_of (set_value_at rows i w)) (other_rhs numbered)
        (find-given_any rhs_of q x rows i k v w row (ap rhs_of is) (once_too definition_of (λ (y : RowParts). y) rows once))) in
        λ j. record (draft_from sense constant objective rows columns) {
          rows = same_forms (ap definition_of is) j;
          rhs_values = rhs_values j;
          ranges =
              sorted_of bytes_cmp (ranges j);
          coefficients = same_cells numbered j;
        }

-- ---- the objective

module _ (sense : Option Sense) (constant : Option Number) (name : List ℕ) (rows : List (List ℕ × RowParts))
    (columns : List (List ℕ × ColumnParts)) where
  abbrev named : Option ObjectiveParts
  named = Some (record { name = name; rhs = None })

  module _ (numbered : AreNumbered None rows columns) where
    still_named : (n : ℕ) (r : List ℕ) → name_of_row_key None rows n ≡ Some r → name_of_row_key named rows n ≡ Some r
    still_named zero r h = cc
    still_named (suc i) r h = h

    pub objective_draft : draft_from sense constant named rows columns
        ≡ with_declaration (draft_from sense constant None rows columns) (declare_objective name)
    objective_draft = let cells = all_cells-more _ _ still_named (cells_by_name columns) numbered.named in
        λ i. record (draft_from sense
        constant None rows columns) { objective = Some name; coefficients = sorted_of key_cmp (cells i) }

    no_row : has_row (draft_from sense constant None rows columns) name ≡ false → (i : ℕ) (r : List ℕ)
        → option_map (λ e. e.0) (slice_get rows i) ≡ Some r → Some name ≡ Some r → ⊥
    no_row absent i r h is =
        let same : ◌≡◌ {A = List ℕ} r name = cc in
        there_found _ _ i _ (h ∙ ap Some same) (absent-each_part definition_of name rows absent)

    pub objective_numbered : has_row (draft_from sense constant None rows columns) name ≡ false → AreNumbered named rows columns
    objective_numbered absent = record {
      few = numbered.few;
      apart = apart;
      named = all_named-more _ _ still_named (cells_by_name columns) numbered.named;
    }
      where
        apart : (n m : ℕ) (r : List ℕ) → name_of_row_key named rows n ≡ Some r → name_of_row_key named rows m ≡ Some r → n ≡ m
        apart zero zero r p q = refl
        apart zero (suc j) r p q = absurd (no_row absent j r q p)
        apart (suc i) zero r p q = absurd (no_row absent i r p q)
        apart (suc i) (suc j) r p q = numbered.apart _ _ r p q

-- the right-hand side of the objective
module _ (sense : Option Sense) (constant : Option Number) (o : ObjectiveParts) (x : Number)
    (rows : List (List ℕ × RowParts)) (columns : List (List ℕ × ColumnParts)) where
  pub objective_rhs_draft : o.rhs ≡ None → draft_from sense constant (Some (record o { rhs = Some x })) rows columns
      ≡ with_declaration (draft_from sense constant (Some o) rows columns) (declare_rhs o.name x)
  objective_rhs_draft = grind arith

  pub objective_rhs_numbered : AreNumbered (Some o) rows columns → AreNumbered (Some (record o { rhs = Some x })) rows columns
  objective_rhs_numbered = grind arith

-- ---- how the draft of tables changes with a column that is added or written

cells-empty : (name : ℕ → Option (List ℕ)) (c : List ℕ) (cols : List (List ℕ × List (ℕ × Number)))
    → all_cells name (cols ++ (c, []) ∷ []) ≡ all_cells name cols
cells-empty name c [] = refl
cells-empty name c (col ∷ cols) = grind (arith, cells-empty name c cols)

named-empty : (name : ℕ → Option (List ℕ)) (c : List ℕ) (cols : List (List ℕ × List (ℕ × Number))) → all_named name cols ≡ true
    → all_named name (cols ++ (c, []) ∷ []) ≡ true
named-empty name c [] h = refl
named-empty name c (col ∷ cols) h = let test : ℕ × Number →
    Bool = λ e. is_some _ in both_so _ _ (first_so (list_all test col.1) (all_named name cols) h)
    (named-empty name c cols (second_so (list_all test col.1) (all_named name cols) h))

module _ (sense : Option Sense) (constant : Option Number) (objective : Option ObjectiveParts)
    (rows : List (List ℕ × RowParts)) (columns : List (List ℕ × ColumnParts)) where
  abbrev before : Draft
  before = draft_from sense constant objective rows columns

  -- ---- a column

  module _ (k : List ℕ) where
    -- nothing is declared of a new column
    none_more : {X : Type 0} (f : ColumnParts → Option X) → f new_column ≡ None
        → sorted_of bytes_cmp (given_parts f (columns ++ (k, new_column) ∷ [])) ≡ sorted_of bytes_cmp (given_parts f columns)
    none_more f none = ap (sorted_of bytes_cmp) (given_parts-without f columns k new_column none)

    pub column_draft : has_column before k ≡ false
        → draft_from sense constant objective rows (columns ++ (k, new_column) ∷ []) ≡ with_declaration before (declare_column k)
    column_draft absent = let names = ap (sorted_of bytes_cmp) (each_part-append no_part columns k new_column)
        ∙ sorted_of-append _ bytes_total tied_names k tt _ (absent-each_part no_part k columns absent) in
        let name = name_of_row_key _ _ in
        let cells = ap
        (all_cells name) (each_part-append cells_of columns k new_column) ∙ cells-empty _ k (cells_by_name columns) in
        λ i. record before {
          columns = names i;
          coefficients = sorted_of key_cmp (cells i);
          lowers =
              none_more lower_of refl i;
          uppers = none_more upper_of refl i;
          marked =
              none_more mark_of refl i;
          integers = none_more integer_of refl i;
          binaries =
              none_more binary_of refl i;
          semis = none_more semi_of refl i;
        }

    pub column_numbered : AreNumbered objective rows columns → AreNumbered objective rows (columns ++ (k, new_column) ∷ [])
    column_numbered numbered = record {
      few = numbered.few;
      apart = numbered.apart;
      named = ap (all_named (name_of_row_key objective rows)) (each_part-append cells_of columns k new_column)
          ∙ named-empty _ k (cells_by_name columns) numbered.named;
    }

  -- ---- a column that is written

  module _ (i : ℕ) (k : List ℕ) (v : ColumnParts) (column : slice_get columns i ≡ Some (k, v)) where
    abbrev written : ColumnParts → Draft
    written w = draft_from sense constant objective rows (set_value_at columns i w)

    -- a map with one more entry of the column, if there is one
    abbrev with_part : {X : Type 0} → Option X → List (List ℕ × X) → List (List ℕ × X)
    with_part more es = option_map_or (λ x. put bytes_cmp k x es) more es

    -- a part that is added, or unchanged
    part : {X : Type 0} (f : ColumnParts → Option X) (w : ColumnParts) (more : Option X) →
        IsOnce (cells_by_name columns) → f w ≡ or_else more (f v) →
        sorted_of bytes_cmp (given_parts f (set_value_at columns i w)) ≡ with_part more
        (sorted_of bytes_cmp (given_parts f columns))
    part f w None once is = ap (sorted_of bytes_cmp) (given_parts-kept f columns i k v w column is)
    part f w (Some x) once is = sorted_of-put _ bytes_total tied_names k x _ _
        (λ q. find-given_any f q x _ i k v w column is (once_too cells_of (λ (y : ColumnParts). y) columns once))

    same_cells_column : (w : ColumnParts) → cells_of w ≡ cells_of v →
        cells_by_name (set_value_at columns i w) ≡ cells_by_name columns
    same_cells_column w cells = each_part-kept _ _ i k v w column cells

    pub kept_numbered : (w : ColumnParts) → cells_of w ≡ cells_of v → AreNumbered objective rows columns
        → AreNumbered objective rows (set_value_at columns i w)
    kept_numbered w cells numbered = record {
      few = numbered.few;
      apart = numbered.apart;
      named = ap (all_named (name_of_row_key objective rows)) (same_cells_column w cells) ∙ numbered.named;
    }

    -- coefficients that are written, with bounds and types that are added
    with_parts : (w : ColumnParts) (lower upper : Option Limit) (marked integer binary semi : Option (Unit {0}))
        (coefficients : List (CoefficientKey × Number)) → IsOnce (cells_by_name columns) → (written w).coefficients ≡ coefficients
        → lower_of w ≡ or_else lower (lower_of v) → upper_of w ≡ or_else upper (upper_of v) →
        mark_of w ≡ or_else marked (mark_of v) → integer_of w ≡ or_else integer (integer_of v) →
        binary_of w ≡ or_else binary (binary_of v) → semi_of w ≡ or_else semi (semi_of v) →
        written w ≡ record before {
          coefficients = coefficients;
          lowers =
              with_part lower before.lowers;
          uppers = with_part upper before.uppers;
          marked =
              with_part marked before.marked;
          integers = with_part integer before.integers;
          binaries =
              with_part binary before.binaries;
          semis = with_part semi before.semis;
        }
    with_parts w lower upper marked integer binary semi coefficients once c l u m n b s = λ j. record before {
      columns = ap (sorted_of bytes_cmp) (each_part-kept no_part columns i k v w column refl) j;
      coefficients =
          c j;
      lowers = part lower_of w _ once l j;
      uppers = part upper_of w _ once u j;
      marked =
          part mark_of w _ once m j;
      integers = part integer_of w _ once n j;
      binaries =
          part binary_of w _ once b j;
      semis = part semi_of w _ once s j;
    }

    -- the coefficients are unchanged
    same_coefficients : (w : ColumnParts) → cells_of w ≡ cells_of v → (written w).coefficients ≡ before.coefficients
    same_coefficients w cells = ap (λ cols. sorted_of key_cmp (all_cells (name_of_row_key objective rows) cols))
        (same_cells_column w cells)

    pub mark_draft : IsOnce (cells_by_name columns) →
        written (record v { marked = true }) ≡ with_declaration before (declare_marked k)
    mark_draft once = with_parts _ None None (Some tt) None None None _ once (same_coefficients _ refl) refl refl refl
        refl refl refl

    pub integer_draft : IsOnce (cells_by_name columns) →
        written (record v { integer = true }) ≡ with_declaration before (declare_integer k)
    integer_draft once = with_parts _ None None None (Some tt) None None _ once (same_coefficients _ refl) refl refl
        refl refl refl refl

    pub binary_draft : IsOnce (cells_by_name columns) →
        written (record v { binary = true }) ≡ with_declaration before (declare_binary k)
    binary_draft once = with_parts _ None None None None (Some tt) None _ once (same_coefficients _ refl) refl refl refl
        refl refl refl

    pub semi_draft : IsOnce (cells_by_name columns) →
        written (record v { semi = true }) ≡ with_declaration before (declare_semi k)
    semi_draft once = with_parts _ None None None None None (Some tt) _ once (same_coefficients _ refl) refl refl refl
        refl refl refl

    sides-with_declaration : (before : Draft) (lower upper : Option Limit) →
        with_declarations before (bounds_declared k lower upper) ≡ record before
        { lowers = with_part lower before.lowers; uppers = with_part upper before.uppers }
    sides-with_declaration = grind arith

    pub sides_draft : (lower upper : Option Limit) → IsOnce (cells_by_name columns)
        → written (with_bounds lower upper v) ≡ with_declarations before (bounds_declared k lower upper)
    sides_draft lower upper once = with_parts _ _ _ None None None None _ once (same_coefficients _ refl) refl refl refl
        refl refl refl ∙ sym (sides-with_declaration before lower upper)

    -- ---- a coefficient

    module _ (numbered : AreNumbered objective rows columns) (n : ℕ) (r : List ℕ)
        (row : name_of_row_key objective rows n ≡ Some r) where
      -- it is declared if and only if its column has it
      pub cell_found : IsOnce (cells_by_name columns) → is_some (find nat_cmp n (cells_of v)) ≡ has_coefficient before (at r k)
      cell_found once = sym (ap is_some (find-sorted_of key_cmp key_total (at r k) (all_cells (name_of_row_key objective rows)
          (cells_by_name columns)) ∙ find-all_cells (name_of_row_key objective rows) numbered.apart n r k
          (cells_by_name columns) row once ∙ ap (option_and_then (find nat_cmp n))
          (find_own cells_of columns i k v once column)))

      pub cell_draft : (x : Number) → IsOnce (cells_by_name columns) → has_coefficient before (at r k) ≡ false
          → written (with_cell n x v) ≡ with_declaration before (declare_coefficient (at r k) x)
      cell_draft x once absent =
          let w = with_cell n x v in
          let name = name_of_row_key _ _ in
          let every = all_cells _ (cells_by_name columns) in
          let missing =
          sym (find-sorted_of key_cmp key_total (at r k) every) ∙ none_there _ absent in
          with_parts w None None None None None None _ once (
          sorted_of-put key_cmp key_total same_key (at r k) x (all_cells name (cells_by_name (set_value_at columns i w))) every
          (λ q. find-put_in_column cells_of name numbered.apart q n x r columns i k v w row column refl missing)) refl
          refl refl refl refl refl

      pub cell_numbered : (x : Number) → AreNumbered objective rows (set_value_at columns i (with_cell n x v))
      cell_numbered x = record { few = numbered.few; apart = numbered.apart; named = named-set _ i column numbered.named }
        where
          test : ℕ × Number → Bool
          test e = is_some (name_of_row_key objective rows e.0)

          named-set : (cols : List (List ℕ × ColumnParts)) (i : ℕ) → slice_get cols i ≡ Some (k, v)
              → all_named (name_of_row_key objective rows) (cells_by_name cols) ≡ true
              → all_named (name_of_row_key objective rows) (cells_by_name (set_value_at cols i (with_cell n x v))) ≡ true
          named-set [] i is h = cc
          named-set (c ∷ cols) zero is h = let here : ◌≡◌ {A = List ℕ × ColumnParts} c (k, v) = cc in
              let own = ap (λ y. list_all test (cells_of y.1)) (sym here)
              ∙ first_so _ _ h in
              both_so _ _
              (put_all nat_cmp test n x (cells_of v) (λ j tie. ap (λ (m : ℕ). is_some (name_of_row_key objective rows m))
              (sym (nat_cmp-IsAntisymmetric n j tie)) ∙ ap is_some row) (ap is_some row) own)
              (second_so (list_all test (cells_of c.1)) (all_named (name_of_row_key objective rows) (cells_by_name cols)) h)
          named-set (c ∷ cols) (suc i) is h =
              both_so _ _ (first_so (list_all test (cells_of c.1)) (all_named (name_of_row_key objective
              rows) (cells_by_name cols)) h)
              (named-set cols i is (second_so (list_all test (cells_of c.1)) (all_named (name_of_row_key
              objective rows) (cells_by_name cols)) h))
