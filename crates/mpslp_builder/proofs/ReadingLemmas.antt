-- What tables state of a number is what their draft states of the name; the first error of a declaration, and of all.
use Rattle.mpslp_builder.proofs.Prelude
use Prelude.{◌≡◌, refl, sym, ap, ◌∙◌, ℕ, zero, suc, List, [], ◌∷◌, ◌++◌, Bool, true, false, cond, ◌<◌, arith, slice_get_within, Option}
use Prelude.{Some, None, is_some, slice_get, length, ◌||◌, ◌&&◌, option_map, option_map_or, eq_by_cmp, nat_cmp, nat_list_eq_equiv}
use Prelude.{bytes_decides, texts_ties, find, Number, same_bytes, bytes_cmp, Sense, RowDefinition, is_free_definition}
use Prelude.{is_definition_by_limits, sorted_of, each_part, given_parts, bytes_total, find-sorted_of, at, or_else, find-two, at_name}
use Prelude.{has_name, has_coefficient, is_objective, is_free_row, is_row_by_limits, is_integer, has_objective_rhs, definition_of, rhs_of}
use Prelude.{range_of, cells_of, as_part, name_of_objective, objective_rhs, draft, IsNumbered, row_key_of, row_name, row_satisfies}
use Prelude.{column_satisfies, cells_at, is_objective_ref, IsOnceEach, ObjectiveParts, RowParts, ColumnParts, RowRef, Objective, Tables}
use Prelude.{declared_of, lower_of, upper_of, declared_in, drop, ◌+◌, ◌-◌, map, filter, filter_map, slice_index_or, unwrap_or, list_any}
use Prelude.{second_so, is_lt, Ordering, Less, Greater, put, is_sorted, below_all, T, drop_more}
use Prelude.{zero_number, both_so, nor, true_from, head_of, is_nonempty, IsOnce, RowFault, ColumnFault, is_sorted-sorted_of, Draft}
use Prelude.{names_in, row_passes, whole_fault, file_fault, no_part, row_test, bounds_test, kind_of_row_fault, kind_of_column_fault}
use Prelude.{row_fails, column_fails, is_wrong_row, is_wrong_column, lesser, is_below, least_name, entry_name, named_fault, FaultKind}
use Prelude.{less_from, not, is_infinite_size, is_plus_infinite, is_minus_infinite, Limit, UnknownRow, UnknownColumn, DuplicateRhs}
use Prelude.{DuplicateRange, RangeOnFree, InfiniteValue, DuplicateEntry, DuplicateBound, SemiContinuous, those_of, declare_range, has_row}
use Prelude.{has_column, rhs_tests, coefficient_tests, integer_tests, semi_tests, refusals, bounds_refusals, column_name, has_limits, rules}
use Prelude.{◌≢◌, flat_map, ForSome, with_declaration, declare_column, declare_marked, declare_coefficient, is_semi, refusals_in_turn}
use Prelude.{pair_of, pair_if_some, listed, entry_declared, column_line, AreRows, AreKnownRows, AreFree, Entry, Entries, RowNumbers}
use Rattle.mpslp_builder.{specs.declared.tables.RowRef.TheVariants.Row, proofs.TableDrafts.{absent-each_part, none_there, there_found}}
use Rattle.mpslp_builder.proofs.TableDrafts.{found_there, find_own, find_given_own, none_given, cell_found, other_rhs, once_too}
use Rattle.mpslp_builder.proofs.{RefusalLemmas.{first_none, rest_none, left_none, right_none}, SlotLemmas.has-put_key}
use Rattle.mpslp_model_core.specs.declared.limits.RowFault.TheVariants as rows
use Rattle.mpslp_model_core.specs.declared.bounds.ColumnFault.TheVariants as columns

-- ---- what tables state of a number is what their draft states of the name

-- a row or a column with a number is declared
pub number_there : {V X : Type 0} (part : V → X) (es : List (List ℕ × V)) (i : ℕ) (name : List ℕ)
    → option_map (λ e. e.0) (slice_get es i) ≡ Some name → true ≡ has_name (sorted_of bytes_cmp (each_part part es)) name
number_there part es i name is = grind (arith, there_found part es i name is, absent-each_part part name es)

-- ---- the entry of a number

-- the entry at a number has this name
pub record HasEntryAt {V : Type 0} (es : List (List ℕ × V)) (i : ℕ) (wanted : List ℕ) : Type 0 where
  pub key : List ℕ
  pub parts : V
  pub at : slice_get es i ≡ Some (key, parts)
  pub named : key ≡ wanted

pub entry_at : {V : Type 0} (es : List (List ℕ × V)) (i : ℕ) (name : List ℕ) → option_map (λ e. e.0) (slice_get es i) ≡ Some name
    → HasEntryAt es i name
entry_at [] i name h = cc
entry_at (e ∷ es) zero name h = record { key = e.0; parts = e.1; at = refl; named = cc }
entry_at (e ∷ es) (suc i) name h = grind (arith, at, entry_at es i name h)

-- it is one of the map's
pub within : {V : Type 0} (es : List (List ℕ × V)) (i : ℕ) (name : List ℕ) → HasEntryAt es i name → i < length es
within es i name s = slice_get_within es i _ s.at

-- the entry at the number
pub own_parts : {V : Type 0} (es : List (List ℕ × V)) (i : ℕ) (name : List ℕ) (s : HasEntryAt es i name) (key : List ℕ)
    (parts : V) → slice_get es i ≡ Some (key, parts) → (key ≡ name) × (parts ≡ s.parts)
own_parts {V} es i name s key parts is = grind arith

or_nothing : (a b : Bool) → (a || (b || false)) ≡ (a || b)
or_nothing = grind arith

part_there : (b : Bool) → is_some (as_part b) ≡ b
part_there = grind arith

found_first : {X : Type 0} (o : Option X) → or_else o None ≡ o
found_first = grind arith

module _ (sense : Option Sense) (constant : Option Number) (t : Tables) (once : IsOnceEach t) where
  -- ---- columns

  module _ (i : ℕ) (c : List ℕ) (s : HasEntryAt t.columns.entries i c) where
    -- a part of the column is what is found by its name
    pub given_at : {X : Type 0} (f : ColumnParts → Option X) →
        at_name (sorted_of bytes_cmp (given_parts f t.columns.entries)) c ≡ f s.parts
    given_at f = find-sorted_of _ bytes_total c _ ∙ ap (λ name. find bytes_cmp name (given_parts f _)) (sym s.named)
        ∙ find_given_own _ f _ i _ _ once.columns s.at

    pub stated_at : (f : ColumnParts → Bool) → column_satisfies t i f ≡ f s.parts
    stated_at f = ap (λ o. option_map_or (λ e. f e.1) o false) s.at

    -- whether a part is declared
    pub part_at : {X : Type 0} (f : ColumnParts → Option X)
        → has_name (sorted_of bytes_cmp (given_parts f t.columns.entries)) c ≡ column_satisfies t i (λ parts. is_some (f parts))
    part_at f = ap is_some (given_at f) ∙ sym (stated_at (λ parts. is_some (f parts)))

    -- whether the column passes a test
    pub flag_at : (f : ColumnParts → Bool)
        → has_name (sorted_of bytes_cmp (given_parts (λ parts. as_part (f parts)) t.columns.entries)) c ≡ column_satisfies t i f
    flag_at f = ap is_some (given_at (λ parts. as_part (f parts))) ∙ part_there _ ∙ sym (stated_at f)

    pub integer_at : is_integer (draft sense constant t) c ≡ column_satisfies t i
        (λ parts. parts.marked || (parts.integer || parts.binary))
    integer_at = (λ j. (flag_at (λ parts. parts.marked) ∙ stated_at (λ parts. parts.marked)) j ||
        ((flag_at (λ parts. parts.integer) ∙ stated_at (λ parts. parts.integer)) j ||
        (flag_at (λ parts. parts.binary) ∙ stated_at (λ parts. parts.binary)) j))
        ∙ sym (stated_at (λ parts. parts.marked || (parts.integer || parts.binary)))

    pub own_cells : cells_at t i ≡ cells_of s.parts
    own_cells = ap (λ o. option_map_or (λ e. cells_of e.1) o []) s.at

    -- whether a coefficient is declared
    pub cell_at : (n : ℕ) (r : List ℕ) → IsNumbered t → row_name t n ≡ Some r
        → has_coefficient (draft sense constant t) (at r c) ≡ is_some (find nat_cmp n (cells_at t i))
    cell_at n r numbered row = sym (ap (λ (es : List (ℕ × Number)). is_some (find nat_cmp n es)) own_cells
        ∙ cell_found sense constant t.objective t.rows.entries t.columns.entries i s.key s.parts s.at numbered n r row
        once.columns ∙ ap (λ (name : List ℕ). has_coefficient (draft sense constant t) (at r name)) s.named)

  -- ---- rows

  module _ (numbered : IsNumbered t) where
    module _ (i : ℕ) (r : List ℕ) (s : HasEntryAt t.rows.entries i r) where
      row_stated : (f : RowParts → Bool) →
          option_map_or (λ (e : List ℕ × RowParts). f e.1) (slice_get t.rows.entries i) false ≡ f s.parts
      row_stated f = ap (λ o. option_map_or (λ e. f e.1) o false) s.at

      form_at : at_name (draft sense constant t).rows r ≡ Some (definition_of s.parts)
      form_at = find-sorted_of _ bytes_total r _ ∙ ap (λ name. find bytes_cmp name (each_part definition_of _))
          (sym s.named) ∙ find_own _ _ i _ _ once.rows s.at

      pub range_at : at_name (draft sense constant t).ranges r ≡ range_of s.parts
      range_at = find-sorted_of _ bytes_total r _
          ∙ ap (λ name. find bytes_cmp name (given_parts range_of t.rows.entries)) (sym s.named)
          ∙ find_given_own _ _ _ i _ _ once.rows s.at

      pub rhs_at : at_name (draft sense constant t).rhs_values r ≡ rhs_of s.parts
      rhs_at = find-sorted_of _ bytes_total r _ ∙ ap (λ name. find bytes_cmp name (objective_rhs t.objective ++ given_parts rhs_of
          t.rows.entries)) (sym s.named) ∙ find-two bytes_cmp s.key (objective_rhs t.objective)
          (given_parts rhs_of t.rows.entries)
          ∙ ap (λ (o : Option Number). or_else o (find bytes_cmp s.key (given_parts rhs_of t.rows.entries)))
          (other_rhs sense constant t.objective t.rows.entries t.columns.entries i s.key s.parts s.parts
          s.at numbered) ∙ find_given_own definition_of rhs_of t.rows.entries i s.key s.parts once.rows s.at

      no_objective : is_objective (draft sense constant t) r ≡ false
      no_objective =
          elim (name_of_objective _) as (λ o. name_of_objective t.objective ≡ o → option_map_or (same_bytes r) o false ≡ false) [
            | None ↦ λ _. refl
            | Some name ↦ λ there.
                elim (same_bytes r _) as (λ b. same_bytes r name ≡ b → b ≡ false) [
                  | true ↦ λ tie.
                      let same = (bytes_decides r _).0 tie in
                      let here : row_name t (suc i) ≡ Some r = ap (option_map (λ (e : List ℕ × RowParts). e.0)) s.at
                      ∙ ap Some s.named in
                      let no : zero ≡ suc i = numbered.apart zero (suc i) r (there ∙ ap Some (sym same)) here in
                      cc
                  | false ↦ λ _. refl
                ] refl
          ] refl

    module _ (o : ObjectiveParts) (there : t.objective ≡ Some o) where
      no_such_row : {X : Type 0} (f : RowParts → X) → find bytes_cmp o.name (each_part f t.rows.entries) ≡ None
      no_such_row {X} f =
          elim (is_some _) as (λ b. is_some
          (find bytes_cmp o.name (each_part f t.rows.entries)) ≡ b → find bytes_cmp o.name (each_part f t.rows.entries) ≡ None) [
            | true ↦ λ is.
                let row = found_there f _ _ is in
                let no = numbered.apart _ _ _ (ap name_of_objective there) row.1 in
                absurd (zero_apart row.0 no)
            | false ↦ λ none. none_there _ none
          ] refl
        where
          zero_apart : (n : ℕ) → zero ≡ suc n → ⊥
          zero_apart n h = cc

      no_form : at_name (draft sense constant t).rows o.name ≡ None
      no_form = find-sorted_of _ bytes_total _ (each_part definition_of t.rows.entries) ∙ no_such_row definition_of

      no_range : at_name (draft sense constant t).ranges o.name ≡ None
      no_range = find-sorted_of _ bytes_total o.name (given_parts range_of t.rows.entries)
          ∙ none_given definition_of range_of o.name t.rows.entries (no_such_row definition_of)

      own_rhs : (value : Option Number) → find bytes_cmp o.name (option_map_or (λ x. (o.name, x) ∷ []) value []) ≡ value
      own_rhs None = refl
      own_rhs (Some x) = ap (λ b. cond b (Some x) None) (own_tie o.name)
        where
          own_tie : (name : List ℕ) → eq_by_cmp bytes_cmp name name ≡ true
          own_tie name = sym (texts_ties name name) ∙ nat_list_eq_equiv.refl name

      objective_rhs_at : at_name (draft sense constant t).rhs_values o.name ≡ o.rhs
      objective_rhs_at = find-sorted_of _ bytes_total _ (objective_rhs t.objective ++ given_parts rhs_of t.rows.entries)
          ∙ ap (λ (parts :
          Option ObjectiveParts). find bytes_cmp o.name (objective_rhs parts ++ given_parts rhs_of t.rows.entries))
          there ∙ find-two bytes_cmp o.name (objective_rhs (Some o)) (given_parts rhs_of t.rows.entries)
          ∙ (λ j. or_else (own_rhs o.rhs j)
          (none_given definition_of rhs_of o.name t.rows.entries (no_such_row definition_of) j)) ∙ found_first o.rhs

      own_name : is_objective (draft sense constant t) o.name ≡ true
      own_name = ap (λ parts. option_map_or (same_bytes o.name) (name_of_objective parts) false) there
          ∙ nat_list_eq_equiv.refl o.name

    -- the objective has a right-hand side
    pub has_objective_rhs_at : has_objective_rhs (draft sense constant t) ≡ option_map_or (λ o. is_some o.rhs) t.objective false
    has_objective_rhs_at =
        let all = draft sense constant t in
        let of_parts : Option ObjectiveParts →
        Bool = λ parts. option_map_or (has_name all.rhs_values) (name_of_objective parts) false in
        elim t.objective as (λ parts. t.objective ≡ parts →
        has_objective_rhs all ≡ option_map_or (λ o. is_some o.rhs) parts false) [
          | None ↦ λ none. ap of_parts none
          | Some o ↦ λ there. ap of_parts there ∙ ap is_some (objective_rhs_at o there)
        ] refl

    -- ---- the objective or a row

    objective_there : (parts : Option ObjectiveParts) (r : List ℕ) → name_of_objective parts ≡ Some r
        → (o : ObjectiveParts) × ((parts ≡ Some o) × (o.name ≡ r))
    objective_there None r h = cc
    objective_there (Some o) r h = (o, (refl, cc))

    -- the objective has parts, with the name
    objective_stated : (o : ObjectiveParts) → t.objective ≡ Some o → (f : ObjectiveParts → Bool) →
        option_map_or f t.objective false ≡ f o
    objective_stated o there f = ap (λ parts. option_map_or f parts false) there

    pub free_at : (p : RowRef) (r : List ℕ) → row_name t (row_key_of p) ≡ Some r
        → is_free_row (draft sense constant t) r ≡ row_satisfies t p (λ o. false) (λ row. is_free_definition row.definition)
    free_at Objective r is = let o = objective_there _ r is in
        ap (λ name. is_free_row (draft sense constant t) name) (sym o.1.1)
        ∙ ap (λ definition. option_map_or is_free_definition definition false) (no_form o.0 o.1.0)
        ∙ sym (objective_stated o.0 o.1.0 (λ o. false))
    free_at (Row i) r is = let s = entry_at _ i r is in
        ap (λ definition. option_map_or is_free_definition definition false) (form_at i r s)
        ∙ sym (row_stated i r s (λ row. is_free_definition row.definition))

    pub objective_at : (p : RowRef) (r : List ℕ) → row_name t (row_key_of p) ≡ Some r →
        is_objective (draft sense constant t) r ≡ is_objective_ref p
    objective_at Objective r is =
        let o = objective_there _ r is in ap (λ name. is_objective (draft sense constant t) name) (sym o.1.1) ∙ own_name o.0 o.1.0
    objective_at (Row i) r is = no_objective i r (entry_at t.rows.entries i r is)

    pub has_range_at : (p : RowRef) (r : List ℕ) → row_name t (row_key_of p) ≡ Some r
        → (has_name (draft sense constant t).ranges r || is_row_by_limits (draft sense constant t) r)
        ≡ row_satisfies t p (λ o. false) (λ row. is_some row.range || is_definition_by_limits row.definition)
    has_range_at Objective r is = let o = objective_there _ r is in ap (λ name. has_name (draft sense constant t).ranges name ||
        is_row_by_limits (draft sense constant t) name) (sym o.1.1) ∙ (λ j. is_some (no_range o.0 o.1.0 j) || option_map_or
        is_definition_by_limits (no_form o.0 o.1.0 j) false) ∙ sym (objective_stated o.0 o.1.0 (λ o. false))
    has_range_at (Row i) r is = let s = entry_at _ i r is in
        (λ j. is_some (range_at i r s j) || option_map_or is_definition_by_limits (form_at i r s j) false)
        ∙ sym (row_stated i r s (λ row. is_some row.range || is_definition_by_limits row.definition))

    pub has_rhs_at : (b : Bool) (p : RowRef) (r : List ℕ) → row_name t (row_key_of p) ≡ Some r → (has_name (draft sense constant
        t).rhs_values r || (is_row_by_limits (draft sense constant t) r || (is_objective (draft sense constant t) r && b)))
        ≡ row_satisfies t p (λ o. is_some o.rhs || b) (λ row. is_some row.rhs || is_definition_by_limits row.definition)
    has_rhs_at b Objective r is = let o = objective_there _ r is in ap (λ name. has_name (draft sense constant
        t).rhs_values name || (is_row_by_limits (draft sense constant t) name ||
        (is_objective (draft sense constant t) name && b))) (sym o.1.1)
        ∙ (λ j. is_some (objective_rhs_at o.0 o.1.0 j) ||
        (option_map_or is_definition_by_limits (no_form o.0 o.1.0 j) false
        || (own_name o.0 o.1.0 j && b))) ∙ sym (objective_stated o.0 o.1.0 (λ o. is_some o.rhs || b))
    has_rhs_at b (Row i) r is = let s = entry_at _ i r is in
        (λ j. is_some (rhs_at i r s j) ||
        (option_map_or is_definition_by_limits (form_at i r s j) false || (no_objective i r s j && b)))
        ∙ or_nothing _ _ ∙ sym (row_stated i r s (λ row. is_some row.rhs || is_definition_by_limits row.definition))

    -- ---- numbers

    -- the number of a row fits 32 bits
    pub number_fits : (p : RowRef) (r : List ℕ) → row_name t (row_key_of p) ≡ Some r → row_key_of p < 4294967296
    number_fits Objective r is = omega arith
    number_fits (Row i) r is = let below = within _ i r (entry_at t.rows.entries i r is) in
        let few = numbered.few in omega arith

-- ---- what a draft says of a row or a column by its name is the part stored with that name

module _ (sense : Option Sense) (constant : Option Number) (t : Tables) (once : IsOnceEach t) where
  -- a test of a row's definition, right-hand side and range
  pub row_parts_at : IsNumbered t → (i : ℕ) (k : List ℕ) (row : RowParts) → slice_get t.rows.entries i ≡ Some (k, row) →
      {X : Type 0} (ask : RowDefinition → Option Number → Option Number → X) →
      ask (definition_of row) (at_name (draft sense constant t).rhs_values k)
      (at_name (draft sense constant t).ranges k) ≡ ask (definition_of row) (rhs_of row) (range_of row)
  row_parts_at numbered i k row is ask = let s : HasEntryAt t.rows.entries i k =
      record { key = k; parts = row; at = is; named = refl } in
      λ j. ask (definition_of row) (rhs_at sense constant t once numbered i k s j)
      (range_at sense constant t once numbered i k s j)

  pub column_parts_at : (i : ℕ) (k : List ℕ) (column : ColumnParts) → slice_get t.columns.entries i ≡ Some (k, column)
      → declared_of (draft sense constant t) k ≡ declared_in column
  column_parts_at i k column is =
      let s : HasEntryAt t.columns.entries i k = record { key = k; parts = column; at = is; named = refl } in
      let flag : (f : ColumnParts → Bool) →
      _ = λ f. flag_at sense constant t once i k s f ∙ stated_at sense constant t once i k s f in
      λ j. record {
        lower = given_at sense constant t once i k s lower_of j;
        upper = given_at sense constant t once i k s upper_of j;
        marked = flag (λ parts. parts.marked) j;
        integer = flag (λ parts. parts.integer) j;
        binary = flag (λ parts. parts.binary) j;
        semi = flag (λ parts. parts.semi) j;
      }

-- ---- the error that is found first is the one that is reported: of each kind, the one with the least name

-- ---- the first name of a sorted map that passes a test

-- the first name of those that pass
abbrev first_of : {X : Type 0} → (List ℕ × X → Bool) → List (List ℕ × X) → Option (List ℕ)
first_of p es = head_of (names_in (filter p es))

module _ {X : Type 0} (p : List ℕ × X → Bool) where
  -- a name below all names is the lesser one
  below_first : (k : List ℕ) (es : List (List ℕ × X)) → below_all bytes_cmp k es ≡ true → lesser k (first_of p es) ≡ k
  below_first k [] h = refl
  below_first k (e ∷ es) h = grind (arith, below_first k es (second_so (is_lt (bytes_cmp k e.0)) (below_all bytes_cmp k es) h))

  -- a name below another one is below all names that are above that one
  below_through : (k m : List ℕ) (es : List (List ℕ × X)) → bytes_cmp k m ≡ Less → below_all bytes_cmp m es ≡ true →
      below_all bytes_cmp k es ≡ true
  below_through k m [] less h = refl
  below_through k m (e ∷ es) less h = grind (
    arith,
    less_from,
    both_so,
    bytes_total,
    below_through k m es less
        (second_so (is_lt (bytes_cmp m e.0)) (below_all bytes_cmp m es) h),
  )

  greater_no : (a b : List ℕ) → bytes_cmp a b ≡ Greater → is_lt (bytes_cmp a b) ≡ false
  greater_no a b h = ap is_lt h

  -- an entry that is put
  first_put : (k : List ℕ) (v : X) (es : List (List ℕ × X)) → T (is_sorted bytes_cmp es) → find bytes_cmp k es ≡ None
      → first_of p (put bytes_cmp k v es) ≡ cond (p (k, v)) (Some (lesser k (first_of p es))) (first_of p es)
  first_put k v [] sorted none = grind arith
  first_put k v (e ∷ es) sorted none = grind (
    arith,
    both_so (is_lt (bytes_cmp k e.0)) (below_all bytes_cmp k es),
    below_through k e.0 es,
    true_from,
    below_first k (e ∷ es),
    first_put k v es,
    greater_no k e.0,
  )

-- The least of entries with distinct names is the first of their map.
module _ {V X : Type 0} (f : V → X) (p : List ℕ × X → Bool) (test : V → Bool) where
  pub least_is_first : (es : List (List ℕ × V)) → IsOnce (each_part f es) →
      ((i : ℕ) (k : List ℕ) (v : V) → slice_get es i ≡ Some (k, v) → p (k, f v) ≡ test v) →
      head_of (names_in (filter p (sorted_of bytes_cmp (each_part f es)))) ≡ least_name test es
  least_is_first [] once own = refl
  least_is_first (e ∷ es) once own = let rest = each_part f es in
      let more = least_is_first es once.1 (λ i k v is. own (suc i) k v is) in
      first_put p e.0 _ _ (is_sorted-sorted_of bytes_cmp bytes_total rest)
      (find-sorted_of bytes_cmp bytes_total e.0 rest ∙ once.0)
      ∙ (λ i. cond (own zero e.0 e.1 refl i) (Some (lesser e.0 (more i))) (more i))

-- ---- the loop

module _ {V : Type 0} (test : V → Bool) where
  -- the entries from an index on
  pub drop_at : (es : List (List ℕ × V)) (i : ℕ) (e : List ℕ × V) → slice_get es i ≡ Some e → drop i es ≡ e ∷ drop (suc i) es
  drop_at [] i e is = cc
  drop_at (x ∷ es) zero e is = grind arith
  drop_at (x ∷ es) (suc i) e is = drop_at es i e is

  -- if none passes, there is no least one
  pub none_least : (wrong : V → Bool) → ((v : V) → wrong v ≡ false → test v ≡ false) → (es : List (List ℕ × V))
      → list_any (λ e. wrong e.1) es ≡ false → least_name test es ≡ None
  none_least wrong harder [] h = refl
  none_least wrong harder (e ∷ es) h = grind (arith, nor, none_least wrong harder es)

-- ---- whether any entry passes, from the last one to the first

module _ {X : Type 0} (p : X → Bool) where
  pub any_at : (es : List X) (i : ℕ) (e : X) → slice_get es i ≡ Some e → p e ≡ true → true ≡ list_any p es
  any_at [] i e is passes = cc
  any_at (x ∷ es) zero e is passes = grind arith
  any_at (x ∷ es) (suc i) e is passes = grind (arith, any_at es i e is passes)

  pub drop_all : (es : List X) → list_any p (drop (length es) es) ≡ false
  drop_all [] = refl
  drop_all (x ∷ es) = drop_all es

  pub none_from : (es : List X) (i : ℕ) (e : X) → slice_get es i ≡ Some e → p e ≡ false → list_any p (drop (suc i) es) ≡ false
      → list_any p (drop i es) ≡ false
  none_from [] i e is fails rest = cc
  none_from (x ∷ es) zero e is fails rest = grind arith
  none_from (x ∷ es) (suc i) e is fails rest = none_from es i e is fails rest

-- an index below the length has an entry
pub there : {X : Type 0} (es : List X) (i : ℕ) → i < length es → slice_get es i ≡ None → ⊥
there [] i h none = omega (arith, h)
there (e ∷ es) zero h none = cc
there (e ∷ es) (suc i) h none = there es i (omega (arith, h)) none

-- the previous index
pub before : (n : ℕ) → 0 < n → n ≡ suc (n - 1)
before n h = omega (arith, h)

module _ {V : Type 0} (test : V → Bool) (es : List (List ℕ × V)) (i : ℕ) (k : List ℕ) (v : V)
    (is : slice_get es i ≡ Some (k, v)) (o : Option (List ℕ)) (so_far : o ≡ least_name test (drop (suc i) es)) where
  with_entry : least_name test (drop i es) ≡ cond (test v) (Some (lesser k o)) o
  with_entry = ap (least_name test) (drop_at test es i (k, v) is) ∙ ap (λ m. cond (test v) (Some (lesser k m)) m) (sym so_far)

  -- an entry that passes and is below is the least
  pub least_put : test v ≡ true → is_below k o ≡ true → entry_name es i ≡ least_name test (drop i es)
  least_put = grind (arith, with_entry)

  -- one that does not pass, or is not below, does not change the least
  pub least_failing : test v ≡ false → o ≡ least_name test (drop i es)
  least_failing = grind (arith, with_entry)

  pub least_above : test v ≡ true → is_below k o ≡ false → o ≡ least_name test (drop i es)
  least_above = grind (arith, with_entry)

-- ---- rows

-- a row without an error
pub faultless_row : (fault : RowFault) (row : RowParts) → is_wrong_row row ≡ false → row_fails fault row ≡ false
faultless_row fault row h = grind arith

of_row : (all : Draft) (fault : RowFault) → named_fault all (kind_of_row_fault fault) ≡ option_map
    (λ name. whole_fault (kind_of_row_fault fault) (Some name))
    (head_of (names_in (filter (row_passes all (row_test fault)) all.rows)))
of_row = grind arith

pub row_named : (t : Tables) → IsNumbered t → IsOnceEach t → (fault : RowFault) →
    named_fault (draft None None t) (kind_of_row_fault fault) ≡ option_map
    (λ name. whole_fault (kind_of_row_fault fault) (Some name)) (least_name (row_fails fault) t.rows.entries)
row_named t numbered once fault = let all = draft None None t in of_row all fault
    ∙ ap (option_map (λ (name : List ℕ). whole_fault (kind_of_row_fault fault) (Some name)))
    (least_is_first definition_of (row_passes all (row_test fault)) (row_fails fault) t.rows.entries once.rows
    (λ i k row is. row_parts_at None None t once numbered i k row is
    (λ definition rhs range. row_test fault definition (unwrap_or rhs zero_number) range)))

-- ---- columns

pub faultless_column : (fault : ColumnFault) (column : ColumnParts) → is_wrong_column column ≡ false →
    column_fails fault column ≡ false
faultless_column fault column h = grind arith

filter-map : {X Y : Type 0} (p : Y → Bool) (f : X → Y) (xs : List X) → filter p (map f xs) ≡ map f (filter (λ x. p (f x)) xs)
filter-map p f [] = refl
filter-map p f (x ∷ xs) = grind (arith, filter-map p f xs)

of_column : (all : Draft) (fault : ColumnFault)
    → named_fault all (kind_of_column_fault fault) ≡ option_map (λ name. whole_fault (kind_of_column_fault fault) (Some name))
    (head_of (names_in (filter (λ column. bounds_test fault (declared_of all column.0)) all.columns)))
of_column all columns.NegativeUpper = grind
    (arith, filter-map (λ name. bounds_test columns.NegativeUpper (declared_of all name)) (λ column. column.0) all.columns)
of_column all columns.BoundsCrossed = grind
    (arith, filter-map (λ name. bounds_test columns.BoundsCrossed (declared_of all name)) (λ column. column.0) all.columns)
of_column all columns.BinaryBounds = grind
    (arith, filter-map (λ name. bounds_test columns.BinaryBounds (declared_of all name)) (λ column. column.0) all.columns)
of_column all columns.SemiBounds = grind
    (arith, filter-map (λ name. bounds_test columns.SemiBounds (declared_of all name)) (λ column. column.0) all.columns)

pub column_named : (t : Tables) → IsOnceEach t → (fault : ColumnFault) →
    named_fault (draft None None t) (kind_of_column_fault fault) ≡ option_map
    (λ name. whole_fault (kind_of_column_fault fault) (Some name)) (least_name (column_fails fault) t.columns.entries)
column_named t once fault = let all = draft None None t in of_column all _ ∙ ap (option_map (λ (name : List ℕ). whole_fault
    (kind_of_column_fault fault) (Some name))) (least_is_first no_part (λ column. bounds_test fault (declared_of all column.0))
    (column_fails fault) t.columns.entries (column_once t once)
    (λ i k column is. ap (bounds_test fault) (column_parts_at None None t once i k column is)))
  where
    column_once : (t : Tables) → IsOnceEach t → IsOnce (each_part no_part t.columns.entries)
    column_once = grind (arith, once_too)

-- ---- the first of several options

pub first_left : {X Y : Type 0} (f : X → Option Y) (xs : List X) (i : ℕ) (d : X) (y : Y) → i < length xs
    → f (slice_index_or xs i d) ≡ Some y → head_of (filter_map f (drop i xs)) ≡ Some y
first_left {Y = Y} f xs i d y l h = grind (arith, drop_more)

pub next_left : {X Y : Type 0} (f : X → Option Y) (xs : List X) (i : ℕ) (d : X) → i < length xs → f (slice_index_or xs i d) ≡ None
    → head_of (filter_map f (drop (i + 1) xs)) ≡ head_of (filter_map f (drop i xs))
next_left {Y = Y} f xs i d l h = grind (arith, drop_more)

-- none of several is there
pub none_left : {X Y : Type 0} (f : X → Option Y) → ((x : X) → f x ≡ None) → (xs : List X) → head_of (filter_map f xs) ≡ None
none_left f none [] = refl
none_left {Y = Y} f none (x ∷ xs) = grind (arith, none_left f none xs)

-- the name at an index, and the error that is reported for it
pub reported : (kind : FaultKind) (name : Option (List ℕ)) (least : Option (List ℕ)) → name ≡ least → is_some name ≡ true
    → option_map (λ n. whole_fault kind (Some n)) least ≡ Some (whole_fault kind name)
reported = grind arith

pub entry_named : {V : Type 0} (es : List (List ℕ × V)) (i : ℕ) → i < length es → is_some (entry_name es i) ≡ true
entry_named [] i h = absurd (omega (arith, h))
entry_named (e ∷ es) zero h = refl
entry_named (e ∷ es) (suc i) h = entry_named es i (omega (arith, h))

-- ---- all rows and columns

nonempty_put : {K X : Type 0} (R : K → K → Ordering) (k : K) (v : X) (es : List (K × X)) → is_nonempty (put R k v es) ≡ true
nonempty_put R k v [] = refl
nonempty_put R k v (e ∷ es) = grind arith

-- whether there are columns
pub some_column : (es : List (List ℕ × ColumnParts)) → is_nonempty (sorted_of bytes_cmp (each_part no_part es)) ≡ is_nonempty es
some_column [] = refl
some_column (e ∷ es) = nonempty_put bytes_cmp e.0 tt _

pub nonempty_from : {X : Type 0} (es : List X) → (length es ≡ 0 → ⊥) → is_nonempty es ≡ true
nonempty_from = grind arith

pub of_the_whole : (all : Draft) → is_nonempty all.columns ≡ true →
    file_fault all ≡ or_else (head_of
    (filter_map (λ fault. named_fault all (kind_of_row_fault fault))
    (rows.InfiniteLimit ∷ rows.RangeInexact ∷ rows.LimitTooLarge ∷ rows.LimitsCrossed ∷ [])))
    (head_of (filter_map (λ fault. named_fault all (kind_of_column_fault fault))
    (columns.NegativeUpper ∷ columns.BoundsCrossed ∷ columns.BinaryBounds ∷ columns.SemiBounds ∷ [])))
of_the_whole = grind arith

-- the first is there and is the result; or it is not, and the result is that of the others
pub first_decides : {X Y : Type 0} (f : X → Y) (o : Option X) (a b : Option Y) → option_map f o ≡ a → true ≡ is_some o →
    option_map f o ≡ or_else a b
first_decides = grind arith

pub later_decides : {X Y : Type 0} (f : X → Y) (o : Option X) (a b : Option Y) → option_map f o ≡ a →
    false ≡ is_some o → b ≡ or_else a b
later_decides = grind arith

-- ---- the result of a query of tables is the first error of the declaration

module _ (constant : Option Number) (t : Tables) (once : IsOnceEach t) where
  -- ---- columns

  module _ (i : ℕ) (c : List ℕ) (is : column_name t i ≡ Some c) (there : true ≡ has_column (draft None constant t) c) where
    pub integer_stated : (b : Bool) → b ≡ column_satisfies t i (λ parts. parts.semi)
        → those_of (integer_tests (draft None constant t) c) ≡ those_of ((b, SemiContinuous) ∷ [])
    integer_stated b stated = let s = entry_at _ i c is in
        let semi = flag_at None constant t once i c s (λ parts. parts.semi) ∙ sym stated in
        λ j. those_of ((not (sym there j), UnknownColumn) ∷ (semi j, SemiContinuous) ∷ [])

    pub semi_stated : (b : Bool) → b ≡ column_satisfies t i (λ parts. parts.marked || (parts.integer || parts.binary))
        → those_of (semi_tests (draft None constant t) c) ≡ those_of ((b, SemiContinuous) ∷ [])
    semi_stated b stated = let integer = integer_at None constant t once i c (entry_at t.columns.entries i c is) ∙ sym stated in
        λ j. those_of ((not (sym there j), UnknownColumn) ∷ (integer j, SemiContinuous) ∷ [])

    pub sides_stated : (lower upper : Option Limit) (b infinite : Bool) → b ≡ ((is_some lower && column_satisfies t i
        (λ parts. is_some parts.sides.lower)) || (is_some upper && column_satisfies t i (λ parts. is_some parts.sides.upper)))
        → infinite ≡ (option_map_or is_plus_infinite lower false || option_map_or is_minus_infinite upper false)
        → bounds_refusals (draft None constant t) c lower upper ≡ those_of ((b, DuplicateBound) ∷ (infinite, InfiniteValue) ∷ [])
    sides_stated lower upper b infinite stated end = let s = entry_at _ i c is in
        let lowers = part_at None constant t once i c s _ in
        let uppers = part_at None constant t once i c s _ in
        (λ j. those_of ((not (sym there j), UnknownColumn) ∷
        ((is_some lower && lowers j) || (is_some upper && uppers j), DuplicateBound) ∷ (sym end j, InfiniteValue) ∷ []))
        ∙ ap (λ duplicate. those_of ((duplicate, DuplicateBound) ∷ (infinite, InfiniteValue) ∷ [])) (sym stated)

    pub cell_stated : (n : ℕ) (r : List ℕ) (b : Bool) → IsNumbered t → row_name t n ≡ Some r →
        true ≡ has_row (draft None constant t) r → b ≡ is_some (find nat_cmp n (cells_at t i))
        → those_of (coefficient_tests (draft None constant t) (at r c)) ≡ those_of ((b, DuplicateEntry) ∷ [])
    cell_stated n r b numbered row row_there stated =
        let entry = cell_at None constant t once i c (entry_at t.columns.entries i c is) n r numbered row ∙ sym stated in
        λ j. those_of ((not (sym row_there j), UnknownRow) ∷ (not (sym there j), UnknownColumn) ∷ (entry j, DuplicateEntry) ∷ [])

  -- ---- rows

  module _ (numbered : IsNumbered t) (p : RowRef) (r : List ℕ) (is : row_name t (row_key_of p) ≡ Some r)
      (there : true ≡ has_row (draft None constant t) r) where
    pub rhs_stated : (b : Bool) → b ≡ row_satisfies t p (λ o. is_some o.rhs || is_some constant) (λ row. is_some row.rhs
        || is_definition_by_limits row.definition) →
        those_of (rhs_tests (draft None constant t) r) ≡ those_of ((b, DuplicateRhs) ∷ [])
    rhs_stated b stated = let duplicate = has_rhs_at None constant t once numbered _ p r is ∙ sym stated in λ j. those_of ((
      not (sym there
          j),
      UnknownRow,
    ) ∷ (duplicate j, DuplicateRhs) ∷ [])

    pub range_stated : (value : Number) (b free : Bool)
        → b ≡ row_satisfies t p (λ o. false) (λ row. is_some row.range || is_definition_by_limits row.definition) →
        (is_objective_ref p
        || row_satisfies t p (λ o. false) (λ row. is_free_definition row.definition)) ≡ free → refusals (draft None constant t)
        (declare_range r value) ≡ those_of
        ((b, DuplicateRange) ∷ (free, RangeOnFree) ∷ (is_infinite_size value, InfiniteValue) ∷ [])
    range_stated value b free stated is_free = let duplicate = has_range_at None constant t once numbered p r is ∙ sym stated in
        let no_sides = (λ j. objective_at None constant t once numbered p r is j || free_at None constant t once
        numbered p r is j) ∙ is_free in
        λ j. those_of ((not (sym there j), UnknownRow) ∷ (duplicate j, DuplicateRange) ∷ (no_sides j, RangeOnFree) ∷
        (is_infinite_size value, InfiniteValue) ∷ [])

-- ---- rows by type

no_row : (o : Option ObjectiveParts) → option_map_or (λ o. false) o false ≡ false
no_row = grind arith

-- a place whose right-hand side or range may be declared is no row by limits
pub typed_place : (t : Tables) (of_objective : ObjectiveParts → Bool) (test : RowParts → Bool) (p : RowRef)
    → row_satisfies t p of_objective (λ row. test row || is_definition_by_limits row.definition) ≡ false → has_limits t p ≡ false
typed_place = grind arith

-- ---- if no declaration of a line of a column is rejected, the tables have room for all of it

-- ---- drafts

-- a coefficient may be declared
abbrev IsFreeEntry : Draft → List ℕ → List ℕ → Type 0
IsFreeEntry all column row = (has_row all row ≡ true) × (has_coefficient all (at row column) ≡ false)

-- and a second one, of another row
abbrev AreFreeEntries : Draft → List ℕ → Entry → Option Entry → Type 0
AreFreeEntries all column first second =
    (has_row all first.row.now ≡ true) × (has_coefficient all (at first.row.now column) ≡ false) × ForSome second
    (λ entry. (has_row all entry.row.now ≡ true) × (has_coefficient all (at entry.row.now column) ≡ false)
    × (entry.row.now ≢ first.row.now))

entry_free : (all : Draft) (row column : List ℕ) (value : Number) → refusals all (declare_coefficient (at row column) value) ≡ []
    → IsFreeEntry all column row
entry_free = grind arith

entries_free : (all : Draft) (column : List ℕ) (first : Entry) (second : Option Entry) → refusals_in_turn all
    (flat_map (entry_declared column) (pair_of first ∷ pair_if_some second)) ≡ [] → AreFreeEntries all column first second
entries_free all column first second free = search (rules, entry_free, left_none, at, right_none, nor, has-put_key)

-- what follows for a line
line_free : (all : Draft) (marked : Bool) (column : List ℕ) (entries : Entries) → refusals_in_turn all (column_line marked column
    (listed entries)) ≡ [] → ((marked && is_semi all column) ≡ false) × AreFreeEntries all column entries.first entries.second
line_free all false column entries free = (refl, entries_free (with_declaration all (declare_column _)) _ entries.first _ free)
line_free all true column entries free =
    let next = with_declaration all (declare_column column) in
    let marked = with_declaration next (declare_marked _) in
    let more = flat_map (entry_declared column) (listed entries) in (
      first_none _ _ []
          (rest_none _ _ ((is_semi next column, SemiContinuous) ∷ [])
          (left_none _ _ free)),
      entries_free marked _ entries.first _ (right_none _ _ free),
    )

-- ---- tables

module _ (sense : Option Sense) (constant : Option Number) (t : Tables) (is_marked : Bool) (column : List ℕ) (entries : Entries)
    (free : refusals_in_turn (draft sense constant t) (column_line is_marked column (listed entries)) ≡ []) where
  line_parts : ((is_marked && is_semi (draft sense constant t) column) ≡ false)
      × AreFreeEntries (draft sense constant t) column entries.first entries.second
  line_parts = line_free _ _ column entries free

  -- its rows are found
  pub rows_known : AreKnownRows t entries
  rows_known = grind (arith, line_parts)

  module _ (once : IsOnceEach t) (i : ℕ) (is : column_name t i ≡ Some column) where
    -- a column that may be marked is not semi-continuous
    pub mark_allowed : (is_marked && column_satisfies t i (λ parts. parts.semi)) ≡ false
    mark_allowed = ap (λ b. is_marked && b) (sym (flag_at sense constant t once i _ (entry_at _ i _ is) _)) ∙ line_parts.0

    -- and its places are free
    pub places_free : IsNumbered t → (rows : RowNumbers) → AreRows t entries rows →
        (entries.second ≡ None → rows.second ≡ rows.first) → AreFree t i rows
    places_free numbered rows are single = record { first = first_free; second = by _ refl }
      where
        no_cell : (n : ℕ) (r : List ℕ) → row_name t n ≡ Some r → has_coefficient (draft sense constant t) (at r column) ≡ false
            → find nat_cmp n (cells_at t i) ≡ None
        no_cell n r row none =
            none_there _ (sym (cell_at sense constant t once i column (entry_at t.columns.entries i column is) n r
            numbered row) ∙ none)

        first_free : find nat_cmp rows.first (cells_at t i) ≡ None
        first_free = no_cell _ _ are.first line_parts.1.1

        by : (o : Option Entry) → entries.second ≡ o → find nat_cmp rows.second (cells_at t i) ≡ None
        by None none = ap (λ n. find nat_cmp n (cells_at t i)) (single none) ∙ first_free
        by (Some entry) there = no_cell _ _ (are.second _ there) (line_parts.1.2 entry there).1
