-- The drafts that tables represent after calls, lines of a column by number, and terms of a row.
use Rattle.mpslp_builder.proofs.Prelude
use Prelude.{arith, ◌≡◌, refl, sym, ap, subst, ◌∙◌, ℕ, zero, suc, List, [], ◌∷◌, ◌++◌, Bool, true, false, None, Some, Option, is_some}
use Prelude.{slice_get, length, ◌<◌, ◌||◌, option_map, set_value_at, Number, Limit, Sense, RowDefinition, is_definition_by_limits, at}
use Prelude.{with_declaration, with_declarations, declare_row, declare_objective, declare_column, declare_coefficient, declare_rhs}
use Prelude.{declare_range, declare_marked, declare_integer, declare_binary, declare_semi, bounds_declared, has_row, has_column}
use Prelude.{has_coefficient, cells_of, name_of_objective, draft_from, draft, AreNumbered, IsNumbered, row_key_of, row_name, row_satisfies}
use Prelude.{column_name, new_column, with_cell, with_bounds, IsOnceEach, IsSameTables, HasObjective, HasRowAdded, HasRowChanged}
use Prelude.{HasColumnAdded, HasColumnChanged, HasObjectiveChanged, HasRhsPut, ObjectiveParts, RowParts, ColumnParts, RowRef, Objective}
use Prelude.{Tables, Draft, find, nat_cmp, cells_at, rules, cond, ◌≢◌, Result, Ok, OnOk, OnErr, option_map_or, is_eq, Ordering, Less, Equal}
use Prelude.{Greater, nat_cmp_total, nat_cmp-IsAntisymmetric, find-put, is_decimal, is_mps_name, BuildFault, Declarations, refusals}
use Prelude.{refusals_in_turn, no_part, name_of_row_key, column_satisfies, entry_declared, TakesLine, AreDeclared, Follows, HasStarted}
use Prelude.{drop, get_or, not, inl, inr, ◌+◌, ◌≤◌, insert, Err, IfOk, ◌-◌, AllocError, list_any, flat_map, IsErrAnd, lookup, is_gt}
use Prelude.{is_sorted, slice_get_read, flat_map-append, insert_end, list_any-append, same_bytes, bytes_cmp, OutOfMemory, UnknownRow}
use Prelude.{DuplicateEntry, put-insert, found_nowhere, place_after, sorted-put, head_of, is_sorted-sorted_of, Answer, term_declared}
use Prelude.{DeclaresInTurn, HasColumn, AreDeclaredUnless, have_infinite_side, is_legal, IsMade, Answers, those_of}
use Prelude.{DuplicateRow, InfiniteValue}
use Rattle.mpslp_builder.specs.{Answer.AnswersTo, Calls.{AddsRow, HasNewRow}, LineTables.{HasPart, Starts}}
use Rattle.mpslp_builder.specs.Stopped.{HasFirstPart, IsStopped}
use Prelude.{append-nil, append_assoc, Declaration}
use Rattle.mpslp_builder_parts.specs.ColumnTable.{Inserts, number_inserted}
use Rattle.mpslp_builder_parts.specs.declared.column_table.Inserted.{Inserted, TheVariants.{New, There}}
use Prelude.{find-sorted_of, each_part, first_refusal}
use Rattle.mpslp_builder_parts.specs.Parts.{new_row}
use Rattle.mpslp_builder.specs.Calls.{declare_property, with_property}
use Rattle.mpslp_builder_parts.specs.declared.parts.Property.{Property, TheVariants.{Marked, Integer, Binary, Semi}}
use Rattle.mpslp_builder.{specs.declared.tables.RowRef.TheVariants.Row, proofs.TableDrafts.{column_draft, column_numbered, kept_numbered}}
use Rattle.mpslp_builder.proofs.TableDrafts.{mark_draft, integer_draft, binary_draft, semi_draft, sides_draft, cell_draft, cell_numbered}
use Rattle.mpslp_builder.proofs.TableDrafts.{row_draft, row_numbered, written_numbered, range_draft, rhs_draft, objective_draft}
use Rattle.mpslp_builder.proofs.TableDrafts.{objective_numbered, objective_rhs_draft, objective_rhs_numbered, name_kept, names-more}
use Rattle.mpslp_builder.proofs.ReadingLemmas.{entry_at, cell_at, number_there, integer_stated, cell_stated}
use Rattle.mpslp_builder.proofs.MadeDrafts.{made_after, with_declarations-append, refusals_in_turn-append, put_again}
use Rattle.mpslp_builder.proofs.{RefusalLemmas.join_none, DraftEntries.bytes_total, EntryLemmas.{any-name, one_of-names}}

-- ---- the drafts that tables represent after each call

abbrev Parts : Type 0
Parts = Option ObjectiveParts × List (List ℕ × RowParts) × List (List ℕ × ColumnParts)

numbered_as : (p q : Parts) → p ≡ q → AreNumbered q.0 q.1 q.2 → AreNumbered p.0 p.1 p.2
numbered_as = grind arith

-- an entry has the name of its number
entry_named : {V : Type 0} (o : Option (List ℕ × V)) (k : List ℕ) (v : V) (name : List ℕ) → o ≡ Some (k, v)
    → option_map (λ e. e.0) o ≡ Some name → k ≡ name
entry_named = grind arith

-- equal tables represent equal drafts
pub same_tables : (sense : Option Sense) (constant : Option Number) (t u : Tables) → IsSameTables t u →
    draft sense constant u ≡ draft sense constant t
same_tables = grind arith

pub same_numbered : (t u : Tables) → IsSameTables t u → IsNumbered t → IsNumbered u
same_numbered = grind arith

pub objective_absent : (o : Option ObjectiveParts) → is_some (name_of_objective o) ≡ false → o ≡ None
objective_absent = grind arith

-- the results of a call that adds a row
row_turned : {P Q R S : Type 0} (there infinite : Bool) (answer : Answer) → infinite ≡ false → (P → R) → (Q → S)
    → Answers (those_of ((there, DuplicateRow) ∷ [])) answer P Q
    → Answers (those_of ((there, DuplicateRow) ∷ (infinite, InfiniteValue) ∷ [])) answer R S
row_turned = grind arith

row_either : {P Q R : Type 0} (there : Bool) (answer : Answer) → (P → R) → (Q → R) →
    Answers (those_of ((there, DuplicateRow) ∷ [])) answer P Q → R
row_either = grind arith

row_free : (there infinite : Bool) → there ≡ false → infinite ≡ false →
    those_of ((there, DuplicateRow) ∷ (infinite, InfiniteValue) ∷ []) ≡ []
row_free = grind arith

-- a row by limits that no value meets is refused
pub infinite_answered : (all : Draft) (name : List ℕ) (definition : RowDefinition) (answer : Answer) →
    have_infinite_side definition ≡ true → answer ≡ first_refusal (refusals all (declare_row name definition)) →
    (P Q : Type 0) → Q → Answers (refusals all (declare_row name definition)) answer P Q
infinite_answered = grind arith

module _ (sense : Option Sense) (constant : Option Number) (t u : Tables) where
  -- ---- a row

  pub row_added : (k : List ℕ) (definition : RowDefinition) → IsNumbered t
      → HasRowAdded t k (record { definition = definition; rhs = None; range = None }) u →
      has_row (draft sense constant t) k ≡ false →
      draft sense constant u ≡ with_declaration (draft sense constant t) (declare_row k definition)
  row_added k definition numbered h absent =
      (λ i. draft_from sense constant (h.objective i) (h.rows i) (h.columns i)) ∙ row_draft _ _ _ _ _ k _ numbered absent

  pub row_added_numbered : (k : List ℕ) (definition : RowDefinition) → IsNumbered t
      → HasRowAdded t k (record { definition = definition; rhs = None; range = None }) u → length t.rows.entries < 4294967294
      → has_row (draft sense constant t) k ≡ false → IsNumbered u
  row_added_numbered k definition numbered h few absent =
      numbered_as _ _ (λ i. (h.objective i, h.rows i, h.columns i))
      (row_numbered sense constant t.objective t.rows.entries t.columns.entries k definition numbered few absent)

  -- a call that adds a row makes its declaration, or changes nothing
  module _ (k : List ℕ) (given : RowDefinition) (parts : RowParts) (is : parts ≡ new_row given)
      (finite : have_infinite_side given ≡ false) (numbered : IsNumbered t) (answer : Answer)
      (h : AddsRow t k parts answer u) where
    adds : AddsRow t k (new_row given) answer u
    adds = subst (λ (p : RowParts). AddsRow t k p answer u) is h

    row_declared : HasNewRow t k (new_row given) u →
        draft sense constant u ≡ with_declaration (draft sense constant t) (declare_row k given)
    row_declared new = row_added k given numbered new.added new.absent

    pub row_answered : (all : Draft) → draft sense constant t ≡ all →
        AnswersTo all (declare_row k given) answer (draft sense constant u)
    row_answered all seen = subst (λ before. AnswersTo before (declare_row k given) answer (draft sense constant u)) seen
        (row_turned _ _ answer finite row_declared (same_tables sense constant t u) adds)

    pub row_kept : is_legal (declare_row k given) ≡ true → IsMade (draft sense constant t) →
        IsMade (draft sense constant u) × IsNumbered u
    row_kept legal made = row_either _ answer (λ new. (
      made_after (declare_row k given) (row_declared new) made legal
          (row_free _ _ new.absent finite) refl,
      row_added_numbered k given numbered new.added new.few new.absent,
    ))
        (λ same. (subst IsMade (sym (same_tables sense constant t u same)) made, same_numbered t u same numbered)) adds

  module _ (change : RowParts → RowParts) (i : ℕ) (h : HasRowChanged t i change u) where
    rows_written : draft sense constant u ≡ draft_from sense constant t.objective
        (set_value_at t.rows.entries i (change h.parts)) t.columns.entries
    rows_written = λ j. draft_from sense constant (h.written.objective j) (h.written.rows j) (h.written.columns j)

    pub row_changed_numbered : IsNumbered t → IsNumbered u
    row_changed_numbered numbered =
        numbered_as _ _ (λ j. (h.written.objective j, h.written.rows j, h.written.columns j)) (written_numbered
        sense constant t.objective t.rows.entries t.columns.entries i h.key h.parts (change h.parts) h.was numbered)

  module _ (numbered : IsNumbered t) (once : IsOnceEach t) (i : ℕ) (r : List ℕ) (row : row_name t (suc i) ≡ Some r)
      (x : Number) where
    pub range_added : HasRowChanged t i (λ row. record row { range = Some x }) u
        → draft sense constant u ≡ with_declaration (draft sense constant t) (declare_range r x)
    range_added h = rows_written (λ row. record row { range = Some x }) i h ∙ range_draft _ _ _ _ _ i _ _ _ h.was x
        numbered once.rows refl ∙ ap (λ name. with_declaration (draft _ _ t) (declare_range name x))
        (entry_named (slice_get t.rows.entries i) h.key h.parts r h.was row)

    row_rhs_added : HasRowChanged t i (λ row. record row { rhs = Some x }) u
        → draft sense constant u ≡ with_declaration (draft sense constant t) (declare_rhs r x)
    row_rhs_added h = rows_written (λ row. record row { rhs = Some x }) i h ∙ rhs_draft _ _ _ _ _ i _ _ _ h.was x
        numbered once.rows refl ∙ ap (λ name. with_declaration (draft _ _ t) (declare_rhs name x))
        (entry_named (slice_get t.rows.entries i) h.key h.parts r h.was row)

  -- ---- the objective

  pub objective_named : (name : List ℕ) → IsNumbered t → t.objective ≡ None →
      HasObjective t (record { name = name; rhs = None }) u →
      draft sense constant u ≡ with_declaration (draft sense constant t) (declare_objective name)
  objective_named name numbered none h = (λ i. draft_from sense constant (h.objective i) (h.rows i) (h.columns i))
      ∙ objective_draft sense constant name t.rows.entries t.columns.entries
      (subst (λ (o : Option ObjectiveParts). AreNumbered o t.rows.entries t.columns.entries) none numbered)
      ∙ ap (λ (o : Option ObjectiveParts). with_declaration
      (draft_from sense constant o t.rows.entries t.columns.entries) (declare_objective name)) (sym none)

  pub objective_named_numbered : (name : List ℕ) → IsNumbered t → t.objective ≡ None →
      HasObjective t (record { name = name; rhs = None }) u → has_row (draft sense constant t) name ≡ false → IsNumbered u
  objective_named_numbered name numbered none h absent =
      numbered_as _ _ (λ i. (h.objective i, h.rows i, h.columns i))
      (objective_numbered sense constant name t.rows.entries t.columns.entries
      (subst (λ (o : Option ObjectiveParts). AreNumbered o t.rows.entries t.columns.entries) none numbered)
      (ap (λ (o : Option ObjectiveParts). has_row (draft_from sense constant o t.rows.entries
      t.columns.entries) name) (sym none) ∙ absent))

  module _ (x : Number) (h : HasObjectiveChanged t (λ o. record o { rhs = Some x }) u) where
    objective_rhs_added : (r : List ℕ) → row_name t zero ≡ Some r → h.parts.rhs ≡ None
        → draft sense constant u ≡ with_declaration (draft sense constant t) (declare_rhs r x)
    objective_rhs_added r is none = let name : h.parts.name ≡ r = let both = sym (ap name_of_objective h.was) ∙ is in
        cc in (λ i. draft_from sense constant (h.written.objective i) (h.written.rows i) (h.written.columns i))
        ∙ objective_rhs_draft _ _ _ x _ t.columns.entries none
        ∙ (λ i. with_declaration (draft_from sense constant (sym h.was i) t.rows.entries t.columns.entries)
        (declare_rhs (name i) x))

    objective_rhs_numbered_too : IsNumbered t → IsNumbered u
    objective_rhs_numbered_too numbered = numbered_as _ _ (λ i. (h.written.objective i, h.written.rows i, h.written.columns i))
        (objective_rhs_numbered sense constant h.parts x t.rows.entries t.columns.entries
        (subst (λ (o : Option ObjectiveParts). AreNumbered o t.rows.entries t.columns.entries) h.was numbered))

  no_rhs : (value : Option Number) (b : Bool) → (is_some value || b) ≡ false → value ≡ None
  no_rhs = grind arith

  -- a right-hand side that was not declared
  pub rhs_added : IsNumbered t → IsOnceEach t → (p : RowRef) (r : List ℕ) (x : Number) (b : Bool) →
      row_name t (row_key_of p) ≡ Some r →
      row_satisfies t p (λ o. is_some o.rhs || b) (λ row. is_some row.rhs || is_definition_by_limits row.definition) ≡ false
      → HasRhsPut t p x u → draft sense constant u ≡ with_declaration (draft sense constant t) (declare_rhs r x)
  rhs_added numbered once Objective r x b is absent h = grind (arith, no_rhs)
  rhs_added numbered once (Row i) r x b is absent h = row_rhs_added numbered once i r is x h

  pub rhs_added_numbered : (p : RowRef) (x : Number) → IsNumbered t → HasRhsPut t p x u → IsNumbered u
  rhs_added_numbered Objective x numbered h = objective_rhs_numbered_too x h numbered
  rhs_added_numbered (Row i) x numbered h = row_changed_numbered (λ row. record row { rhs = Some x }) i h numbered

  -- ---- a column

  pub column_added : (k : List ℕ) → HasColumnAdded t k new_column u → has_column (draft sense constant t) k ≡ false
      → draft sense constant u ≡ with_declaration (draft sense constant t) (declare_column k)
  column_added k h absent =
      (λ i. draft_from sense constant (h.objective i) (h.rows i) (h.columns i)) ∙ column_draft _ _ _ _ t.columns.entries k absent

  pub column_added_numbered : (k : List ℕ) → HasColumnAdded t k new_column u → IsNumbered t → IsNumbered u
  column_added_numbered k h numbered =
      numbered_as _ _ (λ i. (h.objective i, h.rows i, h.columns i))
      (column_numbered sense constant t.objective t.rows.entries t.columns.entries k numbered)

  module _ (change : ColumnParts → ColumnParts) (i : ℕ) (h : HasColumnChanged t i change u) where
    columns_written : draft sense constant u ≡ draft_from sense constant t.objective t.rows.entries
        (set_value_at t.columns.entries i (change h.parts))
    columns_written = λ j. draft_from sense constant (h.written.objective j) (h.written.rows j) (h.written.columns j)

    numbered_written : AreNumbered t.objective t.rows.entries (set_value_at t.columns.entries i (change h.parts)) → IsNumbered u
    numbered_written = numbered_as _ _ (λ j. (h.written.objective j, h.written.rows j, h.written.columns j))

    -- a change that keeps the coefficients keeps their numbers
    pub column_changed_numbered : cells_of (change h.parts) ≡ cells_of h.parts → IsNumbered t → IsNumbered u
    column_changed_numbered kept numbered = numbered_written
        (kept_numbered sense constant t.objective t.rows.entries t.columns.entries i h.key h.parts h.was
        (change h.parts) kept numbered)

  module _ (once : IsOnceEach t) (i : ℕ) (c : List ℕ) (column : column_name t i ≡ Some c) where
    -- what is declared of the name of the entry is declared of the name of the number
    by_name : (change : ColumnParts → ColumnParts) (h : HasColumnChanged t i change u) (after : List ℕ → Draft) →
        draft_from sense constant t.objective t.rows.entries (set_value_at t.columns.entries i (change h.parts)) ≡ after
        h.key → draft sense constant u ≡ after c
    by_name change h after is = columns_written _ i h ∙ is
        ∙ ap after (entry_named (slice_get t.columns.entries i) h.key h.parts c h.was column)

    pub mark_added : HasColumnChanged t i (λ parts. record parts { marked = true }) u
        → draft sense constant u ≡ with_declaration (draft sense constant t) (declare_marked c)
    mark_added h = by_name (λ parts. record parts { marked = true }) h
        (λ name. with_declaration _ (declare_marked name))
        (mark_draft sense constant t.objective t.rows.entries t.columns.entries i h.key h.parts h.was once.columns)

    pub integer_added : HasColumnChanged t i (λ parts. record parts { integer = true }) u
        → draft sense constant u ≡ with_declaration (draft sense constant t) (declare_integer c)
    integer_added h = by_name (λ parts. record parts { integer = true }) h (λ name. with_declaration _ (declare_integer name))
        (integer_draft sense constant t.objective t.rows.entries t.columns.entries i h.key h.parts h.was once.columns)

    pub binary_added : HasColumnChanged t i (λ parts. record parts { binary = true }) u
        → draft sense constant u ≡ with_declaration (draft sense constant t) (declare_binary c)
    binary_added h = by_name (λ parts. record parts { binary = true }) h
        (λ name. with_declaration _ (declare_binary name))
        (binary_draft sense constant t.objective t.rows.entries t.columns.entries i h.key h.parts h.was once.columns)

    pub semi_added : HasColumnChanged t i (λ parts. record parts { semi = true }) u
        → draft sense constant u ≡ with_declaration (draft sense constant t) (declare_semi c)
    semi_added h = by_name (λ parts. record parts { semi = true }) h (λ name. with_declaration _ (declare_semi name))
        (semi_draft sense constant t.objective t.rows.entries t.columns.entries i h.key h.parts h.was once.columns)

    pub property_added : (property : Property) → HasColumnChanged t i (with_property property) u
        → draft sense constant u ≡ with_declaration (draft sense constant t) (declare_property property c)
    property_added Marked h = mark_added h
    property_added Integer h = integer_added h
    property_added Binary h = binary_added h
    property_added Semi h = semi_added h

    pub sides_added : (lower upper : Option Limit) → HasColumnChanged t i (with_bounds lower upper) u
        → draft sense constant u ≡ with_declarations (draft sense constant t) (bounds_declared c lower upper)
    sides_added lower upper h = by_name _ h (λ name. with_declarations _ (bounds_declared name lower upper))
        (sides_draft sense constant t.objective t.rows.entries t.columns.entries i h.key h.parts h.was lower upper once.columns)

    module _ (numbered : IsNumbered t) (n : ℕ) (r : List ℕ) (row : row_name t n ≡ Some r) (x : Number)
        (h : HasColumnChanged t i (with_cell n x) u) where
      pub cell_added : find nat_cmp n (cells_at t i) ≡ None
          → draft sense constant u ≡ with_declaration (draft sense constant t) (declare_coefficient (at r c) x)
      cell_added absent = by_name _ h (λ k. with_declaration _ (declare_coefficient (at r k) x))
          (cell_draft sense constant t.objective t.rows.entries t.columns.entries i h.key h.parts h.was numbered n r row
          x once.columns (ap (λ (k : List ℕ). has_coefficient (draft sense constant t) (at r k))
          (entry_named (slice_get t.columns.entries i) h.key h.parts c h.was column) ∙ cell_at sense constant t
          once i c (entry_at t.columns.entries i c column) n r numbered row ∙ ap is_some absent))

      pub cell_added_numbered : IsNumbered u
      cell_added_numbered = numbered_written _ i h
          (cell_numbered sense constant t.objective t.rows.entries t.columns.entries i h.key h.parts h.was numbered n r row x)

-- ---- lines of a column by number: what each step declares, and what is still known after it

-- ---- entries by number

-- and is there
written_there : {V X : Type 0} (f : V → X) (d : X) (es : List (List ℕ × V)) (i : ℕ) (k : List ℕ) (v w : V) →
    slice_get es i ≡ Some (k, v) → option_map_or (λ e. f e.1) (slice_get (set_value_at es i w) i) d ≡ f w
written_there f d [] i k v w h = cc
written_there f d (e ∷ es) zero k v w h = refl
written_there f d (e ∷ es) (suc i) k v w h = written_there f d es i k v w h

-- and has the next number
added_there : {V : Type 0} (es : List (List ℕ × V)) (x : List ℕ × V) → slice_get (es ++ x ∷ []) (length es) ≡ Some x
added_there [] x = refl
added_there (e ∷ es) x = added_there es x

-- ---- rows

or_true : (b : Bool) → true ≡ (b || true)
or_true = grind arith

-- a row, or the objective, with a number is declared
pub row_there : (sense : Option Sense) (constant : Option Number) (t : Tables) (n : ℕ) (r : List ℕ) → row_name t n ≡ Some r
    → true ≡ has_row (draft sense constant t) r
row_there sense constant t n r is = search (rules, or_true, number_there)

-- ---- steps

pub either_way : {A E P Q R : Type 0} (r : Result A E) → (P → R) → (Q → R) → OnOk r P → OnErr r Q → R
either_way = grind arith

-- what holds in any case holds after an error
pub after_err : {A E P : Type 0} (r : Result A E) → P → OnErr r P
after_err (Ok x) h = tt
after_err (Err e) h = h

pub follows_same : (t u : Tables) → IsNumbered t → IsSameTables t u → Follows t u
follows_same = grind arith

pub follows_then : (t u v : Tables) → Follows t u → Follows u v → Follows t v
follows_then t u v a b = record {
  numbered = b.numbered;
  made = λ sense constant made. b.made _ _ (a.made sense constant made);
  rows = λ n. b.rows n ∙ a.rows n;
  columns = λ i name is. b.columns i _ (a.columns i name is);
}

-- unchanged tables have the same coefficients
pub same_cells : (t u : Tables) (i m : ℕ) → IsSameTables t u → find nat_cmp m (cells_at u i) ≡ find nat_cmp m (cells_at t i)
same_cells = grind arith

pub laid_none : (t : Tables) → AreDeclared t [] t
laid_none = grind arith

pub laid_then : (t u v : Tables) (ds es : Declarations) → AreDeclared t ds u → AreDeclared u es v → AreDeclared t (ds ++ es) v
laid_then t u v ds es a b = record {
  free = λ sense constant.
      refusals_in_turn-append ds es _
      ∙ join_none _ _
      (a.free sense constant)
      (ap (λ (d : Draft). refusals_in_turn d es) (sym (a.declared sense constant)) ∙ b.free sense constant);
  declared = λ sense constant.
      b.declared _ _ ∙ ap (λ d. with_declarations d es) (a.declared sense constant)
      ∙ sym (with_declarations-append ds es (draft sense constant t));
}

laid_same : (t u v : Tables) (ds : Declarations) → AreDeclared t ds u → IsSameTables u v → AreDeclared t ds v
laid_same t u v ds laid same =
    record { free = laid.free; declared = λ sense constant. same_tables sense constant u v same ∙ laid.declared sense constant }

-- ---- a first part of declarations

pub part_none : (t u : Tables) (ds : Declarations) → IsSameTables t u → HasPart t ds u
part_none t u ds same = record { made = []; left = ds; parts = refl; declared = laid_same t t u [] (laid_none t) same }

pub part_all : (t u : Tables) (ds : Declarations) → AreDeclared t ds u → HasPart t ds u
part_all t u ds laid = record { made = ds; left = []; parts = sym (append-nil ds); declared = laid }

-- all of the first declarations, and a part of the others
pub part_then : (t u v : Tables) (ds es : Declarations) → AreDeclared t ds u → HasPart u es v → HasPart t (ds ++ es) v
part_then t u v ds es laid part = record {
  made = ds ++ part.made;
  left = part.left;
  parts = ap (λ (more : Declarations). ds ++ more) part.parts ∙ sym (append_assoc ds part.made part.left);
  declared = laid_then t u v ds part.made laid part.declared;
}

-- a part of the first declarations
pub part_more : (t u : Tables) (ds es : Declarations) → HasPart t ds u → HasPart t (ds ++ es) u
part_more t u ds es part = record {
  made = part.made;
  left = part.left ++ es;
  parts = ap (λ (first : Declarations). first ++ es) part.parts ∙ append_assoc part.made part.left es;
  declared = part.declared;
}

-- the same of the drafts of builders
pub first_part : (sense : Option Sense) (constant : Option Number) (t u : Tables) (ds : Declarations) → HasPart t ds u
    → HasFirstPart (draft sense constant t) ds (draft sense constant u)
first_part sense constant t u ds part = record {
  made = part.made;
  left = part.left;
  parts = part.parts;
  free = part.declared.free sense constant;
  declared = part.declared.declared sense constant;
}

-- a column that is declared may be declared again
pub part_next : (earlier later : Draft) (column : List ℕ) (more : Declarations) →
    with_declaration earlier (declare_column column) ≡ earlier → HasFirstPart earlier more later →
    HasFirstPart earlier (declare_column column ∷ more) later
part_next earlier later column more again part = record {
  made = declare_column column ∷ part.made;
  left = part.left;
  parts = ap (λ (ds : Declarations). declare_column column ∷ ds) part.parts;
  free = ap (λ (d : Draft). refusals_in_turn d part.made) again ∙ part.free;
  declared = part.declared ∙ ap (λ (d : Draft). with_declarations d part.made) (sym again);
}

-- one declaration that has no error
laid_one : (t u : Tables) (d : _) → ((sense : Option Sense) (constant : Option Number) → refusals (draft sense constant t) d ≡ [])
    → ((sense : Option Sense) (constant : Option Number) → draft sense constant u ≡ with_declaration (draft sense constant t) d)
    → AreDeclared t (d ∷ []) u
laid_one t u d free declared = search rules

module _ (t u : Tables) (numbered : IsNumbered t) where
  module _ (change : ColumnParts → ColumnParts) (i : ℕ) (h : HasColumnChanged t i change u) where
    rows_same : (n : ℕ) → row_name u n ≡ row_name t n
    rows_same n = λ j. name_of_row_key (h.written.objective j) (h.written.rows j) n

    columns_same : (j : ℕ) (name : List ℕ) → column_name t j ≡ Some name → column_name u j ≡ Some name
    columns_same j name is = ap (λ es. option_map (λ e. e.0) (slice_get es j)) h.written.columns ∙ name_kept _ i j _ ∙ is

    own_name : column_name t i ≡ Some h.key
    own_name = ap (option_map (λ (e : List ℕ × ColumnParts). e.0)) h.was

    cells_were : cells_at t i ≡ cells_of h.parts
    cells_were = ap (λ o. option_map_or (λ e. cells_of e.1) o []) h.was

    cells_are : cells_at u i ≡ cells_of (change h.parts)
    cells_are = ap (λ es. option_map_or (λ e. cells_of e.1) (slice_get es i) []) h.written.columns ∙ written_there cells_of []
        t.columns.entries i h.key h.parts (change _) h.was

  module _ (once : IsOnceEach t) (i : ℕ) where
    -- ---- the mark

    module _ (h : HasColumnChanged t i (λ parts. record parts { marked = true }) u)
        (semi : column_satisfies t i (λ parts. parts.semi) ≡ false) where
      mark_free : (c : List ℕ) → column_name t i ≡ Some c → (sense : Option Sense) (constant : Option Number)
          → refusals (draft sense constant t) (declare_marked c) ≡ []
      mark_free c is sense constant =
          integer_stated constant t once i c is (number_there no_part t.columns.entries i c is) _ (sym semi)

      mark_draft_line : (c : List ℕ) → column_name t i ≡ Some c → (sense : Option Sense) (constant : Option Number)
          → draft sense constant u ≡ with_declaration (draft sense constant t) (declare_marked c)
      mark_draft_line c is sense constant = mark_added _ _ t u once i c is h

      pub mark_laid : (c : List ℕ) → column_name t i ≡ Some c → AreDeclared t (declare_marked c ∷ []) u
      mark_laid c is = laid_one t u _ (mark_free c is) (mark_draft_line c is)

      pub mark_follows : Follows t u
      mark_follows =
          let change : ColumnParts → ColumnParts = λ parts. record parts { marked = true } in
          let c = h.key in
          let is = own_name _ i h in record {
            numbered = column_changed_numbered None None t u _ i h refl numbered;
            made = λ sense constant made. made_after (declare_marked c) (mark_draft_line c is sense constant) made refl
                (mark_free c is sense constant) refl;
            rows = rows_same _ i h;
            columns = columns_same _ i h;
          }

      pub mark_cells : cells_at u i ≡ cells_at t i
      mark_cells =
          let change : ColumnParts → ColumnParts = λ parts. record parts { marked = true } in
          cells_are _ i h ∙ sym (cells_were change i h)

    -- ---- a coefficient

    module _ (n : ℕ) (r : List ℕ) (row : row_name t n ≡ Some r) (x : Number)
        (h : HasColumnChanged t i (with_cell n x) u) (absent : find nat_cmp n (cells_at t i) ≡ None) where
      cell_free : (c : List ℕ) → column_name t i ≡ Some c → (sense : Option Sense) (constant : Option Number)
          → refusals (draft sense constant t) (declare_coefficient (at r c) x) ≡ []
      cell_free c is sense constant = cell_stated constant t once i c is (number_there no_part t.columns.entries i c is)
          n r _ numbered row (row_there None constant t n r row) (sym (ap is_some absent))

      cell_draft_line : (c : List ℕ) → column_name t i ≡ Some c → (sense : Option Sense) (constant : Option Number)
          → draft sense constant u ≡ with_declaration (draft sense constant t) (declare_coefficient (at r c) x)
      cell_draft_line c is sense constant = cell_added _ _ t u once i c is numbered n r row x h absent

      pub cell_laid : (c : List ℕ) → column_name t i ≡ Some c → AreDeclared t (entry_declared c (r, x)) u
      cell_laid c is = laid_one t u _ (cell_free c is) (cell_draft_line c is)

      pub cell_follows : is_decimal x ≡ true → Follows t u
      cell_follows decimal =
          let c = h.key in
          let is = own_name _ i h in record {
            numbered = cell_added_numbered None None t u once i c is numbered n r row x h;
            made = λ sense constant made. made_after (declare_coefficient (at r c) x)
                (cell_draft_line c is sense constant) made decimal (cell_free c is sense constant) refl;
            rows = rows_same _ i h;
            columns = columns_same _ i h;
          }

      pub cell_others : (m : ℕ) → m ≢ n → find nat_cmp m (cells_at u i) ≡ find nat_cmp m (cells_at t i)
      cell_others m other = ap (find nat_cmp m) (cells_are (with_cell n x) i h) ∙ find-put _ nat_cmp_total m n x _
          ∙ ap (λ b. cond b (Some x) (find nat_cmp m (cells_of h.parts))) (apart (nat_cmp m n) refl)
          ∙ ap (find nat_cmp m) (sym (cells_were (with_cell n x) i h))
        where
          apart : (o : Ordering) → nat_cmp m n ≡ o → is_eq o ≡ false
          apart Less is = refl
          apart Greater is = refl
          apart Equal is = absurd (other (nat_cmp-IsAntisymmetric m n is))

  -- ---- a new column

  module _ (k : List ℕ) (h : HasColumnAdded t k new_column u) (absent : has_column (draft None None t) k ≡ false) where
    start_draft : (sense : Option Sense) (constant : Option Number)
        → draft sense constant u ≡ with_declaration (draft sense constant t) (declare_column k)
    start_draft sense constant = column_added _ _ t u k h absent

    pub start_follows : is_mps_name k ≡ true → Follows t u
    start_follows legal = record {
      numbered = column_added_numbered None None t u k h numbered;
      made = λ sense constant made. made_after (declare_column k) (start_draft sense constant) made legal refl refl;
      rows = λ n i. name_of_row_key (h.objective i) (h.rows i) n;
      columns = λ i name is.
          ap (λ es. option_map (λ e. e.0) (slice_get es i)) h.columns
          ∙ names-more _ _ i _ is;
    }

    pub started : HasStarted t k (length t.columns.entries) u
    started =
        let here =
        ap (λ es. slice_get es (length t.columns.entries)) h.columns
        ∙ added_there t.columns.entries _ in record {
          named = ap (option_map (λ (e : List ℕ × ColumnParts). e.0)) here;
          declared = laid_one t u _ (λ sense constant. refl) start_draft;
          cells = ap (λ o. option_map_or (λ e. cells_of e.1) o []) here;
          semi = ap (λ o. option_map_or (λ e. e.1.semi) o false) here;
        }

-- a column that is inserted
module _ (t u : Tables) (numbered : IsNumbered t) (name : List ℕ) (legal : is_mps_name name ≡ true)
    (objective : u.objective ≡ t.objective) (rows : u.rows.entries ≡ t.rows.entries) where
  pub inserted : (r : Result Inserted AllocError) → Inserts t.columns name r u.columns → Follows t u × Starts t name r u
  inserted (Ok (New n)) h =
      let absent = ap is_some (find-sorted_of bytes_cmp bytes_total name (each_part no_part t.columns.entries) ∙ h.0) in
      let added : HasColumnAdded t name new_column u = record { objective = objective; rows = rows; columns = h.2 } in (
        start_follows t u numbered name added absent legal,
        (absent, subst (λ n. HasStarted t name n u) (sym h.1) (started t u numbered name added absent)),
      )
  inserted (Ok (There n)) h = let same : IsSameTables t u =
      record { objective = objective; rows = rows; columns = h.2 } in (follows_same t u numbered same, (h.1, same))
  inserted (Err e) h = let same : IsSameTables t u = record { objective = objective; rows = rows; columns = h } in
      (follows_same t u numbered same, same)

-- a column that is declared may be declared again
pub taken_next : (earlier later : Draft) (column : List ℕ) (more : Declarations)
    → with_declaration earlier (declare_column column) ≡ earlier → refusals_in_turn earlier more ≡ []
    → later ≡ with_declarations earlier more → TakesLine earlier (declare_column column ∷ more) (Ok true) later
taken_next = grind arith

-- ---- terms of a row: how they are kept, and what each step of their declarations does to the tables

-- ---- the terms that are kept

abbrev Terms : Type 0
Terms = List (List ℕ × Number)

-- a name that is greater than the last one is not there
pub above_absent : (name : List ℕ) (terms : Terms) → is_sorted bytes_cmp terms ≡ true → option_map_or
    (λ last. is_gt (bytes_cmp name last.0)) (slice_get terms (length terms - 1)) true ≡ true → find bytes_cmp name terms ≡ None
above_absent = grind (arith, place_after, bytes_total, found_nowhere, arith)

-- and comes after all
pub above_sorted : (name : List ℕ) (value : Number) (terms : Terms) → is_sorted bytes_cmp terms ≡ true →
    option_map_or (λ last. is_gt (bytes_cmp name last.0)) (slice_get terms (length terms - 1)) true ≡ true →
    is_sorted bytes_cmp (terms ++ (name, value) ∷ []) ≡ true
above_sorted name value terms sorted above = let following = place_after bytes_cmp bytes_total name terms sorted above in
    ap (is_sorted bytes_cmp) (sym (insert_end terms (name, value)) ∙ ap (λ (i : ℕ). insert terms i (name, value)) following
    ∙ sym (put-insert bytes_cmp name value terms (above_absent name terms sorted above)))
    ∙ sorted-put bytes_cmp bytes_total name value terms sorted

-- a name is among those of terms if it is found
pub any-found : (name : List ℕ) (terms : Terms) →
    list_any (λ term. same_bytes name term.0) terms ≡ is_some (find bytes_cmp name terms)
any-found name terms = sym (any-name name terms) ∙ one_of-names name terms

pub any-looked_up : (name : List ℕ) (terms : Terms) →
    list_any (λ term. same_bytes name term.0) terms ≡ is_some (lookup (same_bytes name) terms)
any-looked_up name [] = refl
any-looked_up name (term ∷ terms) = grind (arith, any-looked_up name terms)

-- in two lists one after the other
pub any-both : (name : List ℕ) (first more : Terms) (b : Bool) → list_any (λ term. same_bytes name term.0) first ≡ false
    → list_any (λ term. same_bytes name term.0) more ≡ b → list_any (λ term. same_bytes name term.0) (first ++ more) ≡ b
any-both name first more b absent is =
    grind (arith, list_any-append (λ (term : List ℕ × Number). same_bytes name term.0) first more)

pub any-none : (name : List ℕ) (terms : Terms) → length terms ≡ 0 → list_any (λ term. same_bytes name term.0) terms ≡ false
any-none name [] h = refl
any-none name (term ∷ terms) h = absurd (omega arith)

-- a name that is not in the first list
pub any-more : (name key : List ℕ) (first more all : Terms) (r : Result Bool AllocError) → first ++ more ≡ all → key ≡ name
    → list_any (λ term. same_bytes name term.0) first ≡ false →
    IfOk r (λ is_new. list_any (λ term. same_bytes key term.0) more ≡ not is_new) →
    IfOk r (λ is_new. list_any (λ term. same_bytes name term.0) all ≡ not is_new)
any-more = grind (arith, any-both)

-- ---- steps

-- a column that is declared may be declared again
pub there_laid : (t : Tables) (name : List ℕ) (i : ℕ) → column_name t i ≡ Some name → AreDeclared t (declare_column name ∷ []) t
there_laid = grind (arith, put_again, is_sorted-sorted_of, bytes_total, number_there)

-- a column that is new or there, and what is not declared may change
pub has_column_of : (t u v : Tables) (name : List ℕ) (of_name : Inserted) → Starts t name (Ok of_name) u → IsSameTables u v
    → HasColumn t name (number_inserted of_name) v
has_column_of t u v name (New n) h same = record {
  named = ap (λ es. option_map (λ e. e.0) (slice_get es n)) same.columns ∙ h.1.named;
  declared = laid_same t u v _ h.1.declared same;
}
has_column_of t u v name (There n) h same = record {
  named = ap (λ es. option_map (λ e. e.0) (slice_get es n)) (same.columns ∙ h.1.columns) ∙ h.0;
  declared = laid_same t u v _ (laid_same t t u _ (there_laid t name n h.0) h.1) same;
}

pub unless_then : (t u v : Tables) (ds es : Declarations) (answer : Answer) → AreDeclared t ds u → AreDeclaredUnless u es answer v
    → AreDeclaredUnless t (ds ++ es) answer v
unless_then t u v ds es (Ok x) a b = laid_then t u v ds es a b
unless_then t u v ds es (Err fault) a (inl before) = inl (record {
  made = ds ++ before.made;
  rejected = before.rejected;
  left = before.left;
  parts = ap (λ (more : Declarations). ds ++ more) before.parts
      ∙ sym (append_assoc ds before.made (before.rejected ∷ before.left));
  declared = laid_then t u v ds before.made a before.declared;
  error = before.error;
})
unless_then t u v ds es (Err fault) a (inr none) = inr (none.0, part_then t u v ds es a none.1)

-- there is no memory
pub unless_memory : (t u : Tables) (ds : Declarations) (answer : Answer) →
    IsErrAnd answer (λ fault. fault ≡ OutOfMemory) → HasPart t ds u → AreDeclaredUnless t ds answer u
unless_memory t u ds (Ok x) none part = absurd none
unless_memory t u ds (Err fault) none part = inr (none, part)

-- the error that is reported
pub unless_reported : (t u : Tables) (ds : Declarations) (answer : Answer) (fault : BuildFault) →
    IsErrAnd answer (λ stated. stated ≡ fault) → AreDeclaredUnless t ds (Err fault) u → AreDeclaredUnless t ds answer u
unless_reported t u ds (Ok x) fault stated h = absurd stated
unless_reported t u ds (Err other) fault stated h = subst (λ (f : BuildFault). AreDeclaredUnless t ds (Err f) u) (sym stated) h

head-first : (faults more : List BuildFault) (fault : BuildFault) → head_of faults ≡ Some fault →
    head_of (faults ++ more) ≡ Some fault
head-first = grind arith

-- an error of the first declarations is that of all
pub unless_err : (t u : Tables) (ds es : Declarations) (fault : BuildFault) → AreDeclaredUnless t ds (Err fault) u
    → AreDeclaredUnless t (ds ++ es) (Err fault) u
unless_err t u ds es fault (inl before) = inl (record {
  made = before.made;
  rejected = before.rejected;
  left = before.left ++ es;
  parts = ap (λ (first : Declarations). first ++ es) before.parts ∙ append_assoc before.made (before.rejected ∷ before.left) es;
  declared = before.declared;
  error = before.error;
})
unless_err t u ds es fault (inr none) = inr (none.0, part_more t u ds es none.1)

-- the coefficient is declared already
pub taken_place : (t u : Tables) (once : IsOnceEach t) (numbered : IsNumbered t) (n i : ℕ) (r c : List ℕ) (x : Number) →
    column_name t i ≡ Some c → row_name t n ≡ Some r → is_some (find nat_cmp n (cells_at t i)) ≡ true → IsSameTables t u →
    AreDeclaredUnless t (entry_declared c (r, x)) (Err DuplicateEntry) u
taken_place t u once numbered n i r c x column row stated same = inl (record {
  made = [];
  rejected = declare_coefficient (at r c) x;
  left = [];
  parts = refl;
  declared = laid_same t t u [] (laid_none t) same;
  error = λ sense constant.
      ap (λ (all : Draft). head_of (refusals all (declare_coefficient (at r c) x))) (same_tables sense constant t u same)
      ∙ ap head_of (cell_stated constant t once i c column (number_there no_part t.columns.entries i c column) n r true
      numbered row (row_there None constant t n r row) (sym stated));
})

-- a coefficient of any row that there is
pub cell_follows_there : (t u : Tables) → IsNumbered t → IsOnceEach t → (i n : ℕ) → is_some (row_name t n) ≡ true → (x : Number)
    → HasColumnChanged t i (with_cell n x) u → find nat_cmp n (cells_at t i) ≡ None → is_decimal x ≡ true → Follows t u
cell_follows_there t u numbered once i n row x h absent decimal = by _ refl row
  where
    by : (name : Option (List ℕ)) → row_name t n ≡ name → is_some name ≡ true → Follows t u
    by None is there = cc
    by (Some name) is there = cell_follows t u numbered once i n _ is x h absent decimal

-- the other coefficients of the column are the same
pub cell_others_there : (t u : Tables) → IsNumbered t → IsOnceEach t → (i n : ℕ) → is_some (row_name t n) ≡ true → (x : Number)
    → HasColumnChanged t i (with_cell n x) u → find nat_cmp n (cells_at t i) ≡ None → (m : ℕ) → m ≢ n
    → find nat_cmp m (cells_at u i) ≡ find nat_cmp m (cells_at t i)
cell_others_there t u numbered once i n row x h absent m other = by _ refl row
  where
    by : (name : Option (List ℕ)) → row_name t n ≡ name → is_some name ≡ true →
        find nat_cmp m (cells_at u i) ≡ find nat_cmp m (cells_at t i)
    by None is there = cc
    by (Some name) is there = cell_others t u numbered once i n _ is x h absent m other

-- ---- terms in turn

pub rest_at : {X : Type 0} (f : X → Declarations) (xs : List X) (k : ℕ) (x : X) → slice_get xs k ≡ Some x
    → flat_map f (drop k xs) ≡ f x ++ flat_map f (drop (suc k) xs)
rest_at f [] k x h = cc
rest_at f (y ∷ xs) zero x h = grind arith
rest_at f (y ∷ xs) (suc k) x h = rest_at f xs k x h

-- what is left decides: whatever comes of these declarations comes of those, too
abbrev pub Decides : Tables → Declarations → Tables → Declarations → Type 0
Decides u left t all = (answer : Answer) (v : Tables) → AreDeclaredUnless u left answer v → AreDeclaredUnless t all answer v

pub decides_next : (t u v : Tables) (first left all : Declarations) → AreDeclared u first v →
    Decides u (first ++ left) t all → Decides v left t all
decides_next = grind (arith, unless_then)

-- an error of the next of these declarations decides
pub decides_err : (t u v : Tables) (first left all : Declarations) (answer : Answer) (fault : BuildFault) →
    IsErrAnd answer (λ stated. stated ≡ fault) → AreDeclaredUnless u first (Err fault) v →
    Decides u (first ++ left) t all → AreDeclaredUnless t all answer v
decides_err t u v first left all answer fault stated refused before =
    before _ v (unless_reported u v (first ++ left) answer fault stated (unless_err u v first left fault refused))

-- nothing is left
pub decides_all : (t u : Tables) (all : Declarations) → Decides u [] t all → AreDeclared t all u
decides_all t u all before = before (Ok tt) u (laid_none u)

-- the error is the first one of the declarations
first_of_all : (all : Draft) (made left : Declarations) (rejected : Declaration) (fault : BuildFault) →
    refusals_in_turn all made ≡ [] → head_of (refusals (with_declarations all made) rejected) ≡ Some fault
    → head_of (refusals_in_turn all (made ++ rejected ∷ left)) ≡ Some fault
first_of_all all made left rejected fault free is =
    ap head_of (
    refusals_in_turn-append made (rejected ∷ left) all
    ∙ ap (λ (faults : List BuildFault). faults ++ refusals_in_turn (with_declarations all made) (rejected ∷ left)) free
    )
    ∙ head-first (refusals (with_declarations all made) rejected) _ fault is

-- the same of the drafts of builders
pub in_turn : (sense : Option Sense) (constant : Option Number) (t u : Tables) (ds : Declarations) (answer : Answer)
    → AreDeclaredUnless t ds answer u → DeclaresInTurn (draft sense constant t) ds answer (draft sense constant u)
in_turn sense constant t u ds (Ok x) laid = (laid.free sense constant, laid.declared sense constant)
in_turn sense constant t u ds (Err fault) (inl before) =
    inr (ap (λ (all : Declarations). head_of (refusals_in_turn (draft sense constant t) all)) before.parts
    ∙ first_of_all (draft sense constant t) before.made before.left before.rejected fault (before.declared.free sense constant)
    (ap (λ (d : Draft). head_of (refusals d before.rejected)) (sym (before.declared.declared sense constant))
    ∙ before.error sense constant))
in_turn sense constant t u ds (Err fault) (inr none) = inl none.0

-- and what is declared after an error
pub stopped : (sense : Option Sense) (constant : Option Number) (t u : Tables) (ds : Declarations) (answer : Answer)
    → AreDeclaredUnless t ds answer u → IsStopped (draft sense constant t) ds answer (draft sense constant u)
stopped sense constant t u ds (Ok x) laid = tt
stopped sense constant t u ds (Err fault) (inl before) = inr (inl (record {
  made = before.made;
  rejected = before.rejected;
  left = before.left;
  parts = before.parts;
  free = before.declared.free sense constant;
  declared = before.declared.declared sense constant;
  error = before.error sense constant;
}))
stopped sense constant t u ds (Err fault) (inr none) = inr (inr (none.0, first_part sense constant t u ds none.1))

next_is : (k : ℕ) → suc k ≡ k + 1
next_is k = omega arith

pub rest_of : {X : Type 0} (f : X → Declarations) (xs : List X) (k : ℕ) (x : X) → k < length xs → x ≡ get_or xs k x
    → flat_map f (drop k xs) ≡ f x ++ flat_map f (drop (k + 1) xs)
rest_of {X} f xs k x inside here =
    rest_at f xs k x (slice_get_read xs (length xs) k x refl inside here) ∙ ap (λ n. f x ++ flat_map f (drop n xs)) (next_is k)

-- of two lists one after the other
pub both_parts : {X : Type 0} (f : X → Declarations) (first more given all : List X) → given ≡ first → first ++ more ≡ all
    → flat_map f all ≡ flat_map f given ++ flat_map f more
both_parts {X} f first more given all is seen = grind (arith, flat_map-append)

pub none_first : (first more : Terms) → first ++ more ≡ [] → length first ≡ 0
none_first [] more h = refl
none_first (term ∷ first) more h = cc

-- no row has the name, and there is a term
pub rows_unknown : (all : Draft) (row : List ℕ) (terms : Terms) → has_row all row ≡ false → (terms ≡ [] → ⊥)
    → head_of (refusals_in_turn all (flat_map (term_declared row) terms)) ≡ Some UnknownRow
rows_unknown all row [] absent some = absurd (some refl)
rows_unknown all row (term ∷ terms) absent some = grind arith

pub drop_none : {X : Type 0} (k : ℕ) (xs : List X) → length xs ≤ k → drop k xs ≡ []
drop_none zero (x ∷ xs) h = absurd (omega arith)
drop_none (suc k) (x ∷ xs) h = drop_none k xs (omega arith)
drop_none _ _ h = refl

module _ (t u v : Tables) (name column : List ℕ) (term : List ℕ × Number) (rest left all : Declarations)
    (named : column ≡ term.0) (split : left ≡ term_declared name term ++ rest) (before : Decides u left t all) where
  decides : Decides u (term_declared name (column, term.1) ++ rest) t all
  decides = grind arith

  -- after the next term
  pub term_laid : AreDeclared u (term_declared name (column, term.1)) v → Decides v rest t all
  term_laid = grind (arith, decides_next, decides)

  pub term_refused : (answer : Answer) (fault : BuildFault) → IsErrAnd answer (λ stated. stated ≡ fault)
      → AreDeclaredUnless u (term_declared name (column, term.1)) (Err fault) v → AreDeclaredUnless t all answer v
  term_refused answer fault stated refused =
      decides_err t u v (term_declared name (column, term.1)) _ all _ _ stated refused decides
