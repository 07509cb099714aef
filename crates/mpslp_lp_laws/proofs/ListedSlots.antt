-- The slots that the canonical text of a listing fills: none twice.
use Rattle.mpslp_lp_laws.proofs.Prelude
use Prelude.{◌≡◌, refl, ap, ◌∙◌, ℕ, ◌<◌, arith, List, [], ◌∷◌, ◌++◌, true, false, append_assoc, ◌&&◌, Option, Some, None}
use Prelude.{list_any, flat_map, same_bytes, both_so, both_false, so_not, Each-weaker}
use Prelude.{are_distinct, Declarations, names_in, Slot, row_slot, rhs_slot, range_slot, coefficient_slot}
use Prelude.{same_slot, all_slots, itself_named, subst, length}
use Prelude.{filter_map, if◌then◌else◌, cons_option, option_map, find, Number, zero_number, Each-both, Each-all, Column, key_cmp, Listing}
use Prelude.{Term, term_in, has_coefficients, objective_term, objective_terms, some_term, row_terms, ◌||◌, Bool, not, map}
use Prelude.{Each-flat_map, Row, sense_slot, objective_slot, constant_slot, distinct-flat_map}
use Rattle.std.{proofs.lemmas.List.Folds.list_any-append}
use Rattle.mpslp_types.proofs.EachLemmas.{Each}
use Rattle.mpslp_lp_laws.proofs.{LineLemmas.{IsTerm, IsFit, terms-fit, some-fits}, PhraseWalk.{terms_declared}}
use Rattle.mpslp_builder.proofs.RankedSlots.{Section, Sections, joined-once, AreOther, names-distinct, owner, owners-apart, slots-append}
use Rattle.mpslp_builder.proofs.RankedSlots.{slots-flat}
use Rattle.mpslp_lp_grammar.specs.Points.{AreNew}
use Rattle.mpslp_lp_laws.proofs.PhraseWalk.{constant_declared, objective_made, column_made, general_made, semi_made}
use Rattle.mpslp_lp_laws.proofs.TextWalk.{IsRow, row_made, listed_declarations}

-- ---- the terms that are printed of the objective or of a row are of different columns

-- a term for each column that has a value
abbrev terms_by : (List ℕ × Column → Option Number) → List (List ℕ × Column) → List Term
terms_by value_of columns = filter_map (λ column. option_map (λ value. (column.0, value)) (value_of column)) columns

each-term : (P : List ℕ → Type 0) (value_of : List ℕ × Column → Option Number) (columns : List (List ℕ × Column))
    → Each (λ column. P column.0) columns → Each (λ term. P term.0) (terms_by value_of columns)
each-term P _ [] h = tt
each-term P value_of (column ∷ columns) h = grind (arith, each-term P value_of columns h.1)

other-terms : (value_of : List ℕ × Column → Option Number) (columns : List (List ℕ × Column)) → AreOther columns →
    AreOther (terms_by value_of columns)
other-terms _ [] h = tt
other-terms value_of (column ∷ columns) h = by (value_of column) (other-terms value_of columns h.1)
  where
    by : (o : Option Number) → AreOther (terms_by value_of columns)
        → AreOther (cons_option (option_map (λ (value : Number). (column.0, value)) o) (terms_by value_of columns))
    by None more = more
    by (Some _) more = (each-term (λ name. same_bytes name column.0 ≡ false) value_of columns h.0, more)

-- ---- the objective

abbrev objective_value : Listing → List ℕ × Column → Option Number
objective_value m column = if has_coefficients m column then find key_cmp
    (record { row = m.objective; column = column.0 }) m.coefficients else Some zero_number

objective-by : (m : Listing) (column : List ℕ × Column) →
    option_map (λ (value : Number). (column.0, value)) (objective_value m column) ≡ objective_term m column
objective-by = grind arith

pub objective-other : (m : Listing) → AreOther m.columns → AreOther (objective_terms m)
objective-other m h = subst AreOther (λ i. filter_map (λ column. objective-by m column i) m.columns)
    (other-terms (objective_value m) m.columns h)

-- ---- rows

some-other : (columns : List (List ℕ × Column)) (terms : List Term) → AreOther terms → AreOther (some_term columns terms)
some-other = grind arith

pub row-other : (m : Listing) (row : List ℕ) → AreOther m.columns → AreOther (row_terms m row)
row-other m row h = some-other m.columns (filter_map (term_in m row) m.columns)
    (other-terms (λ column. find key_cmp (record { row = row; column = column.0 }) m.coefficients) m.columns h)

-- terms after others with different columns
new-after : (seen terms : List Term) →
    Each (λ (term : Term). list_any (λ (earlier : Term). same_bytes term.0 earlier.0) seen ≡ false) terms
    → AreOther terms → AreNew seen terms
new-after _ [] h _ = tt
new-after seen (term ∷ terms) h other = grind (
  arith,
  list_any-append,
  both_false,
  new-after (seen ++ term ∷ []) terms
      (Each-both (λ (later : Term). list_any (λ (earlier : Term). same_bytes later.0 earlier.0) seen
      ≡ false) (λ (later : Term). same_bytes later.0 term.0 ≡ false)
      (λ (later : Term). list_any (λ (earlier : Term). same_bytes later.0 earlier.0) (seen ++ term ∷ []) ≡ false)
      (λ later no apart. list_any-append (λ (earlier : Term). same_bytes later.0 earlier.0) seen
      (term ∷ []) ∙ both_false (list_any (λ (earlier : Term). same_bytes later.0 earlier.0) seen)
      (same_bytes later.0 term.0 || false) no (both_false (same_bytes later.0 term.0) false apart refl)) terms h.1
      other.0) other.1,
)

some-row : (columns : List (List ℕ × Column)) (terms : List Term)
    → 0 < length columns → (P : List Term → Type 0) → ((term : Term) (more : List Term) → P (term ∷ more)) →
    P (some_term columns terms)
some-row = grind arith

-- Each row is printed with terms, none of them of the same column twice.
pub plain-row : (m : Listing) → IsFit m → AreOther m.columns → 0 < length m.columns → (row : List ℕ) → IsRow (row_terms m row)
plain-row m fit other some row = let terms = filter_map (term_in m row) m.columns in
    some-row m.columns terms some (λ (ts : List Term). Each IsTerm ts → AreOther ts → IsRow ts) (λ term more good apart. (
      good,
      new-after [] (term ∷ more) (Each-all
          (λ (later : Term). list_any (λ (earlier : Term). same_bytes later.0 earlier.0) [] ≡ false) (λ _. refl)
          (term ∷ more)) apart,
    )) (some-fits m.columns terms fit.columns (terms-fit m fit row)) (row-other m row other)

-- ---- what the canonical text declares fills no slot twice

-- ---- ranks: the row of the objective is separate from the others

abbrev of_row : Bool → ℕ
of_row is_objective = if is_objective then 2 else 4

abbrev rank : List ℕ → Slot → ℕ
rank objective sense_slot = 0
rank objective objective_slot = 1
rank objective constant_slot = 3
rank objective (row_slot name) = of_row (same_bytes name objective)
rank objective (rhs_slot name) = of_row (same_bytes name objective)
rank objective (range_slot name) = of_row (same_bytes name objective)
rank objective (coefficient_slot key) = of_row (same_bytes key.row objective)
rank objective _ = 5

-- ---- coefficients

abbrev cell_slot : List ℕ → List ℕ → Slot
cell_slot row column = coefficient_slot (record { row = row; column = column })

cells-fill : (row : List ℕ) (terms : List Term) → all_slots (terms_declared row terms) ≡ map (cell_slot row) (names_in terms)
cells-fill _ [] = refl
cells-fill row (term ∷ terms) = ap (λ (slots : List Slot). cell_slot row term.0 ∷ slots) (cells-fill row terms)

cells-any : (row column : List ℕ) (columns : List (List ℕ)) → list_any
    (λ later. same_slot later (cell_slot row column)) (map (cell_slot row) columns) ≡ list_any
    (λ later. same_bytes later column) columns
cells-any _ _ [] = refl
cells-any row column (other ∷ columns) = λ i. (itself_named row i && same_bytes other column) || cells-any row column columns i

cells-distinct : (row : List ℕ) (columns : List (List ℕ)) → are_distinct same_bytes columns ≡ true →
    are_distinct same_slot (map (cell_slot row) columns) ≡ true
cells-distinct row columns h = by columns ∙ h
  where
    by : (names : List (List ℕ)) → are_distinct same_slot (map (cell_slot row) names) ≡ are_distinct same_bytes names
    by [] = refl
    by (name ∷ names) = λ i. not (cells-any row name names i) && by names i

-- a property of each slot of the coefficients of a row
each-cell : (P : Slot → Type 0) (row : List ℕ) (terms : List Term)
    → ((column : List ℕ) → P (cell_slot row column)) → Each P (all_slots (terms_declared row terms))
each-cell P _ [] h = tt
each-cell P row (term ∷ terms) h = (h term.0, each-cell P row terms h)

terms-once : (row : List ℕ) (terms : List Term) → AreOther terms →
    are_distinct same_slot (all_slots (terms_declared row terms)) ≡ true
terms-once row terms other = ap (are_distinct same_slot) (cells-fill row terms) ∙ cells-distinct row (names_in terms)
    (names-distinct terms other)

-- ---- a row

no_cell : (slot : Slot) (row : List ℕ) (terms : List Term) → ((column : List ℕ) → same_slot (cell_slot row column) slot ≡ false)
    → list_any (λ later. same_slot later slot) (all_slots (terms_declared row terms)) ≡ false
no_cell _ _ [] h = refl
no_cell slot row (term ∷ terms) h = both_false _ _ (h term.0) (no_cell slot row terms h)

row-once : (name : List ℕ) (terms : List Term) → AreOther terms
    → are_distinct same_slot (row_slot name ∷ rhs_slot name ∷ range_slot name ∷ all_slots (terms_declared name terms)) ≡ true
row-once name terms other = let cells = all_slots (terms_declared name terms) in both_so _ _
    (so_not _ (no_cell (row_slot name) name terms (λ _. refl)))
    (both_so _ _ (so_not _ (no_cell (rhs_slot name) name terms (λ _. refl)))
    (both_so _ _ (so_not _ (no_cell (range_slot name) name terms (λ _. refl))) (terms-once name terms other)))

abbrev row_slots : Listing → List ℕ × Row → List Slot
row_slots m row = all_slots (row_made m row)

each-row_slot : (P : Slot → Type 0) (m : Listing) (row : List ℕ × Row) → P (row_slot row.0)
    → P (rhs_slot row.0) → P (range_slot row.0) → ((column : List ℕ) → P (cell_slot row.0 column)) → Each P (row_slots m row)
each-row_slot P m row a b c d = (a, (b, (c, each-cell P row.0 (row_terms m row.0) d)))

rows-section : (m : Listing) → AreOther m.columns → AreOther m.rows
    → Each (λ row. same_bytes row.0 m.objective ≡ false) m.rows → Section (rank m.objective) 4 (flat_map (row_slots m) m.rows)
rows-section m columns rows others = record {
  once = distinct-flat_map same_slot (row_slots m) m.rows (Each-all (λ row. are_distinct same_slot (row_slots m row) ≡ true)
      (λ row. row-once row.0 (row_terms m row.0) (row-other m row.0 columns)) m.rows)
      (owners-apart (row_slots m) (λ row. each-row_slot (λ slot. owner slot ≡ Some row.0) m row refl refl refl
      (λ _. refl)) m.rows rows);
  ranked = Each-flat_map (λ slot. rank m.objective slot ≡ 4) (row_slots m) m.rows
      (Each-weaker (λ row. same_bytes row.0 m.objective ≡ false)
      (λ row. Each (λ slot. rank m.objective slot ≡ 4) (row_slots m row))
      (λ row other. each-row_slot (λ slot. rank m.objective slot ≡ 4) m row (ap of_row other) (ap of_row other)
      (ap of_row other) (λ _. ap of_row other)) m.rows others);
}

-- ---- the objective

objective-section : (m : Listing)
    → AreOther m.columns → Section (rank m.objective) 2
    (row_slot m.objective ∷ all_slots (terms_declared m.objective (objective_terms m)))
objective-section m columns = let cells = all_slots (terms_declared m.objective (objective_terms m)) in record {
  once = both_so _ _ (so_not _ (no_cell (row_slot m.objective) m.objective (objective_terms m) (λ _. refl)))
      (terms-once m.objective (objective_terms m) (objective-other m columns));
  ranked = (
    ap of_row (itself_named m.objective),
    each-cell (λ slot. rank m.objective slot ≡ 2) m.objective (objective_terms m) (λ _. ap of_row (itself_named m.objective)),
  );
}

-- ---- bounds

-- the slots of a column's bounds
record IsOfColumn (objective column : List ℕ) (slots : List Slot) : Type 0 where
  pub once : are_distinct same_slot slots ≡ true
  pub own : Each (λ slot. owner slot ≡ Some column) slots
  pub ranked : Each (λ slot. rank objective slot ≡ 5) slots

abbrev bound_slots : List ℕ × Column → List Slot
bound_slots column = all_slots (column_made column)

slots-of_column : (objective : List ℕ) (column : List ℕ × Column) → IsOfColumn objective column.0 (bound_slots column)
slots-of_column objective column = grind arith

bounds-section : (m : Listing) → AreOther m.columns → Section (rank m.objective) 5 (flat_map bound_slots m.columns)
bounds-section m columns = record {
  once = distinct-flat_map same_slot bound_slots m.columns (Each-all
      (λ column. are_distinct same_slot (bound_slots column) ≡ true)
      (λ column. (slots-of_column m.objective column).once) m.columns)
      (owners-apart bound_slots (λ column. (slots-of_column m.objective column).own) m.columns columns);
  ranked = Each-flat_map (λ slot. rank m.objective slot ≡ 5) bound_slots m.columns (Each-all (λ column. Each
      (λ slot. rank m.objective slot ≡ 5) (bound_slots column)) (λ column. (slots-of_column m.objective column).ranked)
      m.columns);
}

-- ---- the whole

abbrev sections : Listing → List (List Slot)
sections m = (sense_slot ∷ []) ∷ (objective_slot ∷ []) ∷ (row_slot m.objective ∷ all_slots
    (terms_declared m.objective (objective_terms m))) ∷ all_slots (constant_declared m.constant) ∷ flat_map
    (row_slots m) m.rows ∷ flat_map bound_slots m.columns ∷ []

kinds-fill : (make : List ℕ × Column → Declarations) → ((column : List ℕ × Column) → all_slots (make column) ≡ [])
    → (columns : List (List ℕ × Column)) → all_slots (flat_map make columns) ≡ []
kinds-fill _ h [] = refl
kinds-fill make h (column ∷ columns) = slots-append (make column) (flat_map make columns)
    ∙ (λ i. h column i ++ kinds-fill make h columns i)

sections-fill : (m : Listing) → all_slots (listed_declarations m) ≡ flat_map (λ (section : List Slot). section) (sections m)
sections-fill = grind (
  arith,
  terms_declared,
  constant_declared,
  row_made,
  column_made,
  general_made,
  semi_made,
  slots-append,
  kinds-fill,
  slots-flat,
  objective_made,
  append_assoc,
)

-- No slot is filled twice, if rows and columns have different names, and no row has that of the objective.
pub listed-once : (m : Listing) → AreOther m.columns → AreOther m.rows
    → Each (λ row. same_bytes row.0 m.objective ≡ false) m.rows →
    are_distinct same_slot (all_slots (listed_declarations m)) ≡ true
listed-once m columns rows others = let all : Sections (rank m.objective) 0 (sections m) = (
  record { once = refl; ranked = (refl, tt) },
  (
    record { once = refl; ranked = (refl, tt) },
    (
      objective-section m columns,
      (grind arith, (rows-section m columns rows others, (bounds-section m columns, tt))),
    ),
  ),
) in ap (are_distinct same_slot) (sections-fill m) ∙ joined-once (rank m.objective) 0 (sections m) all
