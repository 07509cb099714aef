-- The canonical declarations of a well-formed listing fill no slot twice.
-- The coefficients of a well-formed listing fill different slots.
-- The rows, right-hand sides and ranges that a well-formed listing declares fill different slots.
-- The bounds that are declared of different columns fill different slots.
-- The canonical declarations of a well-formed listing fill no slot twice.
use Rattle.mpslp_mps_laws.proofs.Prelude
use Prelude.{Apart, Bool, CoefficientKey, Column, Declarations, Each, Each-all, Each-append, Each-filter, Each-flat_map, Each-map}
use Prelude.{Each-weaker, IsNew, List, Listing, None, Number, Option, Row, Sense, Slot, Some, [], all_slots, all_stated, ap, append-nil}
use Prelude.{are_distinct, arith, at_name, below_all, both_so, bytes_cmp, bytes_total, cell_at, coefficient_slot, cons_option}
use Prelude.{constant_slot, declare_objective, distinct-append, distinct-flat_map, distinct-sorted, false, filter, filter_map, find}
use Prelude.{find-stated, first_so, flat-same, flat_map, flat_map-append, flat_map-flat_map, is_integer_column, is_one_of, is_plain_column}
use Prelude.{is_some, is_sorted, key_cmp, later_differ, list_any, lower_slot, map, names_in, nat_list_eq_equiv, negated, none_there, nor}
use Prelude.{not_so, objective_slot, one_of-names, option_map, own-found, printed_coefficients, range_slot, refl, rhs_slot, row_slot, rules}
use Prelude.{same_bytes, same_name, same_slot, second_so, sense_slot, slots_of, so_not, sorted-kept, sorted-stated, stated, suc, sym}
use Prelude.{then_stated, tied_names, true, upper_slot, ℕ, ◌++◌, ◌<◌, ◌||◌, ◌∙◌, ◌∷◌, ◌≡◌}
use Rattle.mpslp_builder.proofs.ListingLemmas.{IsSoundListing, place_at}
use Rattle.mpslp_mps_laws.proofs.DraftMaps.{cells-made, listed_decl, made_of, own_side, range_stated}
use Rattle.mpslp_mps_laws.proofs.{DraftMaps.{ranges-made, side_stated, sides-made, value_stated, whole-parts}, SectionWalks.Cell}
use Rattle.mpslp_mps_laws.proofs.SectionWalks.{Side, bound_decl, cell_decl, cells_of, range_decl, row_decl, side_decl}
use Rattle.mpslp_mps_laws.proofs.WholeWalk.{bounds_in, cells_in, group_in, row_range, sense_decl, sides_in, to_cell, to_row, whole_of}

-- ---- slots of different kinds

-- the section of canonical text whose declarations fill the slot
abbrev pub rank : Slot → ℕ
rank sense_slot = 0
rank objective_slot = 1
rank (row_slot _) = 1
rank (coefficient_slot _) = 2
rank (rhs_slot _) = 3
rank (range_slot _) = 4
rank (lower_slot _) = 5
rank (upper_slot _) = 5
rank constant_slot = 6

abbrev pub AllOf : ℕ → List Slot → Type 0
AllOf n slots = Each (λ slot. rank slot ≡ n) slots

abbrev pub NoneOf : ℕ → List Slot → Type 0
NoneOf n slots = Each (λ slot. rank slot ≡ n → ⊥) slots

other-new : (n : ℕ) (slot : Slot) (slots : List Slot) → rank slot ≡ n → NoneOf n slots → IsNew same_slot slot slots
other-new n slot [] is none = refl
other-new n slot (later ∷ slots) is none = grind (arith, other-new n slot slots is none.1)

-- slots of one kind before slots of others
pub join-ranks : (n : ℕ) (xs ys : List Slot) → are_distinct same_slot xs ≡ true → are_distinct same_slot ys ≡ true → AllOf n xs
    → NoneOf n ys → are_distinct same_slot (xs ++ ys) ≡ true
join-ranks = grind (arith, distinct-append, Each-weaker, other-new)

-- ---- slots of names

any-map : {X Y : Type 0} (p : Y → Bool) (f : X → Y) (xs : List X) → list_any p (map f xs) ≡ list_any (λ x. p (f x)) xs
any-map p f [] = refl
any-map p f (x ∷ xs) = ap (λ b. p (f x) || b) (any-map p f xs)

pub distinct-map : {K : Type 0} (same : K → K → Bool) (make : K → Slot) → ((a b : K) → same_slot (make a) (make b) ≡ same a b)
    → (keys : List K) → are_distinct same_slot (map make keys) ≡ are_distinct same keys
distinct-map same make h [] = refl
distinct-map {K} same make h (key ∷ keys) = grind (arith, any-map, distinct-map same make h keys)

pub distinct-names : {X : Type 0} (make : List ℕ → Slot) → ((a b : List ℕ) → same_slot (make a) (make b) ≡ same_bytes a b)
    → (es : List (List ℕ × X)) → is_sorted bytes_cmp es ≡ true → are_distinct same_slot (map make (names_in es)) ≡ true
distinct-names make h es sorted = distinct-map same_bytes make h _ ∙ distinct-sorted bytes_cmp bytes_total same_bytes
    same_name es sorted

pub slots-flat : (ds : Declarations) → all_slots ds ≡ flat_map slots_of ds
slots-flat [] = refl
slots-flat (d ∷ ds) = grind (arith, slots-flat ds)

-- ---- coefficients

abbrev pub cell_slot : Cell → List Slot
cell_slot cell = coefficient_slot (place_at cell.row cell.column) ∷ []

-- a coefficient of another column is not one of this column
pub column-new : (row column other : List ℕ) → same_bytes other column ≡ false → (cells : List (List ℕ × Number))
    → IsNew same_slot (coefficient_slot (place_at row column)) (flat_map cell_slot (map (to_cell other) cells))
column-new row column other h [] = refl
column-new row column other h (cell ∷ cells) = grind (arith, place_at, to_cell, column-new row column other h cells)

-- nor is one of another row
row-new : (coefficients : List (CoefficientKey × Number)) (row column : List ℕ) (rows : List (List ℕ))
    → list_any (λ later. same_bytes later row) rows ≡ false → IsNew same_slot (coefficient_slot (place_at row column))
    (flat_map cell_slot (map (to_cell column) (filter_map (cell_at coefficients column) rows)))
row-new coefficients row column [] h = refl
row-new coefficients row column (x ∷ rows) h = let parts = nor _ _ h in
    by (find key_cmp (place_at x column) coefficients) parts.0 (row-new coefficients row column rows parts.1)
  where
    by : (o : Option Number) → same_bytes x row ≡ false →
        IsNew same_slot (coefficient_slot (place_at row column))
        (flat_map cell_slot (map (to_cell column) (filter_map (cell_at coefficients column) rows))) →
        IsNew same_slot (coefficient_slot (place_at row column)) (flat_map cell_slot (map (to_cell column)
        (cons_option (option_map (λ (value : Number). (x, value)) o) (filter_map (cell_at coefficients column) rows))))
    by = grind arith

-- the coefficients of a column are in different rows
pub column-distinct : (coefficients : List (CoefficientKey × Number)) (column : List ℕ) (rows : List (List ℕ)) →
    are_distinct same_bytes rows ≡ true →
    are_distinct same_slot (flat_map cell_slot (map (to_cell column) (filter_map (cell_at coefficients column) rows))) ≡ true
column-distinct coefficients column [] h = refl
column-distinct coefficients column (row ∷ rows) h = let any = list_any (λ later. same_bytes later row) rows in
    by (find key_cmp (place_at row column) coefficients) (row-new coefficients row column rows (not_so _ (first_so _ _ h)))
    (column-distinct coefficients column rows (second_so _ _ h))
  where
    by : (o : Option Number) → IsNew same_slot (coefficient_slot (place_at row column))
        (flat_map cell_slot (map (to_cell column) (filter_map (cell_at coefficients column) rows))) → are_distinct same_slot
        (flat_map cell_slot (map (to_cell column) (filter_map (cell_at coefficients column) rows))) ≡ true →
        are_distinct same_slot (flat_map cell_slot (map (to_cell column)
        (cons_option (option_map (λ (value : Number). (row, value)) o) (filter_map (cell_at coefficients column) rows)))) ≡ true
    by = grind arith

pub any-turned : (q : List ℕ) (names : List (List ℕ)) → list_any (λ later. same_bytes later q) names ≡ is_one_of names q
any-turned q [] = refl
any-turned q (name ∷ names) = λ i. nat_list_eq_equiv.symm name q i || any-turned q names i

pub rows-distinct : (m : Listing) → IsSoundListing m → are_distinct same_bytes (m.objective ∷ map (λ row. row.0) m.rows) ≡ true
rows-distinct = search (rules, both_so, so_not, any-turned, distinct-sorted, bytes_total, same_name)

abbrev pub column_slots : Listing → List ℕ × Column → List Slot
column_slots m column = flat_map cell_slot (cells_in m column)

line_text-distinct : (column objective : List ℕ) (cells : List (List ℕ × Number))
    → are_distinct same_slot (flat_map cell_slot (map (to_cell column) cells)) ≡ true
    → are_distinct same_slot (flat_map cell_slot (map (to_cell column) (printed_coefficients objective cells))) ≡ true
line_text-distinct = grind arith

own-distinct : (m : Listing) → IsSoundListing m → (column : List ℕ × Column) →
    are_distinct same_slot (column_slots m column) ≡ true
own-distinct = search (rules, line_text-distinct, column-distinct, rows-distinct)

-- columns of different names
abbrev pub AreOther : List (List ℕ × Column) → Type 0
AreOther [] = Unit {0}
AreOther (column ∷ columns) = Each (λ later. same_bytes later.0 column.0 ≡ false) columns × AreOther columns

pub sorted-other : (columns : List (List ℕ × Column)) → is_sorted bytes_cmp columns ≡ true → AreOther columns
sorted-other [] h = tt
sorted-other (column ∷ columns) h =
    grind (
      arith,
      later_differ,
      sorted-other columns
          (second_so (below_all bytes_cmp column.0 columns) (is_sorted bytes_cmp columns) h),
    )

pub other-append : (xs ys : List (List ℕ × Column)) → AreOther xs → AreOther ys →
    Each (λ x. Each (λ y. same_bytes y.0 x.0 ≡ false) ys) xs → AreOther (xs ++ ys)
other-append [] ys h k apart = k
other-append (x ∷ xs) ys h k apart = (Each-append _ xs ys h.0 apart.0, other-append xs ys h.1 k apart.1)

columns-apart : (m : Listing) (columns : List (List ℕ × Column)) → AreOther columns → Apart same_slot (column_slots m) columns
columns-apart m [] h = tt
columns-apart m (column ∷ columns) h = (
  Each-flat_map _ cell_slot _
      (Each-map _ _ _
      (Each-all _ (λ cell. (
        Each-weaker _ _ (λ later apart. column-new cell.0 column.0 later.0 apart _) columns h.0,
        tt,
      )) _)),
  columns-apart m columns h.1,
)

-- The coefficients of columns of different names fill different slots.
pub coefficients-distinct : (m : Listing) → IsSoundListing m → (columns : List (List ℕ × Column)) → AreOther columns
    → are_distinct same_slot (flat_map (column_slots m) columns) ≡ true
coefficients-distinct m h columns other =
    distinct-flat_map same_slot _ columns (Each-all _ (own-distinct m h) columns) (columns-apart m columns other)

-- ---- slots of names are of one kind

pub all-named : (n : ℕ) (make : List ℕ → Slot) → ((name : List ℕ) → rank (make name) ≡ n) → (names : List (List ℕ))
    → AllOf n (map make names)
all-named n make h [] = tt
all-named n make h (name ∷ names) = (h name, all-named n make h names)

-- ---- rows, and the objective before them

abbrev pub row_slots : Listing → List Slot
row_slots m = objective_slot ∷ map row_slot (m.objective ∷ names_in m.rows)

pub rows-fill : (rows : List (List ℕ × Row)) →
    flat_map (made_of slots_of row_decl) (map to_row rows) ≡ map row_slot (names_in rows)
rows-fill [] = refl
rows-fill (row ∷ rows) = grind (arith, rows-fill rows)

no-objective : (names : List (List ℕ)) → list_any (λ later. same_slot later objective_slot) (map row_slot names) ≡ false
no-objective [] = refl
no-objective (name ∷ names) = no-objective names

pub row_slots-distinct : (m : Listing) → IsSoundListing m → are_distinct same_slot (row_slots m) ≡ true
row_slots-distinct m h = both_so _ _ (so_not _ (no-objective (m.objective ∷ names_in m.rows)))
    (distinct-map same_bytes row_slot (λ a b. refl) (m.objective ∷ names_in m.rows) ∙ rows-distinct m h)

-- ---- right-hand sides and ranges

filled-names : (make : List ℕ → Slot) (sides : List Side)
    → flat_map (λ side. make side.row ∷ []) sides ≡ map make (names_in (flat_map own_side sides))
filled-names make [] = refl
filled-names make (side ∷ sides) = grind (arith, filled-names make sides)

abbrev pub side_values : Listing → List (List ℕ × Number)
side_values m = stated m.objective (value_stated (negated m.constant)) ++ all_stated side_stated m.rows

pub sides-fill : (m : Listing) → flat_map (made_of slots_of side_decl) (sides_in m) ≡ map rhs_slot (names_in (side_values m))
sides-fill m = filled-names rhs_slot _ ∙ ap (λ sides. map rhs_slot (names_in sides)) (sides-made m)

pub ranges-fill : (m : Listing)
    → flat_map (made_of slots_of range_decl) (flat_map row_range m.rows) ≡ map range_slot
    (names_in (all_stated range_stated m.rows))
ranges-fill m = filled-names range_slot _ ∙ ap (λ ranges. map range_slot (names_in ranges)) (ranges-made m.rows)

-- the objective is not a row, so no row declares a right-hand side of its name
objective-new : (m : Listing) → IsSoundListing m
    → list_any (λ later. same_bytes later m.objective) (names_in (all_stated side_stated m.rows)) ≡ false
objective-new m h = let absent : at_name m.rows m.objective ≡ None =
    none_there _ (sym (one_of-names m.objective m.rows) ∙ h.no_row) in
    any-turned m.objective _ ∙ one_of-names m.objective _ ∙ ap is_some
    (find-stated bytes_cmp side_stated bytes_total tied_names m.objective m.rows h.rows_sorted
    ∙ ap (then_stated side_stated) absent)

pub side_slots-distinct : (m : Listing) → IsSoundListing m →
    are_distinct same_slot (map rhs_slot (names_in (side_values m))) ≡ true
side_slots-distinct m h = distinct-map same_bytes rhs_slot (λ a b. refl) (names_in (side_values m))
    ∙ by (value_stated (negated m.constant))
  where
    rows : are_distinct same_bytes (names_in (all_stated side_stated m.rows)) ≡ true
    rows = distinct-sorted bytes_cmp bytes_total same_bytes same_name (all_stated side_stated m.rows)
        (sorted-stated bytes_cmp side_stated m.rows h.rows_sorted)

    by : (o : Option Number) → are_distinct same_bytes (names_in (stated m.objective o ++ all_stated side_stated m.rows)) ≡ true
    by None = rows
    by (Some d) = both_so _ _ (so_not _ (objective-new m h)) rows

pub range_slots-distinct : (m : Listing) → IsSoundListing m
    → are_distinct same_slot (map range_slot (names_in (all_stated range_stated m.rows))) ≡ true
range_slots-distinct m h =
    distinct-names range_slot (λ a b. refl) (all_stated range_stated m.rows)
    (sorted-stated bytes_cmp range_stated m.rows h.rows_sorted)

abbrev pub bound_slots : List ℕ × Column → List Slot
bound_slots column = flat_map (made_of slots_of bound_decl) (bounds_in column)

-- ---- and no bound is that of another column

lower-new : (name : List ℕ) (other : List ℕ × Column) → same_bytes other.0 name ≡ false
    → IsNew same_slot (lower_slot name) (bound_slots other)
lower-new = grind arith

upper-new : (name : List ℕ) (other : List ℕ × Column) → same_bytes other.0 name ≡ false
    → IsNew same_slot (upper_slot name) (bound_slots other)
upper-new = grind arith

bounds-apart : (columns : List (List ℕ × Column)) → AreOther columns → Apart same_slot bound_slots columns
bounds-apart [] h = tt
bounds-apart (column ∷ columns) h = (
  (grind (arith, Each-weaker _ _ (lower-new column.0) columns h.0, Each-weaker _ _ (upper-new column.0) columns h.0)),
  bounds-apart columns h.1,
)

-- The bounds that are declared of different columns fill different slots.
pub bounds-distinct : (columns : List (List ℕ × Column)) → AreOther columns →
    are_distinct same_slot (flat_map bound_slots columns) ≡ true
bounds-distinct columns other = distinct-flat_map same_slot bound_slots columns (Each-all _ (λ column. (grind arith)) columns)
    (bounds-apart columns other)

-- ---- sections, each of a higher rank than those before it

abbrev joined : List (List Slot) → List Slot
joined [] = []
joined (section ∷ sections) = section ++ joined sections

-- the slots of a section: none is filled twice, all are of its rank
record Section (n : ℕ) (slots : List Slot) : Type 0 where
  pub once : are_distinct same_slot slots ≡ true
  pub rank : AllOf n slots

abbrev Sections : ℕ → List (List Slot) → Type 0
Sections n [] = Unit {0}
Sections n (section ∷ sections) = Section n section × Sections (suc n) sections

none-above : (low n : ℕ) → low < n → (sections : List (List Slot)) → Sections n sections → NoneOf low (joined sections)
none-above low n below [] h = tt
none-above low n below (section ∷ sections) h =
    Each-append _ section _ (Each-weaker (λ slot. rank slot ≡ n) (λ slot. rank slot ≡ low →
    ⊥) (λ slot is other. omega (arith, is, other, below)) section h.0.rank)
    (none-above low _ (omega (arith, below)) sections h.1)

joined-once : (n : ℕ) (sections : List (List Slot)) → Sections n sections → are_distinct same_slot (joined sections) ≡ true
joined-once n [] h = refl
joined-once n (section ∷ sections) h = grind (arith, join-ranks, rank, none-above, joined-once (suc n) sections h.1)

-- ---- OBJSENSE

abbrev sense_slots : Sense → List Slot
sense_slots sense = flat_map slots_of (sense_decl sense)

-- ---- COLUMNS: the columns outside the integer block, then those in it

abbrev listed_columns : Listing → List (List ℕ × Column)
listed_columns m = filter is_plain_column m.columns ++ filter is_integer_column m.columns

abbrev IsFound : Listing → List ℕ × Column → Type 0
IsFound m column = at_name m.columns column.0 ≡ Some column.1

parts-differ : (m : Listing) → IsSoundListing m
    → Each (λ x. Each (λ y. same_bytes y.0 x.0 ≡ false) (filter is_integer_column m.columns)) (filter is_plain_column m.columns)
parts-differ m h = let own = own-found m.columns h.columns_sorted in
    Each-filter _ is_plain_column m.columns (Each-weaker _ _ (λ x found plain. Each-filter _ is_integer_column m.columns
    (Each-weaker _ _ (λ y there integer. (search (rules, same_name, not_so, found, plain, there, integer))) m.columns
    own)) m.columns own)

cells-fill : (m : Listing) (marked : Bool) → ((cell : Cell) → made_of slots_of (cell_decl marked) cell ≡ cell_slot cell)
    → (columns : List (List ℕ × Column))
    → flat_map (made_of slots_of (cell_decl marked)) (cells_of (map (group_in m) columns)) ≡ flat_map (column_slots m) columns
cells-fill = grind (arith, flat-same, made_of, cell_decl, cell_slot, cells_of, group_in, cells-made)

columns-fill : (m : Listing) → flat_map (made_of slots_of (cell_decl false))
    (cells_of (map (group_in m) (filter is_plain_column m.columns))) ++ flat_map (made_of slots_of (cell_decl true))
    (cells_of (map (group_in m) (filter is_integer_column m.columns))) ≡ flat_map (column_slots m) (listed_columns m)
columns-fill = grind (arith, cells-fill, flat_map-append, column_slots)

column-rank : (m : Listing) (column : List ℕ × Column) → AllOf 2 (column_slots m column)
column-rank = grind (arith, Each-flat_map, Each-all)

columns-section : (m : Listing) → IsSoundListing m → Section 2 (flat_map (column_slots m) (listed_columns m))
columns-section m h = record {
  once = coefficients-distinct m h (listed_columns m) (grind (arith, other-append, sorted-other, sorted-kept, parts-differ, h));
  rank = Each-flat_map (λ slot. rank slot ≡ 2) (column_slots m) (listed_columns m)
      (Each-all (λ column. AllOf 2 (column_slots m column)) (column-rank m) (listed_columns m));
}

-- ---- BOUNDS

bounds-section : (m : Listing) → IsSoundListing m → Section 5 (flat_map bound_slots m.columns)
bounds-section m h = record {
  once = bounds-distinct m.columns (sorted-other m.columns h.columns_sorted);
  rank = Each-flat_map _ bound_slots m.columns
      (Each-all _ (λ column. (grind arith)) m.columns);
}

bounds-fill : (columns : List (List ℕ × Column))
    → flat_map (made_of slots_of bound_decl) (flat_map bounds_in columns) ≡ flat_map bound_slots columns
bounds-fill columns = flat_map-flat_map _ bounds_in columns

-- ---- all sections

abbrev sections : Listing → List (List Slot)
sections m = sense_slots m.sense ∷ row_slots m ∷ flat_map (column_slots m) (listed_columns m) ∷ map rhs_slot
    (names_in (side_values m)) ∷ map range_slot (names_in (all_stated range_stated m.rows)) ∷ flat_map bound_slots m.columns ∷ []

sections-once : (m : Listing) → IsSoundListing m → Sections 0 (sections m)
sections-once m h = let rows : Section 1 (row_slots m) =
    record { once = row_slots-distinct m h; rank = (refl, all-named 1 row_slot (λ _. refl) (m.objective ∷ names_in m.rows)) } in
    let side_names = names_in (side_values m) in
    let sides : Section 3 (map rhs_slot side_names) =
    record { once = side_slots-distinct m h; rank = all-named 3 rhs_slot (λ _. refl) side_names } in
    let range_names = names_in (all_stated range_stated m.rows) in
    let ranges : Section 4
    (map range_slot range_names) =
    record { once = range_slots-distinct m h; rank = all-named 4 range_slot (λ _. refl) range_names } in
    ((grind arith), (rows, (columns-section m h, (sides, (ranges, (bounds-section m h, tt))))))

sections-fill : (m : Listing) → flat_map slots_of (listed_decl m) ≡ joined (sections m)
sections-fill m = whole-parts slots_of (whole_of m) ∙ (λ i. sense_slots m.sense ++ ((slots_of (declare_objective m.objective)
    ++ rows-fill m.rows i) ++ (columns-fill m i ++ (sides-fill m i ++ (ranges-fill m i ++ last_fill i)))))
  where
    last_fill : flat_map (made_of slots_of bound_decl) (flat_map bounds_in m.columns) ≡ flat_map bound_slots m.columns ++ []
    last_fill = bounds-fill m.columns ∙ sym (append-nil (flat_map bound_slots m.columns))

-- The canonical declarations of a well-formed listing fill no slot twice.
pub filled-once : (m : Listing) → IsSoundListing m → are_distinct same_slot (all_slots (listed_decl m)) ≡ true
filled-once m h = ap (are_distinct same_slot) (slots-flat (listed_decl m) ∙ sections-fill m)
    ∙ joined-once 0 (sections m) (sections-once m h)
