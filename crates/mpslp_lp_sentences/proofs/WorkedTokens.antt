-- The sentences of `FaultsInWords` hold for the token with the error, and for no token of a file that is close to it and has
-- no such error, by computation.
use Rattle.mpslp_lp_sentences.proofs.Prelude
use Prelude.{String, ◌≡◌, refl, ℕ, suc, map, Option, Some, Bool, true, false, ◌||◌, List, ◌∷◌, [], ◌++◌, codes, reverse, if◌then◌else◌}
use Prelude.{lines, Fault, FaultKind, ConstantInRow, DuplicateBound, DuplicateEntry, DuplicateRow, MixedSenses, SectionOrder}
use Prelude.{SectionRepeated, Terminal, terminals, fault_on_line, first_lp_fault, is_lp_text, repeats_section, breaks_order}
use Prelude.{follows_constant, mixes_senses, repeats_constant, repeats_bound, repeats_row, repeats_entry, changes_kind}
use Rattle.std.specs.Fmt.{digits}
use Rattle.mpslp_decimal.specs.Decimal.{trailing_zeros}
use Rattle.mpslp_types.specs.declared.faults.FaultKind.TheVariants.{DuplicateRhs, SemiContinuous}

-- whether a sentence holds for one of the tokens, after earlier ones
abbrev holds_among : (List Terminal → Terminal → Bool) → List Terminal → List Terminal → Bool
holds_among is_such earlier [] = false
holds_among is_such earlier (token ∷ more) = is_such earlier token || holds_among is_such (token ∷ earlier) more

abbrev lines_among : (List Terminal → Terminal → Bool) → ℕ → List Terminal → List (List ℕ) → List ℕ
lines_among is_such n earlier [] = []
lines_among is_such n earlier (line ∷ more) = if holds_among is_such earlier (terminals line) then n ∷ lines_among is_such
    (suc n) (reverse (terminals line) ++ earlier) more else lines_among is_such (suc n) (reverse (terminals line) ++ earlier) more

-- the numbers of the lines that have a token for which a sentence holds
abbrev lines_with : (List Terminal → Terminal → Bool) → List ℕ → List ℕ
lines_with is_such bytes = lines_among is_such 1 [] (lines bytes)

-- ---- a file with each section

abbrev whole : List ℕ
whole = codes "max\nprofit: 3 x + 2 y - - 4\nsubject to\ncap: x + to <= 4\n-1 <= x + 2 y <= 8 x >= 2\nbounds\n"
    ++ codes "x <= 4 1 <= y <= 5\nto free\ngen x\nbin z\nsemi-continuous y\nend\n"

-- ---- SectionOrder

-- a section that is repeated is not out of order
pub rows_twice : lines_with breaks_order (codes "min x\nst\nbounds\nst\n") ≡ []
unfolding trailing_zeros
rows_twice = refl

-- ---- ConstantInRow

-- a row in place of one
abbrev with_row : String → List ℕ
with_row line = codes "min 3 + x\nsubject to\n" ++ (codes line ++ codes "\nbounds -3 <= x\nend\n")

pub relation_after_a_right_side : lines_with follows_constant (with_row "x <= 4 <= 5") ≡ []
unfolding trailing_zeros
relation_after_a_right_side = refl

-- ---- MixedSenses

pub mixed_in_two_bounds : lines_with mixes_senses (codes "min x\nbounds\n1 <= x y >= 2 x >= 4 z = 3\n") ≡ []
unfolding trailing_zeros
mixed_in_two_bounds = refl

-- ---- DuplicateBound

abbrev with_bounds : String → List ℕ
with_bounds bounds = codes "min x\nst\nx >= 1 x <= 2 x >= 0\nbounds\n" ++ (codes bounds ++ codes "end\n")

-- ---- sentences and files

-- the first error of each file is of this kind, and on the only line with such a token
abbrev faulty_files : List (FaultKind × (List Terminal → Terminal → Bool) × List ℕ × ℕ)
faulty_files = (SectionRepeated, repeats_section, codes "min x\nst\nmax\n", 3)
    ∷ (SectionRepeated, repeats_section, codes "min x semi x\nsemis x\nend\n", 2)
    ∷ (SectionOrder, breaks_order, codes "min x\nbounds\nst\nend\n", 3) ∷ (SectionOrder, breaks_order, codes "end\n", 1)
    ∷ (SectionOrder, breaks_order, codes "min x\nend bounds\n", 2) ∷ (ConstantInRow, follows_constant, with_row "x + 3 <= 5", 3)
    ∷ (ConstantInRow, follows_constant, with_row "1 <= 3 >= x", 3) ∷ (ConstantInRow, follows_constant, with_row "c: 3 + x <= 5", 3)
    ∷ (ConstantInRow, follows_constant, with_row "- - 3 <= x", 3) ∷ (MixedSenses, mixes_senses, with_row "1 <= x - 2 y >= 0", 3)
    ∷ (MixedSenses, mixes_senses, with_row "3 = x = 4", 3) ∷ (MixedSenses, mixes_senses, codes "min x\nbounds\n1 <= x >= 0\n", 3)
    ∷ (DuplicateRhs, repeats_constant, codes "min 3 + 2 x - 4\nst\nx >= 1\nend\n", 2)
    ∷ (DuplicateBound, repeats_bound, with_bounds "x >= 1\nx =\n- 2\n", 7)
    ∷ (DuplicateBound, repeats_bound, with_bounds "x <= inf\n4 >=\nx\n", 7)
    ∷ (DuplicateBound, repeats_bound, with_bounds "-1 <= x <= 4\nx free\n", 6)
    ∷ (SemiContinuous, changes_kind, codes "min x\ngen\nx\nsemi\ny\nx\nend\n", 6)
    ∷ (SemiContinuous, changes_kind, codes "min x\nsemis x\nbin\nx\nend\n", 4)
    ∷ (SemiContinuous, changes_kind, codes "min x\ngen continuous\nsemi continuous\nend\n", 3)
    ∷ (DuplicateRow, repeats_row, codes "min x\nst\na: x <= 1 a: 2 <= y\n<= - 3\nend\n", 4)
    ∷ (DuplicateRow, repeats_row, codes "min x\nst x <= 1 b: x <= 2\n- x >= -inf\nc3: x <= 4\nend\n", 4)
    ∷ (DuplicateRow, repeats_row, codes "min x\nst\nc2: x <= 1\n1 <= x\n<= 4\nend\n", 5)
    ∷ (DuplicateRow, repeats_row, codes "min cost: x\nsuch that\ncost: x <= 1\nend\n", 3)
    ∷ (DuplicateRow, repeats_row, codes "min x\nst\nobj: x <= 1\nend\n", 3)
    ∷ (DuplicateEntry, repeats_entry, codes "min x + 2 y\n- - 3\nx\nend\n", 3)
    ∷ (DuplicateEntry, repeats_entry, with_row "c: 1 <= 2 x + to - x <= 4", 3) ∷ []

pub faulty_files-right : map {B = Option Fault × List ℕ} (λ row. (first_lp_fault row.2, lines_with row.1 row.2)) faulty_files
    ≡ map {B = Option Fault × List ℕ} (λ row. (Some (fault_on_line row.3 row.0), row.3 ∷ [])) faulty_files
unfolding digits trailing_zeros
faulty_files-right = refl

-- each file is LP text, and has no such token
abbrev right_files : List ((List Terminal → Terminal → Bool) × List ℕ)
right_files =
    (repeats_section, whole) ∷
    (breaks_order, whole) ∷
    (follows_constant, whole) ∷
    -- the right side of a row, and then a row that begins with a sign, or with a left side
    (follows_constant, with_row "x >= 2 + y <= - 5 - 4 <= y <= 7") ∷
    (mixes_senses, whole) ∷
    -- two rows, or two bounds
    (mixes_senses, with_row "c: 1 <= x <= 4 y >= 2 3 x = 2") ∷
    (repeats_constant, whole) ∷
    -- numbers with names after them, and numbers of rows
    (repeats_constant, codes "max obj: 3 x + 2 y + 1\n- 4 z\nst\nx >= 2 + y >= 3 - z <= 1\nend\n") ∷
    (repeats_bound, whole) ∷
    -- a lower and an upper bound, in each order and form, and bounds of other columns
    (repeats_bound, with_bounds "x >= 1 4 >= x y = 3 2 <= z <= 3\nw <= - 1 w >= -inf\n1 <= v v <= 5 u free\n") ∷
    (changes_kind, codes "min x\ngen x continuous\nsemi-continuous y\nbin x z\nend\n") ∷
    (repeats_row, whole) ∷
    -- the objective has another name, and a column has that of a row
    (repeats_row, codes "max cost: x\nst\nobj: a <= 1 a: x + cost <= 2 x: x >= 0\nc9: x <= 1 x <= 3 x <= 4\nbounds a <= 4\nend\n") ∷
    (repeats_entry, whole) ∷
    -- the same column in two rows, a label like a column, and a column like the last word of the heading
    (repeats_entry, with_row "to + x <= 4 x: x - y >= -inf x >= 3 y - to = 1 1 <= y + to <= 3") ∷
    (repeats_entry, codes "max x: x + y\nbounds x <= 4 x >= 1\ngen x bin x\nend\n") ∷
    []

pub right_files-right : map {B = Bool × List ℕ} (λ row. (is_lp_text row.1, lines_with row.0 row.1)) right_files ≡ map
    {B = Bool × List ℕ} (λ row. (true, [])) right_files
unfolding digits trailing_zeros
right_files-right = refl
