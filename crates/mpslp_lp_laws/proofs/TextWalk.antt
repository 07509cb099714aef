-- The whole canonical text: what it declares, if none of that is rejected.
use Rattle.mpslp_lp_laws.proofs.Prelude
use Prelude.{arith, ◌≡◌, refl, sym, ap, subst, ◌∙◌, ℕ, ◌+◌, List, [], ◌∷◌, ◌++◌, true, append_assoc, map, Option, Some, None, codes}
use Prelude.{if◌then◌else◌, filter, flat_map, append-nil, Decimal, have_same_value, Row, Column, Listing, limit_of, Draft, empty_draft}
use Prelude.{Declarations, with_declarations, refusals_in_turn, Limit, Finite, Each-filter, Each, TerminalAt, Opens, no_section_seen}
use Prelude.{with_section, start, SectionsSeen, AtStart, BetweenRows, InBounds, InRow, fits_left, Relation, AtMost, AtLeast, EqualTo, Lines}
use Prelude.{Term, under_heading, label_line, term_line, right_line, left_lines, last_line, minus_large, row_terms, row_lines, line_of_some}
use Prelude.{bound_lexemes, bound_lines, is_integer_column, name_line, objective_section, bounds_section, generals_section, listed_lines}
use Prelude.{under_semi_heading, is_semi_column, semis_section, LinearModel, IsSound, listing_of, Means, Finished}
use Prelude.{text_declares, outcome, is_finished, declarations_of, DeclaresLp, canonical_lp}
use Prelude.{unfit}
use Rattle.mpslp_decimal.proofs.CutLemmas.{Each-weaker}
use Rattle.mpslp_lp_laws.proofs.LineLemmas.{IsTerm, IsFitColumn, IsFit, line_terminals_in, all_terminals, fit-from_sound}
use Rattle.mpslp_lp_laws.proofs.{LineLemmas.canonical-terminals, PhraseWalk.{Walks, walks-none, walks-then, point_at, ended_by}}
use Rattle.mpslp_lp_laws.proofs.PhraseWalk.{bounds-section-walks, number_after, terminals-append, parts-walk, in_rows}
use Rattle.mpslp_builder.proofs.MadeDrafts.{parts-taken}
use Rattle.mpslp_lp_laws.proofs.PhraseWalk.{subject_heading, objective_made, objective-walk, EndsWith, walk-ends, general_made}
use Rattle.mpslp_lp_laws.proofs.PhraseWalk.{generals-end, ending, semi_made, bound_made, column_made, bounds-walk, left_of, left_line}
use Rattle.mpslp_lp_laws.proofs.PhraseWalk.{partial, begin-walk, row-terms-walk, row-end-walk}
use Rattle.mpslp_lp_grammar.specs.Points.{at, AreNew}
use Rattle.mpslp_lp_tokens.specs.declared.words.Section.TheVariants as sections
use Rattle.mpslp_lp_tokens.specs.declared.words.SectionWord.TheVariants as section_words
use Prelude.{Fault}
use Prelude.{Outcome}
use Prelude.{text_says}
use Prelude.{numbered_lines}
use Prelude.{first_own_fault}
use Rattle.mpslp_lp.specs.LpText.{or_else}

-- ---- a row, by what is printed of its limits

abbrev pub row_left : Limit → Limit → Option Decimal
row_left (Finite a) (Finite b) = if have_same_value a b then None else Some a
row_left _ _ = None

abbrev pub row_relation : Limit → Limit → Relation
row_relation (Finite a) (Finite b) = if have_same_value a b then EqualTo else AtMost
row_relation _ (Finite b) = AtMost
row_relation _ _ = AtLeast

abbrev pub row_right : Limit → Limit → Decimal
row_right _ (Finite b) = b
row_right (Finite a) _ = a
row_right _ _ = minus_large

-- these lines are printed, and the second relation agrees with the first
pub record IsShaped (lower upper : Limit) : Type 0 where
  pub left : left_lines lower upper ≡ left_line (row_left lower upper)
  pub last : last_line lower upper ≡ right_line (row_relation lower upper) (row_right lower upper)
  pub fits : fits_left (left_of (row_left lower upper)) (row_relation lower upper) ≡ true

pub shaped : (lower upper : Limit) → IsShaped lower upper
shaped = grind arith

-- what a row of these terms declares
abbrev pub row_by : List ℕ → Limit → Limit → List Term → Declarations
row_by name lower upper terms = ended_by (partial name (row_left lower upper) terms) (row_relation lower upper)
    (limit_of (row_right lower upper))

-- terms that a row may have
abbrev pub IsRow : List Term → Type 0
IsRow [] = ⊥
IsRow (term ∷ terms) = Each IsTerm (term ∷ terms) × AreNew [] (term ∷ terms)

one-row : (seen : SectionsSeen) (all : Draft) (name : List ℕ) (n : ℕ) (left : Option Decimal) (relation : Relation)
    (right : Decimal) (term : Term) (terms : List Term) → Each IsTerm (term ∷ terms) → AreNew [] (term ∷ terms) →
    fits_left (left_of left) relation ≡ true →
    refusals_in_turn all (ended_by (partial name left (term ∷ terms)) relation (limit_of right)) ≡ []
    → Walks (point_at BetweenRows seen all) (all_terminals n ((label_line name ∷ (left_line left ++ term_line term ∷ []))
    ++ (map term_line terms ++ right_line relation right ∷ [])))
    (ended_by (partial name left (term ∷ terms)) relation (limit_of right))
    (point_at BetweenRows seen (with_declarations all
    (ended_by (partial name left (term ∷ terms)) relation (limit_of right))))
one-row seen all name n left relation right term terms good new fits h =
    let begin : Lines = label_line name ∷ (left_line left ++ term_line term ∷ []) in
    let more : Lines = map term_line terms in
    let last : Lines = right_line relation right ∷ [] in
    let made = ended_by (partial name left (term ∷ terms)) relation (limit_of right) in
    let between = point_at (InRow (partial name left (term ∷ []))) seen all in
    let whole = point_at (InRow (partial name left (term ∷ terms))) seen all in
    let after = point_at BetweenRows seen (with_declarations all made) in
    let k = number_after n begin in
    let j = number_after k more in subst (λ (tokens : List TerminalAt). Walks (point_at BetweenRows seen all) tokens made after)
    (sym (terminals-append n begin (more ++ last) ∙ ap (λ (tokens : List TerminalAt). all_terminals n begin ++ tokens)
    (terminals-append k more last))) (walks-then (point_at BetweenRows seen all) between after (all_terminals n begin)
    (all_terminals k more ++ all_terminals j last) [] made (begin-walk seen all name n left term good.0)
    (walks-then between whole after (all_terminals k more) (all_terminals j last) [] made
    (row-terms-walk seen all name left k (term ∷ []) terms good.1 new.1)
    (subst (λ (tokens : List TerminalAt). Walks whole tokens made after)
    (sym (append-nil (line_terminals_in j (right_line relation right))))
    (row-end-walk seen all (partial name left (term ∷ terms)) j relation right fits h))))

pub row-walk : (seen : SectionsSeen) (all : Draft) (name : List ℕ) (n : ℕ) (lower upper : Limit) (terms : List Term)
    → IsRow terms → refusals_in_turn all (row_by name lower upper terms) ≡ [] → Walks (point_at BetweenRows seen all)
    (all_terminals n (label_line name ∷ (left_lines lower upper ++ (map term_line terms ++ last_line lower upper ∷ []))))
    (row_by name lower upper terms) (point_at BetweenRows seen (with_declarations all (row_by name lower upper terms)))
row-walk _ _ _ n _ _ [] good h = absurd good
row-walk seen all name n lower upper (term ∷ terms) good h = let s = shaped lower upper in
    let made = row_by name lower upper (term ∷ terms) in subst (λ (lines : Lines). Walks (point_at BetweenRows seen all)
    (all_terminals n (label_line name ∷ lines)) made (point_at BetweenRows seen (with_declarations all made)))
    (append_assoc (left_line (row_left lower upper)) (term_line term ∷ [])
    (map term_line terms ++ right_line (row_relation lower upper) (row_right lower upper) ∷ [])
    ∙ sym (λ i. s.left i ++ (term_line term ∷ (map term_line terms ++ s.last i ∷ []))))
    (one-row seen all name n (row_left lower upper) (row_relation lower upper) (row_right lower upper) term
    terms good.0 good.1 s.fits h)

abbrev pub row_made : Listing → List ℕ × Row → Declarations
row_made m row = row_by row.0 row.1.lower row.1.upper (row_terms m row.0)

pub rows-walk : (m : Listing) (seen : SectionsSeen) (all : Draft) (n : ℕ) (rows : List (List ℕ × Row)) →
    Each (λ row. IsRow (row_terms m row.0)) rows → refusals_in_turn all (flat_map (row_made m) rows) ≡ [] →
    Walks (point_at BetweenRows seen all) (all_terminals n (flat_map (row_lines m) rows))
    (flat_map (row_made m) rows) (point_at BetweenRows seen (with_declarations all (flat_map (row_made m) rows)))
rows-walk m seen all n [] _ h = walks-none (point_at BetweenRows seen all)
rows-walk m seen all n (row ∷ rows) good h = let parts = parts-taken all (row_made m row) (flat_map (row_made m) rows) h in
    let k = number_after n (row_lines m row) in subst (λ (tokens : List TerminalAt). Walks (point_at BetweenRows seen all) tokens
    (flat_map (row_made m) (row ∷ rows)) (point_at BetweenRows seen (with_declarations all (flat_map (row_made m) (row ∷ rows)))))
    (sym (terminals-append n (row_lines m row) (flat_map (row_lines m) rows)))
    (parts-walk BetweenRows BetweenRows BetweenRows seen seen seen all (all_terminals n (row_lines m row))
    (all_terminals k (flat_map (row_lines m) rows)) (row_made m row) (flat_map (row_made m) rows)
    (row-walk seen all row.0 n row.1.lower row.1.upper (row_terms m row.0) good.0 parts.0)
    (rows-walk m seen (with_declarations all (row_made m row)) k rows good.1 parts.1))

-- ---- columns without a line declare nothing

no-line : (column : List ℕ) (lower upper : Limit) → line_of_some (bound_lexemes column lower upper) ≡ [] →
    bound_made column lower upper ≡ []
no-line = grind arith

both-none : {X : Type 0} (xs ys : List X) → xs ++ ys ≡ [] → (xs ≡ []) × (ys ≡ [])
both-none [] _ h = (refl, h)
both-none (x ∷ xs) ys h = cc

no-lines : (columns : List (List ℕ × Column)) → flat_map bound_lines columns ≡ [] → flat_map column_made columns ≡ []
no-lines [] h = refl
no-lines (column ∷ columns) h = let parts = both-none (bound_lines column) (flat_map bound_lines columns) h in
    λ i. no-line column.0 column.1.lower column.1.upper parts.0 i ++ no-lines columns parts.1 i

-- ---- what follows the rows

pub tail-ends : (all : Draft) (n : ℕ) (columns integers semis : List (List ℕ × Column)) → Each IsFitColumn columns
    → Each IsFitColumn integers → Each IsFitColumn semis → refusals_in_turn all (flat_map column_made columns ++ (flat_map
    general_made integers ++ flat_map semi_made semis)) ≡ [] →
    EndsWith (point_at BetweenRows in_rows all) (all_terminals n (under_heading
    (codes "Bounds") (flat_map bound_lines columns) ++ (under_heading (codes "Generals") (map name_line integers) ++ (under_semi_heading
    (map name_line semis) ++ ending))))
    (flat_map column_made columns ++ (flat_map general_made integers ++ flat_map semi_made semis))
tail-ends all n columns integers semis fit whole partly h = by (flat_map bound_lines columns) refl
  where
    generals : Lines
    generals = under_heading (codes "Generals") (map name_line integers) ++ (under_semi_heading (map name_line semis) ++ ending)

    kinds_made : Declarations
    kinds_made = flat_map general_made integers ++ flat_map semi_made semis

    with_bounds : SectionsSeen
    with_bounds = with_section in_rows sections.Bounds

    by : (lines : Lines) → flat_map bound_lines columns ≡ lines → EndsWith (point_at BetweenRows in_rows all)
        (all_terminals n (under_heading (codes "Bounds") lines ++ generals)) (flat_map column_made columns ++ kinds_made)
    by [] e = let none = no-lines columns e in subst (λ (made : Declarations). EndsWith (point_at BetweenRows in_rows all)
        (all_terminals n generals) (made ++ kinds_made)) (sym none) (generals-end BetweenRows in_rows all n integers
        semis whole partly refl refl (record { semis = refl; now = refl; later = refl })
        (record { semis = refl; now = refl; later = refl })
        (ap (λ (made : Declarations). refusals_in_turn all (made ++ kinds_made)) (sym none) ∙ h))
    by (line ∷ lines) e = let parts = parts-taken all (flat_map column_made columns) kinds_made h in
        let bounds = flat_map column_made columns in
        let k = number_after (n + 1) (line ∷ lines) in
        let inside = subst (λ (printed_lines : Lines). Walks (point_at (InBounds None) with_bounds all)
        (all_terminals (n + 1) printed_lines) bounds (point_at (InBounds None) with_bounds (with_declarations all bounds))) e
        (bounds-walk with_bounds all (n + 1) columns fit parts.0) in
        subst (λ (tokens : List TerminalAt). EndsWith (point_at BetweenRows in_rows all) tokens (bounds ++ kinds_made))
        (ap (λ (more : List TerminalAt). at n (Opens section_words.Bounds) ∷ more)
        (sym (terminals-append (n + 1) (line ∷ lines) generals)))
        (walk-ends BetweenRows (InBounds None) in_rows with_bounds all (at n (Opens section_words.Bounds) ∷ [])
        (all_terminals (n + 1) (line ∷ lines) ++ all_terminals k generals) [] (bounds ++ kinds_made)
        (bounds-section-walks BetweenRows in_rows all n refl refl)
        (walk-ends (InBounds None) (InBounds None) with_bounds with_bounds all
        (all_terminals (n + 1) (line ∷ lines)) (all_terminals k generals) bounds kinds_made
        inside (generals-end (InBounds None) with_bounds (with_declarations all bounds) k
        integers semis whole partly refl refl
        (record { semis = refl; now = refl; later = refl })
        (record { semis = refl; now = refl; later = refl }) parts.1)))

-- ---- the whole text

-- what the canonical text of these lists declares
abbrev pub listed_declarations : Listing → Declarations
listed_declarations m = objective_made m ++ (flat_map (row_made m) m.rows ++ (flat_map column_made m.columns
    ++ (flat_map general_made (filter is_integer_column m.columns) ++ flat_map semi_made (filter is_semi_column m.columns))))

pub text-ends : (m : Listing) → IsFit m → Each (λ row. IsRow (row_terms m row.0)) m.rows
    → refusals_in_turn empty_draft (listed_declarations m) ≡ [] →
    EndsWith start (all_terminals 1 (listed_lines m)) (listed_declarations m)
text-ends m fit good h = let rows : Lines = flat_map (row_lines m) m.rows in
    let integers = filter is_integer_column m.columns in
    let semis = filter is_semi_column m.columns in
    let tail : Lines = bounds_section m ++ (generals_section m ++ (semis_section m ++ ending)) in
    let begun = objective_made m in
    let made = flat_map (row_made m) m.rows in
    let later = flat_map column_made m.columns ++ (flat_map general_made integers ++ flat_map semi_made semis) in
    let parts = parts-taken empty_draft begun (made ++ later) h in
    let more = parts-taken (with_declarations empty_draft begun) made later parts.1 in
    let first : Lines = objective_section m ++ subject_heading ∷ [] in
    let k = number_after 1 first in
    let j = number_after k rows in
    let whole : Each IsFitColumn integers = Each-filter IsFitColumn is_integer_column m.columns
    (Each-weaker IsFitColumn (λ column. is_integer_column column ≡ true →
    IsFitColumn column) (λ column c _. c) m.columns fit.columns) in
    let partly : Each IsFitColumn semis = Each-filter IsFitColumn is_semi_column m.columns
    (Each-weaker IsFitColumn (λ column. is_semi_column column ≡ true →
    IsFitColumn column) (λ column c _. c) m.columns fit.columns) in
    subst (λ (tokens : List TerminalAt). EndsWith start tokens (listed_declarations m)) (sym (ap (all_terminals 1)
    (sym (append_assoc (objective_section m) (subject_heading ∷ []) (rows ++ tail))) ∙ terminals-append 1 first (rows ++ tail)
    ∙ ap (λ (tokens : List TerminalAt). all_terminals 1 first ++ tokens) (terminals-append k rows tail)))
    (walk-ends AtStart BetweenRows no_section_seen in_rows empty_draft (all_terminals 1 first)
    (all_terminals k rows ++ all_terminals j tail) begun (made ++ later) (objective-walk m fit parts.0)
    (walk-ends BetweenRows BetweenRows in_rows in_rows (with_declarations empty_draft begun) (all_terminals
    k rows) (all_terminals j tail) made later (rows-walk m in_rows (with_declarations empty_draft begun) k m.rows good more.0)
    (tail-ends (with_declarations (with_declarations empty_draft begun) made) j m.columns integers semis fit.columns
    whole partly more.1)))

-- ---- the outcome of the canonical text of a model, and what it declares, if none of that is rejected

-- what is needed of a model besides well-formedness and LP names
pub record IsPlainText (m : LinearModel) : Type 0 where
  -- each row is printed with terms, none of them twice
  pub rows : Each (λ row. IsRow (row_terms (listing_of m) row.0)) (listing_of m).rows
  -- nothing that is printed is rejected
  pub unrefused : refusals_in_turn empty_draft (listed_declarations (listing_of m)) ≡ []

pub canonical-outcome : (m : LinearModel) → IsSound m → unfit m ≡ None → IsPlainText m
    → outcome (canonical_lp m) ≡ Finished (with_declarations empty_draft (listed_declarations (listing_of m)))
canonical-outcome m sound fits h = ap (λ (o : Outcome Fault Draft). or_else o (first_own_fault (numbered_lines (canonical_lp m))))
    (ap text_says (canonical-terminals m sound fits)
    ∙ (text-ends (listing_of m) (fit-from_sound m sound fits) h.rows h.unrefused).says)

pub canonical-declarations : (m : LinearModel)
    → IsSound m → unfit m ≡ None → IsPlainText m → declarations_of (canonical_lp m) ≡ listed_declarations (listing_of m)
canonical-declarations m sound fits h =
    ap text_declares (canonical-terminals m sound fits)
    ∙ (text-ends (listing_of m) (fit-from_sound m sound fits) h.rows h.unrefused).makes

-- so the text declares the model, if the listed declarations mean it
pub canonical-declares_if : (m : LinearModel)
    → IsSound m → unfit m ≡ None → IsPlainText m → Means (listed_declarations (listing_of m)) m → DeclaresLp (canonical_lp m) m
canonical-declares_if m sound fits h means = record {
  text = ap is_finished (canonical-outcome m sound fits h);
  means = subst (λ (declared : Declarations). Means declared m) (sym (canonical-declarations m sound fits h)) means;
}
