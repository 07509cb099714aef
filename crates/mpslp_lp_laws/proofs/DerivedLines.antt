-- Each printed phrase declares what it was printed from, whatever is declared before.
use Rattle.mpslp_lp_laws.proofs.Prelude
use Prelude.{arith, rules, ◌≡◌, refl, sym, ap, subst, ◌∙◌, ℕ, ◌+◌, List, [], ◌∷◌, ◌++◌, Bool, true, false, Some, None, codes, if◌then◌else◌}
use Prelude.{first_so, second_so, append-nil, Number, is_zero, have_same_value, same_decimal, Each, are_sides, is_lower_side}
use Prelude.{is_upper_side, is_bounded_decimal, limit_of, Limit, MinusInf, Finite, PlusInf, Each-from_list_all}
use Prelude.{declare_column, declare_lower, declare_upper, bounds_declared, Declarations, draft_of, with_declarations}
use Prelude.{lower_of, upper_of, bounded_so, bounded_finite, phrases, made_by, TerminalAt, Point, start, phrase_at, objective_declared}
use Prelude.{term_declared, limits_by, AtLeast, EqualTo, BeforeItems, InObjective, BetweenRows, InBounds, PrintedLine, word}
use Prelude.{semi_continuous, Lines, Term, heading, label_line, sense_word, term_line, row_terms, row_lines, bound_lines}
use Prelude.{semi_heading, point_at, terminals_at, AreDerived, AreDerivedAt, is_legal_term, after_objective, EndsObjectiveFrom}
use Prelude.{DeriveObjectives, AreLegalTerms, DeriveRows, column_and_bounds, DeriveBounds, DeriveAllKinds, end_heading}
use Prelude.{DeriveAllHeadings}
use Rattle.mpslp_decimal.proofs.CutLemmas.{Each-weaker}
use Rattle.mpslp_lp_laws.proofs.{LineLemmas.{line-terminals, all-faultless, line_terminals_in, line-seen}}
use Rattle.mpslp_lp_laws.proofs.LineLemmas.{all_terminals, AllPrintable, IsTerm, code-word, a-line, good-name, sense-good}
use Rattle.mpslp_lp_laws.proofs.LineLemmas.{heading-printable, label-printable, term-printable, constant-printable, subject-printable}
use Rattle.mpslp_lp_laws.proofs.{LineLemmas.{sides-decimal, bound-printable, row-printable, in-turn}, PhraseWalk.{Walks, column_and}}
use Rattle.mpslp_lp_laws.proofs.PhraseWalk.{bounds-section-walks, end-says}
use Rattle.mpslp_lp_laws.proofs.PhraseWalk.{end-makes, begin-terminals, items_at, one-term, constant-walk, bound_made, column-walk}
use Rattle.mpslp_lp_laws.proofs.{PhraseWalk.{one-general, one-semi}, TextWalk.{row_by, IsRow, row-walk}, ListedMeaning.limits-back}

-- ---- the tokens are those of the texts of the lines

printed-terminals : (n : ℕ) (lines : Lines) → AllPrintable lines → terminals_at n lines ≡ all_terminals n lines
printed-terminals n [] h = refl
printed-terminals n (line ∷ lines) h =
    λ i. (line-terminals n line h.0.each ∙ line-seen n line h.0.each) i ++ printed-terminals (n + 1) lines h.1 i

derive : (from to : Point) (n : ℕ) (lines : Lines) (made : Declarations)
    → AllPrintable lines → Walks from (all_terminals n lines) made to → AreDerived from n lines made to
derive = grind (arith, printed-terminals, all-faultless)

one-line : (from to : Point) (n : ℕ) (line : PrintedLine) (made : Declarations)
    → Walks from (line_terminals_in n line) made to → Walks from (all_terminals n (line ∷ [])) made to
one-line from to n line made walk =
    subst (λ (tokens : List TerminalAt). Walks from tokens made to) (sym (append-nil (line_terminals_in n line))) walk

-- ---- the objective

legal-term : (term : Term) → is_legal_term term ≡ true → IsTerm term
legal-term term h = (good-name term.0 (first_so _ _ h), second_so _ _ h)

-- before the first item, or after one
objective-term : (started : Bool) (name : List ℕ) (term : Term)
    → is_legal_term term ≡ true → AreDerivedAt (items_at name started) (term_line term ∷ []) (term_declared name term)
    (InObjective name)
objective-term started name term legal n seen earlier h = let good = legal-term term legal in
    let from = point_at (items_at name started) seen earlier in
    let to = point_at (InObjective name) seen (with_declarations earlier (term_declared name term)) in
    derive from to n (term_line term ∷ []) (term_declared name term) (term-printable term good, tt)
    (one-line from to n (term_line term) (term_declared name term) (one-term started seen earlier name n term good h))

objective-end : (started : Bool) (name : List ℕ) → EndsObjectiveFrom (items_at name started)
objective-end = search (rules, derive, in-turn, constant-printable, subject-printable, constant-walk)

pub objectives-derived : DeriveObjectives
objectives-derived name legal = record {
  begin = λ n sense. let lines : Lines = heading (sense_word sense ∷ []) ∷ label_line name ∷ [] in
      let to = point_at (BeforeItems name) after_objective (draft_of (objective_declared sense name)) in
      derive start to n lines (objective_declared sense name)
      (heading-printable (sense_word sense) (sense-good sense), (label-printable name (good-name name legal), tt))
      (subst (λ (tokens : List TerminalAt). Walks start tokens (objective_declared sense name) to)
      (sym (begin-terminals n sense name)) (grind arith));
  first = objective-term false name;
  later = objective-term true name;
  end = objective-end true name;
  end_without_terms = objective-end false name;
}

-- ---- rows

some-terms : (terms : List Term) → AreLegalTerms terms → Each IsTerm terms
some-terms terms h = Each-weaker (λ term. is_legal_term term ≡ true) IsTerm legal-term terms
    (Each-from_list_all is_legal_term terms h.legal)

are-row : (terms : List Term) → AreLegalTerms terms → IsRow terms
are-row [] h = absurd (cc)
are-row (term ∷ terms) h = (some-terms (term ∷ terms) h, h.new)

pub rows-derived : DeriveRows
rows-derived m row legal sides terms =
    subst (λ (made : Declarations). AreDerivedAt BetweenRows (row_lines m row) made BetweenRows) (grind
    (arith, limits-back)) (λ n seen earlier h. derive _ _ n (row_lines m row)
    (row_by row.0 row.1.lower row.1.upper (row_terms m row.0))
    (row-printable m row (record {
      name = good-name row.0 legal;
      limits =
          sides-decimal row.1.lower row.1.upper sides;
    }) (some-terms (row_terms m row.0) terms))
    (row-walk seen earlier row.0 n row.1.lower row.1.upper (row_terms m row.0) (are-row (row_terms m row.0)
    terms) h))

-- ---- bounds and types of columns

bounds-said : (column : List ℕ) (lower upper : Limit) → are_sides lower upper ≡ true
    → bound_made column lower upper ≡ column_and_bounds column lower upper
bounds-said column lower upper h = by lower upper (lower_of lower upper h) (upper_of lower upper h)
  where
    between : (a b : Number) → is_bounded_decimal a ≡ true → is_bounded_decimal b ≡ true → (same : Bool)
        → have_same_value a b ≡ same → (if same then column_and column (limits_by EqualTo (limit_of b)) else column_and column
        (limits_by AtLeast (limit_of a)) ++ bounds_declared column None (Some (limit_of b)))
        ≡ declare_column column ∷ declare_lower column (Finite a) ∷ declare_upper column (Finite b) ∷ []
    between a b p q true e = grind
        (arith, bounded_finite b q, same_decimal a b (bounded_so a p) (bounded_so b q) e, bounded_so a p, bounded_so b q)
    between a b p q false e = λ i. declare_column column ∷ declare_lower column (bounded_finite a p i) ∷ declare_upper
        column (bounded_finite b q i) ∷ []

    by : (l u : Limit) → is_lower_side l ≡ true → is_upper_side u ≡ true → bound_made column l u ≡ column_and_bounds column l u
    by MinusInf (Finite b) p q = λ i. declare_column column ∷ declare_lower column MinusInf ∷ declare_upper column
        (bounded_finite b q i) ∷ []
    by MinusInf PlusInf p q = refl
    by (Finite a) (Finite b) p q = between a b p q (have_same_value a b) refl
    by (Finite a) PlusInf p q = ap (λ (l : Limit). if is_zero a then [] else declare_column column ∷ declare_lower
        column l ∷ []) (bounded_finite a p)
    by MinusInf MinusInf p q = absurd (cc)
    by (Finite a) MinusInf p q = absurd (cc)
    by PlusInf u p q = absurd (cc)

pub bounds-derived : DeriveBounds
bounds-derived column legal sides =
    let l = column.1.lower in
    let u = column.1.upper in
    let name = good-name column.0 legal in
    subst (λ (made : Declarations). AreDerivedAt (InBounds None) (bound_lines column) made (InBounds None))
    (bounds-said column.0 l u sides) (λ n seen earlier h. derive _ _ n (bound_lines column) (bound_made column.0 l u)
    (bound-printable column.0 l u name.word_is (sides-decimal l u sides)) (column-walk seen earlier n column.0 l u name h))

pub kinds-derived : DeriveAllKinds
kinds-derived column legal = search
    (rules, derive, one-line, one-general, one-semi, good-name column.0 legal, a-line 1 (word column.0 ∷ []) refl refl)

-- ---- headings

pub headings-derived : DeriveAllHeadings
headings-derived place seen earlier n may = let from = point_at place seen earlier in record {
  bounds = λ fault. derive _ _ n
      (heading (codes "Bounds" ∷ []) ∷ []) [] (heading-printable (codes "Bounds") (code-word (codes "Bounds") refl refl refl), tt)
      (bounds-section-walks place seen earlier n may fault);
  generals = λ fault. derive _ _ n
      (heading (codes "Generals" ∷ []) ∷ []) [] (heading-printable (codes "Generals") (code-word (codes "Generals") refl refl refl), tt)
      (grind arith);
  semis = λ fault. derive _ _ n
      (semi_heading ∷ []) [] (a-line 0 (semi_continuous ∷ []) refl refl (tt, tt), tt) (grind arith);
  end_faultless = all-faultless end_heading end;
  end_says = λ fault. ap (λ (tokens : List TerminalAt). phrases phrase_at from 0 tokens) (printed-terminals n end_heading end)
      ∙ end-says place seen earlier n may fault;
  end_makes = λ fault. ap (λ (tokens : List TerminalAt). made_by phrase_at from 0 tokens) (printed-terminals n end_heading end)
      ∙ end-makes place seen earlier n may fault;
}
  where
    end : AllPrintable end_heading
    end = (heading-printable (codes "End") (code-word (codes "End") refl refl refl), tt)
