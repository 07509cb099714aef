-- Lines whose phrases are plain: the code that takes them declares what the grammar does.
use Rattle.mpslp_lp.proofs.Prelude
use Prelude.{◌≡◌, refl, sym, ap, ◌∙◌, List, [], ◌∷◌, map, Option, Some, None, Err, cons_option, least_kind, FaultKind, LineError}
use Prelude.{OutOfMemory, Token, as_terminal, token_fault, Context, State, AfterToken, Goes, Refuses, step, take_all, token_faults}
use Prelude.{take_tokens, TakesToken, error_before, lower_ranked_of, IsLeastError, subst, ℕ, inl, inr, Result, Ok, codes, none-some}
use Prelude.{value_of, number_fault, Decimal, SignOf, one, apply_sign, PartialRow, Terminal, Sign, Number, Name, AddsTerm, Begins}
use Prelude.{BeginsWithNumber, IsPlainTerm, LeadsTo, end_term, InRow, InObjective, OfRow, OfObjective, Between, Signs, ItemNumber}
use Prelude.{RowLabel, RowSign, RowNumber, without_terms, ◌≤◌, arith, length, true, false, Limit, declare_column, Plus, Relation}
use Prelude.{BetweenRows, InBounds, SideOfRow, SideOfBound, BoundName, BoundSign, BoundLeft, BoundLeftRelation, AtSide, SideSign, Compares}
use Prelude.{Free, Colon, limit_of_terminal, terminal_fault, limits_by, flip, fits_second, fits_left, no_limits, step_at_side_value, end_side}
use Prelude.{end_bound, listed_at, kind_declared, name_taken, BeginsWithSide, BeginsWithRight, TakesSome, MatchResult, BeginsWithColumn}
use Prelude.{BeginsWithTerm, row_of_term, rules}
use Rattle.mpslp_decimal.specs.Decimal.{trailing_zeros}
use Rattle.mpslp_lines.proofs.LeastLemmas.{least-append}
use Rattle.mpslp_lp_grammar.{proofs.TokenAnswers.{one-parsed}, specs.declared.states.{ListSection.{ListSection}, SideOwner.{SideOwner}}}

-- ---- tokens of a line, taken one after another, with the least of their lexical errors

-- ---- the least error, from the left

-- of the first two kinds, the lesser decides
pub least-two : (a b : FaultKind) (more : List FaultKind) →
    least_kind (a ∷ b ∷ more) ≡ least_kind (lower_ranked_of (Some a) b ∷ more)
least-two a b _ = least-append (a ∷ b ∷ []) _ ∙ sym (least-append (lower_ranked_of (Some a) b ∷ []) _)

pub least-next : (o : Option FaultKind) (b : FaultKind) (more : List FaultKind) →
    least_kind (cons_option o (b ∷ more)) ≡ least_kind (lower_ranked_of o b ∷ more)
least-next = grind (arith, least-two)

-- ---- one more token

-- a token with a lexical error
pub tokens-own : (context after : Context) (state : State) (token : Token) (more : List Token) (kind : FaultKind)
    (error : LineError) → token_fault token.kind token.text ≡ Some kind
    → IsLeastError (kind ∷ token_faults more) error → TakesToken (take_tokens context state (token ∷ more)) (Err error) after
tokens-own = grind arith

-- a token without a lexical error that causes another error
pub tokens-refused : (context after : Context) (state : State) (token : Token) (more : List Token) (error : LineError)
    → token_fault token.kind token.text ≡ None → TakesToken (step context state (as_terminal token)) (Err error) after
    → TakesToken (take_tokens context state (token ∷ more)) (Err (error_before (token_faults more) error)) after
tokens-refused = grind arith

-- ---- taking a sign, an optional number and a name as a whole is the same as taking them one after another

-- a terminal that is accepted
pub one-step : (context after : Context) (state next : State) (found more : List Token) (terminal : Terminal) →
    Begins found terminal more → step context state terminal ≡ Goes after next →
    take_tokens context state found ≡ take_tokens after next more
one-step = grind arith

-- a number without an error is a terminal
as-begins : (found more : List Token) (literal : List ℕ)
    → BeginsWithNumber found literal more → number_fault literal ≡ None → Begins found (Number (value_of literal)) more
as-begins = grind arith

one-value : one ≡ value_of (codes "1")
one-value = grind (arith, one-parsed)

one-sound : None ≡ number_fault (codes "1")
unfolding trailing_zeros
one-sound = refl

-- the state before the name of a term
record BeforeName (context : Context) (start : State) (found following : List Token) (column : List ℕ)
    (result : AfterToken) : Type 0 where
  state : State
  comes : take_tokens context start found ≡ take_tokens context state following
  takes : step context state (Name column) ≡ result

module _ (context : Context) (start : State) (taken : Decimal → AfterToken) (found more : List Token) (sign : SignOf)
    (literal column : List ℕ) (p : IsPlainTerm found sign literal column more)
    (way : LeadsTo context start sign column taken) where
  -- up to the number, and up to the name
  after-sign : take_tokens context start found ≡ take_tokens context way.signs p.after_sign
  after-sign = grind arith

  context-name : number_fault literal ≡ None →
      BeforeName context start found p.term.after_number column (taken (apply_sign sign (value_of literal)))
  context-name none = elim p.term.number [
    | inl number ↦ record {
      state = way.numbered _;
      comes = after-sign
          ∙ one-step _ _ _ _ _ _ _
          (as-begins _ _ _ number none) (way.to_number _);
      takes = way.to_name _;
    }
    | inr unnumbered ↦ record {
      state = way.signs;
      comes = after-sign ∙ ap (take_tokens context way.signs) (sym unnumbered.1);
      takes = way.unnumbered ∙ ap (λ v. taken (apply_sign sign v)) (one-value ∙ ap value_of (sym unnumbered.0));
    }
  ]

  -- a term that is accepted
  pub plain-goes : (after : Context) (next : State) → number_fault literal ≡ None
      → taken (apply_sign sign (value_of literal)) ≡ Goes after next →
      take_tokens after next more ≡ take_tokens context start found
  plain-goes = grind (arith, context-name, one-step)

  -- a term with an error
  pub plain-refused : (after : Context) (error : LineError) → number_fault literal ≡ None →
      TakesToken (taken (apply_sign sign (value_of literal))) (Err error) after →
      TakesToken (take_tokens context start found) (Err (error_before (token_faults more) error)) after
  plain-refused = grind (arith, context-name, tokens-refused)

  -- a number with an error
  pub plain-number : (after : Context) (kind : FaultKind) (error : LineError) → number_fault literal ≡ Some kind
      → IsLeastError (kind ∷ token_faults more) error → TakesToken (take_tokens context start found) (Err error) after
  plain-number after kind error some least = elim p.term.number [
    | inl number ↦
        let same =
        ap token_faults p.term.name.tokens ∙ ap (λ o. cons_option o (token_faults more)) p.term.name.sound in
        subst (λ t. TakesToken t (Err error) after) (sym (after-sign ∙ ap (take_tokens context way.signs) number.tokens))
        (tokens-own context after way.signs number.token p.term.after_number _ _
        ((λ i. token_fault (number.kind i) (number.text i)) ∙ some)
        (subst (λ faults. IsLeastError (kind ∷ faults) error) (sym same) least))
    | inr unnumbered ↦ absurd (none-some _ (one-sound ∙ ap number_fault (sym unnumbered.0) ∙ some))
  ]

-- ---- from where terms are taken

pub in-row : (context : Context) (row : PartialRow) (sign : SignOf) (column : List ℕ)
    → LeadsTo context (Between (InRow row)) sign column (λ value. end_term context (OfRow row) column value (Name column))
in-row context row sign column = record {
  signs = Signs (OfRow row) sign;
  numbered = λ value. ItemNumber (OfRow row) sign value;
  to_signs = refl;
  to_number = λ value. refl;
  to_name = λ value. refl;
  unnumbered = refl;
}

pub after-label : (context : Context) (name : List ℕ) (sign : SignOf) (column : List ℕ)
    → LeadsTo context (RowLabel name) sign column (λ value. end_term context (OfRow (without_terms name None)) column
    value (Name column))
after-label context name sign column = record {
  signs = RowSign name sign;
  numbered = λ value. RowNumber name sign value;
  to_signs = refl;
  to_number = λ value. refl;
  to_name = λ value. refl;
  unnumbered = refl;
}

pub in-objective : (context : Context) (objective : List ℕ) (sign : SignOf) (column : List ℕ) → LeadsTo context
    (Between (InObjective objective)) sign column (λ value. end_term context (OfObjective objective) column value (Name column))
in-objective context objective sign column = record {
  signs = Signs (OfObjective objective) sign;
  numbered = λ value. ItemNumber (OfObjective objective) sign value;
  to_signs = refl;
  to_number = λ value. refl;
  to_name = λ value. refl;
  unnumbered = refl;
}

-- ---- a term of a row

-- a column that is new in the row, and one that has a term in the row
pub row-taken : (context : Context) (row longer : PartialRow) (column : List ℕ) (value : Decimal) →
    AddsTerm row column value (Ok longer) →
    end_term context (OfRow row) column value (Name column) ≡ Goes context (Between (InRow longer))
row-taken = grind arith

pub row-refused : (context : Context) (row : PartialRow) (column : List ℕ) (value : Decimal) (error : LineError)
    → AddsTerm row column value (Err error) →
    TakesToken (end_term context (OfRow row) column value (Name column)) (Err error) context
row-refused = grind arith

-- ---- taking a phrase as a whole is the same as taking its tokens one after another

pub begins-fewer : (found more : List Token) (terminal : Terminal) → Begins found terminal more → length more ≤ length found
begins-fewer = grind arith

-- ---- the last token of a phrase

-- the state before the last token, and what this token does
pub record BeforeLast (context : Context) (start : State) (found more : List Token) (taken : Terminal → AfterToken) : Type 0 where
  pub state : State
  pub rest : List Token
  pub terminal : Terminal
  pub begins : Begins rest terminal more
  pub comes : take_tokens context start found ≡ take_tokens context state rest
  pub fewer : length rest ≤ length found
  pub unopened : terminal_fault context terminal ≡ None
  pub takes : step context state terminal ≡ taken terminal

module _ (context : Context) (start : State) (found more : List Token) (taken : Terminal →
    AfterToken) (last : BeforeLast context start found more taken) where
  -- a phrase that is accepted
  pub phrase-goes : (after : Context) (next : State) → ((terminal : Terminal) → terminal_fault context terminal ≡ None
      → TakesToken (taken terminal) (Ok next) after) → TakesSome context start found (Ok more) after next
  phrase-goes = grind arith

  -- a phrase with an error
  pub phrase-refused : (after : Context) (next : State) (error stated : LineError)
      → ((terminal : Terminal) → terminal_fault context terminal ≡ None → TakesToken (taken terminal) (Err error) after)
      → stated ≡ error_before (token_faults more) error → TakesSome context start found (Err stated) after next
  phrase-refused = grind arith

-- after some tokens, the others
pub some-after : (context between after : Context) (start middle next : State)
    (found rest : List Token) (result : Result (List Token) LineError) →
    take_tokens between middle rest ≡ take_tokens context start found → length rest ≤ length found →
    TakesSome between middle rest result after next → TakesSome context start found result after next
some-after = grind arith

-- one token before others
pub some-after-one : (context after : Context) (start middle next : State) (found rest : List Token) (terminal : Terminal)
    (result : Result (List Token) LineError) → Begins found terminal rest → step context start terminal ≡ Goes context middle
    → TakesSome context middle rest result after next → TakesSome context start found result after next
some-after-one = search (rules, some-after, one-step, begins-fewer)

-- ---- sides

-- what a number or an infinity does where a limit is taken
record LimitOf (context : Context) (sign : SignOf) (terminal : Terminal) (limit : Limit) : Type 0 where
  unopened : terminal_fault context terminal ≡ None
  takes : (goes : Limit → AfterToken) → step_at_side_value goes context sign terminal ≡ goes limit

limit-of : (context : Context) (sign : SignOf) (terminal : Terminal) (limit : Limit)
    → limit_of_terminal sign terminal ≡ Some limit → LimitOf context sign terminal limit
limit-of = grind arith

-- a state in which a limit begins, and what is taken for the limit
record TakesLimit (context : Context) (start : State) (taken : Limit → Terminal → AfterToken) : Type 0 where
  signed : SignOf → State
  to_signed : (sign : SignOf) → step context start (Sign sign) ≡ Goes context (signed sign)
  after_sign : (sign : SignOf) (terminal : Terminal) →
      step context (signed sign) terminal ≡ step_at_side_value (λ limit. taken limit terminal) context sign terminal
  unsigned : (terminal : Terminal) (limit : Limit) → limit_of_terminal Plus terminal ≡ Some limit →
      step context start terminal ≡ taken limit terminal

side-last : (context : Context) (start : State) (taken : Limit → Terminal → AfterToken) (found more : List Token) (limit : Limit)
    → TakesLimit context start taken → BeginsWithSide found limit more → BeforeLast context start found more (taken limit)
side-last context start taken found more limit way side =
    let ends = side.ends in
    elim side.signed as (λ _. BeforeLast context start found more (taken _)) [
      | inl sign ↦ record {
        state = way.signed _;
        rest = side.after_sign;
        terminal = ends.terminal;
        begins = ends.begins;
        comes = one-step _ _ _ _ _ _ _ sign (way.to_signed _);
        fewer = begins-fewer _ _ _ sign;
        unopened = (limit-of context _ _ _ ends.gives).unopened;
        takes = way.after_sign _ _ ∙ (limit-of context _ _ _ ends.gives).takes (λ given. taken given ends.terminal);
      }
      | inr unsigned ↦ record {
        state = start;
        rest = side.after_sign;
        terminal = ends.terminal;
        begins = ends.begins;
        comes = ap (take_tokens context start) (sym unsigned.1);
        fewer = let same = ap length unsigned.1 in omega (arith, same);
        unopened = (limit-of context _ _ _ ends.gives).unopened;
        takes = way.unsigned _ _ (subst (λ sign. limit_of_terminal sign ends.terminal ≡ Some limit) unsigned.0 ends.gives);
      }
    ]

at-side : (context : Context) (sided : SideOwner) → TakesLimit context (AtSide sided) (end_side context sided)
at-side context sided =
    record { signed = SideSign sided; to_signed = λ sign. refl; after_sign = λ sign terminal. refl; unsigned = unsigned_side }
  where
    unsigned_side : (terminal : Terminal) (limit : Limit)
        → limit_of_terminal Plus terminal ≡ Some limit →
        step context (AtSide sided) terminal ≡ end_side context sided limit terminal
    unsigned_side = grind arith

in-bounds : (context : Context) (before : Option (List ℕ × Relation))
    → TakesLimit context (Between (InBounds before)) (λ limit terminal. Goes context (BoundLeft limit))
in-bounds context before =
    record { signed = BoundSign; to_signed = λ sign. refl; after_sign = λ sign terminal. refl; unsigned = unsigned_left }
  where
    unsigned_left : (terminal : Terminal) (limit : Limit)
        → limit_of_terminal Plus terminal ≡ Some limit →
        step context (Between (InBounds before)) terminal ≡ Goes context (BoundLeft limit)
    unsigned_left = grind arith

-- a relation and the side after it
pub right-last : (context : Context) (start : State) (sided : SideOwner) (found more : List Token) (relation : Relation)
    (limit : Limit) → step context start (Compares relation) ≡ Goes context (AtSide sided)
    → BeginsWithRight found relation limit more → BeforeLast context start found more (end_side context sided limit)
right-last context start sided found more relation limit goes right = let side = side-last _ _ _ _ _ _ (at-side _ _) right.side in
    let shorter = begins-fewer _ _ _ right.compares in record {
      state = side.state;
      rest = side.rest;
      terminal = side.terminal;
      begins = side.begins;
      comes = one-step _ _ _ _ _ _ _ right.compares goes ∙ side.comes;
      fewer = omega (arith, shorter, side.fewer);
      unopened = side.unopened;
      takes = side.takes;
    }

-- the relation before the right-hand side of a row, and before the second side of a bound
pub row-compared : (context : Context) (row : PartialRow) (relation : Relation) → fits_left row.left relation ≡ true
    → step context (Between (InRow row)) (Compares relation) ≡ Goes context (AtSide (SideOfRow row relation))
row-compared = grind arith

pub bound-compared : (context : Context) (column : List ℕ) (first second : Relation) → fits_second first second ≡ true
    → step context (Between (InBounds (Some (column, first)))) (Compares second) ≡ Goes context
    (AtSide (SideOfBound false column second))
bound-compared = grind arith

-- ---- bounds

-- a limit, a relation and the name of a column
pub left-last : (context : Context) (before : Option (List ℕ × Relation))
    (found after_limit after_relation more : List Token) (limit : Limit) (relation : Relation) (column : List ℕ)
    → BeginsWithSide found limit after_limit → Begins after_limit (Compares relation) after_relation
    → Begins after_relation (Name column) more →
    BeforeLast context (Between (InBounds before)) found more
    (λ terminal. end_bound context (declare_column column ∷ []) column (limits_by (flip relation) limit)
    terminal (InBounds (Some (column, relation))))
left-last context before found after_limit after_relation more limit relation column side compares name =
    let start = Between (InBounds before) in
    let at_left = phrase-goes _ _ _ _ _
    (side-last context start (λ given terminal. Goes context (BoundLeft given)) found after_limit limit
    (in-bounds context before) side) _
    (BoundLeft limit) (λ terminal unopened. refl) in
    let shorter = begins-fewer _ _ _ compares in record {
      state = BoundLeftRelation limit relation;
      rest = after_relation;
      terminal = Name column;
      begins = name;
      comes = sym at_left.0 ∙ one-step _ _ _ _ _ _ _ compares refl;
      fewer = omega (arith, shorter, at_left.1);
      unopened = refl;
      takes = refl;
    }

-- a column and `free`
pub free-last : (context : Context) (before : Option (List ℕ × Relation)) (found after_name more : List Token) (column : List ℕ)
    → Begins found (Name column) after_name → Begins after_name Free more →
    BeforeLast context (Between (InBounds before)) found more
    (λ terminal. end_bound context (declare_column column ∷ []) column no_limits Free (InBounds None))
free-last _ _ _ after_name _ _ name free = record {
  state = BoundName _;
  rest = after_name;
  terminal = Free;
  begins = free;
  comes = one-step _ _ _ _ _ _ _ name refl;
  fewer = begins-fewer _ _ _ name;
  unopened = refl;
  takes = refl;
}

-- ---- names that a section lists

pub name-last : (context : Context) (section : ListSection) (found more : List Token) (column : List ℕ)
    → Begins found (Name column) more → BeforeLast context
    (Between (listed_at section)) found more (λ terminal. name_taken (listed_at section) (kind_declared section) context
    (Name column))
name-last context section found more column name = record {
  state = Between _;
  rest = found;
  terminal = Name _;
  begins = name;
  comes = refl;
  fewer = omega arith;
  unopened = refl;
  takes = by _;
}
  where
    by : (s : ListSection) → step context (Between (listed_at s)) (Name column) ≡ name_taken (listed_at s)
        (kind_declared s) context (Name column)
    by = grind arith

-- ---- the label of a row

pub label-taken : (context : Context) (found after_name more : List Token) (label : List ℕ) → Begins found (Name label) after_name
    → Begins after_name Colon more → TakesSome context (Between BetweenRows) found (Ok more) context (RowLabel label)
label-taken = grind arith

-- ---- taking the start of a row as a whole is the same as taking its tokens one after another

-- ---- two states in which the first token does the same

-- the effect of tokens, given that of the first one
abbrev after_first : Token → List Token → AfterToken → AfterToken
after_first token more first = elim (least_kind (token_faults (token ∷ more))) [
  | Some kind ↦ Refuses kind
  | None ↦ elim first [
    | Goes after next ↦ take_all after next (map as_terminal more)
    | Refuses kind ↦ Refuses kind
  ]
]

pub same-first : (context : Context) (one other : State) (found more : List Token) (terminal : Terminal) →
    Begins found terminal more → step context one terminal ≡ step context other terminal →
    take_tokens context one found ≡ take_tokens context other found
same-first = grind arith

pub same-start : (context after : Context) (one other next : State) (found : List Token) (result : Result (List Token) LineError)
    → take_tokens context one found ≡ take_tokens context other found
    → TakesSome context other found result after next → TakesSome context one found result after next
same-start = grind arith

-- ---- the first term of a row

-- after the sign, or where there is none
from-sign : (context : Context) (name : List ℕ) (sign : SignOf) (start : State) (found more : List Token)
    (size : Decimal) (column : List ℕ) → BeginsWithColumn found size column more →
    ((value : Decimal) → step context start (Number value) ≡ Goes context (RowNumber name sign value)) →
    step context start (Name column) ≡ end_term context (OfRow (without_terms name None)) column
    (apply_sign sign one) (Name column) →
    take_tokens context start found ≡ take_tokens context
    (Between (InRow (row_of_term name column (apply_sign sign size)))) more
from-sign context name sign start _ more _ column begins to_number to_name = elim begins.number [
  | inl number ↦
      one-step _ _ _ _ _ _ _ number (to_number _)
      ∙ one-step _ _ _ _ _ _ _ begins.name refl
  | inr unnumbered ↦
      ap (take_tokens context start) (sym unnumbered.1)
      ∙ one-step _ _ _ _ _ _ _ begins.name to_name
      ∙ ap (λ value. take_tokens context (Between (InRow (row_of_term name column (apply_sign sign value)))) more)
      (sym unnumbered.0)
]

column-fewer : (found more : List Token) (size : Decimal) (column : List ℕ) → BeginsWithColumn found size column more →
    length more ≤ length found
column-fewer = grind arith

pub first-taken : (context : Context) (name : List ℕ) (found more : List Token) (value : Decimal) (column : List ℕ) →
    BeginsWithTerm found value column more →
    TakesSome context (RowLabel name) found (Ok more) context (Between (InRow (row_of_term name column value)))
first-taken context name found more value column begins =
    let reached = λ (given : Decimal). take_tokens context (Between (InRow (row_of_term name column given))) more in
    let fewer = column-fewer _ _ _ _ begins.term in
    elim begins.signed as (λ _. TakesSome context (RowLabel name) found (Ok more) context
    (Between (InRow (row_of_term name column value)))) [
      | inl sign ↦ let shorter = begins-fewer _ _ _ sign in (
        sym (one-step _ _ _ _ _ _ _ sign refl ∙ from-sign _ _ _ _ _ _ _ _ begins.term (λ given. refl) refl
            ∙ ap reached (sym begins.gives)),
        omega (arith, fewer, shorter),
      )
      | inr unsigned ↦ let same = ap length unsigned.1 in (
        sym (ap (take_tokens context (RowLabel name)) (sym unsigned.1) ∙ from-sign _ _ _ _ _ _ _ _ begins.term
            (λ given. refl) refl ∙ ap reached
            (sym (begins.gives ∙ ap (λ sign. apply_sign sign begins.size) unsigned.0))),
        omega (arith, fewer, same),
      )
    ]

-- ---- the row that it begins

-- a row without terms has no term of the column
pub only-term : (name column : List ℕ) (value : Decimal) (result : Result PartialRow LineError) →
    AddsTerm (without_terms name None) column value result →
    MatchResult result (λ row. row ≡ row_of_term name column value) (λ error. error ≡ OutOfMemory)
only-term = grind arith

-- a row, and the context that is unchanged
pub row-and-context : (context after : Context) (row : PartialRow) (result : Result PartialRow LineError)
    → after ≡ context → MatchResult result (λ made. made ≡ row) (λ error. error ≡ OutOfMemory)
    → MatchResult result (λ made. (made ≡ row) × (after ≡ context)) (λ error. error ≡ OutOfMemory)
row-and-context = grind arith
