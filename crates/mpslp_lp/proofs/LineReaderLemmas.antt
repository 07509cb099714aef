-- The reader of lines: its loop, what it has read, and its outcome.
use Rattle.mpslp_lp.proofs.Prelude
use Prelude.{◌≡◌, ◌≤◌, refl, ap, ◌∙◌, ℕ, ◌+◌, ◌-◌, ◌^◌, min, List, [], ◌∷◌, ◌++◌, Bool, true, false, arith, None, enumerate_from, Draft}
use Prelude.{FaultKind, fault_on_line, Outcome, Finished, Refused, Open, Context, State, AfterEnd, AfterToken, Goes, Refuses, take_line}
use Prelude.{read_from, is_at_end, sym, subst, Result, Ok, Err, LinearModel, model_of, Finishes, ReadFault, ReadsLp, outcome, DeclaresLp}
use Prelude.{◌<◌, map, Option, Some, lines, Token, tokens, Terminal, TerminalAt, terminal_of, line_terminals, lexical_fault}
use Prelude.{as_terminal, terminals, start, AtStart, Between, says_after, take_all, numbered_lines, sound_terminals, first_own_fault}
use Prelude.{or_else, append-nil, append_assoc, is_some, whole_fault, LineTooLong, MissingEnd, has_legal_length, LineError, first_lp_fault}
use Prelude.{TakesToken, lines_outcome, IsFaultOfLines, LedTo, HasRead, FaultStaysWhenLinesFollow}
use Rattle.mpslp_types.specs.declared.faults.{Fault.Fault, ReadFault.TheVariants.{File, Failed, OutOfMemory}}
use Rattle.mpslp_lines.specs.{LineAnswer.IsFaultOn, LinesRead.RefusesLines}
use Rattle.mpslp_lp_grammar.{proofs.TakingLemmas.{take-says, nothing-says}, specs.TokenByToken.says}
use Rattle.mpslp_lp.{proofs.ModelOrFault.{whole-draft, declares-from_whole, named-at_end}, specs.declared.line_reader.LineReader.LineReader}

-- ---- lines read one after another: the outcome depends on the lines that are left

abbrev pub last_number : ℕ
last_number = 2 ^ 64 - 1

-- the effect of a line, and then the lines after it
abbrev after_line : ℕ → AfterToken → List (ℕ × List ℕ) → Outcome Fault Draft
after_line n taken more = elim taken as (λ _. Outcome Fault Draft)
    [ Goes after next ↦ read_from after next more | Refuses kind ↦ Refused (fault_on_line n kind) ]

line-read : (n : ℕ) (context : Context) (state : State) (line : List ℕ) (more : List (List ℕ)) → is_at_end state ≡ false
    → read_from context state (enumerate_from n (line ∷ more)) ≡ after_line n (take_line context state line)
    (enumerate_from (n + 1) more)
line-read = grind arith

-- line numbers that are reported the same stay the same for later lines
counted-alike : (ls : List (List ℕ)) (n m : ℕ) (context : Context) (state : State) → min n last_number ≡ min m last_number
    → read_from context state (enumerate_from n ls) ≡ read_from context state (enumerate_from m ls)
counted-alike [] n m _ _ h = refl
counted-alike (line ∷ ls) n m context state h = let next : min (n + 1) last_number ≡ min (m + 1) last_number = omega (arith, h) in
    by _ _ (λ after more. counted-alike ls _ _ _ _ next)
  where
    by : (b : Bool) (taken : AfterToken) → ((after : Context) (next : State)
        → read_from after next (enumerate_from (n + 1) ls) ≡ read_from after next (enumerate_from (m + 1) ls))
        → elim b as (λ _. Outcome Fault Draft)
        [ true ↦ Finished context.builder | false ↦ after_line n taken (enumerate_from (n + 1) ls) ]
        ≡ elim b as (λ _. Outcome Fault Draft)
        [ true ↦ Finished context.builder | false ↦ after_line m taken (enumerate_from (m + 1) ls) ]
    by = grind arith

pub line-next : (n : ℕ) (context after : Context) (state next : State) (line : List ℕ) (more : List (List ℕ))
    → is_at_end state ≡ false → take_line context state line ≡ Goes after next
    → read_from context state (enumerate_from n (line ∷ more)) ≡ read_from after next
    (enumerate_from (min (n + 1) last_number) more)
line-next = grind (arith, min, line-read, counted-alike)

-- a line with an error
pub line-refused : (n : ℕ) (context : Context) (state : State) (line : List ℕ) (more : List (List ℕ)) (kind : FaultKind)
    → is_at_end state ≡ false → n ≤ last_number → take_line context state line ≡ Refuses kind
    → read_from context state (enumerate_from n (line ∷ more)) ≡ Refused (record { kind = kind; line = n; name = None })
line-refused = grind arith

-- no line is left
pub none-left : (n : ℕ) (context : Context) (state : State) → is_at_end state ≡ false →
    read_from context state (enumerate_from n []) ≡ Open
none-left = grind arith

-- an error of some lines stays if more lines follow
pub refused-stays : (ls more : List (List ℕ)) (n : ℕ) (context : Context) (state : State) (fault : Fault) →
    read_from context state (enumerate_from n ls) ≡ Refused fault →
    read_from context state (enumerate_from n (ls ++ more)) ≡ Refused fault
refused-stays [] more n context state fault h = grind arith
refused-stays (line ∷ ls) more n context state fault h = by _ _ h (λ after next. refused-stays ls _ _ _ _ _)
  where
    by : (b : Bool) (taken : AfterToken)
        → elim b as (λ _. Outcome Fault Draft)
        [ true ↦ Finished context.builder | false ↦ after_line n taken (enumerate_from (n + 1) ls) ]
        ≡ Refused fault → ((after : Context) (next : State) → read_from after next (enumerate_from (n + 1) ls) ≡ Refused fault
        → read_from after next (enumerate_from (n + 1) (ls ++ more)) ≡ Refused fault) → elim b as (λ _. Outcome Fault Draft)
        [ true ↦ Finished context.builder | false ↦ after_line n taken (enumerate_from (n + 1) (ls ++ more)) ] ≡ Refused fault
    by = grind arith

-- ---- what the builder returns at the end of a text is the result for the bytes

-- the end of a builder that has the draft
pub finished-reads : (bytes : List ℕ) (all : Draft) (answer : Result LinearModel ReadFault)
    → outcome bytes ≡ Finished all → Finishes all answer → ReadsLp bytes answer
finished-reads bytes _ (Ok m) h f =
    subst (DeclaresLp bytes) (sym (f.1.model ∙ ap model_of (whole-draft bytes _ h).draft)) (declares-from_whole _ _ h f.0)
finished-reads bytes all (Err (File fault)) h f = grind arith
finished-reads _ _ (Err Failed) h f = absurd f
finished-reads _ _ (Err OutOfMemory) h f = tt

-- ---- reading line by line has the same outcome as all tokens together

-- ---- the tokens of a line

abbrev terminals_on : ℕ → List Token → List TerminalAt
terminals_on n found = map (λ (token : Token). record { line = n; terminal = terminal_of token.kind token.text }) found

all-say : (n : ℕ) (found : List Token) (context : Context) (state : State) (more : List TerminalAt)
    → says n context state (terminals_on n found ++ more) ≡ says_after n (take_all context state (map as_terminal found)) more
all-say n [] _ _ _ = refl
all-say n (token ∷ found) context state more =
    take-says _ _ n (terminal_of token.kind token.text) (terminals_on n found ++ more)
    ∙ by _ (λ after next. all-say n found _ _ _)
  where
    by : (taken : AfterToken) → ((after : Context) (next : State)
        → says n after next (terminals_on n found ++ more) ≡ says_after n (take_all after next (map as_terminal found)) more)
        → says_after n taken (terminals_on n found ++ more) ≡ says_after n (elim taken as (λ _. AfterToken)
        [ Goes after next ↦ take_all after next (map as_terminal found) | Refuses kind ↦ Refuses kind ]) more
    by = grind arith

-- ---- lines after that of the end

-- the line of the last token matters only after the end
line-says : (line n : ℕ) (context : Context) (state : State) (tokens : List TerminalAt)
    → is_at_end state ≡ false → says line context state tokens ≡ says n context state tokens
line-says = grind arith

later-says : (line n : ℕ) (context : Context) (terminal : Terminal) (more : List TerminalAt) → line < n
    → says line context AfterEnd (record { line = n; terminal = terminal } ∷ more) ≡ Finished context.builder
later-says = grind arith

lines_after-say : (ls : List (List ℕ)) (line n : ℕ) (context : Context)
    → line < n → says line context AfterEnd (sound_terminals (enumerate_from n ls)) ≡ Finished context.builder
lines_after-say [] _ n _ h = refl
lines_after-say (l ∷ ls) line n context h = by (lexical_fault l) (lines_after-say ls _ _ _ (omega (arith, h)))
  where
    of_line : (found : List Token) (more : List TerminalAt) → says line context AfterEnd more ≡ Finished context.builder
        → says line context AfterEnd (terminals_on n found ++ more) ≡ Finished context.builder
    of_line [] _ k = k
    of_line (token ∷ found) more k = grind (arith, later-says)

    by : (o : Option FaultKind) → says line context AfterEnd (sound_terminals (enumerate_from (n + 1) ls)) ≡ Finished
        context.builder → says line context AfterEnd (elim o as (λ _. List TerminalAt)
        [ Some kind ↦ [] | None ↦ line_terminals (n, l) ++ sound_terminals (enumerate_from (n + 1) ls) ]) ≡ Finished
        context.builder
    by (Some _) k = refl
    by None k = of_line (tokens l) _ k

after_end-says : (ls : List (List ℕ)) (line n : ℕ) (context : Context) (state : State) → is_at_end state ≡ true → line < n
    → says line context state (sound_terminals (enumerate_from n ls)) ≡ Finished context.builder
after_end-says = grind (arith, lines_after-say)

-- ---- all lines

or_open : (o : Outcome Fault Draft) → or_else o Open ≡ o
or_open = grind arith

not_at_end : (line : ℕ) (context : Context) (state : State) → is_at_end state ≡ false → says line context state [] ≡ Open
not_at_end = grind arith

-- the outcome of the lines from line n on, if the last token before them is on an earlier line
abbrev lines_from : (line n : ℕ) → Context → State → List (List ℕ) → Outcome Fault Draft
lines_from line n context state ls =
    or_else (says line context state (sound_terminals (enumerate_from n ls))) (first_own_fault (enumerate_from n ls))

-- the effect of a line, and then of the lines after it
line-read_reading : (ls : List (List ℕ)) (n : ℕ) (taken : AfterToken) →
    ((after : Context) (next : State) →
    lines_from n (n + 1) after next ls ≡ read_from after next (enumerate_from (n + 1) ls)) →
    or_else (says_after n taken (sound_terminals (enumerate_from (n + 1) ls)))
    (first_own_fault (enumerate_from (n + 1) ls)) ≡ elim taken as (λ _. Outcome Fault Draft)
    [ Goes after next ↦ read_from after next (enumerate_from (n + 1) ls) | Refuses kind ↦ Refused (fault_on_line n kind) ]
line-read_reading = grind arith

pub lines-read : (ls : List (List ℕ)) (line n : ℕ) (context : Context) (state : State)
    → line < n → lines_from line n context state ls ≡ read_from context state (enumerate_from n ls)
lines-read [] line n context state h = grind (arith, or_open, nothing-says)
lines-read (l ∷ ls) line n context state h = at (is_at_end state) refl (λ after next. lines-read ls n _ _ _ (omega arith))
  where
    at : (b : Bool) → is_at_end state ≡ b
        → ((after : Context) (next : State) →
        lines_from n (n + 1) after next ls ≡ read_from after next (enumerate_from (n + 1) ls)) →
        lines_from line n context state (l ∷ ls) ≡ elim b as (λ _. Outcome Fault Draft) [
          | true ↦ Finished context.builder
          | false ↦ elim (take_line context state l) as (λ _. Outcome Fault Draft) [
            | Goes after next ↦ read_from after next (enumerate_from (n + 1) ls)
            | Refuses kind ↦ Refused (fault_on_line n kind)
          ]
        ]
    at true e _ = ap (λ o. or_else o (first_own_fault (enumerate_from n (l ∷ ls)))) (after_end-says (l ∷ ls) _ n _ _ e h)
    at false e later = by (lexical_fault l)
      where
        by : (o : Option FaultKind) → or_else (says line context state (elim o as (λ _. List TerminalAt)
            [ Some kind ↦ [] | None ↦ line_terminals (n, l) ++ sound_terminals (enumerate_from (n + 1) ls) ]))
            (elim o as (λ _. Outcome Fault Draft)
            [ Some kind ↦ Refused (fault_on_line n kind) | None ↦ first_own_fault (enumerate_from (n + 1) ls) ]) ≡ elim
            (elim o as (λ _. AfterToken) [ Some kind ↦ Refuses kind | None ↦ take_all context state (terminals l) ])
            as (λ _. Outcome Fault Draft) [
              | Goes after next ↦ read_from after next (enumerate_from (n + 1) ls)
              | Refuses kind ↦ Refused (fault_on_line n kind)
            ]
        by (Some kind) = grind (arith, not_at_end)
        by None = ap (λ o. or_else o (first_own_fault (enumerate_from (n + 1) ls)))
            (line-says _ n _ _ _ e ∙ all-say n (tokens l) _ _ _) ∙ line-read_reading _ n _ later

-- The outcome of a text is that of its lines, read one after another.
pub outcome-read : (bytes : List ℕ) → outcome bytes ≡ read_from start.context (Between AtStart) (numbered_lines bytes)
outcome-read bytes = lines-read (lines bytes) 0 1 _ (Between AtStart) (omega arith)

-- ---- what a reader of lines returns for the next line, and at the end

-- ---- no line

pub led-none : LedTo [] start.context (Between AtStart) 1
led-none = record { counted = omega arith; decides = λ more. lines-read more 0 1 start.context (Between AtStart) (omega arith) }

-- ---- the next line

pub led-line : (text : List (List ℕ)) (context after : Context) (state next : State) (number following : ℕ) (line : List ℕ)
    → LedTo text context state number → is_at_end state ≡ false → take_line context state line ≡ Goes after next
    → following ≡ min (number + 1) (2 ^ 64 - 1) → LedTo (text ++ line ∷ []) after next following
led-line = grind (arith, append_assoc, line-next)

-- its error
led-refused : (reader : LineReader) (text : List (List ℕ)) (line : List ℕ) (kind : FaultKind)
    → HasRead reader text → is_at_end reader.state ≡ false → take_line reader.context reader.state line ≡ Refuses kind
    → IsFaultOfLines (text ++ line ∷ []) (record { kind = kind; line = reader.number; name = None })
led-refused = grind (arith, append_assoc, line-refused)

pub refuses-line : (reader : LineReader) (after : Context) (line : List ℕ) (error : LineError) (answer : ReadFault)
    → is_at_end reader.state ≡ false → TakesToken (take_line reader.context reader.state line) (Err error) after
    → IsFaultOn reader.number error answer → RefusesLines HasRead IsFaultOfLines reader (line ∷ []) answer
refuses-line = grind (arith, led-refused)

pub take-long : (context : Context) (state : State) (line : List ℕ) → has_legal_length line ≡ false →
    take_line context state line ≡ Refuses LineTooLong
take-long = grind arith

-- ---- the end

module _ (text : List (List ℕ)) (reader : LineReader) (led : HasRead reader text) where
  all_read : lines_outcome text ≡ read_from reader.context reader.state (enumerate_from reader.number [])
  all_read = ap lines_outcome (sym (append-nil text)) ∙ led.decides []

  pub led-ended : is_at_end reader.state ≡ true → lines_outcome text ≡ Finished reader.context.builder
  led-ended = grind (arith, all_read)

  -- after the line of `end` the objective has a name
  pub led-named : is_at_end reader.state ≡ true → is_some reader.context.builder.objective ≡ true
  led-named = grind (arith, named-at_end, led-ended)

  pub led-open : is_at_end reader.state ≡ false → lines_outcome text ≡ Open
  led-open = grind (arith, all_read, none-left)

pub ends-missing : (bytes : List ℕ) (reader : LineReader)
    → HasRead reader (lines bytes) → is_at_end reader.state ≡ false → first_lp_fault bytes ≡ Some (whole_fault MissingEnd None)
ends-missing = grind (arith, led-open)

pub ends-text : (bytes : List ℕ) (reader : LineReader) (answer : Result LinearModel ReadFault)
    → HasRead reader (lines bytes) → is_at_end reader.state ≡ true → Finishes reader.context.builder answer → ReadsLp bytes answer
ends-text = grind (arith, finished-reads, led-ended)

-- ---- an error of some lines

pub faults-stay : FaultStaysWhenLinesFollow
faults-stay text fault h = λ more. lines-read (text ++ more) 0 1 start.context (Between AtStart) (omega arith) ∙ refused-stays
    text more 1 start.context (Between AtStart) _ (sym (lines-read text 0 1 start.context (Between AtStart) (omega arith)) ∙ h)
