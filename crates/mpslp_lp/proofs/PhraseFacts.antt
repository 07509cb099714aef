-- What each phrase declares: legal declarations, none of which is rejected after those before it.
use Rattle.mpslp_lp.proofs.Prelude
use Prelude.{◌⊎◌, inl, inr, ◌≡◌, refl, sym, subst, ◌∙◌, ℕ, List, [], ◌∷◌, ◌++◌, Bool, true, false, arith, Option, Some, None}
use Prelude.{is_some, unwrap_or, ◌&&◌, if◌then◌else◌, list_all, list_any, flat_map, option_map_or, first_so, second_so, list_all-append}
use Prelude.{Decimal, is_decimal, negated, same_bytes, is_lp_name, draft_of, Declaration, declare_sense, declare_objective}
use Prelude.{declare_constant, declare_row, declare_rhs, declare_range, declare_column, declare_coefficient, declare_lower, declare_upper}
use Prelude.{declare_marked, declare_integer, declare_binary, declare_semi, Declarations, Draft, empty_draft, with_declarations}
use Prelude.{bounds_declared, refusals_in_turn, are_given, is_legal, Limit, MinusInf, PlusInf, Sense, BuildFault, FaultKind, BadToken}
use Prelude.{both_so, refusals_in_turn-append, bounds-in_turn, join_none, limit-given, named-after, SignOf, Plus, Minus, ◌>>=◌, next, ahead}
use Prelude.{Ends, section_of, Terminal, TerminalAt, Opens, Name, Number, Sign, Compares, Colon, Infinity, Free, Other, Point, start}
use Prelude.{with_section, section_fault, PhraseRule, Follows, fails, refuses, goes_to, unless_refused, declares, Context, PartialRow}
use Prelude.{Place, AtStart, BeforeItems, InObjective, BetweenRows, InRow, InBounds, InGenerals, InBinaries, InSemis, Side, Limits}
use Prelude.{apply_sign, infinity, unsigned_side, side_from, side, next_relation, fits_second, limits_by, flip, Item, one, number_item}
use Prelude.{signed_item, item_from, colon, term_declared, objective_item, default_objective, first_item_declared, objective_named}
use Prelude.{objective_from, objective, default_row, without_terms, row_item, row_first, row_after_left, row_number, row_signed, row_from}
use Prelude.{row_named, row, fits_left, row_limits, row_declared, row_whole, row_end, bound_sides, no_limits, bound_right, bound_after}
use Prelude.{bound_column, bound_left, bound, second_side, line_end, last_word, semi_from, section_start, section_from}
use Prelude.{may_begin_section, name_in_section, phrase, phrase_at, Relation}
use Rattle.mpslp_lp.proofs.SoundTokens.{Holds, Gives, passed, then-gives, IsSoundToken, next-gives, ahead-gives, AreSound, IsSoundTerminal}
use Rattle.std.proofs.Math.Nat.{min-le_right}
use Rattle.mpslp_types.{proofs.NameLemmas.{mps_name-from_lp}, specs.Limit.{is_given}}
use Rattle.mpslp_lp_grammar.{proofs.NumberedNames.{numbered-name}, specs.{Items.Item.{Term, Lone}, Rules.AfterPhrase.{Goes}}}
use Rattle.mpslp_lp_grammar.specs.declared.states.LastWord.{LastWord, TheVariants.{Continuous}}
use Rattle.mpslp_lp_tokens.specs.declared.words.{Section.TheVariants.{Objective}, SectionWord.{SectionWord}}
use Rattle.mpslp_lp_tokens.specs.declared.words.SectionWord.TheVariants as words

-- ---- legal declarations, with LP names

abbrev pub is_lp_legal : Declaration → Bool
is_lp_legal (declare_sense _) = true
is_lp_legal (declare_objective name) = is_lp_name name
is_lp_legal (declare_constant value) = is_decimal value
is_lp_legal (declare_row name form) = is_lp_name name && are_given form
is_lp_legal (declare_rhs row value) = is_decimal value
is_lp_legal (declare_range row value) = is_decimal value
is_lp_legal (declare_column name) = is_lp_name name
is_lp_legal (declare_coefficient place value) = is_decimal value
is_lp_legal (declare_lower column limit) = is_given limit
is_lp_legal (declare_upper column limit) = is_given limit
is_lp_legal _ = true

-- so they are legal
pub legal-from_lp : (d : Declaration) → is_lp_legal d ≡ true → is_legal d ≡ true
legal-from_lp (declare_sense s) h = refl
legal-from_lp (declare_objective name) h = mps_name-from_lp name h
legal-from_lp (declare_row name form) h =
    both_so _ (are_given form) (mps_name-from_lp name (first_so _ (are_given form) h)) (second_so _ _ h)
legal-from_lp (declare_column name) h = mps_name-from_lp name h
legal-from_lp (declare_marked _) h = refl
legal-from_lp (declare_integer _) h = refl
legal-from_lp (declare_binary _) h = refl
legal-from_lp (declare_semi _) h = refl
legal-from_lp _ h = h

abbrev at : ℕ → Terminal → TerminalAt
at line terminal = record { line = line; terminal = terminal }

-- ---- well-formed values

decimal-negated : (m e : _) → is_decimal (record { mantissa = m; exponent = e }) ≡ true →
    is_decimal (negated (record { mantissa = m; exponent = e })) ≡ true
decimal-negated = grind arith

signed-decimal : (sign : SignOf) (value : Decimal) → is_decimal value ≡ true → is_decimal (apply_sign sign value) ≡ true
signed-decimal = grind arith

infinity-given : (sign : SignOf) → is_given (infinity sign) ≡ true
infinity-given = grind arith

abbrev IsSoundSide : Side → Type 0
IsSoundSide side = is_given side.limit ≡ true

abbrev pub IsGiven : Option Limit → Type 0
IsGiven o = option_map_or is_given o true ≡ true

abbrev AreGiven : Limits → Type 0
AreGiven limits = IsGiven limits.lower × IsGiven limits.upper

limits_by-given : (relation : Relation) (limit : Limit) → is_given limit ≡ true → AreGiven (limits_by relation limit)
limits_by-given = grind arith

abbrev is_sound_term : List ℕ × Decimal → Bool
is_sound_term term = is_lp_name term.0 && is_decimal term.1

abbrev is_sound_left : Option (Limit × Relation) → Bool
is_sound_left left = option_map_or (λ (l : Limit × Relation). is_given l.0) left true

pub record IsSoundRow (row : PartialRow) : Type 0 where
  pub name : is_lp_name row.name ≡ true
  pub left : is_sound_left row.left ≡ true
  pub terms : list_all is_sound_term row.terms ≡ true

abbrev IsSoundItem : Item → Type 0
IsSoundItem (Term value column token) = (is_decimal value ≡ true) × (is_lp_name column ≡ true)
IsSoundItem (Lone value token) = is_decimal value ≡ true

-- ---- well-formed points

abbrev pub IsNamed : Context → Type 0
IsNamed context = (is_some context.builder.objective ≡ true) × (context.sections_seen.objective ≡ true)

-- at the start nothing is declared; later the objective has its name
abbrev pub IsSoundPoint : Point → Type 0
IsSoundPoint point = at point.place
  where
    at : Place → Type 0
    at AtStart = point ≡ start
    at (BeforeItems name) = IsNamed point.context
    at (InObjective name) = IsNamed point.context
    at BetweenRows = IsNamed point.context
    at (InRow row) = IsNamed point.context × IsSoundRow row
    at (InBounds left) = IsNamed point.context
    at InGenerals = IsNamed point.context
    at InBinaries = IsNamed point.context
    at InSemis = IsNamed point.context

pub record IsFineGoing (earlier : Draft) (after : Point) (made : Declarations) : Type 0 where
  pub drafts : after.context.builder ≡ with_declarations earlier made
  pub unrefused : refusals_in_turn earlier made ≡ []
  pub legal : list_all is_lp_legal made ≡ true
  pub sound : IsSoundPoint after

abbrev pub IsFine : Draft → Follows → Type 0
IsFine earlier (Goes after made) = IsFineGoing earlier after made
IsFine earlier (Ends all) = (all ≡ earlier) × (is_some earlier.objective ≡ true)

-- ---- what follows a phrase

abbrev Fine : Context → PhraseRule Follows → Type 0
Fine context rule = Gives (IsFine context.builder) rule

-- a place that requires only that the objective has a name
abbrev IsPlain : Place → Type 0
IsPlain place = (context : Context) → IsNamed context → IsSoundPoint (record { place = place; context = context })

in_row-plain : (row : PartialRow) → IsSoundRow row → IsPlain (InRow row)
in_row-plain = grind arith

goes-fine : (context : Context) (place : Place) (made : Declarations) → IsNamed context → IsPlain place
    → refusals_in_turn context.builder made ≡ [] → list_all is_lp_legal made ≡ true → Fine context (goes_to context place made)
goes-fine = grind (arith, named-after)

nothing-fine : (context : Context) (place : Place) → IsNamed context → IsPlain place → Fine context (goes_to context place [])
nothing-fine = grind arith

unless_refused-fine : (context : Context) (token : TerminalAt) (refusals : List BuildFault) (place : Place) (made : Declarations)
    → IsNamed context → IsPlain place → (refusals ≡ [] → refusals_in_turn context.builder made ≡ [])
    → list_all is_lp_legal made ≡ true → Fine context (unless_refused context token refusals place made)
unless_refused-fine = grind (arith, goes-fine)

declares-fine : (context : Context) (token : TerminalAt) (place : Place) (made : Declarations)
    → IsNamed context → IsPlain place → list_all is_lp_legal made ≡ true → Fine context (declares context token place made)
declares-fine = grind (arith, unless_refused-fine)

either-fine : (context : Context) (b : Bool) (r s : PhraseRule Follows) → Fine context r → Fine context s →
    Fine context (if b then r else s)
either-fine = grind arith

-- ---- items

number-gives : (sign : SignOf) (value : Decimal) → is_decimal value ≡ true → Gives IsSoundItem (number_item sign value)
number-gives = grind arith

signed_item-gives : (context : Context) (tokens : List TerminalAt) (sign : SignOf) → AreSound tokens →
    Holds IsSoundItem (signed_item context sign tokens)
signed_item-gives _ [] _ _ = tt
signed_item-gives context (token ∷ tokens) sign sound = by _ _ sound.0 (λ m. signed_item-gives context tokens m sound.1)
  where
    by : (line : ℕ) (terminal : Terminal) → IsSoundTerminal terminal →
        ((m : SignOf) → Holds IsSoundItem (signed_item context m tokens)) →
        Holds IsSoundItem (signed_item context sign (at line terminal ∷ tokens))
    by = grind (arith, passed, signed-decimal, number-gives)

item-gives : (context : Context) (line : ℕ) (terminal : Terminal) → IsSoundTerminal terminal →
    Gives IsSoundItem (item_from context (at line terminal))
item-gives = grind (arith, signed_item-gives, number-gives)

-- ---- the objective

term-legal : (row : List ℕ) (term : List ℕ × Decimal) → is_sound_term term ≡ true →
    list_all is_lp_legal (term_declared row term) ≡ true
term-legal _ term h = both_so (is_lp_name term.0) (is_decimal term.1 && true) (first_so _ _ h)
    (both_so _ _ (second_so _ _ h) refl)

objective_item-fine : (context : Context) (name : List ℕ) (item : Item) → IsNamed context → IsSoundItem item →
    Fine context (objective_item context name item)
objective_item-fine context name (Term value column token) named h = grind (arith, declares-fine, term-legal, both_so)
objective_item-fine context name (Lone value token) named h = grind (arith, declares-fine, both_so)

-- ---- rows

terms-legal : (row : List ℕ) (terms : List (List ℕ × Decimal))
    → list_all is_sound_term terms ≡ true → list_all is_lp_legal (flat_map (term_declared row) terms) ≡ true
terms-legal _ [] h = refl
terms-legal row (term ∷ terms) h = list_all-append is_lp_legal (term_declared row term) (flat_map (term_declared row) terms)
    ∙ both_so _ _ (term-legal row term (first_so _ (list_all is_sound_term terms) h)) (terms-legal row terms (second_so _ _ h))

row_item-fine : (context : Context) (row : PartialRow) (item : Item) → IsNamed context → IsSoundRow row → IsSoundItem item
    → Fine context (row_item context row item)
row_item-fine context row (Term value column token) named r h =
    let more : PartialRow = record row { terms = row.terms ++ (column, value) ∷ [] } in either-fine context (list_any (λ term.
    same_bytes column term.0) row.terms) _ _ (λ tokens sound. tt)
    (nothing-fine context (InRow more) named (in_row-plain more (record {
      name = r.name;
      left = r.left;
      terms = list_all-append is_sound_term row.terms ((column, value) ∷ [])
          ∙ both_so (list_all is_sound_term row.terms) (list_all is_sound_term ((column, value) ∷ [])) r.terms
          (both_so (is_lp_name column && is_decimal value) true (both_so (is_lp_name column) (is_decimal value) h.1 h.0) refl);
    })))
row_item-fine context row (Lone value token) named r h = grind arith

without-sound : (name : List ℕ) (left : Option (Limit × Relation)) → is_lp_name name ≡ true →
    is_sound_left left ≡ true → IsSoundRow (without_terms name left)
without-sound = grind arith

sense-gives : (context : Context) → Gives (λ (relation : Relation). Unit {0}) (next_relation context)
sense-gives = grind arith

row_first-fine : (context : Context) (row : PartialRow) (token : TerminalAt)
    → IsNamed context → IsSoundRow row → IsSoundToken token → Fine context (row_first context row token)
row_first-fine context _ token named r s = then-gives IsSoundItem (IsFine context.builder)
    (item_from context token) (row_item _ _) (item-gives context token.line _ s)
    (λ item h. row_item-fine context _ item named r h)

row_left-fine : (context : Context) (name : List ℕ) (limit : Limit)
    → IsNamed context → is_lp_name name ≡ true → is_given limit ≡ true → Fine context (row_after_left context name limit)
row_left-fine context name limit named h g = then-gives (λ relation. Unit {0})
    (IsFine context.builder) (next_relation context)
    (λ relation. next >>= row_first context (without_terms name (Some (limit, relation)))) (sense-gives context)
    (λ relation u. then-gives IsSoundToken (IsFine context.builder) next (row_first context (without_terms name (Some
    (limit, relation)))) next-gives
    (λ token s. row_first-fine context _ token named (without-sound name (Some (limit, relation)) h g) s))

row_number-fine : (context : Context) (name : List ℕ) (item : Item)
    → IsNamed context → is_lp_name name ≡ true → IsSoundItem item → Fine context (row_number context name item)
row_number-fine = grind (arith, row_item-fine, without-sound, row_left-fine, limit-given)

default_row-name : (context : Context) → is_lp_name (default_row context) ≡ true
default_row-name = grind (arith, numbered-name, min-le_right)

row_signed-fine : (context : Context) (name : List ℕ) (sign : SignOf) (second : TerminalAt)
    → IsNamed context → is_lp_name name ≡ true → IsSoundToken second → Fine context (row_signed context name sign second)
row_signed-fine context name sign second named h s = by second.line second.terminal s
  where
    items : Fine context (signed_item context sign >>= row_item context (without_terms name None))
    items = then-gives IsSoundItem (IsFine context.builder) (signed_item context sign)
        (row_item context (without_terms name None)) (λ tokens sound. signed_item-gives context tokens sign sound)
        (λ item i. row_item-fine context (without_terms name None) item named (without-sound name None h refl) i)

    by : (line : ℕ) (terminal : Terminal) → IsSoundTerminal terminal →
        Fine context (row_signed context name sign (at line terminal))
    by line Infinity s = then-gives IsSoundToken (IsFine context.builder) next
        (λ word. row_after_left context name (infinity sign)) next-gives
        (λ word w. row_left-fine context name (infinity sign) named h (infinity-given sign))
    by line (Number value) s = then-gives IsSoundToken (IsFine context.builder) next (λ number. number_item sign value
        >>= row_number context name) next-gives
        (λ number w. then-gives IsSoundItem (IsFine context.builder) (number_item sign value)
        (row_number context name) (number-gives sign value s) (λ item i. row_number-fine context name item named h i))
    by line _ s = items

row_from-fine : (context : Context) (name : List ℕ) (line : ℕ) (terminal : Terminal)
    → IsNamed context → is_lp_name name ≡ true → IsSoundTerminal terminal →
    Fine context (row_from context name (at line terminal))
row_from-fine _ _ _ Infinity named h s = row_left-fine _ _ _ named h refl
row_from-fine context name _ (Number value) named h s = then-gives IsSoundItem (IsFine context.builder)
    (number_item Plus value) (row_number context name) (number-gives Plus value s)
    (λ item i. row_number-fine context name item named h i)
row_from-fine context name line (Name column) named h s = grind (arith, row_item-fine, without-sound)
row_from-fine context name line (Sign sign) named h s = grind (arith, then-gives, ahead-gives, row_signed-fine)
row_from-fine context name line _ named h s = grind arith

colon-gives : Gives (λ (labelled : Bool). Unit {0}) colon
colon-gives = grind arith

row_named-fine : (context : Context) (name : List ℕ) (labelled : Bool) → IsNamed context → is_lp_name name ≡ true →
    Fine context (row_named context name labelled)
row_named-fine context name labelled named h =
    let row : PartialRow = record { name = default_row context; left = None; terms = (name, one) ∷ [] } in
    either-fine context labelled _ _ (then-gives IsSoundToken (IsFine context.builder) next (row_from context name) next-gives
    (λ token s. row_from-fine context name token.line token.terminal named h s))
    (nothing-fine context (InRow row) named
    (in_row-plain row (record {
      name = default_row-name context;
      left = refl;
      terms =
          both_so (is_lp_name name && is_decimal one) _ (both_so _ _ h refl) refl;
    })))

row-fine : (context : Context) (line : ℕ) (terminal : Terminal) → IsNamed context → IsSoundTerminal terminal →
    Fine context (row context (at line terminal))
row-fine context _ (Name name) named s = then-gives (λ labelled. Unit {0})
    (IsFine context.builder) colon (row_named _ _) colon-gives (λ labelled u. row_named-fine context name labelled named s)
row-fine context line (Opens word) named s = grind (arith, row_from-fine, default_row-name)
row-fine context line (Number value) named s =
    row_from-fine context (default_row context) line (Number value) named (default_row-name context) s
row-fine context line (Sign sign) named s =
    row_from-fine context (default_row context) line (Sign sign) named (default_row-name context) s
row-fine context line (Compares relation) named s = grind (arith, row_from-fine, default_row-name)
row-fine context line Colon named s = grind (arith, row_from-fine, default_row-name)
row-fine context line Infinity named s =
    row_from-fine context (default_row context) line Infinity named (default_row-name context) s
row-fine context line Free named s = grind (arith, row_from-fine, default_row-name)
row-fine context line Other named s = grind (arith, row_from-fine, default_row-name)

-- ---- sides

unsigned_side-gives : (context : Context) (sign : SignOf) (token : TerminalAt) → IsSoundToken token →
    Gives IsSoundSide (unsigned_side context sign token)
unsigned_side-gives = grind (arith, limit-given, signed-decimal, infinity-given)

side_from-gives : (context : Context) (token : TerminalAt) → IsSoundToken token → Gives IsSoundSide (side_from context token)
side_from-gives = grind (arith, then-gives, next-gives, unsigned_side-gives)

side-gives : (context : Context) → Gives IsSoundSide (side context)
side-gives = grind (arith, then-gives, next-gives, side_from-gives)

limits-legal : (left : Option (Limit × Relation)) (relation : Relation) (limit : Limit)
    → is_sound_left left ≡ true → is_given limit ≡ true → AreGiven (row_limits left relation limit)
limits-legal = grind arith

lower-given : (o : Option Limit) → IsGiven o → is_given (unwrap_or o MinusInf) ≡ true
lower-given = grind arith

upper-given : (o : Option Limit) → IsGiven o → is_given (unwrap_or o PlusInf) ≡ true
upper-given = grind arith

row_whole-fine : (context : Context) (row : PartialRow) (relation : Relation) (right : Side)
    → IsNamed context → IsSoundRow row → IsSoundSide right → Fine context (row_whole context row relation right)
row_whole-fine context row relation right named r h = let limits = row_limits row.left relation right.limit in
    let given = limits-legal row.left relation right.limit r.left h in
    let lower = unwrap_or limits.lower MinusInf in
    let upper = unwrap_or limits.upper PlusInf in
    let terms = flat_map (term_declared row.name) row.terms in declares-fine context
    right.last BetweenRows (row_declared row limits) named (λ b n. n)
    (both_so (is_lp_name row.name && (is_given lower && is_given upper)) (list_all is_lp_legal terms)
    (both_so (is_lp_name row.name) (is_given lower && is_given upper) r.name (both_so (is_given lower)
    (is_given upper) (lower-given limits.lower given.0) (upper-given limits.upper given.1)))
    (terms-legal row.name row.terms r.terms))

row_end-fine : (context : Context) (row : PartialRow) (relation : Relation) (token : TerminalAt)
    → IsNamed context → IsSoundRow row → Fine context (row_end context row relation token)
row_end-fine context row relation _ named r = either-fine context
    (fits_left row.left relation) _ _
    (then-gives IsSoundSide (IsFine context.builder) (side context) (row_whole context row relation)
    (side-gives context) (λ right h. row_whole-fine context _ relation right named r h)) (λ tokens sound. tt)

-- ---- bounds

sides-legal : (column : List ℕ) (lower upper : Option Limit) → IsGiven lower → IsGiven upper →
    list_all is_lp_legal (bounds_declared column lower upper) ≡ true
sides-legal = grind arith

-- declarations that are not rejected come before, and the place has no further requirement
bounded-fine : (context : Context) (front : Declarations) (column : List ℕ) (limits : Limits) (last : TerminalAt) (place : Place)
    → IsNamed context → IsPlain place → refusals_in_turn context.builder front ≡ []
    → list_all is_lp_legal front ≡ true → AreGiven limits → Fine context (bound_sides context front column limits last place)
bounded-fine = grind (
  arith,
  unless_refused-fine,
  refusals_in_turn-append,
  join_none,
  bounds-in_turn,
  list_all-append,
  both_so,
  sides-legal,
)

column-legal : (column : List ℕ) → is_lp_name column ≡ true → list_all is_lp_legal (declare_column column ∷ []) ≡ true
column-legal = grind arith

bound_after-fine : (context : Context) (column : List ℕ) (token : TerminalAt)
    → IsNamed context → is_lp_name column ≡ true → Fine context (bound_after context column token)
bound_after-fine context column token named h = by token.line token.terminal
  where
    by : (line : ℕ) (terminal : Terminal) → Fine context (bound_after context column (at line terminal))
    by line Free = bounded-fine context (declare_column column ∷ []) column no_limits
        (at line Free) (InBounds None) named (λ b n. n) refl (column-legal column h) (refl, refl)
    by line (Compares relation) = then-gives IsSoundSide (IsFine context.builder) (side context)
        (bound_right context (declare_column column ∷ []) column relation) (side-gives context)
        (λ right s. bounded-fine context (declare_column column ∷ []) column (limits_by relation
        right.limit) right.last (InBounds None) named (λ b n. n) refl (column-legal column h)
        (limits_by-given relation right.limit s))
    by line _ = grind arith

bound_column-fine : (context : Context) (limit : Limit) (relation : Relation) (token : TerminalAt)
    → IsNamed context → is_given limit ≡ true → IsSoundToken token → Fine context (bound_column context limit relation token)
bound_column-fine context limit relation token named g s = by _ token.terminal s
  where
    by : (line : ℕ) (terminal : Terminal) → IsSoundTerminal terminal →
        Fine context (bound_column context limit relation (at line terminal))
    by line (Name column) h = bounded-fine _ (declare_column column ∷ []) _ (limits_by (flip relation) limit)
        (at line (Name column)) (InBounds (Some (column, relation))) named (λ b n. n) refl (column-legal column h)
        (limits_by-given (flip relation) _ g)
    by line _ h = grind arith

bound_left-fine : (context : Context) (left : Side) → IsNamed context → IsSoundSide left → Fine context (bound_left context left)
bound_left-fine = grind (arith, then-gives, sense-gives, next-gives, bound_column-fine)

bound-fine : (context : Context) (line : ℕ) (terminal : Terminal) → IsNamed context → IsSoundTerminal terminal →
    Fine context (bound context (at line terminal))
bound-fine context line terminal named s = by terminal s
  where
    sided : (t : Terminal) → IsSoundTerminal t → Fine context (side_from context (at line t) >>= bound_left context)
    sided t s = then-gives IsSoundSide (IsFine context.builder) (side_from context (at line t))
        (bound_left context) (side_from-gives context (at line t) s) (λ left h. bound_left-fine context left named h)

    by : (t : Terminal) → IsSoundTerminal t → Fine context (bound context (at line t))
    by (Name column) s = grind (arith, then-gives, next-gives, bound_after-fine)
    by (Opens word) s = sided (Opens word) s
    by (Number value) s = sided (Number value) s
    by (Sign sign) s = sided (Sign sign) s
    by (Compares relation) s = grind (arith, sided)
    by Colon s = sided Colon s
    by Infinity s = sided Infinity s
    by Free s = sided Free s
    by Other s = sided Other s

second_side-fine : (context : Context) (left : Option (List ℕ × Relation)) (relation : Relation) (token : TerminalAt)
    → IsNamed context → Fine context (second_side context left relation token)
second_side-fine context None relation token named = grind arith
second_side-fine context (Some left) relation token named = either-fine context (fits_second left.1 relation) _ _
    (then-gives IsSoundSide (IsFine context.builder) (side context) (bound_right context [] left.0 relation)
    (side-gives context) (λ right s. bounded-fine context [] left.0 (limits_by relation right.limit) right.last
    (InBounds None) named (λ b n. n) refl refl (limits_by-given relation right.limit s))) (λ tokens sound. tt)

-- ---- phrases

listed-fine : (place : Place) (kind_declared : List ℕ → Declaration) (context : Context) (line : ℕ) (terminal : Terminal)
    → IsNamed context → IsPlain place → ((name : List ℕ) → is_lp_legal (kind_declared name) ≡ true)
    → IsSoundTerminal terminal → Fine context (name_in_section place kind_declared context (at line terminal))
listed-fine _ kind_declared context line (Name column) named plain legal s =
    declares-fine context (at line (Name column)) _ (declare_column _ ∷ kind_declared column ∷ []) named plain
    (both_so _ (is_lp_legal (kind_declared column) && true) s (both_so _ _ (legal _) refl))
listed-fine place kind_declared context line _ named plain legal s = grind arith

phrase-fine : (place : Place) (context : Context) (line : ℕ) (terminal : Terminal) → IsSoundPoint
    (record { place = place; context = context }) → IsSoundTerminal terminal →
    Fine context (phrase place context (at line terminal))
phrase-fine AtStart context line terminal point s = grind arith
phrase-fine (BeforeItems name) context line _ named s =
    then-gives IsSoundItem (IsFine context.builder) (item_from context (at line _)) (objective_item context name)
    (item-gives context line _ s) (λ item i. objective_item-fine context name item named i)
phrase-fine (InObjective name) context _ (Sign sign) named s =
    then-gives IsSoundItem (IsFine context.builder) (signed_item context sign) (objective_item context name)
    (λ tokens sound. signed_item-gives context _ sign sound) (λ item i. objective_item-fine context name item named i)
phrase-fine (InObjective name) context line _ named s = grind arith
phrase-fine BetweenRows context line terminal named s = grind (arith, row-fine)
phrase-fine (InRow _) context _ (Sign sign) point s = then-gives IsSoundItem (IsFine context.builder) (signed_item context sign)
    (row_item _ _) (λ tokens sound. signed_item-gives context _ sign sound)
    (λ item i. row_item-fine context _ item point.0 point.1 i)
phrase-fine (InRow _) _ line (Compares relation) point s = row_end-fine _ _ _ (at line (Compares relation)) point.0 point.1
phrase-fine (InRow row) context line _ point s = grind arith
phrase-fine (InBounds left) context line (Compares relation) named s = grind (arith, second_side-fine)
phrase-fine (InBounds _) context line (Name name) named s = bound-fine context line (Name name) named s
phrase-fine (InBounds left) context line (Opens word) named s = grind (arith, bound-fine)
phrase-fine (InBounds _) context line (Number value) named s = bound-fine context line (Number value) named s
phrase-fine (InBounds _) context line (Sign sign) named s = bound-fine context line (Sign sign) named s
phrase-fine (InBounds left) context line Colon named s = grind (arith, bound-fine)
phrase-fine (InBounds left) context line Infinity named s = grind (arith, bound-fine)
phrase-fine (InBounds left) context line Free named s = grind (arith, bound-fine)
phrase-fine (InBounds left) context line Other named s = grind (arith, bound-fine)
phrase-fine InGenerals context line terminal named s = grind (arith, listed-fine)
phrase-fine InBinaries context line terminal named s = grind (arith, listed-fine)
phrase-fine InSemis context line terminal named s = grind (arith, listed-fine)

-- ---- sections

line_end-fine : (context : Context) (line : ℕ) → IsNamed context → Fine context (line_end context line)
line_end-fine = grind arith

next_word-fine : (context : Context) (wanted : LastWord) → IsNamed context → Fine context (next >>= last_word context wanted)
next_word-fine = grind arith

semi-fine : (context : Context) (token : TerminalAt) → IsNamed context → Fine context (semi_from context token)
semi-fine context token named = by token.line token.terminal
  where
    by : (line : ℕ) (terminal : Terminal) → Fine context (semi_from context (at line terminal))
    by _ (Sign Minus) = then-gives _ _ next _ next-gives (λ dash d. next_word-fine _ Continuous named)
    by line _ = grind (arith, nothing-fine)

-- a section word after the objective
abbrev IsLater : SectionWord → Type 0
IsLater words.Minimize = ⊥
IsLater words.Maximize = ⊥
IsLater _ = Unit {0}

start-fine : (context : Context) (token : TerminalAt) (word : SectionWord) → IsLater word → IsNamed context →
    Fine context (section_start context token word)
start-fine = grind (arith, nothing-fine, next_word-fine, then-gives, ahead-gives, semi-fine, line_end-fine)

later-fine : (context : Context) (token : TerminalAt) (word : SectionWord) → IsLater word → IsNamed (record context
    { sections_seen = with_section context.sections_seen (section_of word) }) → Fine context (section_from context token word)
later-fine context token word later named = by (section_fault context.sections_seen (section_of word))
  where
    by : (o : Option FaultKind) → Fine context (elim o as (λ _. PhraseRule Follows) [
      | Some kind ↦ fails token kind
      | None ↦ section_start (record context { sections_seen = with_section context.sections_seen (section_of word) }) token word
    ])
    by (Some kind) = grind arith
    by None = grind (arith, start-fine)

-- after the objective was opened
section-fine : (context : Context) (token : TerminalAt) (word : SectionWord) → IsNamed context →
    Fine context (section_from context token word)
section-fine = grind (arith, later-fine)

-- ---- the objective; nothing is declared before it

abbrev opening : Context
opening = record { sections_seen = with_section start.context.sections_seen Objective; builder = empty_draft }

-- declarations that name the objective
opens-declared : (token : TerminalAt) (place : Place) (made : Declarations)
    → ((context : Context) → IsNamed context → IsSoundPoint (record { place = place; context = context })) → is_some
    (draft_of made).objective ≡ true → list_all is_lp_legal made ≡ true →
    Gives (IsFine empty_draft) (declares opening token place made)
opens-declared = grind arith

objective_named-fine : (goal : Sense) (name : List ℕ) (line : ℕ) (terminal : Terminal) → is_lp_name name ≡ true
    → Gives (IsFine empty_draft) (objective_named opening goal name (at line terminal))
objective_named-fine goal name line terminal h = by terminal
  where
    legal : {b : Bool} → b ≡ true → (is_lp_name name && b) ≡ true
    legal = grind arith

    first_item : (t : Terminal) → Gives (IsFine empty_draft)
        (declares opening (at line t) (InObjective default_objective) (first_item_declared goal name))
    first_item = grind arith

    by : (t : Terminal) → Gives (IsFine empty_draft) (objective_named opening goal name (at line t))
    by Colon = grind (arith, then-gives, next-gives, opens-declared, legal)
    by t = first_item t

objective-fine : (goal : Sense) → Gives (IsFine empty_draft) (objective opening goal)
objective-fine goal =
    then-gives IsSoundToken (IsFine empty_draft) ahead (objective_from opening goal) ahead-gives
    (λ token s. by token.line token.terminal s)
  where
    by : (line : ℕ) (terminal : Terminal) → IsSoundTerminal terminal →
        Gives (IsFine empty_draft) (objective_from opening goal (at line terminal))
    by _ (Name name) s = then-gives IsSoundToken (IsFine empty_draft) next
        (λ first. ahead >>= objective_named opening goal name) next-gives
        (λ first f. then-gives IsSoundToken _ _ _ ahead-gives (λ second t. objective_named-fine _ name _ second.terminal s))
    by line terminal s = grind (arith, opens-declared)

-- at the start, no other section may be opened
first_section-fine : (token : TerminalAt) (word : SectionWord) →
    Gives (IsFine empty_draft) (section_from start.context token word)
first_section-fine = grind (arith, objective-fine)

-- ---- all phrases

named-point : (place : Place) (context : Context) → may_begin_section place ≡ true
    → IsSoundPoint (record { place = place; context = context }) → (context ≡ start.context) ⊎ IsNamed context
named-point = grind arith

opens-fine : (place : Place) (context : Context) (token : TerminalAt) (word : SectionWord) (b : Bool)
    → may_begin_section place ≡ b → IsSoundPoint (record { place = place; context = context })
    → Fine context (if b then section_from context token word else refuses context token BadToken)
opens-fine place context token word false e h = grind arith
opens-fine _ context token word true e h = elim (named-point _ _ e h) [
  | inl same ↦ subst (λ b. Gives (IsFine b.builder) (section_from b token word)) (sym same) (first_section-fine token _)
  | inr named ↦ section-fine context token word named
]

pub phrase_at-fine : (point : Point) (line : ℕ) (terminal : Terminal)
    → IsSoundPoint point → IsSoundTerminal terminal → Gives (IsFine point.context.builder) (phrase_at point (at line terminal))
phrase_at-fine _ line (Opens word) h s = opens-fine _ _ (at line (Opens word)) _ _ refl h
phrase_at-fine point line (Name name) h s = grind (arith, phrase-fine)
phrase_at-fine point line (Number value) h s = grind (arith, phrase-fine)
phrase_at-fine point line (Sign sign) h s = grind (arith, phrase-fine)
phrase_at-fine point line (Compares relation) h s = grind (arith, phrase-fine)
phrase_at-fine point line Colon h s = grind (arith, phrase-fine)
phrase_at-fine point line Infinity h s = grind (arith, phrase-fine)
phrase_at-fine point line Free h s = grind (arith, phrase-fine)
phrase_at-fine point line Other h s = grind (arith, phrase-fine)
