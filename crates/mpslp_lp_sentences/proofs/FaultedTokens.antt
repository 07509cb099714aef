-- The kinds of the errors of a line by itself, and of those of a whole file.
use Rattle.mpslp_lp_sentences.proofs.Prelude
use Prelude.{arith, ◌≡◌, refl, sym, ap, ◌∙◌, List, [], ◌∷◌, ℕ, Bool, true, false, Option, Some, None, not, nat_le, filter_map}
use Prelude.{if◌then◌else◌, list_any, list_all, cons_option, option_map, option_map_or, second_so, Fault, FaultKind, is_nonempty, head_of}
use Prelude.{Draft, is_kind, number_fault, FaultTests, first_held, has_legal_length, is_legal_byte, outside_comment, Token, tokens}
use Prelude.{name_fault, word_fault, token_fault, lexical_fault, subst, ◌++◌, append_assoc, ◌+◌, ◌-◌, ◌^◌, reverse, is_none, min}
use Prelude.{length, flat_map, enumerate_from, append-nil, reverse-append, both_so, fault_on_line, Outcome, Finished, Refused, Open}
use Prelude.{Terminal, terminals, start, AfterToken, Goes, Refuses, step, Context, AtStart, State, Between, outcome, fault_of, IsAtToken}
use Prelude.{IsInWords, false≢true, cond, map, ◌||◌, map-append, list_any-append, Decimal, BuildFault, true_from, those_of, Declarations}
use Prelude.{with_declaration, refusal_tests, refusals_in_turn, kind_of_build_fault, term_declared, limit_of, Limit, PlusInf, Sense}
use Prelude.{Declaration, declare_column, declare_constant, SectionWord, Relation, SignOf, Plus, Minus, ItemOwner, OfObjective}
use Prelude.{LastWord, Continuous, Place, BeforeItems, InObjective, InBounds, InSemis, SideOwner, SideOfBound}
use Prelude.{AtObjective, ObjectiveName, AtLastWord, AtSemi, Signs, ItemNumber, BoundName, BoundLeftRelation}
use Prelude.{AtSide, SideSign, refuse, with_made, declare_at, end_term, step_after_signs, begin_item, end_bound, end_side}
use Prelude.{step_at_side_value, no_limits, opened_by, may_begin_section, is_last_word, open_section, name_taken, begin_phrase, begin, one}
use Prelude.{product, apply_sign, infinity, limits_by, flip, objective_declared, default_objective, first_item_declared, default_row}
use Prelude.{PartialRow, Opens, Name, Number, Sign, Compares, Colon, Infinity, Free, begin_phrase_after}
use Prelude.{step_after_lone_number}
use Rattle.std.proofs.{lemmas.Grind.reverse_onto, Math.Dec.eqb_refl}
use Rattle.mpslp_types.specs.FaultOrder.{kind_rank, least_kind}
use Rattle.mpslp_builder.specs.FileFault.{named_kinds, whole_fault, names_with, named_faults, file_fault}
use Rattle.mpslp_lp.{specs.LineByLine.{take_all, take_line, read_from}, proofs.LineReaderLemmas.outcome-read}
use Rattle.mpslp_lp_tokens.specs.declared.{words.WordClass.{WordClass}}
use Rattle.mpslp_types.specs.declared.faults.FaultKind.TheVariants as kinds

-- ---- a line by itself

abbrev pub is_lexical : FaultKind → Bool
is_lexical kind = list_any
    (is_kind kind) (kinds.LineTooLong ∷ kinds.BadByte ∷ kinds.Quadratic ∷ kinds.Sos ∷ kinds.Indicator ∷
    kinds.NameLength ∷ kinds.NameByte ∷ kinds.NameMarker ∷ kinds.NameLikeExponent ∷ kinds.BadNumber ∷
    kinds.LongNumber ∷ kinds.TooManyDigits ∷ kinds.ExponentRange ∷ [])

abbrev AreLexical : Option FaultKind → Type 0
AreLexical o = option_map_or is_lexical o true ≡ true

held-lexical : (tests : FaultTests) → list_all (λ test. is_lexical test.1) tests ≡ true → AreLexical (first_held tests)
held-lexical [] h = refl
held-lexical ((held, kind) ∷ more) h =
    grind (arith, held-lexical more (second_so (is_lexical kind) (list_all (λ test. is_lexical test.1) more) h))

number-lexical : (literal : List ℕ) → AreLexical (number_fault literal)
number-lexical = grind arith

name-lexical : (text : List ℕ) → AreLexical (name_fault text)
name-lexical = grind arith

word-lexical : (text : List ℕ) (word_class : WordClass) → AreLexical (word_fault text word_class)
word-lexical = grind (arith, name-lexical)

tokens-lexical : (found : List Token) →
    AreLexical (least_kind (filter_map (λ (token : Token). token_fault token.kind token.text) found))
tokens-lexical [] = refl
tokens-lexical (token ∷ found) = by _ (grind (arith, word-lexical, number-lexical)) (tokens-lexical found)
  where
    rest : List FaultKind
    rest = filter_map (λ token. token_fault token.kind token.text) found

    lesser : (kind other : FaultKind) → is_lexical kind ≡ true → is_lexical other ≡ true → (b : Bool) →
        is_lexical (if b then other else kind) ≡ true
    lesser = grind arith

    least : (kind : FaultKind) → is_lexical kind ≡ true → (o : Option FaultKind) → least_kind rest ≡ o → AreLexical o →
        AreLexical (least_kind (kind ∷ rest))
    least = grind (arith, lesser)

    by : (o : Option FaultKind) → AreLexical o → AreLexical (least_kind rest) → AreLexical (least_kind (cons_option o rest))
    by = grind (arith, least, rest)

pub lexical-kind : (line : List ℕ) (kind : FaultKind) → lexical_fault line ≡ Some kind → is_lexical kind ≡ true
lexical-kind line _ h =
    sym (ap (λ (o : Option FaultKind). option_map_or is_lexical o true) h) ∙ line_lexical (first_held tests)
    (held-lexical tests refl)
  where
    tests : FaultTests
    tests = (not (has_legal_length line), kinds.LineTooLong) ∷
        (not (list_all is_legal_byte (outside_comment line)), kinds.BadByte) ∷ []

    line_lexical : (o : Option FaultKind) → AreLexical o → AreLexical (elim o as (λ _. Option FaultKind) [
      | Some other ↦ Some other
      | None ↦ least_kind (filter_map (λ (token : Token). token_fault token.kind token.text)
          (tokens line))
    ])
    line_lexical (Some _) a = a
    line_lexical None a = tokens-lexical (tokens line)

-- ---- a whole file

abbrev pub is_of_whole : FaultKind → Bool
is_of_whole kind = nat_le (kind_rank kinds.MissingEnd) (kind_rank kind)

named-whole : (all : Draft) (ks : List FaultKind) (fault : Fault) → list_all is_of_whole ks ≡ true →
    head_of (filter_map (λ kind. option_map (λ name. whole_fault kind (Some name)) (head_of (names_with all kind)))
    ks) ≡ Some fault → is_of_whole fault.kind ≡ true
named-whole all [] fault h e = cc
named-whole all (kind ∷ ks) fault h e =
    grind (arith, named-whole all ks fault (second_so (is_of_whole kind) (list_all is_of_whole ks) h))

pub file-kind : (all : Draft) (fault : Fault) → file_fault all ≡ Some fault → is_of_whole fault.kind ≡ true
file-kind all fault h = by (is_nonempty all.columns) h
  where
    by : (b : Bool) → (if b then head_of (named_faults all) else Some (whole_fault kinds.NoColumns None)) ≡ Some fault →
        is_of_whole fault.kind ≡ true
    by true e = named-whole all named_kinds _ refl e
    by false e = let same : whole_fault kinds.NoColumns None ≡ fault = cc in sym (ap (λ f. is_of_whole f.kind) same)

-- ---- the first token of a text with an error of the grammar: what is known before each token is known before this one

-- What is known of the tokens before one, of the context and of the state, and what follows from it for a kind of errors.
pub record Knowing
    (kind : FaultKind) (is_such : List Terminal → Terminal → Bool) (Knows : List Terminal → Context → State →
    Type 0) : Type 0 where
  pub at_start : Knows [] start.context (Between AtStart)
  pub goes : (earlier : List Terminal) (context : Context) (state : State) (token : Terminal) (after : Context) (next : State)
      → Knows earlier context state → step context state token ≡ Goes after next → Knows (token ∷ earlier) after next
  pub refuses : (earlier : List Terminal) (context : Context) (state : State) (token : Terminal)
      → Knows earlier context state → step context state token ≡ Refuses kind → is_such earlier token ≡ true

-- such a token among some, after earlier ones
record OnToken (is_such : List Terminal → Terminal → Bool) (earlier xs : List Terminal) : Type 0 where
  front : List Terminal
  token : Terminal
  back : List Terminal
  parted : xs ≡ front ++ token ∷ back
  such : is_such (reverse front ++ earlier) token ≡ true

-- such a token on one of the lines from line n on, after earlier tokens
record OnLine
    (is_such : List Terminal → Terminal → Bool) (earlier : List Terminal) (ls : List (List ℕ)) (n : ℕ)
    (fault : Fault) : Type 0 where
  before : List (List ℕ)
  line : List ℕ
  later : List (List ℕ)
  text : ls ≡ before ++ line ∷ later
  number : fault.line ≡ min (length before + n) (2 ^ 64 - 1)
  sound : list_all (λ l. is_none (lexical_fault l)) (before ++ line ∷ []) ≡ true
  front : List Terminal
  token : Terminal
  back : List Terminal
  tokens : terminals line ≡ front ++ token ∷ back
  such : is_such (reverse (flat_map terminals before ++ front) ++ earlier) token ≡ true

module _ (kind : FaultKind) (is_such : List Terminal → Terminal → Bool) (Knows : List Terminal → Context → State →
    Type 0) (knowing : Knowing kind is_such Knows) where
  -- ---- the tokens of a line

  abbrev IsAfter : List Terminal → List Terminal → AfterToken → Type 0
  IsAfter earlier xs (Goes after next) = Knows (reverse xs ++ earlier) after next
  IsAfter earlier xs (Refuses other) = other ≡ kind → OnToken is_such earlier xs

  tokens-taken : (xs earlier : List Terminal) (context : Context) (state : State) → Knows earlier context state →
      IsAfter earlier xs (take_all context state xs)
  tokens-taken [] _ _ _ known = known
  tokens-taken (x ∷ xs) earlier context state known =
      by (step context state x) refl (λ after next k. tokens-taken xs (x ∷ earlier) after next k)
    where
      later : (taken : AfterToken) → IsAfter (x ∷ earlier) xs taken → IsAfter earlier (x ∷ xs) taken
      later (Goes after next) k = subst (λ (ys : List Terminal). Knows ys after next)
          (grind (arith, reverse_onto, append_assoc, reverse)) k
      later (Refuses _) k = λ e. let found = k e in record {
        front = x ∷ found.front;
        token = found.token;
        back = found.back;
        parted = ap (λ (ys : List Terminal). x ∷ ys) found.parted;
        such = ap (λ (ys : List Terminal). is_such ys found.token)
            (sym (grind (arith, reverse_onto, append_assoc, reverse))) ∙ found.such;
      }

      by : (taken : AfterToken) → step context state x ≡ taken → ((after : Context) (next : State)
          → Knows (x ∷ earlier) after next → IsAfter (x ∷ earlier) xs (take_all after next xs)) → IsAfter earlier
          (x ∷ xs) (elim taken as (λ _. AfterToken) [ Goes after next ↦ take_all after next xs | Refuses other ↦ Refuses other ])
      by (Goes after next) e more = later (take_all after next xs)
          (more after next (knowing.goes earlier context state x after next known e))
      by (Refuses _) e _ = λ same. record {
        front = [];
        token = x;
        back = xs;
        parted = refl;
        such = knowing.refuses earlier context state x known (e ∙ ap (λ (k : FaultKind). Refuses k) same);
      }

  -- ---- the lines

  -- the lines after this one
  abbrev Rest : List (List ℕ) → ℕ → List ℕ → List Terminal → Fault → Type 0
  Rest ls n l earlier fault = (after : Context) (next : State) → Knows (reverse (terminals l) ++ earlier) after next →
      read_from after next (enumerate_from (n + 1) ls) ≡ Refused fault →
      OnLine is_such (reverse (terminals l) ++ earlier) ls (n + 1) fault

  lines-read : (ls : List (List ℕ)) (n : ℕ) (earlier : List Terminal) (context : Context) (state : State) (fault : Fault)
      → is_lexical kind ≡ false → fault.kind ≡ kind
      → Knows earlier context state → read_from context state (enumerate_from n ls) ≡ Refused fault →
      OnLine is_such earlier ls n fault
  lines-read [] n earlier context state fault own k known h = grind arith
  lines-read (l ∷ ls) n earlier context state fault own k known h =
      by (λ after next more e. lines-read ls _ _ _ _ _ own k more e) _ h
    where
      -- the line is read, and the error is on a later one
      later_line : Rest ls n l earlier fault
          → (after : Context) (next : State) → lexical_fault l ≡ None → Knows (reverse (terminals l) ++ earlier) after next
          → read_from after next (enumerate_from (n + 1) ls) ≡ Refused fault → OnLine is_such earlier (l ∷ ls) n fault
      later_line rest _ _ fine more e = let found = rest _ _ more e in record {
        before = l ∷ found.before;
        line = found.line;
        later = found.later;
        text = ap (λ more. l ∷ more) found.text;
        number = found.number ∙ ap (λ m. min m (2 ^ 64 - 1)) (omega arith);
        sound = both_so _ _ (ap is_none fine) found.sound;
        front = found.front;
        token = found.token;
        back = found.back;
        tokens = found.tokens;
        such = ap (λ ys. is_such ys found.token) (ap (λ ys. reverse ys ++ earlier) (append_assoc (terminals l) _ _)
            ∙ sym (grind (arith, reverse-append, append_assoc, reverse))) ∙ found.such;
      }

      this_line : lexical_fault l ≡ None → OnToken is_such earlier (terminals l) → fault_on_line n fault.kind ≡ fault →
          OnLine is_such earlier (l ∷ ls) n fault
      this_line fine found e = record {
        before = [];
        line = l;
        later = ls;
        text = refl;
        number = sym (ap (λ f. f.line) e) ∙ ap (λ m. min m (2 ^ 64 - 1)) (omega arith);
        sound = both_so _ _ (ap is_none fine) refl;
        front = found.front;
        token = found.token;
        back = found.back;
        tokens = found.parted;
        such = found.such;
      }

      taken : Rest ls n l earlier fault → (answer : AfterToken)
          → lexical_fault l ≡ None → IsAfter earlier (terminals l) answer → elim answer as (λ _. Outcome Fault Draft)
          [ Goes after next ↦ read_from after next (enumerate_from (n + 1) ls) | Refuses other ↦ Refused (fault_on_line n other) ]
          ≡ Refused fault → OnLine is_such earlier (l ∷ ls) n fault
      taken = grind (arith, later_line, this_line)

      own_fault : Rest ls n l earlier fault → (o : Option FaultKind) → lexical_fault l ≡ o → elim (elim o as (λ _. AfterToken)
          [ Some other ↦ Refuses other | None ↦ take_all context state (terminals l) ]) as (λ _. Outcome Fault Draft)
          [ Goes after next ↦ read_from after next (enumerate_from (n + 1) ls) | Refuses other ↦ Refused (fault_on_line n other) ]
          ≡ Refused fault → OnLine is_such earlier (l ∷ ls) n fault
      own_fault rest (Some other) e f = grind (arith, is_lexical, lexical-kind)
      own_fault rest None e f = taken rest _ e (tokens-taken _ _ _ _ known) f

      by : Rest ls n l earlier fault → (b : Bool) → elim b as (λ _. Outcome Fault Draft) [
        | true ↦ Finished context.builder
        | false ↦ elim (take_line context state l) as (λ _. Outcome Fault Draft) [
          | Goes after next ↦ read_from after next (enumerate_from (n + 1) ls)
          | Refuses other ↦ Refused (fault_on_line n other)
        ]
      ] ≡ Refused fault → OnLine is_such earlier (l ∷ ls) n fault
      by rest b e = grind (arith, own_fault)

  -- ---- the law of the kind

  pub in-words : is_lexical kind ≡ false → is_of_whole kind ≡ false → IsInWords kind is_such
  in-words own early bytes fault first k = by (outcome bytes) refl first
    where
      by : (o : Outcome Fault Draft) → outcome bytes ≡ o → fault_of o ≡ Some fault → IsAtToken is_such bytes fault
      by (Finished all) e f = absurd (false≢true (sym early ∙ ap is_of_whole (sym k) ∙ file-kind all _ f))
      by Open e f = grind arith
      by (Refused other) e f =
          let found = lines-read _ 1 _ _ _ _ own k knowing.at_start
          (sym (outcome-read bytes) ∙ e ∙ ap (λ x. Refused x) (same f)) in
          record {
            before = found.before;
            line = found.line;
            later = found.later;
            text = found.text;
            number = found.number;
            sound = found.sound;
            front = found.front;
            token = found.token;
            back = found.back;
            tokens = found.tokens;
            such = ap (λ ys. is_such ys found.token) (sym (append-nil _)) ∙ found.such;
          }
        where
          same : Some other ≡ Some fault → other ≡ fault
          same e = cc

-- ---- the kind of the first error of declarations is that of a test that fails

-- one of the tests of this kind fails
abbrev pub refused_as : FaultKind → List (Bool × BuildFault) → Bool
refused_as kind [] = false
refused_as kind (test ∷ more) = if is_kind kind (kind_of_build_fault test.1) then (test.0 || refused_as kind more)
    else refused_as kind more

abbrev pub refuses : FaultKind → Draft → Declarations → Bool
refuses kind earlier [] = false
refuses kind earlier (d ∷ ds) = refused_as kind (refusal_tests earlier d) || refuses kind (with_declaration earlier d) ds

any-refused : (kind : FaultKind) (tests : List (Bool × BuildFault)) →
    list_any (is_kind kind) (map kind_of_build_fault (those_of tests)) ≡ refused_as kind tests
any-refused _ [] = refl
any-refused kind ((held, other) ∷ more) = by (any-refused _ more) _ _ refl
  where
    by : list_any (is_kind kind) (map kind_of_build_fault (those_of more)) ≡ refused_as kind more → (b c : Bool) → is_kind kind
        (kind_of_build_fault other) ≡ c →
        list_any (is_kind kind) (map kind_of_build_fault (cond b (other ∷ those_of more) (those_of more)))
        ≡ cond c (b || refused_as kind more) (refused_as kind more)
    by = grind arith

any-declaring : (kind : FaultKind) (ds : Declarations) (earlier : Draft)
    → list_any (is_kind kind) (map kind_of_build_fault (refusals_in_turn earlier ds)) ≡ refuses kind earlier ds
any-declaring _ [] _ = refl
any-declaring kind (d ∷ ds) earlier =
    grind (arith, map-append, list_any-append, any-refused, any-declaring kind ds (with_declaration earlier d))

pub first-refused : (ds : Declarations) (earlier : Draft) (first : BuildFault) (more : List BuildFault)
    → refusals_in_turn earlier ds ≡ first ∷ more → refuses (kind_of_build_fault first) earlier ds ≡ true
first-refused = grind (arith, any-declaring, true_from, eqb_refl)

-- the errors of terms have no other kinds
pub terms-refuse : (kind : FaultKind) → is_kind kind kinds.UnknownRow ≡ false → is_kind kind kinds.UnknownColumn ≡ false
    → is_kind kind kinds.DuplicateEntry ≡ false → (name : List ℕ) (terms : List (List ℕ × Decimal)) (earlier : Draft)
    → refuses kind earlier (flat_map (term_declared name) terms) ≡ false
terms-refuse _ a b c _ [] _ = refl
terms-refuse kind a b c name (term ∷ terms) earlier = rw (a, b, c) (terms-refuse _ a b c _ terms _)

-- ---- what a reader does with a token, by cases on the token: what has to be shown of each token that a state accepts

-- a row without a label, whose first term has only this name
abbrev pub first_named : Context → List ℕ → PartialRow
first_named context column = record { name = default_row context; left = None; terms = (column, one) ∷ [] }

module _ (P : Terminal → AfterToken → Type 0) (context : Context) where
  -- wherever a token is rejected
  abbrev Bad : Type 0
  Bad = (t : Terminal) → P t (refuse context t kinds.BadToken)

  -- after the signs of an item
  pub signs-by : (owner : ItemOwner) (before : SignOf) → Bad →
      ((sign : SignOf) → P (Sign sign) (Goes context (Signs owner (product before
      sign)))) → ((name : List ℕ) → P (Name name) (end_term context owner name (apply_sign before one) (Name name))) →
      ((value : Decimal)
      → P (Number value) (Goes context (ItemNumber owner before value))) → (t : Terminal) →
      P t (step_after_signs context owner before t)
  signs-by = grind arith

  -- the first token of an item
  pub item-by : (owner : ItemOwner) → Bad → ((sign : SignOf) → P (Sign sign) (Goes context (Signs owner sign)))
      → ((name : List ℕ) → P (Name name) (end_term context owner name one (Name name))) → ((value : Decimal)
      → P (Number value) (Goes context (ItemNumber owner Plus value))) → (t : Terminal) → P t (begin_item context owner t)
  item-by = grind arith

  -- a number or infinity
  pub limit-by : (goes : Limit → Terminal → AfterToken) (before : SignOf)
      → Bad → ((value : Decimal) → P (Number value) (goes (limit_of (apply_sign before value)) (Number value)))
      → (P Infinity (goes (infinity before) Infinity)) → (t : Terminal) → P t (step_at_side_value (λ l. goes l t) context before t)
  limit-by = grind arith

  -- a name in Generals, Binaries or among the semi-continuous columns
  pub listed-by : (place : Place) (kind_declared : List ℕ → Declaration) → Bad →
      ((name : List ℕ) → P (Name name) (declare_at context
      (Name name) place (declare_column name ∷ kind_declared name ∷ []))) → (t : Terminal) →
      P t (name_taken place kind_declared context t)
  listed-by = grind arith

  -- after a number of the objective that no name follows
  pub lone-by : (objective : List ℕ) (number : Decimal) → Bad
      → ((sign : SignOf) → P (Sign sign)
      (begin_phrase_after context (declare_constant number ∷ []) (InObjective objective) (Sign sign)))
      → ((word : SectionWord) → P (Opens word)
      (begin_phrase_after context (declare_constant number ∷ []) (InObjective objective) (Opens word)))
      → (t : Terminal) → P t (step_after_lone_number context (OfObjective objective) number t)
  lone-by = grind arith

  -- the last word of a heading
  pub last_word-by : (wanted : LastWord) → Bad → ((name : List ℕ) → P (Name name) (if is_last_word wanted name then Goes
      (with_made context []) (Between (opened_by wanted)) else refuse context (Name name) kinds.BadToken))
      → (t : Terminal) → P t (step context (AtLastWord wanted) t)
  last_word-by = grind arith

  -- after the column of a bound
  pub bound_name-by : (column : List ℕ) → Bad → (P Free (end_bound context (declare_column column ∷ []) column no_limits Free
      (InBounds None))) → ((relation : Relation) →
      P (Compares relation) (Goes context (AtSide (SideOfBound true column relation)))) → (t : Terminal) →
      P t (step context (BoundName column) t)
  bound_name-by = grind arith

  -- after the left side of a bound and its relation
  pub bound_column-by : (left : Limit) (before : Relation)
      → Bad → ((name : List ℕ) → P (Name name) (end_bound context (declare_column name ∷ []) name (limits_by (flip before) left)
      (Name name) (InBounds (Some (name, before))))) → (t : Terminal) → P t (step context (BoundLeftRelation left before) t)
  bound_column-by = grind arith

  -- a right side
  pub side-by : (sided : SideOwner) → Bad → ((sign : SignOf) → P (Sign sign) (Goes context (SideSign sided sign)))
      → ((value : Decimal) → P (Number value) (end_side context sided (limit_of value) (Number value)))
      → (P Infinity (end_side context sided PlusInf Infinity)) → (t : Terminal) → P t (step context (AtSide sided) t)
  side-by = grind arith

  -- a token at a place
  pub begin-by : (place : Place) → ((word : SectionWord)
      → P (Opens word) (if may_begin_section place then open_section context word else refuse context (Opens word)
      kinds.BadToken)) → ((t : Terminal) → P t (begin_phrase place context t)) → (t : Terminal) → P t (begin place context t)
  begin-by = grind arith

  -- the first token of the objective
  pub objective-by : (sense : Sense) → ((name : List ℕ) → P (Name name) (Goes context (ObjectiveName sense name)))
      → ((t : Terminal) → P t (begin_phrase_after context (objective_declared sense default_objective)
      (BeforeItems default_objective) t)) → (t : Terminal) → P t (step context (AtObjective sense) t)
  objective-by = grind arith

  -- after the first name of the objective
  pub objective_name-by : (sense : Sense) (label : List ℕ) →
      (P Colon (declare_at context Colon (BeforeItems label) (objective_declared
      sense label))) → ((t : Terminal) →
      P t (begin_phrase_after context (first_item_declared sense label) (InObjective default_objective) t))
      → (t : Terminal) → P t (step context (ObjectiveName sense label) t)
  objective_name-by = grind arith

  -- after the number of an item
  pub item_number-by : (owner : ItemOwner) (before : SignOf) (number : Decimal) → ((name : List ℕ)
      → P (Name name) (end_term context owner name (apply_sign before number) (Name name))) →
      ((t : Terminal) → P t (step_after_lone_number
      context owner (apply_sign before number) t)) → (t : Terminal) → P t (step context (ItemNumber owner before number) t)
  item_number-by = grind arith

  -- after `semi`
  pub semi-by : P (Sign Minus) (Goes context (AtLastWord Continuous))
      → ((t : Terminal) → P t (begin InSemis (with_made context []) t)) → (t : Terminal) → P t (step context AtSemi t)
  semi-by = grind arith
