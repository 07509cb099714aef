-- The outcome of tokens is the effect of the first one, and then the outcome of those after it.
use Rattle.std.proofs.Common.{arith}
use Rattle.mpslp_lp_grammar.proofs.Prelude
use Prelude.{◌≡◌, refl, sym, ap, ◌∙◌, ℕ, List, [], ◌∷◌, Bool, if◌then◌else◌, Decimal, Declaration, Declarations, declare_constant, Sense}
use Prelude.{BuildFault, SignOf, ◌>>=◌, resume, Terminal, TerminalAt, PhraseRule, Follows, unless_refused, declares, Context, Place}
use Prelude.{AtStart, BeforeItems, InObjective, BetweenRows, InRow, InBounds, apply_sign, Item, item_from, signed_item, number_item}
use Prelude.{objective_from, ItemOwner, OfObjective, OfRow, item_read, says, Between, AtObjective, ObjectiveName, Signs, ItemNumber}
use Prelude.{BoundLeftRelation, AtSide, SideSign, AfterToken, declare_unless_refused, end_term, step_after_signs, begin_item, open_section}
use Prelude.{begin_phrase, begin, name_taken, at_end, begin_phrase_after, step_after_lone_number, step, says_after, SectionWord}
use Rattle.mpslp_lp_grammar.proofs.RuleLaws.{follow-passing_one, resume-next, resume-ahead, resume-gives, phrases-more, follow-one_more}
use Rattle.mpslp_lp_grammar.specs.{Grammar.{section_from, name_in_section, phrase, phrase_at}, Items.Item.{Term, Lone}}
use Rattle.mpslp_lp_grammar.specs.{Terminal.Terminal.{Opens, Name, Sign, Compares}, declared.states.SideOwner.TheVariants.{SideOfRow}}
use Rattle.mpslp_lp_grammar.specs.declared.states.State.{State}

abbrev at : ℕ → Terminal → TerminalAt
at line terminal = record { line = line; terminal = terminal }

abbrev Tokens : Type 0
Tokens = List TerminalAt

-- ---- by cases

branch : (line : ℕ) (b : Bool) (r s : PhraseRule Follows) (x y : AfterToken) (tokens : Tokens)
    → resume phrase_at r tokens ≡ says_after line x tokens → resume phrase_at s tokens ≡ says_after line y tokens
    → resume phrase_at (if b then r else s) tokens ≡ says_after line (if b then x else y) tokens
branch = grind arith

-- ---- what a token completes

completed-says : (context : Context) (line : ℕ) (terminal : Terminal) (refusals : List BuildFault) (place : Place)
    (made : Declarations) (tokens : Tokens)
    → resume phrase_at (unless_refused context (at line terminal) refusals place made) tokens
    ≡ says_after line (declare_unless_refused context terminal refusals place made) tokens
completed-says = grind arith

term-says : (context : Context) (owner : ItemOwner) (column : List ℕ) (value : Decimal) (line : ℕ) (terminal : Terminal)
    (tokens : Tokens) → resume phrase_at (item_read context owner (Term value column (at line terminal))) tokens
    ≡ says_after line (end_term context owner column value terminal) tokens
term-says = grind arith

-- ---- items

signs-say : (context : Context) (owner : ItemOwner) (sign : SignOf) (line : ℕ) (terminal : Terminal) (tokens : Tokens)
    → resume phrase_at (signed_item context sign >>= item_read context owner) (at line terminal ∷ tokens)
    ≡ says_after line (step_after_signs context owner sign terminal) tokens
signs-say = grind (arith, follow-one_more, follow-passing_one, term-says)

begun_item-says : (context : Context) (owner : ItemOwner) (line : ℕ) (terminal : Terminal) (tokens : Tokens)
    → resume phrase_at (item_from context (at line terminal) >>= item_read context owner) tokens
    ≡ says_after line (begin_item context owner terminal) tokens
begun_item-says = grind (arith, resume-gives, term-says)

-- ---- sections

section_word-says : (context : Context) (line : ℕ) (word : SectionWord) (tokens : Tokens)
    → resume phrase_at (section_from context (at line (Opens word)) word) tokens ≡ says_after line
    (open_section context word) tokens
section_word-says = grind arith

-- ---- the first token of a phrase

named-says : (place : Place) (kind_declared : List ℕ → Declaration) (context : Context) (line : ℕ) (terminal : Terminal)
    (tokens : Tokens) → resume phrase_at (name_in_section place kind_declared context (at line terminal)) tokens
    ≡ says_after line (name_taken place kind_declared context terminal) tokens
named-says = grind (arith, completed-says)

begun_phrase-says : (place : Place) (context : Context) (line : ℕ) (terminal : Terminal) (tokens : Tokens)
    → resume phrase_at (phrase place context (at line terminal)) tokens ≡ says_after line
    (begin_phrase place context terminal) tokens
begun_phrase-says AtStart context line terminal tokens = refl
begun_phrase-says (BeforeItems name) context line terminal tokens =
    begun_item-says context (OfObjective name) line terminal tokens
begun_phrase-says (InObjective name) context line vz tokens = grind arith
begun_phrase-says BetweenRows context line vz tokens = grind arith
begun_phrase-says (InRow row) context line vz tokens = grind arith
begun_phrase-says (InBounds left) context line (Compares relation) tokens = grind arith
begun_phrase-says (InBounds left) context line vz tokens = grind arith
begun_phrase-says vz context line terminal tokens = grind (arith, named-says)

begun-says : (place : Place) (context : Context) (line : ℕ) (terminal : Terminal) (tokens : Tokens)
    → says line context (Between place) (at line terminal ∷ tokens) ≡ says_after line (begin place context terminal) tokens
begun-says place context line terminal tokens =
    phrases-more phrase_at (record { place = place; context = context }) (at line terminal) tokens ∙ by terminal
  where
    by : (t : Terminal)
        → resume phrase_at (phrase_at (record { place = place; context = context }) (at line t)) tokens
        ≡ says_after line (begin place context t) tokens
    by = grind (arith, branch, section_word-says, begun_phrase-says)

-- ---- a token that is taken at the place that follows

begun_after-says : (context : Context) (made : Declarations) (place : Place) (line : ℕ) (terminal : Terminal) (tokens : Tokens)
    → resume phrase_at (declares context (at line terminal) place made) (at line terminal ∷ tokens)
    ≡ says_after line (begin_phrase_after context made place terminal) tokens
begun_after-says = grind (arith, begun-says)

lone-says : (context : Context) (owner : ItemOwner) (value : Decimal) (line : ℕ) (terminal : Terminal) (tokens : Tokens)
    → resume phrase_at (item_read context owner (Lone value (at line terminal))) (at line terminal ∷ tokens)
    ≡ says_after line (step_after_lone_number context owner value terminal) tokens
lone-says context (OfObjective name) value line (Sign sign) tokens = grind (arith, begun_after-says)
lone-says context (OfObjective name) value line (Opens word) tokens =
    begun_after-says context (declare_constant value ∷ []) (InObjective name) line (Opens word) tokens
lone-says context (OfObjective name) value line _ tokens = refl
lone-says context (OfRow row) value line vz tokens = grind arith

-- ---- each state

objective-says : (context : Context) (goal : Sense) (line : ℕ) (terminal : Terminal) (tokens : Tokens)
    → resume phrase_at (objective_from context goal (at line terminal)) (at line terminal ∷ tokens)
    ≡ says_after line (step context (AtObjective goal) terminal) tokens
objective-says context goal line (Name name) tokens = grind (arith, resume-next)
objective-says context goal line _ tokens = grind (arith, begun_after-says)

-- after a number: a name, or the token after a number without a name
number-says : (context : Context) (following : Item →
    PhraseRule Follows) (sign : SignOf) (value : Decimal) (named : List ℕ →
    AfterToken) (lone : AfterToken) (line : ℕ) (terminal : Terminal) (tokens : Tokens) →
    ((column : List ℕ) → terminal ≡ Name column →
    resume phrase_at (following (Term (apply_sign sign value) column (at line (Name column)))) tokens
    ≡ says_after line (named column) tokens)
    → resume phrase_at (following (Lone (apply_sign sign value) (at line terminal))) (at line terminal ∷ tokens)
    ≡ says_after line lone tokens
    → resume phrase_at (number_item sign value >>= following) (at line terminal ∷ tokens)
    ≡ says_after line (elim terminal as (λ _. AfterToken) [ Name column ↦ named column | _ ↦ lone ]) tokens
number-says = grind arith

-- a number of an item
item_number-says : (context : Context) (owner : ItemOwner) (sign : SignOf) (value : Decimal) (line : ℕ) (terminal : Terminal)
    (tokens : Tokens)
    → resume phrase_at (number_item sign value >>= item_read context owner) (at line terminal ∷ tokens)
    ≡ says_after line (step context (ItemNumber owner sign value) terminal) tokens
item_number-says context owner sign value line terminal tokens =
    number-says context (item_read context owner) sign value
    (λ column. end_term context owner column (apply_sign sign value) terminal)
    (step_after_lone_number context owner (apply_sign sign value) terminal) line terminal tokens
    (λ column is. term-says context owner column (apply_sign sign value) line (Name column) tokens
    ∙ ap (λ (t : Terminal). says_after line (end_term context owner column (apply_sign sign value) t) tokens) (sym is))
    (lone-says context owner (apply_sign sign value) line terminal tokens)

-- ---- all states

ruleset steps = (follow-one_more, follow-passing_one, resume-gives, begun-says, begun_after-says)

pub take-says : (context : Context) (state : State) (line : ℕ) (terminal : Terminal) (tokens : Tokens)
    → says line context state (at line terminal ∷ tokens) ≡ says_after line (step context state terminal) tokens
take-says context (AtObjective goal) line terminal tokens =
    resume-ahead phrase_at (objective_from context goal) (at line terminal) tokens ∙ objective-says context goal line
    terminal tokens
take-says context (ObjectiveName goal name) line (Opens word) tokens = grind (arith, steps)
take-says context (ObjectiveName goal name) line _ tokens = grind (arith, steps)
take-says context (Signs owner sign) line terminal tokens = signs-say context owner sign line terminal tokens
take-says context (ItemNumber owner sign value) line terminal tokens =
    item_number-says context owner sign value line terminal tokens
take-says context (BoundLeftRelation limit relation) line (Name column) tokens = grind (arith, resume-next, completed-says)
take-says context (BoundLeftRelation limit relation) line _ tokens = grind (arith, steps)
take-says context (AtSide (SideOfRow row relation)) line terminal tokens = grind (arith, steps, completed-says)
take-says context (AtSide _) line terminal tokens = grind (arith, steps, completed-says)
take-says context (SideSign (SideOfRow row relation) sign) line terminal tokens = grind (arith, steps, completed-says)
take-says context (SideSign _ sign) line terminal tokens = grind (arith, steps, completed-says)
take-says context _ line terminal tokens = grind (arith, steps)

-- without more tokens, the text is complete only after its `end`
pub nothing-says : (line : ℕ) (context : Context) (state : State) → says line context state [] ≡ at_end context state
nothing-says = grind arith
