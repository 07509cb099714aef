-- What a whole text declares: legal declarations, none of which is rejected, and at its end the draft of all.
use Rattle.mpslp_lp.proofs.Prelude
use Prelude.{◌≡◌, refl, sym, ap, subst, ◌∙◌, ℕ, zero, suc, List, [], ◌∷◌, ◌++◌, true, is_some, list_all, list_all-append, Declarations}
use Prelude.{Draft, with_declarations, refusals_in_turn, both_so, with_declarations-append, refusals_in_turn-append, join_none, Parsed}
use Prelude.{Outcome, phrases, made_by, Reads, Unfinished, Ends, Finished, Refused, Open, TerminalAt, Point, Follows, phrase_at, Option}
use Prelude.{Some, None, LinearModel, Declaration, empty_draft, draft_of, model_of, file_fault, is_legal, means-from_none, start, text_says}
use Prelude.{text_declares, numbered_lines, sound_terminals, first_own_fault, lines_say, outcome, is_finished, declarations_of, DeclaresLp}
use Prelude.{fault_of, first_lp_fault, has_lp_name, DeclareLpNames, DeclareOrFail, DeclareUnlessFaulty, objective-declared, arith}
use Rattle.mpslp_types.{specs.declared.faults.Fault.Fault, proofs.EachLemmas.imp_all}
use Rattle.mpslp_builder.proofs.MeaningFromNoFault.{no_fault-from_means}
use Rattle.mpslp_lp_grammar.specs.Rules.{AfterPhrase.Goes, Parsed.Refuses}
use Rattle.mpslp_lp.proofs.PhraseFacts.{is_lp_legal, IsSoundPoint, IsFine, phrase_at-fine, legal-from_lp}
use Rattle.mpslp_lp.proofs.SoundTokens.{Holds, AreSound, text-sound}

-- the draft at the end, which has an objective
abbrev pub IsDraftAtEnd : Draft → Declarations → Outcome Fault Draft → Type 0
IsDraftAtEnd earlier made (Finished all) = (all ≡ with_declarations earlier made) × (is_some all.objective ≡ true)
IsDraftAtEnd earlier made (Refused fault) = Unit {0}
IsDraftAtEnd earlier made Open = Unit {0}

pub record IsFineText (earlier : Draft) (made : Declarations) (outcome : Outcome Fault Draft) : Type 0 where
  pub unrefused : refusals_in_turn earlier made ≡ []
  pub legal : list_all is_lp_legal made ≡ true
  pub draft : IsDraftAtEnd earlier made outcome

nothing-fine : (earlier : Draft) (outcome : Outcome Fault Draft) → IsDraftAtEnd earlier [] outcome → IsFineText earlier [] outcome
nothing-fine = grind arith

draft-later : (earlier : Draft) (made more : Declarations) (outcome : Outcome Fault Draft)
    → IsDraftAtEnd (with_declarations earlier made) more outcome → IsDraftAtEnd earlier (made ++ more) outcome
draft-later = grind (arith, with_declarations-append)

-- a phrase, and the text after it
joined-fine : (earlier next : Draft) (made more : Declarations) (outcome : Outcome Fault Draft)
    → next ≡ with_declarations earlier made → refusals_in_turn earlier made ≡ []
    → list_all is_lp_legal made ≡ true → IsFineText next more outcome → IsFineText earlier (made ++ more) outcome
joined-fine = grind (arith, refusals_in_turn-append, join_none, list_all-append, is_lp_legal, both_so, draft-later)

pub text-fine : (tokens : List TerminalAt) (taken : ℕ) (point : Point) → AreSound tokens → IsSoundPoint point
    → IsFineText point.context.builder (made_by phrase_at point taken tokens) (phrases phrase_at point taken tokens)
text-fine [] taken point sound h = grind (arith, nothing-fine)
text-fine (token ∷ tokens) (suc taken) _ sound h = text-fine tokens taken _ sound.1 h
text-fine (token ∷ tokens) zero point sound h =
    by (phrase_at point token _) (phrase_at-fine _ _ _ h sound.0 _ sound.1) (λ after more s. text-fine tokens more _ sound.1 s)
  where
    by : (reading : Parsed Fault Follows) → Holds (IsFine point.context.builder) reading
        → ((after : Point) (more : ℕ) → IsSoundPoint after
        → IsFineText after.context.builder (made_by phrase_at after more tokens) (phrases phrase_at after more tokens))
        → IsFineText point.context.builder (elim reading as (λ _. Declarations) [
          | Reads (Goes after made) more ↦ made ++ made_by phrase_at after more tokens
          | Reads (Ends whole) more ↦ []
          | Refuses fault ↦ []
          | Unfinished ↦ []
        ]) (elim reading as (λ _. Outcome Fault Draft) [
          | Reads (Goes after made) more ↦ phrases phrase_at after more tokens
          | Reads (Ends whole) more ↦ Finished whole
          | Refuses fault ↦ Refused fault
          | Unfinished ↦ Open
        ])
    by (Reads (Goes _ _) _) fine later = joined-fine _ _ _ _ _ fine.drafts fine.unrefused fine.legal (later _ _ fine.sound)
    by (Reads (Ends whole) more) fine later = grind (arith, nothing-fine)
    by (Refuses fault) fine later = grind (arith, nothing-fine)
    by Unfinished fine later = grind (arith, nothing-fine)

-- ---- bytes declare a model or have a first error, and not both

pub whole-fine : (bytes : List ℕ) →
    IsFineText empty_draft (declarations_of bytes) (text_says (sound_terminals (numbered_lines bytes)))
whole-fine bytes = text-fine (sound_terminals (numbered_lines bytes)) 0 _ (text-sound (numbered_lines bytes)) refl

-- what is declared is legal, and its names are LP names
pub whole-legal : (bytes : List ℕ) → list_all is_legal (declarations_of bytes) ≡ true
whole-legal bytes = imp_all _ _ (declarations_of bytes) legal-from_lp (whole-fine bytes).legal

-- a line with an error on its own does not complete the text
never_whole : (numbered : List (ℕ × List ℕ)) (all : Draft) → first_own_fault numbered ≡ Finished all → ⊥
never_whole [] all h = cc
never_whole (line ∷ more) all h = grind (arith, never_whole more all)

-- so the tokens complete it
whole-by_tokens : (numbered : List (ℕ × List ℕ)) (all : Draft) → lines_say numbered ≡ Finished all →
    text_says (sound_terminals numbered) ≡ Finished all
whole-by_tokens = grind (arith, never_whole)

-- lines that reach `end` name the objective
pub named-at_end : (numbered : List (ℕ × List ℕ)) (all : Draft) → lines_say numbered ≡ Finished all → is_some all.objective ≡ true
named-at_end numbered _ h = (subst (IsDraftAtEnd empty_draft (text_declares (sound_terminals numbered)))
    (whole-by_tokens numbered _ h) (text-fine (sound_terminals numbered) 0 start (text-sound numbered) refl).draft).1

pub record IsWhole (bytes : List ℕ) (all : Draft) : Type 0 where
  pub draft : all ≡ draft_of (declarations_of bytes)
  pub named : is_some all.objective ≡ true

-- the draft at the end of a complete text is that of its declarations
pub whole-draft : (bytes : List ℕ) (all : Draft) → outcome bytes ≡ Finished all → IsWhole bytes all
whole-draft bytes _ h =
    let end = subst (IsDraftAtEnd empty_draft (declarations_of bytes))
    (whole-by_tokens (numbered_lines bytes) _ h) (whole-fine bytes).draft in record { draft = end.0; named = end.1 }

-- ---- bytes without an error

pub declares-from_whole : (bytes : List ℕ) (all : Draft)
    → outcome bytes ≡ Finished all → file_fault all ≡ None → DeclaresLp bytes (model_of (draft_of (declarations_of bytes)))
declares-from_whole bytes _ h fault =
    let whole = whole-draft bytes _ h in
    let fine = whole-fine bytes in record {
      text = ap is_finished h;
      means = means-from_none _ (objective-declared (declarations_of bytes) empty_draft
          (ap (λ d. is_some d.objective) (sym whole.draft) ∙ whole.named)) (whole-legal bytes) fine.unrefused
          (ap file_fault (sym whole.draft) ∙ fault);
    }

pub declares-from_no_fault : (bytes : List ℕ) → first_lp_fault bytes ≡ None →
    DeclaresLp bytes (model_of (draft_of (declarations_of bytes)))
declares-from_no_fault bytes h = by (outcome bytes) refl h
  where
    by : (o : Outcome Fault Draft) → outcome bytes ≡ o → fault_of o ≡ None →
        DeclaresLp bytes (model_of (draft_of (declarations_of bytes)))
    by (Finished _) e f = declares-from_whole _ _ e f
    by (Refused fault) e f = cc
    by Open e f = cc

pub model-unless_faulty : DeclareUnlessFaulty
model-unless_faulty bytes none = (model_of (draft_of (declarations_of bytes)), declares-from_no_fault _ (by _ refl))
  where
    by : (o : Option Fault) → first_lp_fault bytes ≡ o → first_lp_fault bytes ≡ None
    by = grind arith

-- ---- bytes that declare a model

pub no_fault-from_declares : (bytes : List ℕ) (m : LinearModel) → DeclaresLp bytes m → first_lp_fault bytes ≡ None
no_fault-from_declares bytes m declares = by (outcome bytes) refl declares.text
  where
    by : (o : Outcome Fault Draft) → outcome bytes ≡ o → is_finished o ≡ true → fault_of o ≡ None
    by (Finished _) e t = ap file_fault (whole-draft bytes _ e).draft ∙ no_fault-from_means _ m declares.means (whole-legal bytes)
    by (Refused fault) e t = cc
    by Open e t = cc

none_is_not : (fault : Fault) → None ≡ Some fault → ⊥
none_is_not fault e = cc

pub model-or_fault : DeclareOrFail
model-or_fault = grind (arith, none_is_not, no_fault-from_declares)

-- ---- names

named-from_lp : (d : Declaration) → is_lp_legal d ≡ true → has_lp_name d ≡ true
named-from_lp = grind arith

pub lp_names-declared : DeclareLpNames
lp_names-declared bytes = imp_all _ _ (declarations_of bytes) named-from_lp (whole-fine bytes).legal
