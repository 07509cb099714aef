-- What the first token of a phrase does.
use Rattle.std.specs.Prelude.{ℕ, false, if◌then◌else◌, List, [], ◌∷◌, Option, Some, None}
use Rattle.mpslp_builder.specs.Declaration.{declare_column, declare_integer, declare_binary, declare_semi, Declaration}
use Rattle.mpslp_types.specs.declared.kinds.Limit.TheVariants.{PlusInf}
use Rattle.mpslp_types.specs.declared.kinds.Sense.TheVariants as senses
use Rattle.mpslp_types.specs.declared.faults.FaultKind.TheVariants.{BadToken, MixedSenses}
use Rattle.mpslp_lp_tokens.specs.Token.{section_of}
use Rattle.mpslp_lp_grammar.specs.declared.signs.Sign.TheVariants.{Plus}
use Rattle.mpslp_lp_grammar.specs.Terminal.{Terminal}
use Rattle.mpslp_lp_grammar.specs.Phrase.{section_fault, with_section}
use Rattle.mpslp_lp_grammar.specs.declared.context.Context.{Context}
use Rattle.mpslp_lp_grammar.specs.declared.states.Place.{Place}
use Rattle.mpslp_lp_grammar.specs.declared.states.Place.TheVariants.{AtStart, BeforeItems, InObjective, BetweenRows, InRow, InBounds, InGenerals, InBinaries, InSemis}
use Rattle.mpslp_lp_grammar.specs.declared.states.LastWord.TheVariants.{To, That}
use Rattle.mpslp_lp_grammar.specs.Items.{fits_second, one}
use Rattle.mpslp_lp_grammar.specs.Rows.{default_row, without_terms, fits_left}
use Rattle.mpslp_lp_grammar.specs.Grammar.{may_begin_section}
use Rattle.mpslp_lp_grammar.specs.declared.states.ListSection.{ListSection}
use Rattle.mpslp_lp_grammar.specs.declared.states.ListSection.TheVariants as lists
use Rattle.mpslp_lp_grammar.specs.declared.states.ItemOwner.TheVariants.{OfObjective, OfRow}
use Rattle.mpslp_lp_grammar.specs.declared.states.SideOwner.TheVariants.{SideOfRow, SideOfBound}
use Rattle.mpslp_lp_grammar.specs.declared.states.State.TheVariants.{Between, AtObjective, AtLastWord, AtSemi, Signs, RowName, RowSign, RowNumber, RowLeft, BoundName, BoundSign, BoundLeft, AtSide, AfterEnd}
use Rattle.mpslp_lp_tokens.specs.declared.relations.Relation.{Relation}
use Rattle.mpslp_lp_tokens.specs.declared.words.SectionWord.{SectionWord}
use Rattle.mpslp_lp_tokens.specs.declared.words.SectionWord.TheVariants as words
use Rattle.mpslp_lp_grammar.specs.AfterToken.{AfterToken, refuse, with_made, declare_at, end_term, begin_item, step_at_side_value, Goes, Refuses}

-- ---- sections

abbrev pub after_section_word : Context → SectionWord → AfterToken
after_section_word context words.Minimize = Goes context (AtObjective senses.Minimize)
after_section_word context words.Maximize = Goes context (AtObjective senses.Maximize)
after_section_word context words.Rows = Goes (with_made context []) (Between BetweenRows)
after_section_word context words.Subject = Goes context (AtLastWord To)
after_section_word context words.Such = Goes context (AtLastWord That)
after_section_word context words.Bounds = Goes (with_made context []) (Between (InBounds None))
after_section_word context words.Generals = Goes (with_made context []) (Between InGenerals)
after_section_word context words.Binaries = Goes (with_made context []) (Between InBinaries)
after_section_word context words.Semi = Goes context AtSemi
after_section_word context words.Semis = Goes (with_made context []) (Between InSemis)
after_section_word context words.End = Goes context AfterEnd

abbrev pub open_section : Context → SectionWord → AfterToken
open_section context word = elim (section_fault context.sections_seen (section_of word)) [
  | Some kind ↦ Refuses kind
  | None ↦ after_section_word (record context { sections_seen = with_section context.sections_seen (section_of word) }) word
]

-- ---- the first token of a phrase

abbrev pub begin_row : Context → List ℕ → Terminal → AfterToken
begin_row context name terminal = elim terminal as (λ _. AfterToken) [
  | Terminal.Infinity ↦ Goes context (RowLeft name PlusInf)
  | Terminal.Number value ↦ Goes context (RowNumber name Plus value)
  | Terminal.Name column ↦ end_term context (OfRow (without_terms name None)) column one terminal
  | Terminal.Sign sign ↦ Goes context (RowSign name sign)
  | _ ↦ refuse context terminal BadToken
]

abbrev pub begin_bound : Context → Terminal → AfterToken
begin_bound context terminal = elim terminal as (λ _. AfterToken) [
  | Terminal.Name column ↦ Goes context (BoundName column)
  | Terminal.Sign sign ↦ Goes context (BoundSign sign)
  | _ ↦ step_at_side_value (λ limit. Goes context (BoundLeft limit)) context Plus terminal
]

abbrev pub step_at_second_relation : Context → Option (List ℕ × Relation) → Relation → Terminal → AfterToken
step_at_second_relation context None relation terminal = refuse context terminal BadToken
step_at_second_relation context (Some left) relation terminal =
    if fits_second left.1 relation then Goes context (AtSide (SideOfBound false left.0 relation)) else refuse context terminal MixedSenses

abbrev pub name_taken : Place → (List ℕ → Declaration) → Context → Terminal → AfterToken
name_taken place kind_declared context terminal = elim terminal as (λ _. AfterToken) [
  | Terminal.Name column ↦ declare_at context terminal place (declare_column column ∷ kind_declared column ∷ [])
  | _ ↦ refuse context terminal BadToken
]

-- where the names of a section are listed, and the kind that it gives their columns
abbrev pub listed_at : ListSection → Place
listed_at lists.Generals = InGenerals
listed_at lists.Binaries = InBinaries
listed_at lists.Semis = InSemis

abbrev pub kind_declared : ListSection → List ℕ → Declaration
kind_declared lists.Generals = declare_integer
kind_declared lists.Binaries = declare_binary
kind_declared lists.Semis = declare_semi

abbrev pub begin_phrase : Place → Context → Terminal → AfterToken
begin_phrase AtStart context terminal = refuse context terminal BadToken
begin_phrase (BeforeItems name) context terminal = begin_item context (OfObjective name) terminal
begin_phrase (InObjective name) context terminal = elim terminal as (λ _. AfterToken) [
  | Terminal.Sign sign ↦ Goes context (Signs (OfObjective name) sign)
  | _ ↦ refuse context terminal BadToken
]
begin_phrase BetweenRows context terminal = elim terminal as (λ _. AfterToken) [
  | Terminal.Name name ↦ Goes context (RowName name)
  | _ ↦ begin_row context (default_row context) terminal
]
begin_phrase (InRow row) context terminal = elim terminal as (λ _. AfterToken) [
  | Terminal.Sign sign ↦ Goes context (Signs (OfRow row) sign)
  | Terminal.Compares relation ↦ if fits_left row.left relation then Goes context (AtSide (SideOfRow row relation)) else refuse context terminal MixedSenses
  | _ ↦ refuse context terminal BadToken
]
begin_phrase (InBounds left) context terminal = elim terminal as (λ _. AfterToken) [
  | Terminal.Compares relation ↦ step_at_second_relation context left relation terminal
  | _ ↦ begin_bound context terminal
]
begin_phrase InGenerals context terminal = name_taken InGenerals declare_integer context terminal
begin_phrase InBinaries context terminal = name_taken InBinaries declare_binary context terminal
begin_phrase InSemis context terminal = name_taken InSemis declare_semi context terminal

abbrev pub begin : Place → Context → Terminal → AfterToken
begin place context terminal = elim terminal as (λ _. AfterToken) [
  | Terminal.Opens word ↦ if may_begin_section place then open_section context word else refuse context terminal BadToken
  | _ ↦ begin_phrase place context terminal
]
