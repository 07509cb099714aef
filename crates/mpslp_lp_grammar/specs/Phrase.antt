-- Where a phrase begins, and the results of the rules of the grammar: the error of a token, or what follows a phrase.
use Rattle.std.specs.Prelude.{Bool, true, false, ◌||◌, not, if◌then◌else◌, List, [], ◌∷◌, Option, Some, None, unwrap_or}
use Rattle.mpslp_builder.specs.Declaration.{Declaration, Declarations, Draft, with_declarations, empty_draft}
use Rattle.mpslp_builder.specs.Refusal.{refusals_in_turn}
use Rattle.mpslp_types.specs.declared.faults.{BuildFault.BuildFault, Fault.Fault, FaultKind.FaultKind, FaultKind.TheVariants.SectionOrder, FaultKind.TheVariants.SectionRepeated}
use Rattle.mpslp_lines.specs.FaultTests.{fault_on_line, kind_of_build_fault}
pub use Rattle.mpslp_lp_grammar.specs.Rules.{Rule as TokenRule, AfterPhrase, Refuses, Goes, after_taking, gives, ◌>>=◌, next, Reads, Unfinished, ahead, Outcome, phrases, made_by, Ends, Finished, Refused, Open}
use Rattle.mpslp_lp_tokens.specs.Token.{section_of}
pub use Rattle.mpslp_lp_grammar.specs.Terminal.{Terminal, SignOf, Plus, Minus, TerminalAt, Name, Number, Sign, Colon, Compares, Infinity, Relation, AtMost, AtLeast, EqualTo, Opens, Free}
use Rattle.mpslp_lp_grammar.specs.declared.sections_seen.SectionsSeen.{SectionsSeen}
use Rattle.mpslp_lp_tokens.specs.declared.words.Section.{Section, TheVariants.Objective, TheVariants.Rows, TheVariants.Bounds, TheVariants.Generals, TheVariants.Binaries, TheVariants.SemiContinuous, TheVariants.End}
pub use Rattle.mpslp_lp_grammar.specs.declared.{context.Context.Context, states.Place.Place, states.Place.TheVariants.BeforeItems, states.Place.TheVariants.InObjective, states.Place.TheVariants.BetweenRows, states.Place.TheVariants.InRow, states.Place.TheVariants.InBounds, states.Place.TheVariants.AtStart, states.Place.TheVariants.InGenerals, states.Place.TheVariants.InBinaries, states.Place.TheVariants.InSemis}

-- ---- the sections that were opened

abbrev pub no_section_seen : SectionsSeen
no_section_seen = record { objective = false; rows = false; bounds = false; generals = false; binaries = false; semis = false; end = false }

abbrev pub has_seen : SectionsSeen → Section → Bool
has_seen sections_seen Objective = sections_seen.objective
has_seen sections_seen Rows = sections_seen.rows
has_seen sections_seen Bounds = sections_seen.bounds
has_seen sections_seen Generals = sections_seen.generals
has_seen sections_seen Binaries = sections_seen.binaries
has_seen sections_seen SemiContinuous = sections_seen.semis
has_seen sections_seen End = sections_seen.end

abbrev pub with_section : SectionsSeen → Section → SectionsSeen
with_section sections_seen Objective = record sections_seen { objective = true }
with_section sections_seen Rows = record sections_seen { rows = true }
with_section sections_seen Bounds = record sections_seen { bounds = true }
with_section sections_seen Generals = record sections_seen { generals = true }
with_section sections_seen Binaries = record sections_seen { binaries = true }
with_section sections_seen SemiContinuous = record sections_seen { semis = true }
with_section sections_seen End = record sections_seen { end = true }

-- The objective is first. Bounds, Generals, Binaries and the semi-continuous section come after the rows, in any order.
-- `end` is last.
abbrev pub is_out_of_order : SectionsSeen → Section → Bool
is_out_of_order sections_seen Objective = false
is_out_of_order sections_seen Rows = not sections_seen.objective || (sections_seen.bounds || (sections_seen.generals || (sections_seen.binaries || (sections_seen.semis || sections_seen.end))))
is_out_of_order sections_seen End = not sections_seen.objective
is_out_of_order sections_seen _ = not sections_seen.objective || sections_seen.end

abbrev pub section_fault : SectionsSeen → Section → Option FaultKind
section_fault sections_seen section =
    if has_seen sections_seen section then Some SectionRepeated
    else (if is_out_of_order sections_seen section then Some SectionOrder else None)

-- ---- where a phrase begins

pub record Point : Type 0 where
  pub place : Place
  pub context : Context

abbrev pub start : Point
start = record { place = AtStart; context = record { sections_seen = no_section_seen; builder = empty_draft } }

-- ---- the rules of the grammar

abbrev pub PhraseRule : Type 0 → Type 0
PhraseRule A = TokenRule TerminalAt Fault A

-- ---- errors

-- this error at a token
abbrev pub fails : {A : Type 0} → TerminalAt → FaultKind → PhraseRule A
fails token kind tokens = Refuses (fault_on_line token.line kind)

-- the error of a section word in the wrong place, in any state
abbrev pub terminal_fault : Context → Terminal → Option FaultKind
terminal_fault context (Opens word) = section_fault context.sections_seen (section_of word)
terminal_fault context _ = None

-- an error at a token; that of a section word in the wrong place comes before all others of its token
abbrev pub refuses : {A : Type 0} → Context → TerminalAt → FaultKind → PhraseRule A
refuses context token kind = fails token (unwrap_or (terminal_fault context token.terminal) kind)

-- ---- what follows a phrase

-- the end of the text returns all that was declared
abbrev pub Follows : Type 0
Follows = AfterPhrase Point Declaration Draft

-- the next phrase begins at a place, after these declarations
abbrev pub goes_to : Context → Place → Declarations → PhraseRule Follows
goes_to context place made =
    gives (Goes (record { place = place; context = record context { builder = with_declarations context.builder made } }) made)

-- a token completes declarations with these errors, of which the first is reported
abbrev pub unless_refused : Context → TerminalAt → List BuildFault → Place → Declarations → PhraseRule Follows
unless_refused context token [] place made = goes_to context place made
unless_refused context token (refusal ∷ more) place made = refuses context token (kind_of_build_fault refusal)

-- a token completes declarations that are made one after another
abbrev pub declares : Context → TerminalAt → Place → Declarations → PhraseRule Follows
declares context token place made = unless_refused context token (refusals_in_turn context.builder made) place made
