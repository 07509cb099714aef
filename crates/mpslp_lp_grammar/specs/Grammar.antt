-- The grammar of LP text: sections, bounds, which phrase begins with a token at a place, and the outcome of a whole text.
use Rattle.std.specs.Prelude.{ℕ, ◌==◌, Bool, true, false, if◌then◌else◌, List, [], ◌∷◌, ◌++◌, map, codes, Option, Some, None}
use Rattle.mpslp_types.specs.Basics.{same_bytes, lower_byte}
use Rattle.mpslp_builder.specs.Declaration.{Declaration, declare_column, declare_integer, declare_binary, declare_semi, Declarations, Draft, with_declarations, bounds_declared}
use Rattle.mpslp_builder.specs.Refusal.{bounds_refusals}
use Rattle.mpslp_types.specs.declared.kinds.Sense.TheVariants as senses
use Rattle.mpslp_types.specs.declared.{kinds.Limit.Limit, kinds.Limit.TheVariants.MinusInf, kinds.Limit.TheVariants.PlusInf, faults.Fault.Fault, faults.FaultKind.TheVariants.BadToken, faults.FaultKind.TheVariants.MixedSenses}
use Rattle.mpslp_lp_tokens.specs.Token.{section_of}
use Rattle.mpslp_lp_grammar.specs.Phrase.{section_fault, with_section, Point, start, PhraseRule, Follows, fails, refuses, goes_to, declares, Plus, Minus, TerminalAt, Opens, Name, Sign, Compares, ◌>>=◌, next, ahead, Outcome, phrases, made_by, Reads, Ends, Context, Place, AtStart, BeforeItems, InObjective, BetweenRows, InRow, InBounds, InGenerals, InBinaries, InSemis, unless_refused, Free, Relation}
use Rattle.mpslp_lp_grammar.specs.declared.states.LastWord.{LastWord, TheVariants.To, TheVariants.That, TheVariants.Continuous}
use Rattle.mpslp_lp_grammar.specs.Items.{signed_item, item_from, Side, Limits, limits_by, flip, fits_second, side, side_from, next_relation}
use Rattle.mpslp_lp_grammar.specs.Rows.{objective, objective_item, row, row_item, row_end}
use Rattle.mpslp_lp_tokens.specs.declared.words.SectionWord.{SectionWord, TheVariants.Minimize, TheVariants.Maximize, TheVariants.Rows, TheVariants.Subject, TheVariants.Such, TheVariants.Bounds, TheVariants.Generals, TheVariants.Binaries, TheVariants.Semi, TheVariants.Semis, TheVariants.End}

-- ---- sections

-- `end` must be the last token of its line
abbrev pub line_end : Context → ℕ → PhraseRule Follows
line_end context line [] = Reads (Ends context.builder) 0
line_end context line (token ∷ tokens) = if token.line == line then refuses context token BadToken tokens else Reads (Ends context.builder) 0

-- the last word of a section heading of several words, and the place where it leads
abbrev pub last_word_text : LastWord → List ℕ
last_word_text To = codes "to"
last_word_text That = codes "that"
last_word_text Continuous = codes "continuous"

abbrev pub opened_by : LastWord → Place
opened_by To = BetweenRows
opened_by That = BetweenRows
opened_by Continuous = InSemis

-- ignoring case
abbrev pub is_last_word : LastWord → List ℕ → Bool
is_last_word wanted word = same_bytes (map lower_byte word) (last_word_text wanted)

abbrev pub last_word : Context → LastWord → TerminalAt → PhraseRule Follows
last_word context wanted token = elim token.terminal [
  | Name word ↦ if is_last_word wanted word then goes_to context (opened_by wanted) [] else refuses context token BadToken
  | _ ↦ refuses context token BadToken
]

-- after `semi`: optionally `- continuous`
abbrev pub semi_from : Context → TerminalAt → PhraseRule Follows
semi_from context token = elim token.terminal [
  | Sign Plus ↦ goes_to context InSemis []
  | Sign Minus ↦ next >>= λ dash. next >>= last_word context Continuous
  | _ ↦ goes_to context InSemis []
]

abbrev pub section_start : Context → TerminalAt → SectionWord → PhraseRule Follows
section_start context token Minimize = objective context senses.Minimize
section_start context token Maximize = objective context senses.Maximize
section_start context token Rows = goes_to context BetweenRows []
section_start context token Subject = next >>= last_word context To
section_start context token Such = next >>= last_word context That
section_start context token Bounds = goes_to context (InBounds None) []
section_start context token Generals = goes_to context InGenerals []
section_start context token Binaries = goes_to context InBinaries []
section_start context token Semi = ahead >>= semi_from context
section_start context token Semis = goes_to context InSemis []
section_start context token End = line_end context token.line

-- a section word, if a section may begin here
abbrev pub section_from : Context → TerminalAt → SectionWord → PhraseRule Follows
section_from context token word = elim (section_fault context.sections_seen (section_of word)) [
  | Some kind ↦ fails token kind
  | None ↦ section_start (record context { sections_seen = with_section context.sections_seen (section_of word) }) token word
]

-- a section begins anywhere but inside a row
abbrev pub may_begin_section : Place → Bool
may_begin_section (InRow _) = false
may_begin_section _ = true

-- ---- bounds: `x relation side`, `x free`, `side relation x`, `side relation x relation side`

-- a token completes bounds of a column, after these declarations
abbrev pub bound_sides : Context → Declarations → List ℕ → Limits → TerminalAt → Place → PhraseRule Follows
bound_sides context front column limits last place =
    unless_refused context last (bounds_refusals (with_declarations context.builder front) column limits.lower limits.upper) place
    (front ++ bounds_declared column limits.lower limits.upper)

abbrev pub no_limits : Limits
no_limits = record { lower = Some MinusInf; upper = Some PlusInf }

-- after the column: a relation and the right-hand side
abbrev pub bound_right : Context → Declarations → List ℕ → Relation → Side → PhraseRule Follows
bound_right context front column relation right = bound_sides context front column (limits_by relation right.limit) right.last (InBounds None)

-- after the column, from this token on
abbrev pub bound_after : Context → List ℕ → TerminalAt → PhraseRule Follows
bound_after context column token = elim token.terminal [
  | Free ↦ bound_sides context (declare_column column ∷ []) column no_limits token (InBounds None)
  | Compares relation ↦ side context >>= bound_right context (declare_column column ∷ []) column relation
  | _ ↦ refuses context token BadToken
]

-- the column after a left-hand side, which completes that side
abbrev pub bound_column : Context → Limit → Relation → TerminalAt → PhraseRule Follows
bound_column context limit relation token = elim token.terminal [
  | Name column ↦ bound_sides context (declare_column column ∷ []) column (limits_by (flip relation) limit) token (InBounds (Some (column, relation)))
  | _ ↦ refuses context token BadToken
]

-- after a left-hand side
abbrev pub bound_left : Context → Side → PhraseRule Follows
bound_left context left = next_relation context >>= λ relation. next >>= bound_column context left.limit relation

-- a bound that begins with this token
abbrev pub bound : Context → TerminalAt → PhraseRule Follows
bound context token = elim token.terminal [
  | Name column ↦ next >>= bound_after context column
  | _ ↦ side_from context token >>= bound_left context
]

-- after the column of a bound with a left-hand side: a second relation, which is this token, and the right-hand side
abbrev pub second_side : Context → Option (List ℕ × Relation) → Relation → TerminalAt → PhraseRule Follows
second_side context None relation token = refuses context token BadToken
second_side context (Some left) relation token =
    if fits_second left.1 relation then (side context >>= bound_right context [] left.0 relation) else refuses context token MixedSenses

-- ---- names in Generals, Binaries and semi-continuous columns

abbrev pub name_in_section : Place → (List ℕ → Declaration) → Context → TerminalAt → PhraseRule Follows
name_in_section place kind_declared context token = elim token.terminal [
  | Name column ↦ declares context token place (declare_column column ∷ kind_declared column ∷ [])
  | _ ↦ refuses context token BadToken
]

-- ---- the text

-- the phrase that begins with a token that opens no section; at the start only a section may begin
abbrev pub phrase : Place → Context → TerminalAt → PhraseRule Follows
phrase AtStart context token = refuses context token BadToken
phrase (BeforeItems name) context token = item_from context token >>= objective_item context name
phrase (InObjective name) context token = elim token.terminal [
  | Sign sign ↦ signed_item context sign >>= objective_item context name
  | _ ↦ refuses context token BadToken
]
phrase BetweenRows context token = row context token
phrase (InRow partial) context token = elim token.terminal [
  | Sign sign ↦ signed_item context sign >>= row_item context partial
  | Compares relation ↦ row_end context partial relation token
  | _ ↦ refuses context token BadToken
]
phrase (InBounds left) context token = elim token.terminal [
  | Compares relation ↦ second_side context left relation token
  | _ ↦ bound context token
]
phrase InGenerals context token = name_in_section InGenerals declare_integer context token
phrase InBinaries context token = name_in_section InBinaries declare_binary context token
phrase InSemis context token = name_in_section InSemis declare_semi context token

abbrev pub phrase_at : Point → TerminalAt → PhraseRule Follows
phrase_at point token = elim token.terminal [
  | Opens word ↦ if may_begin_section point.place then section_from point.context token word else refuses point.context token BadToken
  | _ ↦ phrase point.place point.context token
]

-- the outcome of the tokens of a text: `end`, the first token that causes an error, or neither
abbrev pub text_says : List TerminalAt → Outcome Fault Draft
text_says tokens = phrases phrase_at start 0 tokens

-- what they declare
abbrev pub text_declares : List TerminalAt → Declarations
text_declares tokens = made_by phrase_at start 0 tokens
