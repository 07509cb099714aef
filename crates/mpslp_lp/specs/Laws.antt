-- Laws of LP text.
use Rattle.std.specs.Prelude.{◌≡◌, ℕ, Bool, true, false, IsTrue, List}
use Rattle.std.specs.List.{list_all}
use Rattle.mpslp_types.specs.Name.{is_lp_name}
use Rattle.mpslp_builder.specs.Declaration.{Declaration, declare_objective, declare_row, declare_column}
use Rattle.mpslp_model_core.specs.Model.{LinearModel}
use Rattle.mpslp_types.specs.declared.faults.Fault.{Fault}
use Rattle.mpslp_lines.specs.FaultTests.{is_legal_byte}
use Rattle.mpslp_lp_tokens.specs.Token.{outside_comment, Token, tokens}
use Rattle.mpslp_lp_tokens.specs.declared.tokens.TokenKind.{TokenKind}
use Rattle.mpslp_lp_tokens.specs.declared.tokens.TokenKind.TheVariants.{Unknown}
use Rattle.mpslp_lp.specs.LpText.{declarations_of, DeclaresLp}
use Rattle.mpslp_lp.specs.FirstFault.{IsFirstLpFault}
use Rattle.mpslp_lp_grammar.specs.Rules.Outcome.{Refused}
use Rattle.mpslp_lp.specs.Fed.{lines_outcome, IsFaultOfLines}

-- a name that a declaration declares is an LP name
abbrev pub has_lp_name : Declaration → Bool
has_lp_name (declare_objective name) = is_lp_name name
has_lp_name (declare_row name form) = is_lp_name name
has_lp_name (declare_column name) = is_lp_name name
has_lp_name _ = true

-- The names that bytes declare are LP names.
abbrev pub DeclareLpNames : Type 0
DeclareLpNames = (bytes : List ℕ) → IsTrue (list_all has_lp_name (declarations_of bytes))

-- Two models that the same bytes declare are equal.
abbrev pub DeclareOneModel : Type 0
DeclareOneModel = (bytes : List ℕ) (m n : LinearModel) → DeclaresLp bytes m → DeclaresLp bytes n → m ≡ n

-- Two first errors of the same bytes are equal.
abbrev pub HaveOneFirstFault : Type 0
HaveOneFirstFault = (bytes : List ℕ) (a b : Fault) → IsFirstLpFault bytes a → IsFirstLpFault bytes b → a ≡ b

-- No bytes both declare a model and have a first error.
abbrev pub DeclareOrFail : Type 0
DeclareOrFail = (bytes : List ℕ) (m : LinearModel) (fault : Fault) → DeclaresLp bytes m → IsFirstLpFault bytes fault → ⊥

-- Bytes without a first error declare a model.
abbrev pub DeclareUnlessFaulty : Type 0
DeclareUnlessFaulty = (bytes : List ℕ) → ((fault : Fault) → IsFirstLpFault bytes fault → ⊥) → (m : LinearModel) × DeclaresLp bytes m

abbrev pub has_legal_bytes : List ℕ → Bool
has_legal_bytes line = list_all is_legal_byte (outside_comment line)

abbrev pub is_known : TokenKind → Bool
is_known Unknown = false
is_known _ = true

-- The bytes of a line are legal if and only if none of its tokens is unknown.
abbrev pub UnknownAreIllegal : Type 0
UnknownAreIllegal = (line : List ℕ) → has_legal_bytes line ≡ list_all (λ (token : Token). is_known token.kind) (tokens line)

-- The error of a text of some lines is that of every text that begins with these lines.
abbrev pub FaultStaysWhenLinesFollow : Type 0
FaultStaysWhenLinesFollow = (text : List (List ℕ)) (fault : Fault) → lines_outcome text ≡ Refused fault → IsFaultOfLines text fault
