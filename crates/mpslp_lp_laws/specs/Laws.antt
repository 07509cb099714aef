-- Laws of canonical LP texts.
use Rattle.std.specs.Prelude.{◌≡◌, ◌↔◌, ℕ, List, map, None, IsTrue, is_none}
use Rattle.std.specs.List.{list_all}
use Rattle.std.specs.Str.Lines.{lines}
use Rattle.mpslp_model_core.specs.Model.{LinearModel, IsSound}
use Rattle.mpslp_lp_tokens.specs.Token.{Token, tokens}
use Rattle.mpslp_lp_grammar.specs.Terminal.{lexical_fault}
use Rattle.mpslp_lp.specs.LpText.{DeclaresLp}
use Rattle.mpslp_lp_laws.specs.PrintedDeclarations.{SeenToken, line_tokens}
use Rattle.mpslp_lp_text.specs.Printed.{line_text}
use Rattle.mpslp_lp_text.specs.CanonicalLp.{canonical_lines, canonical_lp}
use Rattle.mpslp_lp_text.specs.Unfit.{unfit}

-- the kinds and texts of the tokens of a line
abbrev pub tokens_seen : List ℕ → List SeenToken
tokens_seen line = map (λ (token : Token). (token.kind, token.text)) (tokens line)

-- The canonical text of a model consists of the lines that were printed; none of them has an error of its own; and the
-- tokens of each are those from which its pieces were printed.
pub record IsReadAsPrinted (m : LinearModel) : Type 0 where
  pub lines_are : lines (canonical_lp m) ≡ map line_text (canonical_lines m)
  pub faultless : IsTrue (list_all (λ line. is_none (lexical_fault line)) (map line_text (canonical_lines m)))
  pub tokens_are : map tokens_seen (map line_text (canonical_lines m)) ≡ map line_tokens (canonical_lines m)

-- It is read like this if the model is well-formed and all its names are LP names.
abbrev pub AreReadAsPrinted : Type 0
AreReadAsPrinted = (m : LinearModel) → IsSound m → unfit m ≡ None → IsReadAsPrinted m

-- The canonical text of a well-formed model with LP names declares it.
abbrev pub DeclareTheirModels : Type 0
DeclareTheirModels = (m : LinearModel) → IsSound m → unfit m ≡ None → DeclaresLp (canonical_lp m) m

-- Well-formed models with LP names have the same canonical text if and only if they are equal.
abbrev pub DistinguishModels : Type 0
DistinguishModels = (m n : LinearModel) → IsSound m → unfit m ≡ None → IsSound n → unfit n ≡ None → (canonical_lp m ≡ canonical_lp n) ↔ (m ≡ n)

-- What LP text declares is well-formed, and LP can express it.
abbrev pub DeclareWhatFits : Type 0
DeclareWhatFits = (bytes : List ℕ) (m : LinearModel) → DeclaresLp bytes m → IsSound m × (unfit m ≡ None)
