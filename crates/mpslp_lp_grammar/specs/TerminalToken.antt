-- What the code sees of a token: a terminal, or the lexical error of the token.
use Rattle.std.specs.Prelude.{◌≡◌, ℕ, List, Option, None, Some, Result, MatchResult, map}
use Rattle.mpslp_types.specs.Name.{IsMpsName}
use Rattle.mpslp_types.specs.Limit.{limit_of}
use Rattle.mpslp_types.specs.declared.kinds.Limit.{Limit}
use Rattle.mpslp_lp_grammar.specs.declared.signs.Sign.{Sign as SignOf}
use Rattle.mpslp_lp_grammar.specs.Items.{apply_sign, infinity}
use Rattle.mpslp_types.specs.declared.faults.FaultKind.{FaultKind}
use Rattle.mpslp_lines.specs.FaultTests.{value_of, number_fault}
use Rattle.mpslp_lp_tokens.specs.Token.{class_of, Token, tokens}
use Rattle.mpslp_lp_grammar.specs.Terminal.{Terminal, word_terminal, terminal_of, word_fault, token_fault}
use Rattle.mpslp_lp_grammar.specs.declared.terminals.TerminalToken.{TerminalToken}
use Rattle.mpslp_lp_grammar.specs.declared.terminals.TerminalKind.{TerminalKind}
use Rattle.mpslp_lp_grammar.specs.declared.terminals.TerminalKind.TheVariants.{Opens, Name, Number, Sign, Compares, Colon, Infinity, Free, Other}
use Rattle.mpslp_lp_tokens.specs.declared.tokens.TokenKind.{TokenKind}

-- the terminal; a name has this text
abbrev pub terminal_with_text : TerminalKind → List ℕ → Terminal
terminal_with_text (Opens word) text = Terminal.Opens word
terminal_with_text Name text = Terminal.Name text
terminal_with_text (Number value) text = Terminal.Number value
terminal_with_text (Sign sign) text = Terminal.Sign sign
terminal_with_text (Compares relation) text = Terminal.Compares relation
terminal_with_text Colon text = Terminal.Colon
terminal_with_text Infinity text = Terminal.Infinity
terminal_with_text Free text = Terminal.Free
terminal_with_text Other text = Terminal.Other

abbrev pub terminal_of_token : TerminalToken → Terminal
terminal_of_token token = terminal_with_text token.kind token.text.now

-- a token that is seen as a name is a legal name
abbrev pub HasLegalNameKind : TerminalKind → List ℕ → Type 0
HasLegalNameKind Name text = IsMpsName text
HasLegalNameKind _ text = Unit {0}

abbrev pub HasLegalName : TerminalToken → Type 0
HasLegalName token = HasLegalNameKind token.kind token.text.now

-- the limit that a number or an infinity gives after the signs
abbrev pub limit_of_terminal : (sign : SignOf) → Terminal → Option Limit
limit_of_terminal sign (Terminal.Number value) = Some (limit_of (apply_sign sign value))
limit_of_terminal sign Terminal.Infinity = Some (infinity sign)
limit_of_terminal sign _ = None

abbrev pub IsTerminalOfWord : List ℕ → Result TerminalKind FaultKind → Type 0
IsTerminalOfWord text answer =
    MatchResult answer
    (λ token. (word_fault text (class_of text) ≡ None) × (terminal_with_text token text ≡ word_terminal text (class_of text)) × HasLegalNameKind token text)
    (λ kind. word_fault text (class_of text) ≡ Some kind)

abbrev pub IsTerminalOfNumber : List ℕ → Result TerminalKind FaultKind → Type 0
IsTerminalOfNumber literal answer =
    MatchResult answer
    (λ token. (number_fault literal ≡ None) × (terminal_with_text token literal ≡ Terminal.Number (value_of literal)) × HasLegalNameKind token literal)
    (λ kind. number_fault literal ≡ Some kind)

abbrev pub IsTerminalOf : TokenKind → List ℕ → Result TerminalKind FaultKind → Type 0
IsTerminalOf kind text answer =
    MatchResult answer
    (λ token. (token_fault kind text ≡ None) × (terminal_with_text token text ≡ terminal_of kind text) × HasLegalNameKind token text)
    (λ fault. token_fault kind text ≡ Some fault)

abbrev pub as_terminal : Token → Terminal
as_terminal token = terminal_of token.kind token.text

-- the terminals of a line
abbrev pub terminals : List ℕ → List Terminal
terminals line = map as_terminal (tokens line)
