use Rattle.std.{proofs.Common.{rules, ◌≡◌, ◌≤◌, sym, ap, ◌∙◌, subst, arith, ℕ, List, length, inl, inr}, specs.Prelude.{None}}
use Rattle.mpslp_lp_grammar.specs.declared.{signs.Sign.{Sign}, states.{Place.TheVariants.{InRow}, State.TheVariants.{Between, RowLabel}}}
use Rattle.mpslp_lp_grammar.specs.Rows.{without_terms}
use Rattle.mpslp_lp_tokens.specs.Token.{Token}
use Rattle.mpslp_lp.specs.{PlainTerm.{IsPlainTerm}, LineByLine.{take_tokens}}
use Rattle.mpslp_lp.proofs.plain_terms.take_first_terms.Goals as goal

-- a term has tokens
term_shortens : (found : List Token) (first : Sign) (literal column : List ℕ) (more : List Token)
    → IsPlainTerm found first literal column more → length more ≤ length found
term_shortens found first literal column more term =
    let sign = ap length term.sign.tokens in
    let name = ap length term.term.name.tokens in
    elim term.term.number as (λ _. length more ≤ length found) [
      | inl number ↦ let both = ap length number.tokens in omega (arith, sign, both, name)
      | inr none ↦ let same : length term.term.after_number ≡ length term.after_sign = ap length none.1 in
          omega (arith, sign, same, name)
    ]

pub returns : goal.returns
returns c = λ found plain. let term = c.args.term in
    let row : c.in_ok-row.row ≡ without_terms c.args.name None = search rules in
    let same : c.row_without_terms.new.context ≡ c.args.context.now = search rules in
    let left : c.again.result ≡ c.args.left = search rules in
    let again = subst (λ more. IsPlainTerm found term.sign term.literal.now term.column.now more) (sym left) plain in
    let fewer = term_shortens _ _ _ _ _ plain in (
      ap (λ state. take_tokens c.row_without_terms.new.context state c.in_ok-rest.rest) c.set_state.ensures
          ∙ c.in_ok-rest.ensures.0 ∙ ap (λ tokens. take_tokens c.row_without_terms.new.context
          (Between (InRow c.take_plain_term.new.row)) tokens) (sym left) ∙ c.in_ok-take_plain_term.ensures.first
          found c.args.name again row ∙ ap (λ context. take_tokens context (RowLabel c.args.name) found) same,
      omega (arith, c.in_ok-rest.ensures.1, fewer),
    )
