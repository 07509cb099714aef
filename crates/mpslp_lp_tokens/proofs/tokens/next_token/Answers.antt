use Rattle.std.proofs.{Common.{ap, arith, drop, get_or, length, refl, sym, take, ℕ, ◌+◌, ◌-◌, ◌∙◌}, lemmas.Bool.eqb-true}
use Rattle.std.specs.Prelude.{◌==◌}
use Rattle.mpslp_lp_tokens.proofs.SliceLemmas.{at-comment, at-end, next-found, no-comment, size-within, some-left}
use Rattle.mpslp_lp_tokens.proofs.tokens.next_token.Goals.{then-is_empty-via-else-is_empty+then-rest-eq92, then-is_empty-via-then-is_empty}
use Rattle.mpslp_lp_tokens.proofs.tokens.next_token.Goals as goal

pub returns-then-is_empty : goal.returns-then-is_empty
returns-then-is_empty c =
    let rest = take (length c.args.line.now - (c.args.at + c.blanks_len.result))
    (drop (c.args.at + c.blanks_len.result) c.args.line.now) in
    elim c.then-is_empty.branch [
      | then-is_empty-via-then-is_empty w ↦
          at-end c.args.line.now c.args.at c.blanks_len.result c.blanks_len.ensures.count
          (omega (arith, eqb-true (length rest) 0 (sym c.is_empty.ensures ∙ w.if-is_empty.true)))
      | then-is_empty-via-else-is_empty+then-rest-eq92 w ↦
          at-comment c.args.line.now c.args.at c.blanks_len.result c.blanks_len.ensures.count
          (some-left (length rest) (sym c.is_empty.ensures ∙ w.if-is_empty.false)) (ap (λ (b : ℕ). b == 92) w.if-rest-eq92.true)
    ]

pub slice_bounds-result-end : goal.slice_bounds-result-end
slice_bounds-result-end c =
    let rest = take (length c.args.line.now - (c.args.at + c.blanks_len.result))
    (drop (c.args.at + c.blanks_len.result) c.args.line.now) in
    size-within rest c.front_at-front.result.size (some-left (length rest) (sym c.is_empty.ensures ∙ c.if-is_empty.false))
    c.front_at-front.ensures.size

pub returns : goal.returns
returns c =
    let rest = take (length c.args.line.now - (c.args.at + c.blanks_len.result))
    (drop (c.args.at + c.blanks_len.result) c.args.line.now) in
    next-found c.args.line.now c.args.at c.blanks_len.result _ c.blanks_len.ensures.count
    (omega (arith, c.requires, c.blanks_len.ensures.within))
    (some-left (length rest) (sym c.is_empty.ensures ∙ c.if-is_empty.false))
    (no-comment (get_or rest 0 0) c.if-rest-eq92.false) c.front_at-front.ensures.kind refl
    c.front_at-front.result.size c.front_at-front.ensures.size refl
