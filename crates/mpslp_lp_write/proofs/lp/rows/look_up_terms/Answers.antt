use Rattle.mpslp_lp_write.proofs.Prelude
use Prelude.{◌≡◌, sym, subst, ◌∙◌, ◌+◌, ◌<◌, ℕ, length, inl, inr, arith, set, slice_index_or, cases_lt, length-set, get_or-set_same}
use Prelude.{get_or-set_other, Number, IsTerm}
use Rattle.mpslp_lp_write.proofs.lp.rows.look_up_terms.Goals as goal

pub loop-n-preserved : goal.loop-n-preserved
loop-n-preserved c =
    let before = c.loop-n.invariant in
    let terms = c.loop-n.terms in
    let n = c.loop-n.n in
    let found = c.row_entry.result in
    let within : n < length terms = omega (arith, before.len, c.loop-n-test.true) in
    record {
      len = length-set terms n found ∙ before.len;
      known = λ p default below inside. elim (cases_lt p n) [
        | inl less ↦
            subst (λ (term : ℕ × Number). IsTerm c.args.model.now c.args.i (c.args.from + p) term)
            (sym (get_or-set_other terms n p found default (λ same. omega (arith, less, same))))
            (before.known p default less inside)
        | inr more ↦
            let same : p ≡ n = omega (arith, below, more) in
            subst (λ (q : ℕ). IsTerm c.args.model.now c.args.i (c.args.from + q)
            (slice_index_or (set terms n found) q default)) (sym same)
            (subst (λ (term : ℕ × Number). IsTerm c.args.model.now c.args.i (c.args.from + n) term)
            (sym (get_or-set_same terms n found default within))
            (record { column = c.row_entry.ensures.column; value = c.row_entry.ensures.value }))
      ];
    }

pub returns : goal.returns
returns c = λ n default below inside.
    c.loop-n.invariant.known n default
    (omega (arith, below, inside, c.loop-n-test.false, c.min-count.ensures, c.row_len.ensures)) inside
