use Rattle.mpslp_lp_write.proofs.Prelude
use Prelude.{◌≡◌, sym, subst, ◌+◌, ◌-◌, ◌<◌, ◌≤◌, ℕ, List, [], arith, Bor, slice_index_or, Number, LinearModel, row_name, row_columns}
use Prelude.{IsTerm, AreTerms, AreNamesOf, numbered_term_lines, flat_map-next, prints_then, prints_same}
use Rattle.mpslp_lp_write.proofs.lp.rows.put_many_terms.Goals.{then-k-from-eq-AHEAD, else-k-from-eq-AHEAD}
use Rattle.mpslp_lp_write.proofs.lp.rows.put_many_terms.Goals as goal

-- the terms from `from` on are known with the names of their columns, and term `k` is one of them
record IsNear (m : LinearModel) (i k from : ℕ) (terms : List (ℕ × Number)) (names : List (Bor (List ℕ))) : Type 0 where
  begun : from ≤ k
  near : k - from < 8
  known : AreTerms m i from 8 terms
  named : AreNamesOf m i from 8 terms names

near-as : (m : LinearModel) (i k from other : ℕ) (terms others : List (ℕ × Number)) (names other-names : List (Bor (List ℕ)))
    → other ≡ from → others ≡ terms → other-names ≡ names → IsNear m i k from terms names → IsNear m i k other others other-names
near-as m i k from other terms others names other-names from-is terms-is names-is near =
    subst (λ (f : ℕ). IsNear m i k f others other-names) (sym from-is)
    (subst (λ (ts : List (ℕ × Number)). IsNear m i k from ts other-names) (sym terms-is)
    (subst (λ (ns : List (Bor (List ℕ))). IsNear m i k from terms ns) (sym names-is) near))

pub put_term-requires-clause-term : goal.put_term-requires-clause-term
put_term-requires-clause-term g c =
    let m = c.args.model.now in
    let i = c.args.i in
    let k = c.loop-k.k in
    let from = c.if-k-from-eq-AHEAD.from in
    let terms = c.if-k-from-eq-AHEAD.terms in
    let names = c.if-k-from-eq-AHEAD.names in
    let now : IsNear m i k from terms names = elim c.if-k-from-eq-AHEAD.branch [
      | then-k-from-eq-AHEAD w ↦
          near-as m i k k from w.look_up_terms-then-k-from-eq-AHEAD.new.terms terms
          w.names_of-names-then-k-from-eq-AHEAD.result names w.from-is w.terms-is w.names-is
          (record {
            begun = omega arith;
            near = omega arith;
            known =
                w.look_up_terms-then-k-from-eq-AHEAD.ensures;
            named = w.names_of-names-then-k-from-eq-AHEAD.ensures;
          })
      | else-k-from-eq-AHEAD w ↦
          near-as m i k c.loop-k.from from c.loop-k.terms terms c.loop-k.names names w.from-is w.terms-is w.names-is
          (record {
            begun = c.loop-k.invariant.begun;
            near =
                omega (arith, c.loop-k.invariant.near, w.if-k-from-eq-AHEAD.false);
            known =
                c.loop-k.invariant.known;
            named = c.loop-k.invariant.named;
          })
    ] in
    let place : from + (k - from) ≡ k = omega (arith, now.begun) in
    subst (λ (n : ℕ). IsTerm m i n (slice_index_or terms (k - from) c.index-terms-k.result)) place
    (now.known (k - from) c.index-terms-k.result now.near (omega (arith, place, c.loop-k-test.true, c.row_len-k-end.ensures)))

pub loop-k-preserved : goal.loop-k-preserved
loop-k-preserved g c =
    let m = c.args.model.now in
    let i = c.args.i in
    let k = c.loop-k.k in
    let row = row_name m i in
    let from = c.if-k-from-eq-AHEAD.from in
    let terms = c.if-k-from-eq-AHEAD.terms in
    let names = c.if-k-from-eq-AHEAD.names in
    let now : IsNear m i k from terms names = elim c.if-k-from-eq-AHEAD.branch [
      | then-k-from-eq-AHEAD w ↦
          near-as m i k k from w.look_up_terms-then-k-from-eq-AHEAD.new.terms terms
          w.names_of-names-then-k-from-eq-AHEAD.result names w.from-is w.terms-is w.names-is
          (record {
            begun = omega arith;
            near = omega arith;
            known =
                w.look_up_terms-then-k-from-eq-AHEAD.ensures;
            named = w.names_of-names-then-k-from-eq-AHEAD.ensures;
          })
      | else-k-from-eq-AHEAD w ↦
          near-as m i k c.loop-k.from from c.loop-k.terms terms c.loop-k.names names w.from-is w.terms-is w.names-is
          (record {
            begun = c.loop-k.invariant.begun;
            near =
                omega (arith, c.loop-k.invariant.near, w.if-k-from-eq-AHEAD.false);
            known =
                c.loop-k.invariant.known;
            named = c.loop-k.invariant.named;
          })
    ] in
    record {
      put = prints_same (flat_map-next (numbered_term_lines m row) (row_columns m row) k)
          (prints_then c.loop-k.invariant.put c.put_term.ensures);
      begun = omega (arith, now.begun);
      near = omega (arith, now.begun, now.near);
      known = now.known;
      named = now.named;
    }

pub put_term-requires-clause-name : goal.put_term-requires-clause-name
put_term-requires-clause-name g c =
    let m = c.args.model.now in
    let i = c.args.i in
    let k = c.loop-k.k in
    let from = c.if-k-from-eq-AHEAD.from in
    let terms = c.if-k-from-eq-AHEAD.terms in
    let names = c.if-k-from-eq-AHEAD.names in
    let now : IsNear m i k from terms names = elim c.if-k-from-eq-AHEAD.branch [
      | then-k-from-eq-AHEAD w ↦
          near-as m i k k from w.look_up_terms-then-k-from-eq-AHEAD.new.terms terms
          w.names_of-names-then-k-from-eq-AHEAD.result names w.from-is w.terms-is w.names-is
          (record {
            begun = omega arith;
            near = omega arith;
            known =
                w.look_up_terms-then-k-from-eq-AHEAD.ensures;
            named = w.names_of-names-then-k-from-eq-AHEAD.ensures;
          })
      | else-k-from-eq-AHEAD w ↦
          near-as m i k c.loop-k.from from c.loop-k.terms terms c.loop-k.names names w.from-is w.terms-is w.names-is
          (record {
            begun = c.loop-k.invariant.begun;
            near =
                omega (arith, c.loop-k.invariant.near, w.if-k-from-eq-AHEAD.false);
            known =
                c.loop-k.invariant.known;
            named = c.loop-k.invariant.named;
          })
    ] in
    let place : from + (k - from) ≡ k = omega (arith, now.begun) in
    now.named (k - from) c.index-terms-k.result (record { ref_ptr = (0, 0); now = [] }) now.near
    (omega (arith, place, c.loop-k-test.true, c.row_len-k-end.ensures))
