use Rattle.std.proofs.Common.{◌≡◌, sym, ap, ◌∙◌, ℕ, List, ◌+◌, ◌<◌, length, take, get_or, set, sum, ◌⊎◌, inl, inr, arith}
use Rattle.std.proofs.lemmas.{Bool.cases_eq, List.{length-set, take_more, get_or_read, get_or-set_same, get_or-set_other, Sums.fold_push}}
use Rattle.mpslp_model_core.proofs.by_row.starts_of.Goals as goal

written : (counts old : List ℕ) (i k total : ℕ) → i < length counts → total ≡ sum (take i old) → (k < i
    → get_or counts k 0 ≡ sum (take k old)) → k < i + 1 → (k ≡ i) ⊎ (k ≡ i → ⊥) →
    get_or (set counts i total) k 0 ≡ sum (take k old)
written counts old i k total within all done below (inl same) = ap (λ (n : ℕ). get_or (set counts i total) n 0) same
    ∙ get_or-set_same counts i total 0 within ∙ all ∙ ap (λ (n : ℕ). sum (take n old)) (sym same)
written counts old i k total within all done below (inr other) = get_or-set_other counts i k total 0 other ∙ done (lower other)
  where
    lower : (k ≡ i → ⊥) → k < i
    lower other = omega arith

pub loop-i-preserved : goal.loop-i-preserved
loop-i-preserved c =
    let old = c.args.counts.now.items in
    let counts = c.loop-i.counts.items in
    let i = c.loop-i.i in
    let total = c.loop-i.total in
    let count = c.index-count.result.now in
    let len = c.loop-i.invariant.len in
    let within : i < length counts = omega arith in
    let read : count ≡ get_or old i 0 = get_or_read counts i count within c.index-count.ensures 0
    ∙ c.loop-i.invariant.left i (omega arith) in
    record {
      len = length-set counts i total ∙ len;
      total = c.in-Some.ensures.1
          ∙ (λ t. c.loop-i.invariant.total t + read t)
          ∙ sym (ap sum (take_more old i 0 (omega arith)) ∙ fold_push (λ (a x : ℕ). a + x) 0 (take i old) (get_or old i 0));
      done = λ k below. written counts old i k total within c.loop-i.invariant.total (c.loop-i.invariant.done k) below
          (cases_eq k i);
      left = λ k above. get_or-set_other counts i k total 0 (λ same. omega arith) ∙ c.loop-i.invariant.left k (omega arith);
    }
