use Rattle.std.proofs.Common.{refl, sym, subst, ◌∙◌, add-one, ℕ, inl, inr, arith}
use Rattle.mpslp_io.specs.EachCall.{AreCalls}
use Rattle.mpslp_io.proofs.each.put_each.Goals as goal

pub loop-i-init : goal.loop-i-init
loop-i-init g c = refl

pub loop-i-preserved : goal.loop-i-preserved
loop-i-preserved g c =
    subst (λ (n : ℕ). AreCalls g.F.Fn c.args.put n c.args.output.now c.put.new.arg3) (sym (add-one c.loop-i.i)) (
      c.loop-i.output,
      c.loop-i.invariant,
      record
          { before = _; after = _; before_is = refl; after_is = refl; met = c.put.ensures },
    )

pub returns-then-has_failed : goal.returns-then-has_failed
returns-then-has_failed g c =
    record {
      made = c.loop-i.i;
      within = c.loop-i.auto.i-end;
      calls = c.loop-i.invariant;
      ends =
          inr (sym c.has_failed.ensures ∙ c.if-has_failed.true);
    }

pub returns : goal.returns
returns g c = record { made = c.loop-i.i; within = c.loop-i.auto.i-end; calls = c.loop-i.invariant; ends = inl (omega arith) }
