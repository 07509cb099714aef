use Rattle.std.{proofs.Common.{◌≡◌, sym, ap, subst, ◌∙◌, List, ℕ, suc, drop, length, ◌<◌, ◌-◌, arith}, specs.Option.option_and_then}
use Rattle.mpslp_builder.specs.FaultFound.{least_name, entry_name, is_below}
use Rattle.mpslp_builder.proofs.ReadingLemmas.{before, least_put, least_failing, least_above}
use Rattle.mpslp_builder.proofs.tables.file_faults.least_faulty.Goals.{else-has_fault-via-then-has_fault+else-is_below}
use Rattle.mpslp_builder.proofs.tables.file_faults.least_faulty.Goals.{else-has_fault-via-else-has_fault}
use Rattle.mpslp_builder.proofs.tables.file_faults.least_faulty.Goals as goal

pub loop-index-preserved-then-is_below : goal.loop-index-preserved-then-is_below
loop-index-preserved-then-is_below g c =
    let es = c.args.entries.now.entries in
    let i = c.loop-index.index - 1 in
    let step : c.loop-index.index ≡ suc i = before c.loop-index.index c.loop-index-test.true in
    let o = option_and_then (entry_name es) c.loop-index.least in
    let so_far = c.loop-index.invariant.name ∙ ap (λ (n : ℕ). least_name (g.V.Faulty.fails c.args.fault) (drop n es)) step in
    let below : i < length es = omega (arith, c.loop-index-test.true, c.loop-index.invariant.within) in
    record {
      name = least_put (g.V.Faulty.fails c.args.fault) es i c.in-Some.name.now c.in-Some.parts.now
          (sym c.in-Some.ensures.entry) o so_far (sym c.if-has_fault.ensures)
          (ap (λ (name : List ℕ). is_below name o) (sym c.as_bytes.ensures) ∙ sym c.if-is_below.ensures);
      there = λ x is. let same : i ≡ x = cc in subst (λ (n : ℕ). n < length es) same below;
      within = omega (arith, c.loop-index.invariant.within);
    }

pub loop-index-preserved-else-has_fault : goal.loop-index-preserved-else-has_fault
loop-index-preserved-else-has_fault g c =
    let es = c.args.entries.now.entries in
    let i = c.loop-index.index - 1 in
    let step : c.loop-index.index ≡ suc i = before c.loop-index.index c.loop-index-test.true in
    let o = option_and_then (entry_name es) c.loop-index.least in
    let so_far = c.loop-index.invariant.name ∙ ap (λ (n : ℕ). least_name (g.V.Faulty.fails c.args.fault) (drop n es)) step in
    record {
      name = elim c.else-has_fault.branch [
        | else-has_fault-via-then-has_fault+else-is_below w ↦
            least_above (g.V.Faulty.fails c.args.fault) es i c.in-Some.name.now c.in-Some.parts.now
            (sym c.in-Some.ensures.entry) o so_far (sym w.if-has_fault.ensures)
            (ap (λ (name : List ℕ). is_below name o) (sym w.as_bytes.ensures) ∙ sym w.if-is_below.ensures)
        | else-has_fault-via-else-has_fault w ↦
            least_failing (g.V.Faulty.fails c.args.fault) es i c.in-Some.name.now c.in-Some.parts.now
            (sym c.in-Some.ensures.entry) o so_far (sym w.if-has_fault.ensures)
      ];
      there = c.loop-index.invariant.there;
      within = omega (arith, c.loop-index.invariant.within);
    }
