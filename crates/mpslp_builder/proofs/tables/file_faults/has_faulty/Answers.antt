use Rattle.std.proofs.Common.{◌≡◌, sym, ap, ◌∙◌, ℕ, suc, drop, length, ◌<◌, ◌-◌, arith}
use Rattle.std.specs.{Prelude.{None, slice_get}, Option.option_map, List.list_any}
use Rattle.mpslp_builder.proofs.ReadingLemmas.{any_at, drop_all, none_from, before, there}
use Rattle.mpslp_builder.proofs.tables.file_faults.has_faulty.Goals as goal

pub loop-index-init : goal.loop-index-init
loop-index-init g c = record {
  none = ap (λ (n : ℕ). list_any (λ e. g.V.Faulty.is_wrong e.1) (drop n c.args.entries.now.entries)) c.len-index.ensures.len
      ∙ drop_all (λ e. g.V.Faulty.is_wrong e.1) c.args.entries.now.entries;
  within = omega (arith, c.len-index.ensures.len);
}

pub returns-then-is_faulty : goal.returns-then-is_faulty
returns-then-is_faulty g c = any_at (λ e. g.V.Faulty.is_wrong e.1) c.args.entries.now.entries (c.loop-index.index - 1)
    (c.in-Some._name.now, c.in-Some.parts.now) (sym c.in-Some.ensures.entry) (sym c.if-is_faulty.ensures)

pub loop-index-preserved-else-is_faulty : goal.loop-index-preserved-else-is_faulty
loop-index-preserved-else-is_faulty g c =
    let step : c.loop-index.index ≡ suc (c.loop-index.index - 1) = before c.loop-index.index c.loop-index-test.true in
    record {
      none = none_from (λ e. g.V.Faulty.is_wrong e.1) c.args.entries.now.entries (c.loop-index.index - 1)
          (c.in-Some._name.now, c.in-Some.parts.now) (sym c.in-Some.ensures.entry) (sym c.if-is_faulty.ensures)
          (ap (λ (n : ℕ). list_any (λ e. g.V.Faulty.is_wrong e.1) (drop n c.args.entries.now.entries)) (sym step)
          ∙ c.loop-index.invariant.none);
      within = omega (arith, c.loop-index.invariant.within);
    }

pub loop-index-preserved : goal.loop-index-preserved
loop-index-preserved g c = let below : c.loop-index.index - 1 < length c.args.entries.now.entries =
    omega (arith, c.loop-index-test.true, c.loop-index.invariant.within) in
    let none : None ≡ slice_get c.args.entries.now.entries (c.loop-index.index - 1) = ap (option_map _) (sym c.in_default.is)
    ∙ c.get_index.ensures.entry in absurd (there c.args.entries.now.entries (c.loop-index.index - 1) below (sym none))

pub returns : goal.returns
returns g c = let zero : c.loop-index.index ≡ 0 = omega (arith, c.loop-index-test.false) in sym
    (ap (λ (n : ℕ). list_any (λ e. g.V.Faulty.is_wrong e.1) (drop n c.args.entries.now.entries)) (sym zero)
    ∙ c.loop-index.invariant.none)
