use Rattle.std.proofs.Common.{arith, sym, ap, ◌∙◌, map}
use Rattle.mpslp_mps_text.specs.CanonicalMps.{bound_line}
use Rattle.mpslp_mps_write.proofs.BoundLines.{fixed-bounds, other-bounds}
use Rattle.mpslp_io.proofs.OutputLemmas.{prints_same}
use Rattle.mpslp_mps_write.proofs.mps.bounds.put_bounds_of.Goals as goal

pub returns-then-are_free : goal.returns-then-are_free
returns-then-are_free = grind arith

pub returns-in-Some : goal.returns-in-Some
returns-in-Some g c =
    prints_same (ap (map (bound_line c.args.column.now))
    (fixed-bounds c.args.kind c.args.lower.now c.args.upper.now c.in-Some.value (sym c.fixed_value.ensures ∙ c.in-Some.is)))
    c.put_valued_bound.ensures

pub returns-in-None : goal.returns-in-None
returns-in-None = grind (arith, prints_same, other-bounds)
