-- The first error of declarations one after another, and of declarations without an error.
use Rattle.std.{proofs.Common.{Bool, List, [], arith, map, refl, true, ◌++◌, ◌≡◌}, specs.{Option.option_map_or, Prelude.{None, Option}}}
use Rattle.std.specs.Prelude.{Some}
use Rattle.mpslp_types.specs.declared.faults.{BuildFault.BuildFault, FaultKind.FaultKind}
use Rattle.mpslp_builder.specs.{Declaration.{Declarations, Draft, with_declarations}, Refusal.refusals_in_turn}
use Rattle.mpslp_lines.{proofs.{LeastLemmas.{earlier_of, is_from}, RefusedLemmas.declared-append}, specs.Declaring.declared_fault}
use Rattle.mpslp_lines.specs.{Declaring.declaring_faults, FaultTests.kind_of_build_fault}

-- what comes after declarations without an error
pub declared-after : (earlier : Draft) (xs ys : Declarations) → declared_fault earlier xs ≡ None
    → declared_fault earlier (xs ++ ys) ≡ declared_fault (with_declarations earlier xs) ys
declared-after = grind (arith, declared-append, earlier_of)

-- declarations without an error are not rejected
pub unrefused : (earlier : Draft) (ds : Declarations) → declaring_faults earlier ds ≡ [] → refusals_in_turn earlier ds ≡ []
unrefused earlier ds h = by _ h
  where
    by : (refusals : List BuildFault) → map kind_of_build_fault refusals ≡ [] → refusals ≡ []
    by [] e = refl
    by _ e = cc

-- ---- kinds that do not come before a given one

abbrev pub are_from : FaultKind → Option FaultKind → Bool
are_from kind o = option_map_or (is_from kind) o true

pub from-earlier : (kind : FaultKind) (o p : Option FaultKind) → are_from kind o ≡ true → are_from kind p ≡ true
    → are_from kind (earlier_of o p) ≡ true
from-earlier kind None p h k = k
from-earlier kind (Some a) None h k = h
from-earlier kind (Some a) (Some b) h k = grind arith
