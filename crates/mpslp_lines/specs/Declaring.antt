-- The errors of what a line declares, and the first error of a line.
use Rattle.std.specs.Prelude.{Bool, true, false, List, ◌++◌, map, Option}
use Rattle.mpslp_builder.specs.Declaration.{Declarations, Draft}
use Rattle.mpslp_types.specs.Lists.{those_of}
use Rattle.mpslp_builder.specs.Refusal.{refusals_in_turn}
use Rattle.mpslp_types.specs.FaultOrder.{least_kind}
use Rattle.mpslp_types.specs.declared.faults.BuildFault.{BuildFault}
use Rattle.mpslp_types.specs.declared.faults.BuildFault.TheVariants as builds
use Rattle.mpslp_types.specs.declared.faults.FaultKind.{FaultKind}
use Rattle.mpslp_lines.specs.FaultTests.{FaultTests, kind_of_build_fault}

-- the error of a column that would be both integer and semi-continuous: its kind comes before those of a line's form
abbrev pub is_kind_clash : BuildFault → Bool
is_kind_clash builds.SemiContinuous = true
is_kind_clash _ = false

-- the errors of declarations, each after all before it, including those of the same line
abbrev pub declaring_faults : Draft → Declarations → List FaultKind
declaring_faults earlier declarations = map kind_of_build_fault (refusals_in_turn earlier declarations)

-- the first error of declarations: the least of all, each checked as if those before it had been made
abbrev pub declared_fault : Draft → Declarations → Option FaultKind
declared_fault earlier declarations = least_kind (declaring_faults earlier declarations)

-- the first error of a line: the least of those of its form and of what it declares
abbrev pub first_fault : FaultTests → Draft → Declarations → Option FaultKind
first_fault tests earlier declarations = least_kind (those_of tests ++ declaring_faults earlier declarations)
