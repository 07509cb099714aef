-- Why a line with a rejected name or declaration is rejected.
use Rattle.mpslp_types.specs.declared.names.NameFault.{NameFault}
use Rattle.mpslp_types.specs.declared.names.NameFault.TheVariants as names
use Rattle.mpslp_types.specs.declared.faults.BuildFault.{BuildFault}
use Rattle.mpslp_types.specs.declared.faults.BuildFault.TheVariants as builds
use Rattle.mpslp_types.specs.declared.faults.FaultKind.TheVariants as kinds
use Rattle.mpslp_lines.specs.FaultTests.{kind_of_build_fault}
use Rattle.mpslp_lines.specs.declared.errors.LineError.{LineError}
use Rattle.mpslp_lines.specs.declared.errors.LineError.TheVariants.{Fault, OutOfMemory}

abbrev pub error_of_name : NameFault → LineError
error_of_name names.NameLength = Fault kinds.NameLength
error_of_name names.NameByte = Fault kinds.NameByte
error_of_name names.NameMarker = Fault kinds.NameMarker
error_of_name names.OutOfMemory = OutOfMemory

abbrev pub error_of_build : BuildFault → LineError
error_of_build builds.OutOfMemory = OutOfMemory
error_of_build fault = Fault (kind_of_build_fault fault)
