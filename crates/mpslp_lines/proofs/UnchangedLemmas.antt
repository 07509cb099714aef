-- What holds after a line with an error.
use Rattle.std.{proofs.Common.{arith, ◌≡◌}, specs.Prelude.{Err, IsErrAnd, None, Option}}
use Rattle.mpslp_builder.specs.Declaration.{Declarations, Draft}
use Rattle.mpslp_types.specs.declared.faults.FaultKind.{FaultKind}
use Rattle.mpslp_lines.specs.{Declaring.declared_fault, LineAnswer.{AreDeclared, IfFault, IsErrorOf, LineResult}}
use Rattle.mpslp_lines.specs.declared.errors.LineError.{LineError}

-- of a call that ends with this error
pub if_fault-ends : (answer : LineResult) (error : LineError) (Claim : Type 0) → IsErrAnd answer (λ e. e ≡ error)
    → IfFault (Err error) Claim → IfFault answer Claim
if_fault-ends = grind arith

-- without an error of the line, an allocation failed
pub if_fault-none : (first_fault : Option FaultKind) (error : LineError) (Claim : Type 0) → first_fault ≡ None →
    IsErrorOf first_fault error → IfFault (Err error) Claim
if_fault-none = grind arith

-- declarations without an error are not rejected
pub if_fault-declared : (earlier later : Draft) (ds : Declarations) (answer : LineResult) (Claim : Type 0)
    → declared_fault earlier ds ≡ None → AreDeclared earlier ds answer later
    → IfFault answer Claim
if_fault-declared = grind arith
