-- Errors as C sees them.
use Rattle.std.specs.Prelude.{◌≡◌, ◌-◌, ◌++◌, ℕ, List, [], length, replicate, unwrap_or, codes}
use Rattle.mpslp_types.specs.FaultName.{kind_name}
use Rattle.mpslp_types.specs.declared.faults.Fault.{Fault}
use Rattle.mpslp_types.specs.declared.faults.NameAt.{NameAt}
use Rattle.mpslp_types.specs.declared.faults.NameAt.TheVariants.{Objective, Row, Column}
use Rattle.mpslp_conversions.specs.declared.faults.ConvertFault.{ConvertFault}
use Rattle.mpslp_conversions.specs.declared.faults.ConvertFault.TheVariants.{First, Second, NotLp, OutOfMemory}
use Rattle.mpslp_c.specs.declared.faults.ItemFault.{ItemFault}
use Rattle.mpslp_c.specs.declared.faults.MpslpFault.{MpslpFault}
use Rattle.mpslp_c.specs.declared.faults.StoreFault.{StoreFault}
use Rattle.mpslp_c.specs.declared.faults.StoreFault.TheVariants as stored
use Rattle.mpslp_c.specs.declared.faults.TheConstants.{NAME_ROOM, NOWHERE, AT_OBJECTIVE, AT_ROW, AT_COLUMN}

-- The name of the kind of an error, its line, a place in a model with its index, and a name that is padded with zeros.
pub record HasFields (kind : List ℕ) (line place number : ℕ) (name : List ℕ) (in_c : MpslpFault) : Type 0 where
  pub kind_is : in_c.kind.now ≡ kind
  pub line_is : in_c.line ≡ line
  pub place_is : in_c.place ≡ place
  pub number_is : in_c.number ≡ number
  pub length_is : in_c.name_len ≡ length name
  pub name_is : in_c.name ≡ name ++ replicate (NAME_ROOM - length name) 0

-- The first error of a text: its kind, its line, and the name of the row or column that has it.
abbrev pub RepresentsFault : Fault → MpslpFault → Type 0
RepresentsFault fault = HasFields (kind_name fault.kind) fault.line NOWHERE 0 (unwrap_or fault.name [])

-- The place of a name that is not legal in LP.
abbrev pub RepresentsPlace : NameAt → MpslpFault → Type 0
RepresentsPlace Objective = HasFields (codes "NotLp") 0 AT_OBJECTIVE 0 []
RepresentsPlace (Row i) = HasFields (codes "NotLp") 0 AT_ROW i []
RepresentsPlace (Column j) = HasFields (codes "NotLp") 0 AT_COLUMN j []

-- What is set for an error. An allocation that failed leaves it unchanged.
abbrev pub IsFaultSet : ConvertFault → MpslpFault → MpslpFault → Type 0
IsFaultSet (First fault) old new = RepresentsFault fault new
IsFaultSet (Second fault) old new = RepresentsFault fault new
IsFaultSet (NotLp place) old new = RepresentsPlace place new
IsFaultSet OutOfMemory old new = new ≡ old

-- The error of an item of arrays.
abbrev pub RepresentsItem : ItemFault → MpslpFault → Type 0
RepresentsItem fault = HasFields (kind_name fault.kind) 0 fault.place fault.number []

-- What is set for an error of arrays. An allocation that failed leaves it unchanged.
abbrev pub IsStoreFaultSet : StoreFault → MpslpFault → MpslpFault → Type 0
IsStoreFaultSet (stored.Item fault) old new = RepresentsItem fault new
IsStoreFaultSet (stored.Whole fault) old new = RepresentsFault fault new
IsStoreFaultSet (stored.NotLp place) old new = RepresentsPlace place new
IsStoreFaultSet stored.OutOfMemory old new = new ≡ old
