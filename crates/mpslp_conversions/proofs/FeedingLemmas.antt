-- A source whose bytes are fed to a reader, piece by piece.
use Rattle.std.proofs.Common.{◌≡◌, ℕ, ◌+◌, ◌^◌, ◌<◌, ◌≤◌, List, [], Bool, false, subst, refl, length, take, arith, append-nil}
use Rattle.std.proofs.Common.{le_refl, Option, Result, Ok, Vec}
use Rattle.std.specs.{declared.alloc.Global.{Global}, Prelude.{is_err, OnOk}, Io.KnownBytes.{Consumes, IsAtEnd}}
use denote.RawPtr.{null_ptr}
use Rattle.mpslp_model_core.specs.Model.{LinearModel}
use Rattle.mpslp_types.specs.declared.faults.Fault.{Fault}
use Rattle.mpslp_model.specs.FormatParts.{HasFirstFault, Declares}
use Rattle.mpslp_conversions.specs.{Runs.{IsAll, SourceGave}, Feeding.{IsFedOn, IsModelOf}}
use Rattle.mpslp_conversions.specs.{Feeding.{IsReading, IsModelOrFault, IsTextRead}, declared.faults.RunFault.{RunFault}}

-- the source gave these bytes so far, and they were fed to the reader
pub record Feeding {S P : Type 0} (left : S → Option (List ℕ)) (count : S → ℕ) (after : P → List ℕ → Type 0)
    (early_fault : List ℕ → Fault → Type 0)
    (first now : S) (reader : P) (fault : Option Fault) (room limit : ℕ) : Type 0 where
  pub bytes : List ℕ
  pub taken : Consumes (left first) (left now) bytes
  pub counted : length bytes + room ≡ limit
  pub calls : count now ≤ count first + length bytes
  pub fed : IsFedOn after early_fault reader fault bytes

-- ---- a piece

-- ---- the end

-- the result of a reader at the end of a source
pub reading-of : (declares declares' : Declares) (first_fault first_fault' : HasFirstFault) (left left_now : Option (List ℕ))
    (failed : Bool) (limit : ℕ) (bytes : List ℕ) (result : Result LinearModel RunFault)
    → ((m : LinearModel) → declares bytes m → declares' bytes m) → ((f : Fault) → first_fault bytes f → first_fault' bytes f)
    → SourceGave left left_now failed limit bytes → IsModelOf declares first_fault bytes result
    → IsReading declares' first_fault' left left_now failed limit result
reading-of = grind arith

-- ---- a source that is read to its end

all-given : (left left_then left_now : Option (List ℕ)) (bytes : List ℕ) → Consumes left left_then bytes →
    Consumes left_then left_now [] → IsAtEnd left_now → IsAll left bytes
all-given = grind (arith, append-nil)

pub gave-all : (left left_then left_now : Option (List ℕ)) (failed : Bool) (room limit n : ℕ) (bytes buffer : List ℕ)
    → Consumes left left_then bytes → length bytes + room ≡ limit → failed ≡ false → n ≡ 0
    → Consumes left_then left_now (take n buffer) → IsAtEnd left_now → SourceGave left left_now failed limit bytes
gave-all left left_then left_now failed room limit n bytes buffer before counted works none now at_end = record {
  works = works;
  within = omega arith;
  all = all-given left left_then left_now bytes before
      (subst (λ (i : ℕ). Consumes left_then left_now (take i buffer)) none now) at_end;
  end = at_end;
}

pub on-ok : {T E : Type 0} (r : Result T E) (P : Type 0) → is_err r ≡ false → OnOk r P → P
on-ok = grind arith

-- ---- the text of a source

-- a vector with these bytes
abbrev with_bytes : Global → (bytes : List ℕ) → length bytes < 2 ^ 63 → Vec ℕ Global
with_bytes alloc bytes small = record {
  ptr = null_ptr;
  len = length bytes;
  cap = length bytes;
  alloc = alloc;
  items = bytes;
  ok = (refl, le_refl (length bytes));
  small = small;
}

-- a load would return these bytes as a text, also with a larger limit
pub text-of : (declares : Declares) (first_fault : HasFirstFault) (left left_now : Option (List ℕ)) (failed : Bool)
    (limit most : ℕ) (alloc : Global) (bytes : List ℕ) (outcome : Result LinearModel Fault) → limit ≤ most → limit < 2 ^ 63
    → SourceGave left left_now failed limit bytes → IsModelOrFault declares first_fault bytes outcome
    → IsTextRead declares first_fault left left_now failed most (Ok outcome)
text-of declares first_fault left left_now failed limit most alloc bytes outcome less small gave is = (
  with_bytes alloc bytes (omega (arith, gave.within, small)),
  record { works = gave.works; within = omega (arith, gave.within, less); all = gave.all; end = gave.end },
  is,
)
