-- The results of reading a source to its end, and of writing a model's text to a sink.
use Rattle.std.specs.Prelude.{◌≡◌, ℕ, ◌+◌, ◌<◌, ◌≤◌, List, Bool, true, false, Option, None, Some, Result, Ok, Err, Vec, IfSome, length, take}
use Rattle.std.specs.Io.KnownBytes.{Consumes, IsAtEnd}
use Rattle.std.specs.declared.alloc.Global.{Global}
use Rattle.mpslp_io.specs.Devices.{Grows, TookFirst}
use Rattle.mpslp_model_core.specs.Model.{LinearModel}
use Rattle.mpslp_model.specs.FormatParts.{Declares, Unfit, TextOf, HasFirstFault}
use Rattle.mpslp_conversions.specs.declared.faults.RunFault.{RunFault}
use Rattle.mpslp_conversions.specs.declared.faults.RunFault.TheVariants.{Read, TooLong, File, NotLp, Write, OutOfMemory}

-- The remaining bytes of a source, if they are known, are these.
abbrev pub IsAll : Option (List ℕ) → List ℕ → Type 0
IsAll left bytes = IfSome left (λ all. all ≡ bytes)

-- More bytes remained than the limit, if they are known.
abbrev pub IsLonger : Option (List ℕ) → ℕ → Type 0
IsLonger left limit = IfSome left (λ all. limit < length all)

-- At most so many bytes were read from a source.
abbrev pub TakesAtMost : ℕ → Option (List ℕ) → Option (List ℕ) → Type 0
TakesAtMost most old new = (taken : List ℕ) × (length taken ≤ most) × Consumes old new taken

-- A source was read within the limit: at most one byte more was requested, in at most as many calls; and once it has failed it
-- stays failed.
pub record ReadsWithin {R : Type 0} (left : R → Option (List ℕ)) (failed : R → Bool) (count : R → ℕ) (limit : ℕ) (old new : R) : Type 0 where
  pub asked : TakesAtMost (limit + 1) (left old) (left new)
  pub calls : count new ≤ count old + limit + 1
  pub stays : failed old ≡ true → failed new ≡ true

-- A source gave these bytes up to its end, within the limit, and has not failed.
pub record SourceGave (left left_now : Option (List ℕ)) (failed : Bool) (limit : ℕ) (bytes : List ℕ) : Type 0 where
  pub works : failed ≡ false
  pub within : length bytes ≤ limit
  pub all : IsAll left bytes
  pub end : IsAtEnd left_now

-- A source had these bytes left, within the limit, and has not failed.
pub record SourceHeld (left : Option (List ℕ)) (failed : Bool) (limit : ℕ) (bytes : List ℕ) : Type 0 where
  pub left_is : left ≡ Some bytes
  pub within : length bytes ≤ limit
  pub works : failed ≡ false

-- A source had more bytes left than the limit, and has not failed.
pub record SourceHeldMore (left : Option (List ℕ)) (failed : Bool) (limit : ℕ) (bytes : List ℕ) : Type 0 where
  pub left_is : left ≡ Some bytes
  pub beyond : limit < length bytes
  pub works : failed ≡ false

-- The next piece of a source that may have `room` bytes left, at the start of a buffer, or the error. `failed` is whether the source
-- has failed in the end.
abbrev pub IsPiece : Option (List ℕ) → Option (List ℕ) → Bool → ℕ → ℕ → List ℕ → Result ℕ RunFault → Type 0
IsPiece left left_now failed room room_now buffer (Ok n) =
    (failed ≡ false) × (n ≤ length buffer) × (n + room_now ≡ room) × Consumes left left_now (take n buffer) × (n ≡ 0 → IsAtEnd left_now)
IsPiece left left_now failed room room_now buffer (Err Read) = failed ≡ true
IsPiece left left_now failed room room_now buffer (Err TooLong) = (failed ≡ false) × IsLonger left room
IsPiece left left_now failed room room_now buffer (Err (File fault)) = ⊥
IsPiece left left_now failed room room_now buffer (Err (NotLp name_at)) = ⊥
IsPiece left left_now failed room room_now buffer (Err (Write written)) = ⊥
IsPiece left left_now failed room room_now buffer (Err OutOfMemory) = ⊥

-- All remaining bytes of a source, or the error. `failed` is whether the source has failed in the end.
abbrev pub IsLoad : Option (List ℕ) → Option (List ℕ) → Bool → ℕ → Result (Vec ℕ Global) RunFault → Type 0
IsLoad left left_now failed limit (Ok bytes) = SourceGave left left_now failed limit bytes.items
IsLoad left left_now failed limit (Err Read) = failed ≡ true
IsLoad left left_now failed limit (Err TooLong) = (failed ≡ false) × IsLonger left limit
IsLoad left left_now failed limit (Err (File fault)) = ⊥
IsLoad left left_now failed limit (Err (NotLp name_at)) = ⊥
IsLoad left left_now failed limit (Err (Write written)) = ⊥
IsLoad left left_now failed limit (Err OutOfMemory) = failed ≡ false

-- A sink took a whole text and was flushed, in few calls: each write takes at least one byte.
pub record IsHandedOn {S : Type 0} (holds : S → List ℕ → Type 0) (failed : S → Bool) (count : S → ℕ) (old new : S) (text : List ℕ) : Type 0 where
  pub works : failed new ≡ false
  pub took : Grows holds old new text
  pub calls : count new ≤ count old + length text + 1

-- A sink has failed, after it took a prefix of a text.
pub record IsCutShort {S : Type 0} (holds : S → List ℕ → Type 0) (failed : S → Bool) (count : S → ℕ) (old new : S) (text : List ℕ) (written : ℕ)
    : Type 0 where
  pub fails : failed new ≡ true
  pub took : TookFirst holds old new text written
  pub calls : count new ≤ count old + length text + 1

-- The text of a model was written and flushed, or the error.
abbrev pub IsPut : {S : Type 0} → Unfit → TextOf → (S → List ℕ → Type 0) → (S → Bool) → (S → ℕ) → LinearModel → S → S → Result (Unit {0}) RunFault → Type 0
IsPut unfit text holds failed count m old new (Ok _) = (unfit m ≡ None) × IsHandedOn holds failed count old new (text m)
IsPut unfit text holds failed count m old new (Err Read) = ⊥
IsPut unfit text holds failed count m old new (Err TooLong) = ⊥
IsPut unfit text holds failed count m old new (Err (File fault)) = ⊥
IsPut unfit text holds failed count m old new (Err (NotLp name_at)) = (unfit m ≡ Some name_at) × (new ≡ old)
IsPut unfit text holds failed count m old new (Err (Write written)) = (unfit m ≡ None) × IsCutShort holds failed count old new (text m) written
IsPut unfit text holds failed count m old new (Err OutOfMemory) = ⊥

-- All remaining bytes of a source declare a model in one format, and its text in the other was written and flushed; or the
-- error. After any error except `Write` the sink was not called.
abbrev pub IsRun : {S : Type 0} → Declares → HasFirstFault → Unfit → TextOf → (S → List ℕ → Type 0) → (S → Bool) → (S → ℕ)
    → Option (List ℕ) → Option (List ℕ) → Bool → ℕ → S → S → Result (Unit {0}) RunFault → Type 0
IsRun declares first_fault unfit text holds failed count left left_now source_failed limit old new (Ok _) =
    (bytes : List ℕ) × (m : LinearModel) × SourceGave left left_now source_failed limit bytes × declares bytes m × (unfit m ≡ None)
    × IsHandedOn holds failed count old new (text m)
IsRun declares first_fault unfit text holds failed count left left_now source_failed limit old new (Err Read) = (source_failed ≡ true) × (new ≡ old)
IsRun declares first_fault unfit text holds failed count left left_now source_failed limit old new (Err TooLong) =
    (source_failed ≡ false) × IsLonger left limit × (new ≡ old)
IsRun declares first_fault unfit text holds failed count left left_now source_failed limit old new (Err (File fault)) =
    (bytes : List ℕ) × SourceGave left left_now source_failed limit bytes × first_fault bytes fault × (new ≡ old)
IsRun declares first_fault unfit text holds failed count left left_now source_failed limit old new (Err (NotLp name_at)) =
    (bytes : List ℕ) × (m : LinearModel) × SourceGave left left_now source_failed limit bytes × declares bytes m × (unfit m ≡ Some name_at) × (new ≡ old)
IsRun declares first_fault unfit text holds failed count left left_now source_failed limit old new (Err (Write written)) =
    (bytes : List ℕ) × (m : LinearModel) × SourceGave left left_now source_failed limit bytes × declares bytes m × (unfit m ≡ None)
    × IsCutShort holds failed count old new (text m) written
IsRun declares first_fault unfit text holds failed count left left_now source_failed limit old new (Err OutOfMemory) = (source_failed ≡ false) × (new ≡ old)
