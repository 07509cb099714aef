-- What the calls for C return.
use Rattle.std.specs.Prelude.{◌≡◌, ◌⊎◌, ℕ, zero, suc, List, Bool, true, false, Option, None, Some, Result, Ok, Err, Vec}
use Rattle.std.specs.declared.alloc.Global.{Global}
use Rattle.mpslp_model_core.specs.Model.{LinearModel}
use Rattle.mpslp_types.specs.declared.faults.Fault.{Fault}
use Rattle.mpslp_types.specs.declared.faults.NameAt.{NameAt}
use Rattle.mpslp_types.specs.declared.forms.Form.{Form}
use Rattle.mpslp_types.specs.declared.forms.Form.TheVariants.{Mps, Lp}
use Rattle.mpslp_model.specs.FormatParts.{Declares, Unfit, TextOf, HasFirstFault}
use Rattle.mpslp_conversions.specs.Conversions.{IsConversion, IsComparison, IsTestOfText}
use Rattle.mpslp_write.specs.ByForm.{declares_in, first_fault_in, unfit_in, text_in}
use Rattle.mpslp_conversions.specs.declared.faults.ConvertFault.{ConvertFault}
use Rattle.mpslp_conversions.specs.declared.faults.ConvertFault.TheVariants.{First, Second, NotLp, OutOfMemory}
use Rattle.mpslp_c.specs.Arrays.{RepresentsModel}
use Rattle.mpslp_builder.specs.Declaration.{Draft, empty_draft}
use Rattle.mpslp_builder.specs.FileFault.{file_fault}
use Rattle.mpslp_c.specs.Faults.{IsFaultSet, IsStoreFaultSet}
use Rattle.mpslp_c.specs.Stored.{Item, items, first_item_fault, after_items, Defines}
use Rattle.mpslp_c.specs.declared.answers.TheConstants.{OK, DIFFERS, REFUSED, SECOND_REFUSED, NOT_LP, OUT_OF_MEMORY, UNKNOWN_FORMAT}
use Rattle.mpslp_c.specs.declared.arrays.MpslpModel.{MpslpModel}
use Rattle.mpslp_c.specs.declared.calls.MpslpText.{MpslpText}
use Rattle.mpslp_c.specs.declared.faults.MpslpFault.{MpslpFault}
use Rattle.mpslp_c.specs.declared.faults.StoreFault.{StoreFault}
use Rattle.mpslp_c.specs.declared.faults.StoreFault.TheVariants as stored

-- the format of a number
abbrev pub format_of : ℕ → Option Form
format_of zero = Some Mps
format_of (suc zero) = Some Lp
format_of (suc (suc n)) = None

-- ---- statuses

abbrev pub fault_status : ConvertFault → ℕ
fault_status (First fault) = REFUSED
fault_status (Second fault) = SECOND_REFUSED
fault_status (NotLp place) = NOT_LP
fault_status OutOfMemory = OUT_OF_MEMORY

abbrev pub truth_status : Bool → ℕ
truth_status true = OK
truth_status false = DIFFERS

-- The status is this one, or that of an allocation that failed.
abbrev pub IsUnless : ℕ → ℕ → Type 0
IsUnless status result = (result ≡ status) ⊎ (result ≡ OUT_OF_MEMORY)

-- The status is that of yes, of no, or of an allocation that failed.
abbrev pub IsTruthUnless : ℕ → Type 0
IsTruthUnless result = (result ≡ OK) ⊎ ((result ≡ DIFFERS) ⊎ (result ≡ OUT_OF_MEMORY))

-- ---- the result of one text

-- The bytes declare a model, and the arrays are its. Or the result is the first error of the bytes.
abbrev pub IsLoading : Declares → HasFirstFault → List ℕ → Result MpslpModel ConvertFault → Type 0
IsLoading declares first_fault bytes (Ok arrays) = (m : LinearModel) × declares bytes m × RepresentsModel m arrays
IsLoading declares first_fault bytes (Err (First fault)) = first_fault bytes fault
IsLoading declares first_fault bytes (Err (Second fault)) = ⊥
IsLoading declares first_fault bytes (Err (NotLp place)) = ⊥
IsLoading declares first_fault bytes (Err OutOfMemory) = Unit {0}

-- ---- how results are returned

-- The text is set, or the error. The other one is unchanged.
abbrev pub IsTextReturned : Result (Vec ℕ Global) ConvertFault → ℕ → MpslpText → MpslpText → MpslpFault → MpslpFault → Type 0
IsTextReturned (Ok text) status out out' fault fault' = (status ≡ OK) × (out'.bytes.now ≡ text.items) × (fault' ≡ fault)
IsTextReturned (Err why) status out out' fault fault' = (status ≡ fault_status why) × (out' ≡ out) × IsFaultSet why fault fault'

-- The model is set, or the error. The other one is unchanged.
abbrev pub IsModelReturned : Result MpslpModel ConvertFault → ℕ → MpslpModel → MpslpModel → MpslpFault → MpslpFault → Type 0
IsModelReturned (Ok model) status out out' fault fault' = (status ≡ OK) × (out' ≡ model) × (fault' ≡ fault)
IsModelReturned (Err why) status out out' fault fault' = (status ≡ fault_status why) × (out' ≡ out) × IsFaultSet why fault fault'

-- The status is that of yes or no, or the error is set.
abbrev pub IsTruthReturned : Result Bool ConvertFault → ℕ → MpslpFault → MpslpFault → Type 0
IsTruthReturned (Ok is_true) status fault fault' = (status ≡ truth_status is_true) × (fault' ≡ fault)
IsTruthReturned (Err why) status fault fault' = (status ≡ fault_status why) × IsFaultSet why fault fault'

-- ---- the calls

-- A conversion had a result, and it was returned. Bytes that declare a model whose names are legal in the format are never
-- rejected, and so on.
pub record IsConverted (declares : Declares) (first_fault : HasFirstFault) (unfit : Unfit) (text : TextOf) (bytes : List ℕ)
    (status : ℕ) (out out' : MpslpText) (fault fault' : MpslpFault) : Type 0 where
  pub answer : Result (Vec ℕ Global) ConvertFault
  pub is : IsConversion declares first_fault unfit text bytes answer
  pub returned : IsTextReturned answer status out out' fault fault'
  pub accepts : (m : LinearModel) → declares bytes m → unfit m ≡ None → IsUnless OK status
  pub refuses : (first : Fault) → first_fault bytes first → IsUnless REFUSED status
  pub cannot_express : (m : LinearModel) (place : NameAt) → declares bytes m → unfit m ≡ Some place → IsUnless NOT_LP status

abbrev pub IsCanonicalAnswer : Option Form → Option Form → List ℕ → ℕ → MpslpText → MpslpText → MpslpFault → MpslpFault → Type 0
IsCanonicalAnswer (Some from) (Some to) bytes status out out' fault fault' =
    IsConverted (declares_in from) (first_fault_in from) (unfit_in to) (text_in to) bytes status out out' fault fault'
IsCanonicalAnswer _ _ bytes status out out' fault fault' = (status ≡ UNKNOWN_FORMAT) × (out' ≡ out) × (fault' ≡ fault)

-- A comparison of two texts had a result, and it was returned.
pub record IsCompared (declares : Declares) (first_fault : HasFirstFault) (declares' : Declares) (first_fault' : HasFirstFault)
    (first second : List ℕ) (status : ℕ) (fault fault' : MpslpFault) : Type 0 where
  pub answer : Result Bool ConvertFault
  pub is : IsComparison declares first_fault declares' first_fault' first second answer
  pub returned : IsTruthReturned answer status fault fault'
  pub accepts : (m n : LinearModel) → declares first m → declares' second n → IsTruthUnless status
  pub refuses : (found : Fault) → first_fault first found → IsUnless REFUSED status
  pub refuses_second : (m : LinearModel) (found : Fault) → declares first m → first_fault' second found → IsUnless SECOND_REFUSED status

abbrev pub IsSameAnswer : Option Form → Option Form → List ℕ → List ℕ → ℕ → MpslpFault → MpslpFault → Type 0
IsSameAnswer (Some one) (Some other) first second status fault fault' =
    IsCompared (declares_in one) (first_fault_in one) (declares_in other) (first_fault_in other) first second status fault fault'
IsSameAnswer _ _ first second status fault fault' = (status ≡ UNKNOWN_FORMAT) × (fault' ≡ fault)

-- A text was compared with that of its model, and the result returned.
pub record IsTested (declares : Declares) (first_fault : HasFirstFault) (text : TextOf) (bytes : List ℕ) (status : ℕ) (fault fault' : MpslpFault)
    : Type 0 where
  pub answer : Result Bool ConvertFault
  pub is : IsTestOfText declares first_fault text bytes answer
  pub returned : IsTruthReturned answer status fault fault'
  pub accepts : (m : LinearModel) → declares bytes m → IsTruthUnless status
  pub refuses : (found : Fault) → first_fault bytes found → IsUnless REFUSED status

abbrev pub IsTestAnswer : Option Form → List ℕ → ℕ → MpslpFault → MpslpFault → Type 0
IsTestAnswer (Some file_format) bytes status fault fault' =
    IsTested (declares_in file_format) (first_fault_in file_format) (text_in file_format) bytes status fault fault'
IsTestAnswer None bytes status fault fault' = (status ≡ UNKNOWN_FORMAT) × (fault' ≡ fault)

-- A model was loaded, and the result returned. Bytes that declare a model are never rejected, and so on.
pub record IsLoaded (declares : Declares) (first_fault : HasFirstFault) (bytes : List ℕ) (status : ℕ) (out out' : MpslpModel) (fault fault' : MpslpFault)
    : Type 0 where
  pub answer : Result MpslpModel ConvertFault
  pub is : IsLoading declares first_fault bytes answer
  pub returned : IsModelReturned answer status out out' fault fault'
  pub accepts : (m : LinearModel) → declares bytes m → IsUnless OK status
  pub refuses : (found : Fault) → first_fault bytes found → IsUnless REFUSED status

abbrev pub IsLoadAnswer : Option Form → List ℕ → ℕ → MpslpModel → MpslpModel → MpslpFault → MpslpFault → Type 0
IsLoadAnswer (Some file_format) bytes status out out' fault fault' =
    IsLoaded (declares_in file_format) (first_fault_in file_format) bytes status out out' fault fault'
IsLoadAnswer None bytes status out out' fault fault' = (status ≡ UNKNOWN_FORMAT) × (out' ≡ out) × (fault' ≡ fault)

-- ---- the call that stores a model

-- Items were declared, one after another; or the result is the first error, or that an allocation failed.
abbrev pub TakesItems : List Item → Draft → Draft → Result (Unit {0}) StoreFault → Type 0
TakesItems taken old new (Ok _) = (first_item_fault old taken ≡ None) × (new ≡ after_items old taken)
TakesItems taken old new (Err (stored.Item fault)) = first_item_fault old taken ≡ Some fault
TakesItems taken old new (Err (stored.Whole fault)) = ⊥
TakesItems taken old new (Err (stored.NotLp place)) = ⊥
TakesItems taken old new (Err stored.OutOfMemory) = Unit {0}

-- The first error of arrays: that of an item, or if no item has one, that of the whole.
abbrev pub HasFault : MpslpModel → StoreFault → Type 0
HasFault arrays (stored.Item fault) = first_item_fault empty_draft (items arrays) ≡ Some fault
HasFault arrays (stored.Whole fault) =
    (first_item_fault empty_draft (items arrays) ≡ None) × (file_fault (after_items empty_draft (items arrays)) ≡ Some fault)
HasFault arrays (stored.NotLp place) = ⊥
HasFault arrays stored.OutOfMemory = ⊥

-- The model that arrays define, or their first error.
abbrev pub IsStoredModel : MpslpModel → Result LinearModel StoreFault → Type 0
IsStoredModel arrays (Ok m) = Defines arrays m
IsStoredModel arrays (Err (stored.Item fault)) = HasFault arrays (stored.Item fault)
IsStoredModel arrays (Err (stored.Whole fault)) = HasFault arrays (stored.Whole fault)
IsStoredModel arrays (Err (stored.NotLp place)) = ⊥
IsStoredModel arrays (Err stored.OutOfMemory) = Unit {0}

-- The text of the model that arrays define, or their first error, or the place of the first name that is not legal in the format.
abbrev pub IsStoring : Unfit → TextOf → MpslpModel → Result (Vec ℕ Global) StoreFault → Type 0
IsStoring unfit text arrays (Ok out) = (m : LinearModel) × Defines arrays m × (unfit m ≡ None) × (out.items ≡ text m)
IsStoring unfit text arrays (Err (stored.Item fault)) = HasFault arrays (stored.Item fault)
IsStoring unfit text arrays (Err (stored.Whole fault)) = HasFault arrays (stored.Whole fault)
IsStoring unfit text arrays (Err (stored.NotLp place)) = (m : LinearModel) × Defines arrays m × (unfit m ≡ Some place)
IsStoring unfit text arrays (Err stored.OutOfMemory) = Unit {0}

abbrev pub store_status : StoreFault → ℕ
store_status (stored.Item fault) = REFUSED
store_status (stored.Whole fault) = REFUSED
store_status (stored.NotLp place) = NOT_LP
store_status stored.OutOfMemory = OUT_OF_MEMORY

-- The text is set, or the error. The other one is unchanged.
abbrev pub IsStoreReturned : Result (Vec ℕ Global) StoreFault → ℕ → MpslpText → MpslpText → MpslpFault → MpslpFault → Type 0
IsStoreReturned (Ok text) status out out' fault fault' = (status ≡ OK) × (out'.bytes.now ≡ text.items) × (fault' ≡ fault)
IsStoreReturned (Err why) status out out' fault fault' = (status ≡ store_status why) × (out' ≡ out) × IsStoreFaultSet why fault fault'

-- The text of arrays was made, and the result returned. Arrays that define a model whose names are legal in the format are never
-- rejected, and so on.
pub record IsStored (unfit : Unfit) (text : TextOf) (arrays : MpslpModel) (status : ℕ) (out out' : MpslpText) (fault fault' : MpslpFault) : Type 0 where
  pub answer : Result (Vec ℕ Global) StoreFault
  pub is : IsStoring unfit text arrays answer
  pub returned : IsStoreReturned answer status out out' fault fault'
  pub accepts : (m : LinearModel) → Defines arrays m → unfit m ≡ None → IsUnless OK status
  pub refuses : (why : StoreFault) → HasFault arrays why → IsUnless REFUSED status
  pub cannot_express : (m : LinearModel) (place : NameAt) → Defines arrays m → unfit m ≡ Some place → IsUnless NOT_LP status

abbrev pub IsStoreAnswer : Option Form → MpslpModel → ℕ → MpslpText → MpslpText → MpslpFault → MpslpFault → Type 0
IsStoreAnswer (Some to) arrays status out out' fault fault' = IsStored (unfit_in to) (text_in to) arrays status out out' fault fault'
IsStoreAnswer None arrays status out out' fault fault' = (status ≡ UNKNOWN_FORMAT) × (out' ≡ out) × (fault' ≡ fault)

-- ---- the call that normalizes arrays

-- The arrays of the model that arrays define, or their first error.
abbrev pub IsNormalizing : MpslpModel → Result MpslpModel StoreFault → Type 0
IsNormalizing arrays (Ok out) = (m : LinearModel) × Defines arrays m × RepresentsModel m out
IsNormalizing arrays (Err (stored.Item fault)) = HasFault arrays (stored.Item fault)
IsNormalizing arrays (Err (stored.Whole fault)) = HasFault arrays (stored.Whole fault)
IsNormalizing arrays (Err (stored.NotLp place)) = ⊥
IsNormalizing arrays (Err stored.OutOfMemory) = Unit {0}

-- The arrays are set, or the error. The other one is unchanged.
abbrev pub AreArraysReturned : Result MpslpModel StoreFault → ℕ → MpslpModel → MpslpModel → MpslpFault → MpslpFault → Type 0
AreArraysReturned (Ok model) status out out' fault fault' = (status ≡ OK) × (out' ≡ model) × (fault' ≡ fault)
AreArraysReturned (Err why) status out out' fault fault' = (status ≡ store_status why) × (out' ≡ out) × IsStoreFaultSet why fault fault'

-- The arrays were normalized, and the result returned. Arrays that define a model are never rejected, and those with an error
-- always are.
pub record IsNormalized (arrays : MpslpModel) (status : ℕ) (out out' : MpslpModel) (fault fault' : MpslpFault) : Type 0 where
  pub answer : Result MpslpModel StoreFault
  pub is : IsNormalizing arrays answer
  pub returned : AreArraysReturned answer status out out' fault fault'
  pub accepts : (m : LinearModel) → Defines arrays m → IsUnless OK status
  pub refuses : (why : StoreFault) → HasFault arrays why → IsUnless REFUSED status
