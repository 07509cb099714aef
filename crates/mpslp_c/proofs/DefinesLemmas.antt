-- Items define a model or have an error, never both; the result for arrays, and what a status says of it.
use Rattle.std.proofs.Common.{arith, ◌≡◌, refl, sym, ap, ◌∙◌, subst, ℕ, List, [], ◌∷◌, ◌++◌, map, Bool, true, Option, None, Some, Result}
use Rattle.std.{proofs.Common.{Ok, Err, Vec}, specs.Prelude.{is_some, IsErrAnd, IsOkUnless}}
use Rattle.std.specs.{List.{list_all, flat_map}, Option.option_map_or, Cmp.{first_so, second_so}, declared.alloc.Global.Global}
use Rattle.mpslp_types.specs.{Lists.head_of, declared.{kinds.Limit.Limit, faults.{BuildFault.BuildFault, FaultKind.FaultKind, Fault.Fault}}}
use Rattle.mpslp_types.{specs.declared.faults.NameAt.NameAt, proofs.BoolLemmas.both_so}
use Rattle.mpslp_model_core.specs.Model.{LinearModel}
use Rattle.mpslp_builder.specs.Declaration.{declare_objective, declare_lower, declare_upper, Declarations, Draft, empty_draft}
use Rattle.mpslp_builder.specs.{Declaration.{with_declaration, with_declarations}, Refusal.{refusals_in_turn, bounds_refusals}}
use Rattle.mpslp_builder.specs.{Consistency.has_objective, Meaning.DraftMeans, Made.IsMade, FileFault.file_fault}
use Rattle.mpslp_builder.proofs.RefusalLemmas.{left_none, right_none, join_none, are_known_in_turn, consistent-from_none}
use Rattle.mpslp_builder.proofs.RefusalLemmas.{none-from_consistent}
use Rattle.mpslp_builder.proofs.MadeDrafts.{with_declarations-append, refusals_in_turn-append, no_fault-from_made}
use Rattle.mpslp_lines.{specs.FaultTests.kind_of_build_fault, proofs.ObjectiveLemmas.named-after}
use Rattle.mpslp_model.specs.FormatParts.{HasFirstFault, Declares, Unfit, TextOf}
use Rattle.mpslp_conversions.specs.Conversions.{IsConversion, IsComparison, IsTestOfText, IsErrUnless}
use Rattle.mpslp_conversions.specs.declared.faults.ConvertFault.{ConvertFault, TheVariants.{First, Second, NotLp, OutOfMemory}}
use Rattle.mpslp_c.specs.Stored.{Step, declares, step_faults, step_declared, or_else, first_kind, after_steps, objective_steps, Item}
use Rattle.mpslp_c.specs.Stored.{item_fault, items, first_item_fault, after_items, is_good, is_good_item, declared_by, Defines}
use Rattle.mpslp_c.specs.declared.{arrays.MpslpModel.MpslpModel, faults.{ItemFault.ItemFault, StoreFault.StoreFault, MpslpFault.MpslpFault}}
use Rattle.mpslp_c.specs.declared.{answers.TheConstants.{OK, REFUSED}, calls.MpslpText.MpslpText}
use Rattle.mpslp_c.specs.Answers.{TakesItems, IsLoading, IsTextReturned, IsTruthReturned, IsModelReturned, IsUnless, IsTruthUnless}
use Rattle.mpslp_c.specs.Answers.{IsConverted, IsCompared, IsTested, IsLoaded, fault_status, HasFault, IsStoring, IsStoreReturned, IsStored}
use Rattle.mpslp_c.{specs.Answers.{store_status, IsNormalizing, AreArraysReturned, IsNormalized}, proofs.KnownLemmas.items-known}
use Rattle.mpslp_c.specs.declared.faults.StoreFault.TheVariants as stored

-- ---- items without an error define a model, and the items of arrays that define a model have no error

-- ---- steps

pub steps-after : (steps : List Step) (all : Draft) → after_steps all steps ≡ with_declarations all (flat_map step_declared steps)
steps-after [] all = refl
steps-after (step ∷ more) all =
    grind (arith, with_declarations-append, steps-after more (with_declarations all (step_declared step)))

-- a step without an error is good, and nothing of it is rejected
record IsFree (all : Draft) (step : Step) : Type 0 where
  good : is_good step ≡ true
  free : refusals_in_turn all (step_declared step) ≡ []

step_free : (all : Draft) (step : Step) → head_of (step_faults all step) ≡ None → IsFree all step
step_free all step h = grind arith

first_none_of : (o p : Option FaultKind) → or_else o p ≡ None → (o ≡ None) × (p ≡ None)
first_none_of = grind arith

pub record AreFree (all : Draft) (are_good : Bool) (declarations : Declarations) : Type 0 where
  pub good : are_good ≡ true
  pub free : refusals_in_turn all declarations ≡ []

free-append : (xs ys : Declarations) (all : Draft) → refusals_in_turn all xs ≡ [] →
    refusals_in_turn (with_declarations all xs) ys ≡ [] → refusals_in_turn all (xs ++ ys) ≡ []
free-append = grind (arith, refusals_in_turn-append, join_none)

free-parts : (xs ys : Declarations) (all : Draft) → refusals_in_turn all (xs ++ ys) ≡ []
    → (refusals_in_turn all xs ≡ []) × (refusals_in_turn (with_declarations all xs) ys ≡ [])
free-parts = grind (arith, refusals_in_turn-append, left_none, right_none)

pub steps_free : (steps : List Step) (all : Draft) → first_kind all steps ≡ None →
    AreFree all (list_all is_good steps) (flat_map step_declared steps)
steps_free [] all h = record { good = refl; free = refl }
steps_free (step ∷ more) all h =
    let parts = first_none_of (head_of (step_faults all step)) (first_kind (with_declarations all (step_declared step)) more) h in
    let here = step_free all step parts.0 in
    let later = steps_free more (with_declarations all (step_declared step)) parts.1 in
    record {
      good = both_so (is_good step) (list_all is_good more) here.good later.good;
      free = free-append (step_declared step) (flat_map step_declared more) all here.free later.free;
    }

-- ---- and conversely

no_kind : (faults : List BuildFault) → faults ≡ [] → head_of (map kind_of_build_fault faults) ≡ None
no_kind = grind arith

bounds_free : (all : Draft) (column : List ℕ) (lower upper : Limit) → refusals_in_turn all
    (declare_lower column lower ∷ declare_upper column upper ∷ []) ≡ [] →
    bounds_refusals all column (Some lower) (Some upper) ≡ []
bounds_free = grind arith

step_none : (all : Draft) (step : Step) → is_good step ≡ true → refusals_in_turn all (step_declared step) ≡ [] →
    head_of (step_faults all step) ≡ None
step_none = grind (arith, no_kind, left_none, bounds_free)

pub steps_none : (steps : List Step) (all : Draft) → list_all is_good steps ≡ true
    → refusals_in_turn all (flat_map step_declared steps) ≡ [] → first_kind all steps ≡ None
steps_none [] all good h = refl
steps_none (step ∷ more) all good h = let parts = free-parts (step_declared step) (flat_map step_declared more) all h in
    ap (λ (o : Option FaultKind). or_else o (first_kind (with_declarations all (step_declared step)) more))
    (step_none all step (first_so (is_good step) (list_all is_good more) good) parts.0)
    ∙ steps_none more (with_declarations all (step_declared step)) (second_so (is_good step) (list_all is_good more) good) parts.1

-- ---- items

pub items-after : (all : List Item) (before : Draft) →
    after_items before all ≡ with_declarations before (flat_map declared_by all)
items-after [] before = refl
items-after (item ∷ more) before =
    grind (arith, steps-after, with_declarations-append, items-after more (after_steps before item.steps))

item_none : (item : Item) (o : Option FaultKind) (p : Option ItemFault) →
    option_map_or (λ kind. Some (item_fault item kind)) o p ≡ None → (o ≡ None) × (p ≡ None)
item_none item None p h = (refl, h)
item_none item (Some kind) p h = let no : ⊥ = cc in absurd no

pub items_free : (all : List Item) (before : Draft) → first_item_fault before all ≡ None
    → AreFree before (list_all is_good_item all) (flat_map declared_by all)
items_free [] before h = record { good = refl; free = refl }
items_free (item ∷ more) before h =
    let parts = item_none item (first_kind before item.steps) (first_item_fault (after_steps before item.steps) more) h in
    let here = steps_free item.steps before parts.0 in
    let later = items_free more (after_steps before item.steps) parts.1 in
    record {
      good = both_so (is_good_item item) (list_all is_good_item more) here.good later.good;
      free = free-append (declared_by item) (flat_map declared_by more) before here.free
          (ap (λ (d : Draft). refusals_in_turn d (flat_map declared_by more)) (sym (steps-after item.steps before)) ∙ later.free);
    }

pub items_none : (all : List Item) (before : Draft) → list_all is_good_item all ≡ true
    → refusals_in_turn before (flat_map declared_by all) ≡ [] → first_item_fault before all ≡ None
items_none [] before good h = refl
items_none (item ∷ more) before good h = let parts = free-parts (declared_by item) (flat_map declared_by more) before h in
    ap (λ (o : Option FaultKind). option_map_or (λ kind. Some (item_fault item kind)) o
    (first_item_fault (after_steps before item.steps) more))
    (steps_none item.steps before (first_so (is_good_item item) (list_all is_good_item more) good) parts.0)
    ∙ items_none more (after_steps before item.steps) (second_so (is_good_item item) (list_all is_good_item more) good)
    (ap (λ (d : Draft). refusals_in_turn d (flat_map declared_by more)) (steps-after item.steps before) ∙ parts.1)

-- ---- the objective

pub objective_there : (ds : Declarations) (before : Draft) → has_objective ds ≡ true →
    is_some (with_declarations before ds).objective ≡ true
objective_there [] before h = grind arith
objective_there (declare_objective name ∷ more) before h = grind (arith, named-after)
objective_there (d ∷ more) before h = objective_there more (with_declaration before d) h

names_objective : (arrays : MpslpModel) → list_all is_good (objective_steps arrays) ≡ true → (more : Declarations)
    → has_objective (flat_map step_declared (objective_steps arrays) ++ more) ≡ true
names_objective = grind arith

objective_of : (arrays : MpslpModel) → list_all is_good_item (items arrays) ≡ true →
    has_objective (flat_map declared_by (items arrays)) ≡ true
objective_of = grind arith

-- ---- the model

-- the objective is declared if no item has an error
pub objective-declared : (arrays : MpslpModel) → first_item_fault empty_draft (items arrays) ≡ None
    → is_some (after_items empty_draft (items arrays)).objective ≡ true
objective-declared arrays none = let free = items_free (items arrays) empty_draft none in
    ap (λ (d : Draft). is_some d.objective) (items-after (items arrays) empty_draft)
    ∙ objective_there (flat_map declared_by (items arrays)) empty_draft (objective_of arrays free.good)

pub defines-from_none : (arrays : MpslpModel) (m : LinearModel) → first_item_fault empty_draft (items arrays) ≡ None
    → DraftMeans (after_items empty_draft (items arrays)) m → Defines arrays m
defines-from_none arrays m none meant =
    let free = items_free (items arrays) empty_draft none in
    record {
      good = free.good;
      means = record {
        consistent = consistent-from_none (flat_map declared_by (items arrays)) (objective_of arrays free.good) free.free;
        meant = subst (λ (d : Draft). DraftMeans d m) (items-after (items arrays) empty_draft) meant;
      };
    }

pub meant-from_defines : (arrays : MpslpModel) (m : LinearModel) → Defines arrays m →
    DraftMeans (after_items empty_draft (items arrays)) m
meant-from_defines arrays m defines =
    subst (λ (d : Draft). DraftMeans d m) (sym (items-after (items arrays) empty_draft)) defines.means.meant

pub none-from_defines : (arrays : MpslpModel) (m : LinearModel) →
    are_known_in_turn empty_draft (flat_map declared_by (items arrays)) ≡ true → Defines arrays m →
    first_item_fault empty_draft (items arrays) ≡ None
none-from_defines arrays m known defines = items_none (items arrays) empty_draft defines.good
    (none-from_consistent (flat_map declared_by (items arrays)) defines.means.consistent known)

-- arrays define one model
pub one_model : (arrays : MpslpModel) (m n : LinearModel) → Defines arrays m → Defines arrays n → m ≡ n
one_model = grind arith

-- ---- the result for arrays: they define a model, or have an error, and never both

pub some_none : {X : Type 0} (o : Option X) (x : X) → o ≡ None → o ≡ Some x → ⊥
some_none = grind arith

pub same_some : {X : Type 0} {x y : X} → ◌≡◌ {A = Option X} (Some x) (Some y) → x ≡ y
same_some h = cc

-- arrays that define a model have no item with an error
pub no_item : (arrays : MpslpModel) (m : LinearModel) → Defines arrays m → first_item_fault empty_draft (items arrays) ≡ None
no_item = λ arrays m defines. grind (arith, arrays, none-from_defines, items-known)

-- nor an error of the whole
pub no_whole : (arrays : MpslpModel) (m : LinearModel) (all : Draft) → Defines arrays m →
    all ≡ after_items empty_draft (items arrays) → IsMade all → file_fault all ≡ None
no_whole = λ arrays m all defines is made. grind
    (arith, arrays, no_fault-from_made, objective-declared, no_item, meant-from_defines)

pub no_fault : (arrays : MpslpModel) (m : LinearModel) (all : Draft) (fault : Fault) → Defines arrays m
    → all ≡ after_items empty_draft (items arrays) → IsMade all → file_fault all ≡ Some fault → ⊥
no_fault = λ arrays m all fault defines is made h. grind (arith, arrays, some_none, no_whole)

-- items that were not all taken
pub not_taken : (arrays : MpslpModel) (m : LinearModel) (new : Draft) (why : StoreFault) (answer : Result LinearModel StoreFault)
    → TakesItems (items arrays) empty_draft new (Err why) → Defines arrays m → IsErrAnd answer (λ e. e ≡ why) →
    IsOkUnless answer stored.OutOfMemory
not_taken arrays m new why (Ok n) taken defines handed = absurd handed
not_taken arrays m new (stored.Item fault) (Err e) taken defines handed = grind (arith, arrays, some_none, no_item)
not_taken arrays m new (stored.Whole fault) (Err e) taken defines handed = absurd taken
not_taken arrays m new (stored.NotLp place) (Err e) taken defines handed = absurd taken
not_taken arrays m new stored.OutOfMemory (Err e) taken defines handed = handed

-- ---- what a status says of a result, and the contracts of the calls put together

-- a text that is not rejected is returned, unless an allocation failed
text_accepted : (answer : Result (Vec ℕ Global) ConvertFault) (status : ℕ) (out out' : MpslpText) (fault fault' : MpslpFault)
    → IsOkUnless answer OutOfMemory → IsTextReturned answer status out out' fault fault' → IsUnless OK status
text_accepted = grind arith

-- an error gives its status
text_refused : (answer : Result (Vec ℕ Global) ConvertFault) (why : ConvertFault) (status : ℕ) (out out' : MpslpText)
    (fault fault' : MpslpFault) → IsErrUnless answer why OutOfMemory →
    IsTextReturned answer status out out' fault fault' → IsUnless (fault_status why) status
text_refused = grind arith

-- the same of yes and no
truth_accepted : (answer : Result Bool ConvertFault) (status : ℕ) (fault fault' : MpslpFault) → IsOkUnless answer OutOfMemory
    → IsTruthReturned answer status fault fault' → IsTruthUnless status
truth_accepted = grind arith

truth_refused : (answer : Result Bool ConvertFault) (why : ConvertFault) (status : ℕ) (fault fault' : MpslpFault)
    → IsErrUnless answer why OutOfMemory → IsTruthReturned answer status fault fault' → IsUnless (fault_status why) status
truth_refused = grind arith

-- ---- the calls

pub converted : (declares : Declares) (first_fault : HasFirstFault) (unfit : Unfit) (text : TextOf) (bytes : List ℕ)
    (answer : Result (Vec ℕ Global) ConvertFault) (status : ℕ) (out out' : MpslpText) (fault fault' : MpslpFault) →
    IsConversion declares first_fault unfit text bytes answer →
    ((m : LinearModel) → declares bytes m → unfit m ≡ None → IsOkUnless answer OutOfMemory) →
    ((first : Fault) → first_fault bytes first → IsErrUnless answer (First first) OutOfMemory)
    → ((m : LinearModel) (place : NameAt) → declares bytes m → unfit m ≡ Some place →
    IsErrUnless answer (NotLp place) OutOfMemory) → IsTextReturned answer status out out' fault fault' →
    IsConverted declares first_fault unfit text bytes status out out' fault fault'
converted _ first_fault unfit text bytes answer status out out' fault fault' is accepts refuses cannot_express returned = record {
  answer = answer;
  is = is;
  returned = returned;
  accepts = λ m declared fits. text_accepted answer status out out' fault fault' (accepts m declared fits) returned;
  refuses = λ first found. text_refused answer (First first) status out out' fault fault' (refuses first found) returned;
  cannot_express = λ m place declared found. text_refused answer (NotLp place) status out out' fault fault'
      (cannot_express m place declared found) returned;
}

pub compared : (declares : Declares) (first_fault : HasFirstFault) (declares' : Declares) (first_fault' : HasFirstFault)
    (first second : List ℕ) (answer : Result Bool ConvertFault) (status : ℕ) (fault fault' : MpslpFault) →
    IsComparison declares first_fault declares' first_fault' first second answer →
    ((m n : LinearModel) → declares first m → declares' second n → IsOkUnless answer OutOfMemory) →
    ((found : Fault) → first_fault first found → IsErrUnless answer (First found) OutOfMemory)
    → ((m : LinearModel) (found : Fault) → declares first m → first_fault' second found →
    IsErrUnless answer (Second found) OutOfMemory) → IsTruthReturned answer status fault fault' →
    IsCompared declares first_fault declares' first_fault' first second status fault fault'
compared _ first_fault declares' first_fault' first second answer status fault fault' is accepts refuses refuses_second returned =
    record {
      answer = answer;
      is = is;
      returned = returned;
      accepts = λ m n one other. truth_accepted answer status fault fault' (accepts m n one other) returned;
      refuses = λ found has. truth_refused answer (First found) status fault fault' (refuses found has) returned;
      refuses_second =
          λ m found declared has. truth_refused answer (Second found) status fault fault'
          (refuses_second m found declared has) returned;
    }

pub tested : (declares : Declares) (first_fault : HasFirstFault) (text : TextOf) (bytes : List ℕ)
    (answer : Result Bool ConvertFault) (status : ℕ) (fault fault' : MpslpFault) →
    IsTestOfText declares first_fault text bytes answer →
    ((m : LinearModel) → declares bytes m → IsOkUnless answer OutOfMemory) →
    ((found : Fault) → first_fault bytes found → IsErrUnless answer (First found) OutOfMemory)
    → IsTruthReturned answer status fault fault' → IsTested declares first_fault text bytes status fault fault'
tested = grind arith

pub loaded : (declares : Declares) (first_fault : HasFirstFault) (bytes : List ℕ)
    (answer : Result MpslpModel ConvertFault) (status : ℕ) (out out' : MpslpModel) (fault fault' : MpslpFault) →
    IsLoading declares first_fault bytes answer →
    ((m : LinearModel) → declares bytes m → IsOkUnless answer OutOfMemory) →
    ((found : Fault) → first_fault bytes found → IsErrUnless answer (First found) OutOfMemory)
    → IsModelReturned answer status out out' fault fault' → IsLoaded declares first_fault bytes status out out' fault fault'
loaded = grind arith

-- ---- a model that is stored

stored_accepted : (answer : Result (Vec ℕ Global) StoreFault) (status : ℕ) (out out' : MpslpText) (fault fault' : MpslpFault)
    → IsOkUnless answer stored.OutOfMemory → IsStoreReturned answer status out out' fault fault' → IsUnless OK status
stored_accepted = grind arith

stored_refused : (answer : Result (Vec ℕ Global) StoreFault) (why : StoreFault) (status : ℕ) (out out' : MpslpText)
    (fault fault' : MpslpFault) → IsErrUnless answer why stored.OutOfMemory →
    IsStoreReturned answer status out out' fault fault' → IsUnless (store_status why) status
stored_refused = grind arith

-- each error of arrays has one status
refused_as : (arrays : MpslpModel) (why : StoreFault) (status : ℕ) → HasFault arrays why →
    IsUnless (store_status why) status → IsUnless REFUSED status
refused_as = grind arith

pub stored_so : (unfit : Unfit) (text : TextOf) (arrays : MpslpModel) (answer : Result (Vec ℕ Global) StoreFault) (status : ℕ)
    (out out' : MpslpText) (fault fault' : MpslpFault) → IsStoring unfit text arrays answer
    → ((m : LinearModel) → Defines arrays m → unfit m ≡ None → IsOkUnless answer stored.OutOfMemory)
    → ((why : StoreFault) → HasFault arrays why → IsErrUnless answer why stored.OutOfMemory) → ((m : LinearModel) (place : NameAt)
    → Defines arrays m → unfit m ≡ Some place → IsErrUnless answer (stored.NotLp place) stored.OutOfMemory)
    → IsStoreReturned answer status out out' fault fault' → IsStored unfit text arrays status out out' fault fault'
stored_so unfit text arrays answer status out out' fault fault' is accepts refuses cannot_express returned = record {
  answer = answer;
  is = is;
  returned = returned;
  accepts = λ m defines fits. stored_accepted answer status out out' fault fault' (accepts m defines fits) returned;
  refuses = λ why has. refused_as arrays why status has
      (stored_refused answer why status out out' fault fault' (refuses why has) returned);
  cannot_express = λ m place defines found. stored_refused answer (stored.NotLp place) status out out' fault fault'
      (cannot_express m place defines found) returned;
}

-- ---- arrays that are normalized

pub normalized_so : (arrays : MpslpModel) (answer : Result MpslpModel StoreFault) (status : ℕ) (out out' : MpslpModel)
    (fault fault' : MpslpFault) → IsNormalizing arrays answer → ((m : LinearModel) → Defines arrays m
    → IsOkUnless answer stored.OutOfMemory) →
    ((why : StoreFault) → HasFault arrays why → IsErrUnless answer why stored.OutOfMemory) →
    AreArraysReturned answer status out out' fault fault' → IsNormalized arrays status out out' fault fault'
normalized_so = grind arith
