-- Drafts that a builder can hold: what calls return, which drafts they make, and what a draft means at the end.
use Rattle.mpslp_builder.proofs.Prelude
use Prelude.{arith, rules, ◌≡◌, refl, sym, ap, subst, ◌∙◌, ℕ, List, [], ◌∷◌, ◌++◌, Bool, true, false, not, ◌&&◌, Option, None}
use Prelude.{is_some, list_all, option_map_or, append-nil, append_assoc, list_all-append, Number, LinearModel, RowDefinition, Declaration}
use Prelude.{declare_objective, declare_row, declare_rhs, Declarations, Draft, with_declaration, with_declarations, draft_of, has_name}
use Prelude.{has_row, is_free_row, bounds_declared, is_given, ◌||◌}
use Prelude.{has_objective, AreConsistent, refusals, refusals_in_turn, bounds_refusals, is_legal, HasNoFreeRhs, IsMade, model_of}
use Prelude.{DraftMeans, file_fault, Limit, BuildFault, UnknownColumn, DuplicateBound, InfiniteValue, both_so, or_right, back}
use Prelude.{both_false, Some, Result, IfOk, MatchResult, Fault, ReadFault, Finishes, Means, IsAnswerOf, cond, IsTrue, Ok, Err, IsErrAnd}
use Prelude.{ForSome, eq_by_cmp, first_so, second_so, texts_ties, find, put, is_sorted, T, is_mps_name, bytes_cmp, CoefficientKey, key_cmp}
use Prelude.{same_key, equal_from, CoefficientsAreKnown, has_column, those_of, OutOfMemory as OutOfMemory_answer, Answer, Answers}
use Prelude.{first_refusal, imp_all}
use Rattle.mpslp_types.specs.declared.faults.ReadFault.TheVariants.{OutOfMemory}
use Rattle.mpslp_builder.proofs.RefusalLemmas.{HasDeclaredNames, not_both, first_none, pass, join_none, empty_declared_names}
use Rattle.mpslp_builder.proofs.RefusalLemmas.{empty_kinds_apart, none-fine, consistent-from_none, IsWellFormed}
use Rattle.mpslp_builder.proofs.{RefusalLemmas.well_formed-from_consistent, SlotLemmas.{at-put, has-put, same_name, put-again}}
use Rattle.mpslp_builder.proofs.DraftEntries.{IsGood, good-with_declarations, empty_good, bytes_total, tied_names}
use Rattle.mpslp_builder.proofs.MeaningFromNoFault.{meant-from_no_fault, no_fault-from_meant}

-- ---- drafts that a builder can hold: each call that is not rejected makes another such draft, and at the end a draft
-- means a model if and only if it has no whole-file error

-- ---- several declarations after several

-- the draft, and the errors, of declarations after others
pub with_declarations-append : (xs ys : Declarations) (before : Draft)
    → with_declarations before (xs ++ ys) ≡ with_declarations (with_declarations before xs) ys
with_declarations-append [] ys before = refl
with_declarations-append (x ∷ xs) ys before = with_declarations-append xs ys _

pub refusals_in_turn-append : (xs ys : Declarations) (before : Draft)
    → refusals_in_turn before (xs ++ ys) ≡ refusals_in_turn before xs ++ refusals_in_turn (with_declarations before xs) ys
refusals_in_turn-append [] ys before = refl
refusals_in_turn-append (x ∷ xs) ys before =
    grind (arith, append_assoc, refusals_in_turn-append xs ys (with_declaration before x))

-- ---- right-hand sides of rows of type N

-- the right-hand side of a row of type N
abbrev pub is_free_rhs : Draft → Declaration → Bool
is_free_rhs all (declare_rhs row value) = is_free_row all row
is_free_rhs all _ = false

-- a new row, which has no right-hand side yet
free_rhs-row : (all : Draft) (name : List ℕ) (definition : RowDefinition) → HasDeclaredNames all → has_row all name ≡ false
    → HasNoFreeRhs all → HasNoFreeRhs (with_declaration all (declare_row name definition))
free_rhs-row all name definition names new none = search (rules, at-put, back, same_name)

-- the right-hand side of another row
free_rhs-side : (all : Draft) (name : List ℕ) (value : Number) → is_free_row all name ≡ false → HasNoFreeRhs all
    → HasNoFreeRhs (with_declaration all (declare_rhs name value))
free_rhs-side all name value limited none = search (rules, has-put, same_name)

free_rhs-kept : (all : Draft) (d : Declaration) → HasDeclaredNames all → refusals all d ≡ [] →
    is_free_rhs all d ≡ false → HasNoFreeRhs all → HasNoFreeRhs (with_declaration all d)
free_rhs-kept = grind (arith, free_rhs-row, first_none, free_rhs-side)

-- ---- what makes a draft that a builder can hold

-- the names that it uses are declared
pub declared_names-from_made : (all : Draft) → IsMade all → HasDeclaredNames all
declared_names-from_made all made = grind (arith, none-fine made.declarations, empty_declared_names, empty_kinds_apart)

-- several legal declarations, none of them rejected
made-with_declarations : (all : Draft) (more : Declarations) → IsMade all → list_all is_legal more ≡ true →
    refusals_in_turn all more ≡ [] → HasNoFreeRhs (with_declarations all more) → IsMade (with_declarations all more)
made-with_declarations all more made legal unrefused no_free_rhs = grind (
  arith,
  list_all-append,
  both_so,
  refusals_in_turn-append made.declarations,
  join_none,
  with_declarations-append
      made.declarations,
)

-- one legal declaration that is not rejected and is no right-hand side of a row of type N
pub made-with_declaration : (all : Draft) (d : Declaration) → IsMade all → is_legal d ≡ true → refusals all d ≡ []
    → is_free_rhs all d ≡ false → IsMade (with_declaration all d)
made-with_declaration all d made legal unrefused limited = made-with_declarations all (d ∷ []) made (both_so _ _ legal refl)
    (append-nil _ ∙ unrefused) (free_rhs-kept all d (declared_names-from_made all made) unrefused limited made.no_free_rhs)

-- the tests of a bound
abbrev bound_tests : Bool → Bool → Bool → List (Bool × BuildFault)
bound_tests unknown filled infinite = (unknown, UnknownColumn) ∷ (filled, DuplicateBound) ∷ (infinite, InfiniteValue) ∷ []

-- the bounds of a column from one call are not rejected one after another
pub bounds-in_turn : (all : Draft) (column : List ℕ) (lower upper : Option Limit) → bounds_refusals all column lower upper ≡ []
    → refusals_in_turn all (bounds_declared column lower upper) ≡ []
bounds-in_turn = grind arith

legal_bounds : (column : List ℕ) (lower upper : Option Limit) → option_map_or is_given lower true ≡ true
    → option_map_or is_given upper true ≡ true → list_all is_legal (bounds_declared column lower upper) ≡ true
legal_bounds = grind arith

-- the bounds that one call gives
pub made-bounds : (all : Draft) (column : List ℕ) (lower upper : Option Limit) → IsMade all →
    option_map_or is_given lower true ≡ true → option_map_or is_given upper true ≡ true →
    bounds_refusals all column lower upper ≡ [] → IsMade (with_declarations all (bounds_declared column lower upper))
made-bounds all column lower upper made h k unrefused =
    grind (arith, made-with_declarations all, legal_bounds, bounds-in_turn all)

-- ---- properties of such a draft

objective-declared : (declarations : Declarations) (before : Draft) → is_some before.objective ≡ false
    → is_some (with_declarations before declarations).objective ≡ true → has_objective declarations ≡ true
objective-declared [] before none there = absurd cc
objective-declared (declare_objective name ∷ more) before none there = refl
objective-declared (d ∷ more) before none there = objective-declared more _ none there

-- with an objective, its declarations are consistent
pub consistent-from_made : (all : Draft) (made : IsMade all) → is_some all.objective ≡ true → AreConsistent made.declarations
consistent-from_made = grind (arith, consistent-from_none, objective-declared)

-- a right-hand side of a row of type N is never rejected
pub free_rhs-passes : (all : Draft) (row : List ℕ) (value : Number) → IsMade all → is_free_row all row ≡ true
    → refusals all (declare_rhs row value) ≡ []
free_rhs-passes all row value made free = grind (arith, not_both, declared_names-from_made all made, pass, or_right, both_false)

-- each entry of it is valid, also before the objective is named
pub good-from_made : (all : Draft) → IsMade all → IsGood all all
good-from_made all made = let drafted = draft_of made.declarations in
    let fine = none-fine made.declarations _ empty_declared_names empty_kinds_apart refl made.unrefused in
    subst (λ draft. IsGood draft draft) (sym made.draft)
    (good-with_declarations _ made.declarations _ (empty_good drafted) made.legal fine.known fine.allowed)

-- with an objective, it is well-formed
pub well_formed-from_made : (all : Draft) → IsMade all → is_some all.objective ≡ true → IsWellFormed all
well_formed-from_made = grind (arith, well_formed-from_consistent, consistent-from_made)

-- ---- the end: a model is meant if and only if there is no whole-file error

-- no error is reported: the model of the draft is meant
pub meant-from_made : (all : Draft) → IsMade all → is_some all.objective ≡ true → file_fault all ≡ None →
    DraftMeans all (model_of all)
meant-from_made all made there none = meant-from_no_fault all (well_formed-from_made all made there) none

-- a model is meant: no error is reported
pub no_fault-from_made : (all : Draft) (m : LinearModel) → IsMade all → is_some all.objective ≡ true →
    DraftMeans all m → file_fault all ≡ None
no_fault-from_made all m made there meant = no_fault-from_meant all m (well_formed-from_made all made there) meant

-- ---- a result that meets the contract of `finish` is the model that the declarations mean

module _ (all : Draft) (made : IsMade all) (there : is_some all.objective ≡ true) where
  -- the draft means what its declarations mean
  means : (m : LinearModel) → DraftMeans all m → Means made.declarations m
  means m meant = record {
    consistent = consistent-from_made all made there;
    meant =
        subst (λ draft. DraftMeans draft m) made.draft meant;
  }

  draft_means : (m : LinearModel) → Means made.declarations m → DraftMeans all m
  draft_means = grind arith

  no_fault : (m : LinearModel) → Means made.declarations m → file_fault all ≡ None
  no_fault m meant = no_fault-from_made all m made there (draft_means m meant)

  only_if_meant : (answer : Result LinearModel ReadFault) → Finishes all answer →
      IfOk answer (λ model. Means made.declarations model)
  only_if_meant = grind (arith, means)

  a_fault : (fault : Fault) → file_fault all ≡ None → file_fault all ≡ Some fault → ⊥
  a_fault fault none some = let both = sym none ∙ some in cc

  if_meant : (answer : Result LinearModel ReadFault) → Finishes all answer → (m : LinearModel) → Means made.declarations m
      → MatchResult answer (λ model. model ≡ m) (λ fault. fault ≡ OutOfMemory)
  if_meant = grind (arith, draft_means, a_fault, no_fault)

pub answers-the_meaning : (all : Draft) (made : IsMade all) (answer : Result LinearModel ReadFault) → is_some all.objective ≡ true
    → Finishes all answer → IsAnswerOf made.declarations answer
answers-the_meaning = grind (arith, only_if_meant, if_meant)

-- ---- the result of a call by its first error, and what is known if it has none

pub none_refused : (faults : List BuildFault) → Ok tt ≡ first_refusal faults → faults ≡ []
none_refused = grind arith

-- the result of a query is passed on
pub handed_on : (faults : List BuildFault) (answer : Answer) (fault : BuildFault) (P Q : Type 0)
    → IsErrAnd answer (λ stated. stated ≡ fault) → Err fault ≡ first_refusal faults → Q → Answers faults answer P Q
handed_on faults answer fault P Q stated first q = grind arith

-- if there is no error, none is returned
pub none_reported : {X : Type 0} (faults : List BuildFault) (fault : BuildFault) → faults ≡ [] →
    Err fault ≡ first_refusal faults → X
none_reported = grind arith

-- there is no error, and the declaration is made
pub declared : (faults : List BuildFault) (P Q : Type 0) → faults ≡ [] → P → Answers faults (Ok tt) P Q
declared faults P Q h p = grind arith

pub want_of_memory : (faults : List BuildFault) (answer : Answer) (P Q : Type 0) →
    IsErrAnd answer (λ stated. stated ≡ OutOfMemory_answer) → faults ≡ [] → Q → Answers faults answer P Q
want_of_memory faults answer P Q stated none q = grind arith

-- ---- what is known if a call has no error

-- one more declaration is made
pub made_next : {inner all : Draft} (d : Declaration) → inner ≡ all → IsMade inner → is_legal d ≡ true → refusals all d ≡ []
    → is_free_rhs inner d ≡ false → IsMade (with_declaration inner d)
made_next {inner} {all} d seen made legal none limited = grind (arith, made-with_declaration)

-- a draft that equals one with one more declaration is made too
pub made_after : {inner later : Draft} (d : Declaration) → later ≡ with_declaration inner d → IsMade inner → is_legal d ≡ true
    → refusals inner d ≡ [] → is_free_rhs inner d ≡ false → IsMade later
made_after = grind (arith, made_next)

-- which proves the contract of the call
pub answered : {inner all later : Draft} (d : Declaration) → inner ≡ all → later ≡ with_declaration inner d →
    refusals inner d ≡ [] → Answers (refusals all d) (Ok tt) (later ≡ with_declaration all d) (later ≡ all)
answered {inner} {all} {later} d seen after none = grind arith

-- a property of all names is one of each
named_so : {X : Type 0} (p : List ℕ → Bool) (name : List ℕ) (es : List (List ℕ × X)) → list_all (λ e. p e.0) es ≡ true
    → has_name es name ≡ true → p name ≡ true
named_so p name [] all h = cc
named_so {X} p name (e ∷ es) all h =
    elim (eq_by_cmp bytes_cmp _ e.0) as (λ b. eq_by_cmp bytes_cmp name e.0 ≡ b
    → is_some (cond b (Some e.1) (find bytes_cmp name es)) ≡ true → p name ≡ true) [
      | true ↦ λ same _. ap p (same_name name e.0 (texts_ties name e.0 ∙ same))
          ∙ first_so _ _ all
      | false ↦ λ _ there. named_so p _ es (second_so (p e.0) (list_all (λ (e : List ℕ × X). p e.0) es) all) there
    ] refl h

-- a declared column has a legal name
pub column_is_legal : (all : Draft) (name : List ℕ) → IsMade all → has_column all name ≡ true → is_mps_name name ≡ true
column_is_legal all name made h = named_so _ name _ (good-from_made all made).columns h

-- ---- what is known if no test is true

pub known_column : (all : Draft) (name : List ℕ) (more : List (Bool × BuildFault))
    → those_of ((not (has_column all name), UnknownColumn) ∷ more) ≡ [] → has_column all name ≡ true
known_column = grind arith

-- ---- a set that already has the name

pub put_again : (name : List ℕ) (names : List (List ℕ × Unit {0})) → T (is_sorted bytes_cmp names) → has_name names name ≡ true
    → names ≡ put bytes_cmp name tt names
put_again = grind (arith, put-again, bytes_total, tied_names)

pub made_now : {inner all : Draft} → inner ≡ all → IsMade inner → IsMade all
made_now seen made = subst IsMade seen made

-- ---- the bounds of a column

none_there : {X : Type 0} (o : Option X) → is_some o ≡ false → o ≡ None
none_there = grind arith

-- neither of the given bounds is declared
pub no_side : (all : Draft) (column : List ℕ) (lower upper : Option Limit) → bounds_refusals all column lower upper ≡ []
    → ((is_some lower && has_name all.lowers column) ≡ false) × ((is_some upper && has_name all.uppers column) ≡ false)
no_side = grind arith

given : (side : Option Limit) → ForSome side (λ s. IsTrue (is_given s)) → option_map_or is_given side true ≡ true
given = grind arith

-- the bounds of one call are declared
pub made_sides : {inner all : Draft} (column : List ℕ) (lower upper : Option Limit) → inner ≡ all → IsMade inner
    → ForSome lower (λ s. IsTrue (is_given s)) → ForSome upper (λ s. IsTrue (is_given s)) →
    bounds_refusals all column lower upper ≡ [] → IsMade (with_declarations inner (bounds_declared column lower upper))
made_sides {inner} {all} column lower upper seen made l u none = grind (arith, made-bounds, given)

-- ---- coefficients

-- a property of all keys is one of each
keyed_so : (p : CoefficientKey → Bool) (key : CoefficientKey) (es : List (CoefficientKey × Number)) →
    list_all (λ e. p e.0) es ≡ true → is_some (find key_cmp key es) ≡ true → p key ≡ true
keyed_so p key [] all h = cc
keyed_so p key (e ∷ es) all h = grind (arith, same_key key e.0, equal_from, keyed_so p key es)

-- the row (or objective) and the column of a declared coefficient are declared
pub coefficients_known : (all : Draft) → IsMade all → CoefficientsAreKnown all
coefficients_known all made key there = keyed_so (λ key. has_row all _ && has_column all _)
    key _ (imp_all _ (λ e. has_row all _ && has_column all _) _ (λ e h. second_so _ _ h)
    (good-from_made all made).coefficients) there

-- ---- errors of parts

none-left : (xs ys : List BuildFault) → xs ++ ys ≡ [] → (xs ≡ []) × (ys ≡ [])
none-left [] _ h = (refl, h)
none-left (x ∷ xs) ys h = cc

-- if nothing of two parts is rejected, nothing of either is
pub parts-taken : (all : Draft) (xs ys : Declarations)
    → refusals_in_turn all (xs ++ ys) ≡ [] →
    (refusals_in_turn all xs ≡ []) × (refusals_in_turn (with_declarations all xs) ys ≡ [])
parts-taken all xs ys h = none-left (refusals_in_turn all xs) (refusals_in_turn (with_declarations all xs) ys)
    (sym (refusals_in_turn-append xs ys all) ∙ h)

-- ---- bounds that are not rejected one by one are not rejected together

pub sides-taken : (all : Draft) (column : List ℕ) (lower upper : Option Limit) →
    refusals_in_turn all (bounds_declared column lower upper) ≡ [] → is_some lower || is_some upper ≡ true →
    bounds_refusals all column lower upper ≡ []
sides-taken = grind arith
