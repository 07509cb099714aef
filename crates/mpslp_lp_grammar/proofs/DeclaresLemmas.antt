-- What calls of a builder return for declarations, and the number of rows after them.
use Rattle.std.proofs.Common.{arith}
use Rattle.std.specs.{Cmp.Lexicographic.{nat_list_cmp_total}, FinMap.{find, Entries.{length-put}}, Result.{IsErrAnd}}
use Rattle.mpslp_lp_grammar.proofs.Prelude
use Prelude.{◌≡◌, ap, ◌∙◌, ℕ, ◌+◌, List, [], ◌∷◌, ◌++◌, Bool, false, cond, length, Option, Ok, Err, is_some, bytes_cmp, BuildFault, Limit}
use Prelude.{Declaration, declare_row, RowDefinition, Declarations, Draft, with_declaration, with_declarations, bounds_declared, refusals}
use Prelude.{sorted-from_made, LineResult, DeclaresUnless, Declares}
use Rattle.mpslp_builder.specs.{Answer.{Answer, Answers}, Made.{IsMade}}
use Rattle.mpslp_lines.specs.{ErrorOf.{error_of_build}, declared.errors.LineError.{LineError}}

-- ---- a call that is rejected

pub reported-by : (refusals : List BuildFault) (earlier later : Draft) (made : Declarations) (answer : LineResult)
    (error : LineError) → IsErrAnd answer (λ e. e ≡ error)
    → DeclaresUnless refusals earlier made (Err error) later → DeclaresUnless refusals earlier made answer later
reported-by = grind arith

pub refused-declares : (earlier later : Draft) (d : Declaration) (fault : BuildFault) (P Q : Type 0) (answer : LineResult)
    → IsErrAnd answer (λ e. e ≡ error_of_build fault)
    → Answers (refusals earlier d) (Err fault) P Q → Declares earlier (d ∷ []) answer later
refused-declares = grind arith

pub refused-unless : (faults : List BuildFault) (earlier later : Draft) (made : Declarations) (fault : BuildFault) (P Q : Type 0)
    (answer : LineResult) → IsErrAnd answer (λ e. e ≡ error_of_build fault)
    → Answers faults (Err fault) P Q → DeclaresUnless faults earlier made answer later
refused-unless = grind arith

-- ---- declarations one after another

-- an error of the first declarations is the first of all
pub refused-here : (first more all : List BuildFault) (a b c d : Draft) (xs ys : Declarations) (error : LineError) →
    all ≡ first ++ more → DeclaresUnless first a xs (Err error) b → DeclaresUnless all c ys (Err error) d
refused-here = grind arith

-- ---- the number of rows

pub rows-kept : (faults : List BuildFault) (answer : Answer) (earlier made later : Draft) → made.rows ≡ earlier.rows
    → Answers faults answer (later ≡ made) (later ≡ earlier) → later.rows ≡ earlier.rows
rows-kept = grind arith

-- a call that is rejected
pub refused-rows : (faults : List BuildFault) (fault : BuildFault) (earlier later : Draft) (P : Type 0)
    → Answers faults (Err fault) P (later ≡ earlier) → later.rows ≡ earlier.rows
refused-rows = grind arith

-- a call that is accepted
pub declared-by : (faults : List BuildFault) (earlier later made : Draft) →
    Answers faults (Ok tt) (later ≡ made) (later ≡ earlier) → (faults ≡ []) × (later ≡ made)
declared-by = grind arith

pub bounds-rows : (earlier : Draft) (column : List ℕ) (lower upper : Option Limit)
    → (with_declarations earlier (bounds_declared column lower upper)).rows ≡ earlier.rows
bounds-rows = grind arith

new_name : (earlier : Draft) (name : List ℕ) (form : RowDefinition) → refusals earlier (declare_row name form) ≡ []
    → is_some (find bytes_cmp name earlier.rows) ≡ false
new_name = grind arith

-- a row with a new name adds one
pub row-added : (earlier later : Draft) (name : List ℕ) (form : RowDefinition) → IsMade earlier
    → refusals earlier (declare_row name form) ≡ [] → later ≡ with_declaration earlier (declare_row name form)
    → length later.rows ≡ length earlier.rows + 1
row-added earlier later name form made none added =
    ap (λ (d : Draft). length d.rows) added
    ∙ length-put bytes_cmp nat_list_cmp_total name form earlier.rows (sorted-from_made earlier made).rows
    ∙ ap (λ (b : Bool). cond b (length earlier.rows) (length earlier.rows + 1)) (new_name earlier name form none)
