use Rattle.std.{proofs.Common.{sym, ◌∙◌}, specs.Prelude.None}
use Rattle.mpslp_builder.specs.{Tables.draft, FaultFound.fault_found}
use Rattle.mpslp_builder.proofs.ReadingLemmas.{some_column, nonempty_from, of_the_whole, first_decides, later_decides}
use Rattle.mpslp_builder.proofs.tables.Tables.first_fault.Goals as goal

pub returns-then-is_some-clause-fault : goal.returns-then-is_some-clause-fault
returns-then-is_some-clause-fault c = let t = c.args.self.now in
    let some = some_column t.columns.entries ∙ nonempty_from t.columns.entries (λ empty. let no = c.if-is_empty.ensures.1 empty in
    absurd cc) in first_decides (fault_found t) c.first_fault_of_rows-of_rows.result _ _
    c.first_fault_of_rows-of_rows.ensures.fault c.if-is_some.ensures ∙ sym (of_the_whole (draft None None t) some)

pub returns-clause-fault : goal.returns-clause-fault
returns-clause-fault c = let t = c.args.self.now in
    let some = some_column t.columns.entries ∙ nonempty_from t.columns.entries (λ empty. let no = c.if-is_empty.ensures.1 empty in
    absurd cc) in c.first_fault_of_columns.ensures.fault ∙ later_decides (fault_found t) c.first_fault_of_rows-of_rows.result
    _ _ c.first_fault_of_rows-of_rows.ensures.fault c.if-is_some.ensures ∙ sym (of_the_whole (draft None None t) some)
