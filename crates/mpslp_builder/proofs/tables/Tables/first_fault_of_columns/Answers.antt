use Rattle.std.proofs.Common.{◌≡◌, refl, sym, ap, subst, ◌∙◌, ◌<◌, List, [], ℕ}
use Rattle.std.specs.{Prelude.{Some, None, slice_index_or}, Option.option_map}
use Rattle.mpslp_model_core.specs.declared.bounds.ColumnFault.{ColumnFault, TheVariants.NegativeUpper}
use Rattle.mpslp_builder_parts.specs.{Parts.{definition_in, parts_with}, StoredColumns.definition_of_stored}
use Rattle.mpslp_builder.specs.{FileFault.whole_fault, Tables.draft, FaultFound.{IsThere, column_fails}}
use Rattle.mpslp_builder.specs.FaultFound.{is_wrong_column, kind_of_column_fault, entry_name, least_name, named_fault, fault_found}
use Rattle.mpslp_builder.specs.declared.tables.file_faults.FoundFault.{FoundFault, TheVariants.Column}
use Rattle.mpslp_builder.proofs.ReadingLemmas.{column_named, faultless_column, none_least, none_left, reported, entry_named, first_left}
use Rattle.mpslp_builder.proofs.{AlikeLemmas.{any_alike, least_alike, length_alike, named_alike}, ReadingLemmas.next_left}
use Rattle.mpslp_builder.proofs.tables.Tables.first_fault_of_columns.Goals as goal

pub returns-then-not-has_faulty-clause-fault : goal.returns-then-not-has_faulty-clause-fault
returns-then-not-has_faulty-clause-fault c = let columns = c.args.self.now.columns.entries in
    let alike = any_alike definition_of_stored definition_in c.stored.result.now.entries columns c.stored.ensures
    (λ definition. is_wrong_column (parts_with [] definition)) in
    sym (none_left (λ (f : ColumnFault). named_fault (draft None None c.args.self.now)
    (kind_of_column_fault f)) (λ f. column_named c.args.self.now c.each_name_occurs_once.ensures f
    ∙ ap (option_map (λ (name : List ℕ). whole_fault (kind_of_column_fault f) (Some name)))
    (none_least (column_fails f) is_wrong_column (faultless_column f) columns
    (sym alike ∙ sym c.if-not-has_faulty.ensures))) c.args.faults.now)

pub returns-in-Some-clause-fault : goal.returns-in-Some-clause-fault
returns-in-Some-clause-fault c = let t = c.args.self.now in
    let fault = slice_index_or c.args.faults.now c.loop-fault.fault-index NegativeUpper in
    let columns = t.columns.entries in
    let stored = c.stored-in-loop-fault.result.now.entries in
    let same = c.stored-in-loop-fault.ensures in
    let name = entry_name columns c.in-Some.at in
    let there = subst (λ (n : ℕ). c.in-Some.at < n) (length_alike definition_of_stored definition_in stored columns same)
    (c.in-Some.ensures.there c.in-Some.at refl) in
    let least = sym (named_alike definition_of_stored definition_in stored columns same c.in-Some.at) ∙ c.in-Some.ensures.name
    ∙ least_alike definition_of_stored definition_in stored columns same
    (λ definition. column_fails fault (parts_with [] definition)) in
    sym (first_left (λ (f : ColumnFault). named_fault (draft None None t) (kind_of_column_fault f))
    c.args.faults.now c.loop-fault.fault-index NegativeUpper (fault_found t (Column fault c.in-Some.at))
    c.loop-fault-test.true (column_named t c.each_name_occurs_once.ensures fault
    ∙ reported (kind_of_column_fault fault) name (least_name (column_fails fault) columns) least
    (entry_named columns c.in-Some.at there))) ∙ c.loop-fault.invariant

pub returns-in-Some-clause-there : goal.returns-in-Some-clause-there
returns-in-Some-clause-there c = let t = c.args.self.now in
    let fault = slice_index_or c.args.faults.now c.loop-fault.fault-index NegativeUpper in
    let there = subst (λ (n : ℕ). c.in-Some.at < n) (length_alike definition_of_stored definition_in
    c.stored-in-loop-fault.result.now.entries t.columns.entries c.stored-in-loop-fault.ensures)
    (c.in-Some.ensures.there c.in-Some.at refl) in
    λ (found : FoundFault) is. let same : ◌≡◌ {A = FoundFault} (Column fault c.in-Some.at) found = cc in
    subst (IsThere t) same there

pub loop-fault-preserved : goal.loop-fault-preserved
loop-fault-preserved c = let t = c.args.self.now in
    let fault = slice_index_or c.args.faults.now c.loop-fault.fault-index NegativeUpper in
    let alike = least_alike definition_of_stored definition_in c.stored-in-loop-fault.result.now.entries t.columns.entries
    c.stored-in-loop-fault.ensures (λ definition. column_fails fault (parts_with [] definition)) in
    next_left (λ (f : ColumnFault). named_fault (draft None None t) (kind_of_column_fault f)) c.args.faults.now
    c.loop-fault.fault-index NegativeUpper c.loop-fault-test.true (column_named t c.each_name_occurs_once.ensures fault
    ∙ ap (option_map (λ (name : List ℕ). whole_fault (kind_of_column_fault fault) (Some name)))
    (sym (c.in_default.ensures.name ∙ alike))) ∙ c.loop-fault.invariant
