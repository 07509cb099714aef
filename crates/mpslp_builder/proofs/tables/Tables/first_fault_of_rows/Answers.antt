use Rattle.std.{proofs.Common.{refl, sym, ap, ◌∙◌, List, ℕ}, specs.{Prelude.{Some, None, slice_index_or}, Option.option_map}}
use Rattle.mpslp_model_core.specs.declared.limits.RowFault.{RowFault, TheVariants.InfiniteLimit}
use Rattle.mpslp_builder.specs.{FileFault.whole_fault, Tables.draft}
use Rattle.mpslp_builder.specs.FaultFound.{row_fails, is_wrong_row, kind_of_row_fault, entry_name, least_name, named_fault, fault_found}
use Rattle.mpslp_builder.{specs.declared.tables.file_faults.FoundFault.TheVariants.Row, proofs.ReadingLemmas.row_named}
use Rattle.mpslp_builder.proofs.ReadingLemmas.{faultless_row, none_least, none_left, reported, entry_named, first_left, next_left}
use Rattle.mpslp_builder.proofs.tables.Tables.first_fault_of_rows.Goals as goal

pub returns-then-not-has_faulty-clause-fault : goal.returns-then-not-has_faulty-clause-fault
returns-then-not-has_faulty-clause-fault c =
    sym (none_left (λ (f : RowFault). named_fault (draft None None c.args.self.now) (kind_of_row_fault f))
    (λ f. row_named c.args.self.now c.requires c.each_name_occurs_once.ensures f
    ∙ ap (option_map (λ (name : List ℕ). whole_fault (kind_of_row_fault f) (Some name)))
    (none_least (row_fails f) is_wrong_row (faultless_row f) c.args.self.now.rows.entries
    (sym c.if-not-has_faulty.ensures))) c.args.faults.now)

pub returns-in-Some-clause-fault : goal.returns-in-Some-clause-fault
returns-in-Some-clause-fault c =
    let t = c.args.self.now in
    let fault = slice_index_or c.args.faults.now c.loop-fault.fault-index InfiniteLimit in
    let name = entry_name t.rows.entries c.in-Some.at in
    sym (first_left (λ (f : RowFault). named_fault (draft None None t) (kind_of_row_fault f)) c.args.faults.now
    c.loop-fault.fault-index InfiniteLimit (fault_found t (Row fault c.in-Some.at)) c.loop-fault-test.true (row_named t
    c.requires c.each_name_occurs_once.ensures fault ∙ reported (kind_of_row_fault fault) name
    (least_name (row_fails fault) t.rows.entries) c.in-Some.ensures.name
    (entry_named t.rows.entries c.in-Some.at (c.in-Some.ensures.there c.in-Some.at refl)))) ∙ c.loop-fault.invariant

pub loop-fault-preserved : goal.loop-fault-preserved
loop-fault-preserved c =
    let t = c.args.self.now in
    let fault = slice_index_or c.args.faults.now c.loop-fault.fault-index InfiniteLimit in
    next_left (λ (f : RowFault). named_fault (draft None None t) (kind_of_row_fault f)) c.args.faults.now c.loop-fault.fault-index
    InfiniteLimit c.loop-fault-test.true (row_named t c.requires c.each_name_occurs_once.ensures fault
    ∙ ap (option_map (λ (name : List ℕ). whole_fault (kind_of_row_fault fault) (Some name)))
    (sym c.in_default.ensures.name)) ∙ c.loop-fault.invariant
