use Rattle.std.proofs.Common.{subst, ℕ, [], ◌∷◌, ◌++◌, List}
use Rattle.mpslp_c.specs.{Answers.TakesItems, Stored.{Item, items, objective_steps, row_items, first_column_steps, column_items, bytes_at}}
use Rattle.mpslp_c.specs.declared.faults.TheConstants.{AT_OBJECTIVE, AT_COLUMN}
use Rattle.mpslp_c.proofs.KnownLemmas.{leads_all, leads_then, leads_reported, leads_last, one_item}
use Rattle.mpslp_c.proofs.storing.declare_items.Goals as goal

pub returns-in_err-declare_rows : goal.returns-in_err-declare_rows
returns-in_err-declare_rows c =
    let arrays = c.args.model.now in
    let names = arrays.names.now in
    let old = c.args.builder.now in
    let one = c.declare_stored_objective.new.builder in
    let two = c.declare_rows.new.builder in
    let objective : Item = record { place = AT_OBJECTIVE; number = 0; steps = objective_steps arrays } in
    let rows = row_items names 0 arrays.rows.now in
    let start : Item = record { place = AT_COLUMN; number = 0; steps = first_column_steps arrays.columns.now } in
    let columns = column_items names (bytes_at names arrays.objective) arrays.rows.now arrays.elements.now 0 arrays.columns.now in
    let first = leads_then (items arrays) (objective ∷ []) (rows ++ (start ∷ columns)) old old one (leads_all (items arrays) old)
    (one_item objective old one c.declare_stored_objective.result c.in_ok-placed.ensures c.declare_stored_objective.ensures) in
    leads_reported (items arrays) rows (start ∷ columns) old one two _ c.in_err-declare_rows.field-0.0 _ first
    c.in_err-declare_rows.ensures c.from_residual-in_err-declare_rows.ensures.1

pub returns-in_err-placed-2 : goal.returns-in_err-placed-2
returns-in_err-placed-2 c =
    let arrays = c.args.model.now in
    let names = arrays.names.now in
    let old = c.args.builder.now in
    let one = c.declare_stored_objective.new.builder in
    let two = c.declare_rows.new.builder in
    let objective : Item = record { place = AT_OBJECTIVE; number = 0; steps = objective_steps arrays } in
    let rows = row_items names 0 arrays.rows.now in
    let start : Item = record { place = AT_COLUMN; number = 0; steps = first_column_steps arrays.columns.now } in
    let columns = column_items names (bytes_at names arrays.objective) arrays.rows.now arrays.elements.now 0 arrays.columns.now in
    let first = leads_then (items arrays) (objective ∷ []) (rows ++ (start ∷ columns)) old old one (leads_all (items arrays) old)
    (one_item objective old one c.declare_stored_objective.result c.in_ok-placed.ensures c.declare_stored_objective.ensures) in
    let second = leads_then (items arrays) rows (start ∷ columns) old one two first c.in_ok-declare_rows.ensures in
    leads_reported (items arrays) (start ∷ []) columns old two two _ c.in_err-placed-2.field-0.0 _ second (one_item start two two
    c.check_first.result c.in_err-placed-2.ensures (c.check_first.ensures two)) c.from_residual-in_err-placed-2.ensures.1

pub returns : goal.returns
returns c =
    let arrays = c.args.model.now in
    let names = arrays.names.now in
    let old = c.args.builder.now in
    let one = c.declare_stored_objective.new.builder in
    let two = c.declare_rows.new.builder in
    let new = c.declare_columns.new.builder in
    let objective : Item = record { place = AT_OBJECTIVE; number = 0; steps = objective_steps arrays } in
    let rows = row_items names 0 arrays.rows.now in
    let start : Item = record { place = AT_COLUMN; number = 0; steps = first_column_steps arrays.columns.now } in
    let columns = column_items names (bytes_at names arrays.objective) arrays.rows.now arrays.elements.now 0 arrays.columns.now in
    let first = leads_then (items arrays) (objective ∷ []) (rows ++ (start ∷ columns)) old old one (leads_all (items arrays) old)
    (one_item objective old one c.declare_stored_objective.result c.in_ok-placed.ensures c.declare_stored_objective.ensures) in
    let second = leads_then (items arrays) rows (start ∷ columns) old one two first c.in_ok-declare_rows.ensures in
    let third = leads_then (items arrays) (start ∷ []) columns old two two second (one_item start two two c.check_first.result
    c.in_ok-placed-2.ensures (c.check_first.ensures two)) in
    leads_last (items arrays) columns old two new c.declare_columns.result third
    (subst (λ (name : List ℕ). TakesItems
    (column_items names name arrays.rows.now arrays.elements.now 0 arrays.columns.now) two new
    c.declare_columns.result) c.bytes_at.ensures c.declare_columns.ensures)
