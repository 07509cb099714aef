use Rattle.std.proofs.Common.{subst, ℕ, [], ◌∷◌, ◌++◌, ◌+◌, length, drop, Ok, Err}
use Rattle.mpslp_c.specs.{Answers.TakesItems, Stored.{own_items, elements_end, column_items}}
use Rattle.mpslp_c.proofs.KnownLemmas.{leads_is, leads_then, leads_reported, one_item, column_lead, column_at, column_item}
use Rattle.mpslp_c.proofs.storing.declare_columns.Goals as goal

pub returns-in_err-declare_own_elements : goal.returns-in_err-declare_own_elements
returns-in_err-declare_own_elements c =
    let names = c.args.model.now.names.now in
    let objective = c.args.objective.now in
    let rows = c.args.model.now.rows.now in
    let elements = c.args.model.now.elements.now in
    let columns = c.args.model.now.columns.now in
    let j = c.loop-j.j in
    let now = c.loop-j.builder in
    let mid = c.declare_stored_column.new.builder in
    let new = c.declare_own_elements.new.builder in
    let item = column_item names objective j (column_at columns j) in
    let all = column_items names objective rows elements 0 columns in
    let own = own_items names rows elements j (column_at columns j) (elements_end (drop (j + 1) columns) (length elements)) in
    let later = column_items names objective rows elements (j + 1) (drop (j + 1) columns) in
    let begun = leads_then all (item ∷ [])
    (own ++ later) c.args.builder.now now mid (leads_is (column_lead names objective rows elements columns j c.loop-j-test.true)
    c.loop-j.invariant.leads) (one_item item now mid c.declare_stored_column.result c.in_ok-placed.ensures
    c.declare_stored_column.ensures) in
    leads_reported all own later c.args.builder.now mid new _ c.in_err-declare_own_elements.field-0.0 _ begun
    (subst (λ (end : ℕ). TakesItems (own_items names rows elements j (column_at columns j) end) mid new
    (Err c.in_err-declare_own_elements.field-0.0)) c.elements_end-end.ensures c.in_err-declare_own_elements.ensures)
    c.from_residual-in_err-declare_own_elements.ensures.1

pub loop-j-preserved : goal.loop-j-preserved
loop-j-preserved c =
    let names = c.args.model.now.names.now in
    let objective = c.args.objective.now in
    let rows = c.args.model.now.rows.now in
    let elements = c.args.model.now.elements.now in
    let columns = c.args.model.now.columns.now in
    let j = c.loop-j.j in
    let now = c.loop-j.builder in
    let mid = c.declare_stored_column.new.builder in
    let new = c.declare_own_elements.new.builder in
    let item = column_item names objective j (column_at columns j) in
    let all = column_items names objective rows elements 0 columns in
    let own = own_items names rows elements j (column_at columns j) (elements_end (drop (j + 1) columns) (length elements)) in
    let later = column_items names objective rows elements (j + 1) (drop (j + 1) columns) in
    let begun = leads_then all (item ∷ []) (own ++ later) c.args.builder.now now mid
    (leads_is (column_lead names objective rows elements columns j c.loop-j-test.true) c.loop-j.invariant.leads)
    (one_item item now mid c.declare_stored_column.result c.in_ok-placed.ensures c.declare_stored_column.ensures) in
    record {
      leads = leads_then all own later c.args.builder.now mid new begun
          (subst (λ (end : ℕ). TakesItems (own_items names rows elements j (column_at columns j) end) mid new (Ok tt))
          c.elements_end-end.ensures c.in_ok-declare_own_elements.ensures);
    }
