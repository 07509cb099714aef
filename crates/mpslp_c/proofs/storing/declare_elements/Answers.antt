use Rattle.std.{proofs.Common.{[], ◌∷◌, ◌+◌}, specs.Prelude.slice_range}
use Rattle.mpslp_c.specs.Stored.{element_items}
use Rattle.mpslp_c.proofs.KnownLemmas.{leads_is, leads_then, leads_reported, one_item, element_lead, element_at, element_item}
use Rattle.mpslp_c.proofs.storing.declare_elements.Goals as goal

pub returns-in_err-placed : goal.returns-in_err-placed
returns-in_err-placed c =
    let names = c.args.names.now in
    let rows = c.args.rows.now in
    let column = c.args.column.now in
    let elements = c.args.elements.now in
    let k = c.loop-k.k in
    let now = c.loop-k.builder in
    let new = c.declare_stored_element.new.builder in
    let item = element_item names rows column k (element_at elements k) in
    let all = element_items names rows column c.args.first (slice_range elements c.args.first c.args.end) in
    let later = element_items names rows column (k + 1) (slice_range elements (k + 1) c.args.end) in
    leads_reported all (item ∷ []) later c.args.builder.now now new _ c.in_err-placed.field-0.0
    _ (leads_is (element_lead names rows column elements k c.args.end c.loop-k-test.true c.requires.within)
    c.loop-k.invariant.leads) (one_item item now new c.declare_stored_element.result c.in_err-placed.ensures
    c.declare_stored_element.ensures) c.from_residual.ensures.1

pub loop-k-preserved : goal.loop-k-preserved
loop-k-preserved c =
    let names = c.args.names.now in
    let rows = c.args.rows.now in
    let column = c.args.column.now in
    let elements = c.args.elements.now in
    let k = c.loop-k.k in
    let now = c.loop-k.builder in
    let new = c.declare_stored_element.new.builder in
    let item = element_item names rows column k (element_at elements k) in
    let all = element_items names rows column c.args.first (slice_range elements c.args.first c.args.end) in
    let later = element_items names rows column (k + 1) (slice_range elements (k + 1) c.args.end) in
    record {
      leads = leads_then all (item ∷ []) later c.args.builder.now now new
          (leads_is (element_lead names rows column elements k c.args.end c.loop-k-test.true c.requires.within)
          c.loop-k.invariant.leads) (one_item item now new c.declare_stored_element.result c.in_ok-placed.ensures
          c.declare_stored_element.ensures);
    }
