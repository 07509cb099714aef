use Rattle.std.{proofs.Common.{◌≡◌, sym, ap, ◌∙◌, true, Bool}, specs.{Prelude.{Some, ◌&&◌}}}
use Rattle.mpslp_types.specs.Name.{same_bytes}
use Rattle.mpslp_model_core.{specs.Same.{same_column}, proofs.ColumnLemmas.{same_here, other_name, other_bounds}}
use Rattle.mpslp_model_core.proofs.columns.is_same_column.Goals as goal

pub returns-then-eq-2 : goal.returns-then-eq-2
returns-then-eq-2 c =
    let names : same_bytes c.name_at.result.now c.name_at-2.result.now ≡ true = sym c.eq.ensures ∙ c.if-eq.true in
    let bounds : same_column c.bounds_at.result c.bounds_at-then-eq.result ≡ true = sym c.eq-then-eq.ensures ∙ c.if-eq-2.true in
    (λ i. Some (sym names i && (sym bounds i && c.are_same_cells.ensures i)))
    ∙ sym (same_here c.args.own.now c.args.other.now c.args.j
    (record { name = c.name_at.ensures; bounds = c.bounds_at.ensures; cells = c.cells_at.ensures })
    (record { name = c.name_at-2.ensures; bounds = c.bounds_at-then-eq.ensures; cells = c.cells_at-then-eq-2.ensures }))

pub returns-else-eq-2 : goal.returns-else-eq-2
returns-else-eq-2 c = ap (λ (b : Bool). Some b) c.if-eq-2.false
    ∙ sym (other_bounds c.args.own.now c.args.other.now c.args.j c.bounds_at.ensures c.bounds_at-then-eq.ensures
    (sym c.eq-then-eq.ensures ∙ c.if-eq-2.false))

pub returns-else-eq : goal.returns-else-eq
returns-else-eq c = ap (λ (b : Bool). Some b) c.if-eq.false
    ∙ sym (other_name c.args.own.now c.args.other.now c.args.j c.name_at.ensures c.name_at-2.ensures
    (sym c.eq.ensures ∙ c.if-eq.false))
