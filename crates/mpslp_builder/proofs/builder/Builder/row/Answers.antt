use Rattle.mpslp_builder.proofs.Prelude
use Prelude.{refl, true, both_so, by_type}
use Rattle.mpslp_builder.proofs.LineLemmas.{row_answered, row_kept}
use Rattle.mpslp_builder.proofs.builder.Builder.row.Goals as goal

pub invariant_of-self : goal.invariant_of-self
invariant_of-self c = let b = c.self.inside in
    row_kept b.sense b.constant b.tables c.add_row.new.self c.args.name (by_type c.args.row_type) c.of_type.result
    c.of_type.ensures refl c.self.invariant.1 c.add_row.result c.add_row.ensures
    (both_so _ true c.each_name_is_legal.ensures refl) c.self.invariant.0

pub returns : goal.returns
returns c = let b = c.self.inside in
    row_answered b.sense b.constant b.tables c.add_row.new.self c.args.name (by_type c.args.row_type)
    c.of_type.result c.of_type.ensures refl c.self.invariant.1 c.add_row.result c.add_row.ensures _ c.self.view_is
