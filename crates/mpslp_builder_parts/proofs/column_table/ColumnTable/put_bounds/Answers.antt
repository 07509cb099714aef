use Rattle.std.proofs.Common.{ap}
use Rattle.mpslp_builder_parts.specs.{DeclaredBounds.LowerAndUpper, Parts.{parts_with, with_bounds}, StoredColumns.parts_of}
use Rattle.std.{proofs.Common.refl, specs.Ordering.nat_cmp}
use Rattle.mpslp_model_core.specs.Numbered.{sorted_of}
use Rattle.mpslp_builder_parts.specs.CoefficientLog.{chain}
use Rattle.mpslp_builder_parts.proofs.{TableLemmas.known_kept, ColumnLemmas.{changed, place_within, unchanged, on_err, on_ok}}
use Rattle.mpslp_builder_parts.proofs.column_table.ColumnTable.put_bounds.Goals as goal

pub pair_mut-stored-requires : goal.pair_mut-stored-requires
pair_mut-stored-requires c = place_within (parts_of c.self.inside.log) c.self.inside.columns.entries c.args.self.now
    c.self.view_is c.args.column c.requires

pub returns-clause-ok : goal.returns-clause-ok
returns-clause-ok c = let stored = c.pair_mut-stored.result.1.now in
    on_ok c.put.result (λ is. changed (parts_of c.self.inside.log) c.self.inside.columns.entries c.args.self.now
    c.self.view_is c.args.column c.pair_mut-stored.result.0.now stored c.pair_mut-stored.ensures.value
    (with_bounds c.args.lower c.args.upper)
    (record stored { definition = record stored.definition { sides = c.put.new.self } })
    (ap (λ (sides : LowerAndUpper). parts_with (sorted_of nat_cmp (chain c.self.inside.log stored.last))
    (record stored.definition { sides = sides })) is)) c.put.ensures.ok

pub returns-clause-err : goal.returns-clause-err
returns-clause-err c = let stored = c.pair_mut-stored.result.1.now in
    on_err c.put.result (λ same. unchanged (parts_of c.self.inside.log) c.self.inside.columns.entries c.args.self.now
    c.self.view_is c.args.column c.pair_mut-stored.result.0.now stored c.pair_mut-stored.ensures.value
    (record stored { definition = record stored.definition { sides = c.put.new.self } })
    (ap (λ (sides : LowerAndUpper). parts_with (sorted_of nat_cmp (chain c.self.inside.log stored.last))
    (record stored.definition { sides = sides })) same)) c.put.ensures.err

pub invariant_of-self : goal.invariant_of-self
invariant_of-self c = let stored = c.pair_mut-stored.result.1.now in
    known_kept c.self.inside.columns.entries c.args.column c.pair_mut-stored.result.0.now stored
    (record stored { definition = record stored.definition { sides = c.put.new.self } }) c.pair_mut-stored.ensures.value
    c.self.inside.log c.self.inside.known refl refl c.self.invariant
