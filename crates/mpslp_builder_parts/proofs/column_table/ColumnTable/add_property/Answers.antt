use Rattle.std.{proofs.Common.{◌≡◌, refl, ap, ◌∙◌, ℕ, List}, specs.Ordering.nat_cmp}
use Rattle.mpslp_decimal.specs.Decimal.{Number}
use Rattle.mpslp_model_core.specs.Numbered.{sorted_of}
use Rattle.mpslp_builder_parts.specs.{CoefficientLog.chain, Parts.{defined_with, parts_with, with_property}, StoredColumns.parts_of}
use Rattle.mpslp_builder_parts.specs.declared.parts.{ColumnDefinition.ColumnDefinition, Property.Property}
use Rattle.mpslp_builder_parts.specs.declared.parts.Property.TheVariants.{Marked, Integer, Binary, Semi}
use Rattle.mpslp_builder_parts.proofs.{ColumnLemmas.{changed, place_within}, TableLemmas.known_kept}
use Rattle.mpslp_builder_parts.proofs.column_table.ColumnTable.add_property.Goals as goal

-- a property of what is declared is one of the column
of_column : (property : Property) (cells : List (ℕ × Number)) (definition : ColumnDefinition)
    → parts_with cells (defined_with property definition) ≡ with_property property (parts_with cells definition)
of_column Marked cells definition = refl
of_column Integer cells definition = refl
of_column Binary cells definition = refl
of_column Semi cells definition = refl

pub pair_mut-stored-requires : goal.pair_mut-stored-requires
pair_mut-stored-requires c = place_within (parts_of c.self.inside.log) c.self.inside.columns.entries c.args.self.now
    c.self.view_is c.args.column c.requires

pub returns : goal.returns
returns c = let stored = c.pair_mut-stored.result.1.now in
    let cells = sorted_of nat_cmp (chain c.self.inside.log stored.last) in
    changed (parts_of c.self.inside.log) c.self.inside.columns.entries c.args.self.now c.self.view_is
    c.args.column c.pair_mut-stored.result.0.now stored c.pair_mut-stored.ensures.value (with_property c.args.property)
    (record stored { definition = c.add.new.self })
    (ap (parts_with cells) c.add.ensures ∙ of_column c.args.property cells stored.definition)

pub invariant_of-self : goal.invariant_of-self
invariant_of-self c = let stored = c.pair_mut-stored.result.1.now in
    known_kept c.self.inside.columns.entries c.args.column c.pair_mut-stored.result.0.now stored
    (record stored { definition = c.add.new.self }) c.pair_mut-stored.ensures.value
    c.self.inside.log c.self.inside.known refl refl c.self.invariant
