use Rattle.std.proofs.Common.{ap, ◌∙◌, length}
use Rattle.mpslp_model_core.proofs.{ViewLemmas.all_sorted, ByRowLemmas.{row_below, listed_in, columns_seen, row_seen_length, has_list}}
use Rattle.mpslp_model_core.proofs.model.Model.row_len.Goals as goal

pub row_list-requires : goal.row_list-requires
row_list-requires c = has_list (listed_in c.in-Some.lists c.self.invariant c.in-Some.is).by_row c.args.i
    (row_below c.self.view_is c.self.invariant.parts c.args.i c.requires)

pub count_columns_with-requires : goal.count_columns_with-requires
count_columns_with-requires c = all_sorted c.self.inside.parts.columns c.self.invariant.parts.cells

pub returns-in-Some : goal.returns-in-Some
returns-in-Some c = ap length c.row_list.ensures
    ∙ row_seen_length c.in-Some.lists c.self.view_is (listed_in c.in-Some.lists c.self.invariant c.in-Some.is) c.args.i c.requires

pub returns-in-None : goal.returns-in-None
returns-in-None c = c.count_columns_with.ensures
    ∙ ap length (columns_seen c.self.view_is c.self.invariant.parts c.args.i c.requires)
