use Rattle.std.proofs.Common.{sym, ◌∙◌}
use Rattle.mpslp_model_core.proofs.ViewLemmas.{one_first}
use Rattle.mpslp_model_core.proofs.row_entries.RowEntriesIterator.next.Goals as goal

pub returns-clause-steps : goal.returns-clause-steps
returns-clause-steps c = sym c.self.view_is ∙ one_first c.self.inside.model.now c.self.inside.row c.self.inside.next
    c.row_entry-entry.result c.row_entry-entry.ensures.column c.row_entry-entry.ensures.value
