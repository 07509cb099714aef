use Rattle.std.{proofs.Common.{◌∙◌, sym, ap}, specs.Prelude.is_some}
use Rattle.mpslp_types.specs.Name.{bytes_cmp}
use Rattle.mpslp_model_core.{specs.Numbered.each_part, proofs.CellLemmas.{bytes_total, find-sorted_of}}
use Rattle.mpslp_builder.specs.Tables.{no_part}
use Rattle.mpslp_builder.proofs.tables.Tables.column_by_hash.Goals as goal

pub returns-clause-found : goal.returns-clause-found
returns-clause-found c = c.number_of.ensures.found
    ∙ ap is_some (sym (find-sorted_of bytes_cmp bytes_total c.args.name.now (each_part no_part c.args.self.now.columns.entries)))
