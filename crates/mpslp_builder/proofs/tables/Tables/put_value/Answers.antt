use Rattle.mpslp_builder.proofs.TableDrafts.{on_ok, on_err}
use Rattle.mpslp_builder.proofs.LineLemmas.{cell_laid, follows_same, same_cells, either_way, cell_follows_there, cell_others_there}
use Rattle.mpslp_builder.proofs.tables.Tables.put_value.Goals as goal

pub returns-clause-ok : goal.returns-clause-ok
returns-clause-ok c = let t = c.args.self.now in
    on_ok c.put_cell.result (λ h name of_row is row. cell_laid t c.put_cell.new.self c.requires.numbered
    c.each_name_occurs_once.ensures c.args.column c.args.row of_row row c.args.value h c.requires.absent name is)
    c.put_cell.ensures.ok

pub returns-clause-kept : goal.returns-clause-kept
returns-clause-kept c = let t = c.args.self.now in
    either_way c.put_cell.result (λ h. cell_follows_there t c.put_cell.new.self c.requires.numbered
    c.each_name_occurs_once.ensures c.args.column c.args.row c.requires.row c.args.value h c.requires.absent
    c.each_value_is_a_decimal.ensures) (λ same. follows_same t c.put_cell.new.self c.requires.numbered same)
    c.put_cell.ensures.ok c.put_cell.ensures.err

pub returns-clause-rows : goal.returns-clause-rows
returns-clause-rows c = either_way c.put_cell.result (λ h. h.written.rows) (λ same. same.rows) c.put_cell.ensures.ok
    c.put_cell.ensures.err

pub returns-clause-cells : goal.returns-clause-cells
returns-clause-cells c = let t = c.args.self.now in
    λ other apart. either_way c.put_cell.result (λ h. cell_others_there t c.put_cell.new.self c.requires.numbered
    c.each_name_occurs_once.ensures c.args.column c.args.row c.requires.row c.args.value h c.requires.absent other apart)
    (λ same. same_cells t c.put_cell.new.self c.args.column other same) c.put_cell.ensures.ok c.put_cell.ensures.err

pub returns-clause-err : goal.returns-clause-err
returns-clause-err c = on_err c.put_cell.result
    (λ same. record { objective = same.objective; rows = same.rows; columns = same.columns }) c.put_cell.ensures.err
