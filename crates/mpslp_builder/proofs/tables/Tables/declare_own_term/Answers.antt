use Rattle.std.{proofs.Common.{◌∙◌, ap, [], ◌∷◌, ◌++◌}, specs.Prelude.is_some}
use Rattle.mpslp_builder.specs.{Declaration.declare_column, ColumnLine.entry_declared}
use Rattle.mpslp_builder.proofs.LineLemmas.{follows_then, part_more, unless_memory, unless_then}
use Rattle.mpslp_builder.proofs.tables.Tables.declare_own_term.Goals as goal

pub returns-in_err-number-clause-declared : goal.returns-in_err-number-clause-declared
returns-in_err-number-clause-declared c =
    let t = c.args.self.now in
    let u = c.own_term_column.new.self in λ name is.
    let column = declare_column c.args.column ∷ [] in
    let entry = entry_declared c.args.column (name, c.args.value) in
    unless_memory t u (column ++ entry) c.from_residual.result c.from_residual.ensures.1
    (part_more t u column entry c.in_err-number.ensures.err)

pub put_term-requires-clause-column : goal.put_term-requires-clause-column
put_term-requires-clause-column c = ap is_some c.in_ok-number.ensures.ok.named

pub put_term-requires-clause-row : goal.put_term-requires-clause-row
put_term-requires-clause-row c = ap is_some (c.own_term_column.ensures.kept.rows c.args.row) ∙ c.requires.row

pub returns-clause-kept : goal.returns-clause-kept
returns-clause-kept c = follows_then c.args.self.now c.own_term_column.new.self c.put_term.new.self
    c.own_term_column.ensures.kept c.put_term.ensures.kept

pub returns-clause-declared : goal.returns-clause-declared
returns-clause-declared c =
    let t = c.args.self.now in
    let u = c.own_term_column.new.self in
    let column = c.in_ok-number.ensures.ok in
    λ name is. unless_then t u c.put_term.new.self (declare_column c.args.column ∷ [])
    (entry_declared c.args.column (name, c.args.value)) c.put_term.result column.declared
    (c.put_term.ensures.declared c.args.column name column.named (c.own_term_column.ensures.kept.rows c.args.row ∙ is))
