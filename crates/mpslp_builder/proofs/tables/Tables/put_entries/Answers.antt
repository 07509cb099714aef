use Rattle.std.{proofs.Common.{sym, subst, ◌∙◌, ◌++◌}, specs.{Prelude.{◌≡◌, Option, Some}, List.flat_map}}
use Rattle.mpslp_builder.specs.{ColumnLine.{entries_declared, entry_declared, pair_of, pair_if_some}, Calls.row_name}
use Rattle.mpslp_builder.specs.LineTables.{AreDeclared, HasPartOfColumn}
use Rattle.mpslp_builder.{specs.declared.entries.Entry.Entry, proofs.LineLemmas.{after_err, follows_then, laid_then, part_none, part_then}}
use Rattle.mpslp_builder.proofs.tables.Tables.put_entries.Goals as goal

pub returns-in_err-put_value-2-clause-kept : goal.returns-in_err-put_value-2-clause-kept
returns-in_err-put_value-2-clause-kept c =
    follows_then c.args.self.now c.put_value.new.self c.put_value-in-Some.new.self c.put_value.ensures.kept
    c.put_value-in-Some.ensures.kept

pub returns-in_ok-put_value-2-clause-kept : goal.returns-in_ok-put_value-2-clause-kept
returns-in_ok-put_value-2-clause-kept c =
    follows_then c.args.self.now c.put_value.new.self c.put_value-in-Some.new.self c.put_value.ensures.kept
    c.put_value-in-Some.ensures.kept

pub returns-in_ok-put_value-2-clause-ok : goal.returns-in_ok-put_value-2-clause-ok
returns-in_ok-put_value-2-clause-ok c =
    let t = c.args.self.now in
    let u = c.put_value.new.self in
    let v = c.put_value-in-Some.new.self in
    let row : row_name t c.args.rows.second ≡ Some c.in-Some.entry.row.now =
    c.requires.rows.second c.in-Some.entry c.in-Some.is in
    λ name is. subst (λ (o : Option Entry). AreDeclared t
    (entry_declared name (pair_of c.args.entries.now.first) ++ flat_map (entry_declared name) (pair_if_some o)) v)
    (sym c.in-Some.is) (laid_then t u v (entry_declared name (pair_of c.args.entries.now.first))
    (entry_declared name (pair_of c.in-Some.entry))
    (c.in_ok-put_value.ensures.ok name c.args.entries.now.first.row.now is c.requires.rows.first)
    (c.in_ok-put_value-2.ensures.ok name c.in-Some.entry.row.now
    (c.put_value.ensures.kept.columns c.args.column name is)
    (c.put_value.ensures.kept.rows c.args.rows.second ∙ row)))

pub returns-in_err-put_value-clause-err : goal.returns-in_err-put_value-clause-err
returns-in_err-put_value-clause-err c =
    let t = c.args.self.now in
    let u = c.put_value.new.self in
    let part : HasPartOfColumn t c.args.column (entries_declared c.args.entries.now) u =
    λ name _. part_none t u (entries_declared c.args.entries.now name) c.in_err-put_value.ensures.err in after_err _ part

pub returns-in_err-put_value-2-clause-err : goal.returns-in_err-put_value-2-clause-err
returns-in_err-put_value-2-clause-err c =
    let t = c.args.self.now in
    let u = c.put_value.new.self in
    let v = c.put_value-in-Some.new.self in
    let part : HasPartOfColumn t c.args.column (entries_declared c.args.entries.now) v = λ name is. part_then t u v
    (entry_declared name (pair_of c.args.entries.now.first))
    (flat_map (entry_declared name) (pair_if_some c.args.entries.now.second))
    (c.in_ok-put_value.ensures.ok name c.args.entries.now.first.row.now is c.requires.rows.first)
    (part_none u v (flat_map (entry_declared name) (pair_if_some c.args.entries.now.second))
    c.in_err-put_value-2.ensures.err) in after_err _ part
