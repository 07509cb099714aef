use Rattle.std.specs.List.{flat_map}
use Rattle.mpslp_types.specs.Lists.{when}
use Rattle.mpslp_builder.specs.{Declaration.declare_marked, ColumnLine.{listed, entry_declared}}
use Rattle.mpslp_builder.proofs.{TableDrafts.{on_ok, on_err}, LineLemmas.{follows_then, laid_then, part_then}}
use Rattle.mpslp_builder.proofs.tables.Tables.put_line.Goals as goal

pub returns-clause-kept : goal.returns-clause-kept
returns-clause-kept c = follows_then c.args.self.now c.mark_if.new.self c.put_entries.new.self c.mark_if.ensures.kept
    c.put_entries.ensures.kept

pub returns-clause-ok : goal.returns-clause-ok
returns-clause-ok c = let t = c.args.self.now in on_ok c.put_entries.result (λ declared name is. laid_then t c.mark_if.new.self
    c.put_entries.new.self (when c.args.is_marked (declare_marked name))
    (flat_map (entry_declared name) (listed c.args.entries.now)) (c.mark_if.ensures.declared name is)
    (declared name (c.mark_if.ensures.kept.columns c.args.column name is))) c.put_entries.ensures.ok

pub returns-clause-err : goal.returns-clause-err
returns-clause-err c = let t = c.args.self.now in on_err c.put_entries.result (λ part name is. part_then t c.mark_if.new.self
    c.put_entries.new.self (when c.args.is_marked (declare_marked name))
    (flat_map (entry_declared name) (listed c.args.entries.now)) (c.mark_if.ensures.declared name is)
    (part name (c.mark_if.ensures.kept.columns c.args.column name is))) c.put_entries.ensures.err
