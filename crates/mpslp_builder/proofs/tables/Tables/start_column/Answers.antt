use Rattle.std.proofs.Common.{refl, Ok}
use Rattle.mpslp_builder.proofs.LineLemmas.{inserted}
use Rattle.mpslp_builder.proofs.tables.Tables.start_column.Goals as goal

pub returns-clause-kept : goal.returns-clause-kept
returns-clause-kept c = (inserted c.args.self.now _ c.requires.numbered c.args.name c.requires.legal refl refl
    c.insert.result c.insert.ensures).0

pub returns-clause-started : goal.returns-clause-started
returns-clause-started c =
    (inserted c.args.self.now (record c.args.self.now { columns = c.insert.new.self; recent = c.number-self.result })
    c.requires.numbered c.args.name c.requires.legal refl refl (Ok c.in_ok-inserted.inserted) c.in_ok-inserted.ensures).1
