use Rattle.std.proofs.Common.{refl, subst, sym, ℕ, [], ◌∷◌}
use Rattle.mpslp_builder.specs.{Declaration.declare_column, TermTables.HasColumn}
use Rattle.mpslp_builder.proofs.LineLemmas.{after_err, has_column_of, part_all, part_none}
use Rattle.mpslp_builder.proofs.tables.Tables.new_column.Goals as goal

pub returns-in_err-inserted-clause-err : goal.returns-in_err-inserted-clause-err
returns-in_err-inserted-clause-err c =
    after_err _ (part_none c.args.self.now c.start_column.new.self (declare_column c.args.name ∷ [])
    c.in_err-inserted.ensures.started)

pub returns-in_err-note-clause-err : goal.returns-in_err-note-clause-err
returns-in_err-note-clause-err c =
    let t = c.args.self.now in
    let u = c.start_column.new.self in
    let v = record u { hints = c.note.new.self } in
    after_err _ (part_all t v (declare_column c.args.name ∷ [])
    (has_column_of t u v c.args.name c.in_ok-inserted.inserted c.in_ok-inserted.ensures.started
    (record { objective = refl; rows = refl; columns = refl })).declared)

pub returns-clause-ok : goal.returns-clause-ok
returns-clause-ok c =
    let t = c.args.self.now in
    let u = c.start_column.new.self in
    let v = record u { hints = c.note.new.self } in
    subst (λ (n : ℕ). HasColumn t c.args.name n v) (sym c.number-column.ensures)
    (has_column_of t u v c.args.name c.in_ok-inserted.inserted c.in_ok-inserted.ensures.started
    (record { objective = refl; rows = refl; columns = refl }))
