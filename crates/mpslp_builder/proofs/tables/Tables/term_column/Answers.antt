use Rattle.std.proofs.Common.{refl, subst, List, ℕ, [], ◌∷◌}
use Rattle.std.specs.Prelude.{IfOk, OnErr}
use Rattle.mpslp_builder.specs.{Declaration.declare_column, LineTables.HasPart, TermTables.HasColumn}
use Rattle.mpslp_builder.proofs.LineLemmas.{after_err, there_laid, part_none}
use Rattle.mpslp_builder.proofs.tables.Tables.term_column.Goals as goal

pub returns-in-Some-clause-ok : goal.returns-in-Some-clause-ok
returns-in-Some-clause-ok c = record
    { named = c.in-Some.ensures; declared = there_laid c.args.self.now c.args.name.now c.in-Some.column c.in-Some.ensures }

pub returns-in_err-name-clause-err : goal.returns-in_err-name-clause-err
returns-in_err-name-clause-err c = let t = c.args.self.now in
    after_err _ (part_none t t (declare_column c.args.name.now ∷ []) (record { objective = refl; rows = refl; columns = refl }))

pub returns-clause-ok : goal.returns-clause-ok
returns-clause-ok c = subst (λ (name : List ℕ). IfOk c.new_column.result
    (λ column. HasColumn c.args.self.now name column c.new_column.new.self)) c.in_ok-name.ensures.copied c.new_column.ensures.ok

pub returns-clause-err : goal.returns-clause-err
returns-clause-err c = subst (λ (name : List ℕ). OnErr c.new_column.result
    (HasPart c.args.self.now (declare_column name ∷ []) c.new_column.new.self)) c.in_ok-name.ensures.copied
    c.new_column.ensures.err
