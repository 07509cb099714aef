use Rattle.mpslp_builder.proofs.{Prelude.{sym, subst, ◌∙◌, IsMade}, LineLemmas.{same_tables, same_numbered}}
use Rattle.mpslp_builder.proofs.builder.Builder.find_column.Goals as goal

pub invariant_of-self : goal.invariant_of-self
invariant_of-self c =
    let b = c.self.inside in
    let same = c.find_column.ensures.same in (
      subst IsMade (sym (same_tables b.sense b.constant b.tables c.find_column.new.self same)) c.self.invariant.0,
      same_numbered b.tables c.find_column.new.self same c.self.invariant.1,
    )

pub returns-clause-same : goal.returns-clause-same
returns-clause-same c = let b = c.self.inside in
    same_tables b.sense b.constant b.tables c.find_column.new.self c.find_column.ensures.same ∙ c.self.view_is
