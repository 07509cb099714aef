use Rattle.mpslp_builder.proofs.Prelude
use Prelude.{subst, Draft, term_declared, DeclaresInTurn, draft}
use Rattle.mpslp_builder.{specs.Stopped.IsStopped, proofs.LineLemmas.{in_turn, stopped}}
use Rattle.mpslp_builder.proofs.reader_builder.ReaderBuilder.row_term.Goals as goal

pub invariant_of-draft : goal.invariant_of-draft
invariant_of-draft c = (
  c.declare_own_term.ensures.kept.made c.draft.inside.sense c.draft.inside.constant
      c.draft.invariant.0,
  c.declare_own_term.ensures.kept.numbered,
)

pub returns-clause-declared : goal.returns-clause-declared
returns-clause-declared c =
    let b = c.draft.inside in
    let ds = term_declared c.args.row.now (c.args.column, c.args.value) in
    subst (λ (all : Draft). DeclaresInTurn all ds c.declare_own_term.result
    (draft b.sense b.constant c.declare_own_term.new.self)) c.draft.view_is
    (in_turn b.sense b.constant b.tables c.declare_own_term.new.self ds c.declare_own_term.result
    (c.declare_own_term.ensures.declared c.args.row.now c.in-Some.ensures.number))

pub returns-clause-stopped : goal.returns-clause-stopped
returns-clause-stopped c =
    let b = c.draft.inside in
    let ds = term_declared c.args.row.now (c.args.column, c.args.value) in
    subst (λ (all : Draft). IsStopped all ds c.declare_own_term.result
    (draft b.sense b.constant c.declare_own_term.new.self)) c.draft.view_is
    (stopped b.sense b.constant b.tables c.declare_own_term.new.self ds c.declare_own_term.result
    (c.declare_own_term.ensures.declared c.args.row.now c.in-Some.ensures.number))
