use Rattle.mpslp_builder.proofs.Prelude
use Prelude.{◌≡◌, sym, ap, subst, ◌∙◌, false, inr, flat_map, Draft, has_row, term_declared, DeclaresInTurn, draft}
use Rattle.mpslp_builder.proofs.LineLemmas.{in_turn, stopped, rows_unknown}
use Rattle.mpslp_builder.specs.Stopped.{IsStopped}
use Rattle.mpslp_builder.proofs.reader_builder.ReaderBuilder.row_terms.Goals as goal

pub invariant_of-draft : goal.invariant_of-draft
invariant_of-draft c = (
  c.declare_terms.ensures.kept.made c.draft.inside.sense c.draft.inside.constant
      c.draft.invariant.0,
  c.declare_terms.ensures.kept.numbered,
)

pub returns-in-Some-clause-declared : goal.returns-in-Some-clause-declared
returns-in-Some-clause-declared c =
    let b = c.draft.inside in
    let ds = flat_map (term_declared c.args.row.now) c.args.terms.now in
    subst (λ (all : Draft). DeclaresInTurn all ds c.declare_terms.result (draft b.sense b.constant c.declare_terms.new.self))
    c.draft.view_is (in_turn b.sense b.constant b.tables c.declare_terms.new.self ds c.declare_terms.result
    (c.declare_terms.ensures.declared c.args.row.now c.in-Some.ensures.number))

pub returns-in-None-clause-declared : goal.returns-in-None-clause-declared
returns-in-None-clause-declared c = inr (rows_unknown c.args.self.now.draft c.args.row.now c.args.terms.now
    (ap (λ (d : Draft). has_row d c.args.row.now) (sym c.draft.view_is) ∙ sym c.in-None.ensures.found)
    (λ none. let is = c.is_empty.ensures.some none in
    let not_is : c.is_empty.result ≡ false = c.if-is_empty.false in cc))

pub returns-in-Some-clause-stopped : goal.returns-in-Some-clause-stopped
returns-in-Some-clause-stopped c =
    let b = c.draft.inside in
    let ds = flat_map (term_declared c.args.row.now) c.args.terms.now in
    subst (λ (all : Draft). IsStopped all ds c.declare_terms.result (draft b.sense b.constant c.declare_terms.new.self))
    c.draft.view_is (stopped b.sense b.constant b.tables c.declare_terms.new.self ds c.declare_terms.result
    (c.declare_terms.ensures.declared c.args.row.now c.in-Some.ensures.number))
