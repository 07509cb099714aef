use Rattle.std.{proofs.Common.{refl, ap, subst, ◌∙◌, List, ℕ}, specs.{Prelude.is_some, List.flat_map}}
use Rattle.mpslp_decimal.specs.Decimal.{Number}
use Rattle.mpslp_builder.specs.{RowTerms.term_declared, TermTables.AreDeclaredUnless}
use Rattle.mpslp_builder.proofs.LineLemmas.{follows_same, follows_then, Decides, decides_all, term_laid, term_refused}
use Rattle.mpslp_builder.proofs.tables.Tables.declare_others.Goals as goal

pub declare_term-requires-clause-numbered : goal.declare_term-requires-clause-numbered
declare_term-requires-clause-numbered c = c.loop-name.invariant.kept.numbered

pub declare_term-requires-clause-row : goal.declare_term-requires-clause-row
declare_term-requires-clause-row c = ap is_some (c.loop-name.invariant.kept.rows c.args.row) ∙ c.requires.row

pub loop-name-init : goal.loop-name-init
loop-name-init c =
    let t = c.args.self.now in
    record {
      next = tt;
      finite = tt;
      kept = follows_same t t c.requires.numbered (record { objective = refl; rows = refl; columns = refl });
      rows = refl;
      declared = λ name is answer v rest.
          subst (λ (terms : List (List ℕ × Number)). AreDeclaredUnless t (flat_map (term_declared name) terms) answer v)
          (c.into_iter-name-iterator.ensures.into_iter_gives ∙ c.iter-name-items.ensures.rest) rest;
    }

pub loop-name-preserved : goal.loop-name-preserved
loop-name-preserved c =
    let t = c.args.self.now in
    let u = c.loop-name.self in
    let v = c.declare_term.new.self in
    let before = c.loop-name.invariant in
    record {
      next = tt;
      finite = tt;
      kept = follows_then t u v before.kept c.declare_term.ensures.kept;
      rows = c.declare_term.ensures.rows ∙ before.rows;
      declared = λ name is.
          let each = term_declared name in
          term_laid t u v name c.as_bytes.result.now (c.in-Some.name.now, c.in-Some.value.now) (flat_map each c.next.new.self)
          (flat_map each c.loop-name.name-iterator) (flat_map each c.args.terms.now.entries)
          c.as_bytes.ensures (ap (flat_map each) c.in-Some.ensures.steps) (before.declared name is)
          (c.in_ok-declare_term.ensures.declared name (before.kept.rows c.args.row ∙ is));
    }

pub returns-in_err-declare_term-clause-declared : goal.returns-in_err-declare_term-clause-declared
returns-in_err-declare_term-clause-declared c =
    let t = c.args.self.now in
    let u = c.loop-name.self in
    let v = c.declare_term.new.self in
    let before = c.loop-name.invariant in λ name is. let each = term_declared name in
    term_refused t u v name c.as_bytes.result.now (c.in-Some.name.now, c.in-Some.value.now) (flat_map each c.next.new.self)
    (flat_map each c.loop-name.name-iterator) (flat_map each c.args.terms.now.entries) c.as_bytes.ensures
    (ap (flat_map each) c.in-Some.ensures.steps) (before.declared name is) c.from_residual.result c.in_err-declare_term.field-0.0
    c.from_residual.ensures.1 (c.in_err-declare_term.ensures.declared name (before.kept.rows c.args.row ∙ is))

pub returns-clause-declared : goal.returns-clause-declared
returns-clause-declared c =
    let t = c.args.self.now in
    let u = c.loop-name.self in λ name is.
    let all = flat_map (term_declared name) c.args.terms.now.entries in
    decides_all t u all (subst (λ (left : List (List ℕ × Number)). Decides u (flat_map (term_declared name) left) t
    all) c.in-None.ensures.steps.0 (c.loop-name.invariant.declared name is))

pub returns-in_err-declare_term-clause-kept : goal.returns-in_err-declare_term-clause-kept
returns-in_err-declare_term-clause-kept c =
    follows_then c.args.self.now c.loop-name.self c.declare_term.new.self c.loop-name.invariant.kept c.declare_term.ensures.kept
