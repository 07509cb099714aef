use Rattle.std.{proofs.Common.{refl, ap, subst, ◌∙◌, ◌+◌, drop, List, ℕ, arith}, specs.{Prelude.is_some, List.flat_map}}
use Rattle.mpslp_decimal.specs.Decimal.{Number}
use Rattle.mpslp_builder.specs.RowTerms.{term_declared}
use Rattle.mpslp_builder.proofs.LineLemmas.{follows_same, follows_then, Decides, decides_all, rest_of, drop_none, term_laid, term_refused}
use Rattle.mpslp_builder.proofs.tables.Tables.declare_first.Goals as goal

pub loop-k-init : goal.loop-k-init
loop-k-init c = let t = c.args.self.now in
    record {
      kept = follows_same t t c.requires.numbered (record { objective = refl; rows = refl; columns = refl });
      rows = refl;
      declared = λ name is answer v rest. rest;
    }

pub declare_term-requires-clause-numbered : goal.declare_term-requires-clause-numbered
declare_term-requires-clause-numbered c = c.loop-k.invariant.kept.numbered

pub declare_term-requires-clause-row : goal.declare_term-requires-clause-row
declare_term-requires-clause-row c = ap is_some (c.loop-k.invariant.kept.rows c.args.row) ∙ c.requires.row

pub loop-k-preserved : goal.loop-k-preserved
loop-k-preserved c =
    let t = c.args.self.now in
    let u = c.loop-k.self in
    let v = c.declare_term.new.self in
    let terms = c.args.terms.now in
    let k = c.loop-k.k in
    let before = c.loop-k.invariant in
    record {
      kept = follows_then t u v before.kept c.declare_term.ensures.kept;
      rows = c.declare_term.ensures.rows ∙ before.rows;
      declared = λ name is.
          let each = term_declared name in
          term_laid t u v name c.as_bytes.result.now c.index-terms-k.result (flat_map each (drop (k + 1) terms))
          (flat_map each (drop k terms)) (flat_map each terms) c.as_bytes.ensures
          (rest_of each terms k c.index-terms-k.result c.loop-k-test.true c.index-terms-k.is) (before.declared name is)
          (c.in_ok-declare_term.ensures.declared name (before.kept.rows c.args.row ∙ is));
    }

pub returns-in_err-declare_term-clause-declared : goal.returns-in_err-declare_term-clause-declared
returns-in_err-declare_term-clause-declared c =
    let t = c.args.self.now in
    let u = c.loop-k.self in
    let v = c.declare_term.new.self in
    let terms = c.args.terms.now in
    let k = c.loop-k.k in
    let before = c.loop-k.invariant in λ name is. let each = term_declared name in
    term_refused t u v name c.as_bytes.result.now c.index-terms-k.result (flat_map each (drop (k + 1) terms))
    (flat_map each (drop k terms)) (flat_map each terms) c.as_bytes.ensures
    (rest_of each terms k c.index-terms-k.result c.loop-k-test.true c.index-terms-k.is)
    (before.declared name is) c.from_residual.result c.in_err-declare_term.field-0.0 c.from_residual.ensures.1
    (c.in_err-declare_term.ensures.declared name (before.kept.rows c.args.row ∙ is))

pub returns-clause-declared : goal.returns-clause-declared
returns-clause-declared c =
    let t = c.args.self.now in
    let u = c.loop-k.self in
    let terms = c.args.terms.now in
    λ name is. let all = flat_map (term_declared name) terms in
    decides_all t u all (subst (λ (left : List (List ℕ × Number)). Decides u (flat_map (term_declared name) left) t
    all) (drop_none c.loop-k.k terms (omega arith)) (c.loop-k.invariant.declared name is))

pub returns-in_err-declare_term-clause-kept : goal.returns-in_err-declare_term-clause-kept
returns-in_err-declare_term-clause-kept c =
    follows_then c.args.self.now c.loop-k.self c.declare_term.new.self c.loop-k.invariant.kept c.declare_term.ensures.kept
