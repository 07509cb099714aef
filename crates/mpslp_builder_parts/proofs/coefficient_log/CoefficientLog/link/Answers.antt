use Rattle.std.proofs.Common.{sym, ap, subst, ◌∙◌, ◌||◌, ◌-◌, slice_index}
use Rattle.std.specs.{FinMap.find, Ordering.{nat_cmp, eq_by_cmp}, Prelude.is_some}
use Rattle.mpslp_builder_parts.specs.CoefficientLog.{IsLog, chain}
use Rattle.mpslp_builder_parts.proofs.LogLemmas.{parted, linked, found_first}
use Rattle.mpslp_builder_parts.proofs.coefficient_log.CoefficientLog.link.Goals as goal

pub returns-clause-found : goal.returns-clause-found
returns-clause-found c row =
    let log = c.args.self.now in
    let is = subst IsLog c.self.view_is c.self.invariant in
    let cell = c.index.result.now in
    let parts = parted log is c.self.inside.cells.items (ap (λ log. log.cells) c.self.view_is) c.args.place cell
    c.index.ensures c.requires.0 c.requires.1 in
    let link = linked log is c.self.inside.earlier.items (ap (λ log. log.earlier) c.self.view_is) c.args.place
    c.index-2.result.now c.index-2.ensures c.requires.0 c.requires.1 in
    found_first row cell (chain log (slice_index log.earlier (c.args.place - 1))) (chain log c.args.place) parts
    ∙ ap (λ n. eq_by_cmp nat_cmp row cell.0 || is_some (find nat_cmp row (chain log n))) (sym link)
