use Rattle.std.{proofs.Common.{sym, subst, ◌∙◌, ◌++◌}, specs.List.flat_map}
use Rattle.mpslp_builder.specs.{Declaration.Declarations, RowTerms.term_declared, TermTables.AreDeclaredUnless}
use Rattle.mpslp_builder.proofs.LineLemmas.{follows_then, both_parts, unless_then, unless_err, unless_reported}
use Rattle.mpslp_builder.proofs.tables.Tables.declare_terms.Goals as goal

pub returns-in_err-declare_first-clause-declared : goal.returns-in_err-declare_first-clause-declared
returns-in_err-declare_first-clause-declared c =
    let t = c.args.self.now in
    let u = c.declare_first.new.self in
    let terms = c.terms.inside in λ name is. let each = term_declared name in
    let first = flat_map each c.as_slice.result.now in
    let more = flat_map each terms.others.entries in
    subst (λ (ds : Declarations). AreDeclaredUnless t ds c.from_residual.result u)
    (sym (both_parts each terms.first.items terms.others.entries c.as_slice.result.now c.args.terms.now
    c.as_slice.ensures.value c.terms.view_is))
    (unless_reported t u (first ++ more) c.from_residual.result c.in_err-declare_first.field-0.0
    c.from_residual.ensures.1 (unless_err t u first more c.in_err-declare_first.field-0.0
    (c.in_err-declare_first.ensures.declared name is)))

pub returns-clause-kept : goal.returns-clause-kept
returns-clause-kept c = follows_then c.args.self.now c.declare_first.new.self c.declare_others.new.self
    c.declare_first.ensures.kept c.declare_others.ensures.kept

pub returns-clause-declared : goal.returns-clause-declared
returns-clause-declared c =
    let t = c.args.self.now in
    let u = c.declare_first.new.self in
    let v = c.declare_others.new.self in
    let terms = c.terms.inside in λ name is. let each = term_declared name in
    subst (λ (ds : Declarations). AreDeclaredUnless t ds c.declare_others.result v) (sym (both_parts each terms.first.items
    terms.others.entries c.as_slice.result.now c.args.terms.now c.as_slice.ensures.value c.terms.view_is))
    (unless_then t u v (flat_map each c.as_slice.result.now) (flat_map each terms.others.entries)
    c.declare_others.result (c.in_ok-declare_first.ensures.declared name is)
    (c.declare_others.ensures.declared name (c.declare_first.ensures.kept.rows c.args.row ∙ is)))
