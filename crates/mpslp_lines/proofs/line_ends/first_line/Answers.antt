use Rattle.std.proofs.Common.{ap, rules, sym, ◌∙◌, ◌∷◌}
use Rattle.std.specs.Str.Lines.{lines}
use Rattle.mpslp_lines.proofs.LineEndLemmas.{first-line, no-lines, only-line, shorter-rest}
use Rattle.mpslp_lines.proofs.line_ends.first_line.Goals as goal

pub returns-then-is_empty-clause-line : goal.returns-then-is_empty-clause-line
returns-then-is_empty-clause-line c = no-lines c.args.text.now (search rules)

pub returns-in-Some-clause-line : goal.returns-in-Some-clause-line
returns-in-Some-clause-line c =
    let parts = c.in-Some.ensures in
    ap lines (sym parts.1) ∙ first-line _ _ parts.0 ∙ (λ i. sym c.without_return.ensures i ∷ lines c.in-Some.rest.now)

pub returns-in-Some-clause-rest : goal.returns-in-Some-clause-rest
returns-in-Some-clause-rest c = shorter-rest _ _ _ c.in-Some.ensures.1

pub returns-in-None-clause-line : goal.returns-in-None-clause-line
returns-in-None-clause-line c = only-line c.args.text.now (search rules) c.in-None.ensures
