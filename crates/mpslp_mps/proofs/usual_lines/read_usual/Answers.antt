use Rattle.mpslp_mps.proofs.Prelude.{◌≡◌, sym, ◌∙◌, map, true, false, objective_is}
use Rattle.mpslp_mps.proofs.UsualLines.{usual-passed, usual-numbers, usual-legal, usual-unrefused, usual-new}
use Rattle.mpslp_mps.proofs.usual_lines.read_usual.Goals as goal

pub returns-then-is_last_column-clause-read : goal.returns-then-is_last_column-clause-read
returns-then-is_last_column-clause-read c = let fields = map (λ field. field.now) c.args.fields.now in usual-passed c.args.context.now
    c.args.builder.now.draft fields c.in-Some.column.now c.in-Some.values c.requires.section c.requires.plain c.in-Some.ensures.parts.0
    c.in-Some.ensures.parts.1 c.pass_next.result c.pass_next.new.context c.pass_next.new.builder.draft c.pass_next.ensures.passed

pub returns-clause-read : goal.returns-clause-read
returns-clause-read c =
    let fields = map (λ field. field.now) c.args.fields.now in
    usual-passed c.args.context.now c.args.builder.now.draft
    fields c.in-Some.column.now c.in-Some.values c.requires.section c.requires.plain c.in-Some.ensures.parts.0 c.in-Some.ensures.parts.1
    c.pass_first.result c.pass_first.new.context c.pass_first.new.builder.draft c.pass_first.ensures.passed

pub returns-in_default-clause-refused : goal.returns-in_default-clause-refused
returns-in_default-clause-refused c = let fields = map (λ field. field.now) c.args.fields.now in λ _ fine. not_found
    (c.in_default.ensures.found (usual-numbers c.args.context.now c.args.builder.now.draft fields c.requires.section
    c.requires.plain fine))
  where
    not_found : false ≡ true → ⊥
    not_found h = cc

pub returns-then-is_last_column-clause-refused : goal.returns-then-is_last_column-clause-refused
returns-then-is_last_column-clause-refused c =
    let context = c.args.context.now in
    let earlier = c.args.builder.now.draft in
    let fields = map (λ field. field.now) c.args.fields.now in
    let column = c.in-Some.column.now in
    let same = sym c.is_last_column.ensures ∙ c.if-is_last_column.true in
    λ is fine. c.pass_next.ensures.refused is (c.requires.column column (objective_is context.last_column column same))
    (usual-unrefused context earlier fields c.requires.section c.requires.plain fine column c.in-Some.values c.in-Some.ensures.parts.1)

pub returns-clause-refused : goal.returns-clause-refused
returns-clause-refused c =
    let context = c.args.context.now in
    let earlier = c.args.builder.now.draft in
    let fields = map (λ field. field.now) c.args.fields.now in
    let column = c.in-Some.column.now in
    let values = c.in-Some.values in
    let other = sym c.is_last_column.ensures ∙ c.if-is_last_column.false in λ is fine. c.pass_first.ensures.refused is
    (usual-legal context earlier fields c.requires.section c.requires.plain fine column values c.in-Some.ensures.parts.1)
    (usual-new context earlier fields c.requires.section c.requires.plain fine column values c.in-Some.ensures.parts.1 other)
    (usual-unrefused context earlier fields c.requires.section c.requires.plain fine column values c.in-Some.ensures.parts.1)
