use Rattle.mpslp_mps.proofs.Prelude.{sym, ◌∙◌, map}
use Rattle.mpslp_mps.proofs.ColumnFaults.{column-clash-reported, column-form, row-fault, split-fault, repeated-fault}
use Rattle.mpslp_mps.proofs.columns.column_fault.Goals as goal

pub returns-then-has_column_clash : goal.returns-then-has_column_clash
returns-then-has_column_clash c = column-clash-reported c.args.context.now c.args.builder.now _ c.requires.section
    c.requires.plain (sym c.has_column_clash.ensures ∙ c.if-has_column_clash.true)

pub returns-in-Err : goal.returns-in-Err
returns-in-Err c = column-form c.args.context.now c.args.builder.now _ c.in-Err.kind c.requires.section
    c.requires.plain (sym c.has_column_clash.ensures ∙ c.if-has_column_clash.false) c.in-Err.ensures

pub returns-then-not-has_rows : goal.returns-then-not-has_rows
returns-then-not-has_rows c =
    let apart = sym c.has_column_clash.ensures ∙ c.if-has_column_clash.false in
    row-fault c.args.context.now c.args.builder.now (map (λ field. field.now) c.args.fields.now) _ _ c.requires.section
    c.requires.plain apart c.in-Ok.ensures.0 c.in-Ok.ensures.1 (sym c.has_rows.ensures ∙ c.if-not-has_rows.true)

pub returns-then-is_split : goal.returns-then-is_split
returns-then-is_split c =
    let apart = sym c.has_column_clash.ensures ∙ c.if-has_column_clash.false in
    split-fault c.args.context.now c.args.builder.now (map (λ field. field.now) c.args.fields.now) _ _ c.requires.section
    c.requires.plain apart c.in-Ok.ensures.0 c.in-Ok.ensures.1 (sym c.has_rows.ensures ∙ c.if-not-has_rows.false)
    (sym c.is_split.ensures ∙ c.if-is_split.true)

pub returns : goal.returns
returns c =
    let apart = sym c.has_column_clash.ensures ∙ c.if-has_column_clash.false in
    repeated-fault c.args.context.now c.args.builder.now (map (λ field. field.now) c.args.fields.now) _ _
    c.requires.section c.requires.plain apart c.in-Ok.ensures.0 c.in-Ok.ensures.1
    (sym c.has_rows.ensures ∙ c.if-not-has_rows.false) (sym c.is_split.ensures ∙ c.if-is_split.false) c.requires.faulty
