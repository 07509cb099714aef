use Rattle.std.proofs.Common.{rules}
use Rattle.mpslp_mps_fields.proofs.FieldsLemmas.{next-field, no-fields}
use Rattle.mpslp_mps_fields.proofs.fields.next_field.Goals as goal

pub returns-then-is_empty : goal.returns-then-is_empty
returns-then-is_empty c = no-fields c.args.text.now _ c.from_field-text.ensures (search rules)

pub returns : goal.returns
returns c =
    next-field c.args.text.now _ _ c.split_at.result.1.now c.from_field-text.ensures (search rules)
    (search rules) (search rules)
