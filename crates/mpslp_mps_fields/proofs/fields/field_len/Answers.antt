use Rattle.mpslp_mps_fields.proofs.FieldsLemmas.{first-blank, no-blank}
use Rattle.mpslp_mps_fields.proofs.fields.field_len.Goals as goal

pub returns-in-Some-clause-len : goal.returns-in-Some-clause-len
returns-in-Some-clause-len c =
    let found = c.in-Some.ensures in
    first-blank _ _ found.0.high found.0.before found.1

pub returns-in-None-clause-len : goal.returns-in-None-clause-len
returns-in-None-clause-len c = no-blank _ c.in-None.ensures
