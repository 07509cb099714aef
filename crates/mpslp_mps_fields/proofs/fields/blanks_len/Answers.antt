use Rattle.std.proofs.Common.{sym, ◌∙◌}
use Rattle.mpslp_mps_fields.proofs.FieldsLemmas.{position-none}
use Rattle.mpslp_mps_fields.proofs.fields.blanks_len.Goals as goal

pub returns-in-None-clause-len : goal.returns-in-None-clause-len
returns-in-None-clause-len c = position-none _ _ (sym c.first_of_field.ensures ∙ c.in-None.is)
