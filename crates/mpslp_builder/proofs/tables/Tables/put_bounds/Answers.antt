use Rattle.std.proofs.Common.{refl}
use Rattle.mpslp_builder.proofs.TableDrafts.{on_ok, on_err}
use Rattle.mpslp_builder.proofs.tables.Tables.put_bounds.Goals as goal

pub returns-clause-ok : goal.returns-clause-ok
returns-clause-ok c = on_ok c.put_bounds.result (λ h. record {
  key = h.key;
  parts = h.parts;
  was = h.was;
  written = record { objective = refl; rows = refl; columns = h.written };
}) c.put_bounds.ensures.ok

pub returns-clause-err : goal.returns-clause-err
returns-clause-err c = on_err c.put_bounds.result (λ same. record { objective = refl; rows = refl; columns = same })
    c.put_bounds.ensures.err
