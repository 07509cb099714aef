use Rattle.mpslp_builder_parts.specs.Parts.{limits_in}
use Rattle.mpslp_builder.proofs.Prelude.{◌≡◌, ◌++◌, each_part}
use Rattle.mpslp_builder.proofs.builder.finish.rows_in.Given as goal

abbrev pub invariant-loop-name : goal.invariant-loop-name
invariant-loop-name l = l.made.items ++ each_part limits_in l.name-iterator ≡ each_part limits_in l.fn.rows.entries
