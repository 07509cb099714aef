use Rattle.std.proofs.Common.{map, take, ◌++◌, ◌-◌, ◌≡◌}
use Rattle.arrayvec.specs.ArrayVec.{array_vec_len}
use Rattle.mpslp_mps_fields.specs.Line.{fields}
use Rattle.mpslp_mps_fields.proofs.fields.front_fields.Given as goal

-- the fields so far, and those to come
abbrev pub invariant-loop : goal.invariant-loop
invariant-loop l = record {
  fields : map (λ field. field.now) l.found.items ++ take (6 - l.counter) (fields l.rest) ≡ take 6 (fields l.line);
  count : array_vec_len l.found ≡ l.counter;
}
