use Rattle.std.proofs.Common.{◌≡◌, length}
use Rattle.mpslp_c.specs.Arrays.{KeepsNames, RepresentsRows}
use Rattle.mpslp_c.proofs.arrays.c_rows.Given as goal

-- the rows so far are represented
abbrev pub invariant-loop-i : goal.invariant-loop-i
invariant-loop-i l = record {
  count : length l.rows.items ≡ l.i;
  keeps : KeepsNames l.fn.names.items l.names.items;
  represents : RepresentsRows l.model l.names.items l.rows.items;
}
