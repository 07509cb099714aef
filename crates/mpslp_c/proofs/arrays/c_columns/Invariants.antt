use Rattle.std.proofs.Common.{◌≡◌, length}
use Rattle.mpslp_c.specs.Arrays.{KeepsNames, RepresentsColumns, elements_before}
use Rattle.mpslp_c.proofs.arrays.c_columns.Given as goal

-- the columns so far are represented
abbrev pub invariant-loop-j : goal.invariant-loop-j
invariant-loop-j l = record {
  count : length l.columns.items ≡ l.j;
  elements : length l.elements.items ≡ elements_before l.model l.j;
  keeps : KeepsNames l.fn.names.items l.names.items;
  represents : RepresentsColumns l.model l.names.items l.elements.items l.columns.items;
}
