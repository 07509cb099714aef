use Rattle.std.proofs.Common.{◌≡◌, ◌+◌, length}
use Rattle.mpslp_c.specs.Arrays.{KeepsElements, RepresentsElements}
use Rattle.mpslp_c.proofs.arrays.put_elements.Given as goal

-- the elements so far are represented
abbrev pub invariant-loop-k : goal.invariant-loop-k
invariant-loop-k l = record {
  count : length l.elements.items ≡ length l.fn.elements.items + l.k;
  keeps : KeepsElements l.fn.elements.items l.elements.items;
  represents : RepresentsElements l.model l.j (length l.fn.elements.items) l.k l.elements.items;
}
