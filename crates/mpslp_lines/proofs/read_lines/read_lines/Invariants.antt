use Rattle.std.{proofs.Common.{false, length, ◌≡◌}, specs.Str.Lines.lines}
use Rattle.mpslp_lines.proofs.PieceLemmas.{Passed}
use Rattle.mpslp_lines.proofs.read_lines.read_lines.Given as goal

-- the lines before those that are left were read
abbrev pub invariant-loop-line : goal.invariant-loop-line
invariant-loop-line g l = record {
  unended : g.L.ReadLines.at_end l.reader ≡ false;
  passed : Passed g.L.ReadLines.has_read l.fn.reader l.reader (lines l.part) (lines l.rest);
}

abbrev pub decreases-loop-line : goal.decreases-loop-line
decreases-loop-line g l = length l.rest
