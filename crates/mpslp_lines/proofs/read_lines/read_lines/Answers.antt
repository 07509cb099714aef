use Rattle.std.{proofs.Common.{refl, sym, ◌∙◌}, specs.Str.Lines.lines}
use Rattle.mpslp_lines.proofs.PieceLemmas.{passed-all, passed-end, passed-line, passed-none, passed-reader, refuses-next}
use Rattle.mpslp_lines.proofs.read_lines.read_lines.Goals as goal

pub loop-line-init : goal.loop-line-init
loop-line-init g c = record {
  unended = c.requires.unended;
  passed = passed-none g.L.ReadLines.has_read c.args.reader.now (lines c.args.part.now) (lines c.args.part.now) refl;
}

pub read_line-requires-clause-reader : goal.read_line-requires-clause-reader
read_line-requires-clause-reader g c =
    let before = c.loop-line in
    passed-reader g.L.ReadLines.has_read c.args.reader.now before.reader (lines c.args.part.now) (lines before.rest.now)
    before.invariant.passed c.requires.reader

pub returns-in-Err : goal.returns-in-Err
returns-in-Err g c =
    let r = g.L.ReadLines in
    let before = c.loop-line in
    refuses-next r.has_read r.lines_fault g.met.L.ReadLines.fault_stays c.args.reader.now before.reader
    (lines c.args.part.now) (lines before.rest.now) (lines c.in-Some.more.now)
    c.in-Some.line.now c.read_fault.result before.invariant.passed c.in-Some.ensures.line
    (c.in-Err.ensures c.read_fault.result c.read_fault.ensures)

pub returns-then-is_at_end : goal.returns-then-is_at_end
returns-then-is_at_end g c =
    let r = g.L.ReadLines in
    let before = c.loop-line in
    let all = lines c.args.part.now in
    let read = passed-line r.has_read r.lines_fault c.args.reader.now before.reader c.read_line.new.self all
    (lines before.rest.now) (lines c.in-Some.more.now) c.in-Some.line.now
    before.invariant.passed c.in-Some.ensures.line c.in-Ok.ensures in
    passed-end r.has_read r.at_end g.met.L.ReadLines.after_end c.args.reader.now c.read_line.new.self all
    (lines c.in-Some.more.now) read (sym c.is_at_end.ensures ∙ c.if-is_at_end.true)

pub loop-line-preserved : goal.loop-line-preserved
loop-line-preserved g c =
    let r = g.L.ReadLines in
    let before = c.loop-line in
    record {
      unended = sym c.is_at_end.ensures ∙ c.if-is_at_end.false;
      passed = passed-line r.has_read r.lines_fault c.args.reader.now before.reader c.read_line.new.self (lines c.args.part.now)
          (lines before.rest.now) (lines c.in-Some.more.now) c.in-Some.line.now
          before.invariant.passed c.in-Some.ensures.line c.in-Ok.ensures;
    }

pub returns : goal.returns
returns g c =
    let r = g.L.ReadLines in
    let before = c.loop-line in
    passed-all r.has_read r.lines_fault c.args.reader.now before.reader (lines c.args.part.now) (lines before.rest.now)
    before.invariant.passed c.in_default.ensures.line
