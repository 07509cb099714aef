use Rattle.std.{proofs.Common.{not, rules, subst, ◌≡◌}, specs.Prelude.{Some, is_some}}
use Rattle.mpslp_lines.{proofs.PieceLemmas.feed-refused, specs.TextReading.IsFedAll}
use Rattle.mpslp_lines.proofs.text_reader.TextReaderModelReader.feed.Goals as goal

pub returns-in_err-feed-clause-answer : goal.returns-in_err-feed-clause-answer
returns-in_err-feed-clause-answer g c =
    let lines = g.L.ReadLines in
    let pieces : c.args.self.now ≡ Some c.in-Some.pieces = search rules in
    feed-refused lines.has_read lines.at_end lines.lines_fault (IsFedAll lines.has_read lines.at_end)
    (λ reader. not (is_some reader)) c.args.self.now c.take.new.self c.in-Some.pieces c.args.piece.now
    c.in_err-feed.field-0.0 c.from_residual.result c.from_residual.ensures.1
    (λ bytes. subst (λ reader. IsFedAll lines.has_read lines.at_end reader bytes) pieces) c.in_err-feed.ensures
