use Rattle.std.proofs.Common.{rules, [], ◌++◌}
use Rattle.mpslp_convert.specs.Performed.{sink_change, IsReported}
use Rattle.mpslp_io.proofs.OutputLemmas.{puts_then}
use Rattle.mpslp_convert.proofs.job_end.print_line.Goals as goal

pub returns-clause-answer : goal.returns-clause-answer
returns-clause-answer g c =
    let first = c.args.err.now in
    let text = c.args.front.now ++ c.args.middle.now ++ c.args.end.now in
    let all = puts_then (puts_then c.put.ensures c.put-2.ensures) c.put-3.ensures in
    let put = all.puts first [] [] (c.new-output.ensures.empty c.new-buffer.ensures) in
    let stated : IsReported (sink_change g.E.Sink first c.finish.new.self.sink.now) text =
    (c.finish.result, c.finish.ensures.answer first text [] put, c.finish.ensures.calls first text [] put) in
    search rules

pub returns-clause-err_stays : goal.returns-clause-err_stays
returns-clause-err_stays g c =
    let first = c.args.err.now in
    let text = c.args.front.now ++ c.args.middle.now ++ c.args.end.now in
    let all = puts_then (puts_then c.put.ensures c.put-2.ensures) c.put-3.ensures in
    let stays = c.finish.ensures.stays first text [] (all.puts first [] [] (c.new-output.ensures.empty c.new-buffer.ensures)) in
    search rules
