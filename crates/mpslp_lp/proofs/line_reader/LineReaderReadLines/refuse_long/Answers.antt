use Rattle.mpslp_lp.proofs.{Prelude.{LineTooLong, Fault}, LineReaderLemmas.{refuses-line, take-long}}
use Rattle.mpslp_lp.proofs.line_reader.LineReaderReadLines.refuse_long.Goals as goal

pub returns : goal.returns
returns c = λ line long. let reader = c.args.self.now in refuses-line _ reader.context _
    (Fault LineTooLong) _ c.requires.unended (take-long reader.context reader.state _ long) c.read_fault.ensures
