use Rattle.mpslp_lp.proofs.LineReaderLemmas.{led-line, refuses-line}
use Rattle.mpslp_lp.proofs.line_reader.LineReaderReadLines.read_line.Goals as goal

pub returns-in-Err : goal.returns-in-Err
returns-in-Err c = λ fault is. refuses-line _ c.read_line.new.context _ c.in-Err.error fault c.requires.unended
    c.in-Err.ensures is

pub returns : goal.returns
returns c = λ text led. let reader = c.args.self.now in
    led-line _ _ _ _ _ _ _ _ led c.requires.unended c.in-Ok.ensures c.saturating_add-self.ensures
