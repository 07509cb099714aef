use Rattle.mpslp_lines.specs.declared.errors.LineError.TheVariants.{Fault}
use Rattle.mpslp_mps.proofs.{Prelude.LineTooLong, FedLemmas.{line-too_long, refuses-line}}
use Rattle.mpslp_mps.proofs.line_reader.LineReaderReadLines.refuse_long.Goals as goal

pub returns : goal.returns
returns c = λ line long. let reader = c.args.self.now in
    refuses-line reader line (Fault LineTooLong) c.read_fault.result c.requires.unended
    (line-too_long reader.context reader.builder.draft line long) c.read_fault.ensures
