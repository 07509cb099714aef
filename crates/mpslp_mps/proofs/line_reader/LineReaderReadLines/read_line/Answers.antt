use Rattle.mpslp_mps.proofs.{Prelude.{ap, ◌∙◌, kept_context}, FedLemmas.{led-sides, led-last_column, led-line, refuses-line}}
use Rattle.mpslp_mps.proofs.line_reader.LineReaderReadLines.read_line.Goals as goal

pub read_line-requires : goal.read_line-requires
read_line-requires c = let reader = c.args.self.now in record {
  sides = led-sides c.requires.reader.text reader.context reader.builder.draft reader.number c.requires.reader.read;
  column = led-last_column c.requires.reader.text reader.context reader.builder.draft reader.number
      c.requires.reader.read c.requires.unended;
}

pub returns-in-Err : goal.returns-in-Err
returns-in-Err c = λ fault is. refuses-line c.args.self.now c.args.line.now c.in-Err.error fault c.requires.unended
    c.in-Err.ensures.answers is

pub returns : goal.returns
returns c = λ before led. let reader = c.args.self.now in
    let answers = c.in-Ok.ensures.answers in
    led-line before reader.context
    reader.builder.draft reader.number led c.requires.unended c.args.line.now c.drop_names_at_end.new.self c.read_line.new.builder.draft
    c.saturating_add-self.result answers.0 (c.drop_names_at_end.ensures ∙ ap kept_context answers.1) answers.2
    c.saturating_add-self.ensures
