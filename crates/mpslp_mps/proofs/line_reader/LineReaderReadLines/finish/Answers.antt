use Rattle.mpslp_mps.proofs.{Prelude.{sym, ◌∙◌}, FedLemmas.{led-named, ends-text}}
use Rattle.mpslp_mps.proofs.line_reader.LineReaderReadLines.finish.Goals as goal

pub finish_by_columns-requires : goal.finish_by_columns-requires
finish_by_columns-requires c = let reader = c.args.self in led-named c.requires.text reader.context reader.builder.draft reader.number
    c.requires.read (sym c.is_at_end.ensures ∙ c.if-not-is_at_end.false)

pub returns : goal.returns
returns c = λ bytes read. ends-text bytes c.args.self read c.finish_by_columns.result (sym c.is_at_end.ensures ∙ c.if-not-is_at_end.false)
    c.finish_by_columns.ensures
