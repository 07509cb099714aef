use Rattle.std.proofs.Common.{sym, ◌∙◌}
use Rattle.mpslp_mps_write.proofs.IntegerPart.{integer_some, integer_none}
use Rattle.mpslp_mps_write.proofs.mps.columns.put_integer_part.Goals as goal

pub returns-then-close_section : goal.returns-then-close_section
returns-then-close_section g c =
    integer_some c.open_section.ensures c.put_columns.ensures c.close_section.ensures.closed
    (sym c.close_section.ensures.has_lines ∙ c.if-close_section.true) c.put.ensures

pub returns-else-close_section : goal.returns-else-close_section
returns-else-close_section g c =
    integer_none c.open_section.ensures c.put_columns.ensures c.close_section.ensures.closed
    (sym c.close_section.ensures.has_lines ∙ c.if-close_section.false)
