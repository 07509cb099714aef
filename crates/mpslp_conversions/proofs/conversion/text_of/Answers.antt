use Rattle.std.proofs.Common.{◌∙◌, []}
use Rattle.mpslp_conversions.proofs.conversion.text_of.Goals as goal

pub returns-in-Ok : goal.returns-in-Ok
returns-in-Ok g c =
    let written = c.in-Ok.ensures.answer in
    (written.0, c.into_bytes.ensures ∙ written.1 [] c.new-sink.ensures.empty)
