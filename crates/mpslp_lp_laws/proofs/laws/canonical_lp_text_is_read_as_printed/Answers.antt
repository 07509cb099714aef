use Rattle.mpslp_lp_laws.proofs.LineLemmas.{read-as-line_text}
use Rattle.mpslp_lp_laws.proofs.laws.canonical_lp_text_is_read_as_printed.Goals as goal

pub returns : goal.returns
returns c = read-as-line_text
