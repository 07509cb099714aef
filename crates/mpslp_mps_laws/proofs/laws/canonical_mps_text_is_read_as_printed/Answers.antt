use Rattle.mpslp_mps_laws.proofs.PrintableLemmas.{read-as-line_text}
use Rattle.mpslp_mps_laws.proofs.laws.canonical_mps_text_is_read_as_printed.Goals as goal

pub returns : goal.returns
returns c = read-as-line_text
