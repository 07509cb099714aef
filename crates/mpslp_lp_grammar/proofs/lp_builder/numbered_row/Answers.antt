use Rattle.mpslp_lp_grammar.proofs.{Prelude.{rules}, NumberedNames.{numbered-name}}
use Rattle.mpslp_types.proofs.NameLemmas.{mps_name-from_lp}
use Rattle.mpslp_lp_grammar.proofs.lp_builder.numbered_row.Goals as goal

pub from_legal-requires : goal.from_legal-requires
from_legal-requires = search (rules, mps_name-from_lp, numbered-name)
