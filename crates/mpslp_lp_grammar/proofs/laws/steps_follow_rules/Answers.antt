use Rattle.std.proofs.Common.{rules}
use Rattle.mpslp_lp_grammar.proofs.TakingLemmas.{take-says}
use Rattle.mpslp_lp_grammar.proofs.laws.steps_follow_rules.Goals as goal

pub returns : goal.returns
returns = search (rules, take-says)
