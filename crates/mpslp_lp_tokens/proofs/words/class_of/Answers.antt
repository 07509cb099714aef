use Rattle.std.proofs.Common.{sym, ◌∙◌}
use Rattle.mpslp_lp_tokens.proofs.WordLemmas.{word_class-other}
use Rattle.mpslp_lp_tokens.proofs.words.class_of.Goals as goal

pub returns-else-may_be_reserved : goal.returns-else-may_be_reserved
returns-else-may_be_reserved c =
    sym (word_class-other c.args.text.now (sym c.may_be_reserved.ensures ∙ c.if-may_be_reserved.false))
