use Rattle.std.proofs.Common.{sym, ◌∙◌}
use Rattle.mpslp_lp_tokens.proofs.WordLength.{four-left}
use Rattle.mpslp_lp_tokens.proofs.scan.word_len.Goals as goal

pub loop-rest-preserved : goal.loop-rest-preserved
loop-rest-preserved c = four-left c.args.text.now c.loop-rest.rest.now c.in-len4-up.len_at_least
    (sym c.continue_word.ensures ∙ c.if-not-continue_word.false) c.loop-rest.invariant
