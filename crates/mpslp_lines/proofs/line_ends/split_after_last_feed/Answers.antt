use Rattle.std.proofs.Common.{ap, subst, sym, ◌∙◌}
use Rattle.mpslp_model.specs.CompleteLines.{HasNoFeed, open_tail}
use Rattle.mpslp_lines.proofs.LineEndLemmas.{cut-lines, cut-rest, uncut}
use Rattle.mpslp_lines.proofs.line_ends.split_after_last_feed.Goals as goal

pub returns-in-Some-clause-lines : goal.returns-in-Some-clause-lines
returns-in-Some-clause-lines c =
    let last = c.in-Some.ensures in
    ap open_tail c.split_at.ensures.front ∙ cut-lines _ _ last.0.high last.1

pub returns-in-Some-clause-rest : goal.returns-in-Some-clause-rest
returns-in-Some-clause-rest c =
    let last = c.in-Some.ensures in
    subst HasNoFeed (sym c.split_at.ensures.back) (cut-rest _ _ last.0.after)

pub returns-in-None-clause-rest : goal.returns-in-None-clause-rest
returns-in-None-clause-rest c = subst HasNoFeed (sym c.split_at-in-None.ensures.back) (uncut _ c.in-None.ensures)
