use Rattle.mpslp_lines.proofs.LineEndLemmas.{front-none, uncut, whole-cut}
use Rattle.mpslp_lines.proofs.line_ends.split_at_first_feed.Goals as goal

pub returns-in-Some : goal.returns-in-Some
returns-in-Some c =
    let found = c.in-Some.ensures in (
      front-none _ _ found.0.high found.0.before,
      whole-cut _ _ found.0.high found.1,
    )

pub returns-in-None : goal.returns-in-None
returns-in-None c = uncut _ c.in-None.ensures
