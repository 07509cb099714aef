use Rattle.std.proofs.Common.{rules, ◌≡◌}
use Rattle.mpslp_lp_grammar.specs.declared.states.{Place.TheVariants.{BetweenRows, InBounds}, State.TheVariants.Between}
use Rattle.mpslp_lp.proofs.plain_phrases.take_phrases.Goals as goal

pub returns-in-Between-BetweenRows : goal.returns-in-Between-BetweenRows
returns-in-Between-BetweenRows c = let there : c.args.state.now ≡ Between BetweenRows = search rules in
    c.take_new_row.ensures there

pub returns-in-Between-InBounds : goal.returns-in-Between-InBounds
returns-in-Between-InBounds c = let there : c.args.state.now ≡ Between (InBounds c.in-Between-InBounds.field-0-0) =
    search rules in
    c.take_bound.ensures c.in-Between-InBounds.field-0-0 there
