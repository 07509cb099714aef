use Rattle.mpslp_conversions.proofs.ComparedLemmas.{stated_by_rest, stated_other}
use Rattle.mpslp_conversions.proofs.comparing_sink.Comparison.is_same.Goals as goal

pub returns-then-not-self : goal.returns-then-not-self
returns-then-not-self c = λ wanted text held.
    stated_by_rest _ c.args.self.now.rest.now wanted text c.is_empty.result c.if-not-self.true c.is_empty.ensures held

pub returns-else-not-self : goal.returns-else-not-self
returns-else-not-self c = λ wanted text held. stated_other _ c.args.self.now.rest.now wanted text c.if-not-self.false held
