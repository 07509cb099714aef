use Rattle.std.proofs.Common.{subst}
use Rattle.mpslp_decimal.{proofs.SpellsLemmas.many-more, specs.{Scan.IsSignificandOf, declared.literal.Significand.Significand}}
use Rattle.mpslp_decimal.proofs.literal.Significand.followed_by.Goals as goal

pub returns-in-Many-clause-value : goal.returns-in-Many-clause-value
returns-in-Many-clause-value c = λ n is.
    many-more n c.args.digit c.requires.digit (subst (λ (s : Significand). IsSignificandOf s n) c.in-Many.is is)
