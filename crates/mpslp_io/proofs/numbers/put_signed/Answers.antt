use Rattle.std.proofs.Common.{ap, sym, List, ℕ, ◌++◌, ◌∙◌}
use Rattle.mpslp_io.proofs.{NumberLemmas.{positive-text, negative-text}, OutputLemmas.{puts_same}}
use Rattle.mpslp_io.proofs.numbers.put_signed.Goals as goal

pub returns-then-size-lt10 : goal.returns-then-size-lt10
returns-then-size-lt10 g c =
    puts_same (ap (λ (digits : List ℕ). c.args.front.now ++ (digits ++ c.args.back.now))
    (negative-text c.args.value c.args.size (sym c.is_negative.ensures ∙ c.if-is_negative.true) c.requires.0 c.requires.1 c.if-size-lt10.true))
    c.put_between.ensures

pub returns-else-is_negative : goal.returns-else-is_negative
returns-else-is_negative g c =
    puts_same (ap (λ (digits : List ℕ). c.args.front.now ++ (digits ++ c.args.back.now))
    (positive-text c.args.value c.args.size (sym c.is_negative.ensures ∙ c.if-is_negative.false) c.requires.0 c.requires.1))
    c.put_small.ensures
