use Rattle.mpslp_decimal.proofs.NumberTextLemmas.{point-pieces}
use Rattle.mpslp_decimal.proofs.text.DecimalText.append_with_point.Goals as goal

pub returns-else-digits-places : goal.returns-else-digits-places
returns-else-digits-places c =
    point-pieces c.args.self.now c.append-else-digits-places.new.self c.append-else-digits-places-2.new.self
    c.append-else-digits-places-3.new.self c.args.digits.now c.args.places
    c.append-else-digits-places.ensures c.append-else-digits-places-2.ensures c.append-else-digits-places-3.ensures
    c.if-digits-places.false c.requires.places
