use Rattle.std.proofs.Common.{ap, length, rules, subst, ◌*◌, ◌+◌, ◌∙◌, ◌≡◌}
use Rattle.std.specs.Prelude.{IfSome}
use Rattle.mpslp_decimal.proofs.LaneLemmas.{several-appended}
use Rattle.mpslp_decimal.specs.Scan.{appended}
use Rattle.mpslp_decimal.proofs.literal.append_fewer_digits.Goals as goal

pub returns-else-before-ge-FOUR_ROOM-clause-rest : goal.returns-else-before-ge-FOUR_ROOM-clause-rest
returns-else-before-ge-FOUR_ROOM-clause-rest c =
    let long : length c.in-Some.bytes.now ≡ 4 = search rules in
    let left = several-appended c.args.before 4 c.args.text.now _ _ c.in-Some.ensures.cases.0 c.in-Some.ensures.cases.1 long
    c.in-Some-four_digits.ensures.0 in
    subst (λ rest. IfSome c.append_digits-in-Some-four_digits.result (λ found. found.1.now ≡ rest)) left.same_rest
    c.append_digits-in-Some-four_digits.ensures.rest

pub returns-else-before-ge-FOUR_ROOM-clause-number : goal.returns-else-before-ge-FOUR_ROOM-clause-number
returns-else-before-ge-FOUR_ROOM-clause-number c =
    let long : length c.in-Some.bytes.now ≡ 4 = search rules in
    let left = several-appended c.args.before 4 c.args.text.now _ _ c.in-Some.ensures.cases.0 c.in-Some.ensures.cases.1 long
    c.in-Some-four_digits.ensures.0 in
    subst (λ number. IfSome c.append_digits-in-Some-four_digits.result (λ found. found.0 ≡ number))
    (ap (λ four. appended (c.args.before * 10000 + four) c.in-Some.more.now) c.in-Some-four_digits.ensures.1 ∙ left.same_value)
    c.append_digits-in-Some-four_digits.ensures.number
