use Rattle.std.{proofs.{Common.{◌≡◌, sym, ◌∙◌, arith, true, false, length}, lemmas.Bool.Decides.{nat_tests}}, specs.Prelude.{nat_le}}
use Rattle.mpslp_types.{specs.{Name.{has_name_length}, declared.names.TheConstants.{MAX_NAME_LEN}}, proofs.BoolLemmas.{both_so}}
use Rattle.mpslp_lp_grammar.proofs.LpWords.{fault-of_lp_bytes}
use Rattle.mpslp_lp_grammar.proofs.terminals.lp_name_fault.Goals as goal

pub returns-then-is_like_exponent : goal.returns-then-is_like_exponent
returns-then-is_like_exponent c =
    let name = c.args.name.now in
    let long : has_name_length name ≡ true =
    both_so (nat_le 1 (length name)) (nat_le (length name) MAX_NAME_LEN) (grind (arith, nat_tests)) (grind (arith, nat_tests)) in
    fault-of_lp_bytes name true false true long (sym c.is_marker.ensures ∙ c.if-is_marker.false)
    (sym c.is_like_exponent.ensures ∙ c.if-is_like_exponent.true) c.requires

pub returns : goal.returns
returns c =
    let name = c.args.name.now in
    let long : has_name_length name ≡ true =
    both_so (nat_le 1 (length name)) (nat_le (length name) MAX_NAME_LEN) (grind (arith, nat_tests)) (grind (arith, nat_tests)) in
    fault-of_lp_bytes name true false false long (sym c.is_marker.ensures ∙ c.if-is_marker.false)
    (sym c.is_like_exponent.ensures ∙ c.if-is_like_exponent.false) c.requires
