use Rattle.std.{proofs.Common.{ap, not, sym, ◌&&◌, ◌∙◌}, specs.{Cmp.{first_so, second_so}, List.list_all}}
use Rattle.mpslp_types.specs.Name.{begins_a_number, has_name_length, is_like_exponent, is_lp_byte, is_reserved, is_visible}
use Rattle.mpslp_types.proofs.names.Name.is_lp.Goals as goal

-- a `Name` has a legal length and is not the marker; the rest is tested by the code
pub returns-then-not-is_like_exponent : goal.returns-then-not-is_like_exponent
returns-then-not-is_like_exponent c =
    let name = c.args.self.now in
    let same = c.as_bytes-bytes.ensures in
    let legal = c.each_name_is_legal.ensures in
    let length = first_so (has_name_length name) _ legal in
    let no_marker = second_so (list_all is_visible name) _ (second_so (has_name_length name) _ legal) in
    let bytes = ap (list_all is_lp_byte) (sym same) ∙ sym c.has_lp_bytes.ensures ∙ c.if-has_lp_bytes.true in
    let begins = ap begins_a_number (sym same) ∙ sym c.begins_a_number.ensures ∙ c.if-not-begins_a_number.true in
    let like = ap is_like_exponent (sym same) ∙ sym c.is_like_exponent.ensures ∙ c.if-not-is_like_exponent.true in
    ap not (c.is_reserved.ensures ∙ ap is_reserved same)
    ∙ sym (λ i. length i && (bytes i && (not (begins i) && (not (like i) && (no_marker i && not (is_reserved name))))))
