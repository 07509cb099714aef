use Rattle.mpslp_lp_write.proofs.Prelude
use Prelude.{ap, ◌∙◌, ◌++◌, codes, number_text, size_of, sign_bytes, puts_same, List, ℕ}
use Rattle.mpslp_lp_write.proofs.lp.lines.put_signed.Goals as goal

pub returns : goal.returns
returns g c =
    puts_same (ap (λ (front : List ℕ). front ++ (number_text (size_of c.args.value) ++ c.args.back.now)) (c.sign_text.ensures
    ∙ ap (λ minus. codes "  " ++ (sign_bytes minus ++ codes " ")) c.is_negative.ensures)) c.put_size.ensures
