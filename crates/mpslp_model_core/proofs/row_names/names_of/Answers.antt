use Rattle.std.proofs.{Common.{◌≡◌, refl, ap, ◌∙◌, ℕ, List, [], ◌∷◌, ◌++◌, length, arith}, lemmas.Slice.pushed}
use Rattle.mpslp_model_core.proofs.ViewLemmas.{named_more}
use Rattle.mpslp_model_core.proofs.row_names.names_of.Goals as goal

pub loop-row-preserved : goal.loop-row-preserved
loop-row-preserved c =
    let text = c.loop-row.text.items in
    let starts = c.loop-row.starts.items in
    let text_is = pushed c.as_bytes.result.now refl c.in_ok-extend_from_slice.was c.extend_from_slice.ensures.items
    ∙ ap (λ (name : List ℕ).
    text ++ name) c.as_bytes.ensures in
    let len : c.len.result ≡ length c.extend_from_slice.new.self.items = omega arith in
    named_more c.row-item.result c.loop-row.invariant (omega arith) c.row-item.is text_is
    (pushed (c.len.result ∷ []) refl c.in_ok-push-2.was c.push-in-loop-row.ensures.items ∙ ap (λ (n : ℕ). starts ++ n ∷ []) len)
