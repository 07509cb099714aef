use Rattle.mpslp_lp.proofs.{Prelude.{sym, ap, ◌∙◌, ◌∷◌, cons_option, least_kind, token_faults}, PlainPhrases.{least-next}}
use Rattle.mpslp_lp.proofs.read_line.lexical_fault_of.Goals as goal

pub loop-raw_token-preserved-in-Err : goal.loop-raw_token-preserved-in-Err
loop-raw_token-preserved-in-Err c =
    let more = token_faults c.next.new.self in
    let kind = c.in-Err.kind in record {
      next = tt;
      finite = tt;
      least = ap (λ k. least_kind (k ∷ more)) c.lower_ranked_of.ensures ∙ sym (least-next _ _ _)
          ∙ ap (λ o. least_kind (cons_option c.loop-raw_token.least (cons_option o more))) (sym c.in-Err.ensures)
          ∙ ap (λ left. least_kind (cons_option c.loop-raw_token.least (token_faults left)))
          (sym c.in-Some.ensures.steps) ∙ c.loop-raw_token.invariant.least;
    }
