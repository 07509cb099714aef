use Rattle.mpslp_builder_parts.{specs.Parts.limits_in, proofs.PassLemmas.passed_on}
use Rattle.mpslp_builder.proofs.Prelude.{sym, ap, ◌∙◌, [], ◌∷◌, ◌++◌, each_part}
use Rattle.mpslp_builder.proofs.builder.finish.rows_in.Goals as goal

pub loop-name-preserved : goal.loop-name-preserved
loop-name-preserved c =
    let made = c.loop-name.made.items in
    let later = c.push-in-loop-name.new.self.items in passed_on made later
    (each_part limits_in c.next.new.self) (each_part limits_in c.args.rows.entries) (c.in-Some.name, limits_in c.in-Some.parts)
    (c.in_ok-push.ensures.items ∙ (λ i. made ++ (c.in-Some.name, c.in_ok-row_of.ensures i) ∷ []))
    (ap (λ rows. made ++ each_part limits_in rows) (sym c.in-Some.ensures.steps) ∙ c.loop-name.invariant)
