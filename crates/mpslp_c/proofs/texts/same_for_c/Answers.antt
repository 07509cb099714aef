use Rattle.mpslp_c.proofs.texts.same_for_c.Goals as goal

pub returns-in-Mps-Mps : goal.returns-in-Mps-Mps
returns-in-Mps-Mps c = rw (c.in-Mps-Mps.is-0, c.in-Mps-Mps.is-1) c.same_model_seeded.ensures

pub returns-in-Mps-Lp : goal.returns-in-Mps-Lp
returns-in-Mps-Lp c = rw (c.in-Mps-Lp.is-0, c.in-Mps-Lp.is-1) c.same_model_seeded-in-Mps-Lp.ensures

pub returns-in-Lp-Mps : goal.returns-in-Lp-Mps
returns-in-Lp-Mps c = rw (c.in-Lp-Mps.is-0, c.in-Lp-Mps.is-1) c.same_model_seeded-in-Lp-Mps.ensures

pub returns-in-Lp-Lp : goal.returns-in-Lp-Lp
returns-in-Lp-Lp c = rw (c.in-Lp-Lp.is-0, c.in-Lp-Lp.is-1) c.same_model_seeded-in-Lp-Lp.ensures
