use Rattle.std.proofs.Common.{ap, ◌∙◌, subst, length, List, ℕ}
use Rattle.mpslp_decimal.specs.Decimal.{Number}
use Rattle.mpslp_c.{specs.Arrays.{RepresentsName, RepresentsNumber, sense_number}, proofs.{KnownLemmas.rows_kept, StatedDraft.all_counted}}
use Rattle.mpslp_c.proofs.arrays.c_model.Goals as goal

pub returns : goal.returns
returns c =
    let m = c.args.model.now in
    let named = c.in_ok-objective.ensures.represents in
    let kept = c.c_columns.ensures.keeps in
    let objective : RepresentsName c.c_columns.new.names.items m.objective c.in_ok-objective.objective =
    subst (λ (name : List ℕ). RepresentsName c.c_columns.new.names.items name c.in_ok-objective.objective)
    c.objective_name.ensures (kept c.objective_name.result.now c.in_ok-objective.objective
    (c.c_rows.ensures.keeps c.objective_name.result.now c.in_ok-objective.objective named)) in
    record {
      num_rows = ap length c.leak-2.ensures.value ∙ c.in_ok-rows.ensures.count;
      num_columns = ap length c.leak-3.ensures.value ∙ c.in_ok-columns.ensures.count;
      num_elements = ap length c.leak-4.ensures.value
          ∙ (c.in_ok-columns.ensures.elements ∙ all_counted m c.each_model_is_sound.ensures);
      rows = rw (c.leak.ensures.value, c.leak-2.ensures.value) (rows_kept m _ _ _ kept c.in_ok-rows.ensures.represents);
      columns = rw (c.leak.ensures.value, c.leak-3.ensures.value, c.leak-4.ensures.value) c.in_ok-columns.ensures.represents;
      constant = subst (λ (n : Number). RepresentsNumber n c.c_number.result) c.objective_constant.ensures c.c_number.ensures;
      objective = rw c.leak.ensures.value objective;
      sense = c.sense_number.ensures ∙ ap sense_number c.objective_sense.ensures;
    }
