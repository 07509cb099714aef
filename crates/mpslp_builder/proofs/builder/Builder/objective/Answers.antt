use Rattle.mpslp_builder.proofs.Prelude
use Prelude.{◌≡◌, refl, sym, ap, ◌∙◌, ℕ, List, [], ◌∷◌, Bool, false, is_some, is_mps_name, BuildFault, SecondObjective, DuplicateRow}
use Prelude.{first_refusal, Draft, declare_objective, has_row, refusals, draft}
use Rattle.mpslp_builder.proofs.{MadeDrafts.{none_refused, made_after, answered}, RefusalLemmas.{first_none, rest_none}}
use Rattle.mpslp_builder.proofs.LineLemmas.{objective_absent, objective_named, objective_named_numbered}
use Rattle.mpslp_builder.proofs.builder.Builder.objective.Goals as goal

pub invariant_of-self : goal.invariant_of-self
invariant_of-self c =
    let b = c.self.inside in
    let inner = draft b.sense b.constant b.tables in
    let all = c.args.self.now in
    let d = declare_objective c.args.name in
    let unrefused = c.in_ok-check_objective.ensures
    ∙ ap (λ (n : List ℕ). first_refusal (refusals all (declare_objective n))) c.as_bytes.ensures in
    let none : refusals inner d ≡ [] = ap (λ (before : Draft). refusals before d) c.self.view_is
    ∙ none_refused (refusals all d) unrefused in
    let tests : List (Bool × BuildFault) = (has_row inner c.args.name, DuplicateRow) ∷ [] in
    let unnamed = objective_absent b.tables.objective (first_none (is_some inner.objective) SecondObjective tests none) in
    let absent : has_row inner c.args.name
    ≡ false = first_none (has_row inner c.args.name) DuplicateRow []
    (rest_none (is_some inner.objective) SecondObjective tests none) in
    let after = objective_named b.sense b.constant b.tables c.name_objective.new.self c.args.name c.self.invariant.1 unnamed
    c.name_objective.ensures in (
      made_after d after c.self.invariant.0 (ap is_mps_name (sym c.name.view_is) ∙ c.name.invariant) none refl,
      objective_named_numbered b.sense b.constant b.tables c.name_objective.new.self c.args.name c.self.invariant.1 unnamed
          c.name_objective.ensures absent,
    )

pub returns-clause-answers : goal.returns-clause-answers
returns-clause-answers c =
    let b = c.self.inside in
    let inner = draft b.sense b.constant b.tables in
    let all = c.args.self.now in
    let d = declare_objective c.args.name in
    let unrefused = c.in_ok-check_objective.ensures
    ∙ ap (λ (n : List ℕ). first_refusal (refusals all (declare_objective n))) c.as_bytes.ensures in
    let none : refusals inner d ≡ [] = ap (λ (before : Draft). refusals before d) c.self.view_is
    ∙ none_refused (refusals all d) unrefused in
    let tests : List (Bool × BuildFault) = (has_row inner c.args.name, DuplicateRow) ∷ [] in
    let unnamed = objective_absent b.tables.objective (first_none (is_some inner.objective) SecondObjective tests none) in
    let absent : has_row inner c.args.name ≡ false = first_none (has_row inner c.args.name) DuplicateRow []
    (rest_none (is_some inner.objective) SecondObjective tests none) in
    let after = objective_named b.sense b.constant b.tables
    c.name_objective.new.self c.args.name c.self.invariant.1 unnamed c.name_objective.ensures in
    answered d c.self.view_is after none
