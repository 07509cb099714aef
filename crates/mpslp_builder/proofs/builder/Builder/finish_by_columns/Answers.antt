use Rattle.mpslp_builder.proofs.Prelude.{sym, ap, subst, ◌∙◌, Some, option_map, Draft, DraftMeans, file_fault, fault_found}
use Rattle.mpslp_builder.proofs.builder.Builder.finish_by_columns.Goals as goal

pub returns-in-Some : goal.returns-in-Some
returns-in-Some c = ap file_fault (sym c.self.view_is) ∙ sym c.first_fault.ensures.fault
    ∙ ap (option_map (fault_found c.self.inside.tables)) c.in-Some.is ∙ ap Some (sym c.into_fault.ensures)

pub returns-in-Ok : goal.returns-in-Ok
returns-in-Ok c = let none = sym c.first_fault.ensures.fault ∙ ap (option_map (fault_found c.self.inside.tables)) c.in-None.is in
    (ap file_fault (sym c.self.view_is) ∙ none, subst (λ (d : Draft). DraftMeans d c.in-Ok.model) c.self.view_is c.in-Ok.ensures)

pub returns-in-Err : goal.returns-in-Err
returns-in-Err c = ap file_fault (sym c.self.view_is) ∙ sym c.first_fault.ensures.fault
    ∙ ap (option_map (fault_found c.self.inside.tables)) c.in-None.is
