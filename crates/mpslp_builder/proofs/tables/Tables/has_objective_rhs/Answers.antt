use Rattle.std.{proofs.Common.{sym, ap, ◌∙◌, false}, specs.{Prelude.{Option, is_some, None}, Option.option_map_or}}
use Rattle.mpslp_builder_parts.specs.declared.parts.ObjectiveParts.{ObjectiveParts}
use Rattle.mpslp_builder.proofs.ReadingLemmas.{has_objective_rhs_at}
use Rattle.mpslp_builder.proofs.tables.Tables.has_objective_rhs.Goals as goal

pub returns-in-Some : goal.returns-in-Some
returns-in-Some c = c.is_some.ensures
    ∙ sym (has_objective_rhs_at None None c.args.self.now c.each_name_occurs_once.ensures c.requires
    ∙ ap (λ (parts : Option ObjectiveParts). option_map_or (λ o. is_some o.rhs) parts false) c.in-Some.is)

pub returns-in-None : goal.returns-in-None
returns-in-None c = sym (has_objective_rhs_at None None c.args.self.now c.each_name_occurs_once.ensures c.requires
    ∙ ap (λ (parts : Option ObjectiveParts). option_map_or (λ o. is_some o.rhs) parts false) c.in-None.is)
