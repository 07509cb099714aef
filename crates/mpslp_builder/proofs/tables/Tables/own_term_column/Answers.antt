use Rattle.std.proofs.Common.{◌≡◌, ◌∙◌, ap, List, ℕ}
use Rattle.std.specs.Prelude.{Option, Some}
use Rattle.mpslp_builder.{specs.Calls.column_name, proofs.LineLemmas.there_laid}
use Rattle.mpslp_builder.proofs.tables.Tables.own_term_column.Goals as goal

pub returns-in-Some-clause-ok : goal.returns-in-Some-clause-ok
returns-in-Some-clause-ok c = let t = c.args.self.now in
    let is : column_name t c.in-Some.column ≡ Some c.args.name =
    c.in-Some.ensures ∙ ap (λ (name : List ℕ). let o : Option (List ℕ) = Some name in o) c.as_bytes.ensures in
    record { named = is; declared = there_laid t c.args.name c.in-Some.column is }
