use Rattle.std.{proofs.Common.{◌≡◌, sym, ap, subst, ◌∙◌, Bool, false}, specs.Prelude.◌&&◌}
use Rattle.mpslp_types.specs.Lists.{when}
use Rattle.mpslp_builder.specs.{Declaration.declare_marked, Calls.column_satisfies, LineTables.AreDeclared}
use Rattle.mpslp_builder.proofs.LineLemmas.{mark_laid, mark_follows, mark_cells}
use Rattle.mpslp_builder.proofs.tables.Tables.mark_if.Goals as goal

pub returns-then-is_marked-clause-kept : goal.returns-then-is_marked-clause-kept
returns-then-is_marked-clause-kept c =
    let t = c.args.self.now in
    let semi : column_satisfies t c.args.column (λ parts. parts.semi)
    ≡ false = ap (λ (b : Bool). b && column_satisfies t c.args.column (λ parts. parts.semi)) (sym c.if-is_marked.true)
    ∙ c.requires.apart in
    mark_follows t c.put_property.new.self c.requires.numbered c.each_name_occurs_once.ensures c.args.column c.put_property.ensures semi

pub returns-then-is_marked-clause-declared : goal.returns-then-is_marked-clause-declared
returns-then-is_marked-clause-declared c =
    let t = c.args.self.now in
    let semi : column_satisfies t c.args.column (λ parts. parts.semi)
    ≡ false = ap (λ (b : Bool). b && column_satisfies t c.args.column (λ parts. parts.semi)) (sym c.if-is_marked.true)
    ∙ c.requires.apart in
    λ name is. subst (λ (b : Bool). AreDeclared t (when b (declare_marked name)) c.put_property.new.self) (sym c.if-is_marked.true)
    (mark_laid t c.put_property.new.self c.requires.numbered c.each_name_occurs_once.ensures c.args.column
    c.put_property.ensures semi name is)

pub returns-then-is_marked-clause-cells : goal.returns-then-is_marked-clause-cells
returns-then-is_marked-clause-cells c =
    let t = c.args.self.now in
    let semi : column_satisfies t c.args.column (λ parts. parts.semi)
    ≡ false = ap (λ (b : Bool). b && column_satisfies t c.args.column (λ parts. parts.semi)) (sym c.if-is_marked.true)
    ∙ c.requires.apart in
    mark_cells t c.put_property.new.self c.requires.numbered c.each_name_occurs_once.ensures c.args.column c.put_property.ensures semi
