use Rattle.mpslp_lp_write.proofs.Prelude
use Prelude.{sym, ap, ◌∙◌, List, ℕ, Bool, cond, [], ◌∷◌, entries, Column, word, Lines, short_line, is_of_section, lines_seen, nothing_seen}
use Prelude.{prints_nothing, prints_same}
use Rattle.mpslp_types.specs.declared.kinds.Kind.{Kind}
use Rattle.mpslp_lp_write.proofs.lp.kinds.put_name.Goals as goal

pub returns-then-is_of_section : goal.returns-then-is_of_section
returns-then-is_of_section g c =
    let stated : List ℕ → Kind → Lines =
    (λ name kind. cond (is_of_section c.args.section kind) (short_line (word name ∷ []) ∷ []) []) in
    let wanted = sym c.is_of_section.ensures ∙ c.if-is_of_section.true in
    prints_same ((λ i. cond (sym wanted i) (short_line (word (c.as_bytes.ensures i) ∷ []) ∷ []) [])
    ∙ lines_seen (entries c.args.model.now.columns) c.args.j (λ (column : Column). column.kind) stated _ _
    c.column_name.ensures c.column_kind.ensures) c.put_name_line.ensures

pub returns-else-is_of_section : goal.returns-else-is_of_section
returns-else-is_of_section g c =
    let stated : List ℕ → Kind → Lines =
    (λ name kind. cond (is_of_section c.args.section kind) (short_line (word name ∷ []) ∷ []) []) in
    let left = sym c.is_of_section.ensures ∙ c.if-is_of_section.false in
    prints_same (nothing_seen (entries c.args.model.now.columns) c.args.j (λ (column : Column). column.kind) stated _
    c.column_kind.ensures (λ name. ap (λ (b : Bool). cond b (short_line (word name ∷ []) ∷ []) []) left))
    (prints_nothing c.args.output.now)
