use Rattle.mpslp_lp_grammar.proofs.Prelude
use Prelude.{◌≡◌, refl, sym, ap, ◌∙◌, ℕ, List, Draft, with_declaration, declare_column, has_column, sorted-from_made}
use Rattle.mpslp_builder.proofs.MadeDrafts.{put_again}
use Rattle.mpslp_lp_grammar.proofs.lp_builder.LpBuilder.declare_column.Goals as goal

pub returns-then-find_column : goal.returns-then-find_column
returns-then-find_column c =
    let later = c.find_column.new.self in
    let column = c.args.column.now in
    let same = c.find_column.ensures.same ∙ c.self.view_is in
    let there =
    ap (λ (all : Draft). has_column all column) c.find_column.ensures.same ∙ sym c.find_column.ensures.found
    ∙ c.if-find_column.true in
    let again : later ≡ with_declaration later (declare_column column) =
    ap (λ (columns : List (List ℕ × Unit {0})). record later { columns = columns })
    (put_again column later.columns (sorted-from_made later c.each_builder_is_made.ensures).columns there) in
    (refl, again ∙ ap (λ (all : Draft). with_declaration all (declare_column column)) same)
