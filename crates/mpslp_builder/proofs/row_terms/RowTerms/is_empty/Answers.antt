use Rattle.std.proofs.Common.{◌≡◌, ap, ◌∙◌, length, arith}
use Rattle.mpslp_builder.proofs.LineLemmas.{none_first}
use Rattle.mpslp_builder.proofs.row_terms.RowTerms.is_empty.Goals as goal

pub returns-in_default-clause-some : goal.returns-in_default-clause-some
returns-in_default-clause-some c = λ none. let empty : length c.self.inside.first.items ≡ 0 = none_first c.self.inside.first.items
    c.self.inside.others.entries (c.self.view_is ∙ none) in
    let same : length c.as_slice.result.now ≡ 0 = ap length c.as_slice.ensures.value
    ∙ empty in absurd (omega (arith, c.in_default.len_at_least, same))
