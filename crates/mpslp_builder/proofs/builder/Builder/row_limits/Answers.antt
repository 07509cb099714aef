use Rattle.mpslp_builder.proofs.Prelude
use Prelude.{refl, sym, ap, ◌∙◌, List, ℕ, is_given, ◌&&◌, both_so, by_limits, declare_row, refusals, first_refusal}
use Rattle.mpslp_builder.proofs.LineLemmas.{infinite_answered, row_answered, row_kept}
use Rattle.mpslp_builder.proofs.builder.Builder.row_limits.Goals as goal

pub invariant_of-self : goal.invariant_of-self
invariant_of-self c = let b = c.self.inside in
    row_kept b.sense b.constant b.tables c.add_row.new.self c.args.name (by_limits c.args.lower c.args.upper) c.of_limits.result
    c.of_limits.ensures (sym c.have_infinite_limit.ensures ∙ c.if-have_infinite_limit.false) c.self.invariant.1 c.add_row.result
    c.add_row.ensures (both_so _ (is_given c.args.lower && is_given c.args.upper)
    c.each_name_is_legal.ensures (both_so _ _ c.requires.lower c.requires.upper)) c.self.invariant.0

pub returns : goal.returns
returns c = let b = c.self.inside in
    row_answered b.sense b.constant b.tables c.add_row.new.self c.args.name (by_limits c.args.lower c.args.upper)
    c.of_limits.result c.of_limits.ensures (sym c.have_infinite_limit.ensures ∙ c.if-have_infinite_limit.false)
    c.self.invariant.1 c.add_row.result c.add_row.ensures _ c.self.view_is

pub returns-then-have_infinite_limit : goal.returns-then-have_infinite_limit
returns-then-have_infinite_limit c = infinite_answered c.args.self.now c.args.name (by_limits c.args.lower c.args.upper)
    c.check_row_limits.result (sym c.have_infinite_limit.ensures ∙ c.if-have_infinite_limit.true) (c.check_row_limits.ensures
    ∙ ap (λ (n : List ℕ). first_refusal
    (refusals c.args.self.now (declare_row n (by_limits c.args.lower c.args.upper)))) c.as_bytes.ensures) _ _ refl
