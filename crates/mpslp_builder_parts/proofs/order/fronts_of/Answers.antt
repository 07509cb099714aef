use Rattle.std.proofs.Common.{List, [], ap, arith, drop, subst, sym, ℕ, ◌++◌, ◌<◌, ◌∙◌, ◌∷◌, ◌≡◌}
use Rattle.std.proofs.lemmas.List.FromFn.{map-range_with_len_more}
use Rattle.std.specs.Prelude.{slice_index}
use Rattle.mpslp_builder_parts.{proofs.OrderLemmas.{at_next}, specs.Ordered.{front_at, front_value, name_at}}
use Rattle.mpslp_builder_parts.proofs.order.fronts_of.Goals as goal

pub loop-number-preserved : goal.loop-number-preserved
loop-number-preserved g c =
    let entries = c.args.entries.now in
    let shared = c.args.shared in
    let number = c.loop-number.number in
    let rest : c.bytes_after.result.now ≡ drop shared (name_at entries number) =
    c.bytes_after.ensures ∙ ap (drop shared) c.name_at-name.ensures in
    record {
      fronts = c.in_ok-push.ensures.items
          ∙ (λ i. c.loop-number.invariant.fronts i ++ record {
            bytes = (c.front_value-bytes.ensures.value ∙ ap (front_value 8) rest) i;
            number = number;
          } ∷ []) ∙ sym (map-range_with_len_more (front_at entries shared) 0 number number (omega arith));
      bytes = λ n i h. at_next (λ n. slice_index (drop shared (name_at entries n)) i < 256) number n h
          (λ under. c.loop-number.invariant.bytes n i under)
          (subst (λ (name : List ℕ). slice_index name i < 256) rest (c.front_value-bytes.ensures.bytes i));
    }
