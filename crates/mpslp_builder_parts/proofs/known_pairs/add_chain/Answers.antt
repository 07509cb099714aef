use Rattle.std.proofs.Common.{◌∙◌, arith}
use Rattle.std.specs.{FinMap.find, Ordering.nat_cmp, Prelude.is_some}
use Rattle.mpslp_builder_parts.specs.{CoefficientLog.chain}
use Rattle.mpslp_builder_parts.proofs.KnownLemmas.{put_next}
use Rattle.mpslp_builder_parts.proofs.known_pairs.add_chain.Goals as goal

pub loop-at-preserved : goal.loop-at-preserved
loop-at-preserved c =
    let within = c.loop-at.invariant.within in
    let below = c.link-row.ensures.below in record {
      within = omega (arith, within, below);
      own = λ r few. put_next c.loop-at.pairs c.put_pair.new.pairs c.args.column c.link-row.result.0
          (λ q. is_some (find nat_cmp q (chain c.args.log.now c.loop-at.at)))
          (λ q. is_some (find nat_cmp q (chain c.args.log.now c.link-row.result.1))) c.in_ok-put_pair.ensures.ok
          c.link-row.ensures.found r few ∙ c.loop-at.invariant.own r few;
      others = λ i r few apart. c.in_ok-put_pair.ensures.ok.others i r few (λ same _. apart same)
          ∙ c.loop-at.invariant.others i r few apart;
    }
