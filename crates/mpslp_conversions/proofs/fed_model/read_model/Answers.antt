use Rattle.std.proofs.Common.{rules, ◌++◌, ◌∙◌, sym, take, arith, length-append, length-take-le}
use Rattle.std.proofs.{KnownBytes.{Consumes-trans}}
use Rattle.mpslp_conversions.proofs.{LoadLemmas.{TakesAtMost-then}, FeedingLemmas.{reading-of, gave-all, on-ok}}
use Rattle.mpslp_conversions.proofs.fed_model.read_model.Goals as goal

pub returns-in_err-taken-clause-asked : goal.returns-in_err-taken-clause-asked
returns-in_err-taken-clause-asked g c =
    let before = c.reads.invariant.feeding in
    TakesAtMost-then _ _ _ before.bytes c.reads.room _ before.taken before.counted c.in_err-taken.ensures.asked

pub returns-then-taken-eq0-clause-answer : goal.returns-then-taken-eq0-clause-answer
returns-then-taken-eq0-clause-answer g c =
    let before = c.reads.invariant.feeding in
    let given = c.in_ok-taken.ensures.answer in
    reading-of g.A.Reader.ModelReader.declares g.A.Format.declares g.A.Reader.ModelReader.first_fault
    g.A.Format.first_fault (g.R.Source.left c.args.source.now) (g.R.Source.left c.read_piece.new.source)
    (g.R.Source.failed c.read_piece.new.source) c.args.max_bytes before.bytes c.finish_fed.result (search rules) (search rules)
    (gave-all (g.R.Source.left c.args.source.now) (g.R.Source.left c.reads.source) (g.R.Source.left c.read_piece.new.source)
    (g.R.Source.failed c.read_piece.new.source) c.reads.room c.args.max_bytes c.in_ok-taken.taken before.bytes
    c.read_piece.new.buffer before.taken before.counted given.0 c.if-taken-eq0.true given.3
    (given.4 c.if-taken-eq0.true))
    (c.finish_fed.ensures before.bytes before.fed)

pub returns-then-taken-eq0-clause-asked : goal.returns-then-taken-eq0-clause-asked
returns-then-taken-eq0-clause-asked g c =
    let before = c.reads.invariant.feeding in
    TakesAtMost-then _ _ _ before.bytes c.reads.room _ before.taken before.counted c.in_ok-taken.ensures.asked

pub returns-then-is_err-clause-asked : goal.returns-then-is_err-clause-asked
returns-then-is_err-clause-asked g c =
    let before = c.reads.invariant.feeding in
    TakesAtMost-then _ _ _ before.bytes c.reads.room _ before.taken before.counted c.in_ok-taken.ensures.asked

pub reads-preserved : goal.reads-preserved
reads-preserved g c =
    let before = c.reads.invariant in
    let feeding = before.feeding in
    let given = c.in_ok-taken.ensures.answer in
    let called = c.in_ok-taken.ensures.calls in
    let piece = take c.in_ok-taken.taken c.read_piece.new.buffer in
    let piece_len = length-take-le c.in_ok-taken.taken c.read_piece.new.buffer given.1 in
    record {
      feeding = record {
        bytes = feeding.bytes ++ piece;
        taken = Consumes-trans _ _ _ _ _ feeding.taken given.3;
        counted = omega (arith, length-append feeding.bytes piece, piece_len, feeding.counted, given.2);
        calls =
            omega (arith, length-append feeding.bytes piece, piece_len, feeding.calls, called, c.if-taken-eq0.false);
        fed = on-ok c.feed_on.result _ (sym c.is_err.ensures.value ∙ c.if-is_err.false) c.feed_on.ensures feeding.bytes
            feeding.fed;
      };
      full = search rules;
      stays = λ failed. c.in_ok-taken.ensures.stays (before.stays failed);
    }
