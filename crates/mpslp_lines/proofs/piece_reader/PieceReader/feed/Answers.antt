use Rattle.std.{proofs.Common.{[], append_assoc, refl, sym, ◌++◌, ◌∙◌, ◌∷◌}, specs.Prelude.Ok}
use Rattle.mpslp_lines.proofs.PieceLemmas.{after-fed, ends-feed, refuses-after, refuses-more, then-feeds}
use Rattle.mpslp_lines.proofs.piece_reader.PieceReader.feed.Goals as goal

pub returns-then-is_at_end : goal.returns-then-is_at_end
returns-then-is_at_end g c =
    let r = g.L.ReadLines in
    let laws = g.met.L.ReadLines in
    λ bytes fed. after-fed r.has_read r.at_end laws.after_end c.args.self.now c.args.piece.now bytes (sym c.is_at_end.ensures
    ∙ c.if-is_at_end.true) fed

pub returns-in_err-keep : goal.returns-in_err-keep
returns-in_err-keep g c =
    let r = g.L.ReadLines in
    let laws = g.met.L.ReadLines in
    let old = c.args.self.now in
    let front = c.in-Some.end.now in
    let rest = c.in-Some.rest.now in
    let error = c.in_err-keep.field-0.0 in
    ends-feed r.has_read r.at_end r.lines_fault old c.keep-2.new.self c.args.piece.now error c.from_residual.result
    c.from_residual.ensures.1
    (refuses-more r.has_read r.at_end r.lines_fault laws.fault_stays old front (10 ∷ rest) c.args.piece.now error
    (sym (append_assoc front (10 ∷ []) rest) ∙ c.in-Some.ensures.1) c.in_err-keep.ensures.answer)

pub returns-in_err-end_line : goal.returns-in_err-end_line
returns-in_err-end_line g c =
    let r = g.L.ReadLines in
    let laws = g.met.L.ReadLines in
    let old = c.args.self.now in
    let front = c.in-Some.end.now in
    let error = c.in_err-end_line.field-0.0 in
    ends-feed r.has_read r.at_end r.lines_fault old c.end_line.new.self c.args.piece.now error
    c.from_residual-in_err-end_line.result c.from_residual-in_err-end_line.ensures.1
    (refuses-more r.has_read r.at_end r.lines_fault laws.fault_stays old (front ++ 10 ∷ []) c.in-Some.rest.now
    c.args.piece.now error c.in-Some.ensures.1
    (refuses-after r.has_read r.at_end r.lines_fault old c.keep-2.new.self front (10 ∷ []) (front ++ 10 ∷ []) error refl
    c.in_ok-keep.ensures.answer c.in_err-end_line.ensures.answer))

pub returns-then-is_at_end-2 : goal.returns-then-is_at_end-2
returns-then-is_at_end-2 g c =
    let r = g.L.ReadLines in
    let laws = g.met.L.ReadLines in
    let old = c.args.self.now in
    let front = c.in-Some.end.now in
    let rest = c.in-Some.rest.now in
    let ended = c.end_line.new.self in
    then-feeds r.has_read r.at_end r.lines_fault old ended ended (front ++ 10 ∷ []) rest c.args.piece.now (Ok tt)
    c.in-Some.ensures.1 (then-feeds r.has_read r.at_end r.lines_fault old c.keep-2.new.self ended front (10 ∷ [])
    (front ++ 10 ∷ []) (Ok tt) refl c.in_ok-keep.ensures.answer c.in_ok-end_line.ensures.answer)
    (λ bytes fed. after-fed r.has_read r.at_end laws.after_end ended rest bytes
    (sym c.is_at_end-2.ensures ∙ c.if-is_at_end-2.true) fed)

pub returns : goal.returns
returns g c =
    let r = g.L.ReadLines in
    let old = c.args.self.now in
    let front = c.in-Some.end.now in
    let ended = c.end_line.new.self in
    then-feeds r.has_read r.at_end r.lines_fault old ended c.feed_lines-2.new.self (front ++ 10 ∷ []) c.in-Some.rest.now
    c.args.piece.now c.feed_lines-2.result c.in-Some.ensures.1
    (then-feeds r.has_read r.at_end r.lines_fault old c.keep-2.new.self ended front (10 ∷ []) (front ++ 10 ∷ []) (Ok tt) refl
    c.in_ok-keep.ensures.answer c.in_ok-end_line.ensures.answer) c.feed_lines-2.ensures
