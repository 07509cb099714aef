use Rattle.std.{proofs.Common.{sym, ◌∙◌}, specs.Prelude.Ok}
use Rattle.mpslp_lines.proofs.PieceLemmas.{after-fed, ends-feed, lines-fed, refuses-lines, refuses-more, then-feeds}
use Rattle.mpslp_lines.specs.declared.piece_reader.PieceReader.{PieceReader}
use Rattle.mpslp_lines.proofs.piece_reader.PieceReader.feed_lines.Goals as goal

pub returns-in_err-read_lines : goal.returns-in_err-read_lines
returns-in_err-read_lines g c =
    let r = g.L.ReadLines in
    let laws = g.met.L.ReadLines in
    let old = c.args.self.now in
    let cut = c.split_after_last_feed in
    let error = c.in_err-read_lines.field-0.0 in
    ends-feed r.has_read r.at_end r.lines_fault old
    (record { lines = c.read_lines.new.reader; open_line = old.open_line }) c.args.piece.now error
    c.from_residual.result c.from_residual.ensures.1
    (refuses-more r.has_read r.at_end r.lines_fault laws.fault_stays old cut.result.0.now cut.result.1.now
    c.args.piece.now error cut.ensures.parts
    (refuses-lines r.has_read r.at_end r.lines_fault old cut.result.0.now error c.requires.unended c.requires.anew
    cut.ensures.lines c.in_err-read_lines.ensures))

pub returns-then-is_at_end : goal.returns-then-is_at_end
returns-then-is_at_end g c =
    let r = g.L.ReadLines in
    let laws = g.met.L.ReadLines in
    let old = c.args.self.now in
    let cut = c.split_after_last_feed in
    let read : PieceReader _ = record { lines = c.read_lines.new.reader; open_line = old.open_line } in
    then-feeds r.has_read r.at_end r.lines_fault old read read cut.result.0.now cut.result.1.now c.args.piece.now
    (Ok tt) cut.ensures.parts (lines-fed r.has_read r.at_end old read cut.result.0.now c.requires.unended
    c.requires.anew c.requires.anew cut.ensures.lines c.in_ok-read_lines.ensures)
    (λ bytes fed. after-fed r.has_read r.at_end laws.after_end read cut.result.1.now bytes
    (sym c.is_at_end.ensures ∙ c.if-is_at_end.true) fed)

pub returns : goal.returns
returns g c =
    let r = g.L.ReadLines in
    let old = c.args.self.now in
    let cut = c.split_after_last_feed in
    let read : PieceReader _ = record { lines = c.read_lines.new.reader; open_line = old.open_line } in
    then-feeds r.has_read r.at_end r.lines_fault old read c.keep.new.self cut.result.0.now cut.result.1.now
    c.args.piece.now c.keep.result cut.ensures.parts
    (lines-fed r.has_read r.at_end old read cut.result.0.now c.requires.unended c.requires.anew c.requires.anew cut.ensures.lines
    c.in_ok-read_lines.ensures) c.keep.ensures.answer
