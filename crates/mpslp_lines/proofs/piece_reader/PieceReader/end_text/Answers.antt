use Rattle.std.proofs.Common.{sym, ◌∙◌}
use Rattle.mpslp_lines.proofs.PieceLemmas.{line-ends, longer-line, refuses-text, whole-after, whole-ended}
use Rattle.mpslp_lines.proofs.piece_reader.PieceReader.end_text.Goals as goal

pub returns-then-is_at_end : goal.returns-then-is_at_end
returns-then-is_at_end g c =
    let r = g.L.ReadLines in
    let laws = g.met.L.ReadLines in
    whole-after _ r.at_end laws.after_end _ (sym c.is_at_end.ensures ∙ c.if-is_at_end.true)

pub returns-in-Some : goal.returns-in-Some
returns-in-Some g c =
    let r = g.L.ReadLines in
    let laws = g.met.L.ReadLines in
    let old = c.args.self.now in
    line-ends _ r.at_end r.lines_fault _ laws.fault_is_first old
    (record { lines = c.read_one.new.reader; open_line = old.open_line }) _ _ c.requires
    (sym c.is_at_end.ensures ∙ c.if-is_at_end.false) (λ none. let both =
    sym (c.is_empty.ensures.1 none) ∙ c.if-is_empty.false in cc) c.in-Some.ensures c.read_one.ensures

pub returns-in-None : goal.returns-in-None
returns-in-None g c =
    let r = g.L.ReadLines in
    let laws = g.met.L.ReadLines in
    refuses-text _ r.at_end r.lines_fault _ laws.fault_is_first _ _ c.requires (sym c.is_at_end.ensures ∙ c.if-is_at_end.false)
    (λ none. let both = sym (c.is_empty.ensures.1 none) ∙ c.if-is_empty.false in cc)
    (λ line kept. c.refuse_long.ensures line (longer-line line (c.in-None.ensures line kept)))

pub returns-then-is_empty : goal.returns-then-is_empty
returns-then-is_empty g c =
    let r = g.L.ReadLines in
    whole-ended _ r.at_end _ (sym c.is_at_end.ensures ∙ c.if-is_at_end.false) (c.is_empty.ensures.0 c.if-is_empty.true)
