use Rattle.std.{proofs.Common.{[], ap, subst, ◌∙◌, ◌∷◌}, specs.Str.Lines.strip_carriage_return}
use Rattle.mpslp_lines.{proofs.PieceLemmas.{end-fed, ends-feed, longer-ended, refuses-end}, specs.LinesRead.RefusesLines}
use Rattle.mpslp_lines.proofs.piece_reader.PieceReader.end_line.Goals as goal

pub returns-in_err-read_one-in-Some-clause-answer : goal.returns-in_err-read_one-in-Some-clause-answer
returns-in_err-read_one-in-Some-clause-answer g c =
    let r = g.L.ReadLines in
    let old = c.args.self.now in
    let error = c.in_err-read_one-in-Some.field-0.0 in
    ends-feed _ r.at_end r.lines_fault old _ _ error _ c.from_residual.ensures.1
    (refuses-end _ r.at_end r.lines_fault old error c.requires.fed c.requires.unended
    (λ line kept. subst (λ l. RefusesLines r.has_read r.lines_fault old.lines (l ∷ []) error) (c.without_return.ensures
    ∙ ap strip_carriage_return (c.in-Some.ensures line kept))
    c.in_err-read_one-in-Some.ensures))

pub returns-in-None-clause-answer : goal.returns-in-None-clause-answer
returns-in-None-clause-answer g c =
    let r = g.L.ReadLines in
    refuses-end _ r.at_end r.lines_fault _ _ c.requires.fed c.requires.unended
    (λ line kept. c.refuse_long.ensures (strip_carriage_return line) (longer-ended line (c.in-None.ensures line kept)))

pub returns-clause-answer : goal.returns-clause-answer
returns-clause-answer g c =
    let r = g.L.ReadLines in
    let old = c.args.self.now in
    end-fed _ r.at_end old _ _ c.requires.unended c.in_ok-read_one-in-Some.ensures
    (λ line kept. c.without_return.ensures ∙ ap strip_carriage_return (c.in-Some.ensures line kept)) c.clear.ensures
