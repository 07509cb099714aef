use Rattle.std.proofs.Common.{refl}
use Rattle.mpslp_lines.proofs.PieceLemmas.{keep-fed}
use Rattle.mpslp_lines.proofs.piece_reader.PieceReader.keep.Goals as goal

pub returns-in-Ok-clause-answer : goal.returns-in-Ok-clause-answer
returns-in-Ok-clause-answer g c =
    let r = g.L.ReadLines in
    let old = c.args.self.now in
    keep-fed _ r.at_end old _ _ c.requires.unended c.requires.one_line refl c.in-Ok.ensures
