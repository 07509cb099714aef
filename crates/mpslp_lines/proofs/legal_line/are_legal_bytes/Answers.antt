-- The set is compared with the definition at each of the 256 bytes, by computation.
use Rattle.std.proofs.Common.{refl, sym}
use Rattle.mpslp_decimal.proofs.TableLemmas.{holds_below}
use Rattle.mpslp_lines.specs.{FaultTests.is_legal_byte, declared.legal_line.TheConstants.LEGAL}
use Rattle.mpslp_types.proofs.ByteSetLemmas.{members-pass}
use Rattle.mpslp_lines.proofs.legal_line.are_legal_bytes.Goals as goal

pub returns-then-has_all : goal.returns-then-has_all
unfolding holds_below
returns-then-has_all c = sym (members-pass LEGAL is_legal_byte refl refl c.args.text.now (c.has_all.ensures c.if-has_all.true))
