-- The set is compared with the definition at each of the 256 bytes, by computation.
use Rattle.std.proofs.Common.{refl, sym}
use Rattle.mpslp_decimal.proofs.TableLemmas.{holds_below}
use Rattle.mpslp_types.specs.{Name.is_visible, declared.names.TheConstants.VISIBLE}
use Rattle.mpslp_types.proofs.ByteSetLemmas.{members-pass}
use Rattle.mpslp_types.proofs.names.has_visible_bytes.Goals as goal

pub returns-then-has_all : goal.returns-then-has_all
unfolding holds_below
returns-then-has_all c = sym (members-pass VISIBLE is_visible refl refl c.args.bytes.now (c.has_all.ensures c.if-has_all.true))
