-- The table is compared with the definition at each of the 256 bytes, by computation.
use Rattle.std.proofs.Common.{arith, refl}
use Rattle.mpslp_decimal.proofs.TableLemmas.{holds_below, listed}
use Rattle.mpslp_types.specs.{Name.is_lp_byte, declared.names.lp.TheConstants.LP_BYTES}
use Rattle.mpslp_types.proofs.names.lp.is_lp_byte.Goals as goal

pub returns : goal.returns
unfolding holds_below
returns c = listed LP_BYTES is_lp_byte c.args.byte (omega arith) refl
