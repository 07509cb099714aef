-- The table is compared with the definition at each of the 256 bytes, by computation.
use Rattle.std.proofs.Common.{arith, refl}
use Rattle.mpslp_decimal.proofs.TableLemmas.{holds_below, listed}
use Rattle.mpslp_lp_tokens.specs.{Token.begins_word, declared.scan.TheConstants.FIRST_BYTES_OF_WORDS}
use Rattle.mpslp_lp_tokens.proofs.scan.is_first_of_word.Goals as goal

pub returns : goal.returns
unfolding holds_below
returns c = listed FIRST_BYTES_OF_WORDS begins_word c.args.byte (omega arith) refl
