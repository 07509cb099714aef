use Rattle.mpslp_types.proofs.ByteSetLemmas.{high-places, in-lanes, low-places}
use Rattle.mpslp_types.proofs.names.byte_sets.has_lanes.Goals as goal

pub swizzle-low : goal.swizzle-low
swizzle-low c = low-places c.args.set.now c.args.bytes c.fits-bytes.0 c.fits-bytes.1

pub swizzle-high : goal.swizzle-high
swizzle-high c = high-places c.args.set.now c.args.bytes c.fits-bytes.0 c.fits-bytes.1

pub returns : goal.returns
returns c = in-lanes c.args.set.now c.args.bytes c.fits-bytes.0 c.fits-bytes.1
