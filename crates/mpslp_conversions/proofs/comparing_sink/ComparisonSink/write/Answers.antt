use Rattle.std.proofs.Common.{arith}
use Rattle.mpslp_conversions.proofs.ComparedLemmas.{took-more, took-other}
use Rattle.mpslp_conversions.proofs.comparing_sink.ComparisonSink.write.Goals as goal

pub returns-in-Some-clause-bytes : goal.returns-in-Some-clause-bytes
returns-in-Some-clause-bytes = grind (arith, took-more)

pub returns-in-None-clause-bytes : goal.returns-in-None-clause-bytes
returns-in-None-clause-bytes = grind (arith, took-other)
