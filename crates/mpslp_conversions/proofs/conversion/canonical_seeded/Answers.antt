use Rattle.std.proofs.Common.{arith}
use Rattle.mpslp_conversions.proofs.ConversionLemmas.{conversion_of}
use Rattle.mpslp_conversions.proofs.conversion.canonical_seeded.Goals as goal

pub returns-clause-answer : goal.returns-clause-answer
returns-clause-answer = grind (arith, conversion_of)

pub returns-clause-accepts : goal.returns-clause-accepts
returns-clause-accepts = grind arith

pub returns-clause-cannot_express : goal.returns-clause-cannot_express
returns-clause-cannot_express = grind arith

pub returns-clause-keeps : goal.returns-clause-keeps
returns-clause-keeps = grind arith
