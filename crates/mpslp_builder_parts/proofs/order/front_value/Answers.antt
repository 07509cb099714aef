use Rattle.std.proofs.Common.{arith, ◌∙◌}
use Rattle.mpslp_builder_parts.proofs.FirstBytes.{front-same, be-front}
use Rattle.mpslp_builder_parts.proofs.order.front_value.Goals as goal

pub returns-clause-value : goal.returns-clause-value
returns-clause-value c =
    c.from_be_bytes.ensures ∙ be-front c.first_bytes.result ∙ front-same 8 c.first_bytes.result c.args.name.now
    c.first_bytes.ensures

pub returns-clause-bytes : goal.returns-clause-bytes
returns-clause-bytes c = λ i. omega (arith, c.type_inv.name i)
