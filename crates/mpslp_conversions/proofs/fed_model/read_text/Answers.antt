use Rattle.std.proofs.{Common.{arith, Ok, Err}, Math.Nat.{min-le_left, min-le_right}}
use Rattle.mpslp_conversions.proofs.FeedingLemmas.{text-of}
use Rattle.mpslp_conversions.proofs.fed_model.read_text.Goals as goal

pub returns-in-Ok-clause-answer : goal.returns-in-Ok-clause-answer
returns-in-Ok-clause-answer g c =
    let read = c.in-Ok.ensures.answer in
    let limit = c.min-limit.ensures in
    text-of g.A.Format.declares g.A.Format.first_fault _ _ _ c.min-limit.result c.args.max_bytes c.args.alloc read.0
    (Ok c.in-Ok.model) (omega (arith, limit, min-le_left c.args.max_bytes 9223372036854775807))
    (omega (arith, limit, min-le_right c.args.max_bytes 9223372036854775807)) read.1 read.2

pub returns-in-Err-File-clause-answer : goal.returns-in-Err-File-clause-answer
returns-in-Err-File-clause-answer g c =
    let read = rw c.in-Err-File.field-0-is at c.in-Err-File.ensures.answer in
    let limit = c.min-limit.ensures in
    text-of g.A.Format.declares g.A.Format.first_fault _ _ _ c.min-limit.result c.args.max_bytes c.args.alloc read.0
    (Err c.in-Err-File.fault)
    (omega (arith, limit, min-le_left c.args.max_bytes 9223372036854775807))
    (omega (arith, limit, min-le_right c.args.max_bytes 9223372036854775807)) read.1 read.2
