use Rattle.mpslp_mps.proofs.{Prelude.{sym, ◌∙◌}, FedLemmas.{line-too_long, line-bad_byte, line-comment, line-outside}}
use Rattle.mpslp_mps.proofs.read_line.read_line.Goals as goal

pub returns-then-not-has_legal_length-clause-answers : goal.returns-then-not-has_legal_length-clause-answers
returns-then-not-has_legal_length-clause-answers c = line-too_long c.args.context.now c.args.builder.now.draft c.args.line.now
    (sym c.has_legal_length.ensures ∙ c.if-not-has_legal_length.true)

pub returns-then-is_comment-clause-answers : goal.returns-then-is_comment-clause-answers
returns-then-is_comment-clause-answers c = line-comment c.args.context.now c.args.builder.now.draft c.args.line.now
    (sym c.has_legal_length.ensures ∙ c.if-not-has_legal_length.false) (sym c.is_comment.ensures ∙ c.if-is_comment.true)

pub returns-then-not-are_legal_bytes-clause-answers : goal.returns-then-not-are_legal_bytes-clause-answers
returns-then-not-are_legal_bytes-clause-answers c = line-bad_byte c.args.context.now c.args.builder.now.draft c.args.line.now
    (sym c.has_legal_length.ensures ∙ c.if-not-has_legal_length.false) (line-outside c.args.line.now
    (sym c.is_comment.ensures ∙ c.if-is_comment.false) ∙ sym c.are_legal_bytes.ensures ∙ c.if-not-are_legal_bytes.true)
