use Rattle.std.proofs.Common.{ap, arith, sym, ◌∙◌}
use Rattle.mpslp_lp_tokens.proofs.FrontLemmas.{byte-front, number-front, pair-front, plus-front, unknown-front, word-front}
use Rattle.mpslp_lp_tokens.specs.Token.{Front}
use Rattle.mpslp_lp_tokens.proofs.scan.front_at.Goals as goal

pub returns-then-is_first_of_word-clause-kind : goal.returns-then-is_first_of_word-clause-kind
returns-then-is_first_of_word-clause-kind c =
    ap (λ (f : Front). f.kind) (sym (word-front c.args.text.now c.word_len.result (omega (arith, c.in-len1-up.len_at_least))
    (sym c.is_first_of_word.ensures ∙ c.if-is_first_of_word.true) c.word_len.ensures.count))

pub returns-then-is_first_of_word-clause-size : goal.returns-then-is_first_of_word-clause-size
returns-then-is_first_of_word-clause-size c =
    ap (λ (f : Front). f.size) (sym (word-front c.args.text.now c.word_len.result (omega (arith, c.in-len1-up.len_at_least))
    (sym c.is_first_of_word.ensures ∙ c.if-is_first_of_word.true) c.word_len.ensures.count))

pub returns-then-first-eq43-clause-kind : goal.returns-then-first-eq43-clause-kind
returns-then-first-eq43-clause-kind c =
    ap (λ (f : Front). f.kind) (sym (plus-front c.args.text.now (omega (arith, c.in-len1-up.len_at_least)) c.if-first-eq43.true))

pub returns-then-first-eq43-clause-size : goal.returns-then-first-eq43-clause-size
returns-then-first-eq43-clause-size c =
    ap (λ (f : Front). f.size) (sym (plus-front c.args.text.now (omega (arith, c.in-len1-up.len_at_least)) c.if-first-eq43.true))

pub returns-then-number-gt0-clause-kind : goal.returns-then-number-gt0-clause-kind
returns-then-number-gt0-clause-kind c =
    ap (λ (f : Front). f.kind) (sym
    (number-front c.args.text.now c.number_len-number.result (omega (arith, c.in-len1-up.len_at_least))
    (sym c.is_first_of_word.ensures ∙ c.if-is_first_of_word.false) c.if-number-gt0.true c.number_len-number.ensures))

pub returns-then-number-gt0-clause-size : goal.returns-then-number-gt0-clause-size
returns-then-number-gt0-clause-size c =
    ap (λ (f : Front). f.size) (sym
    (number-front c.args.text.now c.number_len-number.result (omega (arith, c.in-len1-up.len_at_least))
    (sym c.is_first_of_word.ensures ∙ c.if-is_first_of_word.false) c.if-number-gt0.true c.number_len-number.ensures))

pub returns-in-Some-clause-kind : goal.returns-in-Some-clause-kind
returns-in-Some-clause-kind c =
    ap (λ (f : Front). f.kind) (sym (pair-front c.args.text.now c.number_len-number.result c.in-Some.kind
    (omega (arith, c.in-len1-up.len_at_least)) (sym c.is_first_of_word.ensures ∙ c.if-is_first_of_word.false)
    (omega (arith, c.if-number-gt0.false)) c.number_len-number.ensures (sym c.pair_at.ensures ∙ c.in-Some.is)))

pub returns-in-Some-clause-size : goal.returns-in-Some-clause-size
returns-in-Some-clause-size c =
    ap (λ (f : Front). f.size) (sym (pair-front c.args.text.now c.number_len-number.result c.in-Some.kind
    (omega (arith, c.in-len1-up.len_at_least)) (sym c.is_first_of_word.ensures ∙ c.if-is_first_of_word.false)
    (omega (arith, c.if-number-gt0.false)) c.number_len-number.ensures (sym c.pair_at.ensures ∙ c.in-Some.is)))

pub returns-in-Some-byte_kind-clause-kind : goal.returns-in-Some-byte_kind-clause-kind
returns-in-Some-byte_kind-clause-kind c =
    ap (λ (f : Front). f.kind) (sym (byte-front c.args.text.now c.number_len-number.result c.in-Some-byte_kind.kind
    (omega (arith, c.in-len1-up.len_at_least)) (sym c.is_first_of_word.ensures ∙ c.if-is_first_of_word.false)
    (omega (arith, c.if-number-gt0.false)) c.number_len-number.ensures (sym c.pair_at.ensures ∙ c.in-None.is)
    (sym c.byte_kind.ensures ∙ c.in-Some-byte_kind.is)))

pub returns-in-Some-byte_kind-clause-size : goal.returns-in-Some-byte_kind-clause-size
returns-in-Some-byte_kind-clause-size c =
    ap (λ (f : Front). f.size) (sym (byte-front c.args.text.now c.number_len-number.result c.in-Some-byte_kind.kind
    (omega (arith, c.in-len1-up.len_at_least)) (sym c.is_first_of_word.ensures ∙ c.if-is_first_of_word.false)
    (omega (arith, c.if-number-gt0.false)) c.number_len-number.ensures (sym c.pair_at.ensures ∙ c.in-None.is)
    (sym c.byte_kind.ensures ∙ c.in-Some-byte_kind.is)))

pub returns-in-None-byte_kind-clause-kind : goal.returns-in-None-byte_kind-clause-kind
returns-in-None-byte_kind-clause-kind c =
    ap (λ (f : Front). f.kind) (sym
    (unknown-front c.args.text.now c.number_len-number.result (omega (arith, c.in-len1-up.len_at_least))
    (sym c.is_first_of_word.ensures ∙ c.if-is_first_of_word.false) (omega (arith, c.if-number-gt0.false))
    c.number_len-number.ensures (sym c.pair_at.ensures ∙ c.in-None.is) (sym c.byte_kind.ensures ∙ c.in-None-byte_kind.is)))

pub returns-in-None-byte_kind-clause-size : goal.returns-in-None-byte_kind-clause-size
returns-in-None-byte_kind-clause-size c =
    ap (λ (f : Front). f.size) (sym
    (unknown-front c.args.text.now c.number_len-number.result (omega (arith, c.in-len1-up.len_at_least))
    (sym c.is_first_of_word.ensures ∙ c.if-is_first_of_word.false) (omega (arith, c.if-number-gt0.false))
    c.number_len-number.ensures (sym c.pair_at.ensures ∙ c.in-None.is) (sym c.byte_kind.ensures ∙ c.in-None-byte_kind.is)))
