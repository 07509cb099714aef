use Rattle.std.proofs.Common.{refl, sym, subst, [], Bool, true}
use Rattle.mpslp_io.{specs.TextBuffer.{buffer_state, HasPut}, proofs.BufferLemmas.{HasPut-sent, HasPut-failed}}
use Rattle.mpslp_io.proofs.text_buffer.Sent.send.Goals as goal

pub returns-in-Ok : goal.returns-in-Ok
returns-in-Ok g c waits first text header =
    let sink = g.W.Sink in
    let sent = c.args.self.now in
    subst (λ (b : Bool). HasPut sink.holds sink.failed sink.count first c.args.sink.now
    (buffer_state waits c.args.piece.now sent.taken b) text header
    → HasPut sink.holds sink.failed sink.count first c.put_all.new.sink (buffer_state waits [] c.put_all.new.tally b) text header)
    (sym c.if-self.false)
    (λ h. HasPut-sent sink.holds sink.failed sink.count first c.args.sink.now c.put_all.new.sink text header
    c.args.piece.now sent.taken c.put_all.new.tally waits h
    c.in-Ok.ensures.written c.in-Ok.ensures.tally c.in-Ok.ensures.calls c.in-Ok.ensures.stays
    (c.in-Ok.ensures.works refl) (λ none. (c.in-Ok.ensures.nothing none).1))

pub returns-in-Err : goal.returns-in-Err
returns-in-Err g c waits first text header =
    let sink = g.W.Sink in
    let sent = c.args.self.now in
    subst (λ (b : Bool). HasPut sink.holds sink.failed sink.count first c.args.sink.now
    (buffer_state waits c.args.piece.now sent.taken b) text header
    → HasPut sink.holds sink.failed sink.count first c.put_all.new.sink (buffer_state waits [] c.put_all.new.tally true)
    text header) (sym c.if-self.false)
    (λ h. HasPut-failed sink.holds sink.failed sink.count first c.args.sink.now c.put_all.new.sink text header
    c.args.piece.now sent.taken c.put_all.new.tally waits h
    c.in-Err.ensures.taken c.in-Err.ensures.calls (c.in-Err.ensures.fails refl))
