use Rattle.dns_messages.proofs.message.Message.emit_whole.Goals as goal

pub returns-clause-encodes : goal.returns-clause-encodes
returns-clause-encodes c =
    let e = c.in_ok-emit.ensures in
    record { form_is = e.bytes; decodes = e.decodes; within = e.within; room = e.room }
