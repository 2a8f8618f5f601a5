use Rattle.std.proofs.Common.{◌≡◌, Err, false, ap, subst, sym, ◌∙◌}
use Rattle.std.specs.Option.{option_copied}
use Rattle.dns_messages.specs.Header.{peeked_metadata}
use Rattle.dns_messages.specs.declared.message.Message.{Message}
use Rattle.stub_link.specs.Reply.{has_reply_header, matches}
use Rattle.stub_link.proofs.ReplyHeaders.{not-headed, not-a-response}
use Rattle.stub_link.proofs.wire_handle.reply.reply_in.Goals as goal

pub returns-then-not-has_reply_header-clause-found :
    goal.returns-then-not-has_reply_header-clause-found
returns-then-not-has_reply_header-clause-found c = λ m reads.
    not-headed c.headers_are_peeked.ensures c.args.id (option_copied c.args.question) c.args.bytes.items m (ap (λ bytes. has_reply_header c.args.id (option_copied c.args.question) (peeked_metadata bytes)) (sym c.as_slice.ensures.value) ∙ sym c.has_reply_header.ensures ∙ c.if-not-has_reply_header.true) reads

pub returns-in_default-clause-found : goal.returns-in_default-clause-found
returns-in_default-clause-found c = λ m reads.
    absurd (c.messages_decode_unambiguously.ensures.not_refused c.args.bytes.items m c.in-Err-Decode.error reads (c.from_buffer.ensures.refused c.in-Err-Decode.error (c.in-Err-Decode.is ∙ ap Err c.in-Err-Decode.field-0-is) c.in_default.not-Memory))

pub returns-in-Err-NotAResponse-clause-found : goal.returns-in-Err-NotAResponse-clause-found
returns-in-Err-NotAResponse-clause-found c = λ m reads.
    not-a-response c.args.id (option_copied c.args.question) c.args.bytes.items m (c.messages_decode_unambiguously.ensures.same c.args.bytes.items)
    (c.from_buffer.ensures.query (c.in-Err-NotAResponse.is ∙ ap Err c.in-Err-NotAResponse.field-0-is)) reads

pub returns-else-is_reply-clause-found : goal.returns-else-is_reply-clause-found
returns-else-is_reply-clause-found c = λ m reads.
    subst (λ (read : Message). matches c.args.id (option_copied c.args.question) read ≡ false) (c.messages_decode_unambiguously.ensures.same c.args.bytes.items c.in-Ok.response.message m c.in-Ok.ensures.read reads)
    (ap (matches c.args.id (option_copied c.args.question)) (sym c.message.ensures) ∙ sym c.is_reply.ensures ∙ c.if-is_reply.false)
