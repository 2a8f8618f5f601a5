use Rattle.std.proofs.Common.{Err, Some, refl, sym, ap, ◌∙◌, ℕ}
use Rattle.std.specs.Global.{Vec}
use Rattle.stub_link.specs.Ask.{matching, other, unreadable}
use Rattle.stub_link.specs.Reply.{matches}
use Rattle.stub_link.proofs.ReplyHeaders.{not-a-response}
use Rattle.stub_link.proofs.wire_handle.stream.stream_reply.Goals as goal

pub returns-then-is_reply-clause-reply : goal.returns-then-is_reply-clause-reply
returns-then-is_reply-clause-reply c =
    matching c.in-Ok.response (record { message = c.in-Ok.ensures.read; buffer = ap (λ (v : Vec ℕ). v.items) c.in-Ok.ensures.buffer })
    (ap (matches c.args.id (Some c.args.query.now)) (sym c.message.ensures) ∙ sym c.is_reply.ensures ∙ c.if-is_reply.true) c.whole_reply.ensures

pub returns-else-is_reply-clause-reply : goal.returns-else-is_reply-clause-reply
returns-else-is_reply-clause-reply c =
    other c.in-Ok.response.message c.in-Ok.ensures.read (ap (matches c.args.id (Some c.args.query.now)) (sym c.message.ensures) ∙ sym c.is_reply.ensures ∙ c.if-is_reply.false) refl

pub returns-in_default : goal.returns-in_default
returns-in_default c = record {
  reply = unreadable (λ m reads. c.messages_decode_unambiguously.ensures.not_refused c.args.bytes.items m c.in-Err-Decode.error reads (c.from_buffer.ensures.refused c.in-Err-Decode.error (c.in-Err-Decode.is ∙ ap Err c.in-Err-Decode.field-0-is) c.in_default.not-Memory)) refl;
  failed = λ old new. tt;
}

pub returns-in-Err-NotAResponse-clause-reply : goal.returns-in-Err-NotAResponse-clause-reply
returns-in-Err-NotAResponse-clause-reply c =
    let found = c.from_buffer.ensures.query (c.in-Err-NotAResponse.is ∙ ap Err c.in-Err-NotAResponse.field-0-is) in
    other found.0 found.1 (not-a-response c.args.id (Some c.args.query.now) c.args.bytes.items found.0 (c.messages_decode_unambiguously.ensures.same c.args.bytes.items) found found.1) refl
