use Rattle.std.proofs.Common.{◌≡◌, ℕ, List, Option, Some, None, Ok, length, refl, ap, sym, subst, ◌∙◌}
use Rattle.std.proofs.lemmas.Result.{err_from_is_err_and}
use Rattle.std.specs.Option.{option_copied}
use Rattle.stub_link.specs.trace.RequestNote.{ReadsRequest}
use Rattle.stub_script.specs.GivenLink.{GivenStreams, answer_to, message_given, no_memory_to_stream, streamed_by_link}
use Rattle.stub_script.specs.declared.reply_line.GivenReply.{GivenReply}
use Rattle.stub_script.specs.declared.reply_line.ReplyTransport.TheVariants.{Stream}
use Rattle.stub_script.proofs.GivenLaws.{long_if_refused, long_if_some}
use Rattle.stub_script.proofs.given_link.GivenLinkLink.ask_stream.Goals as goal

pub returns-in_err-request-clause-streams : goal.returns-in_err-request-clause-streams
returns-in_err-request-clause-streams g c =
    let left = err_from_is_err_and c.from_residual.result c.from_residual.ensures.1 in
    rw (left.1, left.2) (no_memory_to_stream (long_if_refused (length c.args.bytes.now) c.read.result _ c.read.ensures.short c.in_err-request.was) refl)

pub returns-in_default-clause-streams : goal.returns-in_default-clause-streams
returns-in_default-clause-streams g c =
    streamed_by_link (None, subst (ReadsRequest c.args.bytes.now) c.in_default.is c.in_ok-request.ensures.read, refl) c.ask_stream.ensures.streams refl

pub returns-in_err-stream_message-in-Some-answer_to-clause-streams : goal.returns-in_err-stream_message-in-Some-answer_to-clause-streams
returns-in_err-stream_message-in-Some-answer_to-clause-streams g c =
    let left = err_from_is_err_and c.from_residual-in_err-stream_message-in-Some-answer_to.result
    c.from_residual-in_err-stream_message-in-Some-answer_to.ensures.1 in
    rw (left.1, left.2) (no_memory_to_stream
    (long_if_some (length c.args.bytes.now) c.read.result c.in_ok-request.field-0 c.in-Some.request c.read.ensures.short c.in_ok-request.was c.in-Some.is) refl)

pub returns-in-Some-answer_to-clause-streams : goal.returns-in-Some-answer_to-clause-streams
returns-in-Some-answer_to-clause-streams g c =
    subst (λ (bytes : List ℕ). GivenStreams g.L.Link.streams c.args.self.now c.args.bytes.now (Ok bytes) c.args.self.now)
    (sym c.in_ok-stream_message-in-Some-answer_to.ensures)
    (message_given c.in-Some.request c.in-Some-answer_to.messages.now
    (record {
      reads = subst (ReadsRequest c.args.bytes.now) c.in-Some.is c.in_ok-request.ensures.read;
      answer =
          sym (subst (λ (replies : List GivenReply). option_copied c.answer_to.result ≡ answer_to c.args.self.now.line Stream c.in-Some.request replies)
          c.as_slice-replies.ensures.value c.answer_to.ensures)
          ∙ ap option_copied c.in-Some-answer_to.is;
    }) refl)

pub returns-clause-streams : goal.returns-clause-streams
returns-clause-streams g c =
    streamed_by_link (
      Some c.in-Some.request,
      subst (ReadsRequest c.args.bytes.now) c.in-Some.is c.in_ok-request.ensures.read,
      sym (subst (λ (replies : List GivenReply). option_copied c.answer_to.result ≡ answer_to c.args.self.now.line Stream c.in-Some.request replies)
          c.as_slice-replies.ensures.value c.answer_to.ensures)
          ∙ ap option_copied c.in-None.is,
    ) c.ask_stream-in-None.ensures.streams refl
