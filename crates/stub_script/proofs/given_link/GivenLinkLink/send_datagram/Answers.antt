use Rattle.std.proofs.Common.{◌≡◌, ℕ, List, Option, Some, None, length, refl, ap, sym, subst, ◌∙◌}
use Rattle.std.proofs.lemmas.Result.{err_from_is_err_and}
use Rattle.std.specs.Option.{option_copied}
use Rattle.stub_link.specs.trace.RequestNote.{ReadsRequest}
use Rattle.stub_script.specs.GivenLink.{answer_to, messages_wait, no_memory_to_send, sent_by_link}
use Rattle.stub_script.specs.declared.reply_line.GivenReply.{GivenReply}
use Rattle.stub_script.specs.declared.reply_line.ReplyTransport.TheVariants.{Datagram}
use Rattle.stub_script.proofs.GivenLaws.{long_if_refused, long_if_some}
use Rattle.stub_script.proofs.given_link.GivenLinkLink.send_datagram.Goals as goal

pub returns-in_err-request-clause-sends : goal.returns-in_err-request-clause-sends
returns-in_err-request-clause-sends g c =
    let left = err_from_is_err_and c.from_residual.result c.from_residual.ensures.1 in
    rw (left.1, left.2) (no_memory_to_send (long_if_refused (length c.args.bytes.now) c.read.result _ c.read.ensures.short c.in_err-request.was) refl refl)

pub returns-in_default-clause-sends : goal.returns-in_default-clause-sends
returns-in_default-clause-sends g c =
    sent_by_link (None, subst (ReadsRequest c.args.bytes.now) c.in_default.is c.in_ok-request.ensures.read, refl) c.send_datagram.ensures.sends refl

pub returns-in_err-push_all-in-Some-answer_to-clause-sends : goal.returns-in_err-push_all-in-Some-answer_to-clause-sends
returns-in_err-push_all-in-Some-answer_to-clause-sends g c =
    let left = err_from_is_err_and c.from_residual-in_err-push_all-in-Some-answer_to.result
    c.from_residual-in_err-push_all-in-Some-answer_to.ensures.1 in
    rw (left.1, left.2) (no_memory_to_send
    (long_if_some (length c.args.bytes.now) c.read.result c.in_ok-request.field-0 c.in-Some.request c.read.ensures.short c.in_ok-request.was c.in-Some.is)
    c.in_err-push_all-in-Some-answer_to.ensures.err refl)

pub returns-in-Some-answer_to-clause-sends : goal.returns-in-Some-answer_to-clause-sends
returns-in-Some-answer_to-clause-sends g c =
    messages_wait c.in-Some.request c.in-Some-answer_to.messages.now
    (record {
      reads = subst (ReadsRequest c.args.bytes.now) c.in-Some.is c.in_ok-request.ensures.read;
      answer =
          sym (subst (λ (replies : List GivenReply). option_copied c.answer_to.result ≡ answer_to c.args.self.now.line Datagram c.in-Some.request replies)
          c.as_slice-replies.ensures.value c.answer_to.ensures)
          ∙ ap option_copied c.in-Some-answer_to.is;
    })
    c.in_ok-push_all-in-Some-answer_to.ensures.ok refl

pub returns-clause-sends : goal.returns-clause-sends
returns-clause-sends g c =
    sent_by_link (
      Some c.in-Some.request,
      subst (ReadsRequest c.args.bytes.now) c.in-Some.is c.in_ok-request.ensures.read,
      sym (subst (λ (replies : List GivenReply). option_copied c.answer_to.result ≡ answer_to c.args.self.now.line Datagram c.in-Some.request replies)
          c.as_slice-replies.ensures.value c.answer_to.ensures)
          ∙ ap option_copied c.in-None.is,
    ) c.send_datagram-in-None.ensures.sends refl
