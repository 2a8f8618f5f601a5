use Rattle.std.proofs.Common.{◌≡◌, ◌+◌, ◌++◌, List, [], ◌∷◌, ℕ, Option, Some, None, map, option_map, Bor, sym, subst, ap, ◌∙◌}
use Rattle.stub_script.specs.ReplyLine.{ReplyContent, reply_content}
use Rattle.stub_script.specs.ReplyLines.{IsReplyLine, transport_of}
use Rattle.stub_script.specs.declared.reply_line.GivenReply.{GivenReply}
use Rattle.stub_script.proofs.ReplyLaws.{LeadsOn, ends_at_end, ends_at_fault, mapped_more, past_one_reply, past_other_line}
use Rattle.stub_script.proofs.reply_lines.read_all.Goals as goal
use Rattle.stub_script.proofs.reply_lines.read_all.Goals.{in-Some+in_ok-reply+in-Some-2+in_ok-push-in-Some-2, in_default}

pub returns-in-None-clause-refused : goal.returns-in-None-clause-refused
returns-in-None-clause-refused c = λ other.
    let text = c.as_bytes-line.result.now in
    let transport = c.in-Some.transport in
    ends_at_fault c.args.types c.args.all.now c.loop-i.i (record { ref_ptr = (0, 0); now = [] }) (map reply_content c.loop-i.replies.items)
    c.loop-i-test.true text c.as_bytes-line.ensures.value c.loop-i.invariant transport (sym c.transport_of.ensures ∙ c.in-Some.is)
    (subst (λ (o : Option GivenReply). IsReplyLine c.args.types (c.loop-i.i + 1) transport text (option_map reply_content o)) c.in-None.is
    c.in_ok-reply.ensures)

pub loop-i-preserved : goal.loop-i-preserved
loop-i-preserved c =
    let text = c.as_bytes-line.result.now in
    elim c.match-transport_of.branch [
      | in-Some+in_ok-reply+in-Some-2+in_ok-push-in-Some-2 w ↦
          let transport = w.in-Some.transport in
          let reply = w.in-Some-2.reply in
          let items : c.match-transport_of.replies.items ≡ c.loop-i.replies.items ++ reply ∷ [] =
          ap (λ v. v.items) w.replies-is ∙ w.in_ok-push-in-Some-2.ensures.items in
          subst (λ (replies : List ReplyContent). LeadsOn c.args.types c.args.all.now (c.loop-i.i + 1) replies)
          (sym (ap (map reply_content) items ∙ mapped_more reply_content c.loop-i.replies.items reply))
          (past_one_reply c.args.types c.args.all.now c.loop-i.i (record { ref_ptr = (0, 0); now = [] })
          (map reply_content c.loop-i.replies.items) c.loop-i-test.true text c.as_bytes-line.ensures.value c.loop-i.invariant transport
          (reply_content reply) (sym c.transport_of.ensures ∙ w.in-Some.is)
          (subst (λ (o : Option GivenReply). IsReplyLine c.args.types (c.loop-i.i + 1) transport text (option_map reply_content o)) w.in-Some-2.is
          w.in_ok-reply.ensures))
      | in_default w ↦
          let items : c.match-transport_of.replies.items ≡ c.loop-i.replies.items = ap (λ v. v.items) w.replies-is in
          subst (λ (replies : List ReplyContent). LeadsOn c.args.types c.args.all.now (c.loop-i.i + 1) replies)
          (sym (ap (map reply_content) items))
          (past_other_line c.args.types c.args.all.now c.loop-i.i (record { ref_ptr = (0, 0); now = [] })
          (map reply_content c.loop-i.replies.items) c.loop-i-test.true text c.as_bytes-line.ensures.value c.loop-i.invariant
          (sym c.transport_of.ensures ∙ w.in_default.is))
    ]

pub returns-clause-ok : goal.returns-clause-ok
returns-clause-ok c =
    ends_at_end c.args.types c.args.all.now c.loop-i.i (map reply_content c.loop-i.replies.items) c.loop-i-test.false c.loop-i.invariant
