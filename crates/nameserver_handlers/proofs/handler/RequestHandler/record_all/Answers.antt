use Rattle.std.proofs.Common.{◌∙◌, List, ℕ, arith, map, subst}
use Rattle.std.specs.Vec.Iter.{into_iter_items}
use Rattle.dns_durable.specs.Changes.{reply_bytes, reply_change}
use Rattle.dns_nameserver.specs.Former.{has_changed}
use Rattle.dns_sockets.specs.Handler.{request_content}
use Rattle.nameserver_handlers.specs.Handling.{FollowsIf}
use Rattle.nameserver_handlers.proofs.HandlingLaws.{follows_more, no_items, recorded_more, records_more, records_none}
use Rattle.nameserver_handlers.proofs.handler.RequestHandler.record_all.Goals as goal

pub loop-reply-preserved : goal.loop-reply-preserved
loop-reply-preserved g c =
    let inv = c.loop-reply.invariant in
    let done = c.record.ensures in
    let items = into_iter_items c.loop-reply.reply-iterator in
    let left = into_iter_items c.next.new.self in
    let reply = c.in-Some.reply in
    record {
      bytes = recorded_more c.loop-reply.recorded.items c.push.new.self.items c.record.result items left reply (map reply_bytes c.args.replies.items) c.in_ok-push.ensures.items c.in-Some.ensures.steps.0 done.bytes inv.bytes;
      recorded = λ new more. inv.recorded new
          (records_more items left reply c.loop-reply.self.recorder.histories.items c.record.new.self.recorder.histories.items new c.in-Some.ensures.steps.0 done.recorded more);
      former = λ new more. inv.former new (follows_more c.loop-reply.self.former c.record.new.self.former (map request_content c.loop-reply.rest.now) (map request_content c.others_of-rest.result.now) items left reply new
          c.in-Some.ensures.steps.0 c.others_of-rest.ensures
          (subst (λ (bytes : List ℕ). FollowsIf (has_changed (reply_change reply)) c.loop-reply.self.former bytes c.record.new.self.former) c.first_bytes.ensures done.former) more);
      server = done.server ∙ inv.server;
      settings = done.settings ∙ inv.settings;
      faults = done.faults ∙ inv.faults;
    }

pub returns-clause-recorded : goal.returns-clause-recorded
returns-clause-recorded g c =
    let items = into_iter_items c.loop-reply.reply-iterator in
    c.loop-reply.invariant.recorded c.loop-reply.self.recorder.histories.items
    (records_none items c.loop-reply.self.recorder.histories.items (no_items items (omega (arith, c.in-None.ensures.steps.0, c.loop-reply.reply-iterator.rest.ok))))
