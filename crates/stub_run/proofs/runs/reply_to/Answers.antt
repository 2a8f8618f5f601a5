use Rattle.std.proofs.Common.{ℕ, List, refl, sym, subst}
use Rattle.dns_names.specs.Parse.{name_of_text}
use Rattle.dns_text.specs.Address.{IsTextOf}
use Rattle.stub_core.specs.Resolver.{ResolvesHost, with_handle}
use Rattle.dns_messages.specs.declared.message.Message.{Message}
use Rattle.stub_link.specs.Request.{IsUpdate}
use Rattle.stub_link.specs.WireHandle.{Asks, SendsUpdate}
use Rattle.stub_link.specs.declared.wire_handle.WireHandle.{WireHandle}
use Rattle.stub_run.specs.Run.{Replies}
use Rattle.stub_run.specs.declared.event.Action.{Action}
use Rattle.stub_run.specs.declared.report.EventReply.TheVariants as replies
use Rattle.stub_run.proofs.runs.reply_to.Goals as goal

pub returns-in-Lookup : goal.returns-in-Lookup
returns-in-Lookup g c =
    subst (λ (a : Action). Replies (Asks g.L.Link.sends g.L.Link.receives g.L.Link.streams g.L.Link.failure_count) (SendsUpdate g.L.Link.sends g.L.Link.receives g.L.Link.streams g.L.Link.failure_count) c.args.resolver.now c.args.event.now.at a (replies.Lookup c.lookup.result) c.lookup.new.self)
    (sym c.in-Lookup.is) c.lookup.ensures

pub returns-in-LookupIp : goal.returns-in-LookupIp
returns-in-LookupIp g c =
    let old = c.args.resolver.now in
    let new = c.lookup_ip.new.self in
    subst (λ (a : Action). Replies (Asks g.L.Link.sends g.L.Link.receives g.L.Link.streams g.L.Link.failure_count) (SendsUpdate g.L.Link.sends g.L.Link.receives g.L.Link.streams g.L.Link.failure_count) old c.args.event.now.at a (replies.LookupIp c.lookup_ip.result) new) (sym c.in-LookupIp.is)
    (subst (λ (text : List ℕ). ResolvesHost (Asks g.L.Link.sends g.L.Link.receives g.L.Link.streams g.L.Link.failure_count) c.args.event.now.at (IsTextOf text) (name_of_text text) old c.lookup_ip.result new)
    c.as_str.ensures.value c.lookup_ip.ensures)

pub returns-in-Update : goal.returns-in-Update
returns-in-Update g c =
    let old = c.args.resolver.now in
    let sent : SendsUpdate g.L.Link.sends g.L.Link.receives g.L.Link.streams g.L.Link.failure_count c.handle_mut.result.now
    c.deref-in-Update.result.now c.send_update.result c.send_update.new.self = c.send_update.ensures in
    subst (λ (a : Action). Replies (Asks g.L.Link.sends g.L.Link.receives g.L.Link.streams g.L.Link.failure_count) (SendsUpdate g.L.Link.sends g.L.Link.receives g.L.Link.streams g.L.Link.failure_count) old c.args.event.now.at a (replies.Update c.send_update.result) (with_handle old c.send_update.new.self))
    (sym c.in-Update.is)
    (record {
      sound = subst IsUpdate c.deref.ensures c.message-message.ensures.update;
      sent = subst (λ (h : WireHandle _). (SendsUpdate g.L.Link.sends g.L.Link.receives g.L.Link.streams g.L.Link.failure_count) h c.in-Update.update.value c.send_update.result c.send_update.new.self) c.handle_mut.ensures.value
          (subst (λ (m : Message). (SendsUpdate g.L.Link.sends g.L.Link.receives g.L.Link.streams g.L.Link.failure_count) c.handle_mut.result.now m c.send_update.result c.send_update.new.self) c.deref-in-Update.ensures sent);
      rest = refl;
    })
