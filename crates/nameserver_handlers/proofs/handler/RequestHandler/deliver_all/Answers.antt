use Rattle.std.proofs.Common.{◌∙◌, [], arith, get_or, map, refl}
use Rattle.std.specs.declared.net.socket_addr.SocketAddr.TheVariants as SocketAddr
use Rattle.dns_faults.specs.declared.rules.fault.Transport.TheVariants as Transport
use Rattle.dns_sockets.specs.declared.handler.Request.{Request}
use Rattle.std.specs.Vec.Iter.{into_iter_items}
use Rattle.dns_sockets.specs.Handler.{request_content}
use Rattle.nameserver_handlers.specs.Handling.{keeping, kept_content, recorded_bytes}
use Rattle.nameserver_handlers.proofs.HandlingLaws.{delivered_as, no_items, rest_more, rest_none, rest_unasked}
use Rattle.nameserver_handlers.proofs.handler.RequestHandler.deliver_all.Goals as goal

pub returns-clause-delivered : goal.returns-clause-delivered
returns-clause-delivered g c =
    let s = c.args.self.now in
    rest_none (kept_content (keeping s)) s.settings.transfers s.settings.limit (map request_content c.args.requests.now) (map recorded_bytes c.args.replies.items)
    c.loop-recorded.rest.now (into_iter_items c.loop-recorded.recorded-iterator) c.loop-recorded.deliveries.items
    (no_items (into_iter_items c.loop-recorded.recorded-iterator) (omega (arith, c.in-None.ensures.steps.0, c.loop-recorded.recorded-iterator.rest.ok))) c.loop-recorded.invariant.delivered

pub returns-in_default-clause-delivered : goal.returns-in_default-clause-delivered
returns-in_default-clause-delivered g c =
    let s = c.args.self.now in
    rest_unasked (kept_content (keeping s)) s.settings.transfers s.settings.limit (map request_content c.args.requests.now) (map recorded_bytes c.args.replies.items)
    c.loop-recorded.rest.now (into_iter_items c.loop-recorded.recorded-iterator) c.loop-recorded.deliveries.items c.in_default.len_below c.loop-recorded.invariant.delivered

-- what an index past the end would be
abbrev no_request : Request
no_request = record {
  bytes = record { ref_ptr = (0, 0); now = [] };
  peer = SocketAddr.V4 (record { ip = record { octets = [] }; port = 0 });
  transport = Transport.Datagram;
  moment = 0;
}

pub loop-recorded-preserved : goal.loop-recorded-preserved
loop-recorded-preserved g c =
    let s = c.args.self.now in
    let inv = c.loop-recorded.invariant in
    let done = c.in_ok-logged.ensures in
    record {
      delivered = rest_more (kept_content (keeping s)) s.settings.transfers s.settings.limit (map request_content c.args.requests.now) (map recorded_bytes c.args.replies.items)
          c.loop-recorded.rest.now _ no_request (into_iter_items c.loop-recorded.recorded-iterator) (into_iter_items c.next.new.self) c.in-Some.recorded c.loop-recorded.deliveries.items c.push.new.self.items c.in_ok-logged.field-0
          c.in-len1-up.len_at_least refl c.in-Some.ensures.steps.0 c.in_ok-push.ensures.items
          (delivered_as (keeping c.loop-recorded.self) (keeping s) (request_content (get_or c.loop-recorded.rest.now 0 no_request)) (recorded_bytes c.in-Some.recorded) c.in_ok-logged.field-0 inv.kept done.delivered)
          inv.delivered;
      kept = done.kept ∙ inv.kept;
    }
