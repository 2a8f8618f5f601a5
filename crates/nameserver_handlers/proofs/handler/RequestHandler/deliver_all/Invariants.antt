-- What is sent for the other requests is all that is still to be added.
use Rattle.std.proofs.Common.{◌≡◌, ◌++◌, List, map}
use Rattle.std.specs.Vec.Iter.{into_iter_items}
use Rattle.dns_faults.specs.declared.delivery.Delivery.{Delivery}
use Rattle.dns_sockets.specs.Handler.{request_content}
use Rattle.nameserver_handlers.specs.Handling.{AreDelivered, keeping, kept_content, recorded_bytes}
use Rattle.nameserver_handlers.proofs.handler.RequestHandler.deliver_all.Given as goal

abbrev pub invariant-loop-recorded : goal.invariant-loop-recorded
invariant-loop-recorded g l = record {
  delivered : (more : List Delivery)
      → AreDelivered (kept_content (keeping l.fn.self)) l.fn.self.settings.transfers l.fn.self.settings.limit (map request_content l.rest) (map recorded_bytes (into_iter_items l.recorded-iterator)) more
      → AreDelivered (kept_content (keeping l.fn.self)) l.fn.self.settings.transfers l.fn.self.settings.limit (map request_content l.requests) (map recorded_bytes l.fn.replies.items) (l.deliveries.items ++ more);
  kept : keeping l.self ≡ keeping l.fn.self;
}
