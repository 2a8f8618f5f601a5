-- The replies that are recorded, and those that are left, are all of these.
use Rattle.std.proofs.Common.{◌≡◌, ◌++◌, List, Option, map}
use Rattle.std.specs.Vec.Iter.{into_iter_items}
use Rattle.dns_durable.specs.Changes.{reply_bytes, reply_change}
use Rattle.dns_nameserver.specs.Former.{Former, has_changed}
use Rattle.dns_sockets.specs.Handler.{request_content}
use Rattle.dns_transfers.specs.declared.replies.zone_history.ZoneHistory.{ZoneHistory}
use Rattle.nameserver_handlers.specs.Handling.{Follows, RecordsAll, recorded_bytes}
use Rattle.nameserver_handlers.proofs.handler.RequestHandler.record_all.Given as goal

abbrev pub invariant-loop-reply : goal.invariant-loop-reply
invariant-loop-reply g l = record {
  bytes : map recorded_bytes l.recorded.items ++ map reply_bytes (into_iter_items l.reply-iterator) ≡ map reply_bytes l.fn.replies.items;
  recorded : (new : List ZoneHistory) → RecordsAll (map reply_change (into_iter_items l.reply-iterator)) l.self.recorder.histories.items new
      → RecordsAll (map reply_change l.fn.replies.items) l.fn.self.recorder.histories.items new;
  former : (new : Option Former)
      → Follows l.self.former (map request_content l.rest) (map (λ reply. has_changed (reply_change reply)) (into_iter_items l.reply-iterator)) new
      → Follows l.fn.self.former (map request_content l.requests) (map (λ reply. has_changed (reply_change reply)) l.fn.replies.items) new;
  server : l.self.server ≡ l.fn.self.server;
  settings : l.self.settings ≡ l.fn.self.settings;
  faults : l.self.faults ≡ l.fn.self.faults;
}
