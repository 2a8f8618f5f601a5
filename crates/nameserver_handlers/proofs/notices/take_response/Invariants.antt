use Rattle.std.proofs.Common.{◌≡◌, ◌<◌, ℕ, Some, false}
use Rattle.std.specs.Prelude.{slice_get}
use Rattle.dns_notify.specs.declared.notifier.follower.Follower.{Follower}
use Rattle.dns_notify.specs.notifier.Notifier.{Receives}
use Rattle.nameserver_handlers.proofs.notices.take_response.Given as goal

-- none of the first followers expects the response, and all are as they were
abbrev pub invariant-loop-place : goal.invariant-loop-place
invariant-loop-place l = record {
  same : l.followers ≡ l.initial.followers;
  none : (place : ℕ) (f : Follower) → place < l.place → slice_get l.initial.followers place ≡ Some f
      → Receives l.response.peer l.response.bytes.now f.notifier false f.notifier;
}
