-- How connections are accepted, one after another.
use Rattle.std.proofs.Common.{◌≡◌, ◌∙◌, ◌+◌, ◌<◌, ◌≤◌, ◌∷◌, ◌++◌, [], ℕ, List, false, true, refl, subst}
use Rattle.dns_sockets.specs.Events.{Led, Performs}
use Rattle.dns_sockets.specs.Listener.{Accepts, AcceptsAll, AcceptsAt, Attempts, IsAttempt}
use Rattle.dns_sockets.specs.Listener.Accepts.{ends_with, has_share}
use Rattle.dns_sockets.specs.Listener.AcceptsAll.{no_listener, one_listener}
use Rattle.dns_sockets.specs.Listener.Attempts.{no_attempt, one_attempt}
use Rattle.dns_sockets.specs.StreamTable.{KeepsTurns}
use Rattle.dns_sockets.specs.World.{WorldEvent}
use Rattle.dns_sockets.specs.declared.listener.Listener.{Listener}
use Rattle.dns_sockets.specs.declared.stream_table.StreamTable.{StreamTable}
use Rattle.dns_sockets.proofs.TraceLaws.{led_both}

pub turns_both : (a b c : StreamTable) → KeepsTurns a b → KeepsTurns b c → KeepsTurns a c
turns_both a b c first next = record { capacity = next.capacity ∙ first.capacity; first = next.first ∙ first.first }

pub turns_kept : (a : StreamTable) → KeepsTurns a a
turns_kept a = record { capacity = refl; first = refl }

module _ {S : Type 0} (performs : S → WorldEvent → S → Type 0) where
  -- one more event
  pub event_more : (w w1 w2 : S) (es : List WorldEvent) (e : WorldEvent) → Led performs w es w1 → performs w1 e w2 → Led performs w (es ++ e ∷ []) w2
  event_more w w1 w2 es e led step = led_both performs w w1 w2 es (e ∷ []) led (w2, (step, refl))

module _ {S : Type 0} (performs : S → WorldEvent → S → Type 0) (index now : ℕ) (old : Listener) (table : StreamTable) where
  -- so many attempts lead from a state to another
  abbrev pub Tried : S → S → ℕ → Listener → StreamTable → Type 0
  Tried w w1 count new after = Performs performs w w1 (λ es. Attempts index now old table count es new after)

  pub none_tried : (w : S) → Tried w w 0 old table
  none_tried w = record { events = []; led = refl; holds = no_attempt }

  -- another one follows
  pub one_tried : (w w1 w2 : S) (count : ℕ) (mid new : Listener) (between after : StreamTable) → Tried w w1 count mid between
      → Performs performs w1 w2 (λ es. IsAttempt index now mid between es new after true) → Tried w w2 (count + 1) new after
  one_tried w w1 w2 count mid new between after before more = record {
    events = before.events ++ more.events;
    led = led_both performs w w1 w2 before.events more.events before.led more.led;
    holds = one_attempt count before.events more.events mid new between after before.holds more.holds;
  }

  -- it is the last
  pub last_tried : (w w1 w2 : S) (count : ℕ) (mid new : Listener) (between after : StreamTable) → old.ready_at ≤ now → count < 64 → Tried w w1 count mid between
      → Performs performs w1 w2 (λ es. IsAttempt index now mid between es new after false) → Performs performs w w2 (λ es. Accepts index now old table es new after)
  last_tried w w1 w2 count mid new between after ready few before more = record {
    events = before.events ++ more.events;
    led = led_both performs w w1 w2 before.events more.events before.led more.led;
    holds = ends_with ready count before.events more.events mid between few before.holds more.holds refl;
  }

  -- there are as many as there may be
  pub all_tried : (w w1 : S) (count : ℕ) (new : Listener) (after : StreamTable) → old.ready_at ≤ now → count ≡ 64 → Tried w w1 count new after
      → Performs performs w w1 (λ es. Accepts index now old table es new after)
  all_tried w w1 count new after ready all before = record {
    events = before.events;
    led = before.led;
    holds = has_share ready (subst (λ (n : ℕ). Attempts index now old table n before.events new after) all before.holds);
  }

module _ {S : Type 0} (performs : S → WorldEvent → S → Type 0) (now : ℕ) (old : List Listener) (table : StreamTable) where
  -- so many listeners were asked
  abbrev pub Asked : S → S → ℕ → List Listener → StreamTable → Type 0
  Asked w w1 count new after = Performs performs w w1 (λ es. AcceptsAll now old table count es new after)

  pub none_asked : (w : S) → Asked w w 0 old table
  none_asked w = record { events = []; led = refl; holds = no_listener }

  pub one_asked : (w w1 w2 : S) (count : ℕ) (mid new : List Listener) (between after : StreamTable) → Asked w w1 count mid between
      → Performs performs w1 w2 (λ es. AcceptsAt count now mid between es new after) → Asked w w2 (count + 1) new after
  one_asked w w1 w2 count mid new between after before more = record {
    events = before.events ++ more.events;
    led = led_both performs w w1 w2 before.events more.events before.led more.led;
    holds = one_listener count before.events more.events mid new between after before.holds more.holds;
  }
