-- When copies are due, how many are left, and what a response ends.
use Rattle.std.proofs.Common.{◌≡◌, ◌∙◌, ◌+◌, ◌*◌, ◌&&◌, ◌||◌, ◌-◌, ℕ, zero, suc, Bool, true, false, cond, leb, List, [], ◌∷◌, map, find, length, refl, ap, sym, arith, is_some, Option, Some, None, option_map}
use Rattle.std.specs.declared.net.socket_addr.SocketAddr.{SocketAddr}
use Rattle.dns_notify.specs.declared.retries.Retries.{Retries}
use Rattle.dns_notify.specs.declared.secondary.Pending.{Pending}
use Rattle.dns_notify.specs.declared.secondary.Secondary.{Secondary}
use Rattle.dns_notify.specs.Notifications.{after_first_due, after_response, announced_to, copies_left, copies_of, due_address, earlier, first_moment, is_expected, AreOpen, IsOpen}
use Rattle.dns_notify.specs.Retries.{later, longer}
use Rattle.dns_notify.specs.Secondary.{after_pending, has_come, is_due, is_expected_from, moment_of, pending_if, same_address, with_pending}

-- ---- when copies are due

or_false : (a : Bool) → a ≡ (a || false)
or_false true = refl
or_false false = refl

come_earlier : (now : ℕ) (a b : Option ℕ) → has_come now (earlier a b) ≡ (has_come now a || has_come now b)
come_earlier now None b = refl
come_earlier now (Some a) None = or_false (leb a now)
come_earlier now (Some a) (Some b) = grind arith

pub due_first : (now : ℕ) (ss : List Secondary) → is_some (due_address now ss) ≡ has_come now (first_moment ss)
due_first now [] = refl
due_first now (s ∷ ss) = at (is_due now s) ∙ ap (λ (b : Bool). is_due now s || b) (due_first now ss) ∙ sym (come_earlier now (moment_of s) (first_moment ss))
  where
    at : (b : Bool) → is_some (option_map {T = Secondary} {U = SocketAddr} (λ t. t.address) (cond b (Some s) (find (is_due now) ss))) ≡ (b || is_some (due_address now ss))
    at true = refl
    at false = refl

-- ---- how many copies are left

all_of : (n moment interval : ℕ) → copies_of (pending_if n moment interval) ≡ n
all_of zero moment interval = refl
all_of (suc n) moment interval = refl

open_if : (n moment interval : ℕ) → IsOpen (pending_if n moment interval)
open_if zero moment interval = tt
open_if (suc n) moment interval = omega arith

pub all_left : (r : Retries) (now : ℕ) (ss : List Secondary) → copies_left (announced_to r now ss) ≡ r.copies * length ss
all_left r now [] = omega arith
all_left r now (s ∷ ss) = grind (arith, all_of r.copies now r.first_interval, all_left r now ss)

pub announced_open : (r : Retries) (now : ℕ) (ss : List Secondary) → AreOpen (announced_to r now ss)
announced_open r now [] = tt
announced_open r now (s ∷ ss) = (open_if r.copies now r.first_interval, announced_open r now ss)

pending_open : (r : Retries) (now : ℕ) (p : Option Pending) → IsOpen (after_pending r now p)
pending_open r now None = tt
pending_open r now (Some p) = open_if (p.copies_left - 1) (later now p.interval) (longer r p.interval)

pub sent_open : (r : Retries) (now : ℕ) (ss : List Secondary) → AreOpen ss → AreOpen (after_first_due r now ss)
sent_open r now [] all = tt
sent_open r now (s ∷ ss) all = at (is_due now s) (sent_open r now ss all.1)
  where
    at : (b : Bool) → AreOpen (after_first_due r now ss) → AreOpen (cond b (with_pending (after_pending r now s.pending) s ∷ ss) (s ∷ after_first_due r now ss))
    at true more = (pending_open r now s.pending, all.1)
    at false more = (all.0, more)

pub responded_open : (address : SocketAddr) (ss : List Secondary) → AreOpen ss → AreOpen (map (after_response address) ss)
responded_open address [] all = tt
responded_open address (s ∷ ss) all = (at (same_address address s.address), responded_open address ss all.1)
  where
    at : (b : Bool) → IsOpen (cond b (with_pending None s) s).pending
    at true = tt
    at false = all.0

less_of : (r : Retries) (now : ℕ) (p : Option Pending) → IsOpen p → has_come now (option_map {T = Pending} {U = ℕ} (λ q. q.moment) p) ≡ true → copies_of (after_pending r now p) + 1 ≡ copies_of p
less_of r now None some come = absurd (cc)
less_of r now (Some p) some come = omega (arith, some, all_of (p.copies_left - 1) (later now p.interval) (longer r p.interval))

pub one_less : (r : Retries) (now : ℕ) (ss : List Secondary) → AreOpen ss → is_some (due_address now ss) ≡ true → copies_left (after_first_due r now ss) + 1 ≡ copies_left ss
one_less r now [] all some = absurd (cc)
one_less r now (s ∷ ss) all some = at (is_due now s) refl some (λ (e : is_some (due_address now ss) ≡ true). one_less r now ss all.1 e)
  where
    at : (b : Bool) → is_due now s ≡ b → is_some (option_map {T = Secondary} {U = SocketAddr} (λ t. t.address) (cond b (Some s) (find (is_due now) ss))) ≡ true
        → (is_some (due_address now ss) ≡ true → copies_left (after_first_due r now ss) + 1 ≡ copies_left ss)
        → copies_left (cond b (with_pending (after_pending r now s.pending) s ∷ ss) (s ∷ after_first_due r now ss)) + 1 ≡ copies_of s.pending + copies_left ss
    at true is found more = omega (arith, less_of r now s.pending all.0 is)
    at false is found more = omega (arith, more found)

-- ---- what a response ends

none_from : (address : SocketAddr) (s : Secondary) → is_expected_from address (after_response address s) ≡ false
none_from address s = at (same_address address s.address) refl
  where
    at : (b : Bool) → same_address address s.address ≡ b → is_expected_from address (cond b (with_pending None s) s) ≡ false
    at true is = and_false (same_address address s.address)
      where
        and_false : (a : Bool) → (a && false) ≡ false
        and_false true = refl
        and_false false = refl
    at false is = ap (λ (b : Bool). b && is_some s.pending) is

pub none_expected : (address : SocketAddr) (ss : List Secondary) → is_expected address (map (after_response address) ss) ≡ false
none_expected address [] = refl
none_expected address (s ∷ ss) = ap (λ (b : Bool). b || is_expected address (map (after_response address) ss)) (none_from address s) ∙ none_expected address ss
