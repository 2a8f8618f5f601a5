-- Secondaries, one after another.
use Rattle.std.proofs.Common.{◌≡◌, ◌∙◌, ◌+◌, ◌<◌, ◌++◌, ℕ, zero, suc, Bool, true, false, cond, List, [], ◌∷◌, map, find, refl, ap, sym, arith, length, take, drop, set, get_or, Some, None, option_map}
use Rattle.std.proofs.lemmas.List.Edits.{map_over_more}
use Rattle.std.proofs.lemmas.List.{get_or_default}
use Rattle.std.proofs.lemmas.List.Quantifiers.{position-Some}
use Rattle.std.proofs.lemmas.Iterator.Adapters.{position_from-zero}
use Rattle.std.specs.List.{position_from}
use Rattle.std.specs.Prelude.{position}
use Rattle.std.specs.declared.net.socket_addr.SocketAddr.{SocketAddr}
use Rattle.dns_notify.specs.declared.retries.Retries.{Retries}
use Rattle.dns_notify.specs.declared.secondary.Secondary.{Secondary}
use Rattle.dns_notify.specs.Notifications.{after_first_due, due_address}
use Rattle.dns_notify.specs.Secondary.{after_pending, is_due, with_pending}

-- a loop that writes over an item what a function makes of it
pub write_each : {A : Type 0} (f : A → A) (xs ys : List A) (i : ℕ) (d y : A) → i < length xs → length ys ≡ length xs → ys ≡ map f (take i xs) ++ drop i xs
    → y ≡ f (get_or ys i d) → set ys i y ≡ map f (take (i + 1) xs) ++ drop (i + 1) xs
write_each f xs ys i d y within same written is =
    ap (set ys i) is ∙ map_over_more f xs ys i (get_or ys i d) within written (get_or_default ys i d (get_or ys i d) (omega (arith, within, same)))

-- ---- the first secondary for which a copy is due

module _ (r : Retries) (now : ℕ) where
  abbrev counted : Secondary → Secondary
  counted s = with_pending (after_pending r now s.pending) s

  pub after_at : (ss : List Secondary) (i : ℕ) (d : Secondary) → i < length ss → is_due now (get_or ss i d) ≡ true → ((k : ℕ) → k < i → is_due now (get_or ss k d) ≡ false)
      → (due_address now ss ≡ Some (get_or ss i d).address) × (after_first_due r now ss ≡ set ss i (counted (get_or ss i d)))
  after_at [] i d within is before = absurd (omega (arith, within))
  after_at (s ∷ ss) zero d within is before =
      (ap (λ (b : Bool). option_map {T = Secondary} {U = SocketAddr} (λ t. t.address) (cond b (Some s) (find (is_due now) ss))) is, ap (λ (b : Bool). cond b (counted s ∷ ss) (s ∷ after_first_due r now ss)) is)
  after_at (s ∷ ss) (suc i) d within is before =
      let no : is_due now s ≡ false = before 0 (omega arith) in
      let more = after_at ss i d (omega (arith, within)) is (λ (k : ℕ) (h : k < i). before (suc k) (omega (arith, h))) in
      (ap (λ (b : Bool). option_map {T = Secondary} {U = SocketAddr} (λ t. t.address) (cond b (Some s) (find (is_due now) ss))) no ∙ more.0, ap (λ (b : Bool). cond b (counted s ∷ ss) (s ∷ after_first_due r now ss)) no ∙ ap (λ (l : List Secondary). s ∷ l) more.1)

  none_from : (ss : List Secondary) (n : ℕ) → position_from (is_due now) n ss ≡ None → (due_address now ss ≡ None) × (after_first_due r now ss ≡ ss)
  none_from [] n none = (refl, refl)
  none_from (s ∷ ss) n none = at (is_due now s) refl none (λ (e : position_from (is_due now) (n + 1) ss ≡ None). none_from ss (n + 1) e)
    where
      at : (b : Bool) → is_due now s ≡ b → cond b (Some n) (position_from (is_due now) (n + 1) ss) ≡ None
          → (position_from (is_due now) (n + 1) ss ≡ None → (due_address now ss ≡ None) × (after_first_due r now ss ≡ ss))
          → (due_address now (s ∷ ss) ≡ None) × (after_first_due r now (s ∷ ss) ≡ s ∷ ss)
      at true is found more = absurd (cc)
      at false is found more =
          (ap (λ (b : Bool). option_map {T = Secondary} {U = SocketAddr} (λ t. t.address) (cond b (Some s) (find (is_due now) ss))) is ∙ (more found).0, ap (λ (b : Bool). cond b (counted s ∷ ss) (s ∷ after_first_due r now ss)) is ∙ ap (λ (l : List Secondary). s ∷ l) (more found).1)

  none_at : (ss : List Secondary) → position (is_due now) ss ≡ None → (due_address now ss ≡ None) × (after_first_due r now ss ≡ ss)
  none_at ss none = none_from ss 0 (sym (position_from-zero (is_due now) ss) ∙ none)

pub none_due : (now : ℕ) (ss : List Secondary) → position (is_due now) ss ≡ None → due_address now ss ≡ None
none_due now ss none = (none_at (record { copies = 0; first_interval = 0; max_interval = 0 }) now ss none).0

pub none_left : (r : Retries) (now : ℕ) (ss : List Secondary) → position (is_due now) ss ≡ None → after_first_due r now ss ≡ ss
none_left r now ss none = (none_at r now ss none).1

-- what is known after a copy was counted at the first place
pub copy_at : (r : Retries) (now : ℕ) (ss : List Secondary) (i : ℕ) (d new : Secondary) → position (is_due now) ss ≡ Some i
    → new ≡ with_pending (after_pending r now (get_or ss i d).pending) (get_or ss i d)
    → (Some new.address ≡ due_address now ss) × (set ss i new ≡ after_first_due r now ss)
copy_at r now ss i d new found is =
    let place = position-Some (is_due now) ss i d found in
    let both = after_at r now ss i d place.0 place.1 place.2 in
    (ap (λ (s : Secondary). Some s.address) is ∙ sym both.0, ap (set ss i) is ∙ sym both.1)
