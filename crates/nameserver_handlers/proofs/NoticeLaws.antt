-- Notifications of zones, one zone after another.
use Rattle.std.proofs.Common.{◌≡◌, ◌∙◌, ◌+◌, ◌<◌, ◌≤◌, ◌&&◌, ◌||◌, inl, inr, ℕ, zero, suc, Bool, true, false, cond, List, [], ◌∷◌, map, refl, ap, sym, subst, arith, length, set, get_or, Some, None, option_map}
use borrow.Author.Count.{below_more}
use Rattle.std.proofs.lemmas.Iterator.Adapters.{position_from-zero}
use Rattle.std.proofs.lemmas.List.{length-set, set-get_or}
use Rattle.std.proofs.lemmas.List.Quantifiers.{position-Some}
use Rattle.std.proofs.lemmas.Option.{slice_get-get_or, slice_get_within}
use Rattle.std.specs.List.{position_from}
use Rattle.std.specs.Prelude.{is_ok, min, position, slice_get, slice_set, Err, IfOk, Ok, OnErr, Result}
use Rattle.std.specs.declared.alloc.AllocError.{AllocError}
use Rattle.std.specs.declared.net.socket_addr.SocketAddr.{SocketAddr}
use Rattle.dns_notify.specs.Notifications.{after_response, is_expected}
use Rattle.dns_notify.specs.Secondary.{is_expected_from, same_address}
use Rattle.dns_notify.specs.declared.notifier.follower.Follower.{Follower}
use Rattle.dns_notify.specs.declared.secondary.Secondary.{Secondary}
use Rattle.dns_notify.specs.notifier.Follower.{Follows}
use Rattle.dns_notify.specs.notifier.Notifier.{NotifierContent, Receives, received, with_notifications}
use Rattle.dns_records.specs.Record.{Record}
use Rattle.dns_zone.specs.Rows.{ZoneContent}
use Rattle.nameserver_handlers.specs.Notices.{AreFollowed, FollowsZoneIf, IsExpected, IsStart, NoneExpects, after_copy, after_notice, due_notice, due_secondary, is_due, notice_to}

same_some : {A : Type 0} {a b : A} → Some a ≡ Some b → a ≡ b
same_some e = cc

here_at : {A : Type 0} (xs : List A) (k : ℕ) (x : A) → k < length xs → slice_get (slice_set xs k x) k ≡ Some x
here_at [] k x within = absurd (omega (arith, within))
here_at (y ∷ xs) zero x within = refl
here_at (y ∷ xs) (suc k) x within = here_at xs k x (omega (arith, within))

other_at : {A : Type 0} (xs : List A) (k place : ℕ) (x : A) → (k ≡ place → ⊥) → slice_get (slice_set xs k x) place ≡ slice_get xs place
other_at [] k place x differ = refl
other_at (y ∷ xs) zero zero x differ = absurd (differ refl)
other_at (y ∷ xs) zero (suc place) x differ = refl
other_at (y ∷ xs) (suc k) zero x differ = refl
other_at (y ∷ xs) (suc k) (suc place) x differ = other_at xs k place x (λ e. differ (ap (λ (n : ℕ). suc n) e))

-- ---- the first notification that is due

module _ (now : ℕ) where
  noticed_at : (fs : List Follower) (i : ℕ) (d : Follower) → i < length fs → is_due now (get_or fs i d) ≡ true → ((k : ℕ) → k < i → is_due now (get_or fs k d) ≡ false)
      → (due_notice now fs ≡ option_map (notice_to (get_or fs i d)) (due_secondary now (get_or fs i d))) × (after_notice now fs ≡ set fs i (after_copy now (get_or fs i d)))
  noticed_at [] i d within is before = absurd (omega (arith, within))
  noticed_at (f ∷ fs) zero d within is before =
      (ap (λ (b : Bool). cond b (option_map (notice_to f) (due_secondary now f)) (due_notice now fs)) is, ap (λ (b : Bool). cond b (after_copy now f ∷ fs) (f ∷ after_notice now fs)) is)
  noticed_at (f ∷ fs) (suc i) d within is before =
      let no : is_due now f ≡ false = before 0 (omega arith) in
      let more = noticed_at fs i d (omega (arith, within)) is (λ (k : ℕ) (h : k < i). before (suc k) (omega (arith, h))) in
      (ap (λ (b : Bool). cond b (option_map (notice_to f) (due_secondary now f)) (due_notice now fs)) no ∙ more.0, ap (λ (b : Bool). cond b (after_copy now f ∷ fs) (f ∷ after_notice now fs)) no ∙ ap (λ (l : List Follower). f ∷ l) more.1)

  none_from : (fs : List Follower) (n : ℕ) → position_from (is_due now) n fs ≡ None → (due_notice now fs ≡ None) × (after_notice now fs ≡ fs)
  none_from [] n none = (refl, refl)
  none_from (f ∷ fs) n none = at (is_due now f) refl none (λ (e : position_from (is_due now) (n + 1) fs ≡ None). none_from fs (n + 1) e)
    where
      at : (b : Bool) → is_due now f ≡ b → cond b (Some n) (position_from (is_due now) (n + 1) fs) ≡ None
          → (position_from (is_due now) (n + 1) fs ≡ None → (due_notice now fs ≡ None) × (after_notice now fs ≡ fs))
          → (due_notice now (f ∷ fs) ≡ None) × (after_notice now (f ∷ fs) ≡ f ∷ fs)
      at true is found more = absurd (cc)
      at false is found more =
          (ap (λ (b : Bool). cond b (option_map (notice_to f) (due_secondary now f)) (due_notice now fs)) is ∙ (more found).0, ap (λ (b : Bool). cond b (after_copy now f ∷ fs) (f ∷ after_notice now fs)) is ∙ ap (λ (l : List Follower). f ∷ l) (more found).1)

  -- no notification is due
  pub none_due : (fs : List Follower) → position (is_due now) fs ≡ None → (due_notice now fs ≡ None) × (after_notice now fs ≡ fs)
  none_due fs none = none_from fs 0 (sym (position_from-zero (is_due now) fs) ∙ none)

  -- what is known after the copy of the first one was counted
  pub notice_at : (fs : List Follower) (i : ℕ) (d new : Follower) → position (is_due now) fs ≡ Some i → new ≡ after_copy now (get_or fs i d)
      → (option_map (notice_to (get_or fs i d)) (due_secondary now (get_or fs i d)) ≡ due_notice now fs) × (set fs i new ≡ after_notice now fs)
  notice_at fs i d new found is =
      let place = position-Some (is_due now) fs i d found in
      let both = noticed_at fs i d place.0 place.1 place.2 in
      (sym both.0, ap (set fs i) is ∙ sym both.1)

-- ---- responses that nobody expects

after_none : (from : SocketAddr) (s : Secondary) → is_expected_from from s ≡ false → after_response from s ≡ s
after_none from s none = by (same_address from s.address) s.pending refl refl
  where
    by : (b : Bool) (p : _) → same_address from s.address ≡ b → s.pending ≡ p → after_response from s ≡ s
    by false p is pending = ap (λ (b : Bool). cond b (record s { pending = None }) s) is
    by true None is pending = ap (λ (b : Bool). cond b (record s { pending = None }) s) is ∙ ap (λ q. record s { pending = q }) (sym pending)
    by true (Some p) is pending = absurd (cc)

all_after_none : (from : SocketAddr) (ss : List Secondary) → is_expected from ss ≡ false → map (after_response from) ss ≡ ss
all_after_none from [] none = refl
all_after_none from (s ∷ ss) none = by (is_expected_from from s) refl none (λ (e : is_expected from ss ≡ false). all_after_none from ss e)
  where
    by : (b : Bool) → is_expected_from from s ≡ b → (b || is_expected from ss) ≡ false → (is_expected from ss ≡ false → map (after_response from) ss ≡ ss)
        → map (after_response from) (s ∷ ss) ≡ s ∷ ss
    by true is found more = absurd (cc)
    by false is found more = ap (λ (t : Secondary). t ∷ map (after_response from) ss) (after_none from s is) ∙ ap (λ (l : List Secondary). s ∷ l) (more found)

-- a response that nobody expects changes nothing
unexpected : (from : SocketAddr) (bytes : List ℕ) (old new : NotifierContent) → Receives from bytes old false new → new ≡ old
unexpected from bytes old new receives = receives.left ∙ ap (with_notifications old) (by receives.is_response receives.expected)
  where
    by : (b : Bool) → false ≡ (b && is_expected from old.notifications.secondaries) → received from b old.notifications ≡ old.notifications
    by false none = refl
    by true none = ap (λ (ss : List Secondary). record old.notifications { secondaries = ss }) (all_after_none from old.notifications.secondaries (sym none))

module _ (from : SocketAddr) (bytes : List ℕ) (old now : List Follower) (k : ℕ) (d : Follower) (n : NotifierContent) (same : now ≡ old) (within : k < length old) where
  abbrev there : Follower
  there = get_or now k d

  found : slice_get old k ≡ Some there
  found = slice_get-get_or old k d within ∙ ap (λ (l : List Follower). Some (get_or l k d)) (sym same)

  -- a follower at a place expects a response
  pub expected_at : (b : Bool) → b ≡ true → Receives from bytes there.notifier b n → IsExpected from bytes old (slice_set now k (record { notifier = n; serial = there.serial }))
  expected_at b is receives = record {
    place = k;
    follower = there;
    after = record { notifier = n; serial = there.serial };
    there = found;
    receives = subst (λ (x : Bool). Receives from bytes there.notifier x n) is receives;
    serial = refl;
    new_is = ap (λ (l : List Follower). slice_set l k (record { notifier = n; serial = there.serial })) same;
  }

  -- or it does not
  pub unexpected_at : (b : Bool) → b ≡ false → Receives from bytes there.notifier b n
      → ((place : ℕ) (f : Follower) → place < k → slice_get old place ≡ Some f → Receives from bytes f.notifier false f.notifier)
      → (slice_set now k (record { notifier = n; serial = there.serial }) ≡ old)
      × ((place : ℕ) (f : Follower) → place < k + 1 → slice_get old place ≡ Some f → Receives from bytes f.notifier false f.notifier)
  unexpected_at b is receives before =
      let here : Receives from bytes there.notifier false n = subst (λ (x : Bool). Receives from bytes there.notifier x n) is receives in
      let kept : n ≡ there.notifier = unexpected from bytes there.notifier n here in
      let still : Receives from bytes there.notifier false there.notifier = subst (λ (x : NotifierContent). Receives from bytes there.notifier false x) kept here in (
        ap (λ (x : NotifierContent). slice_set now k (record { notifier = x; serial = there.serial })) kept ∙ set-get_or now k d ∙ same,
        λ place f less is_f. below_more (λ (p : ℕ). (g : Follower) → slice_get old p ≡ Some g → Receives from bytes g.notifier false g.notifier) k
            (λ p l g is_g. before p g l is_g)
            (λ g is_g. subst (λ (x : Follower). Receives from bytes x.notifier false x.notifier) (same_some (sym found ∙ is_g)) still) place less f is_f,
      )

-- no follower up to the end expects a response
pub none_expects : (from : SocketAddr) (bytes : List ℕ) (old : List Follower) (k : ℕ) → length old ≤ k
    → ((place : ℕ) (f : Follower) → place < k → slice_get old place ≡ Some f → Receives from bytes f.notifier false f.notifier) → NoneExpects from bytes old
none_expects from bytes old k end before = λ place f is. before place f (omega (arith, slice_get_within old place f is, end)) is

-- ---- zones that are followed

-- a follower follows a zone with an SOA record, or memory is refused
pub follows_if : (now id : ℕ) (zone : ZoneContent) (start : Record) (f g : Follower) (r : Result Bool AllocError) (is_done : Bool) → is_done ≡ is_ok r → IsStart zone (Some start)
    → IfOk r (λ is_new. Follows id start now f is_new g) → OnErr r (g ≡ f) → FollowsZoneIf is_done now zone f g
follows_if now id zone start f g (Ok is_new) is_done done starts ok err =
    subst (λ (b : Bool). FollowsZoneIf b now zone f g) (sym done) (Some start, (starts, (id, (is_new, ok))))
follows_if now id zone start f g (Err error) is_done done starts ok err = subst (λ (b : Bool). FollowsZoneIf b now zone f g) (sym done) (inl err)

-- The followers before a place follow their zones, and those from it on are as they were.
pub record AreFollowedTo (now : ℕ) (zones : List ZoneContent) (old : List Follower) (are_all : Bool) (new : List Follower) (k : ℕ) : Type 0 where
  pub count : length new ≡ length old
  pub each : (place : ℕ) → place < k → (zone : ZoneContent) (f g : Follower) → slice_get zones place ≡ Some zone → slice_get old place ≡ Some f
      → slice_get new place ≡ Some g → FollowsZoneIf are_all now zone f g
  pub rest : (place : ℕ) → k ≤ place → slice_get new place ≡ slice_get old place

weaker : (now : ℕ) (zone : ZoneContent) (f g : Follower) (one other : Bool) → FollowsZoneIf one now zone f g → FollowsZoneIf (one && other) now zone f g
weaker now zone f g true true follows = follows
weaker now zone f g true false follows = inr follows
weaker now zone f g false other follows = follows

weaker_too : (now : ℕ) (zone : ZoneContent) (f g : Follower) (one other : Bool) → FollowsZoneIf other now zone f g → FollowsZoneIf (one && other) now zone f g
weaker_too now zone f g true other follows = follows
weaker_too now zone f g false true follows = inr follows
weaker_too now zone f g false false follows = follows

pub none_followed : (now : ℕ) (zones : List ZoneContent) (old : List Follower) (are_all : Bool) → AreFollowedTo now zones old are_all old 0
none_followed now zones old are_all = record { count = refl; each = λ place less. absurd (omega (arith, less)); rest = λ place le. refl }

-- one more does
pub one_followed : (now : ℕ) (zones : List ZoneContent) (old new : List Follower) (are_all is_followed : Bool) (k : ℕ) (z : ZoneContent) (d g : Follower)
    → AreFollowedTo now zones old are_all new k → k < length new → k < length zones → z ≡ get_or zones k z → FollowsZoneIf is_followed now z (get_or new k d) g
    → AreFollowedTo now zones old (are_all && is_followed) (slice_set new k g) (k + 1)
one_followed now zones old new are_all is_followed k z d g so_far within zoned z_is follows = record {
  count = length-set new k g ∙ so_far.count;
  each = below_more (λ (p : ℕ). (zone : ZoneContent) (f x : Follower) → slice_get zones p ≡ Some zone → slice_get old p ≡ Some f → slice_get (slice_set new k g) p ≡ Some x
      → FollowsZoneIf (are_all && is_followed) now zone f x) k
      (λ p l zone f x is_zone is_f is_x. weaker now zone f x are_all is_followed
      (so_far.each p l zone f x is_zone is_f (sym (other_at new k p g (λ e. absurd (omega (arith, l, e)))) ∙ is_x)))
      (λ zone f x is_zone is_f is_x. weaker_too now zone f x are_all is_followed
      (subst (λ (y : Follower). FollowsZoneIf is_followed now zone f y) (same_some (sym (here_at new k g within) ∙ is_x))
      (subst (λ (y : Follower). FollowsZoneIf is_followed now zone y g) (same_some (sym (slice_get-get_or new k d within) ∙ so_far.rest k (omega arith) ∙ is_f))
      (subst (λ (y : ZoneContent). FollowsZoneIf is_followed now y (get_or new k d) g) (same_some (ap (λ (y : ZoneContent). Some y) z_is ∙ sym (slice_get-get_or zones k z zoned) ∙ is_zone)) follows))));
  rest = λ place le. other_at new k place g (λ e. absurd (omega (arith, le, e))) ∙ so_far.rest place (omega (arith, le));
}

past : {A : Type 0} (xs : List A) (place : ℕ) → slice_get xs place ≡ None → length xs ≤ place
past [] place none = omega arith
past (x ∷ xs) zero none = absurd (cc)
past (x ∷ xs) (suc place) none = omega (arith, past xs place none)

-- all do
pub all_followed : (now : ℕ) (zones : List ZoneContent) (old new : List Follower) (are_all : Bool) (k : ℕ) → AreFollowedTo now zones old are_all new k
    → min (length old) (length zones) ≤ k → k ≤ length zones → AreFollowed now zones old are_all new
all_followed now zones old new are_all k so_far end within = record {
  count = so_far.count;
  each = λ place zone f g is_zone is_f is_g. so_far.each place
      (omega (arith, slice_get_within zones place zone is_zone, slice_get_within old place f is_f, end)) zone f g is_zone is_f is_g;
  others = λ place none. so_far.rest place (omega (arith, past zones place none, within));
}
