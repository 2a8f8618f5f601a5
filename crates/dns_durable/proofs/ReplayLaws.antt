-- Updates that are served, one after another.
use Rattle.std.proofs.Common.{◌≡◌, ◌≤◌, ◌<◌, ◌-◌, ◌∙◌, ℕ, suc, Bor, List, [], ◌∷◌, ◌++◌, length, take, drop, get_or, map, refl, sym, ap, subst, arith, append-nil, append_assoc}
use Rattle.std.proofs.lemmas.List.{take_all}
use Rattle.dns_message_bytes.specs.frames.Frame.{frame}
use Rattle.dns_messages.specs.declared.message.Message.{Message}
use Rattle.dns_zone.specs.Rows.{ZoneContent}
use Rattle.dns_durable.specs.Durable.{IsTaken, Replays, Takes, TakesEntry}
use Rattle.dns_durable.specs.Durable.Replays.{no_update, an_update}
use Rattle.dns_durable.specs.Durable.Takes.{no_frame, a_frame}

-- further updates
pub replays-append : (zones mid after : List ZoneContent) (updates : List (List ℕ)) (update : List ℕ) → Replays zones updates mid → TakesEntry mid update after
    → Replays zones (updates ++ update ∷ []) after
replays-append zones mid after updates update no_update takes = an_update takes no_update
replays-append zones mid after updates update (an_update {mid = next} {more = more} first others) takes =
    an_update first (replays-append next mid after more update others takes)

-- the frame of one request
pub takes-one : (step : List ZoneContent → Message → List ZoneContent) (zones after : List ZoneContent) (bytes : List ℕ) → length bytes ≤ 65535 → IsTaken step zones bytes after → Takes step zones (frame bytes) after
takes-one step zones after bytes short taken =
    subst (λ (l : List ℕ). Takes step zones l after) (append-nil (frame bytes)) (a_frame {rest = []} short taken no_frame)

-- ---- the loops

-- the updates in front of those that are left were served
pub record HasReplayed (start : List ZoneContent) (all rest : List (List ℕ)) (now : List ZoneContent) : Type 0 where
  pub done : List (List ℕ)
  pub all_is : all ≡ done ++ rest
  pub replays : Replays start done now

-- the requests in front of the frames that are left were served
pub record HasTaken (step : List ZoneContent → Message → List ZoneContent) (start : List ZoneContent) (all rest : List ℕ) (now : List ZoneContent) : Type 0 where
  pub front : List ℕ
  pub all_is : all ≡ front ++ rest
  pub takes : Takes step start front now

-- no update was served yet
pub replayed_none : (start : List ZoneContent) (all : List (List ℕ)) → HasReplayed start all all start
replayed_none start all = record { done = []; all_is = refl; replays = no_update }

-- a further update of those that are left
pub replayed_more : (xs : List (Bor (List ℕ))) (d : Bor (List ℕ)) (start now mid : List ZoneContent) (all : List (List ℕ)) → 1 ≤ length xs
    → HasReplayed start all (map (λ u. u.now) xs) now → TakesEntry now (get_or xs 0 d).now mid
    → HasReplayed start all (map (λ u. u.now) (take (length xs - 1) (drop 1 xs))) mid
replayed_more [] d start now mid all some has takes = absurd (omega (arith, some))
replayed_more (x ∷ xs) d start now mid all some has takes =
    let same : take (suc (length xs) - 1) xs ≡ xs = take_all (suc (length xs) - 1) xs (omega arith) in
    subst (λ (l : List (Bor (List ℕ))). HasReplayed start all (map (λ u. u.now) l) mid) (sym same)
    (record {
      done = has.done ++ x.now ∷ [];
      all_is = has.all_is ∙ sym (append_assoc has.done (x.now ∷ []) (map (λ u. u.now) xs));
      replays = replays-append start now mid has.done x.now has.replays takes;
    })

-- all updates were served
pub replayed_all : (xs : List (Bor (List ℕ))) (start now : List ZoneContent) (all : List (List ℕ)) → length xs < 1
    → HasReplayed start all (map (λ u. u.now) xs) now → Replays start all now
replayed_all [] start now all none has = subst (λ (l : List (List ℕ)). Replays start l now) (sym (has.all_is ∙ append-nil has.done)) has.replays
replayed_all (x ∷ xs) start now all none has = absurd (omega (arith, none))

takes-append : (step : List ZoneContent → Message → List ZoneContent) (start now after : List ZoneContent) (front bytes : List ℕ) → Takes step start front now → length bytes ≤ 65535 → IsTaken step now bytes after
    → Takes step start (front ++ frame bytes) after
takes-append step start now after front bytes no_frame short taken = takes-one step now after bytes short taken
takes-append step start now after front bytes (a_frame {mid = mid} {bytes = first} {rest = rest} short_first taken_first more) short taken =
    subst (λ (l : List ℕ). Takes step start l after) (sym (append_assoc (frame first) rest (frame bytes)))
    (a_frame short_first taken_first (takes-append step mid now after rest bytes more short taken))

-- no request was served yet
pub taken_none : (step : List ZoneContent → Message → List ZoneContent) (start : List ZoneContent) (all : List ℕ) → HasTaken step start all all start
taken_none step start all = record { front = []; all_is = refl; takes = no_frame }

-- a further request of those that are left
pub taken_more : (step : List ZoneContent → Message → List ZoneContent) (start now after : List ZoneContent) (all left message rest : List ℕ) → HasTaken step start all left now → left ≡ frame message ++ rest
    → length message ≤ 65535 → IsTaken step now message after → HasTaken step start all rest after
taken_more step start now after all left message rest has left_is short taken =
    record {
      front = has.front ++ frame message;
      all_is = has.all_is ∙ ap (λ (l : List ℕ). has.front ++ l) left_is ∙ sym (append_assoc has.front (frame message) rest);
      takes = takes-append step start now after has.front message has.takes short taken;
    }

-- all requests were served
pub taken_all : (step : List ZoneContent → Message → List ZoneContent) (start now : List ZoneContent) (all left : List ℕ) → length left ≡ 0 → HasTaken step start all left now → Takes step start all now
taken_all step start now all [] none has = subst (λ (l : List ℕ). Takes step start l now) (sym (has.all_is ∙ append-nil has.front)) has.takes
taken_all step start now all (x ∷ left) none has = absurd (omega (arith, none))
