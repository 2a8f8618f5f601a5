-- Requests that arrive together.
use Rattle.std.proofs.Common.{inl, inr, suc, None, Some, Option, ◌≡◌, ◌∙◌, ◌+◌, ◌-◌, ◌<◌, ◌≤◌, ℕ, Bool, true, false, List, [], ◌∷◌, ◌++◌, length, map, take, drop, get_or, append-nil, append_assoc, refl, sym, ap, subst, arith}
use Rattle.std.proofs.lemmas.List.{map-append, take_all, take_more}
use Rattle.std.specs.Global.{Vec}
use Rattle.std.specs.Prelude.{IfOk, IsErr, OnErr, OnOk, Result, Ok, Err, is_err, is_none}
use Rattle.std.specs.declared.alloc.AllocError.{AllocError}
use Rattle.dns_durable.specs.Changes.{AreChanges, reply_bytes, reply_change}
use Rattle.dns_durable.specs.Changes.AreChanges.{a_request as a_change, no_request as no_change}
use Rattle.dns_durable.specs.Durable.{Responds}
use Rattle.dns_durable.specs.Incoming.{AreAdmitted}
use Rattle.dns_durable.specs.Incoming.AreAdmitted.{no_request as no_incoming, a_request as an_incoming}
use Rattle.dns_durable.specs.Reply.{AnswersAll}
use Rattle.dns_durable.specs.Reply.AnswersAll.{a_request, no_request}
use Rattle.dns_durable.specs.declared.answering.Reply.{Reply}
use Rattle.dns_durable.specs.declared.incoming.Arrived.{Arrived}
use Rattle.dns_durable.specs.declared.durable_server.DurableServer.{DurableServer}
use Rattle.dns_durable.specs.declared.durable_server.Replies.{Replies}
use Rattle.dns_durable.specs.declared.incoming.Incoming.{Incoming}
use Rattle.dns_durable.specs.declared.incoming.Terms.{Terms}
use Rattle.dns_durable.specs.declared.policy.Policy.{Policy}
use Rattle.dns_faults.specs.declared.delivery.Delivery.{Delivery}
use Rattle.dns_journal.specs.Event.{Event}
use Rattle.dns_journal.specs.Storage.{Performs}
use Rattle.dns_journal.specs.declared.journal.Position.{Position}
use Rattle.dns_nameserver.specs.Former.{Former, has_changed}
use Rattle.dns_server.specs.declared.server.ZoneChange.{ZoneChange}
use Rattle.dns_sockets.specs.Handler.{RequestContent, request_content}
use Rattle.dns_sockets.specs.declared.handler.Request.{Request}
use Rattle.dns_transfers.specs.declared.replies.zone_history.ZoneHistory.{ZoneHistory}
use Rattle.dns_transfers.proofs.RecordedLaws.{known_after}
use Rattle.dns_transfers.specs.declared.replies.recorder.Recorder.{Recorder}
use Rattle.dns_transfers.specs.replies.Recording.{AreHistoriesOf, AreRecorded}
use Rattle.dns_zone.specs.Rows.{ZoneContent}
use Rattle.nameserver_handlers.specs.Transferring.{Content}
use Rattle.nameserver_handlers.specs.declared.settings.Settings.{Settings}
use Rattle.nameserver_handlers.specs.declared.transfers.Transfers.{Transfers}
use Rattle.nameserver_handlers.specs.Handling.{AnswersTogether, AreDelivered, AreIncoming, AreLeft, AreServed, AreTerms, Follows, FollowsIf, IsDelivered, IsSettled, IsTerms, Keeping, KeepsHistories, LeavesTogether, RecordsAll, RecordsOne, Responded, Serves, ServesWith, first_bytes, kept_content, one_if, others_of, recorded_bytes, recorded_if}
use Rattle.nameserver_handlers.specs.declared.serving.Recorded.{Recorded}

terms_then : (settings : Settings) (rs : List RequestContent) (r : RequestContent) (ts : List Terms) (t : Terms) → AreTerms settings rs ts → IsTerms settings r t
    → AreTerms settings (rs ++ r ∷ []) (ts ++ t ∷ [])
terms_then settings [] r ts t all one = subst (λ (before : List Terms). AreTerms settings (r ∷ []) (before ++ t ∷ [])) (sym all) (one, refl)
terms_then settings (q ∷ rs) r [] t all one = absurd all
terms_then settings (q ∷ rs) r (s ∷ ts) t all one = (all.0, terms_then settings rs r ts t all.1 one)

-- one more request has its terms
pub terms_more : (settings : Settings) (requests : List Request) (i : ℕ) (default : Request) (ts more : List Terms) (t : Terms) → i < length requests → more ≡ ts ++ t ∷ []
    → AreTerms settings (map request_content (take i requests)) ts → IsTerms settings (request_content (get_or requests i default)) t
    → AreTerms settings (map request_content (take (i + 1) requests)) more
terms_more settings requests i default ts more t below is all one =
    subst (λ (all : List Terms). AreTerms settings (map request_content (take (i + 1) requests)) all) (sym is)
    (subst (λ (rs : List RequestContent). AreTerms settings rs (ts ++ t ∷ [])) (sym (ap (map request_content) (take_more requests i default below) ∙ map-append request_content (take i requests) (get_or requests i default ∷ [])))
    (terms_then settings (map request_content (take i requests)) (request_content (get_or requests i default)) ts t all one))

incoming_then : (rs : List RequestContent) (r : RequestContent) (ts : List Terms) (t : Terms) (is : List Incoming) (i : Incoming) → AreIncoming rs ts is → i.bytes.now ≡ r.bytes → i.terms.now ≡ t
    → AreIncoming (rs ++ r ∷ []) (ts ++ t ∷ []) (is ++ i ∷ [])
incoming_then [] r ts t is i all bytes terms =
    subst (λ (before : List Terms). AreIncoming (r ∷ []) (before ++ t ∷ []) (is ++ i ∷ [])) (sym all.0)
    (subst (λ (before : List Incoming). AreIncoming (r ∷ []) (t ∷ []) (before ++ i ∷ [])) (sym all.1) ((bytes, terms), (refl, refl)))
incoming_then (q ∷ rs) r ts t [] i all bytes terms = absurd all
incoming_then (q ∷ rs) r [] t (j ∷ is) i all bytes terms = absurd all
incoming_then (q ∷ rs) r (s ∷ ts) t (j ∷ is) i all bytes terms = (all.0, incoming_then rs r ts t is i all.1 bytes terms)

-- one more request is there, with its terms
pub incoming_more : (requests : List Request) (terms : List Terms) (i : ℕ) (default : Request) (t : Terms) (is more : List Incoming) (one : Incoming) → i < length requests → i < length terms → more ≡ is ++ one ∷ []
    → AreIncoming (map request_content (take i requests)) (take i terms) is → one.bytes.now ≡ (get_or requests i default).bytes.now → one.terms.now ≡ get_or terms i t
    → AreIncoming (map request_content (take (i + 1) requests)) (take (i + 1) terms) more
incoming_more requests terms i default t is more one below within added all bytes has_terms =
    subst (λ (all : List Incoming). AreIncoming (map request_content (take (i + 1) requests)) (take (i + 1) terms) all) (sym added)
    (subst (λ (rs : List RequestContent). AreIncoming rs (take (i + 1) terms) (is ++ one ∷ [])) (sym (ap (map request_content) (take_more requests i default below) ∙ map-append request_content (take i requests) (get_or requests i default ∷ [])))
    (subst (λ (ts : List Terms). AreIncoming (map request_content (take i requests) ++ request_content (get_or requests i default) ∷ []) ts (is ++ one ∷ [])) (sym (take_more terms i t within))
    (incoming_then (map request_content (take i requests)) (request_content (get_or requests i default)) (take i terms) (get_or terms i t) is one all bytes has_terms)))

-- ---- replies

module _ {S : Type 0} (performs : S → Event → S → Type 0) (old : Keeping S) (rs : List RequestContent) (terms : List Terms) (new : Keeping S) where
  -- where memory was refused
  pub responded_error : (r : Result (Vec Recorded) AllocError) → IsErr r → AreLeft performs old rs terms new → Responded performs old rs terms (recorded_if r) new
  responded_error (Ok recorded) error left = absurd (cc)
  responded_error (Err refused) error left = left

  -- the same of one reply
  pub left_one : (r : Result Recorded AllocError) → IsErr r → AreLeft performs old rs terms new → Responded performs old rs terms (one_if r) new
  left_one (Ok recorded) error left = absurd (cc)
  left_one (Err refused) error left = left

  -- where replies are recorded
  pub responded_recorded : (r : Result (Vec Recorded) AllocError) (outcome : Replies) (incoming : List Incoming) → IfOk r (λ recorded. map recorded_bytes recorded.items ≡ map reply_bytes outcome.replies.items)
      → IfOk r (λ recorded. Follows old.former rs (map (λ reply. has_changed (reply_change reply)) outcome.replies.items) new.former)
      → AreChanges old.zones (map reply_change outcome.replies.items) new.zones
      → OnOk r (RecordsAll (map reply_change outcome.replies.items) old.recorder.histories.items new.recorder.histories.items) → AreIncoming rs terms incoming
      → Performs performs old.storage new.storage (Responds old.settings.policy incoming (Ok outcome) old.position new.position old.zones new.zones)
      → new.settings ≡ old.settings → new.faults ≡ old.faults → Responded performs old rs terms (recorded_if r) new
  responded_recorded (Ok recorded) outcome incoming bytes follows changes records are responds settings faults = record {
    incoming = incoming;
    outcome = outcome;
    are_incoming = are;
    serves = responds;
    replies_are = bytes;
    changes = changes;
    recorded = records;
    former_follows = follows;
    settings_kept = settings;
    faults_kept = faults;
  }
  responded_recorded (Err refused) outcome incoming bytes follows changes records are responds settings faults =
      record { left = inr (incoming, Ok outcome, (are, responds)); settings_kept = settings; faults_kept = faults }

-- the same once a change is recorded, which leaves the server as it is
pub responded_moved : {S : Type 0} (performs : S → Event → S → Type 0) (policy : Policy) (incoming : List Incoming) (old : DurableServer S) (outcome : Replies) (mid new : DurableServer S) → new ≡ mid
    → Performs performs old.journal.storage mid.journal.storage (Responds policy incoming (Ok outcome) old.journal.position mid.journal.position old.server mid.server)
    → Performs performs old.journal.storage new.journal.storage (Responds policy incoming (Ok outcome) old.journal.position new.journal.position old.server new.server)
responded_moved {S} performs policy incoming old outcome mid new same done =
    subst (λ (x : DurableServer S). Performs performs old.journal.storage x.journal.storage (Responds policy incoming (Ok outcome) old.journal.position x.journal.position old.server x.server)) (sym same) done

-- a change is recorded, or the history of its zone begins again
pub records_either : (c : ZoneChange) (old new : List ZoneHistory) (r : Result (Unit {0}) AllocError) → OnOk r (AreRecorded true c.place c.difference old new)
    → OnErr r (AreRecorded false c.place c.difference old new) → RecordsOne (Some c) old new
records_either c old new (Ok done) ok err = (true, ok)
records_either c old new (Err error) ok err = (false, err)

-- the differences that are kept of zones lead to their rows, if they did before
all_known : (changes : List (Option ZoneChange)) (zones after : List ZoneContent) (old new : List ZoneHistory) → AreChanges zones changes after → RecordsAll changes old new
    → AreHistoriesOf zones old → AreHistoriesOf after new
all_known changes zones after old new no_change same known = subst (λ (h : List ZoneHistory). AreHistoriesOf zones h) (sym same) known
all_known (None ∷ more) zones after old new (a_change {mid = mid} one rest) records known =
    all_known more mid after records.0 new rest records.1.1
    (subst (λ (z : List ZoneContent). AreHistoriesOf z records.0) (sym one) (subst (λ (h : List ZoneHistory). AreHistoriesOf zones h) (sym records.1.0) known))
all_known (Some c ∷ more) zones after old new (a_change {mid = mid} one rest) records known =
    all_known more mid after records.0 new rest records.1.1 (known_after records.1.0.0 c zones mid old records.0 one records.1.0.1 known)

pub served_known : {S : Type 0} (performs : S → Event → S → Type 0) (old new : Keeping S) (rs : List RequestContent) (replies : List (Option (List ℕ)))
    → Serves performs old rs (Some replies) new → KeepsHistories old new
served_known performs old new rs replies serves = λ known.
    subst (λ (z : List ZoneContent). AreHistoriesOf z new.recorder.histories.items) (sym serves.served.settled.zones)
    (subst (λ (r : Recorder). AreHistoriesOf serves.served.mid.zones r.histories.items) (sym serves.served.settled.recorder)
    (all_known (map reply_change serves.served.responded.outcome.replies.items) old.zones serves.served.mid.zones old.recorder.histories.items serves.served.mid.recorder.histories.items
    serves.served.responded.changes serves.served.responded.recorded known))

-- ---- requests that are served

module _ {S : Type 0} (performs : S → Event → S → Type 0) (old : Keeping S) (rs : List RequestContent) (terms : List Terms) (mid new : Keeping S) (are : AreTerms old.settings rs terms) where
  serves_as : (replies : Option (List (Option (List ℕ)))) → IsSettled performs (is_none replies) mid new → Responded performs old rs terms replies mid → Serves performs old rs replies new
  serves_as replies settled responded = record { terms = terms; are_terms = are; served = record { mid = mid; responded = responded; settled = settled } }

  settled_by : (refused whether : Bool) → refused ≡ whether → IsSettled performs refused mid new → IsSettled performs whether mid new
  settled_by refused whether same settled = subst (λ (b : Bool). IsSettled performs b mid new) same settled

  pub serves_ok : (r : Result (Vec Recorded) AllocError) (refused : Bool) → refused ≡ is_err r → IsSettled performs refused mid new → Responded performs old rs terms (recorded_if r) mid
      → IfOk r (λ recorded. Serves performs old rs (Some (map recorded_bytes recorded.items)) new)
  serves_ok (Ok recorded) refused is settled responded = serves_as (Some (map recorded_bytes recorded.items)) (settled_by refused false is settled) responded
  serves_ok (Err error) refused is settled responded = tt

  pub serves_err : (r : Result (Vec Recorded) AllocError) (refused : Bool) → refused ≡ is_err r → IsSettled performs refused mid new → Responded performs old rs terms (recorded_if r) mid
      → OnErr r (LeavesTogether performs old rs new)
  serves_err (Ok recorded) refused is settled responded = tt
  serves_err (Err error) refused is settled responded = inr (None, serves_as None (settled_by refused true is settled) responded)

  pub serves_one : (r : Result Recorded AllocError) (refused : Bool) → refused ≡ is_err r → IsSettled performs refused mid new → Responded performs old rs terms (one_if r) mid
      → IfOk r (λ recorded. ServesWith performs old rs terms (Some (recorded_bytes recorded ∷ [])) new)
  serves_one (Ok recorded) refused is settled responded = record { mid = mid; responded = responded; settled = settled_by refused false is settled }
  serves_one (Err error) refused is settled responded = tt

  pub serves_none : (r : Result Recorded AllocError) (refused : Bool) → refused ≡ is_err r → IsSettled performs refused mid new → Responded performs old rs terms (one_if r) mid
      → OnErr r (LeavesTogether performs old rs new)
  serves_none (Ok recorded) refused is settled responded = tt
  serves_none (Err error) refused is settled responded = inr (None, serves_as None (settled_by refused true is settled) responded)

-- ---- each request has a reply

answers_length : (policy : Policy) (stored : Bool) (zones after : List ZoneContent) (admitted : List Arrived) (replies : List (Option (List ℕ))) → AnswersAll policy stored zones admitted replies after
    → length replies ≡ length admitted
answers_length policy stored zones after admitted replies no_request = refl
answers_length policy stored zones after admitted replies (a_request {mid = mid} {a = a} {more = more} {reply = reply} {replies = others} one rest) =
    ap (λ (n : ℕ). suc n) (answers_length policy stored mid after more others rest)

admitted_length : (policy : Policy) (incoming : List Incoming) (admitted : List Arrived) → AreAdmitted policy incoming admitted → length admitted ≡ length incoming
admitted_length policy incoming admitted no_incoming = refl
admitted_length policy incoming admitted (an_incoming {incoming = i} {more = more} {a = a} {others = others} one rest) = ap (λ (n : ℕ). suc n) (admitted_length policy more others rest)

pub replies_length : (policy : Policy) (incoming : List Incoming) (outcome : Replies) (old new : Position) (zones after : List ZoneContent) (es : List Event)
    → Responds policy incoming (Ok outcome) old new zones after es → length (map reply_bytes outcome.replies.items) ≡ length incoming
replies_length policy incoming outcome old new zones after es (inl given_up) = absurd (cc given_up.refused)
replies_length policy incoming outcome old new zones after es (inr answers) =
    answers_length policy outcome.is_stored zones after answers.admitted (map reply_bytes outcome.replies.items) answers.answers.answered
    ∙ admitted_length policy incoming answers.admitted answers.are_admitted

-- there is no list of one reply without replies
pub no_reply : (items : List Reply) → length items ≡ 0 → length (map reply_bytes items) ≡ 1 → ⊥
no_reply [] none one = absurd (cc one)
no_reply (reply ∷ items) none one = absurd (cc none)

-- the only one of replies of which there is one
pub only_reply : (front : List Reply) (reply : Reply) (items : List Reply) → items ≡ front ++ reply ∷ [] → length (map reply_bytes items) ≡ 1 → items ≡ reply ∷ []
only_reply [] reply items is one = is
only_reply (first ∷ front) reply items is one = absurd (too_many front (sym (ap (λ (l : List Reply). length (map reply_bytes l)) is) ∙ one))
  where
    too_many : (front : List Reply) → length (map reply_bytes (first ∷ (front ++ reply ∷ []))) ≡ 1 → ⊥
    too_many [] two = absurd (cc two)
    too_many (x ∷ more) two = absurd (cc two)

-- one request is served
module _ {S : Type 0} (performs : S → Event → S → Type 0) (old new : Keeping S) (at : S) (end : Position) (after : List ZoneContent) (r : RequestContent) (t : Terms) (incoming : List Incoming) (outcome : Replies)
    (are : AreIncoming (r ∷ []) (t ∷ []) incoming) (serves : Performs performs old.storage at (Responds old.settings.policy incoming (Ok outcome) old.position end old.zones after)) (one : length incoming ≡ 1) where
  pub one_served : (front : List Reply) (reply : Reply) (recorded : Option (List ℕ)) → outcome.replies.items ≡ front ++ reply ∷ [] → recorded ≡ reply_bytes reply
      → AreChanges old.zones (map reply_change outcome.replies.items) after
      → RecordsOne (reply_change reply) old.recorder.histories.items new.recorder.histories.items
      → FollowsIf (has_changed (reply_change reply)) old.former r.bytes new.former → new.storage ≡ at → new.position ≡ end → new.zones ≡ after
      → new.settings ≡ old.settings → new.faults ≡ old.faults → AreServed performs old (r ∷ []) (t ∷ []) (recorded ∷ []) new
  one_served front reply recorded is bytes changes records follows storage position zones settings faults = record {
    incoming = incoming;
    outcome = outcome;
    are_incoming = are;
    serves = subst (λ (s : S). Performs performs old.storage s (Responds old.settings.policy incoming (Ok outcome) old.position new.position old.zones new.zones)) (sym storage)
        (subst (λ (p : Position). Performs performs old.storage at (Responds old.settings.policy incoming (Ok outcome) old.position p old.zones new.zones)) (sym position)
        (subst (λ (z : List ZoneContent). Performs performs old.storage at (Responds old.settings.policy incoming (Ok outcome) old.position end old.zones z)) (sym zones) serves));
    replies_are = ap (λ (x : Option (List ℕ)). x ∷ []) bytes ∙ sym (ap (map reply_bytes) only);
    changes = subst (λ (z : List ZoneContent). AreChanges old.zones (map reply_change outcome.replies.items) z) (sym zones) changes;
    recorded = subst (λ (items : List Reply). RecordsAll (map reply_change items) old.recorder.histories.items new.recorder.histories.items) (sym only)
        (new.recorder.histories.items, (records, refl));
    former_follows = subst (λ (items : List Reply). Follows old.former (r ∷ []) (map (λ reply. has_changed (reply_change reply)) items) new.former) (sym only) (new.former, (follows, refl));
    settings_kept = settings;
    faults_kept = faults;
  }
    where
      only : outcome.replies.items ≡ reply ∷ []
      only = only_reply front reply outcome.replies.items is
          (replies_length old.settings.policy incoming outcome old.position end old.zones after serves.events serves.holds ∙ one)

-- ---- what is sent

-- by the same handler
pub delivered_as : {S : Type 0} (k k2 : Keeping S) (r : RequestContent) (reply : Option (List ℕ)) (d : Delivery) → k ≡ k2
    → IsDelivered (kept_content k) k.settings.transfers k.settings.limit r reply d → IsDelivered (kept_content k2) k2.settings.transfers k2.settings.limit r reply d
delivered_as {S} k k2 r reply d same delivered = subst (λ (x : Keeping S). IsDelivered (kept_content x) x.settings.transfers x.settings.limit r reply d) same delivered

module _ {S : Type 0} (performs : S → Event → S → Type 0) (old mid new : Keeping S) where
  -- one request is answered, or memory is refused for its delivery
  pub together_one : (r : RequestContent) (result : Result Delivery AllocError) (reply : Option (List ℕ)) → new ≡ mid → Serves performs old (r ∷ []) (Some (reply ∷ [])) mid
      → IfOk result (λ d. IsDelivered (kept_content mid) mid.settings.transfers mid.settings.limit r reply d) → IfOk result (λ d. AnswersTogether performs old (r ∷ []) (d ∷ []) new)
  together_one r (Ok d) reply same serves delivered =
      subst (λ (k : Keeping S). AnswersTogether performs old (r ∷ []) (d ∷ []) k) (sym same) (record { replies = reply ∷ []; serves = serves; delivered = (delivered, refl) })
  together_one r (Err error) reply same serves delivered = tt

  -- several are
  pub together_all : (rs : List RequestContent) (ds : List Delivery) (replies : List (Option (List ℕ))) → new ≡ mid → Serves performs old rs (Some replies) mid
      → AreDelivered (kept_content mid) mid.settings.transfers mid.settings.limit rs replies ds → AnswersTogether performs old rs ds new
  together_all rs ds replies same serves delivered =
      subst (λ (k : Keeping S). AnswersTogether performs old rs ds k) (sym same) (record { replies = replies; serves = serves; delivered = delivered })

-- one more change is recorded
pub records_more : (items left : List Reply) (reply : Reply) (old mid new : List ZoneHistory) → items ≡ reply ∷ left → RecordsOne (reply_change reply) old mid
    → RecordsAll (map reply_change left) mid new → RecordsAll (map reply_change items) old new
records_more items left reply old mid new is one more = subst (λ (xs : List Reply). RecordsAll (map reply_change xs) old new) (sym is) (mid, (one, more))

-- no change is left
pub records_none : (items : List Reply) (old : List ZoneHistory) → items ≡ [] → RecordsAll (map reply_change items) old old
records_none items old none = subst (λ (xs : List Reply). RecordsAll (map reply_change xs) old old) (sym none) refl

-- one more reply is recorded
pub recorded_more : (old new : List Recorded) (one : Recorded) (items left : List Reply) (reply : Reply) (all : List (Option (List ℕ))) → new ≡ old ++ one ∷ [] → items ≡ reply ∷ left
    → recorded_bytes one ≡ reply_bytes reply → map recorded_bytes old ++ map reply_bytes items ≡ all → map recorded_bytes new ++ map reply_bytes left ≡ all
recorded_more old new one items left reply all added is bytes before =
    ap (λ (x : List Recorded). map recorded_bytes x ++ map reply_bytes left) added ∙ ap (λ (x : List (Option (List ℕ))). x ++ map reply_bytes left) (map-append recorded_bytes old (one ∷ []))
    ∙ append_assoc (map recorded_bytes old) (recorded_bytes one ∷ []) (map reply_bytes left)
    ∙ ap (λ (b : Option (List ℕ)). map recorded_bytes old ++ b ∷ map reply_bytes left) bytes
    ∙ ap (λ (xs : List Reply). map recorded_bytes old ++ map reply_bytes xs) (sym is) ∙ before

-- one more request is followed
pub follows_more : (f mid : Option Former) (requests others : List RequestContent) (items left : List Reply) (reply : Reply) (new : Option Former) → items ≡ reply ∷ left → others ≡ others_of requests
    → FollowsIf (has_changed (reply_change reply)) f (first_bytes requests) mid → Follows mid others (map (λ r. has_changed (reply_change r)) left) new
    → Follows f requests (map (λ r. has_changed (reply_change r)) items) new
follows_more f mid requests others items left reply new is rest one more =
    subst (λ (xs : List Reply). Follows f requests (map (λ r. has_changed (reply_change r)) xs) new) (sym is)
    (mid, (one, subst (λ (rs : List RequestContent). Follows mid rs (map (λ r. has_changed (reply_change r)) left) new) rest more))

module _ (content : Content) (t : Transfers) (limit : ℕ) (all : List RequestContent) (replies : List (Option (List ℕ))) where
  -- what is sent for the other requests is all that is still to be added
  abbrev pub IsRest : List Request → List Recorded → List Delivery → Type 0
  IsRest rs left ds = (more : List Delivery) → AreDelivered content t limit (map request_content rs) (map recorded_bytes left) more → AreDelivered content t limit all replies (ds ++ more)

  -- one more reply is sent
  pub rest_more : (rs new : List Request) (default : Request) (items left : List Recorded) (recorded : Recorded) (ds added : List Delivery) (d : Delivery) → 1 ≤ length rs → new ≡ take (length rs - 1) (drop 1 rs)
      → items ≡ recorded ∷ left → added ≡ ds ++ d ∷ [] → IsDelivered content t limit (request_content (get_or rs 0 default)) (recorded_bytes recorded) d → IsRest rs items ds → IsRest new left added
  rest_more [] new default items left recorded ds added d some is one add delivered rest = absurd (omega (arith, some))
  rest_more (r ∷ rs) new default items left recorded ds added d some is one add delivered rest = λ more others.
      subst (λ (sent : List Delivery). AreDelivered content t limit all replies sent) (sym (ap (λ (first : List Delivery). first ++ more) add ∙ append_assoc ds (d ∷ []) more))
      (rest (d ∷ more) (subst (λ (xs : List Recorded). AreDelivered content t limit (map request_content (r ∷ rs)) (map recorded_bytes xs) (d ∷ more)) (sym one)
      (delivered, subst (λ (qs : List Request). AreDelivered content t limit (map request_content qs) (map recorded_bytes left) more) (is ∙ whole) others)))
    where
      whole : take (length (r ∷ rs) - 1) (drop 1 (r ∷ rs)) ≡ rs
      whole = ap (λ (n : ℕ). take n rs) (omega arith) ∙ take_all (length rs) rs (omega arith)

  -- no reply is left
  pub rest_none : (rs : List Request) (items : List Recorded) (ds : List Delivery) → items ≡ [] → IsRest rs items ds → AreDelivered content t limit all replies ds
  rest_none rs items ds none rest =
      subst (λ (sent : List Delivery). AreDelivered content t limit all replies sent) (append-nil ds)
      (rest [] (subst (λ (xs : List Recorded). AreDelivered content t limit (map request_content rs) (map recorded_bytes xs) []) (sym none) (no_reply rs)))
    where
      no_reply : (rs : List Request) → AreDelivered content t limit (map request_content rs) [] []
      no_reply [] = refl
      no_reply (r ∷ rs) = refl

  -- no request is left
  pub rest_unasked : (rs : List Request) (items : List Recorded) (ds : List Delivery) → length rs < 1 → IsRest rs items ds → AreDelivered content t limit all replies ds
  rest_unasked [] items ds none rest = subst (λ (sent : List Delivery). AreDelivered content t limit all replies sent) (append-nil ds) (rest [] refl)
  rest_unasked (r ∷ rs) items ds none rest = absurd (omega (arith, none))

-- a list without length is empty
pub no_items : {A : Type 0} (xs : List A) → length xs ≡ 0 → xs ≡ []
no_items [] len = refl
no_items (x ∷ xs) len = absurd (omega (arith, len))

-- each request has its terms
pub terms_length : (settings : Settings) (rs : List RequestContent) (ts : List Terms) → AreTerms settings rs ts → length ts ≡ length rs
terms_length settings [] ts none = ap length none
terms_length settings (r ∷ rs) [] none = absurd none
terms_length settings (r ∷ rs) (t ∷ ts) are = ap (λ (n : ℕ). suc n) (terms_length settings rs ts are.1)

pub length_of_requests : (requests : List Request) → length (map request_content requests) ≡ length requests
length_of_requests [] = refl
length_of_requests (r ∷ rs) = ap (λ (n : ℕ). suc n) (length_of_requests rs)
