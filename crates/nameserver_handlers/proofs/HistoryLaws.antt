-- What a server has sent, and what has become of its zones.
use Rattle.std.proofs.Common.{◌≡◌, ◌∙◌, ◌⊎◌, inl, inr, ℕ, Bool, true, false, if◌then◌else◌, List, [], ◌∷◌, ◌++◌, map, Option, Some, None, Result, Ok, Err, refl, sym, ap, subst}
use Rattle.std.specs.declared.alloc.AllocError.{AllocError}
use Rattle.std.specs.declared.net.socket_addr.SocketAddr.{SocketAddr}
use Rattle.dns_durable.proofs.AnsweringLaws.{answers_stay, front_stays}
use Rattle.dns_durable.proofs.BatchLaws.{all_judged}
use Rattle.dns_durable.specs.Changes.{reply_bytes}
use Rattle.dns_durable.specs.Durable.{Responds}
use Rattle.dns_durable.specs.Incoming.{AreAdmitted, IsAdmitted, changes_in}
use Rattle.dns_durable.specs.Incoming.AreAdmitted.{no_request as no_incoming, a_request as an_incoming}
use Rattle.dns_durable.specs.Reply.{makes_change}
use Rattle.dns_durable.specs.declared.durable_server.Replies.{Replies}
use Rattle.dns_durable.specs.declared.incoming.Admitted.{Admitted}
use Rattle.dns_durable.specs.declared.incoming.Arrived.{Arrived}
use Rattle.dns_durable.specs.declared.incoming.Arrived.TheVariants.{Request, Other}
use Rattle.dns_durable.specs.declared.incoming.Incoming.{Incoming}
use Rattle.dns_durable.specs.declared.incoming.Terms.{Terms}
use Rattle.dns_faults.specs.declared.delivery.Delivery.{Delivery}
use Rattle.dns_faults.specs.declared.rules.fault.Service.{Service}
use Rattle.dns_faults.specs.declared.rules.fault.Service.TheVariants as services
use Rattle.dns_faults.specs.declared.decided.Decided.{Decided}
use Rattle.dns_faults.specs.declared.rules.table.CountedRule.{CountedRule}
use Rattle.dns_journal.specs.Event.{Event}
use Rattle.dns_journal.specs.Storage.{Performs}
use Rattle.dns_journal.specs.declared.journal.Position.{Position}
use Rattle.dns_messages.specs.declared.message.Message.{Message}
use Rattle.dns_nameserver.specs.Former.{Former}
use Rattle.dns_sockets.specs.Handler.{HandlerEvent, RequestContent, Handled, Noticed, Took, Transferred}
use Rattle.dns_sockets.specs.Ledger.{Earns}
use Rattle.dns_sockets.specs.Sent.{IsGiven, IsHandled}
use Rattle.dns_sockets.specs.Sent.IsGiven.{as_notice, as_reply}
use Rattle.dns_sockets.specs.Trace.{Act, At, By, Leads, Socket}
use Rattle.dns_sockets.specs.World.{Sent, WorldEvent}
use Rattle.dns_sockets.specs.declared.datagrams.WaitingReply.{WaitingReply}
use Rattle.dns_sockets.specs.schedule.Schedule.{Waiting}
use Rattle.dns_sockets.proofs.SentLaws.{given}
use Rattle.dns_zone.specs.Rows.{ZoneContent}
use Rattle.nameserver_handlers.proofs.ActLaws.{split}
use Rattle.nameserver_handlers.proofs.RuleLaws.{service_leaves}
use Rattle.nameserver_handlers.specs.ByRules.{AnswersBy, AnswersEach, AnswersOne, AnswersUnless, AnswersWith, ByCurrent, ByFormerIf, ByService, LeavesEach, LeavesWith, Steps, asks_former}
use Rattle.dns_tsig.specs.declared.verify.Checked.{Checked}
use Rattle.nameserver_handlers.specs.ByRules.LeavesEach.{more_left, none_left, one_left}
use Rattle.nameserver_handlers.specs.Handling.{AreIncoming, AreTerms, IsTerms, Keeping, LeavesTogether, Responded, Serves, ServesWith}
use Rattle.nameserver_handlers.specs.History.{IsAnswer, IsHandledAfter, MayUpdate, NoneUpdates, requests_in, requests_of}
use Rattle.nameserver_handlers.specs.History.IsAnswer.{as_notification, to_request}
use Rattle.nameserver_handlers.specs.declared.settings.Settings.{Settings}

-- ---- what is sent

module _ {D H : Type 0} (performs : D → WorldEvent → D → Type 0) (steps : H → HandlerEvent → H → Type 0) where
  of_handled : (w new : D) (h after : H) (acts : List Act) (socket : ℕ) (r : RequestContent) (d : Delivery) (handled : IsHandled socket r d acts) → Leads performs steps w h acts new after
      → IsHandledAfter performs steps w h handled.before handled.requests handled.deliveries
  of_handled w new h after acts socket r d handled leads =
      let parts = split performs steps w new h after handled.before (By (Socket socket) (Handled handled.requests (Some handled.deliveries)) ∷ handled.rest)
      (subst (λ (all : List Act). Leads performs steps w h all new after) handled.acts_are leads) in
      record { reached = parts.0; current = parts.1; next = parts.2.1.0; leads = parts.2.0; step = parts.2.1.1.0 }

  of_given : (w new : D) (h after : H) (acts : List Act) (socket : ℕ) (bytes : List ℕ) (peer : SocketAddr) → Leads performs steps w h acts new after
      → IsGiven socket bytes peer acts → IsAnswer performs steps w h socket bytes peer acts
  of_given w new h after acts socket bytes peer leads (as_reply r d reply handled same_peer same_reply same_bytes) =
      to_request r d reply handled same_peer same_reply same_bytes (of_handled w new h after acts socket r d handled leads)
  of_given w new h after acts socket bytes peer leads (as_notice now is) = as_notification now is

  pub sent_is_answer : (w new : D) (h after : H) (before rest : List Act) (socket : ℕ) (bytes : List ℕ) (peer : SocketAddr) (left : List (Waiting WaitingReply))
      → Leads performs steps w h (before ++ At (Sent socket bytes peer true) ∷ rest) new after
      → Earns [] left (before ++ At (Sent socket bytes peer true) ∷ rest) → IsAnswer performs steps w h socket bytes peer before
  sent_is_answer w new h after before rest socket bytes peer left leads earns =
      let parts = split performs steps w new h after before (At (Sent socket bytes peer true) ∷ rest) leads in
      of_given w parts.0 h parts.1 before socket bytes peer parts.2.0 (given left before rest socket bytes peer earns)

-- ---- requests that are no updates that may be made

true_or_false : (b : Bool) → (b ≡ true) ⊎ (b ≡ false)
true_or_false true = inl refl
true_or_false false = inr refl

module _ (settings : Settings) where
  -- such a request changes nothing
  no_change : (r : RequestContent) (t : Terms) (i : Incoming) (a : Admitted) → ¬ (MayUpdate settings r) → IsTerms settings r t
      → i.bytes.now ≡ r.bytes → i.terms.now ≡ t → IsAdmitted settings.policy i (Request a) → makes_change a ≡ false
  no_change r t i a may_not terms bytes terms_are admitted = by (true_or_false (makes_change a))
    where
      by : (makes_change a ≡ true) ⊎ (makes_change a ≡ false) → makes_change a ≡ false
      by (inr other) = other
      by (inl makes) = absurd (may_not (record {
        request = a;
        bytes_are = ap (λ (x : Incoming). x.bytes.now) admitted.0 ∙ bytes;
        terms_are = subst (λ (x : Terms). IsTerms settings r x) (sym (ap (λ (x : Incoming). x.terms.now) admitted.0 ∙ terms_are)) terms;
        judged = admitted.1;
        is_change = makes;
      }))

  -- none of them has an entry
  none_admitted : (rs : List RequestContent) (ts : List Terms) (incoming : List Incoming) (admitted : List Arrived) → NoneUpdates settings rs
      → AreTerms settings rs ts → AreIncoming rs ts incoming → AreAdmitted settings.policy incoming admitted → changes_in admitted ≡ []
  none_admitted rs ts incoming admitted none terms are no_incoming = refl
  none_admitted [] ts incoming admitted none terms are (an_incoming {incoming = i} {more = more} {a = a} {others = others} one rest) = absurd (cc are.1)
  none_admitted (r ∷ rs) [] incoming admitted none terms are (an_incoming {incoming = i} {more = more} {a = a} {others = others} one rest) = absurd terms
  none_admitted (r ∷ rs) (t ∷ ts) incoming admitted none terms are (an_incoming {incoming = i} {more = more} {a = Request a} {others = others} one rest) =
      ap (λ (first : List (List ℕ)). first ++ changes_in others) (ap (λ (b : Bool). if b then a.incoming.bytes.now ∷ [] else []) (no_change r t i a none.0 terms.0 are.0.0 are.0.1 one))
      ∙ none_admitted rs ts more others none.1 terms.1 are.1 rest
  none_admitted (r ∷ rs) (t ∷ ts) incoming admitted none terms are (an_incoming {incoming = i} {more = more} {a = Other bytes} {others = others} one rest) =
      none_admitted rs ts more others none.1 terms.1 are.1 rest

-- ---- the zones after requests of which none is an update that may be made

-- the zones stay, whatever the outcome
responds_stay : (settings : Settings) (rs : List RequestContent) (ts : List Terms) (incoming : List Incoming) (outcome : Result Replies AllocError) (old new : Position) (zones after : List ZoneContent)
    (es : List Event) → NoneUpdates settings rs → AreTerms settings rs ts → AreIncoming rs ts incoming
    → Responds settings.policy incoming outcome old new zones after es → after ≡ zones
responds_stay settings rs ts incoming outcome old new zones after es none terms are (inl given_up) = given_up.zones_are
responds_stay settings rs ts incoming (Ok replies) old new zones after es none terms are (inr answers) =
    answers_stay settings.policy zones after answers.admitted (none_admitted settings rs ts incoming answers.admitted none terms are answers.are_admitted)
    replies.is_stored (map reply_bytes replies.replies.items) (all_judged settings.policy incoming answers.admitted answers.are_admitted) answers.answers.answered
responds_stay settings rs ts incoming (Err error) old new zones after es none terms are (inr answers) =
    front_stays settings.policy zones after answers.admitted (none_admitted settings rs ts incoming answers.admitted none terms are answers.are_admitted)
    answers.answers.answered

-- ---- the settings, whatever the requests are

module _ {S : Type 0} (performs : S → Event → S → Type 0) where
  abbrev Keeps : Keeping S → Keeping S → Type 0
  Keeps old new = new.settings ≡ old.settings

  same_keep : (old new : Keeping S) → new ≡ old → Keeps old new
  same_keep old new same = ap (λ (k : Keeping S). k.settings) same

  responded_keep : (old : Keeping S) (rs : List RequestContent) (ts : List Terms) (replies : Option (List (Option (List ℕ)))) (mid : Keeping S) → Responded performs old rs ts replies mid → Keeps old mid
  responded_keep old rs ts (Some replies) mid served = served.settings_kept
  responded_keep old rs ts None mid left = left.settings_kept

  served_keep : (old : Keeping S) (rs : List RequestContent) (ts : List Terms) (replies : Option (List (Option (List ℕ)))) (new : Keeping S) → ServesWith performs old rs ts replies new → Keeps old new
  served_keep old rs ts replies new served = served.settled.settings ∙ responded_keep old rs ts replies served.mid served.responded

  serves_keep : (old : Keeping S) (rs : List RequestContent) (replies : Option (List (Option (List ℕ)))) (new : Keeping S) → Serves performs old rs replies new → Keeps old new
  serves_keep old rs replies new serves = served_keep old rs serves.terms replies new serves.served

  leaves_keep : (old : Keeping S) (rs : List RequestContent) (new : Keeping S) → LeavesTogether performs old rs new → Keeps old new
  leaves_keep old rs new (inl same) = same_keep old new same
  leaves_keep old rs new (inr (replies, serves)) = serves_keep old rs replies new serves

  by_keep : (old : Keeping S) (r : RequestContent) (d : Option Decided) (delivery : Delivery) (new : Keeping S) → AnswersBy performs d old r delivery new → Keeps old new
  by_keep old r None delivery new is = serves_keep old (r ∷ []) (Some is.replies) new is.serves
  by_keep old r (Some d) delivery new is =
      same_keep (record is.mid { faults = new.faults }) new (is.new_is ∙ ap (λ t. record is.mid { faults = t }) (sym (ap (λ (k : Keeping S). k.faults) is.new_is)))
      ∙ leaves_keep old (r ∷ []) is.mid (service_leaves performs old is.mid r is.terms is.are_terms d.decision.fault.service d.request is.reply is.served)

  unless_keep : (old : Keeping S) (r : RequestContent) (found : Option (List ℕ)) (decided : Option Decided) (delivery : Delivery) (new : Keeping S) → AnswersUnless performs found decided old r delivery new
      → Keeps old new
  unless_keep old r (Some reply) decided delivery new is = same_keep old new is.1
  unless_keep old r None decided delivery new is = by_keep old r decided delivery new is

  one_keep : (old : Keeping S) (r : RequestContent) (delivery : Delivery) (new : Keeping S) → AnswersOne performs old r delivery new → Keeps old new
  one_keep old r delivery new is = unless_keep old r is.1.1.0 is.0 delivery new is.1.1.1.1

  each_keep : (old new : Keeping S) (rs : List RequestContent) (ds : List Delivery) → AnswersEach performs old rs ds new → Keeps old new
  each_keep old new [] ds is = same_keep old new is.1
  each_keep old new (r ∷ rs) [] is = absurd is
  each_keep old new (r ∷ rs) (d ∷ ds) is = each_keep is.0 new rs ds is.1.1 ∙ one_keep old r d is.0 is.1.0

  left_keep : (old new : Keeping S) (rs : List RequestContent) → LeavesEach performs old rs new → Keeps old new
  left_keep old new rs (none_left old2 rs2) = refl
  left_keep old new rs (one_left old2 r more new2 leaves) = leaves_keep old2 (r ∷ []) new2 leaves
  left_keep old new rs (more_left old2 r more d mid new2 one rest) = left_keep mid new2 more rest ∙ one_keep old2 r d mid one

  with_keep : (rules : List CountedRule) (old new : Keeping S) (rs : List RequestContent) (ds : List Delivery) → AnswersWith performs rules old rs ds new → Keeps old new
  with_keep [] old new rs ds is = serves_keep old rs (Some is.replies) new is.serves
  with_keep (rule ∷ rules) old new rs ds is = each_keep old new rs ds is

  left_with_keep : (rules : List CountedRule) (old new : Keeping S) (rs : List RequestContent) → LeavesWith performs rules old rs new → Keeps old new
  left_with_keep [] old new rs is = leaves_keep old rs new is
  left_with_keep (rule ∷ rules) old new rs is = left_keep old new rs is

  step_keeps : (old new : Keeping S) (event : HandlerEvent) → Steps performs old event new → Keeps old new
  step_keeps old new (Handled rs (Some ds)) step = with_keep old.faults old new rs ds step
  step_keeps old new (Handled rs None) step = left_with_keep old.faults old new rs step
  step_keeps old new (Transferred r is_busy (Some found)) step = same_keep old new step.1
  step_keeps old new (Transferred r is_busy None) step = same_keep old new step
  step_keeps old new (Took r is_taken) step = same_keep old new step
  step_keeps old new (Noticed now notice) step = step.settings

  module _ {D H : Type 0} (world_performs : D → WorldEvent → D → Type 0) (view : H → Keeping S) where
    pub settings_stay : (w new : D) (h after : H) (acts : List Act) → Leads world_performs (λ old event new. Steps performs (view old) event (view new)) w h acts new after
        → (view after).settings ≡ (view h).settings
    settings_stay w new h after [] leads = ap (λ (x : H). (view x).settings) (sym leads.1)
    settings_stay w new h after (At event ∷ acts) leads = settings_stay leads.0 new h after acts leads.1.1
    settings_stay w new h after (By origin event ∷ acts) leads = settings_stay w new leads.0 after acts leads.1.1 ∙ step_keeps (view h) (view leads.0) event leads.1.0

-- ---- the zones, where no request is an update that may be made

module _ {S : Type 0} (performs : S → Event → S → Type 0) where
  -- what stays of a handler
  record Stays (old new : Keeping S) : Type 0 where
    zones : new.zones ≡ old.zones
    settings : new.settings ≡ old.settings

  same_stays : (old new : Keeping S) → new ≡ old → Stays old new
  same_stays old new same = record { zones = ap (λ (k : Keeping S). k.zones) same; settings = ap (λ (k : Keeping S). k.settings) same }

  both_stay : (old mid new : Keeping S) → Stays old mid → Stays mid new → Stays old new
  both_stay old mid new first next = record { zones = next.zones ∙ first.zones; settings = next.settings ∙ first.settings }

  module _ (old : Keeping S) (rs : List RequestContent) (none : NoneUpdates old.settings rs) where
    responded_stay : (ts : List Terms) (replies : Option (List (Option (List ℕ)))) (mid : Keeping S) → AreTerms old.settings rs ts
        → Responded performs old rs ts replies mid → Stays old mid
    responded_stay ts (Some replies) mid terms served = record {
      zones = responds_stay old.settings rs ts served.incoming (Ok served.outcome) old.position mid.position old.zones mid.zones served.serves.events none terms served.are_incoming served.serves.holds;
      settings = served.settings_kept;
    }
    responded_stay ts None mid terms left = record { zones = by left.left; settings = left.settings_kept }
      where
        by : (((mid.storage ≡ old.storage) × (mid.position ≡ old.position)) × (mid.zones ≡ old.zones)) ⊎ ((incoming : List Incoming) × (outcome : Result Replies AllocError) × (AreIncoming rs ts incoming × Performs performs old.storage mid.storage (Responds old.settings.policy incoming outcome old.position mid.position old.zones mid.zones)))
            → mid.zones ≡ old.zones
        by (inl same) = same.1
        by (inr (incoming, outcome, (are, served))) = responds_stay old.settings rs ts incoming outcome old.position mid.position old.zones mid.zones served.events none terms are served.holds

    served_stay : (ts : List Terms) (replies : Option (List (Option (List ℕ)))) (new : Keeping S) → AreTerms old.settings rs ts → ServesWith performs old rs ts replies new → Stays old new
    served_stay ts replies new terms served = both_stay old served.mid new (responded_stay ts replies served.mid terms served.responded)
        (record { zones = served.settled.zones; settings = served.settled.settings })

    serves_stay : (replies : Option (List (Option (List ℕ)))) (new : Keeping S) → Serves performs old rs replies new → Stays old new
    serves_stay replies new serves = served_stay serves.terms replies new serves.are_terms serves.served

    leaves_stay : (new : Keeping S) → LeavesTogether performs old rs new → Stays old new
    leaves_stay new (inl same) = same_stays old new same
    leaves_stay new (inr (replies, serves)) = serves_stay replies new serves

  -- one request
  module _ (old : Keeping S) (r : RequestContent) (may_not : ¬ (MayUpdate old.settings r)) where
    one_stays : (replies : Option (List (Option (List ℕ)))) (new : Keeping S) → Serves performs old (r ∷ []) replies new → Stays old new
    one_stays replies new serves = serves_stay old (r ∷ []) (may_not, tt) replies new serves

    module _ (terms : Terms) (are : IsTerms old.settings r terms) where
      current_stays : (reply : Option (List ℕ)) (new : Keeping S) → ByCurrent performs old r terms reply new → Stays old new
      current_stays reply new is = served_stay old (r ∷ []) (may_not, tt) (terms ∷ []) (Some (reply ∷ [])) new (are, refl) is

      former_stays : (asks : Bool) (f : Option Former) (m : Message) (checked : Checked) (reply : Option (List ℕ)) (new : Keeping S) → ByFormerIf performs asks f old r terms m checked reply new
          → Stays old new
      former_stays true (Some f) m checked reply new is = same_stays old new is.unchanged
      former_stays true None m checked reply new is = current_stays reply new is
      former_stays false f m checked reply new is = current_stays reply new is

      service_stays : (service : Service) (m : Message) (reply : Option (List ℕ)) (new : Keeping S) → ByService performs service old r terms m reply new → Stays old new
      service_stays services.Plain m reply new is = current_stays reply new is
      service_stays services.Stale m reply new is = former_stays (asks_former m.metadata.op_code is.checked.verdict) old.former m is.checked reply new is.answered
      service_stays services.Drop m reply new is = same_stays old new is.1
      service_stays (services.Code number) m reply new is = same_stays old new is.unchanged

    by_stays : (d : Option Decided) (delivery : Delivery) (new : Keeping S) → AnswersBy performs d old r delivery new → Stays old new
    by_stays None delivery new is = one_stays (Some is.replies) new is.serves
    by_stays (Some d) delivery new is =
        let served = service_stays is.terms is.are_terms d.decision.fault.service d.request is.reply is.mid is.served in
        record { zones = ap (λ (k : Keeping S). k.zones) is.new_is ∙ served.zones; settings = ap (λ (k : Keeping S). k.settings) is.new_is ∙ served.settings }

    unless_stays : (found : Option (List ℕ)) (decided : Option Decided) (delivery : Delivery) (new : Keeping S) → AnswersUnless performs found decided old r delivery new → Stays old new
    unless_stays (Some reply) decided delivery new is = same_stays old new is.1
    unless_stays None decided delivery new is = by_stays decided delivery new is

    request_stays : (delivery : Delivery) (new : Keeping S) → AnswersOne performs old r delivery new → Stays old new
    request_stays delivery new is = unless_stays is.1.1.0 is.0 delivery new is.1.1.1.1

  -- several
  none_by : (old mid : Keeping S) (rs : List RequestContent) → Stays old mid → NoneUpdates old.settings rs → NoneUpdates mid.settings rs
  none_by old mid rs stays none = subst (λ (s : Settings). NoneUpdates s rs) (sym stays.settings) none

  each_stays : (old new : Keeping S) (rs : List RequestContent) (ds : List Delivery) → NoneUpdates old.settings rs → AnswersEach performs old rs ds new → Stays old new
  each_stays old new [] ds none is = same_stays old new is.1
  each_stays old new (r ∷ rs) [] none is = absurd is
  each_stays old new (r ∷ rs) (d ∷ ds) none is =
      let first = request_stays old r none.0 d is.0 is.1.0 in
      both_stay old is.0 new first (each_stays is.0 new rs ds (none_by old is.0 rs first none.1) is.1.1)

  left_stays : (old new : Keeping S) (rs : List RequestContent) → NoneUpdates old.settings rs → LeavesEach performs old rs new → Stays old new
  left_stays old new rs none (none_left old2 rs2) = same_stays old old refl
  left_stays old new rs none (one_left old2 r more new2 leaves) = leaves_stay old (r ∷ []) (none.0, tt) new2 leaves
  left_stays old new rs none (more_left old2 r more d mid new2 one rest) =
      let first = request_stays old r none.0 d mid one in
      both_stay old mid new2 first (left_stays mid new2 more (none_by old mid more first none.1) rest)

  with_stays : (rules : List CountedRule) (old new : Keeping S) (rs : List RequestContent) (ds : List Delivery) → NoneUpdates old.settings rs → AnswersWith performs rules old rs ds new → Stays old new
  with_stays [] old new rs ds none is = serves_stay old rs none (Some is.replies) new is.serves
  with_stays (rule ∷ rules) old new rs ds none is = each_stays old new rs ds none is

  left_with_stays : (rules : List CountedRule) (old new : Keeping S) (rs : List RequestContent) → NoneUpdates old.settings rs → LeavesWith performs rules old rs new → Stays old new
  left_with_stays [] old new rs none is = leaves_stay old rs none new is
  left_with_stays (rule ∷ rules) old new rs none is = left_stays old new rs none is

  step_stays : (old new : Keeping S) (event : HandlerEvent) → old.settings.has_journal ≡ false → NoneUpdates old.settings (requests_of event) → Steps performs old event new → Stays old new
  step_stays old new (Handled rs (Some ds)) without none step = with_stays old.faults old new rs ds none step
  step_stays old new (Handled rs None) without none step = left_with_stays old.faults old new rs none step
  step_stays old new (Transferred r is_busy (Some found)) without none step = same_stays old new step.1
  step_stays old new (Transferred r is_busy None) without none step = same_stays old new step
  step_stays old new (Took r is_taken) without none step = same_stays old new step
  step_stays old new (Noticed now notice) without none step = record { zones = step.zones without; settings = step.settings }

  first_none : (settings : Settings) (rs more : List RequestContent) → NoneUpdates settings (rs ++ more) → NoneUpdates settings rs × NoneUpdates settings more
  first_none settings [] more none = (tt, none)
  first_none settings (r ∷ rs) more none = let rest = first_none settings rs more none.1 in ((none.0, rest.0), rest.1)

  module _ {D H : Type 0} (world_performs : D → WorldEvent → D → Type 0) (view : H → Keeping S) where
    pub zones_stay : (w new : D) (h after : H) (acts : List Act) → Leads world_performs (λ old event new. Steps performs (view old) event (view new)) w h acts new after
        → (view h).settings.has_journal ≡ false → NoneUpdates (view h).settings (requests_in acts) → (view after).zones ≡ (view h).zones
    zones_stay w new h after [] leads without none = ap (λ (x : H). (view x).zones) (sym leads.1)
    zones_stay w new h after (At event ∷ acts) leads without none = zones_stay leads.0 new h after acts leads.1.1 without none
    zones_stay w new h after (By origin event ∷ acts) leads without none =
        let both = first_none (view h).settings (requests_of event) (requests_in acts) none in
        let first = step_stays (view h) (view leads.0) event without both.0 leads.1.0 in
        zones_stay w new leads.0 after acts leads.1.1 (ap (λ (s : Settings). s.has_journal) first.settings ∙ without)
        (subst (λ (s : Settings). NoneUpdates s (requests_in acts)) (sym first.settings) both.1) ∙ first.zones
