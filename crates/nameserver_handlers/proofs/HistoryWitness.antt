-- A run that meets the premises of the laws, with nothing assumed of the server. A datagram with the header of a query does not decode.
-- A name server with one zone, and without a journal, a fault table, keys and updaters, answers it with FormErr, and the reply is sent.
--
-- What no definition makes is a parameter, and may be anything: the allocator, the system, the type of the log, the address of the peer,
-- and the storage, which is not called.
use Rattle.std.proofs.Common.{◌≡◌, ◌∙◌, true, false, Bool, Bor, ℕ, zero, suc, List, [], ◌∷◌, ◌++◌, ◌≤◌, length, Some, None, Ok, arith, inl, inr, refl, sym, ap, subst}
use denote.RawPtr.{null_ptr}
use Rattle.std.specs.Prelude.{⊤, replicate, slice_get}
use Rattle.std.specs.Global.{Global, Vec}
use Rattle.std.specs.List.{Contains}
use Rattle.std.specs.Net.Socket.{socket_ip}
use Rattle.std.specs.declared.net.ip_addr.IpAddr.{IpAddr}
use Rattle.std.specs.declared.net.ip_addr.IpAddr.TheVariants.{V4, V6}
use Rattle.std.specs.declared.net.socket_addr.SocketAddr.{SocketAddr}
use Rattle.dns_authority.specs.declared.asked.AnyAnswer.TheVariants.{AllSets}
use Rattle.dns_authority.specs.declared.service.answering.Answering.TheVariants.{Whole}
use Rattle.dns_durable.proofs.CallLaws.{answered as keeps_all}
use Rattle.dns_durable.proofs.ZoneWitness.{takes_none, zone}
use Rattle.dns_durable.specs.Changes.AreChanges.{a_request as a_change, no_request as no_change}
use Rattle.dns_durable.specs.Durable.{Responds}
use Rattle.dns_durable.specs.Incoming.{is_change}
use Rattle.dns_durable.specs.Incoming.AreAdmitted.{a_request as an_incoming, no_request as no_incoming}
use Rattle.dns_durable.specs.Policy.{admission}
use Rattle.dns_durable.specs.Reply.AnswersAll.{a_request, no_request}
use Rattle.dns_durable.specs.declared.draft.Progress.TheVariants.{Idle}
use Rattle.dns_durable.specs.declared.durable_server.Replies.{Replies}
use Rattle.dns_durable.specs.declared.incoming.Arrived.TheVariants.{Other}
use Rattle.dns_durable.specs.declared.incoming.Incoming.{Incoming}
use Rattle.dns_durable.specs.declared.incoming.Terms.{Terms}
use Rattle.dns_durable.specs.declared.policy.Policy.{Policy}
use Rattle.dns_faults.specs.declared.delivery.Delivery.{Delivery}
use Rattle.dns_journal.specs.Event.{Event}
use Rattle.dns_journal.specs.declared.journal.Position.{Position}
use Rattle.dns_journal.specs.declared.journal.State.TheVariants.{Ready}
use Rattle.dns_messages.specs.declared.message.Message.{Message}
use Rattle.dns_messages.specs.declared.op_code.OpCode.{OpCode}
use Rattle.dns_messages.specs.declared.op_code.OpCode.TheVariants as ops
use Rattle.dns_names.specs.declared.reverse.AddrPrefix.{AddrPrefix}
use Rattle.dns_nameserver.specs.Answered.{IsCoverageOf, updates_of}
use Rattle.dns_server.specs.declared.updates.Updates.{Updates}
use Rattle.dns_server.specs.declared.updates.Updates.TheVariants as may
use Rattle.dns_sockets.proofs.LedgerLaws.{turn_earns}
use Rattle.dns_sockets.specs.Datagrams.{Handle, HandlesAt, IsTurn, Receive, datagram_at}
use Rattle.dns_sockets.specs.Handler.{HandlerEvent, Handled, Noticed, NoticeContent, RequestContent}
use Rattle.dns_sockets.specs.Ledger.{Earns}
use Rattle.dns_sockets.specs.Trace.{Act, At, By, Leads, Nowhere, Socket}
use Rattle.dns_sockets.specs.World.{Clocked, Received, Sent, WorldEvent}
use Rattle.dns_sockets.specs.declared.datagrams.Datagram.{Datagram}
use Rattle.dns_sockets.specs.declared.datagrams.WaitingReply.{WaitingReply}
use Rattle.dns_sockets.specs.schedule.Schedule.{ScheduleContent}
use Rattle.dns_tsig.specs.Verify.{verdict_of}
use Rattle.dns_tsig.specs.declared.found.Found.{Found}
use Rattle.dns_tsig.specs.declared.found.Found.TheVariants as found
use Rattle.dns_tsig.specs.declared.key.Key.{Key}
use Rattle.dns_tsig.specs.declared.verify.Verdict.{Verdict}
use Rattle.dns_zone.specs.declared.transport.Transport.TheVariants as replies
use Rattle.dns_zone.specs.declared.zone.serials.Serials.TheVariants.{Kept}
use Rattle.nameserver_handlers.proofs.HistoryLaws.{sent_is_answer, settings_stay, zones_stay}
use Rattle.nameserver_handlers.proofs.MalformedWitness.{decodes_to_none, is_form_err, reply, request}
use Rattle.nameserver_handlers.specs.ByRules.{Steps}
use Rattle.nameserver_handlers.specs.Handling.{AreServed, IsTerms, keeping}
use Rattle.nameserver_handlers.specs.History.{IsAnswer, MayUpdate, NoneUpdates, requests_in}
use Rattle.nameserver_handlers.specs.History.IsAnswer.{as_notification, to_request}
use Rattle.nameserver_handlers.specs.declared.clock.WallClock.TheVariants.{System}
use Rattle.nameserver_handlers.specs.declared.handler.RequestHandler.{RequestHandler}
use Rattle.nameserver_handlers.specs.declared.settings.Settings.{Settings}

-- ---- a server that takes no updates

-- nobody may update by an empty list of addresses
nobody : (address : IpAddr) (covered : Bool) → IsCoverageOf [] address covered → covered ≡ false
nobody (V4 a) covered coverage = coverage
nobody (V6 a) covered coverage = by covered coverage
  where
    by : (covered : Bool) → IsCoverageOf [] (V6 a) covered → covered ≡ false
    by false both = refl
    by true both = absurd (cc (both.1 (λ mapped. cc (both.0 mapped))))

-- nor without a key
not_a_change : (policy : Policy) (keys : policy.keys.items ≡ []) (bytes : List ℕ) (f : Found) (time : ℕ) (m : Message) (op : OpCode)
    → is_change (admission policy (verdict_of policy.keys.items bytes f time) m may.Refused) op ≡ false
not_a_change policy keys bytes f time m op =
    subst (λ (list : List Key). is_change (admission policy (verdict_of list bytes f time) m may.Refused) op ≡ false) (sym keys) (by f op)
  where
    by : (f : Found) (op : OpCode) → is_change (admission policy (verdict_of [] bytes f time) m may.Refused) op ≡ false
    by found.Unsigned ops.Update = refl
    by found.Unsigned ops.Query = refl
    by found.Unsigned ops.Status = refl
    by found.Unsigned ops.Notify = refl
    by found.Unsigned (ops.Unknown number) = refl
    by found.Malformed op = refl
    by (found.Signed signature) op = refl

module _ (settings : Settings) (no_address : settings.updaters ≡ []) (no_key : settings.policy.keys.items ≡ []) where
  -- no request is an update that may be made
  pub nobody_may : (r : RequestContent) → MayUpdate settings r → ⊥
  nobody_may r may_update = cc (sym may_update.is_change ∙ idle)
    where
      local : may_update.request.incoming.terms.now.local ≡ may.Refused
      local = may_update.terms_are.local_is ∙ ap updates_of (nobody (socket_ip r.peer) may_update.terms_are.covered
          (subst (λ (list : List AddrPrefix). IsCoverageOf list (socket_ip r.peer) may_update.terms_are.covered) no_address may_update.terms_are.coverage))

      idle : is_change may_update.request.admission may_update.request.message.metadata.op_code ≡ false
      idle =
          ap (λ a. is_change a may_update.request.message.metadata.op_code)
          (may_update.judged.admission_is
          ∙ ap (λ (v : Verdict). admission settings.policy v may_update.request.message may_update.request.incoming.terms.now.local) may_update.judged.verdict_is
          ∙ ap (λ (u : Updates). admission settings.policy (verdict_of settings.policy.keys.items may_update.request.incoming.bytes.now may_update.request.checked.found may_update.request.incoming.terms.now.time) may_update.request.message u) local)
          ∙ not_a_change settings.policy no_key may_update.request.incoming.bytes.now may_update.request.checked.found may_update.request.incoming.terms.now.time may_update.request.message may_update.request.message.metadata.op_code

  pub none_may : (rs : List RequestContent) → NoneUpdates settings rs
  none_may [] = tt
  none_may (r ∷ rs) = (nobody_may r, none_may rs)

-- ---- a run

-- any world
abbrev pub happens : ⊤ → WorldEvent → ⊤ → Type 0
happens old event new = ⊤

-- an empty list covers no address
not_covered : (address : IpAddr) → IsCoverageOf [] address false
not_covered (V4 a) = refl
not_covered (V6 a) = ((λ mapped. refl), (λ other. refl))

-- a vector of a few items
abbrev vec : {A : Type 0} → Global → (items : List A) → length items ≤ 12 → Vec A
vec heap items few = record { ptr = null_ptr; len = length items; cap = length items; alloc = heap; items = items; ok = (refl, omega arith); small = omega (arith, few) }

-- a borrow of a value
abbrev bor : {A : Type 0} → A → Bor A
bor value = record { ref_ptr = (0, 0); now = value }

-- the position in a journal that keeps nothing
abbrev position : Position
position = record { end = 0; digest = replicate 32 0; key = replicate 16 0; link = record { seal = 0; number = 0 }; state = Ready }

-- no reply waits
abbrev none_waits : ScheduleContent WaitingReply
none_waits = record { items = []; capacity = 4096; pushed = 0 }

-- two values are equal if they are as options
some_same : {A : Type 0} (x y : A) → Some x ≡ Some y → x ≡ y
some_same x y same = cc

-- the only item of a list
only : {A : Type 0} (x y : A) (place : ℕ) → slice_get (x ∷ []) place ≡ Some y → x ≡ y
only x y zero is = some_same x y is
only x y (suc n) is = absurd (cc is)

module _ (heap : Global) where
  -- ---- the server

  -- it takes no updates, and transfers no zones
  abbrev pub settings : Settings
  settings = record {
    policy = record { keys = vec heap [] (omega arith); grants = vec heap [] (omega arith); answering = Whole AllSets Kept };
    limit = 1232;
    updaters = [];
    transfers = record { are_offered = false; secondaries = []; clock = System };
    has_journal = false;
  }

  module _ (peer : SocketAddr) where
    -- ---- the answer

    -- the request, in a datagram
    abbrev pub requested : RequestContent
    requested = datagram_at request peer 5

    abbrev octets : Vec ℕ
    octets = vec heap reply (omega arith)

    -- the reply is sent once, at once
    abbrev pub delivery : Delivery
    delivery = record { reply = Some octets; copies = 1; after_milliseconds = 0; close_after = None }

    abbrev pub call : HandlerEvent
    call = Handled (requested ∷ []) (Some (delivery ∷ []))

    -- the peer may not update without a key
    abbrev terms : Terms
    terms = record { transport = replies.Datagram 1232; local = may.Refused; time = 0 }

    are_terms : IsTerms settings requested terms
    are_terms = record { covered = false; coverage = not_covered (socket_ip peer); transport_is = refl; local_is = refl; time_is = tt }

    abbrev incoming : Incoming
    incoming = record { bytes = bor request; terms = bor terms }

    -- the reply, which changes nothing
    abbrev outcome : Replies
    outcome = record { replies = vec heap (record { bytes = Some octets; change = None } ∷ []) (omega arith); is_stored = true }

    responds : Responds settings.policy (incoming ∷ []) (Ok outcome) position position (zone ∷ []) (zone ∷ []) []
    responds = inr (record {
      admitted = Other incoming ∷ [];
      are_admitted = an_incoming (refl, inl (λ m reads. absurd (decodes_to_none m reads))) no_incoming;
      answers = record {
        keeps = keeps_all position outcome (zone ∷ []) refl (takes_none (zone ∷ []));
        answered = a_request (refl, is_form_err) no_request;
      };
    })

    -- ---- the acts of the service

    abbrev datagram : Datagram
    datagram = record { peer = peer; bytes = vec heap request (omega arith) }

    -- the datagram arrives, the clock is read, and the datagram is handled
    abbrev pub before : List Act
    before = At (Received 0 request peer) ∷ At (Clocked (Some 5)) ∷ By (Socket 0) call ∷ []

    -- the reply is sent
    abbrev pub acts : List Act
    acts = before ++ At (Sent 0 reply peer true) ∷ []

    handled : HandlesAt (Some 5) 0 (datagram ∷ []) none_waits (By (Socket 0) call ∷ At (Sent 0 reply peer true) ∷ []) none_waits
    handled = (
      Some (delivery ∷ []),
      call ∷ [],
      Sent 0 reply peer true ∷ [],
      (
        refl,
        (
          inl refl,
          (Sent 0 reply peer true ∷ [], [], none_waits, (refl, (((refl, ((refl, (refl, refl)), tt)), refl), (refl, refl)))),
        ),
      ),
    )

    -- the acts are a turn of the loop
    pub turn : IsTurn 0 [] none_waits [] none_waits acts
    turn = (
      Receive (At (Received 0 request peer) ∷ []) ∷ Handle (At (Clocked (Some 5)) ∷ By (Socket 0) call ∷ At (Sent 0 reply peer true) ∷ []) ∷ [],
      (
        datagram ∷ [],
        At (Clocked (Some 5)) ∷ By (Socket 0) call ∷ At (Sent 0 reply peer true) ∷ [],
        (
          refl,
          (
            (Received 0 request peer, [], [], (refl, (refl, (Some false, ((refl, (refl, refl)), inr refl))))),
            (
              none_waits,
              [],
              (refl, (inr (Some 5, By (Socket 0) call ∷ At (Sent 0 reply peer true) ∷ [], (refl, handled)), (refl, (refl, refl)))),
            ),
          ),
        ),
      ),
    )

    pub earned : Earns [] [] acts
    earned = turn_earns 0 none_waits none_waits [] acts turn

    -- the only call is this one
    which : (earlier : List Act) (rs : List RequestContent) (ds : List Delivery) (rest : List Act) → before ≡ earlier ++ By (Socket 0) (Handled rs (Some ds)) ∷ rest
        → (rs ≡ requested ∷ []) × (ds ≡ delivery ∷ [])
    which [] rs ds rest is = absurd (cc is)
    which (a ∷ []) rs ds rest is = absurd (cc is)
    which (a ∷ b ∷ []) rs ds rest is = (cc is, cc is)
    which (a ∷ b ∷ c ∷ []) rs ds rest is = absurd (cc is)
    which (a ∷ b ∷ c ∷ d ∷ more) rs ds rest is = absurd (cc is)

    -- no notification is sent
    not_noticed : (now : ℕ) (notice : NoticeContent) → Contains before (By Nowhere (Noticed now (Some notice))) → ⊥
    not_noticed now notice (zero, within, is) = absurd (cc is)
    not_noticed now notice (suc zero, within, is) = absurd (cc is)
    not_noticed now notice (suc (suc zero), within, is) = absurd (cc is)
    not_noticed now notice (suc (suc (suc n)), within, is) = absurd (omega (arith, within))

    -- ---- the run

    module _ {R S : Type 0} (W : Type 0) (performs : S → Event → S → Type 0) (rt : Bor R) (storage : S) where
      abbrev pub old : RequestHandler R S W
      old = record {
        rt = rt;
        server = record { server = zone ∷ []; journal = record { storage = storage; position = position }; draft = Idle };
        former = None;
        faults = [];
        settings = settings;
        recorder = record { histories = vec heap [] (omega arith) };
        notices = record { followers = vec heap [] (omega arith) };
        log = None;
        upkeep = record { journal_limit = 0; retry_limit = 0; is_tended = true; has_failed = false };
      }

      -- it is the same afterwards
      abbrev pub after : RequestHandler R S W
      after = old

      abbrev pub steps : RequestHandler R S W → HandlerEvent → RequestHandler R S W → Type 0
      steps before event now = Steps performs (keeping before) event (keeping now)

      is_served : AreServed performs (keeping old) (requested ∷ []) (terms ∷ []) (Some reply ∷ []) (keeping old)
      is_served = record {
        incoming = incoming ∷ [];
        outcome = outcome;
        are_incoming = ((refl, refl), (refl, refl));
        serves = record { events = []; led = refl; holds = responds };
        replies_are = refl;
        changes = a_change refl no_change;
        recorded = ([], (refl, refl));
        former_follows = (None, (refl, refl));
        settings_kept = refl;
        faults_kept = refl;
      }

      -- by the contract of the handler, the call may lead from the one to the other
      pub step : steps old call after
      step = record {
        replies = Some reply ∷ [];
        serves = record {
          terms = terms ∷ [];
          are_terms = (are_terms, refl);
          served = record {
            mid = keeping old;
            responded = is_served;
            settled = record { storage = λ event next performed. performed; position = refl; zones = refl; settings = refl; recorder = refl; former = refl; faults = refl };
          };
        };
        delivered = ((None, ((None, (refl, refl)), refl)), refl);
      }

      -- the acts lead from the one state to the other
      pub leads : Leads happens steps tt old acts tt after
      leads = (tt, (tt, (tt, (tt, (after, (step, (tt, (tt, (refl, refl)))))))))

      -- ---- what the laws say of the run

      -- the reply is the answer to the request
      pub answered : IsAnswer happens steps tt old 0 reply peer before
      answered = sent_is_answer happens steps tt tt old after before [] 0 reply peer [] leads earned

      -- the settings are as before
      pub same_settings : after.settings ≡ old.settings
      same_settings = settings_stay performs happens keeping tt tt old after acts leads

      -- and so are the zones
      pub zones_as_before : after.server.server ≡ old.server.server
      zones_as_before = zones_stay performs happens keeping tt tt old after acts leads refl (none_may settings refl refl (requests_in acts))

      -- ---- what they exclude

      -- no other bytes are an answer, and none is to another peer
      pub only_answer : (bytes : List ℕ) (to : SocketAddr) → IsAnswer happens steps tt old 0 bytes to before → (bytes ≡ reply) × (to ≡ peer)
      only_answer bytes to (to_request r d v at same_peer same_reply same_bytes after_them) =
          let both = which at.before at.requests at.deliveries at.rest at.acts_are in
          let r_is : requested ≡ r = only requested r at.place (subst (λ (rs : List RequestContent). slice_get rs at.place ≡ Some r) both.0 at.request_is) in
          let d_is : delivery ≡ d = only delivery d at.place (subst (λ (ds : List Delivery). slice_get ds at.place ≡ Some d) both.1 at.delivery_is) in
          let v_is : Some octets ≡ Some v = ap (λ (x : Delivery). x.reply) d_is ∙ same_reply in
          (sym same_bytes ∙ sym (ap (λ (x : Vec ℕ). x.items) (some_same octets v v_is)), sym same_peer ∙ sym (ap (λ (x : RequestContent). x.peer) r_is))
      only_answer bytes to (as_notification now contains) = absurd (not_noticed now (record { peer = to; bytes = bytes }) contains)

      -- the run does not lead to a server with another limit
      pub no_other_limit : Leads happens steps tt old acts tt (record after { settings = record settings { limit = 512 } }) → ⊥
      no_other_limit led =
          let other : 512 ≡ 1232 = ap (λ (s : Settings). s.limit) (settings_stay performs happens keeping tt tt old (record after { settings = record settings { limit = 512 } }) acts led) in
          absurd (omega (arith, other))

      -- nor to one without its zone
      pub no_zone_lost : Leads happens steps tt old acts tt (record after { server = record old.server { server = [] } }) → ⊥
      no_zone_lost led =
          let none : [] ≡ zone ∷ [] = zones_stay performs happens keeping tt tt old (record after { server = record old.server { server = [] } }) acts led refl (none_may settings refl refl (requests_in acts)) in
          absurd (cc none)
