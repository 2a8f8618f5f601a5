-- How many questions lookups, events and runs ask over any link, and how many datagrams they drop.
use Rattle.std.proofs.Common.{◌≡◌, ◌≤◌, ◌+◌, ◌*◌, take, IfOk, IfSome, Bool, true, false, inl, inr, ℕ, suc, List, [], ◌∷◌, Option, Some, None, Result, Ok, Err, length, refl, sym, ap, subst, ◌∙◌, arith}
use Rattle.std.specs.Prelude.{string_bytes}
use Rattle.std.specs.declared.alloc.AllocError.{AllocError}
use Rattle.std.specs.declared.net.ip_addr.IpAddr.{IpAddr}
use Rattle.dns_wire.specs.declared.codes.record_type.RecordType.{RecordType}
use Rattle.dns_wire.specs.declared.codes.record_type.RecordType.TheVariants as types
use Rattle.dns_names.specs.Name.{DomainName}
use Rattle.dns_names.specs.Parse.{name_of_text}
use Rattle.dns_names.specs.declared.error.ParseError.{ParseError}
use Rattle.dns_data.specs.declared.rdata.RData.{RData}
use Rattle.dns_messages.specs.declared.message.Message.{Message}
use Rattle.dns_messages.specs.declared.query.Query.{Query}
use Rattle.dns_messages.specs.declared.response_code.ResponseCode.{ResponseCode}
use Rattle.stub_config.specs.declared.request_options.DnsRequestOptions.{DnsRequestOptions}
use Rattle.stub_config.specs.declared.strategy.LookupIpStrategy.{LookupIpStrategy}
use Rattle.stub_config.specs.declared.strategy.LookupIpStrategy.TheVariants.{Ipv4Only, Ipv6Only, Ipv4AndIpv6, Ipv6AndIpv4, Ipv6thenIpv4, Ipv4thenIpv6}
use Rattle.stub_lookup.specs.Lookup.{LookupContent}
use Rattle.stub_lookup.specs.declared.error.NetError.{NetError}
use Rattle.stub_lookup.specs.declared.error.NetError.TheVariants as net
use Rattle.stub_hosts.specs.Hosts.{HostsContent, address_data, question, static_lookup}
use Rattle.stub_client.specs.Handle.{Ask, Behavior, Led, Outcome, request_for}
use Rattle.stub_client.specs.Looks.{Answers, Reply}
use Rattle.stub_client.specs.declared.caching_client.CachingClient.{CachingClient}
use Rattle.stub_client.specs.declared.request.DnsRequest.{DnsRequest}
use Rattle.stub_core.specs.Attempts.{Attempts, AttemptsWithHosts, Continues, Lookups, Unless, WithHosts, is_final}
use Rattle.stub_core.specs.Origins.{names_of}
use Rattle.stub_core.specs.Resolver.{AnswersHost, LooksUp, LooksUpHost, LooksUpName, asks_of, is_tried_as_name, known_type, names_for, request_options}
use Rattle.stub_core.specs.Strategies.{Both, Joins, LooksUpAddresses, LooksUpIp, Then, is_out_of_memory, kinds_of}
use Rattle.stub_core.specs.declared.resolver.Resolver.{Resolver}
use Rattle.stub_core.specs.declared.resolver.settings.Settings.{Settings}
use Rattle.stub_link.specs.Ask.{Asker}
use Rattle.stub_link.specs.AskState.{AskState}
use Rattle.stub_link.specs.Link.{calls_of, wire}
use Rattle.stub_link.specs.WireHandle.{Asks, SendsUpdate, asker_of}
use Rattle.stub_link.specs.declared.link.LinkError.{LinkError}
use Rattle.stub_link.specs.declared.wire_handle.WireHandle.{WireHandle}
use Rattle.stub_run.specs.Counts.{AreFew, EachHasFew, HasFew, most_dropped, most_dropped_in, most_questions}
use Rattle.stub_run.specs.Headline.{IsMadeOf, WorldContent, report_in, reported, settings_of}
use Rattle.stub_run.specs.Run.{Clears, Replies, memory_report}
use Rattle.stub_run.specs.RunOver.{IsReportBeforeOver, IsReportOver, LinkRules, RunsOver, StepOver, rules_of, with_sent}
use Rattle.stub_run.specs.declared.event.Action.{Action}
use Rattle.stub_run.specs.declared.event.Action.TheVariants as actions
use Rattle.stub_run.specs.declared.event.Event.{Event}
use Rattle.stub_run.specs.declared.report.EventReply.{EventReply}
use Rattle.stub_run.specs.declared.report.EventReply.TheVariants as replies
use Rattle.stub_run.specs.declared.report.EventReport.{EventReport}
use Rattle.stub_run.specs.declared.report.Report.{Report}
use Rattle.stub_run.specs.declared.report.Stopped.{Stopped}
use Rattle.stub_run.specs.declared.report.Stopped.TheVariants as stops
use Rattle.stub_run.specs.declared.world.World.{World}
use Rattle.stub_run.proofs.Alike.{looks_up-alike, looks_up_host-alike}
use Rattle.stub_run.proofs.Counting.{few-by, fewer, more-questions, no-questions}
use Rattle.stub_run.proofs.Reporting.{take-front, take-whole}
use Rattle.stub_run.proofs.Requests.{ask-tallies, update-tallies}

-- ---- lookups that are only counted

-- each question is one more
abbrev Counts : Lookups ℕ Query
Counts n q reply m = m ≡ suc n

-- at most so many more
abbrev Within : {A : Type 0} → ℕ → Lookups ℕ A → Type 0
Within {A} most tries = (n m : ℕ) (asked : A) (reply : Reply) → tries n asked reply m → m ≤ n + most

module _ (tries : Lookups ℕ DomainName) where
  -- a continuation of names, each of one question, or of two
  attempts-one : Within 1 tries → (last : Reply) (n : ℕ) (names : List DomainName) (reply : Reply) (m : ℕ)
      → Attempts tries last n names reply m → m ≤ n + length names
  attempts-one each last n [] reply m h = omega (arith, h.1)
  attempts-one each last n (name ∷ names) reply m h =
      by (λ next mid more. attempts-one each next mid names reply m more) (is_final last) h
    where
      by : ((next : Reply) (mid : ℕ) → Attempts tries next mid names reply m → m ≤ mid + length names) → (b : Bool)
          → Continues b (λ reply m. (next : Reply) × (mid : ℕ) × tries n name next mid × Attempts tries next mid names reply m) last n reply m
          → m ≤ n + length (name ∷ names)
      by rest true k = omega (arith, k.1)
      by rest false k =
          let first = each n k.1 name k.0 k.2 in
          let more = rest k.0 k.1 k.3 in
          omega (arith, first, more)

  attempts-two : Within 2 tries → (last : Reply) (n : ℕ) (names : List DomainName) (reply : Reply) (m : ℕ)
      → Attempts tries last n names reply m → m ≤ n + length names * 2
  attempts-two each last n [] reply m h = omega (arith, h.1)
  attempts-two each last n (name ∷ names) reply m h =
      by (λ next mid more. attempts-two each next mid names reply m more) (is_final last) h
    where
      by : ((next : Reply) (mid : ℕ) → Attempts tries next mid names reply m → m ≤ mid + length names * 2) → (b : Bool)
          → Continues b (λ reply m. (next : Reply) × (mid : ℕ) × tries n name next mid × Attempts tries next mid names reply m) last n reply m
          → m ≤ n + length (name ∷ names) * 2
      by rest true k = omega (arith, k.1)
      by rest false k =
          let first = each n k.1 name k.0 k.2 in
          let more = rest k.0 k.1 k.3 in
          omega (arith, first, more)

module _ (hosts : HostsContent) (now : ℕ) where
  abbrev Hosted : Lookups ℕ Query
  Hosted n q reply m = WithHosts hosts now Counts n q reply m

  hosted-one : Within 1 Hosted
  hosted-one n m q reply h = by (static_lookup hosts q now) h
    where
      by : (known : Option LookupContent) → Unless known (λ reply m. Counts n q reply m) n reply m → m ≤ n + 1
      by None (inl memory) = omega (arith, memory.1)
      by None (inr k) = omega (arith, k)
      by (Some lookup) k = omega (arith, k.1)

  -- the names of a lookup of records
  names-counted : (kind : RecordType) (n : ℕ) (names : List DomainName) (reply : Reply) (m : ℕ)
      → AttemptsWithHosts hosts now Counts kind n names reply m → m ≤ n + length names
  names-counted kind n [] reply m h = omega (arith, h.1)
  names-counted kind n (name ∷ names) reply m h =
      let first = hosted-one n h.1 (question name kind) h.0 h.2 in
      let rest = attempts-one (λ n name reply m. Counts n (question name kind) reply m)
      (λ n m name reply is. by n m is) h.0 h.1 names reply m h.3 in
      omega (arith, first, rest)
    where
      by : (n m : ℕ) → m ≡ suc n → m ≤ n + 1
      by n m is = omega (arith, is)

  module _ (name : DomainName) where
    abbrev OfType : Lookups ℕ RecordType
    OfType n kind reply m = Hosted n (question name kind) reply m

    type-one : Within 1 OfType
    type-one n m kind reply h = hosted-one n m (question name kind) reply h

    both-two : (first second : RecordType) (n m : ℕ) (reply : Reply) → Both OfType first second n reply m → m ≤ n + 2
    both-two first second n m reply h = by (is_out_of_memory h.0) h.3
      where
        one : h.1 ≤ n + 1
        one = type-one n h.1 first h.0 h.2

        by : (b : Bool) → Continues b (λ reply m. (two : Reply) × OfType h.1 second two m × Joins h.0 two reply) h.0 h.1 reply m → m ≤ n + 2
        by true k = omega (arith, one, k.1)
        by false k = let two = type-one h.1 m second k.0 k.1 in omega (arith, one, two)

    then-two : (first second : RecordType) (n m : ℕ) (reply : Reply) → Then OfType first second n reply m → m ≤ n + 2
    then-two first second n m reply h = by (is_final h.0) h.3
      where
        one : h.1 ≤ n + 1
        one = type-one n h.1 first h.0 h.2

        by : (b : Bool) → Continues b (λ reply m. OfType h.1 second reply m) h.0 h.1 reply m → m ≤ n + 2
        by true k = omega (arith, one, k.1)
        by false k = let two = type-one h.1 m second reply k in omega (arith, one, two)

  -- the names of a lookup of addresses
  addresses-counted : (strategy : LookupIpStrategy) (finally : Option RData) (n : ℕ) (names : List DomainName) (reply : Reply) (m : ℕ)
      → LooksUpIp strategy hosts now Counts finally n names reply m → m ≤ n + length names * length (kinds_of strategy)
  addresses-counted Ipv4Only finally n names reply m h =
      let few = attempts-one (λ n name reply m. LooksUpAddresses Ipv4Only hosts now Counts n name reply m)
      (λ n m name reply k. type-one name n m types.A reply k) h.1.0 n names h.0 m h.1.2 in
      omega (arith, few)
  addresses-counted Ipv6Only finally n names reply m h =
      let few = attempts-one (λ n name reply m. LooksUpAddresses Ipv6Only hosts now Counts n name reply m)
      (λ n m name reply k. type-one name n m types.AAAA reply k) h.1.0 n names h.0 m h.1.2 in
      omega (arith, few)
  addresses-counted Ipv4AndIpv6 finally n names reply m h =
      attempts-two (λ n name reply m. LooksUpAddresses Ipv4AndIpv6 hosts now Counts n name reply m)
      (λ n m name reply k. both-two name types.A types.AAAA n m reply k) h.1.0 n names h.0 m h.1.2
  addresses-counted Ipv6AndIpv4 finally n names reply m h =
      attempts-two (λ n name reply m. LooksUpAddresses Ipv6AndIpv4 hosts now Counts n name reply m)
      (λ n m name reply k. both-two name types.AAAA types.A n m reply k) h.1.0 n names h.0 m h.1.2
  addresses-counted Ipv6thenIpv4 finally n names reply m h =
      attempts-two (λ n name reply m. LooksUpAddresses Ipv6thenIpv4 hosts now Counts n name reply m)
      (λ n m name reply k. then-two name types.AAAA types.A n m reply k) h.1.0 n names h.0 m h.1.2
  addresses-counted Ipv4thenIpv6 finally n names reply m h =
      attempts-two (λ n name reply m. LooksUpAddresses Ipv4thenIpv6 hosts now Counts n name reply m)
      (λ n m name reply k. then-two name types.A types.AAAA n m reply k) h.1.0 n names h.0 m h.1.2

module _ (settings : Settings) (now : ℕ) where
  name-counted : (name : Result DomainName ParseError) (kind : RecordType) (n : ℕ) (reply : Reply) (m : ℕ)
      → LooksUp settings now Counts name kind n reply m → m ≤ n + length (names_of settings name)
  name-counted name kind n reply m (inl memory) = omega (arith, memory.1)
  name-counted (Err error) kind n reply m (inr h) = omega (arith, h.1)
  name-counted (Ok name) kind n reply m (inr h) =
      names-counted settings.hosts now (known_type kind) n (names_for settings name) reply m h

  abbrev most_of_host : Result DomainName ParseError → ℕ
  most_of_host name = length (names_of settings name) * length (kinds_of settings.options.ip_strategy)

  named-counted : (finally : Option RData) (name : Result DomainName ParseError) (n : ℕ) (reply : Reply) (m : ℕ)
      → LooksUpName settings now Counts finally name n reply m → m ≤ n + most_of_host name
  named-counted finally (Err error) n reply m h = omega (arith, h.1)
  named-counted finally (Ok name) n reply m h =
      addresses-counted settings.hosts now settings.options.ip_strategy finally n (names_for settings name) reply m h

  nothing-counted : (n m most : ℕ) → m ≡ n → m ≤ n + most
  nothing-counted n m most same = omega (arith, same)

  answers-counted : (tried : Bool) (address : Option IpAddr) (name : Result DomainName ParseError) (n : ℕ) (reply : Reply) (m : ℕ)
      → AnswersHost settings now Counts tried address name n reply m → m ≤ n + most_of_host name
  answers-counted tried None name n reply m h = named-counted None name n reply m h
  answers-counted false (Some address) name n reply m h = nothing-counted n m (most_of_host name) h.1
  answers-counted true (Some address) name n reply m h = named-counted (Some (address_data address)) name n reply m h

  host-counted : (address : Option IpAddr) (name : Result DomainName ParseError) (n : ℕ) (reply : Reply) (m : ℕ)
      → LooksUpHost settings now Counts address name n reply m → m ≤ n + most_of_host name
  host-counted address name n reply m (inl memory) = nothing-counted n m (most_of_host name) memory.1
  host-counted address name n reply m (inr h) = answers-counted (is_tried_as_name settings name) address name n reply m h

-- ---- over any link

module _ {L : Type 0} (sends : L → List ℕ → Result (Unit {0}) LinkError → L → Type 0)
    (receives : L → Result (Option (List ℕ)) LinkError → L → Type 0) (streams : L → List ℕ → Result (List ℕ) LinkError → L → Type 0)
    (failure_count : L → ℕ) where
  abbrev Gives : Behavior (WireHandle L)
  Gives old request now outcome new = Asks sends receives streams failure_count old request now outcome new

  abbrev Updating : WireHandle L → Message → Result ResponseCode NetError → WireHandle L → Type 0
  Updating old update reply new = SendsUpdate sends receives streams failure_count old update reply new

  pub handle-few : (old new : WireHandle L) (request : DnsRequest) (now : ℕ) (outcome : Outcome) → Gives old request now outcome new
      → AreFew 1 (asker_of old) (asker_of new)
  handle-few old new request now outcome asks =
      few-by (asker_of old) (asker_of new)
      (ask-tallies wire (calls_of sends receives streams) request.message (asker_of old) outcome (asker_of new) asks.ask)

  pub handle-update-few : (old new : WireHandle L) (update : Message) (reply : Result ResponseCode NetError) → Updating old update reply new
      → (new.questions ≤ old.questions) × (new.dropped ≤ old.dropped + 16)
  handle-update-few old new update reply sent =
      let t = update-tallies wire (calls_of sends receives streams) update (asker_of old) reply (asker_of new) sent.sent in
      let questions = t.questions in
      (omega (arith, questions), t.dropped)

  handles-few : (options : DnsRequestOptions) (now : ℕ) (old : WireHandle L) (asks : List Ask) (new : WireHandle L)
      → Led Gives options now old asks new → AreFew (length asks) (asker_of old) (asker_of new)
  handles-few options now old [] new h = no-questions (asker_of old) (asker_of new) (ap (λ (x : WireHandle L). asker_of x) h)
  handles-few options now old (ask ∷ asks) new h =
      more-questions (length asks) (asker_of old) (asker_of h.0) (asker_of new)
      (handle-few old h.0 (request_for ask.question options) now ask.outcome h.1) (handles-few options now h.0 asks new h.2)

  pub client-few : (options : DnsRequestOptions) (now : ℕ) (old new : CachingClient (WireHandle L)) (q : Query) (reply : Reply)
      → Answers Gives options now old q reply new → AreFew 8 (asker_of old.handle) (asker_of new.handle)
  client-few options now old new q reply answers =
      fewer (length answers.asks) 8 (asker_of old.handle) (asker_of new.handle) answers.few
      (handles-few options now old.handle answers.asks new.handle answers.led)

  module _ (now : ℕ) (old new : Resolver (WireHandle L)) where
    -- a client after so many questions of its own
    abbrev HasAsked : CachingClient (WireHandle L) → ℕ → Type 0
    HasAsked client n = AreFew (8 * n) (asker_of old.client.handle) (asker_of client.handle)

    eight-more : (n : ℕ) (first mid last : Asker L) → AreFew (8 * n) first mid → AreFew 8 mid last → AreFew (8 * suc n) first last
    eight-more n first mid last one two =
        let asked = one.questions in
        let more = two.questions in
        let dropped = one.dropped in
        let others = two.dropped in
        record { questions = omega (arith, asked, more); dropped = omega (arith, dropped, others) }

    one-counted : (before after : CachingClient (WireHandle L)) (n : ℕ) (q : Query) (reply : Reply) → HasAsked before n
        → asks_of Gives now old before q reply after → (m : ℕ) × HasAsked after m × Counts n q reply m
    one-counted before after n q reply h answers = (
      suc n,
      eight-more n (asker_of old.client.handle) (asker_of before.handle) (asker_of after.handle) h
          (client-few (request_options old.settings.options) now before after q reply answers),
      refl,
    )

    none-asked : HasAsked old.client 0
    none-asked = record { questions = omega arith; dropped = omega arith }

    at-most : (m most : ℕ) → m ≤ 0 + most → HasAsked new.client m → AreFew (8 * most) (asker_of old.client.handle) (asker_of new.client.handle)
    at-most m most within few = fewer (8 * m) (8 * most) (asker_of old.client.handle) (asker_of new.client.handle) (omega (arith, within)) few

    pub name-few : (name : Result DomainName ParseError) (kind : RecordType) (reply : Reply)
        → LooksUp old.settings now (asks_of Gives now old) name kind old.client reply new.client
        → AreFew (8 * length (names_of old.settings name)) (asker_of old.client.handle) (asker_of new.client.handle)
    name-few name kind reply h =
        let led = looks_up-alike HasAsked now (asks_of Gives now old) Counts one-counted old.settings name kind old.client new.client 0 reply
        none-asked h in
        at-most led.0 (length (names_of old.settings name)) (name-counted old.settings now name kind 0 reply led.0 led.2) led.1

    pub host-few : (address : Option IpAddr) (name : Result DomainName ParseError) (reply : Reply)
        → LooksUpHost old.settings now (asks_of Gives now old) address name old.client reply new.client
        → AreFew (8 * most_of_host old.settings now name) (asker_of old.client.handle) (asker_of new.client.handle)
    host-few address name reply h =
        let led = looks_up_host-alike HasAsked now (asks_of Gives now old) Counts one-counted old.settings address name old.client new.client 0
        reply none-asked h in
        at-most led.0 (most_of_host old.settings now name) (host-counted old.settings now address name 0 reply led.0 led.2) led.1

  -- ---- events

  -- what an event adds, where nothing is counted as it begins
  record AddsFew (settings : Settings) (action : Action) (old new : WireHandle L) : Type 0 where
    questions : new.questions ≤ old.questions + most_questions settings action
    dropped : new.dropped ≤ old.dropped + most_dropped settings action

  same-few : (settings : Settings) (action : Action) (old new : WireHandle L) → new ≡ old → AddsFew settings action old new
  same-few settings action old new same = subst (λ (x : WireHandle L). AddsFew settings action old x) (sym same)
      (record { questions = omega arith; dropped = omega arith })

  cleared-handle : (name : DomainName) (kind : RecordType) (old : Resolver (WireHandle L)) (done : Result (Unit {0}) NetError)
      (new : Resolver (WireHandle L)) → Clears name kind old done new → new.client.handle ≡ old.client.handle
  cleared-handle name kind old (Ok done) new h = ap (λ (r : Resolver (WireHandle L)). r.client.handle) h
  cleared-handle name kind old (Err net.Memory) new h = ap (λ (r : Resolver (WireHandle L)). r.client.handle) h
  cleared-handle name kind old (Err (net.Dns e)) new h = absurd h
  cleared-handle name kind old (Err (net.Proto e)) new h = absurd h
  cleared-handle name kind old (Err (net.Message e)) new h = absurd h
  cleared-handle name kind old (Err (net.Link e)) new h = absurd h
  cleared-handle name kind old (Err net.Unsupported) new h = absurd h

  cleared-settings : (name : DomainName) (kind : RecordType) (old : Resolver (WireHandle L)) (done : Result (Unit {0}) NetError)
      (new : Resolver (WireHandle L)) → Clears name kind old done new → new.settings ≡ old.settings
  cleared-settings name kind old (Ok done) new h = ap (λ (r : Resolver (WireHandle L)). r.settings) h
  cleared-settings name kind old (Err net.Memory) new h = ap (λ (r : Resolver (WireHandle L)). r.settings) h
  cleared-settings name kind old (Err (net.Dns e)) new h = absurd h
  cleared-settings name kind old (Err (net.Proto e)) new h = absurd h
  cleared-settings name kind old (Err (net.Message e)) new h = absurd h
  cleared-settings name kind old (Err (net.Link e)) new h = absurd h
  cleared-settings name kind old (Err net.Unsupported) new h = absurd h

  replies-few : (old new : Resolver (WireHandle L)) (at : ℕ) (action : Action) (reply : EventReply)
      → Replies Gives Updating old at action reply new → AddsFew old.settings action old.client.handle new.client.handle
  replies-few old new at (actions.Lookup name kind) (replies.Lookup found) h =
      let few = name-few at old new (Ok name) kind found h.lookup in
      let questions = few.questions in
      let dropped = few.dropped in
      record { questions = questions; dropped = dropped }
  replies-few old new at (actions.LookupIp host) (replies.LookupIp found) h =
      let few = host-few at old new h.address (name_of_text (string_bytes host)) found h.lookup in
      let questions = few.questions in
      let dropped = few.dropped in
      record { questions = questions; dropped = dropped }
  replies-few old new at (actions.Clear name kind) (replies.Cleared done) h =
      same-few old.settings (actions.Clear name kind) old.client.handle new.client.handle (cleared-handle name kind old done new h)
  replies-few old new at actions.ClearAll (replies.Cleared done) h =
      same-few old.settings actions.ClearAll old.client.handle new.client.handle
      (ap (λ (r : Resolver (WireHandle L)). r.client.handle) h.1)
  replies-few old new at (actions.Update update) (replies.Update reply) h =
      let few = handle-update-few old.client.handle new.client.handle update.value reply h.sent in
      record { questions = omega (arith, few.0); dropped = few.1 }
  replies-few old new at action reply h = absurd h

  replies-settings : (old new : Resolver (WireHandle L)) (at : ℕ) (action : Action) (reply : EventReply)
      → Replies Gives Updating old at action reply new → new.settings ≡ old.settings
  replies-settings old new at (actions.Lookup name kind) (replies.Lookup found) h = h.settings
  replies-settings old new at (actions.LookupIp host) (replies.LookupIp found) h = h.settings
  replies-settings old new at (actions.Clear name kind) (replies.Cleared done) h = cleared-settings name kind old done new h
  replies-settings old new at actions.ClearAll (replies.Cleared done) h = ap (λ (r : Resolver (WireHandle L)). r.settings) h.1
  replies-settings old new at (actions.Update update) (replies.Update reply) h = ap (λ (r : Resolver (WireHandle L)). r.settings) h.rest
  replies-settings old new at action reply h = absurd h

  -- ---- runs

  module _ (begins : L → Event → L → Type 0) (ends : L → Result (Unit {0}) AllocError → L → Type 0) (is_out : L → Bool) where
    abbrev rules : LinkRules L
    rules = rules_of begins ends is_out sends receives streams failure_count

    record StepsFew (settings : Settings) (e : Event) (report : EventReport) (old new : Resolver (WireHandle L)) : Type 0 where
      same : new.settings ≡ settings
      questions : report.questions ≤ most_questions settings e.action
      dropped : new.client.handle.dropped ≤ old.client.handle.dropped + most_dropped settings e.action

    step-few : (settings : Settings) (old : Resolver (WireHandle L)) (e : Event) (report : EventReport) (new : Resolver (WireHandle L))
        → old.settings ≡ settings → StepOver rules old e report new → StepsFew settings e report old new
    step-few settings old e report new same s =
        let begun = s.happens.begun in
        let rest = s.happens.begins.rest in
        let begun-settings : begun.settings ≡ settings = ap (λ (r : Resolver (WireHandle L)). r.settings) rest ∙ same in
        let adds = subst (λ (t : Settings). AddsFew t e.action begun.client.handle s.replied.client.handle) begun-settings
        (replies-few begun s.replied e.at e.action report.reply s.happens.replies) in
        let none : begun.client.handle.questions ≡ 0 = ap (λ (r : Resolver (WireHandle L)). r.client.handle.questions) rest in
        let before : begun.client.handle.dropped ≡ old.client.handle.dropped =
        ap (λ (r : Resolver (WireHandle L)). r.client.handle.dropped) rest in
        let last : new.client.handle.questions ≡ s.replied.client.handle.questions =
        ap (λ (r : Resolver (WireHandle L)). r.client.handle.questions) s.ends.rest in
        let after : new.client.handle.dropped ≡ s.replied.client.handle.dropped =
        ap (λ (r : Resolver (WireHandle L)). r.client.handle.dropped) s.ends.rest in
        let asked = adds.questions in
        let drops = adds.dropped in
        let told = s.questions in
        record {
          same = ap (λ (r : Resolver (WireHandle L)). r.settings) s.ends.rest
              ∙ replies-settings begun s.replied e.at e.action report.reply s.happens.replies ∙ begun-settings;
          questions = omega (arith, asked, none, last, told);
          dropped = omega (arith, drops, before, after);
        }

    runs-few : (settings : Settings) (old : Resolver (WireHandle L)) (events : List Event) (reports : List EventReport)
        (states : List (Resolver (WireHandle L))) (last : Resolver (WireHandle L)) → old.settings ≡ settings
        → RunsOver rules old events reports states last
        → EachHasFew settings events reports × (last.client.handle.dropped ≤ old.client.handle.dropped + most_dropped_in settings events)
    runs-few settings old [] [] [] last same runs =
        let dropped : last.client.handle.dropped ≡ old.client.handle.dropped =
        ap (λ (r : Resolver (WireHandle L)). r.client.handle.dropped) runs in
        (tt, omega (arith, dropped))
    runs-few settings old (e ∷ events) (report ∷ reports) (state ∷ states) last same runs =
        let s = step-few settings old e report state same runs.0 in
        let rest = runs-few settings state events reports states last s.same runs.1 in
        let dropped = s.dropped in
        ((s.questions, rest.0), omega (arith, dropped, rest.1))
    runs-few settings old [] [] (state ∷ states) last same runs = absurd runs
    runs-few settings old [] (report ∷ reports) states last same runs = absurd runs
    runs-few settings old (e ∷ events) [] states last same runs = absurd runs
    runs-few settings old (e ∷ events) (report ∷ reports) [] last same runs = absurd runs

    pub report-few : (first : Resolver (WireHandle L)) (events : List Event) (report : Report) → IsReportOver rules first events report
        → HasFew first.settings first.client.handle.dropped events report
    report-few first events report r =
        let run = r.has_run in
        let few = runs-few first.settings (with_sent first run.ids) events report.events.items run.states r.last refl run.runs in
        let told = r.dropped in
        record { questions = few.0; dropped = omega (arith, told, few.1) }

    -- ---- the events that a report has reached

    runs-over-length : (old : Resolver (WireHandle L)) (events : List Event) (reports : List EventReport)
        (states : List (Resolver (WireHandle L))) (last : Resolver (WireHandle L)) → RunsOver rules old events reports states last
        → length reports ≡ length events
    runs-over-length old [] [] [] last runs = refl
    runs-over-length old (e ∷ events) (report ∷ reports) (state ∷ states) last runs =
        ap suc (runs-over-length state events reports states last runs.1)
    runs-over-length old [] [] (state ∷ states) last runs = absurd runs
    runs-over-length old [] (report ∷ reports) states last runs = absurd runs
    runs-over-length old (e ∷ events) [] states last runs = absurd runs
    runs-over-length old (e ∷ events) (report ∷ reports) [] last runs = absurd runs

    reached : (first : Resolver (WireHandle L)) (events : List Event) (report : Report) → IsReportOver rules first events report
        → length report.events.items ≡ length events
    reached first events report r =
        let run = r.has_run in
        runs-over-length (with_sent first run.ids) events report.events.items run.states r.last run.runs

    pub result-few : (first : Resolver (WireHandle L)) (events : List Event) (result : Result Report Stopped)
        → IfOk result (λ report. IsReportOver rules first events report)
        → IfSome (memory_report result) (λ report. IsReportBeforeOver rules first events report)
        → IfSome (report_in result) (λ report. HasFew first.settings first.client.handle.dropped (reported events report) report)
    result-few first events (Ok report) run stopped =
        let same : reported events report ≡ events =
        ap (λ (n : ℕ). take n events) (reached first events report run) ∙ take-whole events in
        subst (λ (es : List Event). HasFew first.settings first.client.handle.dropped es report) (sym same) (report-few first events report run)
    result-few first events (Err (stops.Memory report)) run stopped =
        let es : List Event = take stopped.count events in
        let same : reported events report ≡ es =
        ap (λ (n : ℕ). take n events) (reached first es report stopped.reported) ∙ take-front stopped.count events in
        subst (λ (all : List Event). HasFew first.settings first.client.handle.dropped all report) (sym same)
        (report-few first es report stopped.reported)
    result-few first events (Err stops.Moments) run stopped = tt

-- ---- worlds

-- the few of a world, by what it is made of
pub world-few : (world : World) (events : List Event) (result : Result Report Stopped)
    → IfSome (report_in result)
    (λ report. HasFew world.resolver.settings world.resolver.client.handle.dropped (reported events report) report)
    → IfSome (report_in result)
    (λ report. (content : WorldContent) → IsMadeOf world content → HasFew (settings_of content) 0 (reported events report) report)
world-few world events result few = by (report_in result) few
  where
    settings-are : (content : WorldContent) → IsMadeOf world content → world.resolver.settings ≡ settings_of content
    settings-are content made = sym made.begins.alike.settings ∙ made.first.settings

    dropped-is : (content : WorldContent) → IsMadeOf world content → world.resolver.client.handle.dropped ≡ 0
    dropped-is content made =
        let handle = made.begins.alike.client.handle in
        (handle.shows (handle.link.memory ∙ made.begins.memory)).dropped ∙ ap (λ (a : AskState). a.dropped) made.first.asks

    by : (o : Option Report)
        → IfSome o (λ report. HasFew world.resolver.settings world.resolver.client.handle.dropped (reported events report) report)
        → IfSome o
        (λ report. (content : WorldContent) → IsMadeOf world content → HasFew (settings_of content) 0 (reported events report) report)
    by None h = tt
    by (Some report) h = λ content made.
        subst (λ (n : ℕ). HasFew (settings_of content) n (reported events report) report) (dropped-is content made)
        (subst (λ (t : Settings). HasFew t world.resolver.client.handle.dropped (reported events report) report) (settings-are content made) h)
