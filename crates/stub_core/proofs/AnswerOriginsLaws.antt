-- Where each answer of a lookup comes from, if each reply to a question has records with an origin.
use Rattle.std.proofs.Common.{◌≡◌, ◌==◌, ◌||◌, inl, inr, Bool, true, false, ℕ, List, [], ◌∷◌, Option, Some, None, Result, Ok, Err, All, Contains, refl, sym, subst, slice_index_or, arith}
use Rattle.std.specs.declared.net.ip_addr.IpAddr.{IpAddr}
use Rattle.std.proofs.lemmas.Bool.Decides.{nat_tests}
use Rattle.std.proofs.lemmas.List.Elements.{All-nil, All-cons, All-head, All-tail, All-append, All-contains_itself, Contains-append_right, Contains-get_or}
use Rattle.dns_wire.specs.codes.RecordType.{type_number}
use Rattle.dns_wire.specs.declared.codes.record_type.RecordType.{RecordType}
use Rattle.dns_wire.specs.declared.codes.record_type.RecordType.TheVariants as types
use Rattle.dns_names.specs.Name.{DomainName}
use Rattle.dns_names.specs.declared.error.ParseError.{ParseError}
use Rattle.dns_data.specs.declared.rdata.RData.{RData}
use Rattle.dns_data.specs.rdata.{data_type}
use Rattle.dns_records.specs.Record.{Record}
use Rattle.dns_messages.specs.Response.{has_type}
use Rattle.dns_messages.specs.declared.query.Query.{Query}
use Rattle.stub_config.specs.declared.strategy.LookupIpStrategy.{LookupIpStrategy}
use Rattle.stub_config.specs.declared.strategy.LookupIpStrategy.TheVariants.{Ipv4Only, Ipv6Only, Ipv4AndIpv6, Ipv6AndIpv4, Ipv6thenIpv4, Ipv4thenIpv6}
use Rattle.stub_lookup.specs.Lookup.{LookupContent, record_for}
use Rattle.stub_lookup.specs.declared.error.NetError.TheVariants as errors
use Rattle.stub_hosts.specs.Hosts.{address_data, address_type, question, static_lookup}
use Rattle.stub_client.specs.AnswerTypes.{is_asked_or_alias}
use Rattle.stub_client.specs.Handle.{IsMessage}
use Rattle.stub_client.specs.Laws.{RecordClaim}
use Rattle.stub_client.specs.Looks.{Reply, out_of_memory}
use Rattle.stub_client.specs.Origins.{Asked}
use Rattle.stub_core.specs.Attempts.{Attempts, AttemptsWithHosts, Continues, Lookups, Unless, UnlessMemory, WithHosts, is_final, no_names}
use Rattle.stub_core.specs.Origins.{AreTyped, ByOrigins, EachAnswer, HostIsFrom, IsAnswer, NameIsFrom, first_of, from_hosts, from_literal, from_question, is_address_record, literal_records, names_of}
use Rattle.stub_core.specs.Resolver.{AnswersHost, AnswersName, LooksUp, LooksUpHost, LooksUpName, is_tried_as_name, known_type, names_for, owner_of}
use Rattle.stub_core.specs.Strategies.{Both, ByStrategy, EndsWith, Joins, LooksUpAddresses, LooksUpIp, OrAddress, Then, fallback_record, is_out_of_memory, kinds_of, no_addresses}
use Rattle.stub_core.specs.declared.resolver.settings.Settings.{Settings}

-- ---- items of lists

among-first : {X : Type 0} (x : X) (xs : List X) → Contains (x ∷ xs) x
among-first x xs = (0, omega arith, refl)

among-second : {X : Type 0} (x y : X) (xs : List X) → Contains (x ∷ y ∷ xs) y
among-second x y xs = (1, omega arith, refl)

-- ---- what holds of each answer

module _ (P : Record → Type 0) where
  abbrev Each : Reply → Type 0
  Each reply = EachAnswer P reply

  abbrev U : Type 0
  U = Unit {0}

  is-each : (given reply : Reply) → reply ≡ given → Each given → Each reply
  is-each given reply same h = subst Each (sym same) h

  message-each : (text : List ℕ) (reply : Reply) → IsMessage text reply → Each reply
  message-each text (Ok lookup) h = absurd h
  message-each text (Err error) h = tt

  -- ---- names

  continues-each : (ends : Bool) (rest : Reply → U → Type 0) (last : Reply) (old : U) (reply : Reply) (new : U) → Each last
      → (rest reply new → Each reply) → Continues ends rest last old reply new → Each reply
  continues-each true rest last old reply new good f h = is-each last reply h.0 good
  continues-each false rest last old reply new good f h = f h

  module _ (tries : Lookups U DomainName) (all : List DomainName)
      (f : (name : DomainName) (old new : U) (reply : Reply) → Contains all name → tries old name reply new → Each reply) where
    attempts-each : (last : Reply) (old : U) (names : List DomainName) (reply : Reply) (new : U) → All (Contains all) names → Each last
        → Attempts tries last old names reply new → Each reply
    attempts-each last old [] reply new are good h = is-each last reply h.0 good
    attempts-each last old (name ∷ names) reply new are good h =
        continues-each (is_final last)
        (λ reply new. (next : Reply) × (mid : U) × tries old name next mid × Attempts tries next mid names reply new)
        last old reply new good
        (λ k. attempts-each k.0 k.1 names reply new (All-tail (Contains all) name names are)
        (f name old k.1 k.0 (All-head (Contains all) name names are) k.2) k.3)
        h

  -- ---- hosts

  unless-each : (known : Option LookupContent) (asks : Reply → U → Type 0) (old : U) (reply : Reply) (new : U)
      → ((lookup : LookupContent) → known ≡ Some lookup → Each (Ok lookup)) → (asks reply new → Each reply)
      → Unless known asks old reply new → Each reply
  unless-each None asks old reply new g f (inl memory) = is-each out_of_memory reply memory.0 tt
  unless-each None asks old reply new g f (inr h) = f h
  unless-each (Some lookup) asks old reply new g f h = elim h.0 [
    | inl same ↦ is-each (Ok lookup) reply same (g lookup refl)
    | inr memory ↦ is-each out_of_memory reply memory tt
  ]

  -- ---- two types

  joins-each : (one two reply : Reply) → Each one → Each two → Joins one two reply → Each reply
  joins-each (Ok first) (Ok second) reply g k (inl h) =
      is-each _ reply h (All-append P first.message.answers second.message.answers g k)
  joins-each (Ok first) (Ok second) reply g k (inr h) = is-each out_of_memory reply h tt
  joins-each (Err first) (Ok second) reply g k h = is-each (Ok second) reply h k
  joins-each one (Err errors.Memory) reply g k h = is-each out_of_memory reply h tt
  joins-each (Ok first) (Err (errors.Dns error)) reply g k h = is-each (Ok first) reply h g
  joins-each (Ok first) (Err (errors.Proto error)) reply g k h = is-each (Ok first) reply h g
  joins-each (Ok first) (Err (errors.Message text)) reply g k h = is-each (Ok first) reply h g
  joins-each (Ok first) (Err (errors.Link fault)) reply g k h = is-each (Ok first) reply h g
  joins-each (Ok first) (Err errors.Unsupported) reply g k h = is-each (Ok first) reply h g
  joins-each (Err first) (Err (errors.Dns error)) reply g k h = is-each (Err first) reply h tt
  joins-each (Err first) (Err (errors.Proto error)) reply g k h = is-each (Err first) reply h tt
  joins-each (Err first) (Err (errors.Message text)) reply g k h = is-each (Err first) reply h tt
  joins-each (Err first) (Err (errors.Link fault)) reply g k h = is-each (Err first) reply h tt
  joins-each (Err first) (Err errors.Unsupported) reply g k h = is-each (Err first) reply h tt

  module _ (tries : Lookups U RecordType) where
    abbrev OfType : RecordType → Type 0
    OfType kind = (old new : U) (reply : Reply) → tries old kind reply new → Each reply

    both-each : (first second : RecordType) → OfType first → OfType second → (old new : U) (reply : Reply)
        → Both tries first second old reply new → Each reply
    both-each first second f g old new reply h =
        continues-each (is_out_of_memory h.0) (λ reply new. (two : Reply) × tries h.1 second two new × Joins h.0 two reply)
        h.0 h.1 reply new (f old h.1 h.0 h.2)
        (λ k. joins-each h.0 k.0 reply (f old h.1 h.0 h.2) (g h.1 new k.0 k.1) k.2) h.3

    then-each : (first second : RecordType) → OfType first → OfType second → (old new : U) (reply : Reply)
        → Then tries first second old reply new → Each reply
    then-each first second f g old new reply h =
        continues-each (is_final h.0) (λ reply new. tries h.1 second reply new) h.0 h.1 reply new (f old h.1 h.0 h.2)
        (λ k. g h.1 new reply k) h.3

    -- one of the types that a strategy asks for
    by_strategy-each : (strategy : LookupIpStrategy) → (Contains (kinds_of strategy) types.A → OfType types.A)
        → (Contains (kinds_of strategy) types.AAAA → OfType types.AAAA) → (old new : U) (reply : Reply)
        → ByStrategy strategy tries old reply new → Each reply
    by_strategy-each Ipv4Only f g old new reply h = f (among-first types.A []) old new reply h
    by_strategy-each Ipv6Only f g old new reply h = g (among-first types.AAAA []) old new reply h
    by_strategy-each Ipv4AndIpv6 f g old new reply h =
        both-each types.A types.AAAA (f (among-first types.A (types.AAAA ∷ []))) (g (among-second types.A types.AAAA [])) old new reply h
    by_strategy-each Ipv6AndIpv4 f g old new reply h =
        both-each types.AAAA types.A (g (among-second types.A types.AAAA [])) (f (among-first types.A (types.AAAA ∷ []))) old new reply h
    by_strategy-each Ipv6thenIpv4 f g old new reply h =
        then-each types.AAAA types.A (g (among-second types.A types.AAAA [])) (f (among-first types.A (types.AAAA ∷ []))) old new reply h
    by_strategy-each Ipv4thenIpv6 f g old new reply h =
        then-each types.A types.AAAA (f (among-first types.A (types.AAAA ∷ []))) (g (among-second types.A types.AAAA [])) old new reply h

  -- ---- what is returned at last

  unless_memory-each : (looks : Type 0) (old : U) (reply : Reply) (new : U) → (looks → Each reply) → UnlessMemory looks old reply new
      → Each reply
  unless_memory-each looks old reply new f (inl memory) = is-each out_of_memory reply memory.0 tt
  unless_memory-each looks old reply new f (inr h) = f h

  or_address-each : (ends : Bool) (rdata : RData) (now : ℕ) (last reply : Reply) → Each last → P (fallback_record rdata)
      → OrAddress ends rdata now last reply → Each reply
  or_address-each true rdata now last reply good literal h = is-each last reply h good
  or_address-each false rdata now last reply good literal (inl h) =
      is-each _ reply h (All-cons P (fallback_record rdata) [] literal (All-nil P))
  or_address-each false rdata now last reply good literal (inr h) = is-each out_of_memory reply h tt

  ends_with-each : (finally : Option RData) (now : ℕ) (last reply : Reply) → Each last
      → ((rdata : RData) → finally ≡ Some rdata → P (fallback_record rdata)) → EndsWith finally now last reply → Each reply
  ends_with-each None now last reply good literal h = is-each last reply h good
  ends_with-each (Some rdata) now last reply good literal h =
      or_address-each (is_final last) rdata now last reply good (literal rdata refl) h

-- ---- lookups of names

module _ (Brought : List Asked → RecordClaim) (history : List Asked) (now : ℕ) (settings : Settings) where
  abbrev asks : Lookups (Unit {0}) Query
  asks = ByOrigins Brought now history

  module _ (kind : RecordType) (names : List DomainName) where
    abbrev Of : Record → Type 0
    Of r = IsAnswer (Brought history) settings.hosts now (kind ∷ []) names (first_of names) [] r

    abbrev OfName : Record → Type 0
    OfName r = has_type kind r ≡ true → Of r

    itself : Contains (kind ∷ []) kind
    itself = Contains-append_right [] (kind ∷ []) kind (All-head (Contains (kind ∷ [])) kind [] (All-contains_itself (kind ∷ [])))

    asked-name : (name : DomainName) (old new : Unit {0}) (reply : Reply) → Contains names name
        → asks old (question name kind) reply new → EachAnswer OfName reply
    asked-name name old new (Ok lookup) there h = λ k d less typed.
        from_question name kind (slice_index_or lookup.message.answers k d) there itself typed (h.brought k d less typed)
    asked-name name old new (Err error) there h = tt

    hosted-name : (name : DomainName) (lookup : LookupContent) → Contains (first_of names) name
        → static_lookup settings.hosts (question name kind) now ≡ Some lookup → EachAnswer OfName (Ok lookup)
    hosted-name name lookup there is = λ k d less typed.
        from_hosts name kind lookup (slice_index_or lookup.message.answers k d) there itself is
        (Contains-get_or lookup.message.answers k d less)

  attempted-names : (kind : RecordType) (names : List DomainName) (old new : Unit {0}) (reply : Reply)
      → AttemptsWithHosts settings.hosts now asks kind old names reply new → EachAnswer (OfName kind names) reply
  attempted-names kind [] old new reply h = message-each (OfName kind []) no_names reply h.0
  attempted-names kind (name ∷ names) old new reply h =
      let all = name ∷ names in
      let P = OfName kind all in
      let are = All-contains_itself all in
      let there : Contains all name = All-head (Contains all) name names are in
      let first : EachAnswer P h.0 =
      unless-each P (static_lookup settings.hosts (question name kind) now) (λ reply new. asks old (question name kind) reply new)
      old h.0 h.1
      (λ lookup is. hosted-name kind all name lookup (All-head (Contains (name ∷ [])) name [] (All-contains_itself (name ∷ []))) is)
      (λ asked. asked-name kind all name old h.1 h.0 there asked) h.2 in
      attempts-each P (λ old name reply new. asks old (question name kind) reply new) all
      (λ other old new reply there asked. asked-name kind all other old new reply there asked)
      h.0 h.1 names reply new (All-tail (Contains all) name names are) first h.3

  answered-name : (name : Result DomainName ParseError) (kind : RecordType) (old new : Unit {0}) (reply : Reply)
      → AnswersName settings now asks name kind old reply new → EachAnswer (OfName kind (names_of settings name)) reply
  answered-name (Err error) kind old new reply h = is-each (OfName kind []) _ reply h.0 tt
  answered-name (Ok name) kind old new reply h = attempted-names kind (names_for settings name) old new reply h

  -- Each answer of a lookup of a name has an origin.
  pub name-is-from : (name : Result DomainName ParseError) (kind : RecordType) (old new : Unit {0}) (reply : Reply)
      → LooksUp settings now asks name kind old reply new → NameIsFrom (Brought history) settings now name kind reply
  name-is-from name kind old new reply h =
      unless_memory-each (OfName (known_type kind) (names_of settings name))
      (AnswersName settings now asks name (known_type kind) old reply new) old reply new
      (λ answers. answered-name name (known_type kind) old new reply answers) h

-- ---- lookups of hosts

four : (n : ℕ) → ((((1 == 255) || (n == 1)) || (n == 5)) ≡ true) → ((n == 1) || (n == 28)) ≡ true → (n == 1) ≡ true
four n h k = grind (arith, nat_tests)

six : (n : ℕ) → ((((28 == 255) || (n == 28)) || (n == 5)) ≡ true) → ((n == 1) || (n == 28)) ≡ true → (n == 28) ≡ true
six n h k = grind (arith, nat_tests)

module _ (Brought : List Asked → RecordClaim) (history : List Asked) (are-typed : AreTyped history) (now : ℕ) (settings : Settings)
    (literals : List Record) where
  abbrev asks_of_host : Lookups (Unit {0}) Query
  asks_of_host = ByOrigins Brought now history

  abbrev kinds : List RecordType
  kinds = kinds_of settings.options.ip_strategy

  module _ (names : List DomainName) where
    abbrev OfHost : Record → Type 0
    OfHost r = is_address_record r ≡ true → IsAnswer (Brought history) settings.hosts now kinds names names literals r

    -- a type of addresses: records of addresses that it has asked for are of this type
    abbrev IsFamily : RecordType → Type 0
    IsFamily kind =
        Contains kinds kind
        × ((name : DomainName) (r : Record) → is_asked_or_alias (question name kind) r ≡ true → is_address_record r ≡ true
        → has_type kind r ≡ true)

    family-a : Contains kinds types.A → IsFamily types.A
    family-a among = (among, λ name r asked is. four (type_number (data_type r.rdata)) asked is)

    family-aaaa : Contains kinds types.AAAA → IsFamily types.AAAA
    family-aaaa among = (among, λ name r asked is. six (type_number (data_type r.rdata)) asked is)

    asked-host : (kind : RecordType) → IsFamily kind → (name : DomainName) (old new : Unit {0}) (reply : Reply) → Contains names name
        → asks_of_host old (question name kind) reply new → EachAnswer OfHost reply
    asked-host kind family name old new (Ok lookup) there h = λ k d less is.
        let r = slice_index_or lookup.message.answers k d in
        let typed : has_type kind r ≡ true = family.1 name r (h.typed are-typed k d less) is in
        from_question name kind r there family.0 typed (h.brought k d less typed)
    asked-host kind family name old new (Err error) there h = tt

    hosted-host : (kind : RecordType) → IsFamily kind → (name : DomainName) (lookup : LookupContent) → Contains names name
        → static_lookup settings.hosts (question name kind) now ≡ Some lookup → EachAnswer OfHost (Ok lookup)
    hosted-host kind family name lookup there same = λ k d less is.
        from_hosts name kind lookup (slice_index_or lookup.message.answers k d) there family.0 same
        (Contains-get_or lookup.message.answers k d less)

    family-each : (kind : RecordType) → IsFamily kind → (name : DomainName) → Contains names name → (old new : Unit {0}) (reply : Reply)
        → WithHosts settings.hosts now asks_of_host old (question name kind) reply new → EachAnswer OfHost reply
    family-each kind family name there old new reply h =
        unless-each OfHost (static_lookup settings.hosts (question name kind) now)
        (λ reply new. asks_of_host old (question name kind) reply new) old reply new
        (λ lookup is. hosted-host kind family name lookup there is)
        (λ asked. asked-host kind family name old new reply there asked) h

    addresses-each : (name : DomainName) (old new : Unit {0}) (reply : Reply) → Contains names name
        → LooksUpAddresses settings.options.ip_strategy settings.hosts now asks_of_host old name reply new → EachAnswer OfHost reply
    addresses-each name old new reply there h =
        by_strategy-each OfHost (λ old kind reply new. WithHosts settings.hosts now asks_of_host old (question name kind) reply new)
        settings.options.ip_strategy
        (λ among old new reply k. family-each types.A (family-a among) name there old new reply k)
        (λ among old new reply k. family-each types.AAAA (family-aaaa among) name there old new reply k) old new reply h

    host-names : (finally : Option RData) → ((rdata : RData) → finally ≡ Some rdata → OfHost (fallback_record rdata))
        → (old new : Unit {0}) (reply : Reply)
        → LooksUpIp settings.options.ip_strategy settings.hosts now asks_of_host finally old names reply new → EachAnswer OfHost reply
    host-names finally literal old new reply h =
        let last : EachAnswer OfHost h.0 =
        attempts-each OfHost
        (λ old name reply new. LooksUpAddresses settings.options.ip_strategy settings.hosts now asks_of_host old name reply new) names
        (λ name old new reply there k. addresses-each name old new reply there k)
        h.1.0 old names h.0 new (All-contains_itself names) (message-each OfHost no_addresses h.1.0 h.1.1) h.1.2 in
        ends_with-each OfHost finally now h.0 reply last literal h.2

  looked-up-name : (finally : Option RData) (name : Result DomainName ParseError)
      → ((rdata : RData) → finally ≡ Some rdata → OfHost (names_of settings name) (fallback_record rdata))
      → (old new : Unit {0}) (reply : Reply)
      → LooksUpName settings now asks_of_host finally name old reply new → EachAnswer (OfHost (names_of settings name)) reply
  looked-up-name finally (Err error) literal old new reply h = is-each (OfHost []) _ reply h.0 tt
  looked-up-name finally (Ok name) literal old new reply h = host-names (names_for settings name) finally literal old new reply h

module _ (Brought : List Asked → RecordClaim) (history : List Asked) (are-typed : AreTyped history) (now : ℕ) (settings : Settings) where
  abbrev asks_at : Lookups (Unit {0}) Query
  asks_at = ByOrigins Brought now history

  some-inside : {X : Type 0} (x y : X) → Some x ≡ Some y → x ≡ y
  some-inside x y h = cc

  answered-host : (tried : Bool) (address : Option IpAddr) (name : Result DomainName ParseError) (old new : Unit {0}) (reply : Reply)
      → AnswersHost settings now asks_at tried address name old reply new
      → EachAnswer (OfHost Brought history are-typed now settings (literal_records tried address name now) (names_of settings name)) reply
  answered-host tried None name old new reply h =
      looked-up-name Brought history are-typed now settings [] None name (λ rdata none. absurd (cc)) old new reply h
  answered-host false (Some address) name old new reply h =
      let P = OfHost Brought history are-typed now settings (literal_records false (Some address) name now) (names_of settings name) in
      let r = record_for (question (owner_of name) (address_type address)) (address_data address) in
      is-each P _ reply h.0 (All-cons P r [] (λ is. from_literal r (among-first r [])) (All-nil P))
  answered-host true (Some address) name old new reply h =
      let r : Record = fallback_record (address_data address) in
      looked-up-name Brought history are-typed now settings (r ∷ []) (Some (address_data address)) name
      (λ rdata some is. from_literal (fallback_record rdata)
      (subst (λ (d : RData). Contains (r ∷ []) (fallback_record d)) (some-inside (address_data address) rdata some) (among-first r [])))
      old new reply h

  -- Each answer with an address of a lookup of a host has an origin.
  pub host-is-from : (address : Option IpAddr) (name : Result DomainName ParseError) (old new : Unit {0}) (reply : Reply)
      → LooksUpHost settings now asks_at address name old reply new → HostIsFrom (Brought history) settings now address name reply
  host-is-from address name old new reply h =
      unless_memory-each
      (OfHost Brought history are-typed now settings (literal_records (is_tried_as_name settings name) address name now) (names_of settings name))
      (AnswersHost settings now asks_at (is_tried_as_name settings name) address name old reply new) old reply new
      (λ answers. answered-host (is_tried_as_name settings name) address name old new reply answers) h
