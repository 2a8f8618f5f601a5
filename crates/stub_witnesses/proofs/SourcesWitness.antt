-- Lookups of which the law on sources speaks: an alias and the address that it leads to, both returned at first, and 20 seconds later from
-- the cache, when the zone has another address. Aliases are preserved, and a minimum raises all TTLs to an hour.
use Rattle.std.proofs.Common.{◌≡◌, ◌≤◌, ℕ, true, false, List, [], ◌∷◌, Some, Ok, Err, All, Contains, Vec, Global, refl, sym, ap, subst, ◌∙◌, inl, inr, codes, length, arith}
use Rattle.std.specs.FinMap as rows_map
use Rattle.std.proofs.lemmas.Bool.{cond_both}
use Rattle.std.proofs.lemmas.List.Elements.{All-cons, All-contains, All-nil, All-weaker, Contains-append_right}
use Rattle.dns_wire.specs.codes.DNSClass.{class_number, class_of}
use Rattle.dns_wire.specs.codes.RecordType.{type_number, type_of}
use Rattle.dns_wire.specs.declared.codes.dns_class.DNSClass.{DNSClass}
use Rattle.dns_wire.specs.declared.codes.dns_class.DNSClass.TheVariants as classes
use Rattle.dns_wire.specs.declared.codes.record_type.RecordType.{RecordType}
use Rattle.dns_wire.specs.declared.codes.record_type.RecordType.TheVariants as types
use Rattle.dns_names.specs.Name.{DomainName}
use Rattle.dns_text.specs.Usage.{is_loopback, is_nonexistent}
use Rattle.dns_data.specs.declared.rdata.RData.{RData}
use Rattle.dns_data.specs.declared.rdata.RData.TheVariants as of
use Rattle.dns_records.specs.Record.{Record}
use Rattle.dns_records.specs.Rows.{Rows, key, rows_at}
use Rattle.dns_records.specs.declared.row.Row.{Row}
use Rattle.dns_messages.specs.Message.{all_records}
use Rattle.dns_messages.specs.declared.message.Message.{Message}
use Rattle.dns_messages.specs.declared.query.Query.{Query}
use Rattle.dns_messages.specs.declared.response.DnsResponse.{DnsResponse}
use Rattle.dns_messages.specs.declared.response_code.ResponseCode.TheVariants.{NXDomain}
use Rattle.dns_zone.proofs.RowLaws.{key_total}
use Rattle.stub_lookup.specs.Lookup.{lookup_of, response_to}
use Rattle.stub_cache.specs.Cache.{CacheContent, storing}
use Rattle.stub_cache.specs.Ttl.{TtlConfigContent, default_bounds, plain_config}
use Rattle.stub_client.specs.Handle.{Ask, Outcome}
use Rattle.stub_client.specs.Looks.{Looks}
use Rattle.stub_client.specs.SpecialNames.{in_class, loopback_answer, loopback_data, name_answer, special_answer}
use Rattle.stub_client.specs.Step.{meaning}
use Rattle.stub_client.specs.declared.caching_client.step.LookupSettings.{LookupSettings}
use Rattle.stub_client.specs.declared.special_names.SpecialAnswer.{SpecialAnswer}
use Rattle.stub_client.specs.declared.special_names.SpecialAnswer.TheVariants.{Ordinary, Loopback, Nothing}
use Rattle.stub_link.specs.LinkState.{Version}
use Rattle.stub_laws.specs.history.Stands.{StandAt}
use Rattle.stub_laws.specs.answers.Sources.{EachReceived, EntryHasSources, HasSource, IsOfHost, IsRowNow}
use Rattle.stub_laws.proofs.AnswerRowLaws.{number_of}
use Rattle.stub_laws.proofs.SourcesLaws.{sources-keep}
use Rattle.stub_laws.proofs.StandLaws.{contains-head}

-- ---- the zone t., at 0 and at 10

abbrev full : List (List ℕ) → DomainName
full labels = record { is_fqdn = true; labels = labels }

abbrev host : DomainName
host = full (codes "a" ∷ codes "t" ∷ [])

abbrev alias : DomainName
alias = full (codes "w" ∷ codes "t" ∷ [])

abbrev address : ℕ → RData
address last = of.A (record { 0 = record { octets = 10 ∷ 0 ∷ 0 ∷ last ∷ [] } })

abbrev alias_of : DomainName → RData
alias_of target = of.CNAME (record { 0 = target })

abbrev row : RData → Row
row d = record { ttl = 60; rdata = d }

abbrev rows : ℕ → Rows
rows last = rows_map.from_entries (
    (key host.labels types.A, row (address last) ∷ [])
    ∷ (key alias.labels types.CNAME, row (alias_of host) ∷ [])
    ∷ [])

abbrev versions : List Version
versions = record { moment = 0; rows = rows 1 } ∷ record { moment = 10; rows = rows 2 } ∷ []

addresses : (last : ℕ) → rows_at (rows last) host.labels types.A ≡ row (address last) ∷ []
addresses last = simp (rows_map.get-insert {X = List Row} key_total)

aliases : (last : ℕ) → rows_at (rows last) alias.labels types.CNAME ≡ row (alias_of host) ∷ []
aliases last = simp (rows_map.get-insert {X = List Row} key_total)

first_stands : StandAt versions 0 (rows 1)
first_stands = record {
  before = [];
  since = 0;
  after = record { moment = 10; rows = rows 2 } ∷ [];
  split = refl;
  begun = omega arith;
  lasts = omega arith;
}

-- ---- two lookups

abbrev an_hour : TtlConfigContent
an_hour = plain_config (record default_bounds { positive_min = Some 3600 })

abbrev preserving : LookupSettings
preserving = record { preserve_intermediates = true; dnssec_ok = false }

abbrev q : Query
q = record { name = alias; query_type = types.A; query_class = classes.IN }

abbrev at : DomainName → ℕ → RData → Record
at name ttl rdata = record { name = name; dns_class = classes.IN; ttl = ttl; rdata = rdata }

-- both records, with a TTL
abbrev both : ℕ → List Record
both ttl = at alias ttl (alias_of host) ∷ at host ttl (address 1) ∷ []

abbrev empty : CacheContent
empty = record { entries = []; capacity = 32; config = an_hour }

abbrev full_cache : CacheContent
full_cache = storing empty q (Ok (response_to q (both 60))) 0

-- the message of an outcome
abbrev message_in : Message → Outcome → Message
message_in other (Ok r) = r.message
message_in other (Err error) = other

module _ (buffer : Vec ℕ Global) where
  abbrev asks : List Ask
  asks = record { question = q; outcome = Ok (record { message = response_to q (both 60); buffer = buffer }) } ∷ []

  -- the first lookup returns both, with an hour in place of the minute
  first_lookup : Looks preserving 0 0 [] empty q asks (Ok (lookup_of q (both 3600) 3600)) full_cache
  first_lookup = (refl, refl, refl, inr (refl, inl (refl, refl)))

  -- the second one, at 20, returns both from the cache
  second_lookup : Looks preserving 20 0 [] full_cache q [] (Ok (lookup_of q (both 3580) 3600)) full_cache
  second_lookup = (refl, inr refl, λ memory. tt)

  -- ---- the premises of the law

  alias_row : IsRowNow versions 0 (at alias 60 (alias_of host))
  alias_row = record {
    rows = rows 1;
    row = row (alias_of host);
    stand = first_stands;
    holds = subst (λ (rs : List Row). Contains rs (row (alias_of host))) (sym (aliases 1)) (contains-head (row (alias_of host)) []);
    same_data = refl;
    lower = omega arith;
  }

  address_row : IsRowNow versions 0 (at host 60 (address 1))
  address_row = record {
    rows = rows 1;
    row = row (address 1);
    stand = first_stands;
    holds = subst (λ (rs : List Row). Contains rs (row (address 1))) (sym (addresses 1)) (contains-head (row (address 1)) []);
    same_data = refl;
    lower = omega arith;
  }

  both_rows : All (IsRowNow versions 0) (both 60)
  both_rows =
      All-cons (IsRowNow versions 0) (at alias 60 (alias_of host)) (at host 60 (address 1) ∷ []) alias_row
      (All-cons (IsRowNow versions 0) (at host 60 (address 1)) [] address_row (All-nil (IsRowNow versions 0)))

  received : EachReceived (IsRowNow versions 0) asks
  received =
      All-cons (λ (ask : Ask). (response : DnsResponse) → meaning ask.outcome ≡ Ok response → All (IsRowNow versions 0) (all_records response.message))
      (record { question = q; outcome = Ok (record { message = response_to q (both 60); buffer = buffer }) }) []
      (λ response means. (let same : response_to q (both 60) ≡ response.message = ap (message_in (response_to q (both 60))) means in
      subst (λ (m : Message). All (IsRowNow versions 0) (all_records m)) same both_rows))
      (All-nil (λ (ask : Ask). (response : DnsResponse) → meaning ask.outcome ≡ Ok response → All (IsRowNow versions 0) (all_records response.message)))

  -- ---- what the law says

  at_first : All (EntryHasSources an_hour versions 0) full_cache.entries × All (HasSource an_hour versions 0) (both 3600)
  at_first =
      sources-keep an_hour versions preserving 0 0 [] empty q asks (Ok (lookup_of q (both 3600) 3600)) full_cache refl
      (All-nil (IsRowNow versions 0)) (All-nil (EntryHasSources an_hour versions 0)) received first_lookup

  -- each record that is returned at 20 was a row, though the zone has another address by then
  pub at_second : All (HasSource an_hour versions 20) (both 3580)
  at_second =
      (sources-keep an_hour versions preserving 20 0 [] full_cache q [] (Ok (lookup_of q (both 3580) 3600)) full_cache refl
      (All-nil (IsRowNow versions 20))
      (All-weaker (EntryHasSources an_hour versions 0) (EntryHasSources an_hour versions 20)
      (λ e s. (let past : e.moment ≤ 0 = s.past in record { past = omega (arith, past); kept = s.kept })) full_cache.entries at_first.0)
      (All-nil (λ (ask : Ask). (response : DnsResponse) → meaning ask.outcome ≡ Ok response → All (IsRowNow versions 20) (all_records response.message)))
      second_lookup).1

-- ---- what the law excludes

-- no answer for a name of the local host is an alias
abbrev IsNoAlias : SpecialAnswer → Type 0
IsNoAlias (Loopback r) = number_of r ≡ 5 → ⊥
IsNoAlias other = Unit {0}

data-is-none : (name : DomainName) (kind : RecordType) → IsNoAlias (loopback_answer name (loopback_data kind))
data-is-none name types.A = λ e. (let clash : ◌≡◌ {A = ℕ} 1 5 = e in omega arith)
data-is-none name types.AAAA = λ e. (let clash : ◌≡◌ {A = ℕ} 28 5 = e in omega arith)
data-is-none name types.PTR = λ e. (let clash : ◌≡◌ {A = ℕ} 12 5 = e in omega arith)
data-is-none name other = tt

name-is-none : (name : DomainName) (kind : RecordType) → IsNoAlias (name_answer name kind)
name-is-none name kind =
    cond_both (is_loopback name) (loopback_answer name (loopback_data kind)) _ IsNoAlias (λ local. data-is-none name kind)
    (λ far. cond_both (is_nonexistent name) (Nothing NXDomain) Ordinary IsNoAlias (λ none. tt) (λ some. tt))

class-is-none : (c : DNSClass) (answer : SpecialAnswer) → IsNoAlias answer → IsNoAlias (in_class c answer)
class-is-none classes.IN answer h = h
class-is-none other answer h = tt

host-has-none : (r : Record) → number_of r ≡ 5 → IsOfHost r → ⊥
host-has-none r number h =
    let none : IsNoAlias (special_answer h.question) =
    class-is-none (class_of (class_number h.question.query_class)) (name_answer h.question.name (type_of (type_number h.question.query_type)))
    (name-is-none h.question.name (type_of (type_number h.question.query_type))) in
    subst IsNoAlias h.special none (sym (ap number_of h.same) ∙ number)

-- an alias of another name, which no version had, has no source
abbrev forged : Record
forged = at alias 60 (alias_of (full (codes "t" ∷ [])))

-- how many labels the target of an alias has
abbrev target_length : RData → ℕ
target_length (of.CNAME c) = length c.0.labels
target_length other = 0

abbrev HasNot : Version → Type 0
HasNot version = (r : Row) → Contains (rows_at version.rows alias.labels types.CNAME) r → r.rdata ≡ forged.rdata → ⊥

has-not : (moment last : ℕ) → HasNot (record { moment = moment; rows = rows last })
has-not moment last = λ r c is.
    let only : row (alias_of host) ≡ r =
    All-contains (λ (x : Row). row (alias_of host) ≡ x) (row (alias_of host) ∷ []) r
    (All-cons (λ (x : Row). row (alias_of host) ≡ x) (row (alias_of host)) [] refl (All-nil (λ (x : Row). row (alias_of host) ≡ x)))
    (subst (λ (rs : List Row). Contains rs r) (aliases last) c) in
    let clash : ◌≡◌ {A = ℕ} 2 1 = ap target_length (ap (λ (x : Row). x.rdata) only ∙ is) in
    omega (arith, clash)

pub forged_has_none : (now : ℕ) → HasSource an_hour versions now forged → ⊥
forged_has_none now (inl w) =
    All-contains HasNot versions (record { moment = w.stand.since; rows = w.rows })
    (All-cons HasNot (record { moment = 0; rows = rows 1 }) (record { moment = 10; rows = rows 2 } ∷ []) (has-not 0 1)
    (All-cons HasNot (record { moment = 10; rows = rows 2 }) [] (has-not 10 2) (All-nil HasNot)))
    (subst (λ (vs : List Version). Contains vs (record { moment = w.stand.since; rows = w.rows })) (sym w.stand.split)
    (Contains-append_right w.stand.before (record { moment = w.stand.since; rows = w.rows } ∷ w.stand.after) _
    (contains-head (record { moment = w.stand.since; rows = w.rows }) w.stand.after)))
    w.row w.holds w.same_data
forged_has_none now (inr h) = host-has-none forged refl h
