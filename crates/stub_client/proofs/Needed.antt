-- Why each premise of the laws is needed: cases, computed.
use Rattle.std.proofs.Common.{◌≡◌, ℕ, false, true, List, [], ◌∷◌, Option, Some, Ok, Err, Vec, Global, codes, refl, inl, inr}
use Rattle.dns_wire.specs.declared.codes.dns_class.DNSClass.TheVariants.{IN, CH}
use Rattle.dns_wire.specs.declared.codes.record_type.RecordType.{RecordType}
use Rattle.dns_wire.specs.declared.codes.record_type.RecordType.TheVariants as types
use Rattle.dns_names.specs.Name.{DomainName}
use Rattle.dns_data.specs.declared.rdata.RData.{RData}
use Rattle.dns_data.specs.declared.rdata.RData.TheVariants as of
use Rattle.dns_data.specs.declared.rdata.soa.SOA.{SOA}
use Rattle.dns_records.specs.Record.{Record}
use Rattle.dns_messages.specs.declared.message.Message.{Message}
use Rattle.dns_messages.specs.declared.query.Query.{Query}
use Rattle.dns_messages.specs.declared.response_code.ResponseCode.TheVariants.{NoError, NXDomain}
use Rattle.stub_lookup.specs.Error.{no_records}
use Rattle.stub_lookup.specs.Lookup.{lookup_of, response_to}
use Rattle.stub_lookup.specs.declared.error.DnsError.TheVariants as dns
use Rattle.stub_lookup.specs.declared.error.NetError.TheVariants as errors
use Rattle.stub_lookup.specs.declared.error.NoRecords.{NoRecords}
use Rattle.stub_cache.specs.Cache.{CacheContent, Kept, current, storing}
use Rattle.stub_cache.specs.Ttl.{TtlConfigContent, default_bounds, plain_config}
use Rattle.stub_client.specs.Handle.{Outcome}
use Rattle.stub_client.specs.Looks.{Looks, negative}
use Rattle.stub_client.specs.SpecialNames.{special_answer}
use Rattle.stub_client.specs.Step.{step_of}
use Rattle.stub_client.specs.declared.caching_client.step.LookupSettings.{LookupSettings}
use Rattle.stub_client.specs.declared.caching_client.step.Step.{Step}
use Rattle.stub_client.specs.declared.caching_client.step.Step.TheVariants.{Gives, Misses, Stops, Follows}
use Rattle.stub_client.specs.declared.special_names.SpecialAnswer.TheVariants.{Loopback}

-- ---- questions, records and caches

abbrev in_test : List ℕ → DomainName
in_test label = record { is_fqdn = true; labels = label ∷ codes "test" ∷ [] }

abbrev host : DomainName
host = in_test (codes "host")

abbrev alias : DomainName
alias = in_test (codes "alias")

abbrev other : DomainName
other = in_test (codes "other")

abbrev asking : DomainName → RecordType → Query
asking name kind = record { name = name; query_type = kind; query_class = IN }

abbrev row : DomainName → ℕ → RData → Record
row name ttl rdata = record { name = name; dns_class = IN; ttl = ttl; rdata = rdata }

abbrev address : DomainName → ℕ → Record
address name ttl = row name ttl (of.A (record { 0 = record { octets = 192 ∷ 0 ∷ 2 ∷ 1 ∷ [] } }))

abbrev alias_to : DomainName → ℕ → DomainName → Record
alias_to name ttl target = row name ttl (of.CNAME (record { 0 = target }))

abbrev service_at : DomainName → ℕ → DomainName → Record
service_at name ttl target = row name ttl (of.SRV (record { priority = 0; weight = 0; port = 53; target = target }))

-- a response with additional records
abbrev with_additionals : Query → List Record → List Record → Message
with_additionals q answers additionals = record (response_to q answers) { additionals = additionals }

-- the start of authority of the zone, with a TTL of a minute and a minimum of half
abbrev authority : SOA
authority = record {
  mname = in_test (codes "ns");
  rname = in_test (codes "admin");
  serial = 1;
  refresh = 2;
  retry = 3;
  expire = 4;
  minimum = 30;
}

abbrev zone : DomainName
zone = record { is_fqdn = true; labels = codes "test" ∷ [] }

-- a response that the name at the end of its aliases does not exist
abbrev nonexistent : Query → List Record → Message
nonexistent q answers = record (response_to q answers) {
  metadata = record (response_to q answers).metadata { response_code = NXDomain };
  authorities = row zone 60 (of.SOA authority) ∷ [];
}

abbrev nonexistence : Query → NoRecords
nonexistence q = record (no_records q NXDomain) {
  soa = Some (record { name = zone; dns_class = IN; ttl = 60; rdata = authority });
  negative_ttl = Some 30;
}

abbrev dropping : LookupSettings
dropping = record { preserve_intermediates = false; dnssec_ok = false }

abbrev preserving : LookupSettings
preserving = record { preserve_intermediates = true; dnssec_ok = false }

abbrev empty : TtlConfigContent → CacheContent
empty config = record { entries = []; capacity = 32; config = config }

abbrev plain : TtlConfigContent
plain = plain_config default_bounds

abbrev from_an_hour : TtlConfigContent
from_an_hour = plain_config (record default_bounds { positive_min = Some 3600 })

abbrev two_minutes_at_most : TtlConfigContent
two_minutes_at_most = plain_config (record default_bounds { positive_max = Some 120 })

-- what a cache has for a question since the moment 0
abbrev later : TtlConfigContent → Query → Message → Query → ℕ → Option Kept
later config p m q now = current (storing (empty config) p (Ok m) 0).entries q now

-- ---- a claim outlasts the cache

-- The TTLs of what the cache returns run down.
ttl_runs_down : later plain (asking host types.A) (response_to (asking host types.A) (address host 60 ∷ [])) (asking host types.A) 50
    ≡ Some (Ok (response_to (asking host types.A) (address host 10 ∷ [])))
ttl_runs_down = refl

-- A question in another spelling is answered from the same entry, with the owner as it was first spelled.
other_spelling : later plain (asking host types.A) (response_to (asking host types.A) (address host 60 ∷ [])) (asking (in_test (codes "HOST")) types.A) 0
    ≡ Some (Ok (response_to (asking host types.A) (address host 60 ∷ [])))
other_spelling = refl

-- ---- the least TTL is 0

-- With a minimum of an hour, an address with a TTL of a minute is returned after that minute.
minimum_outlasts : later from_an_hour (asking host types.A) (response_to (asking host types.A) (address host 60 ∷ [])) (asking host types.A) 61
    ≡ Some (Ok (response_to (asking host types.A) (address host 3539 ∷ [])))
minimum_outlasts = refl

-- The laws claim nothing of a question for all types: its answers are stored as long as the aliases among them.
any_outlasts : later plain (asking alias types.ANY) (response_to (asking alias types.ANY) (alias_to alias 60 host ∷ address alias 5 ∷ [])) (asking alias types.ANY) 50
    ≡ Some (Ok (response_to (asking alias types.ANY) (alias_to alias 10 host ∷ address alias 0 ∷ [])))
any_outlasts = refl

-- ---- replies

module _ (buffer : Vec ℕ Global) where
  abbrev reply : Message → Outcome
  reply m = Ok (record { message = m; buffer = buffer })

  -- the step of the first question, where aliases are not preserved
  abbrev first_step : Query → Message → Step
  first_step q m = step_of dropping q [] 0 (reply m)

  -- An answer with another owner is returned as it is.
  other_owner : first_step (asking host types.A) (response_to (asking host types.A) (address host 60 ∷ address other 60 ∷ []))
      ≡ Gives (response_to (asking host types.A) (address host 60 ∷ address other 60 ∷ []))
  other_owner = refl

  -- So is one of another class.
  abbrev of_chaos : Record
  of_chaos = record (address host 60) { dns_class = CH }

  other_class : first_step (asking host types.A) (response_to (asking host types.A) (address host 60 ∷ of_chaos ∷ []))
      ≡ Gives (response_to (asking host types.A) (address host 60 ∷ of_chaos ∷ []))
  other_class = refl

  -- A record that is found behind an alias among the additionals becomes an answer, with the TTL of the alias.
  found_additional : first_step (asking alias types.A) (with_additionals (asking alias types.A) (alias_to alias 5 host ∷ []) (address host 60 ∷ []))
      ≡ Gives (with_additionals (asking alias types.A) (address host 5 ∷ []) (address host 60 ∷ []))
  found_additional = refl

  -- A record that is found at the name of the question alone is returned as it is, with a TTL above that of an alias.
  found_beside : first_step (asking alias types.A) (response_to (asking alias types.A) (alias_to alias 5 host ∷ address alias 60 ∷ []))
      ≡ Gives (response_to (asking alias types.A) (alias_to alias 5 host ∷ address alias 60 ∷ []))
  found_beside = refl

  -- An SRV record of any owner leads on as an alias does, whatever type is asked for.
  service_leads_on : first_step (asking host types.A) (response_to (asking host types.A) (service_at other 60 alias ∷ []))
      ≡ Follows (asking alias types.A) []
  service_leads_on = refl

  -- Over two questions the TTL of the alias is lost: the address is stored for a minute under the alias, whose TTL is 5 seconds.
  alias_is_outlasted : Looks dropping 0 0 [] (empty plain) (asking alias types.A)
      (record { question = asking alias types.A; outcome = reply (response_to (asking alias types.A) (alias_to alias 5 host ∷ [])) }
      ∷ record { question = asking host types.A; outcome = reply (response_to (asking host types.A) (address host 60 ∷ [])) } ∷ [])
      (Ok (lookup_of (asking host types.A) (address host 60 ∷ []) 60))
      (storing (storing (empty plain) (asking host types.A) (Ok (response_to (asking host types.A) (address host 60 ∷ []))) 0)
      (asking alias types.A) (Ok (response_to (asking alias types.A) (address host 60 ∷ []))) 0)
  alias_is_outlasted = (refl, refl, refl, inr (_, _, (refl, refl, refl, inr (refl, inl (refl, refl))), inl (refl, refl)))

  -- ---- aliases that end in nothing

  -- An alias to a name that does not exist is not followed: that is the negative answer of the question, and is stored for it,
  negative_end : Looks dropping 0 0 [] (empty plain) (asking alias types.A)
      (record { question = asking alias types.A; outcome = reply (nonexistent (asking alias types.A) (alias_to alias 60 host ∷ [])) } ∷ [])
      (negative (nonexistence (asking alias types.A)))
      (storing (empty plain) (asking alias types.A) (Err (nonexistence (asking alias types.A))) 0)
  negative_end = (refl, refl, refl, inr (refl, inl (refl, refl)))

  -- also where aliases were kept,
  negative_end_preserved : step_of preserving (asking alias types.A) (alias_to other 60 alias ∷ []) 1
      (reply (nonexistent (asking alias types.A) (alias_to alias 60 host ∷ []))) ≡ Misses (nonexistence (asking alias types.A))
  negative_end_preserved = refl

  -- and however many were followed.
  negative_end_at_seven : step_of dropping (asking alias types.A) [] 7 (reply (nonexistent (asking alias types.A) (alias_to alias 60 host ∷ [])))
      ≡ Misses (nonexistence (asking alias types.A))
  negative_end_at_seven = refl

  -- A record that is found in any section is no such end: kept aliases lead on from it.
  found_is_no_end : step_of preserving (asking alias types.A) (alias_to other 60 alias ∷ []) 1
      (reply (nonexistent (asking alias types.A) (alias_to alias 60 host ∷ address host 60 ∷ [])))
      ≡ Follows (asking host types.A) (alias_to other 60 alias ∷ alias_to alias 60 host ∷ [])
  found_is_no_end = refl

  -- ---- names

  -- Names compare with their flag: a relative name has no fully qualified record, and is no alias.
  abbrev relative : DomainName
  relative = record host { is_fqdn = false }

  relative_name : first_step (asking relative types.A) (response_to (asking relative types.A) (address host 60 ∷ []))
      ≡ Stops (errors.Dns (dns.NoRecordsFound (no_records (asking relative types.A) NoError)))
  relative_name = refl

  relative_alias : first_step (asking relative types.A) (response_to (asking relative types.A) (alias_to host 60 other ∷ []))
      ≡ Stops (errors.Dns (dns.NoRecordsFound (no_records (asking relative types.A) NoError)))
  relative_alias = refl

  -- ---- aliases are not preserved

  -- The whole chain in one reply: what is returned has the least of its TTLs,
  chain_in_one : first_step (asking alias types.A) (response_to (asking alias types.A) (alias_to alias 10 host ∷ address host 60 ∷ []))
      ≡ Gives (response_to (asking alias types.A) (address host 10 ∷ []))
  chain_in_one = refl

  -- but the one that it came with where aliases are preserved.
  chain_preserved : step_of preserving (asking alias types.A) [] 0 (reply (response_to (asking alias types.A) (alias_to alias 10 host ∷ address host 60 ∷ [])))
      ≡ Gives (response_to (asking alias types.A) (alias_to alias 10 host ∷ address host 60 ∷ []))
  chain_preserved = refl

  -- There the entry of the target has the alias that led to it as well, so a later lookup of the target returns it too.
  alias_at_target : step_of preserving (asking host types.A) (alias_to alias 60 host ∷ []) 1 (reply (response_to (asking host types.A) (address host 60 ∷ [])))
      ≡ Gives (response_to (asking host types.A) (alias_to alias 60 host ∷ address host 60 ∷ []))
  alias_at_target = refl

  -- ---- aliases end in time

  -- The eighth question for an alias ends as a negative answer, whatever is at its end.
  too_many_aliases : step_of dropping (asking alias types.A) [] 7 (reply (response_to (asking alias types.A) (alias_to alias 60 host ∷ [])))
      ≡ Stops (errors.Dns (dns.NoRecordsFound (no_records (asking alias types.A) NoError)))
  too_many_aliases = refl

  -- So does a reply with records of another type alone: a step that the replies of a transport have to bear out.
  other_type : first_step (asking host types.AAAA) (response_to (asking host types.AAAA) (address host 60 ∷ []))
      ≡ Stops (errors.Dns (dns.NoRecordsFound (no_records (asking host types.AAAA) NoError)))
  other_type = refl

  -- An SRV record is returned at its own name; behind an alias in the same reply, the client asks for one at its target.
  service_is_given : first_step (asking host types.SRV) (response_to (asking host types.SRV) (service_at host 60 other ∷ []))
      ≡ Gives (response_to (asking host types.SRV) (service_at host 60 other ∷ []))
  service_is_given = refl

  service_behind_alias : first_step (asking alias types.SRV) (response_to (asking alias types.SRV) (alias_to alias 60 host ∷ service_at host 60 other ∷ []))
      ≡ Follows (asking other types.SRV) []
  service_behind_alias = refl

  -- ---- special-use names

  abbrev localhost : DomainName
  localhost = record { is_fqdn = true; labels = codes "localhost" ∷ [] }

  abbrev local_address : ℕ → Record
  local_address ttl = row localhost ttl (of.A (record { 0 = record { octets = 127 ∷ 0 ∷ 0 ∷ 1 ∷ [] } }))

  -- A record of the local host has a TTL of a day,
  loopback : special_answer (asking localhost types.A) ≡ Loopback (local_address 86400)
  loopback = refl

  -- so it is returned with a TTL above the maximum where an alias leads to it. What is stored of it is within the bounds.
  loopback_above_maximum : Looks dropping 0 0 [] (empty two_minutes_at_most) (asking alias types.A)
      (record { question = asking alias types.A; outcome = reply (response_to (asking alias types.A) (alias_to alias 60 localhost ∷ [])) } ∷ [])
      (Ok (lookup_of (asking localhost types.A) (local_address 86400 ∷ []) 86400))
      (record (empty two_minutes_at_most) {
        entries = record {
          question = asking alias types.A;
          kept = Ok (response_to (asking alias types.A) (local_address 120 ∷ []));
          moment = 0;
          deadline = 120;
        } ∷ [];
      })
  loopback_above_maximum = (refl, refl, refl, inr (_, _, (refl, inr refl, λ memory. tt), inl (refl, refl)))

  -- ---- a minimum counts for each alias

  -- With a minimum of an hour, an address with a TTL of a minute is kept for an hour. At its end, the address is kept for an alias, too,
  abbrev kept_for_host : CacheContent
  kept_for_host = storing (empty from_an_hour) (asking host types.A) (Ok (response_to (asking host types.A) (address host 60 ∷ []))) 0

  abbrev kept_for_alias : CacheContent
  kept_for_alias = storing kept_for_host (asking alias types.A) (Ok (response_to (asking alias types.A) (address host 0 ∷ []))) 3600

  alias_at_the_end : Looks dropping 3600 0 [] kept_for_host (asking alias types.A)
      (record { question = asking alias types.A; outcome = reply (response_to (asking alias types.A) (alias_to alias 60 host ∷ [])) } ∷ [])
      (Ok (lookup_of (asking host types.A) (address host 0 ∷ []) 3600)) kept_for_alias
  alias_at_the_end = (refl, refl, refl, inr (_, _, (refl, inr refl, λ memory. tt), inl (refl, refl)))

  -- and so it is returned for a second hour: the minimum counts once more for each alias that leads to the address.
  pub minimum_counts_twice : current kept_for_alias.entries (asking alias types.A) 7200
      ≡ Some (Ok (response_to (asking alias types.A) (address host 0 ∷ [])))
  minimum_counts_twice = refl

  -- ---- failures

  -- A negative answer is no failure: it is stored.
  negative_answer : Looks dropping 0 0 [] (empty plain) (asking host types.A)
      (record { question = asking host types.A; outcome = Err (errors.Dns (dns.NoRecordsFound (no_records (asking host types.A) NoError))) } ∷ [])
      (negative (no_records (asking host types.A) NoError))
      (storing (empty plain) (asking host types.A) (Err (no_records (asking host types.A) NoError)) 0)
  negative_answer = (refl, refl, refl, inr (refl, inl (refl, refl)))
