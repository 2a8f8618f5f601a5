-- Lookups of two types, and how their replies are joined.
use Rattle.std.proofs.Common.{◌≡◌, true, false, ℕ, Ok, Err, refl, sym, ap, subst, ◌∙◌}
use Rattle.dns_wire.specs.declared.codes.record_type.RecordType.{RecordType}
use Rattle.dns_names.specs.Name.{DomainName}
use Rattle.stub_config.specs.declared.request_options.DnsRequestOptions.{DnsRequestOptions}
use Rattle.stub_config.specs.declared.strategy.LookupIpStrategy.{LookupIpStrategy}
use Rattle.stub_lookup.specs.declared.error.NetError.{NetError}
use Rattle.stub_lookup.specs.declared.error.NetError.TheVariants as errors
use Rattle.stub_hosts.specs.Hosts.{HostsContent, question}
use Rattle.stub_core.specs.Attempts.{Lookups, WithHosts, is_final}
use Rattle.stub_client.specs.Handle.{Behavior}
use Rattle.stub_client.specs.Looks.{Answers, Reply}
use Rattle.stub_core.specs.Strategies.{Both, Joins, LooksUpAddresses, Then, is_out_of_memory}
use Rattle.stub_client.specs.declared.caching_client.CachingClient.{CachingClient}
use Rattle.stub_core.proofs.AttemptsLaws.{stops, goes-on}

-- ---- the relations of the contracts

-- a lookup of one type of a name
abbrev pub OfType : {H : Type 0} → Behavior H → DnsRequestOptions → HostsContent → ℕ → DomainName → CachingClient H → RecordType
    → Reply → CachingClient H → Type 0
OfType gives options hosts now name old kind reply new =
    WithHosts hosts now (λ old q reply new. Answers gives options now old q reply new) old (question name kind) reply new

-- a lookup of the addresses of a name
abbrev pub OfAddresses : {H : Type 0} → Behavior H → DnsRequestOptions → LookupIpStrategy → HostsContent → ℕ → CachingClient H
    → DomainName → Reply → CachingClient H → Type 0
OfAddresses gives options strategy hosts now old name reply new =
    LooksUpAddresses strategy hosts now (λ old q reply new. Answers gives options now old q reply new) old name reply new

-- ---- two types

module _ {S : Type 0} (tries : Lookups S RecordType) (first second : RecordType) (old : S) where
  pub both-without-memory : (one : Reply) (mid : S) → tries old first one mid → is_out_of_memory one ≡ true
      → Both tries first second old one mid
  both-without-memory one mid tried h =
      (one, mid, tried, stops (is_out_of_memory one) (λ reply new. (two : Reply) × tries mid second two new × Joins one two reply) one mid h)

  pub both-types : (one : Reply) (mid : S) (two : Reply) (new : S) (reply : Reply)
      → tries old first one mid → is_out_of_memory one ≡ false → tries mid second two new → Joins one two reply
      → Both tries first second old reply new
  both-types one mid two new reply tried h again joins =
      (one, mid, tried, goes-on (is_out_of_memory one) (λ reply new. (two : Reply) × tries mid second two new × Joins one two reply) one mid reply new h (two, again, joins))

  pub first-type : (one : Reply) (mid : S) → tries old first one mid → is_final one ≡ true
      → Then tries first second old one mid
  first-type one mid tried h = (one, mid, tried, stops (is_final one) (λ reply new. tries mid second reply new) one mid h)

  pub second-type : (one : Reply) (mid : S) (reply : Reply) (new : S)
      → tries old first one mid → is_final one ≡ false → tries mid second reply new
      → Then tries first second old reply new
  second-type one mid reply new tried h again =
      (one, mid, tried, goes-on (is_final one) (λ reply new. tries mid second reply new) one mid reply new h again)

-- want of memory for the second type is the reply
pub memory-joins : (first second : Reply) → is_out_of_memory second ≡ true → Joins first second second
memory-joins first (Ok lookup) h = absurd (cc)
memory-joins first (Err errors.Memory) h = refl
memory-joins first (Err (errors.Dns e)) h = absurd (cc)
memory-joins first (Err (errors.Proto e)) h = absurd (cc)
memory-joins first (Err (errors.Message e)) h = absurd (cc)
memory-joins first (Err (errors.Link e)) h = absurd (cc)
memory-joins first (Err errors.Unsupported) h = absurd (cc)

-- any other error for the second type leaves the first reply
error-joins : (first : Reply) (error : NetError) → is_out_of_memory (Err error) ≡ false → Joins first (Err error) first
error-joins first errors.Memory h = absurd (cc)
error-joins (Ok lookup) (errors.Dns e) h = refl
error-joins (Ok lookup) (errors.Proto e) h = refl
error-joins (Ok lookup) (errors.Message e) h = refl
error-joins (Ok lookup) (errors.Link e) h = refl
error-joins (Ok lookup) errors.Unsupported h = refl
error-joins (Err other) (errors.Dns e) h = refl
error-joins (Err other) (errors.Proto e) h = refl
error-joins (Err other) (errors.Message e) h = refl
error-joins (Err other) (errors.Link e) h = refl
error-joins (Err other) errors.Unsupported h = refl

pub first-stays : (first second : Reply) (error : NetError) → second ≡ Err error → is_out_of_memory second ≡ false
    → Joins first second first
first-stays first second error is h =
    subst (λ (reply : Reply). Joins first reply first) (sym is) (error-joins first error (ap is_out_of_memory (sym is) ∙ h))
