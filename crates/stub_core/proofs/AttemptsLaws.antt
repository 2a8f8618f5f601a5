-- Attempts of names, and questions that the hosts are asked first, over any relation of one question.
use Rattle.std.proofs.Common.{◌≡◌, ◌∷◌, [], true, false, ℕ, Some, None, List, length, refl, inl, inr, subst, sym, arith}
use Rattle.std.specs.Prelude.{Bool, Option}
use Rattle.dns_wire.specs.declared.codes.record_type.RecordType.{RecordType}
use Rattle.dns_names.specs.Name.{DomainName}
use Rattle.dns_messages.specs.declared.query.Query.{Query}
use Rattle.stub_config.specs.declared.request_options.DnsRequestOptions.{DnsRequestOptions}
use Rattle.stub_lookup.specs.Lookup.{LookupContent}
use Rattle.stub_hosts.specs.Hosts.{question}
use Rattle.stub_core.specs.Attempts.{Attempts, Continues, Lookups, Unless, is_final}
use Rattle.stub_client.specs.Handle.{Behavior}
use Rattle.stub_client.specs.Looks.{Answers, Reply, out_of_memory}
use Rattle.stub_client.specs.declared.caching_client.CachingClient.{CachingClient}

-- ---- the last reply ends the lookup, or the rest follows

pub stops : {S : Type 0} (ends : Bool) (rest : Reply → S → Type 0) (last : Reply) (old : S)
    → ends ≡ true → Continues ends rest last old last old
stops true rest last old h = (refl, refl)
stops false rest last old h = absurd (cc)

pub goes-on : {S : Type 0} (ends : Bool) (rest : Reply → S → Type 0) (last : Reply) (old : S) (reply : Reply) (new : S)
    → ends ≡ false → rest reply new → Continues ends rest last old reply new
goes-on true rest last old reply new h r = absurd (cc)
goes-on false rest last old reply new h r = r

-- ---- names

module _ {S : Type 0} (tries : Lookups S DomainName) where
  pub no-more-names : (last : Reply) (old : S) (names : List DomainName) → is_final last ≡ true
      → Attempts tries last old names last old
  no-more-names last old [] h = (refl, refl)
  no-more-names last old (name ∷ names) h =
      stops (is_final last) (λ reply new. (next : Reply) × (mid : S) × tries old name next mid × Attempts tries next mid names reply new) last old h

  pub no-name : (last : Reply) (old : S) (names : List DomainName) → length names ≡ 0 → Attempts tries last old names last old
  no-name last old [] h = (refl, refl)
  no-name last old (name ∷ names) h = absurd (omega arith)

  pub next-name : (last : Reply) (old : S) (name : DomainName) (names : List DomainName) (next : Reply) (mid : S) (reply : Reply) (new : S)
      → is_final last ≡ false → tries old name next mid → Attempts tries next mid names reply new
      → Attempts tries last old (name ∷ names) reply new
  next-name last old name names next mid reply new h tried rest =
      goes-on (is_final last) (λ reply new. (next : Reply) × (mid : S) × tries old name next mid × Attempts tries next mid names reply new) last old reply new h
      (next, mid, tried, rest)

  -- what the rest of the names leads to, all of them lead to
  abbrev pub LeadsOn : Reply → S → List DomainName → Reply → S → List DomainName → Type 0
  LeadsOn last old names first start all =
      (reply : Reply) (new : S) → Attempts tries last old names reply new → Attempts tries first start all reply new

  pub next-leads-on : (last : Reply) (old : S) (names rest : List DomainName) (name : DomainName) (next : Reply) (mid : S)
      → (first : Reply) (start : S) (all : List DomainName)
      → LeadsOn last old names first start all → names ≡ name ∷ rest → is_final last ≡ false → tries old name next mid
      → LeadsOn next mid rest first start all
  next-leads-on last old names rest name next mid first start all leads is h tried = λ reply new attempted.
      leads reply new (subst (λ (ns : List DomainName). Attempts tries last old ns reply new) (sym is)
      (next-name last old name rest next mid reply new h tried attempted))

-- ---- hosts

module _ {S : Type 0} (asks : Reply → S → Type 0) (old : S) where
  -- there is no memory for the question, or for its name as the hosts have it
  pub without-memory : (known : Option LookupContent) → Unless known asks old out_of_memory old
  without-memory None = inl (refl, refl)
  without-memory (Some other) = (inr refl, refl)

-- a lookup of a name by a client
abbrev pub OfName : {H : Type 0} → Behavior H → DnsRequestOptions → ℕ → RecordType → CachingClient H → DomainName → Reply
    → CachingClient H → Type 0
OfName gives options now kind old name reply new = Answers gives options now old (question name kind) reply new
