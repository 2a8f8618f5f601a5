-- Questions that a handle never refuses, what asking one ends in, and the replies that lead on to such questions.
use Rattle.std.specs.Prelude.{◌≡◌, ◌≤◌, ◌⊎◌, true, ℕ, Ok, Err}
use Rattle.std.specs.List.{AllByRecursion}
use Rattle.dns_wire.specs.Name.{max_name_len, name_len}
use Rattle.dns_names.specs.Name.{DomainName}
use Rattle.dns_data.specs.declared.rdata.RData.{RData}
use Rattle.dns_data.specs.declared.rdata.RData.TheVariants as of
use Rattle.dns_messages.specs.Sound.{IsSoundQuery}
use Rattle.dns_messages.specs.declared.query.Query.{Query}
use Rattle.stub_lookup.specs.declared.error.NetError.TheVariants as net
use Rattle.stub_client.specs.Handle.{Outcome}
use Rattle.stub_client.specs.declared.request.DnsRequest.{DnsRequest}
use Rattle.stub_link.specs.Request.{IsQuestion}
use Rattle.stub_link.specs.Wait.{one_more}

-- ---- questions

-- a name is at most 255 bytes long (RFC 1035 section 2.3.4)
abbrev pub IsShort : DomainName → Type 0
IsShort name = name_len name.labels ≤ max_name_len

-- A question that can be sent whatever the options of its request are: its name is fully qualified and short, and its type and
-- class are those of their numbers.
pub record IsSoundQuestion (q : Query) : Type 0 where
  pub sound : IsSoundQuery q
  pub short : IsShort q.name

-- a request that asks a question
abbrev pub AsksQuestion : DnsRequest → Type 0
AsksQuestion request = (q : Query) × IsQuestion request.message q

-- ---- outcomes

-- What a request to ask a question ends in: a response, a fault of the link, which is counted, or want of memory.
abbrev pub IsReplyOrFault : Outcome → ℕ → ℕ → Type 0
IsReplyOrFault (Ok response) old_faults new_faults = new_faults ≡ old_faults
IsReplyOrFault (Err (net.Link error)) old_faults new_faults = new_faults ≡ one_more old_faults
IsReplyOrFault (Err net.Memory) old_faults new_faults = new_faults ≡ old_faults
IsReplyOrFault (Err error) old_faults new_faults = ⊥

-- ---- replies

-- a fully qualified name that is short
pub record IsFullName (name : DomainName) : Type 0 where
  pub fqdn : name.is_fqdn ≡ true
  pub short : IsShort name

-- the target of an alias, or of a service (RFC 2782), is a fully qualified name
abbrev pub LeadsToName : RData → Type 0
LeadsToName (of.CNAME alias) = IsFullName alias.0
LeadsToName (of.SRV service) = IsFullName service.target
LeadsToName other = Unit {0}

-- each answer of a response leads to a fully qualified name, if it leads to any
abbrev pub IsSoundReply : Outcome → Type 0
IsSoundReply (Ok response) = AllByRecursion (λ r. LeadsToName r.rdata) response.message.answers
IsSoundReply (Err error) = Unit {0}

-- ---- handles

-- the behavior of a handle that is asked questions alone
abbrev pub Supported : {H : Type 0} → (H → DnsRequest → ℕ → Outcome → H → Type 0) → H → DnsRequest → ℕ → Outcome → H → Type 0
Supported gives old request now outcome new = gives old request now outcome new × AsksQuestion request

-- the same until it gives up
abbrev pub SupportedUnless : {H : Type 0} → (H → Type 0) → (H → DnsRequest → ℕ → Outcome → H → Type 0) → H → DnsRequest → ℕ
    → Outcome → H → Type 0
SupportedUnless GivenUp gives old request now outcome new =
    gives old request now outcome new × (GivenUp old ⊎ AsksQuestion request)

-- A handle returns only replies that lead to fully qualified names, until it gives up for good.
pub record RepliesSoundly {H : Type 0} (GivenUp : H → Type 0) (gives : H → DnsRequest → ℕ → Outcome → H → Type 0) : Type 0 where
  pub replies : (old : H) (request : DnsRequest) (now : ℕ) (outcome : Outcome) (new : H) → gives old request now outcome new
      → GivenUp new ⊎ IsSoundReply outcome
  pub stays : (old : H) (request : DnsRequest) (now : ℕ) (outcome : Outcome) (new : H) → gives old request now outcome new
      → GivenUp old → GivenUp new
