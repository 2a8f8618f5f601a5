-- Errors with which a question ends, other than negative answers: each has a reason, a fault that the link met, the zone's refusal, or
-- a request that cannot be sent.
use Rattle.std.specs.Prelude.{◌≡◌, ◌≤◌, ◌⊎◌, ◌-◌, ◌^◌, Bool, true, min, length, Contains, List, [], ◌∷◌, ℕ, Ok, Err}
use Rattle.dns_wire.specs.declared.codes.dns_class.DNSClass.TheVariants.{IN}
use Rattle.dns_names.specs.Name.{DomainName}
use Rattle.dns_records.specs.Rows.{Rows}
use Rattle.dns_messages.specs.declared.query.Query.{Query}
use Rattle.dns_messages.specs.declared.response_code.ResponseCode.{ResponseCode}
use Rattle.dns_zone.specs.Answer.{answer, is_refused}
use Rattle.stub_config.specs.declared.request_options.DnsRequestOptions.{DnsRequestOptions}
use Rattle.stub_lookup.specs.declared.error.DnsError.TheVariants as dns
use Rattle.stub_lookup.specs.declared.error.NetError.{NetError}
use Rattle.stub_lookup.specs.declared.error.NetError.TheVariants as errors
use Rattle.stub_client.specs.Handle.{Ask, Outcome}
use Rattle.stub_client.specs.Request.{request_of}
use Rattle.stub_link.specs.LinkState.{Version}
use Rattle.stub_link.specs.Request.{IsQuestion}
use Rattle.stub_laws.specs.history.Answered.{zone_with}
use Rattle.stub_laws.specs.history.Stands.{StandAt}
use Rattle.stub_laws.specs.answers.Standing.{IsLed}

-- ---- questions that failed

-- the questions before, and this one if it failed by a fault of the link
abbrev pub with_fault : Query → Outcome → List Query → List Query
with_fault q (Err (errors.Link fault)) failed = q ∷ failed
with_fault q outcome failed = failed

-- the questions that failed by faults of the link
abbrev pub failed_questions : List Ask → List Query
failed_questions [] = []
failed_questions (ask ∷ asks) = with_fault ask.question ask.outcome (failed_questions asks)

-- The questions that failed are no more than the faults that are counted. A count stops at the greatest number of 64 bits.
abbrev pub AreCounted : List Query → ℕ → Type 0
AreCounted failed faults = min (length failed) (2 ^ 64 - 1) ≤ faults

-- ---- reasons

-- A question leads to another one: for a name to which it leads, of the same type, and of the same class or, after an alias, that of
-- the Internet.
pub record LeadsToQuestion (preserves : Bool) (history : List Version) (now : ℕ) (q p : Query) : Type 0 where
  pub links : ℕ
  pub led : IsLed preserves history now q.query_type q.name links p.name
  pub same_type : p.query_type ≡ q.query_type
  pub same_class : (p.query_class ≡ q.query_class) ⊎ (p.query_class ≡ IN)

-- A question that failed by a fault of the link, to which a question leads.
pub record HasFailed (preserves : Bool) (history : List Version) (failed : List Query) (now : ℕ) (q : Query) : Type 0 where
  pub question : Query
  pub leads : LeadsToQuestion preserves history now q question
  pub fails : Contains failed question

-- The zone refuses a question, to which a question leads, because of its type, its class or its name, with this code.
pub record IsRefused (preserves : Bool) (origin : DomainName) (history : List Version) (now : ℕ) (q : Query) (code : ResponseCode)
    : Type 0 where
  pub question : Query
  pub leads : LeadsToQuestion preserves history now q question
  pub rows : Rows
  pub stand : StandAt history now rows
  pub refused : is_refused (zone_with origin rows) question ≡ true
  pub code_is : code ≡ (answer (zone_with origin rows) question).code

-- A question, to which a question leads, for which the request is not one that can be sent.
pub record IsUnsendable (preserves : Bool) (history : List Version) (options : DnsRequestOptions) (now : ℕ) (q : Query) : Type 0 where
  pub question : Query
  pub leads : LeadsToQuestion preserves history now q question
  pub no_question : (p : Query) → ¬ IsQuestion (request_of question options) p

-- ---- errors

-- Why a question ends in an error that is no negative answer: it leads to a question that failed by a fault of the link, that the zone
-- refuses, or that cannot be sent. No other error is the reply to a question, except want of memory.
abbrev pub FailsIndeed : Bool → DomainName → DnsRequestOptions → List Version → List Query → Query → ℕ → NetError → Type 0
FailsIndeed preserves origin options history failed q now (errors.Link fault) = HasFailed preserves history failed now q
FailsIndeed preserves origin options history failed q now (errors.Dns (dns.ResponseCode code)) = IsRefused preserves origin history now q code
FailsIndeed preserves origin options history failed q now errors.Unsupported = IsUnsendable preserves history options now q
FailsIndeed preserves origin options history failed q now errors.Memory = Unit {0}
FailsIndeed preserves origin options history failed q now error = ⊥

-- The outcome of a question is a response, want of memory, or an error with a reason of its own: the question is among those that failed
-- by a fault of the link, or it cannot be sent.
abbrev pub HasReason : DnsRequestOptions → List Query → Query → Outcome → Type 0
HasReason options failed q (Ok response) = Unit {0}
HasReason options failed q (Err (errors.Link fault)) = Contains failed q
HasReason options failed q (Err errors.Unsupported) = (p : Query) → ¬ IsQuestion (request_of q options) p
HasReason options failed q (Err errors.Memory) = Unit {0}
HasReason options failed q (Err error) = ⊥
