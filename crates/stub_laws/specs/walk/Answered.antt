-- Questions that a zone answers, and lookups that come to the walk over the zone.
use Rattle.std.specs.Prelude.{◌≡◌, true, false, All, List, [], ◌∷◌, ℕ, Result, Ok, Err}
use Rattle.dns_wire.specs.codes.DNSClass.{class_number}
use Rattle.dns_wire.specs.codes.RecordType.{type_number}
use Rattle.dns_wire.specs.declared.codes.record_type.RecordType.{RecordType}
use Rattle.dns_names.specs.Name.{DomainName}
use Rattle.dns_names.specs.declared.error.ParseError.{ParseError}
use Rattle.dns_messages.specs.declared.message.Message.{Message}
use Rattle.dns_messages.specs.declared.query.Query.{Query}
use Rattle.dns_zone.specs.Answer.{is_no_row_type}
use Rattle.dns_zone.specs.Rows.{ZoneContent}
use Rattle.stub_lookup.specs.declared.error.NetError.{NetError}
use Rattle.stub_lookup.specs.declared.error.NetError.TheVariants as errors
use Rattle.stub_client.specs.Handle.{Ask, Behavior, Led, Outcome}
use Rattle.stub_client.specs.Looks.{Reply}
use Rattle.stub_client.specs.SpecialNames.{special_answer}
use Rattle.stub_client.specs.declared.special_names.SpecialAnswer.TheVariants.{Ordinary}
use Rattle.stub_core.specs.Resolver.{LooksUp, known_type, request_options}
use Rattle.stub_core.specs.declared.resolver.Resolver.{Resolver}
use Rattle.stub_core.specs.declared.resolver.settings.Settings.{Settings}
use Rattle.stub_laws.specs.history.Answered.{HoldsAnswer, is_plain}
use Rattle.stub_laws.specs.history.Stands.{HasShortLinks}
use Rattle.stub_laws.specs.walk.Walk.{ByDirectWalk, ByWalk, CacheAgrees, walks_everywhere}

-- ---- zones

-- no chain of aliases in a zone passes seven links
abbrev pub HasShortAliases : ZoneContent → Type 0
HasShortAliases zone = HasShortLinks (record { moment = 0; rows = zone.rows })

-- ---- outcomes

-- A response repeats its question (RFC 5452 section 9.1) and holds what the zone answers.
pub record IsZoneReply (zone : ZoneContent) (q : Query) (m : Message) : Type 0 where
  pub repeats : m.queries ≡ q ∷ []
  pub holds : HoldsAnswer zone q m

-- The outcome of a question that a zone answers: a response is the zone's, and an error is not the meaning of a response, but a
-- fault of the link or want of memory.
abbrev pub IsZoneOutcome : ZoneContent → Query → Outcome → Type 0
IsZoneOutcome zone q (Ok response) = IsZoneReply zone q response.message
IsZoneOutcome zone q (Err (errors.Dns error)) = ⊥
IsZoneOutcome zone q (Err error) = Unit {0}

-- the zone answers the question of an ask, or the link met a fault
abbrev pub IsAsked : ZoneContent → Ask → Type 0
IsAsked zone ask = IsZoneOutcome zone ask.question ask.outcome

-- no outcome is an error other than want of memory
abbrev pub HaveNoFault : List Ask → Type 0
HaveNoFault asks = All (λ ask. (error : NetError) → ask.outcome ≡ Err error → error ≡ errors.Memory) asks

-- the errors of a question that can be asked: a fault of the link, or want of memory
abbrev pub IsAskError : NetError → Type 0
IsAskError (errors.Link fault) = Unit {0}
IsAskError errors.Memory = Unit {0}
IsAskError error = ⊥

-- the question is not for a special-use name
abbrev pub IsOrdinary : Ask → Type 0
IsOrdinary ask = special_answer ask.question ≡ Ordinary

-- the question has a plain type and the class of the Internet
pub record IsPlainAsk (ask : Ask) : Type 0 where
  pub plain : is_plain ask.question.query_type ≡ true
  pub in_internet : class_number ask.question.query_class ≡ 1

-- ---- lookups of a resolver

-- A lookup of records of a name is one in which each question is walked: of a type whose lookups walk everywhere, and of each other
-- type that rows may have, for the names from which its lookups walk.
pub record IsWalkedLookup (zone : ZoneContent) (settings : Settings) (now : ℕ) (name : Result DomainName ParseError) (kind : RecordType)
    (reply : Reply) : Type 0 where
  pub everywhere : walks_everywhere (known_type kind) ≡ true → LooksUp settings now (ByWalk zone) name kind tt reply tt
  pub direct : is_no_row_type (type_number (known_type kind)) ≡ false → LooksUp settings now (ByDirectWalk zone) name kind tt reply tt

-- A lookup of a resolver asks these questions with these outcomes, none of them for a special-use name. If the zone answers them,
-- what is kept still agrees with walks over the zone; and if the link met no fault, the lookup is one in which questions are walked.
pub record ComesToWalk {H : Type 0} (zone : ZoneContent) (gives : Behavior H) (now : ℕ) (old new : Resolver H) (walked : Type 0)
    : Type 0 where
  pub asks : List Ask
  pub led : Led gives (request_options old.settings.options) now old.client.handle asks new.client.handle
  pub ordinary : All IsOrdinary asks
  pub aliases : new.client.preserve_intermediates ≡ old.client.preserve_intermediates
  pub keeps : All (IsAsked zone) asks → CacheAgrees zone old.client.cache → CacheAgrees zone new.client.cache
  pub walks : All (IsAsked zone) asks → HaveNoFault asks → CacheAgrees zone old.client.cache → walked
