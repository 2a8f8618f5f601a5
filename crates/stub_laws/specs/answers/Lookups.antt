-- Lookups of a resolver of which claims about whole answers hold.
use Rattle.std.specs.Prelude.{◌≡◌, ◌≤◌, Bool, All, List, ℕ}
use Rattle.dns_names.specs.Name.{DomainName}
use Rattle.dns_messages.specs.declared.query.Query.{Query}
use Rattle.dns_records.specs.Rows.{Rows}
use Rattle.stub_config.specs.declared.request_options.DnsRequestOptions.{DnsRequestOptions}
use Rattle.stub_cache.specs.Cache.{CacheContent}
use Rattle.stub_cache.specs.Ttl.{TtlConfigContent}
use Rattle.stub_client.specs.AnswerTypes.{CacheHasAskedTypes, HasAskedTypes, ReplyHasAskedTypes}
use Rattle.stub_client.specs.Handle.{Ask, Behavior, Led}
use Rattle.stub_client.specs.Laws.{EachReply}
use Rattle.stub_client.specs.Looks.{Reply}
use Rattle.stub_core.specs.Attempts.{Lookups}
use Rattle.stub_core.specs.Origins.{HasNoMinima}
use Rattle.stub_core.specs.Outcomes.{settings_of}
use Rattle.stub_core.specs.Resolver.{request_options}
use Rattle.stub_core.specs.declared.resolver.Resolver.{Resolver}
use Rattle.stub_link.specs.LinkState.{Version}
use Rattle.stub_laws.specs.history.Stands.{StandAt}
use Rattle.stub_laws.specs.answers.Claims.{AbsenceClaim, AnswersClaim, BearOut, DepthClaim, FailureClaim, HasNoNegativeMinima, HoldOfCache, HoldOfReply, longest_of}
use Rattle.stub_laws.specs.answers.Failing.{FailsIndeed, failed_questions}
use Rattle.stub_laws.specs.answers.Standing.{FindsWhole, IsDeep, LacksIndeed, MissesIndeed}

-- the claims hold of a reply, and each answer has the type that was asked for, or is an alias
pub record IsHeld (finds : AnswersClaim) (lacks : AbsenceClaim) (fails : FailureClaim) (now : ℕ) (q : Query) (reply : Reply) : Type 0 where
  pub holds : HoldOfReply finds lacks fails q now reply
  pub typed : ReplyHasAskedTypes q reply

-- the claims hold of what a cache has, and each answer there has the type that was asked for, or is an alias
pub record IsHeldCache (low short : Type 0) (longest : Query → ℕ) (finds : AnswersClaim) (misses : AbsenceClaim) (now : ℕ)
    (cache : CacheContent) : Type 0 where
  pub holds : HoldOfCache low short longest finds misses now cache
  pub typed : CacheHasAskedTypes cache

-- lookups without cache and handle, in which claims hold of the reply to each question
abbrev pub ByClaims : AnswersClaim → AbsenceClaim → FailureClaim → ℕ → Lookups (Unit {0}) Query
ByClaims finds lacks fails now old q reply new = IsHeld finds lacks fails now q reply

-- the outcomes of questions bear claims out, and have the types that were asked for
pub record Support (finds : AnswersClaim) (misses lacks : AbsenceClaim) (fails : FailureClaim) (deep : DepthClaim) {H : Type 0} (now : ℕ)
    (resolver : Resolver H) (asks : List Ask) : Type 0 where
  pub bear : All (BearOut finds misses lacks fails deep (settings_of resolver) resolver.client.cache.config now) asks
  pub typed : EachReply HasAskedTypes asks

-- A lookup of a resolver asks these questions with these outcomes, by which errors are explained. If they bear the claims out, these
-- hold of what is kept if they did before, and the lookup is one in which they hold of the reply to each question.
pub record KeepsClaims {H : Type 0} (low short : Type 0) (longest : Query → ℕ) (finds : AnswersClaim) (misses lacks : AbsenceClaim)
    (fails : List Ask → FailureClaim) (deep : DepthClaim) (gives : Behavior H) (now : ℕ) (old new : Resolver H) (looks : Lookups (Unit {0}) Query → Type 0) : Type 0 where
  pub asks : List Ask
  pub led : Led gives (request_options old.settings.options) now old.client.handle asks new.client.handle
  pub aliases : new.client.preserve_intermediates ≡ old.client.preserve_intermediates
  pub config : new.client.cache.config ≡ old.client.cache.config
  pub keeps : Support finds misses lacks (fails asks) deep now old asks
      → IsHeldCache low short longest finds misses now old.client.cache
      → IsHeldCache low short longest finds misses now new.client.cache × looks (ByClaims finds lacks (fails asks) now)

-- ---- what stood

-- lookups in which the reply to each question stood, as a whole set, or as a negative answer; or it is an error that has a reason
abbrev pub ByStanding : TtlConfigContent → Bool → DomainName → DnsRequestOptions → List Version → List Query → ℕ → Lookups (Unit {0}) Query
ByStanding config preserves origin options history failed now =
    ByClaims (λ q at records. FindsWhole config preserves history q at records)
    (λ q at answer. LacksIndeed config preserves origin history q at answer)
    (λ q at error. FailsIndeed preserves origin options history failed q at error) now

-- what a cache has stood, up to its deadlines
abbrev pub CacheStands : TtlConfigContent → Bool → DomainName → List Version → ℕ → CacheContent → Type 0
CacheStands config preserves origin history now cache =
    IsHeldCache (HasNoMinima config) (HasNoNegativeMinima config) (longest_of config)
    (λ q at records. FindsWhole config preserves history q at records)
    (λ q at answer. MissesIndeed config preserves origin history q at answer) now cache

-- A lookup of a resolver asks these questions with these outcomes. If each is answered by rows of this history, or fails for a reason,
-- what is kept stood if it did before, and the lookup is one in which the reply to each question stood, or has such a reason.
abbrev pub Stands : {H : Type 0} → DomainName → List Version → Behavior H → ℕ → Resolver H → Resolver H
    → (Lookups (Unit {0}) Query → Type 0) → Type 0
Stands origin history gives now old new looks =
    KeepsClaims (HasNoMinima old.client.cache.config) (HasNoNegativeMinima old.client.cache.config)
    (longest_of old.client.cache.config)
    (λ q at records. FindsWhole old.client.cache.config old.client.preserve_intermediates history q at records)
    (λ q at answer. MissesIndeed old.client.cache.config old.client.preserve_intermediates origin history q at answer)
    (λ q at answer. LacksIndeed old.client.cache.config old.client.preserve_intermediates origin history q at answer)
    (λ asks q at error. FailsIndeed old.client.preserve_intermediates origin (request_options old.settings.options) history
    (failed_questions asks) q at error) (λ depth q. IsDeep old.client.preserve_intermediates history now depth q) gives now old new looks

-- what stood by a moment still stands in another history
abbrev pub GoesOn : ℕ → List Version → List Version → Type 0
GoesOn now history other =
    (moment : ℕ) (rows : Rows) → moment ≤ now → StandAt history moment rows → StandAt other moment rows
