-- What lookups of a resolver come to where the outcomes are those of a list of asks.
use Rattle.std.specs.Prelude.{◌≡◌, ◌≢◌, Contains, List, ℕ, Err}
use Rattle.dns_messages.specs.declared.query.Query.{Query}
use Rattle.stub_lookup.specs.declared.error.NetError.{NetError}
use Rattle.stub_lookup.specs.declared.error.NetError.TheVariants.{Memory}
use Rattle.stub_client.specs.Handle.{Ask, Behavior, Led}
use Rattle.stub_client.specs.Laws.{IsFailure}
use Rattle.stub_client.specs.Looks.{Reply, lookup_settings}
use Rattle.stub_client.specs.Outcomes.{AreAmong, ChainsEnd, ComesTo}
use Rattle.stub_client.specs.Conclusions.{CacheComesTo, ReplyComesTo}
use Rattle.stub_client.specs.Step.{meaning}
use Rattle.stub_client.specs.declared.caching_client.step.LookupSettings.{LookupSettings}
use Rattle.stub_core.specs.Attempts.{Lookups}
use Rattle.stub_core.specs.Resolver.{request_options}
use Rattle.stub_core.specs.declared.resolver.Resolver.{Resolver}

-- ---- questions

-- the error of a reply, other than a negative answer or want of memory, is what the outcome of one of the asks means
abbrev pub ErrorIsOutcome : List Ask → Reply → Type 0
ErrorIsOutcome asks reply =
    (error : NetError) → reply ≡ Err error → IsFailure error → error ≢ Memory
    → (ask : Ask) × Contains asks ask × (meaning ask.outcome ≡ Err error)

-- a reply to a question is what the question comes to by the outcomes of the asks
pub record IsReplyBy (settings : LookupSettings) (asks : List Ask) (q : Query) (reply : Reply) : Type 0 where
  pub comes : ReplyComesTo (ComesTo settings asks) q reply
  pub error : ErrorIsOutcome asks reply

-- lookups without cache and handle: each question has a reply that it comes to by the outcomes of the asks
abbrev pub ByOutcomes : LookupSettings → List Ask → Lookups (Unit {0}) Query
ByOutcomes settings asks old q reply new = IsReplyBy settings asks q reply

-- ---- lookups of a resolver

-- the settings of the lookups of a resolver
abbrev pub settings_of : {H : Type 0} → Resolver H → LookupSettings
settings_of resolver = lookup_settings resolver.client (request_options resolver.settings.options)

-- A lookup of a resolver asks these questions with these outcomes. By any asks that include them, and explain what the cache has,
-- it is a lookup without cache and handle, and they explain what the cache has afterwards.
pub record ComesToOutcomes {H : Type 0} (gives : Behavior H) (now : ℕ) (old new : Resolver H)
    (looks : Lookups (Unit {0}) Query → Type 0) : Type 0 where
  pub asks : List Ask
  pub led : Led gives (request_options old.settings.options) now old.client.handle asks new.client.handle
  pub comes : (all : List Ask) → AreAmong asks all → ChainsEnd (settings_of old) asks
      → CacheComesTo (ComesTo (settings_of old) all) old.client.cache
      → CacheComesTo (ComesTo (settings_of old) all) new.client.cache × looks (ByOutcomes (settings_of old) all)
