-- A lookup over the replies that are known.
use Rattle.std.specs.Prelude.{◌≡◌, ◌≤◌, ◌++◌, All, length, List, [], ◌∷◌, ℕ, None, Err}
use Rattle.dns_messages.specs.declared.query.Query.{Query}
use Rattle.stub_cache.specs.Cache.{CacheContent}
use Rattle.stub_client.specs.Handle.{Ask}
use Rattle.stub_client.specs.Looks.{Looks, Reply, lookup_settings, out_of_memory}
use Rattle.stub_client.specs.declared.caching_client.CachingClient.{CachingClient}
use Rattle.stub_client.specs.declared.caching_client.step.LookupSettings.{LookupSettings}
use Rattle.stub_config.specs.declared.request_options.DnsRequestOptions.{DnsRequestOptions}
use Rattle.stub_lookup.specs.declared.error.NetError.TheVariants as net
use Rattle.api_resolver.specs.known.Answered.{AnsweredState, GivesTo}
use Rattle.api_resolver.specs.known.Known.{outcome_for}
use Rattle.api_resolver.specs.declared.known.known.KnownReply.{KnownReply}
use Rattle.api_resolver.specs.declared.known.progress.Progress.{Progress}
use Rattle.api_resolver.specs.declared.known.progress.Progress.TheVariants.{Asks, Ends}

-- a handle over the replies that are known
abbrev pub over : List KnownReply → AnsweredState
over known = record { known = known; wanted = None }

-- a question that was asked has the outcome that is known of it, or there was no memory for one
abbrev pub IsKnown : List KnownReply → Ask → Type 0
IsKnown known ask = GivesTo ask.question (over known) ask.outcome (over known)

-- the same of each question of a list
abbrev pub AreKnown : List KnownReply → List Ask → Type 0
AreKnown known asks = All (IsKnown known) asks

-- A lookup ends: it is one of the client, in which each question that it asks has the outcome that is known of it.
pub record Concludes (settings : LookupSettings) (now : ℕ) (known : List KnownReply) (old : CacheContent) (q : Query) (reply : Reply)
    (new : CacheContent) : Type 0 where
  pub asks : List Ask
  pub are_known : AreKnown known asks
  pub looks : Looks settings now 0 [] old q asks reply new
  pub few : length asks ≤ 8

-- the question that nothing is known of ends a lookup, as for want of memory
abbrev pub unanswered : Query → Ask
unanswered q = record { question = q; outcome = Err net.Memory }

-- A lookup goes on to ask a question that nothing is known of, after others that have the outcomes that are known. The cache would
-- be as it was.
pub record GoesOn (settings : LookupSettings) (now : ℕ) (known : List KnownReply) (old : CacheContent) (q asked : Query) : Type 0 where
  pub asks : List Ask
  pub are_known : AreKnown known asks
  pub is_unknown : outcome_for known asked ≡ None
  pub looks : Looks settings now 0 [] old q (asks ++ unanswered asked ∷ []) out_of_memory old

-- what a lookup over the replies that are known comes to
abbrev pub ComesTo : LookupSettings → ℕ → List KnownReply → CacheContent → Query → Progress → CacheContent → Type 0
ComesTo settings now known old q (Ends reply) new = Concludes settings now known old q reply new
ComesTo settings now known old q (Asks asked) new = GoesOn settings now known old q asked × (new ≡ old)

-- the same for a client of a handle over these replies; nothing but its cache changes
pub record Comes (options : DnsRequestOptions) (now : ℕ) (old : CachingClient AnsweredState) (q : Query) (progress : Progress)
    (new : CachingClient AnsweredState) : Type 0 where
  pub comes : ComesTo (lookup_settings old options) now old.handle.known old.cache q progress new.cache
  pub same_handle : new.handle ≡ old.handle
  pub same_settings : new.preserve_intermediates ≡ old.preserve_intermediates
