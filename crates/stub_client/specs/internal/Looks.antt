-- The parts of a lookup of a client.
use Rattle.std.specs.Prelude.{◌≡◌, ◌+◌, ◌⊎◌, List, [], ◌∷◌, ℕ, Option, Some, None, option_map, Result, Ok, Err}
use Rattle.std.specs.declared.alloc.AllocError.{AllocError}
use Rattle.dns_records.specs.Record.{Record}
use Rattle.dns_messages.specs.declared.query.Query.{Query}
use Rattle.dns_messages.specs.declared.response_code.ResponseCode.{ResponseCode}
use Rattle.stub_config.specs.declared.request_options.DnsRequestOptions.{DnsRequestOptions}
use Rattle.stub_lookup.specs.Error.{no_records}
use Rattle.stub_lookup.specs.Lookup.{lookup_of, max_ttl}
use Rattle.stub_lookup.specs.declared.error.NetError.TheVariants.{Memory}
use Rattle.stub_cache.specs.Cache.{Kept}
use Rattle.stub_client.specs.Handle.{Ask, Led, Outcome, request_for}
use Rattle.stub_client.specs.Looks.{Looks, MayRunOut, Reply, cached_reply, lookup_settings, negative, out_of_memory}
use Rattle.stub_client.specs.SpecialNames.{special_answer}
use Rattle.stub_client.specs.Step.{meaning, step_of}
use Rattle.stub_client.specs.declared.caching_client.CachingClient.{CachingClient}
use Rattle.stub_client.specs.declared.caching_client.local_reply.LocalReply.{LocalReply}
use Rattle.stub_client.specs.declared.caching_client.local_reply.LocalReply.TheVariants as local
use Rattle.stub_client.specs.declared.caching_client.step.Step.{Step}
use Rattle.stub_client.specs.declared.caching_client.step.Step.TheVariants.{Stops}
use Rattle.stub_client.specs.declared.request.DnsRequest.{DnsRequest}
use Rattle.stub_client.specs.declared.special_names.SpecialAnswer.{SpecialAnswer}
use Rattle.stub_client.specs.declared.special_names.SpecialAnswer.TheVariants.{Ordinary, Loopback, Nothing}

-- the reply to a question that is answered without the handle, if it is
abbrev pub local_reply : ℕ → Query → SpecialAnswer → Option Kept → Option Reply
local_reply now q (Loopback r) hit = Some (Ok (lookup_of q (r ∷ []) (now + max_ttl)))
local_reply now q (Nothing code) hit = Some (negative (no_records q code))
local_reply now q Ordinary hit = option_map (cached_reply now q) hit

-- the reply to a question by how it is answered without the handle, if it is
abbrev pub reply_of : Query → LocalReply → Option Reply
reply_of q (local.Complete reply) = Some reply
reply_of q (local.Nothing code) = Some (negative (no_records q code))
reply_of q local.Asks = None

-- the reply of what was copied before it was stored, or want of memory for either
abbrev pub reply_if_stored : {A S E F : Type 0} → (A → Reply) → Result S E → Result A F → Reply
reply_if_stored reply (Ok stored) (Ok copy) = reply copy
reply_if_stored reply (Ok stored) (Err error) = out_of_memory
reply_if_stored reply (Err error) copy = out_of_memory

-- the handle of a client was asked a question, and this is the step to take, unless memory ran out
pub record IsAsked {H : Type 0} (gives : H → DnsRequest → ℕ → Outcome → H → Type 0) (options : DnsRequestOptions) (now depth : ℕ)
    (kept : List Record) (old : CachingClient H) (q : Query) (step : Step) (new : CachingClient H) : Type 0 where
  pub outcome : Outcome
  pub given : gives old.handle (request_for q options) now outcome new.handle
  pub is_step : (step ≡ step_of (lookup_settings old options) q kept depth outcome)
      ⊎ ((step ≡ Stops Memory) × MayRunOut (meaning outcome))

-- there was no memory to ask a question
abbrev pub IsNotAsked : {H : Type 0} → CachingClient H → Step → CachingClient H → Type 0
IsNotAsked old step new = (step ≡ Stops Memory) × (new.handle ≡ old.handle)

-- the step to take, or that memory ran out
abbrev pub step_or_memory : {E : Type 0} → Result Step E → Step
step_or_memory (Ok step) = step
step_or_memory (Err error) = Stops Memory

-- the handle of a client was asked a question, or there was no memory to ask it
abbrev pub Tries : {H : Type 0} → (H → DnsRequest → ℕ → Outcome → H → Type 0) → DnsRequestOptions → ℕ → ℕ → List Record
    → CachingClient H → Query → Result Step AllocError → CachingClient H → Type 0
Tries gives options now depth kept old q result new =
    IsNotAsked old (step_or_memory result) new
    ⊎ IsAsked gives options now depth kept old q (step_or_memory result) new

-- A lookup of a question at a depth of aliases, with those that are kept.
pub record LooksUp {H : Type 0} (gives : H → DnsRequest → ℕ → Outcome → H → Type 0) (options : DnsRequestOptions) (now depth : ℕ)
    (kept : List Record) (old : CachingClient H) (q : Query) (reply : Reply) (new : CachingClient H) : Type 0 where
  pub asks : List Ask
  pub led : Led gives options now old.handle asks new.handle
  pub looks : Looks (lookup_settings old options) now depth kept old.cache q asks reply new.cache
  pub settings : new.preserve_intermediates ≡ old.preserve_intermediates
