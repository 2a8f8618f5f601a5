-- Steps by cases: what holds of each kind of step holds of the step that an outcome leads to.
use Rattle.std.proofs.Common.{◌≡◌, ◌<◌, ◌&&◌, nat_lt, Bool, true, false, List, ℕ, Ok, Err, refl, arith}
use Rattle.std.proofs.lemmas.Bool.{cond_both}
use Rattle.std.proofs.lemmas.Bool.Decides.{nat_tests}
use Rattle.dns_records.specs.Record.{Record}
use Rattle.dns_messages.specs.declared.message.Message.{Message}
use Rattle.dns_messages.specs.declared.query.Query.{Query}
use Rattle.dns_messages.specs.declared.response.DnsResponse.{DnsResponse}
use Rattle.stub_lookup.specs.declared.error.DnsError.TheVariants as dns
use Rattle.stub_lookup.specs.declared.error.NetError.{NetError}
use Rattle.stub_lookup.specs.declared.error.NetError.TheVariants as errors
use Rattle.stub_lookup.specs.declared.error.NoRecords.{NoRecords}
use Rattle.stub_client.specs.Handle.{Outcome}
use Rattle.stub_client.specs.Laws.{IsFailure}
use Rattle.stub_client.specs.Step.{chain_of, given_message, is_given, is_negative_end, kept_aliases, max_depth, next_question, nothing_found, step_along, step_on}
use Rattle.stub_client.specs.declared.caching_client.step.LookupSettings.{LookupSettings}
use Rattle.stub_client.specs.declared.caching_client.step.Step.{Step}
use Rattle.stub_client.specs.declared.caching_client.step.Step.TheVariants.{Gives, Misses, Stops, Follows}

-- ---- tests

pub both-true : (a b : Bool) → a && b ≡ true → (a ≡ true) × (b ≡ true)
both-true true b h = (refl, h)
both-true false b h = absurd (cc)

pub less-true : (m n : ℕ) → nat_lt m n ≡ true → m < n
less-true m n h = grind (arith, nat_tests)

-- ---- steps

module _ (settings : LookupSettings) (q : Query) (kept : List Record) (depth : ℕ) (F : Step → Type 0) where
  -- the step that a response leads to, which is no error
  pub reply-cases : (m : Message)
      → (is_given q (chain_of q m) kept m ≡ true → F (Gives (given_message settings q (chain_of q m) kept m)))
      → (is_given q (chain_of q m) kept m ≡ false → is_negative_end q (chain_of q m) m ≡ true → F (Misses (nothing_found q m)))
      → (is_given q (chain_of q m) kept m ≡ false → is_negative_end q (chain_of q m) m ≡ false → (chain_of q m).is_alias ≡ true → depth < max_depth
      → F (Follows (next_question q (chain_of q m)) (kept_aliases settings q (chain_of q m) kept m)))
      → F (Stops (errors.Dns (dns.NoRecordsFound (nothing_found q m))))
      → F (step_along settings q (chain_of q m) kept depth m)
  reply-cases m gives misses follows stops =
      cond_both (is_given q (chain_of q m) kept m) (Gives (given_message settings q (chain_of q m) kept m)) _ F gives
      (λ not-given. cond_both (is_negative_end q (chain_of q m) m) (Misses (nothing_found q m)) _ F (misses not-given)
      (λ no-end. cond_both ((chain_of q m).is_alias && nat_lt depth max_depth)
      (Follows (next_question q (chain_of q m)) (kept_aliases settings q (chain_of q m) kept m))
      (Stops (errors.Dns (dns.NoRecordsFound (nothing_found q m)))) F
      (λ both. (let parts = both-true (chain_of q m).is_alias (nat_lt depth max_depth) both in
      follows not-given no-end parts.0 (less-true depth max_depth parts.1)))
      (λ neither. stops)))

  -- the step that an outcome leads to
  pub outcome-cases : (outcome : Outcome)
      → ((response : DnsResponse) → outcome ≡ Ok response → F (step_along settings q (chain_of q response.message) kept depth response.message))
      → ((answer : NoRecords) → F (Misses answer))
      → ((error : NetError) → IsFailure error → outcome ≡ Err error → F (Stops error))
      → F (step_on settings q kept depth outcome)
  outcome-cases (Ok response) replies misses stops = replies response refl
  outcome-cases (Err (errors.Dns (dns.NoRecordsFound answer))) replies misses stops = misses answer
  outcome-cases (Err (errors.Dns (dns.ResponseCode code))) replies misses stops = stops (errors.Dns (dns.ResponseCode code)) refl refl
  outcome-cases (Err (errors.Proto error)) replies misses stops = stops (errors.Proto error) refl refl
  outcome-cases (Err (errors.Message text)) replies misses stops = stops (errors.Message text) refl refl
  outcome-cases (Err (errors.Link fault)) replies misses stops = stops (errors.Link fault) refl refl
  outcome-cases (Err errors.Unsupported) replies misses stops = stops errors.Unsupported refl refl
  outcome-cases (Err errors.Memory) replies misses stops = stops errors.Memory refl refl
