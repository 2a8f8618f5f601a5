-- What is stored of an error to which an alias led.
use Rattle.std.proofs.Common.{◌≡◌, refl, sym, subst}
use Rattle.std.specs.Prelude.{ℕ, Some, Ok, Err}
use Rattle.dns_messages.specs.declared.query.Query.{Query}
use Rattle.stub_lookup.specs.Error.{negative_answer}
use Rattle.stub_lookup.specs.declared.error.DnsError.TheVariants as dns
use Rattle.stub_lookup.specs.declared.error.NetError.{NetError}
use Rattle.stub_lookup.specs.declared.error.NetError.TheVariants as errors
use Rattle.stub_lookup.specs.declared.error.NoRecords.{NoRecords}
use Rattle.stub_cache.specs.Cache.{CacheContent}
use Rattle.stub_client.specs.Looks.{Reply, Stores, kept_of, negative}
use Rattle.stub_client.proofs.StepLaws.{is-negative}

module _ (now : ℕ) (old : CacheContent) (q : Query) (error : NetError) where
  -- a negative answer is stored
  pub stores-negative : (answer : NoRecords) (reply : Reply) (new : CacheContent) → negative_answer error ≡ Ok answer
      → Stores now old q (Some (Err answer)) (negative answer) reply new → Stores now old q (kept_of q (Err error)) (Err error) reply new
  stores-negative answer reply new h stores =
      subst (λ (e : NetError). Stores now old q (kept_of q (Err e)) (Err e) reply new) (sym (is-negative error answer h)) stores

-- any other error is not
pub stores-nothing : (now : ℕ) (old : CacheContent) (q : Query) (error other : NetError) → negative_answer error ≡ Err other
    → Stores now old q (kept_of q (Err error)) (Err error) (Err other) old
stores-nothing now old q (errors.Dns (dns.NoRecordsFound answer)) other h = absurd (cc)
stores-nothing now old q (errors.Dns (dns.ResponseCode code)) other h = (cc, refl)
stores-nothing now old q (errors.Proto error) other h = (cc, refl)
stores-nothing now old q (errors.Message text) other h = (cc, refl)
stores-nothing now old q (errors.Link fault) other h = (cc, refl)
stores-nothing now old q errors.Unsupported other h = (cc, refl)
stores-nothing now old q errors.Memory other h = (cc, refl)
