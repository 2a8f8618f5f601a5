-- What questions come to, TTLs aside: a claim about whole lookups.
use Rattle.std.specs.Prelude.{◌≡◌, suc, true, All, List, [], ◌∷◌, ℕ, map, Ok, Err}
use Rattle.dns_names.specs.Compare.{lower}
use Rattle.dns_records.specs.Record.{Record}
use Rattle.dns_messages.specs.declared.query.Query.{Query}
use Rattle.dns_messages.specs.declared.response_code.ResponseCode.{ResponseCode}
use Rattle.stub_lookup.specs.declared.error.DnsError.TheVariants as dns
use Rattle.stub_lookup.specs.declared.error.NetError.{NetError}
use Rattle.stub_lookup.specs.declared.error.NetError.TheVariants as errors
use Rattle.stub_cache.specs.Cache.{CacheContent, Kept, same_key}
use Rattle.stub_client.specs.Handle.{Ask}
use Rattle.stub_client.specs.Looks.{Reply}
use Rattle.stub_client.specs.SpecialNames.{special_answer}
use Rattle.stub_client.specs.Step.{step_of}
use Rattle.stub_client.specs.declared.caching_client.step.LookupSettings.{LookupSettings}
use Rattle.stub_client.specs.declared.caching_client.step.Step.{Step}
use Rattle.stub_client.specs.declared.caching_client.step.Step.TheVariants.{Gives, Misses, Stops, Follows}
use Rattle.stub_client.specs.declared.special_names.SpecialAnswer.TheVariants.{Loopback, Nothing}

-- ---- conclusions

-- a record without its TTL, and with the owner in lower case
abbrev pub value_of : Record → Record
value_of r = record r { name = record r.name { labels = lower r.name.labels }; ttl = 0 }

-- records without their TTLs, and with their owners in lower case
abbrev pub values : List Record → List Record
values records = map value_of records

-- what a question comes to: records, a negative answer, or an error by its response code
pub data Conclusion : Type 0 where
  Finds : (records : List Record) → Conclusion
  Lacks : (code : ResponseCode) → Conclusion
  Refuses : (code : ResponseCode) → Conclusion

-- ---- claims

-- A claim about what questions come to. It respells if another spelling of a question comes to the same.
abbrev pub Respells : (Query → Conclusion → Type 0) → Type 0
Respells comes_to = (p q : Query) (conclusion : Conclusion) → comes_to p conclusion → same_key p q ≡ true → comes_to q conclusion

-- questions for special-use names come to their answers
pub record HasSpecialNames (comes_to : Query → Conclusion → Type 0) : Type 0 where
  pub loopback : (q : Query) (r : Record) → special_answer q ≡ Loopback r → comes_to q (Finds (values (r ∷ [])))
  pub nothing : (q : Query) (code : ResponseCode) → special_answer q ≡ Nothing code → comes_to q (Lacks code)

-- ---- what is kept and returned

-- what is stored for a question is what the question comes to
abbrev pub KeptComesTo : (Query → Conclusion → Type 0) → Query → Kept → Type 0
KeptComesTo comes_to q (Ok m) = comes_to q (Finds (values m.answers))
KeptComesTo comes_to q (Err answer) = comes_to q (Lacks answer.response_code)

-- what each entry of a cache has is what its question comes to
abbrev pub CacheComesTo : (Query → Conclusion → Type 0) → CacheContent → Type 0
CacheComesTo comes_to cache = All (λ e. KeptComesTo comes_to e.question e.kept) cache.entries

-- an error: of those that are neither negative answers nor response codes, nothing is claimed
abbrev pub ErrorComesTo : (Query → Conclusion → Type 0) → Query → NetError → Type 0
ErrorComesTo comes_to q (errors.Dns (dns.NoRecordsFound answer)) = comes_to q (Lacks answer.response_code)
ErrorComesTo comes_to q (errors.Dns (dns.ResponseCode code)) = comes_to q (Refuses code)
ErrorComesTo comes_to q error = Unit {0}

-- a reply is what the question comes to, TTLs aside
abbrev pub ReplyComesTo : (Query → Conclusion → Type 0) → Query → Reply → Type 0
ReplyComesTo comes_to q (Ok lookup) = comes_to q (Finds (values lookup.message.answers))
ReplyComesTo comes_to q (Err error) = ErrorComesTo comes_to q error

-- ---- steps

-- A step bears the claim out. `within depth q` tells that the aliases from q on end before too many are followed.
abbrev pub StepComesTo : (Query → Conclusion → Type 0) → (ℕ → Query → Type 0) → ℕ → Query → Step → Type 0
StepComesTo comes_to within depth q (Gives m) = comes_to q (Finds (values m.answers))
StepComesTo comes_to within depth q (Misses answer) = comes_to q (Lacks answer.response_code)
StepComesTo comes_to within depth q (Stops error) = ErrorComesTo comes_to q error
StepComesTo comes_to within depth q (Follows target kept) =
    within (suc depth) target × ((conclusion : Conclusion) → comes_to target conclusion → comes_to q conclusion)

-- each outcome leads to a step that bears the claim out, at each depth at which the aliases end in time
abbrev pub AsksComeTo : (Query → Conclusion → Type 0) → (ℕ → Query → Type 0) → LookupSettings → List Ask → Type 0
AsksComeTo comes_to within settings asks =
    All (λ ask. (depth : ℕ) → within depth ask.question
    → StepComesTo comes_to within depth ask.question (step_of settings ask.question [] depth ask.outcome)) asks
