-- What questions come to where the outcomes are those of a list of asks, and what else a list of asks determines.
use Rattle.std.specs.Prelude.{◌≡◌, ◌≤◌, ◌++◌, suc, true, Contains, List, [], ◌∷◌, ℕ, map, Err}
use Rattle.dns_records.specs.Record.{Record}
use Rattle.dns_messages.specs.Message.{all_records}
use Rattle.dns_messages.specs.declared.message.Message.{Message}
use Rattle.dns_messages.specs.declared.query.Query.{Query}
use Rattle.dns_messages.specs.declared.response_code.ResponseCode.{ResponseCode}
use Rattle.stub_lookup.specs.declared.error.DnsError.TheVariants as dns
use Rattle.stub_lookup.specs.declared.error.NetError.{NetError}
use Rattle.stub_lookup.specs.declared.error.NetError.TheVariants.{Dns}
use Rattle.stub_lookup.specs.declared.error.NoRecords.{NoRecords}
use Rattle.stub_cache.specs.Cache.{same_key}
use Rattle.stub_client.specs.Handle.{Ask, Outcome}
use Rattle.stub_client.specs.Conclusions.{Conclusion, Finds, Lacks, Refuses, values}
use Rattle.stub_client.specs.SpecialNames.{special_answer}
use Rattle.stub_client.specs.Step.{asks_for, chain_of, has_class, is_at_either, max_depth, meaning, step_of}
use Rattle.stub_client.specs.declared.caching_client.step.LookupSettings.{LookupSettings}
use Rattle.stub_client.specs.declared.caching_client.step.Step.{Step}
use Rattle.stub_client.specs.declared.caching_client.step.Step.TheVariants.{Gives, Misses, Stops, Follows}
use Rattle.stub_client.specs.declared.special_names.SpecialAnswer.TheVariants.{Loopback, Nothing}

-- ---- what questions come to

-- A question was asked, and its outcome leads to this step if no alias was followed before it.
pub record StepsTo (settings : LookupSettings) (asks : List Ask) (q : Query) (step : Step) : Type 0 where
  pub outcome : Outcome
  pub is_asked : Contains asks (record { question = q; outcome = outcome })
  pub is_step : step_of settings q [] 0 outcome ≡ step

-- What a question comes to if it is asked again, without a cache, and the outcomes are those of these asks (RFC 1034 section
-- 5.3.3).
pub data ComesTo (settings : LookupSettings) (asks : List Ask) : Query → Conclusion → Type 0 where
  -- the reply has records for the question
  by_records : {q : Query} {m : Message} → StepsTo settings asks q (Gives m) → ComesTo settings asks q (Finds (values m.answers))
  -- the reply is a negative answer (RFC 2308 section 2)
  by_negative : {q : Query} {answer : NoRecords} → StepsTo settings asks q (Misses answer)
      → ComesTo settings asks q (Lacks answer.response_code)
  -- the reply has neither records for the question nor an alias
  by_nothing : {q : Query} {answer : NoRecords} → StepsTo settings asks q (Stops (Dns (dns.NoRecordsFound answer)))
      → ComesTo settings asks q (Lacks answer.response_code)
  -- the reply has the response code of an error (RFC 1035 section 4.1.1)
  by_code : {q : Query} {code : ResponseCode} → StepsTo settings asks q (Stops (Dns (dns.ResponseCode code)))
      → ComesTo settings asks q (Refuses code)
  -- the reply has an alias, whose target is asked next (RFC 1034 section 3.6.2)
  by_alias : {q target : Query} {kept : List Record} {conclusion : Conclusion} → StepsTo settings asks q (Follows target kept)
      → ComesTo settings asks target conclusion → ComesTo settings asks q conclusion
  -- the name is special, and has an address of the local host (RFC 6761 section 6.3)
  by_loopback : {q : Query} {r : Record} → special_answer q ≡ Loopback r → ComesTo settings asks q (Finds (values (r ∷ [])))
  -- the name is special, and has no record for the question
  by_absence : {q : Query} {code : ResponseCode} → special_answer q ≡ Nothing code → ComesTo settings asks q (Lacks code)
  -- the question is another spelling of one that comes to this (RFC 1035 section 2.3.3)
  by_spelling : {p q : Query} {conclusion : Conclusion} → ComesTo settings asks p conclusion → same_key p q ≡ true
      → ComesTo settings asks q conclusion

-- ---- which asks there are

-- each of the asks is one of the others
abbrev pub AreAmong : List Ask → List Ask → Type 0
AreAmong asks others = (ask : Ask) → Contains asks ask → Contains others ask

-- ---- chains of aliases

-- This number of aliases, each from the outcome of one of the asks, leads from one question to another.
pub data Leads (settings : LookupSettings) (asks : List Ask) (first : Query) : ℕ → Query → Type 0 where
  no_alias : Leads settings asks first 0 first
  one_more : {n : ℕ} {q target : Query} {kept : List Record} → Leads settings asks first n q
      → StepsTo settings asks q (Follows target kept) → Leads settings asks first (suc n) target

-- no chain of aliases has more links than are followed
abbrev pub ChainsEnd : LookupSettings → List Ask → Type 0
ChainsEnd settings asks = (first last : Query) (links : ℕ) → Leads settings asks first links last → links ≤ max_depth

-- ---- errors

-- the outcome of the last of the asks means this error
pub record EndsInError (asks : List Ask) (error : NetError) : Type 0 where
  pub earlier : List Ask
  pub last : Ask
  pub is_last : asks ≡ earlier ++ last ∷ []
  pub is_error : meaning last.outcome ≡ Err error

-- ---- agreement

-- the outcomes of the asks are the first of these, in order
pub record AreFirst (outcomes : List Outcome) (asks : List Ask) : Type 0 where
  pub later : List Outcome
  pub in_order : outcomes ≡ map (λ ask. ask.outcome) asks ++ later

-- ---- one question

-- A reply answers a question at once: a record of one of its sections has the class and the type that are asked for, and is at
-- the end of the aliases or at the name of the question.
pub record AnswersAtOnce (q : Query) (m : Message) : Type 0 where
  pub answer : Record
  pub is_there : Contains (all_records m) answer
  pub class : has_class q answer ≡ true
  pub type_ : asks_for q answer ≡ true
  pub owner : is_at_either (chain_of q m).name q answer ≡ true
