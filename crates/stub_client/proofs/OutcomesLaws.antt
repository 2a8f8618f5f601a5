-- What questions come to where the outcomes are those of a list of asks.
use Rattle.std.proofs.Common.{◌≡◌, ℕ, suc, ◌≤◌, ◌++◌, nat_lt, Bool, true, false, List, [], Ok, Err, All, refl, sym, subst, arith}
use Rattle.std.specs.Prelude.{◌&&◌, if◌then◌else◌, Contains}
use Rattle.std.proofs.lemmas.Bool.Decides.{nat_tests}
use Rattle.std.proofs.lemmas.List.Elements.{All-contains_itself, All-weaker, Contains-append_left, Contains-append_right}
use Rattle.dns_records.specs.Record.{Record}
use Rattle.dns_messages.specs.declared.query.Query.{Query}
use Rattle.stub_lookup.specs.declared.error.DnsError.TheVariants as dns
use Rattle.stub_lookup.specs.declared.error.NetError.TheVariants as errors
use Rattle.stub_cache.specs.Cache.{CacheContent, Kept}
use Rattle.stub_cache.specs.declared.cache.entry.Entry.{Entry}
use Rattle.stub_client.specs.Handle.{Ask, Outcome}
use Rattle.stub_client.specs.Looks.{Looks, Reply}
use Rattle.stub_client.specs.Outcomes.{AreAmong, ChainsEnd, ComesTo, Leads, StepsTo, by_absence, by_alias, by_code, by_loopback, by_negative, by_nothing, by_records, by_spelling, no_alias, one_more}
use Rattle.stub_client.specs.Conclusions.{AsksComeTo, CacheComesTo, Conclusion, HasSpecialNames, KeptComesTo, ReplyComesTo, Respells, StepComesTo}
use Rattle.stub_client.specs.Step.{chain_of, given_message, is_given, is_negative_end, kept_aliases, max_depth, meaning, next_question, nothing_found, step_of, step_on}
use Rattle.stub_client.specs.declared.caching_client.step.LookupSettings.{LookupSettings}
use Rattle.stub_client.specs.declared.caching_client.step.Step.{Step}
use Rattle.stub_client.specs.declared.caching_client.step.Step.TheVariants.{Gives, Misses, Stops, Follows}
use Rattle.stub_client.proofs.ConclusionLaws.{lookup-comes}

-- ---- more asks

module _ (settings : LookupSettings) (asks others : List Ask) (are : AreAmong asks others) where
  steps-stay : {q : Query} {step : Step} → StepsTo settings asks q step → StepsTo settings others q step
  steps-stay {q} h = record {
    outcome = h.outcome;
    is_asked = are (record { question = q; outcome = h.outcome }) h.is_asked;
    is_step = h.is_step;
  }

  pub comes-still : {q : Query} {conclusion : Conclusion} → ComesTo settings asks q conclusion → ComesTo settings others q conclusion
  comes-still (by_records steps) = by_records (steps-stay steps)
  comes-still (by_negative steps) = by_negative (steps-stay steps)
  comes-still (by_nothing steps) = by_nothing (steps-stay steps)
  comes-still (by_code steps) = by_code (steps-stay steps)
  comes-still (by_alias steps comes) = by_alias (steps-stay steps) (comes-still comes)
  comes-still (by_loopback special) = by_loopback special
  comes-still (by_absence special) = by_absence special
  comes-still (by_spelling comes same) = by_spelling (comes-still comes) same

  kept-still : (q : Query) (kept : Kept) → KeptComesTo (ComesTo settings asks) q kept → KeptComesTo (ComesTo settings others) q kept
  kept-still q (Ok m) h = comes-still h
  kept-still q (Err answer) h = comes-still h

  pub cache-still : (cache : CacheContent) → CacheComesTo (ComesTo settings asks) cache → CacheComesTo (ComesTo settings others) cache
  cache-still cache h =
      All-weaker (λ (e : Entry). KeptComesTo (ComesTo settings asks) e.question e.kept)
      (λ (e : Entry). KeptComesTo (ComesTo settings others) e.question e.kept)
      (λ e comes. kept-still e.question e.kept comes) cache.entries h

  pub leads-still : {first last : Query} {links : ℕ} → Leads settings asks first links last → Leads settings others first links last
  leads-still no_alias = no_alias
  leads-still (one_more leads steps) = one_more (leads-still leads) (steps-stay steps)

-- ---- steps at any depth

-- where an alias that is followed at depth 0 is followed at a depth, the choice is the same
same-choice : (given ends alias deep : Bool) (gives misses follows stops : Step)
    → ((if given then gives else if ends then misses else if alias && true then follows else stops) ≡ follows → deep ≡ true)
    → (if given then gives else if ends then misses else if alias && deep then follows else stops)
    ≡ (if given then gives else if ends then misses else if alias && true then follows else stops)
same-choice true ends alias deep gives misses follows stops h = refl
same-choice false true alias deep gives misses follows stops h = refl
same-choice false false false deep gives misses follows stops h = refl
same-choice false false true true gives misses follows stops h = refl
same-choice false false true false gives misses follows stops h = (let never : false ≡ true = h refl in absurd (cc))

same-step : (settings : LookupSettings) (q : Query) (depth : ℕ) (out : Outcome)
    → ((target : Query) (kept : List Record) → step_on settings q [] 0 out ≡ Follows target kept → nat_lt depth max_depth ≡ true)
    → step_on settings q [] depth out ≡ step_on settings q [] 0 out
same-step settings q depth (Ok response) h =
    same-choice (is_given q (chain_of q response.message) [] response.message)
    (is_negative_end q (chain_of q response.message) response.message)
    (chain_of q response.message).is_alias (nat_lt depth max_depth)
    (Gives (given_message settings q (chain_of q response.message) [] response.message))
    (Misses (nothing_found q response.message))
    (Follows (next_question q (chain_of q response.message)) (kept_aliases settings q (chain_of q response.message) [] response.message))
    (Stops (errors.Dns (dns.NoRecordsFound (nothing_found q response.message))))
    (λ is. h _ _ is)
same-step settings q depth (Err (errors.Dns (dns.NoRecordsFound answer))) h = refl
same-step settings q depth (Err (errors.Dns (dns.ResponseCode code))) h = refl
same-step settings q depth (Err (errors.Proto error)) h = refl
same-step settings q depth (Err (errors.Message text)) h = refl
same-step settings q depth (Err (errors.Link fault)) h = refl
same-step settings q depth (Err errors.Unsupported) h = refl
same-step settings q depth (Err errors.Memory) h = refl

less : (m n : ℕ) → suc m ≤ n → nat_lt m n ≡ true
less m n h = grind (arith, nat_tests)

-- ---- lookups

module _ (settings : LookupSettings) (asks all : List Ask) (are : AreAmong asks all) where
  abbrev Comes : Query → Conclusion → Type 0
  Comes = ComesTo settings all

  respells : Respells Comes
  respells p q conclusion h same = by_spelling h same

  special-names : HasSpecialNames Comes
  special-names = record { loopback = λ q r is. by_loopback is; nothing = λ q code is. by_absence is }

  -- a chain of aliases of this length ends at a question
  abbrev Within : ℕ → Query → Type 0
  Within depth q = (first : Query) × Leads settings asks first depth q

  bears : (depth : ℕ) (q : Query) → Within depth q → (step : Step) → StepsTo settings asks q step
      → StepComesTo Comes Within depth q step
  bears depth q within (Gives m) steps = by_records (steps-stay settings asks all are steps)
  bears depth q within (Misses answer) steps = by_negative (steps-stay settings asks all are steps)
  bears depth q within (Stops (errors.Dns (dns.NoRecordsFound answer))) steps = by_nothing (steps-stay settings asks all are steps)
  bears depth q within (Stops (errors.Dns (dns.ResponseCode code))) steps = by_code (steps-stay settings asks all are steps)
  bears depth q within (Stops (errors.Proto error)) steps = tt
  bears depth q within (Stops (errors.Message text)) steps = tt
  bears depth q within (Stops (errors.Link fault)) steps = tt
  bears depth q within (Stops errors.Unsupported) steps = tt
  bears depth q within (Stops errors.Memory) steps = tt
  bears depth q within (Follows target kept) steps = (
    (within.0, one_more within.1 steps),
    λ conclusion comes. by_alias (steps-stay settings asks all are steps) comes,
  )

  module _ (end : ChainsEnd settings asks) where
    bears-at : (ask : Ask) → Contains asks ask → (depth : ℕ) → Within depth ask.question
        → StepComesTo Comes Within depth ask.question (step_of settings ask.question [] depth ask.outcome)
    bears-at ask there depth within =
        let steps : (step : Step) → step_of settings ask.question [] 0 ask.outcome ≡ step → StepsTo settings asks ask.question step
        = λ step is. record { outcome = ask.outcome; is_asked = there; is_step = is } in
        subst (StepComesTo Comes Within depth ask.question)
        (sym (same-step settings ask.question depth (meaning ask.outcome)
        (λ target kept is. less depth max_depth (end within.0 target (suc depth) (one_more within.1 (steps (Follows target kept) is))))))
        (bears depth ask.question within (step_of settings ask.question [] 0 ask.outcome) (steps _ refl))

    asks-come : AsksComeTo Comes Within settings asks
    asks-come =
        All-weaker (Contains asks)
        (λ (ask : Ask). (depth : ℕ) → Within depth ask.question
        → StepComesTo Comes Within depth ask.question (step_of settings ask.question [] depth ask.outcome))
        bears-at asks (All-contains_itself asks)

    -- A lookup keeps and returns what the outcomes come to.
    pub outcomes-come : (now : ℕ) (old : CacheContent) (q : Query) (reply : Reply) (new : CacheContent)
        → settings.preserve_intermediates ≡ false → CacheComesTo Comes old → Looks settings now 0 [] old q asks reply new
        → CacheComesTo Comes new × ReplyComesTo Comes q reply
    outcomes-come now old q reply new off holds looks =
        lookup-comes Comes respells special-names Within settings now 0 old q asks reply new off (q, no_alias) holds asks-come looks

-- The same with the asks that the cache is from.
pub outcomes-come-with : (settings : LookupSettings) (asks earlier : List Ask) → ChainsEnd settings asks → (now : ℕ) (old : CacheContent)
    (q : Query) (reply : Reply) (new : CacheContent)
    → settings.preserve_intermediates ≡ false → CacheComesTo (ComesTo settings earlier) old
    → Looks settings now 0 [] old q asks reply new
    → CacheComesTo (ComesTo settings (asks ++ earlier)) new × ReplyComesTo (ComesTo settings (asks ++ earlier)) q reply
outcomes-come-with settings asks earlier end now old q reply new off holds looks =
    outcomes-come settings asks (asks ++ earlier) (λ ask h. Contains-append_left asks earlier ask h) end now old q reply new off
    (cache-still settings earlier (asks ++ earlier) (λ ask h. Contains-append_right asks earlier ask h) old holds) looks
