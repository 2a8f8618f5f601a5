-- Where records come from is a claim that every lookup keeps.
use Rattle.std.proofs.Common.{◌≡◌, ℕ, ◌+◌, ◌-◌, ◌<◌, ◌≤◌, ◌&&◌, ◌||◌, ◌++◌, not, Bool, true, false, List, [], ◌∷◌, Ok, Err, All, Contains, refl, sym, ap, ◌∙◌, slice_index_or, arith}
use Rattle.std.proofs.lemmas.Bool.{not-true}
use Rattle.std.proofs.lemmas.List.Elements.{All-nil, All-cons, All-head, All-tail, All-weaker, All-contains_itself, Contains-get_or}
use Rattle.dns_wire.specs.codes.DNSClass.{class_number}
use Rattle.dns_wire.specs.codes.RecordType.{type_number}
use Rattle.dns_names.specs.Compare.{same_name}
use Rattle.dns_names.specs.internal.Compare.{same_name-equivalence}
use Rattle.dns_records.specs.Record.{Record, after_seconds}
use Rattle.dns_messages.specs.Message.{all_records}
use Rattle.dns_messages.specs.Response.{is_empty}
use Rattle.dns_messages.specs.declared.message.Message.{Message}
use Rattle.dns_messages.specs.declared.query.Query.{Query}
use Rattle.dns_messages.specs.declared.response.DnsResponse.{DnsResponse}
use Rattle.stub_cache.specs.Cache.{CacheContent, Kept, same_key}
use Rattle.stub_cache.specs.Ttl.{TtlConfigContent, clamped_record}
use Rattle.stub_client.specs.Handle.{Ask}
use Rattle.stub_client.specs.Laws.{BearsOut, BearsOutClosely, EachReply, HasNoMinimum, HoldsOfCache, HoldsOfEntry, HoldsOfKept, HoldsOfLoopback, HoldsOfReply, Outlasts, RecordClaim}
use Rattle.stub_client.specs.Looks.{Looks, Reply}
use Rattle.stub_client.specs.Origins.{Asked, Brings, BringsClosely, Comes, HasResponse, IsBrought, IsBroughtClosely, IsPartOf, LeadsOn, LeadsOnClosely, after_aliases, asked_at, by_alias, by_cache, by_loopback, by_response, directly, elsewhere, in_answers, is_complete}
use Rattle.stub_client.specs.SpecialNames.{special_answer}
use Rattle.stub_client.specs.Step.{chain_of, found, is_end_found, is_selected, lowered}
use Rattle.stub_client.specs.declared.caching_client.step.LookupSettings.{LookupSettings}
use Rattle.stub_client.specs.declared.special_names.SpecialAnswer.TheVariants.{Loopback}
use Rattle.stub_client.proofs.ClaimLaws.{holds-later, lookup-keeps}
use Rattle.stub_client.proofs.ClaimSteps.{all-steps, all-steps-closely, no-aliases}
use Rattle.stub_client.proofs.RecordsLaws.{each-weaker, numbers-equal}
use Rattle.stub_client.proofs.StepCases.{both-true}

-- ---- tests

both-hold : (a b : Bool) → a ≡ true → b ≡ true → a && b ≡ true
both-hold true b h i = i
both-hold false b h i = absurd (cc)

without-last : (a b p : Bool) → p ≡ false → a && (b && not p) ≡ a && b
without-last true true p off = ap not off
without-last true false p off = refl
without-last false b p off = refl

nothing-there : (none a : Bool) → not none && (not a || true) ≡ false → none ≡ true
nothing-there true a h = refl
nothing-there false true h = absurd (cc)
nothing-there false false h = absurd (cc)

-- ---- questions

pub same-key-itself : (q : Query) → same_key q q ≡ true
same-key-itself q =
    both-hold (same_name q.name q.name) _ (same_name-equivalence.refl q.name)
    (both-hold _ _ (numbers-equal (type_number q.query_type) (type_number q.query_type) refl)
    (numbers-equal (class_number q.query_class) (class_number q.query_class) refl))

-- ---- what was asked

each-asked : (P : Asked → Type 0) (now : ℕ) (asks : List Ask) → All P (asked_at now asks)
    → All (λ ask. P (record { moment = now; ask = ask })) asks
each-asked P now [] h = All-nil (λ ask. P (record { moment = now; ask = ask }))
each-asked P now (ask ∷ asks) h =
    All-cons (λ ask. P (record { moment = now; ask = ask })) ask asks
    (All-head P (record { moment = now; ask = ask }) (asked_at now asks) h)
    (each-asked P now asks (All-tail P (record { moment = now; ask = ask }) (asked_at now asks) h))

-- what is asked at a moment is in each list that has it
pub are-asked : (history : List Asked) (now : ℕ) (asks : List Ask) → IsPartOf (asked_at now asks) history
    → All (λ ask. Contains history (record { moment = now; ask = ask })) asks
are-asked history now asks part =
    each-asked (Contains history) now asks
    (All-weaker (Contains (asked_at now asks)) (Contains history) part (asked_at now asks) (All-contains_itself (asked_at now asks)))

has-more : (history all : List Asked) (q : Query) (moment : ℕ) (response : DnsResponse) → IsPartOf history all
    → HasResponse history q moment response → HasResponse all q moment response
has-more history all q moment response part has = record {
  outcome = has.outcome;
  asked = part (record { moment = moment; ask = record { question = q; outcome = has.outcome } }) has.asked;
  means = has.means;
}

-- ---- where records come from

module _ (Carries : Query → Message → Record → Type 0) (Leads : Query → Message → Type 0) (history : List Asked) where
  -- It is a claim that outlasts the cache, and that holds of the records of the local host.
  pub comes-outlasts : Outlasts (Comes Carries Leads history)
  comes-outlasts = record {
    ages = λ q since now r h past due. by_cache q q since now r (after_seconds (now - since) r) h (same-key-itself q)
        (record { same = refl; past = past; lasts = omega arith });
    lowers = λ q now ttl r h less. by_cache q q now now r (record r { ttl = ttl }) h (same-key-itself q)
        (record { same = refl; past = omega arith; lasts = omega arith });
    respells = λ p q now r h same. by_cache p q now now r r h same
        (record { same = refl; past = omega arith; lasts = omega arith });
  }

  pub comes-loopback : HoldsOfLoopback (Comes Carries Leads history)
  comes-loopback q now r e = by_loopback q now r e

  -- Further questions keep it.
  pub comes-still : (all : List Asked) → IsPartOf history all → {q : Query} {now : ℕ} {r : Record} → Comes Carries Leads history q now r
      → Comes Carries Leads all q now r
  comes-still all part (by_response q now r response has brings) =
      by_response q now r response (has-more history all q now response part has) brings
  comes-still all part (by_alias q now r response has leads rest) =
      by_alias q now r response (has-more history all q now response part has) leads (comes-still all part rest)
  comes-still all part (by_loopback q now r e) = by_loopback q now r e
  comes-still all part (by_cache p q since now first r before same left) =
      by_cache p q since now first r (comes-still all part before) same left

-- without questions, only the records of the local host come from anywhere
module _ (Carries : Query → Message → Record → Type 0) (Leads : Query → Message → Type 0) where
  abbrev IsLocal : Record → Type 0
  IsLocal r =
      (p : Query) × (first : Record) × (special_answer p ≡ Loopback first) × (r ≡ record first { ttl = r.ttl }) × (r.ttl ≤ first.ttl)

  none-asked : (q : Query) (moment : ℕ) (response : DnsResponse) → HasResponse [] q moment response → ⊥
  none-asked q moment response has = let less : has.asked.0 < 0 = has.asked.1 in omega arith

  still-local : (first r : Record) → r ≡ record first { ttl = r.ttl } → r.ttl ≤ first.ttl → IsLocal first → IsLocal r
  still-local first r same less h =
      let low : first.ttl ≤ h.1.ttl = h.4 in
      (h.0, h.1, h.2, same ∙ ap (λ (x : Record). record x { ttl = r.ttl }) h.3, omega arith)

  pub only-local : {q : Query} {now : ℕ} {r : Record} → Comes Carries Leads [] q now r → IsLocal r
  only-local (by_response q now r response has brings) = absurd (none-asked q now response has)
  only-local (by_alias q now r response has leads rest) = absurd (none-asked q now response has)
  only-local (by_loopback q now r e) = (q, r, e, refl, omega arith)
  only-local (by_cache p q since now first r before same left) =
      let past : since ≤ now = left.past in
      let lasts : now + r.ttl ≤ since + first.ttl = left.lasts in
      still-local first r left.same (omega arith) (only-local before)

-- ---- claims that imply another

kept-weaker : (P R : RecordClaim) → ((q : Query) (now : ℕ) (r : Record) → P q now r → R q now r) → (q : Query) (moment deadline : ℕ) (kept : Kept)
    → HoldsOfKept P q moment deadline kept → HoldsOfKept R q moment deadline kept
kept-weaker P R f q moment deadline (Ok m) h =
    each-weaker q.query_type (λ r. P q moment r × (deadline ≤ moment + r.ttl)) (λ r. R q moment r × (deadline ≤ moment + r.ttl))
    (λ r typed both. (f q moment r both.0, both.1)) m.answers h
kept-weaker P R f q moment deadline (Err answer) h = tt

pub cache-weaker : (P R : RecordClaim) → ((q : Query) (now : ℕ) (r : Record) → P q now r → R q now r) → (now : ℕ) (cache : CacheContent)
    → HoldsOfCache P now cache → HoldsOfCache R now cache
cache-weaker P R f now cache h =
    All-weaker (HoldsOfEntry P now) (HoldsOfEntry R now)
    (λ e holds. record { past = holds.past; kept = kept-weaker P R f e.question e.moment e.deadline e.kept holds.kept })
    cache.entries h

module _ (Carries : Query → Message → Record → Type 0) (Leads : Query → Message → Type 0) (history all : List Asked) where
  pub cache-still : (now later : ℕ) (cache : CacheContent) → IsPartOf history all → now ≤ later
      → HoldsOfCache (Comes Carries Leads history) now cache → HoldsOfCache (Comes Carries Leads all) later cache
  cache-still now later cache part after holds =
      holds-later (Comes Carries Leads all) now later cache after
      (cache-weaker (Comes Carries Leads history) (Comes Carries Leads all)
      (λ q now r. comes-still Carries Leads history all part) now cache holds)

-- ---- responses bear it out

module _ (config : TtlConfigContent) (history : List Asked) (now : ℕ) (q : Query) (response : DnsResponse)
    (has : HasResponse history q now response) where
  abbrev m : Message
  m = response.message

  bears-out : BearsOut (IsBrought config history) config now q response.message
  bears-out = record {
    answers = λ k d less typed.
        let r = slice_index_or m.answers k d in
        by_response q now (clamped_record config r) response has (in_answers r (Contains-get_or m.answers k d less) typed);
    others = λ k d less typed there.
        let r = slice_index_or (m.authorities ++ m.additionals) k d in
        by_response q now (clamped_record config r) response has
        (elsewhere r (Contains-get_or (m.authorities ++ m.additionals) k d less) typed there);
    along = λ no-end alias r typed rest. by_alias q now r response has (record { is_alias = alias; is_open = no-end }) rest;
  }

  module _ (settings : LookupSettings) (off : settings.preserve_intermediates ≡ false) where
    selected-complete : is_selected settings q (chain_of q m) [] m ≡ is_complete q m
    selected-complete = without-last (chain_of q m).is_alias (is_end_found q (chain_of q m) m) settings.preserve_intermediates off

    bears-out-closely : BearsOutClosely (IsBroughtClosely config history) settings config now q response.message
    bears-out-closely = record {
      whole = λ given whole k d less typed.
          let r = slice_index_or m.answers k d in
          let some = (both-true (not (is_empty (found q (chain_of q m) m))) _ given).0 in
          by_response q now (clamped_record config r) response has
          (directly r (Contains-get_or m.answers k d less) typed (sym selected-complete ∙ whole)
          (not-true (is_empty (found q (chain_of q m) m)) some));
      selected = λ given selected k d less typed there.
          let r = slice_index_or (all_records m) k d in
          by_response q now (clamped_record config (lowered (chain_of q m).ttl r)) response has
          (after_aliases r (Contains-get_or (all_records m) k d less) typed (sym selected-complete ∙ selected) there);
      along = λ not-given no-end alias r typed rest. by_alias q now r response has (record {
        leads = record { is_alias = alias; is_open = no-end };
        nothing_found = nothing-there (is_empty (found q (chain_of q m) m)) (chain_of q m).is_alias not-given;
      }) rest;
    }

-- ---- lookups

module _ (history : List Asked) (settings : LookupSettings) (now : ℕ) (old : CacheContent) (q : Query) (asks : List Ask) (reply : Reply)
    (new : CacheContent) (looks : Looks settings now 0 [] old q asks reply new) (none : HasNoMinimum old.config q.query_type)
    (part : IsPartOf (asked_at now asks) history) where
  each-response : (Bears : Query → Message → Type 0)
      → ((p : Query) (response : DnsResponse) → HasResponse history p now response → Bears p response.message) → EachReply Bears asks
  each-response Bears bears = λ k d less response means.
      let ask = slice_index_or asks k d in
      bears ask.question response (record { outcome = ask.outcome; asked = are-asked history now asks part k d less; means = means })

  pub brought : HoldsOfCache (IsBrought old.config history) now old
      → HoldsOfCache (IsBrought old.config history) now new × HoldsOfReply (IsBrought old.config history) q now reply
  brought holds =
      let outlasts : Outlasts (IsBrought old.config history) = comes-outlasts (Brings old.config) LeadsOn history in
      lookup-keeps (IsBrought old.config history) outlasts (comes-loopback (Brings old.config) LeadsOn history)
      settings now 0 [] old q asks reply new none (no-aliases settings q) holds
      (all-steps (IsBrought old.config history) outlasts settings old.config now asks
      (each-response (BearsOut (IsBrought old.config history) old.config now)
      (λ p response has. bears-out old.config history now p response has)))
      looks

  pub brought-closely : settings.preserve_intermediates ≡ false → HoldsOfCache (IsBroughtClosely old.config history) now old
      → HoldsOfCache (IsBroughtClosely old.config history) now new × HoldsOfReply (IsBroughtClosely old.config history) q now reply
  brought-closely off holds =
      lookup-keeps (IsBroughtClosely old.config history) (comes-outlasts (BringsClosely old.config) LeadsOnClosely history)
      (comes-loopback (BringsClosely old.config) LeadsOnClosely history) settings now 0 [] old q asks reply new none
      (no-aliases settings q) holds
      (all-steps-closely (IsBroughtClosely old.config history) settings off old.config now asks
      (each-response (BearsOutClosely (IsBroughtClosely old.config history) settings old.config now)
      (λ p response has. bears-out-closely old.config history now p response has settings off)))
      looks
