-- A lookup of w. at 30, an alias of h. for 50 seconds, and claims that it keeps: that no address is returned after 90; that none is after 80,
-- when the alias is gone, too, since aliases are left out; and that each address begins with 10, or is of the local host.
use Rattle.std.proofs.Common.{◌≡◌, ◌≤◌, ◌+◌, ◌-◌, ◌⊎◌, arith, ℕ, true, false, List, [], ◌∷◌, All, Ok, Err, Vec, Global, refl, subst, ap, inl, inr}
use Rattle.std.proofs.lemmas.Bool.{cond_both}
use Rattle.std.proofs.lemmas.List.Elements.{All-cons, All-head, All-nil}
use Rattle.std.specs.Prelude.{nat_lt}
use Rattle.dns_wire.specs.declared.codes.dns_class.DNSClass.TheVariants as classes
use Rattle.dns_wire.specs.declared.codes.record_type.RecordType.TheVariants as types
use Rattle.dns_names.specs.Name.{DomainName}
use Rattle.dns_data.specs.declared.rdata.RData.{RData}
use Rattle.dns_data.specs.declared.rdata.RData.TheVariants as of
use Rattle.dns_records.specs.Record.{Record}
use Rattle.dns_messages.specs.Response.{has_type}
use Rattle.dns_messages.specs.declared.message.Message.{Message}
use Rattle.dns_messages.specs.declared.query.Query.{Query}
use Rattle.dns_messages.specs.declared.response.DnsResponse.{DnsResponse}
use Rattle.stub_lookup.specs.Lookup.{lookup_of, response_to}
use Rattle.stub_lookup.specs.declared.error.DnsError.TheVariants as dns
use Rattle.stub_lookup.specs.declared.error.NetError.TheVariants as net
use Rattle.stub_cache.specs.Cache.{CacheContent, storing}
use Rattle.stub_cache.specs.Ttl.{TtlConfigContent, clamped_record, default_bounds, plain_config}
use Rattle.stub_cache.specs.declared.cache.entry.Entry.{Entry}
use Rattle.stub_client.specs.Conclusions.{AsksComeTo, CacheComesTo, Conclusion, Finds, HasSpecialNames, KeptComesTo, Lacks, Refuses, ReplyComesTo, Respells, StepComesTo, value_of}
use Rattle.stub_client.specs.Handle.{Ask, Outcome}
use Rattle.stub_client.specs.Laws.{BearsOut, BearsOutClosely, EachReply, HoldsOfCache, HoldsOfEntry, HoldsOfLoopback, HoldsOfReply, Outlasts, RecordClaim}
use Rattle.stub_client.specs.Looks.{Looks, Reply}
use Rattle.stub_client.specs.Step.{chain_of, is_found, lowered, meaning, next_question, nothing_found, step_of}
use Rattle.stub_client.specs.declared.caching_client.step.LookupSettings.{LookupSettings}
use Rattle.stub_client.specs.declared.caching_client.step.Step.TheVariants.{Follows, Stops}
use Rattle.stub_client.proofs.ClaimLaws.{holds-later, lookup-keeps}
use Rattle.stub_client.proofs.ClaimSteps.{all-steps, all-steps-closely, no-aliases}
use Rattle.stub_client.proofs.ConclusionLaws.{lookup-comes}
use Rattle.stub_witnesses.proofs.LocalWitness.{first_byte, local_byte}

-- ---- records

abbrev name_of : ℕ → DomainName
name_of letter = record { is_fqdn = true; labels = (letter ∷ []) ∷ [] }

abbrev host : DomainName
host = name_of 104

abbrev alias : DomainName
alias = name_of 119

abbrev address : ℕ → RData
address first = of.A (record { 0 = record { octets = first ∷ 0 ∷ 0 ∷ 1 ∷ [] } })

abbrev at : DomainName → ℕ → RData → Record
at name ttl rdata = record { name = name; dns_class = classes.IN; ttl = ttl; rdata = rdata }

abbrev the_alias : Record
the_alias = at alias 50 (of.CNAME (record { 0 = host }))

abbrev the_address : ℕ → Record
the_address ttl = at host ttl (address 10)

-- ---- lookups

abbrev config : TtlConfigContent
config = plain_config default_bounds

abbrev settings : LookupSettings
settings = record { preserve_intermediates = false; dnssec_ok = false }

abbrev question_for : DomainName → Query
question_for name = record { name = name; query_type = types.A; query_class = classes.IN }

abbrev q : Query
q = question_for alias

abbrev empty : CacheContent
empty = record { entries = []; capacity = 32; config = config }

-- the alias and the address in one response
abbrev whole : Message
whole = response_to q (the_alias ∷ the_address 60 ∷ [])

abbrev whole_reply : Reply
whole_reply = Ok (lookup_of q (the_address 50 ∷ []) 80)

abbrev whole_cache : CacheContent
whole_cache = storing empty q (Ok (response_to q (the_address 50 ∷ []))) 30

-- the alias in one response, and the address in another
abbrev first_part : Message
first_part = response_to q (the_alias ∷ [])

abbrev second_part : Message
second_part = response_to (question_for host) (the_address 60 ∷ [])

abbrev followed_reply : Reply
followed_reply = Ok (lookup_of (question_for host) (the_address 60 ∷ []) 90)

abbrev followed_cache : CacheContent
followed_cache = storing (storing empty (question_for host) (Ok second_part) 30) q (Ok (response_to q (the_address 60 ∷ []))) 30

-- the message of an outcome
abbrev message_in : Message → Outcome → Message
message_in other (Ok r) = r.message
message_in other (Err error) = other

-- ---- the claim that no address is returned after a moment, unless it is of the local host

abbrev IsGone : ℕ → RecordClaim
IsGone limit p now r = (now + r.ttl ≤ limit) ⊎ (first_byte r.rdata ≡ 127)

left_of : (limit since now ttl : ℕ) → since + ttl ≤ limit → since ≤ now → now ≤ since + ttl → now + (ttl - (now - since)) ≤ limit
left_of limit since now ttl gone past due = omega (arith, gone, past, due)

less_of : (limit now ttl whole : ℕ) → now + whole ≤ limit → ttl ≤ whole → now + ttl ≤ limit
less_of limit now ttl whole gone less = omega (arith, gone, less)

pub outlasts : (limit : ℕ) → Outlasts (IsGone limit)
outlasts limit = record {
  ages = λ p since now r holds past due. (elim holds [
    | inl gone ↦ inl (left_of limit since now r.ttl gone past due)
    | inr local ↦ inr local
  ]);
  lowers = λ p now ttl r holds less. (elim holds [
    | inl gone ↦ inl (less_of limit now ttl r.ttl gone less)
    | inr local ↦ inr local
  ]);
  respells = λ p other now r holds same. holds;
}

pub of_loopback : (limit : ℕ) → HoldsOfLoopback (IsGone limit)
of_loopback limit p now r special = inr (local_byte p r special)

none_kept : (limit now : ℕ) → HoldsOfCache (IsGone limit) now empty
none_kept limit now = All-nil (HoldsOfEntry (IsGone limit) now)

-- ---- the claim that each address begins with 10, or is of the local host

abbrev IsRight : Record → Type 0
IsRight r = (first_byte r.rdata ≡ 10) ⊎ (first_byte r.rdata ≡ 127)

abbrev IsRightConclusion : Conclusion → Type 0
IsRightConclusion (Finds records) = All IsRight records
IsRightConclusion (Lacks code) = Unit {0}
IsRightConclusion (Refuses code) = Unit {0}

abbrev ComesRight : Query → Conclusion → Type 0
ComesRight p conclusion = IsRightConclusion conclusion

abbrev Always : ℕ → Query → Type 0
Always depth p = Unit {0}

respells : Respells ComesRight
respells p other conclusion comes same = comes

special : HasSpecialNames ComesRight
special = record {
  loopback = λ p r local. All-cons IsRight (value_of r) [] (inr (local_byte p r local)) (All-nil IsRight);
  nothing = λ p code local. tt;
}

module _ (buffer : Vec ℕ Global) where
  abbrev response : Message → DnsResponse
  response m = record { message = m; buffer = buffer }

  abbrev ask : Query → Message → Ask
  ask p m = record { question = p; outcome = Ok (response m) }

  abbrev one_ask : List Ask
  one_ask = ask q whole ∷ []

  abbrev two_asks : List Ask
  two_asks = ask q first_part ∷ ask (question_for host) second_part ∷ []

  -- what a lookup is told in one response, it returns and keeps for as long as the alias
  whole_lookup : Looks settings 30 0 [] empty q one_ask whole_reply whole_cache
  whole_lookup = (refl, refl, refl, inr (refl, inl (refl, refl)))

  -- it follows the alias, and keeps the address for both names
  followed_lookup : Looks settings 30 0 [] empty q two_asks followed_reply followed_cache
  followed_lookup = (
    refl,
    refl,
    refl,
    inr (
      followed_reply,
      storing empty (question_for host) (Ok second_part) 30,
      (refl, refl, refl, inr (refl, inl (refl, refl))),
      inl (refl, refl),
    ),
  )

  -- from the cache, 40 seconds later
  abbrev later_reply : Reply
  later_reply = Ok (lookup_of q (the_address 20 ∷ []) 90)

  later_lookup : Looks settings 70 0 [] followed_cache q [] later_reply followed_cache
  later_lookup = (refl, inr refl, λ memory. tt)

  -- ---- every_lookup_keeps: an address that comes at 30 for a minute is gone at 90

  abbrev Bears : Ask → Type 0
  Bears a = (r : DnsResponse) → meaning a.outcome ≡ Ok r → BearsOut (IsGone 90) config 30 a.question r.message

  bears_first : BearsOut (IsGone 90) config 30 q first_part
  bears_first = record {
    answers = All-cons (λ (r : Record). has_type types.A r ≡ true → IsGone 90 q 30 (clamped_record config r)) the_alias []
        (λ typed. (let never : false ≡ true = typed in absurd cc)) (All-nil (λ (r : Record). has_type types.A r ≡ true → IsGone 90 q 30 (clamped_record config r)));
    others = All-nil (λ (r : Record). has_type types.A r ≡ true → is_found q (chain_of q first_part).name r ≡ true → IsGone 90 q 30 (clamped_record config r));
    along = λ ends alias r typed holds. holds;
  }

  bears_second : BearsOut (IsGone 90) config 30 (question_for host) second_part
  bears_second = record {
    answers = All-cons (λ (r : Record). has_type types.A r ≡ true → IsGone 90 (question_for host) 30 (clamped_record config r)) (the_address 60) []
        (λ typed. inl (omega arith))
        (All-nil (λ (r : Record). has_type types.A r ≡ true → IsGone 90 (question_for host) 30 (clamped_record config r)));
    others = All-nil (λ (r : Record). has_type types.A r ≡ true → is_found (question_for host) (chain_of (question_for host) second_part).name r ≡ true
        → IsGone 90 (question_for host) 30 (clamped_record config r));
    along = λ ends alias r typed holds. holds;
  }

  bears : EachReply (BearsOut (IsGone 90) config 30) two_asks
  bears =
      All-cons Bears (ask q first_part) (ask (question_for host) second_part ∷ [])
      (λ r means. (let same : first_part ≡ r.message = ap (message_in first_part) means in subst (BearsOut (IsGone 90) config 30 q) same bears_first))
      (All-cons Bears (ask (question_for host) second_part) []
      (λ r means. (let same : second_part ≡ r.message = ap (message_in second_part) means in subst (BearsOut (IsGone 90) config 30 (question_for host)) same bears_second))
      (All-nil Bears))

  pub followed_keeps : HoldsOfCache (IsGone 90) 30 followed_cache × HoldsOfReply (IsGone 90) q 30 followed_reply
  followed_keeps =
      lookup-keeps (IsGone 90) (outlasts 90) (of_loopback 90) settings 30 0 [] empty q two_asks followed_reply followed_cache refl (no-aliases settings q)
      (none_kept 90 30) (all-steps (IsGone 90) (outlasts 90) settings config 30 two_asks bears) followed_lookup

  -- every_later_moment_keeps: so it is 40 seconds later, and of what is returned from the cache
  abbrev Later : Ask → Type 0
  Later a = (r : DnsResponse) → meaning a.outcome ≡ Ok r → BearsOut (IsGone 90) config 70 a.question r.message

  pub later_keeps : HoldsOfCache (IsGone 90) 70 followed_cache × HoldsOfReply (IsGone 90) q 70 later_reply
  later_keeps =
      lookup-keeps (IsGone 90) (outlasts 90) (of_loopback 90) settings 70 0 [] followed_cache q [] later_reply followed_cache refl (no-aliases settings q)
      (holds-later (IsGone 90) 30 70 followed_cache (omega arith) followed_keeps.0)
      (all-steps (IsGone 90) (outlasts 90) settings config 70 [] (All-nil Later)) later_lookup

  -- ---- every_lookup_keeps_closely: where aliases are left out, it is gone with the alias

  abbrev BearsClosely : Ask → Type 0
  BearsClosely a = (r : DnsResponse) → meaning a.outcome ≡ Ok r → BearsOutClosely (IsGone 80) settings config 30 a.question r.message

  abbrev IsSelected : Record → Type 0
  IsSelected r =
      has_type types.A r ≡ true → is_found q (chain_of q whole).name r ≡ true → IsGone 80 q 30 (clamped_record config (lowered (chain_of q whole).ttl r))

  bears_whole : BearsOutClosely (IsGone 80) settings config 30 q whole
  bears_whole = record {
    whole = λ given selected. (let never : true ≡ false = selected in absurd cc);
    selected = λ given selected. All-cons IsSelected the_alias (the_address 60 ∷ []) (λ typed. (let never : false ≡ true = typed in absurd cc))
        (All-cons IsSelected (the_address 60) [] (λ typed found. inl (omega arith)) (All-nil IsSelected));
    along = λ given ends alias r typed holds. holds;
  }

  bears_closely : EachReply (BearsOutClosely (IsGone 80) settings config 30) one_ask
  bears_closely =
      All-cons BearsClosely (ask q whole) []
      (λ r means. (let same : whole ≡ r.message = ap (message_in whole) means in subst (BearsOutClosely (IsGone 80) settings config 30 q) same bears_whole))
      (All-nil BearsClosely)

  pub whole_keeps : HoldsOfCache (IsGone 80) 30 whole_cache × HoldsOfReply (IsGone 80) q 30 whole_reply
  whole_keeps =
      lookup-keeps (IsGone 80) (outlasts 80) (of_loopback 80) settings 30 0 [] empty q one_ask whole_reply whole_cache refl (no-aliases settings q)
      (none_kept 80 30) (all-steps-closely (IsGone 80) settings refl config 30 one_ask bears_closely) whole_lookup

  -- ---- every_lookup_walks

  abbrev IsRightAsk : Ask → Type 0
  IsRightAsk a = (depth : ℕ) → Always depth a.question → StepComesTo ComesRight Always depth a.question (step_of settings a.question [] depth a.outcome)

  right_first : (depth : ℕ) → StepComesTo ComesRight Always depth q (step_of settings q [] depth (Ok (response first_part)))
  right_first depth =
      cond_both (nat_lt depth 7) (Follows (next_question q (chain_of q first_part)) []) (Stops (net.Dns (dns.NoRecordsFound (nothing_found q first_part))))
      (StepComesTo ComesRight Always depth q) (λ less. (tt, λ conclusion comes. comes)) (λ more. tt)

  right : AsksComeTo ComesRight Always settings two_asks
  right =
      All-cons IsRightAsk (ask q first_part) (ask (question_for host) second_part ∷ []) (λ depth within. right_first depth)
      (All-cons IsRightAsk (ask (question_for host) second_part) []
      (λ depth within. All-cons IsRight (value_of (the_address 60)) [] (inl refl) (All-nil IsRight)) (All-nil IsRightAsk))

  pub followed_comes : CacheComesTo ComesRight followed_cache × ReplyComesTo ComesRight q followed_reply
  followed_comes =
      lookup-comes ComesRight respells special Always settings 30 0 empty q two_asks followed_reply followed_cache refl tt
      (All-nil (λ (e : Entry). KeptComesTo ComesRight e.question e.kept)) right followed_lookup

-- ---- what the conclusions exclude

-- the address for a second more
pub longer_is_excluded : HoldsOfReply (IsGone 90) q 30 (Ok (lookup_of q (the_address 61 ∷ []) 91)) → ⊥
longer_is_excluded holds =
    by (All-head (λ (r : Record). has_type types.A r ≡ true → IsGone 90 q 30 r) (the_address 61) [] holds refl)
  where
    by : IsGone 90 q 30 (the_address 61) → ⊥
    by (inl gone) = omega (arith, gone)
    by (inr local) = let clash : ◌≡◌ {A = ℕ} 10 127 = local in omega (arith, clash)

-- the address after the alias is gone
pub outliving_is_excluded : HoldsOfReply (IsGone 80) q 30 (Ok (lookup_of q (the_address 51 ∷ []) 81)) → ⊥
outliving_is_excluded holds =
    by (All-head (λ (r : Record). has_type types.A r ≡ true → IsGone 80 q 30 r) (the_address 51) [] holds refl)
  where
    by : IsGone 80 q 30 (the_address 51) → ⊥
    by (inl gone) = omega (arith, gone)
    by (inr local) = let clash : ◌≡◌ {A = ℕ} 10 127 = local in omega (arith, clash)

-- an address of another network
pub wrong_is_excluded : ReplyComesTo ComesRight q (Ok (lookup_of q (at host 60 (address 11) ∷ []) 90)) → ⊥
wrong_is_excluded comes = by (All-head IsRight (value_of (at host 60 (address 11))) [] comes)
  where
    by : IsRight (value_of (at host 60 (address 11))) → ⊥
    by (inl ten) = let clash : ◌≡◌ {A = ℕ} 11 10 = ten in omega (arith, clash)
    by (inr local) = let clash : ◌≡◌ {A = ℕ} 11 127 = local in omega (arith, clash)
