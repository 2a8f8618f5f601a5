-- What a question leads to in a reply.
use Rattle.std.proofs.Common.{◌≡◌, ◌≢◌, ◌&&◌, ◌++◌, ℕ, zero, suc, Bool, true, false, List, [], ◌∷◌, Option, Some, None, Ok, Err, refl, sym, ap, subst, ◌∙◌, inl, inr, arith}
use Rattle.std.specs.List.{AllByRecursion, Contains, filter}
use Rattle.std.proofs.lemmas.List.Elements.{Contains-append_left}
use Rattle.dns_names.specs.Name.{DomainName}
use Rattle.dns_records.specs.Record.{Record}
use Rattle.dns_messages.specs.declared.query.Query.{Query}
use Rattle.dns_messages.specs.declared.response.DnsResponse.{DnsResponse}
use Rattle.stub_client.specs.Handle.{Behavior, Outcome}
use Rattle.stub_client.specs.declared.request.DnsRequest.{DnsRequest}
use Rattle.stub_net.specs.scrub.Scrub.{Gives, GivesScrubbed, IsLedRecord, IsLedTo, IsScrubbed, along_alias, alias_in, alias_to, aliases_from, aliases_of, end_from, has_asked_type, is_asked, is_at, max_aliases, own_name, scrubbed_answers, scrubbed_response, target_of}

-- ---- booleans and options

both : (a b : Bool) → (a && b) ≡ true → (a ≡ true) × (b ≡ true)
both true true e = (refl, refl)
both true false e = absurd (cc)
both false b e = absurd (cc)

some_is_not_none : {A : Type 0} (o : Option A) (x : A) → o ≡ Some x → o ≢ None
some_is_not_none o x e = λ none. absurd (cc)

-- a record that is an alias at a name is at it, and has a target
alias_is : (q : Query) (name target : DomainName) (r : Record) → alias_to q name r ≡ Some target → (is_at q name r ≡ true) × (target_of r.rdata ≡ Some target)
alias_is q name target r e = by (is_at q name r) refl
  where
    by : (b : Bool) → is_at q name r ≡ b → (is_at q name r ≡ true) × (target_of r.rdata ≡ Some target)
    by true is = (is, (let same : alias_to q name r ≡ target_of r.rdata = rw is refl in sym same ∙ e))
    by false is = absurd (let none : alias_to q name r ≡ None = rw is refl in let clash : Some target ≡ None = sym e ∙ none in cc)

first_same : {A B : Type 0} (a c : A) (b d : B) → ◌≡◌ {A = Option (A × B)} (Some (a, b)) (Some (c, d)) → a ≡ c
first_same {A} {B} a c b d e = ap (λ (o : Option (A × B)). elim o as (λ _. A) [ Some p ↦ p.0 | None ↦ a ]) e

second_same : {A B : Type 0} (a c : A) (b d : B) → ◌≡◌ {A = Option (A × B)} (Some (a, b)) (Some (c, d)) → b ≡ d
second_same {A} {B} a c b d e = ap (λ (o : Option (A × B)). elim o as (λ _. B) [ Some p ↦ p.1 | None ↦ b ]) e

-- an alias that is found among records is one
found_alias : (q : Query) (name : DomainName) (rs : List Record) (r : Record) (target : DomainName) → alias_in q name rs ≡ Some (r, target) → alias_to q name r ≡ Some target
found_alias q name [] r target e = absurd (cc)
found_alias q name (x ∷ xs) r target e = by (alias_to q name x) refl (found_alias q name xs r target)
  where
    by : (o : Option DomainName) → alias_to q name x ≡ o → (alias_in q name xs ≡ Some (r, target) → alias_to q name r ≡ Some target) → alias_to q name r ≡ Some target
    by (Some t) is later =
        let here : alias_in q name (x ∷ xs) ≡ Some (x, t) = ap (λ (o : Option DomainName). elim o as (λ _. Option (Record × DomainName)) [ Some target ↦ Some (x, target) | None ↦ alias_in q name xs ]) is in
        let same : Some (x, t) ≡ Some (r, target) = sym here ∙ e in
        ap (alias_to q name) (sym (first_same x r t target same)) ∙ is ∙ ap (λ (d : DomainName). Some d) (second_same x r t target same)
    by None is later =
        let rest : alias_in q name (x ∷ xs) ≡ alias_in q name xs = ap (λ (o : Option DomainName). elim o as (λ _. Option (Record × DomainName)) [ Some target ↦ Some (x, target) | None ↦ alias_in q name xs ]) is in
        later (sym rest ∙ e)

-- ---- lists

filter-each : {A : Type 0} (p : A → Bool) (P : A → Type 0) (xs : List A) → ((x : A) → p x ≡ true → P x) → AllByRecursion P (filter p xs)
filter-each p P [] each = tt
filter-each p P (x ∷ xs) each = by (p x) refl (filter-each p P xs each)
  where
    by : (b : Bool) → p x ≡ b → AllByRecursion P (filter p xs) → AllByRecursion P (filter p (x ∷ xs))
    by true is rest = rw is (each x is, rest)
    by false is rest = rw is rest

contains-first : {A : Type 0} (x : A) (xs : List A) → Contains (x ∷ xs) x
contains-first x xs = (0, omega arith, refl)

contains-later : {A : Type 0} (x y : A) (xs : List A) → Contains xs y → Contains (x ∷ xs) y
contains-later x y xs (k, lt, is) = (suc k, omega (arith, lt), is)

-- ---- following aliases

abbrev end_after : ℕ → Query → List Record → DomainName → Option (Record × DomainName) → DomainName
end_after n q rs name o = elim o as (λ _. DomainName) [ Some found ↦ end_from n q rs found.1 | None ↦ name ]

abbrev aliases_after : ℕ → Query → List Record → Option (Record × DomainName) → List Record
aliases_after n q rs o = elim o as (λ _. List Record) [ Some found ↦ found.0 ∷ aliases_from n q rs found.1 | None ↦ [] ]

pub end-none : (n : ℕ) (q : Query) (rs : List Record) (name : DomainName) → alias_in q name rs ≡ None → end_from n q rs name ≡ name
unfolding end_from
end-none zero q rs name e = refl
end-none (suc n) q rs name e = ap (end_after n q rs name) e

pub end-some : (n m : ℕ) (q : Query) (rs : List Record) (name target : DomainName) (r : Record) → n ≡ suc m → alias_in q name rs ≡ Some (r, target)
    → end_from n q rs name ≡ end_from m q rs target
unfolding end_from
end-some n m q rs name target r more e = ap (λ (k : ℕ). end_from k q rs name) more ∙ ap (end_after m q rs name) e

pub end-zero : (n : ℕ) (q : Query) (rs : List Record) (name : DomainName) → n ≡ 0 → end_from n q rs name ≡ name
unfolding end_from
end-zero n q rs name e = ap (λ (k : ℕ). end_from k q rs name) e

pub aliases-none : (n : ℕ) (q : Query) (rs : List Record) (name : DomainName) → alias_in q name rs ≡ None → aliases_from n q rs name ≡ []
unfolding aliases_from
aliases-none zero q rs name e = refl
aliases-none (suc n) q rs name e = ap (aliases_after n q rs) e

pub aliases-some : (n m : ℕ) (q : Query) (rs : List Record) (name target : DomainName) (r : Record) → n ≡ suc m → alias_in q name rs ≡ Some (r, target)
    → aliases_from n q rs name ≡ r ∷ aliases_from m q rs target
unfolding aliases_from
aliases-some n m q rs name target r more e = ap (λ (k : ℕ). aliases_from k q rs name) more ∙ ap (aliases_after m q rs) e

pub aliases-zero : (n : ℕ) (q : Query) (rs : List Record) (name : DomainName) → n ≡ 0 → aliases_from n q rs name ≡ []
unfolding aliases_from
aliases-zero n q rs name e = ap (λ (k : ℕ). aliases_from k q rs name) e

-- ---- what is given

module _ (q : Query) (rs given : List Record) where
  asked : (name : DomainName) → IsLedTo q given name → (r : Record) → is_asked q name r ≡ true → IsLedRecord q given r
  asked name led r e = record {
    name = name;
    led = led;
    at_name = (both (is_at q name r) (has_asked_type q r) e).0;
    kind = inr ((both (is_at q name r) (has_asked_type q r) e).1);
  }

  -- all that is given from a name on
  abbrev Given : ℕ → DomainName → Type 0
  Given n name = AllByRecursion (IsLedRecord q given) (aliases_from n q rs name ++ filter (is_asked q (end_from n q rs name)) rs)

  along : (n : ℕ) (name : DomainName) → IsLedTo q given name → ((r : Record) → Contains (aliases_from n q rs name) r → Contains given r) → Given n name
  unfolding aliases_from end_from
  along zero name led within = filter-each (is_asked q name) (IsLedRecord q given) rs (asked name led)
  along (suc n) name led within = by (alias_in q name rs) refl (along n)
    where
      by : (o : Option (Record × DomainName)) → alias_in q name rs ≡ o
          → ((target : DomainName) → IsLedTo q given target → ((r : Record) → Contains (aliases_from n q rs target) r → Contains given r) → Given n target)
          → Given (suc n) name
      by None is next =
          subst (λ (xs : List Record). AllByRecursion (IsLedRecord q given) (xs ++ filter (is_asked q (end_from (suc n) q rs name)) rs)) (sym (aliases-none (suc n) q rs name is))
          (subst (λ (d : DomainName). AllByRecursion (IsLedRecord q given) (filter (is_asked q d) rs)) (sym (end-none (suc n) q rs name is))
          (filter-each (is_asked q name) (IsLedRecord q given) rs (asked name led)))
      by (Some found) is next =
          let alias = found_alias q name rs found.0 found.1 is in
          let parts = alias_is q name found.1 found.0 alias in
          let listed = aliases-some (suc n) n q rs name found.1 found.0 refl is in
          let inside : (r : Record) → Contains (found.0 ∷ aliases_from n q rs found.1) r → Contains given r =
          λ r c. within r (subst (λ (xs : List Record). Contains xs r) (sym listed) c) in
          let first : Contains given found.0 = inside found.0 (contains-first found.0 (aliases_from n q rs found.1)) in
          let led_here : IsLedRecord q given found.0 = record { name = name; led = led; at_name = parts.0; kind = inl (some_is_not_none (target_of found.0.rdata) found.1 parts.1) } in
          let rest : Given n found.1 = next found.1 (along_alias found.0 led first alias) (λ r c. inside r (contains-later found.0 r (aliases_from n q rs found.1) c)) in
          subst (λ (xs : List Record). AllByRecursion (IsLedRecord q given) (xs ++ filter (is_asked q (end_from (suc n) q rs name)) rs)) (sym listed)
          (subst (λ (d : DomainName). AllByRecursion (IsLedRecord q given) (found.0 ∷ (aliases_from n q rs found.1 ++ filter (is_asked q d) rs))) (sym (end-some (suc n) n q rs name found.1 found.0 refl is))
          (led_here, rest))

  pub all_led : given ≡ scrubbed_answers q rs → AllByRecursion (IsLedRecord q given) given
  all_led e =
      let each : AllByRecursion (IsLedRecord q given) (scrubbed_answers q rs) =
      along (max_aliases q) q.name own_name
      (λ r c. subst (λ (xs : List Record). Contains xs r) (sym e) (Contains-append_left (aliases_of q rs) (filter (is_asked q (end_from (max_aliases q) q rs q.name)) rs) r c)) in
      subst (λ (xs : List Record). AllByRecursion (IsLedRecord q given) xs) (sym e) each

-- ---- the handle

answers_of : (q : Query) (inner : Outcome) (response : DnsResponse) → IsScrubbed q inner (Ok response) → (rs : List Record) × (response.message.answers ≡ scrubbed_answers q rs)
answers_of q (Ok r) response (inl e) = (r.message.answers, let same : response ≡ scrubbed_response q r = cc in ap (λ (d : DnsResponse). d.message.answers) same)
answers_of q (Ok r) response (inr e) = absurd (cc)
answers_of q (Err error) response e = absurd (cc)

pub given_are_led : {H : Type 0} (gives : Behavior H) (old new : H) (request : DnsRequest) (q : Query) (now : ℕ) (response : DnsResponse)
    → request.message.queries ≡ q ∷ [] → Gives gives old request now (Ok response) new
    → AllByRecursion (IsLedRecord q response.message.answers) response.message.answers
given_are_led gives old new request q now response one g =
    by (subst (λ (qs : List Query). GivesScrubbed gives old request now qs (Ok response) new) one g)
  where
    by : GivesScrubbed gives old request now (q ∷ []) (Ok response) new → AllByRecursion (IsLedRecord q response.message.answers) response.message.answers
    by (inl (inner, given, scrubbed)) = let found = answers_of q inner response scrubbed in all_led q found.0 response.message.answers found.1
    by (inr (e, same)) = absurd (cc)
