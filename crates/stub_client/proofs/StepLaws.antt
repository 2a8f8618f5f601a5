-- Found records, and what a response leads to.
use Rattle.std.proofs.Common.{◌≡◌, ◌∷◌, [], List, refl, sym, ap, ◌∙◌}
use Rattle.std.specs.Prelude.{◌≢◌, ◌&&◌, ◌||◌, if◌then◌else◌, not, ℕ, nat_lt, Bool, true, false, cond, Result, Ok, Err, IfOk, IsOk}
use Rattle.std.specs.List.{filter, list_any}
use Rattle.dns_records.specs.Record.{Record}
use Rattle.dns_messages.specs.Response.{is_empty}
use Rattle.dns_messages.specs.declared.message.Message.{Message}
use Rattle.dns_messages.specs.declared.query.Query.{Query}
use Rattle.stub_lookup.specs.Error.{negative_answer}
use Rattle.stub_lookup.specs.declared.error.DnsError.TheVariants as dns
use Rattle.stub_lookup.specs.declared.error.NetError.{NetError}
use Rattle.stub_lookup.specs.declared.error.NetError.TheVariants as errors
use Rattle.stub_lookup.specs.declared.error.NoRecords.{NoRecords}
use Rattle.stub_client.specs.Handle.{Outcome}
use Rattle.stub_client.specs.Step.{is_given, is_negative_end, kept_aliases, max_depth, next_question, nothing_found, step_along, step_on}
use Rattle.stub_client.specs.declared.caching_client.chain.Chain.{Chain}
use Rattle.stub_client.specs.declared.caching_client.step.LookupSettings.{LookupSettings}
use Rattle.stub_client.specs.declared.caching_client.step.Step.{Step}
use Rattle.stub_client.specs.declared.caching_client.step.Step.TheVariants.{Follows, Misses, Stops}

-- ---- found records

-- a filter keeps something if any element passes
pub is_empty-filter : {A : Type 0} (p : A → Bool) (xs : List A) → not (is_empty (filter p xs)) ≡ list_any p xs
is_empty-filter p [] = refl
is_empty-filter p (x ∷ xs) =
    elim (p x) as (λ b. not (is_empty (cond b (x ∷ filter p xs) (filter p xs))) ≡ (b || list_any p xs))
    [ true ↦ refl | false ↦ is_empty-filter p xs ]

-- an element that passes one test passes another if any element passes both
pub any-filter : {A : Type 0} (p q : A → Bool) (xs : List A) → list_any p (filter q xs) ≡ list_any (λ x. q x && p x) xs
any-filter p q [] = refl
any-filter p q (x ∷ xs) =
    elim (q x) as (λ b. list_any p (cond b (x ∷ filter q xs) (filter q xs)) ≡ ((b && p x) || list_any (λ x. q x && p x) xs))
    [ true ↦ ap (λ (b : Bool). p x || b) (any-filter p q xs) | false ↦ any-filter p q xs ]

-- the next of the elements that are left passes
pub any-here : {A : Type 0} (p : A → Bool) (all left rest : List A) (x : A) → left ≡ x ∷ rest
    → list_any p left ≡ list_any p all → p x ≡ true → list_any p all ≡ true
any-here p all left rest x first same passes =
    sym same ∙ (ap (list_any p) first ∙ ap (λ (b : Bool). b || list_any p rest) passes)

-- no elements are left, and none passed
pub any-nowhere : {A : Type 0} (p : A → Bool) (all left : List A) → left ≡ []
    → list_any p left ≡ list_any p all → list_any p all ≡ false
any-nowhere p all left none same = sym same ∙ ap (list_any p) none

-- ---- steps

-- of three, the second
second : {A : Type 0} (a b : Bool) (x y z : A) → a ≡ false → b ≡ true → y ≡ (if a then x else if b then y else z)
second true b x y z fails passes = absurd (cc)
second false true x y z fails passes = refl
second false false x y z fails passes = absurd (cc)

-- of four, the third
third : {A : Type 0} (a b c : Bool) (w x y z : A) → a ≡ false → b ≡ false → c ≡ true
    → y ≡ (if a then w else if b then x else if c then y else z)
third true b c w x y z first next passes = absurd (cc)
third false true c w x y z first next passes = absurd (cc)
third false false true w x y z first next passes = refl
third false false false w x y z first next passes = absurd (cc)

-- of four, the last
last : {A : Type 0} (a b c : Bool) (w x y z : A) → a ≡ false → b ≡ false → c ≡ false
    → z ≡ (if a then w else if b then x else if c then y else z)
last true b c w x y z first next fails = absurd (cc)
last false true c w x y z first next fails = absurd (cc)
last false false true w x y z first next fails = absurd (cc)
last false false false w x y z first next fails = refl

-- aliases end in nothing
pub misses-along : (settings : LookupSettings) (q : Query) (chain : Chain) (kept : List Record) (depth : ℕ) (m : Message)
    → is_given q chain kept m ≡ false → is_negative_end q chain m ≡ true
    → Misses (nothing_found q m) ≡ step_along settings q chain kept depth m
misses-along settings q chain kept depth m none ends = second (is_given q chain kept m) (is_negative_end q chain m) _ _ _ none ends

-- an alias is followed
pub follows-along : (settings : LookupSettings) (q : Query) (chain : Chain) (kept : List Record) (depth : ℕ) (m : Message)
    → is_given q chain kept m ≡ false → is_negative_end q chain m ≡ false → (chain.is_alias && nat_lt depth max_depth) ≡ true
    → Follows (next_question q chain) (kept_aliases settings q chain kept m) ≡ step_along settings q chain kept depth m
follows-along settings q chain kept depth m none no-end goes =
    third (is_given q chain kept m) (is_negative_end q chain m) (chain.is_alias && nat_lt depth max_depth) _ _ _ _ none no-end goes

-- no alias is followed
pub stops-along : (settings : LookupSettings) (q : Query) (chain : Chain) (kept : List Record) (depth : ℕ) (m : Message)
    → is_given q chain kept m ≡ false → is_negative_end q chain m ≡ false → (chain.is_alias && nat_lt depth max_depth) ≡ false
    → Stops (errors.Dns (dns.NoRecordsFound (nothing_found q m))) ≡ step_along settings q chain kept depth m
stops-along settings q chain kept depth m none no-end stays =
    last (is_given q chain kept m) (is_negative_end q chain m) (chain.is_alias && nat_lt depth max_depth) _ _ _ _ none no-end stays

-- an error that is a negative answer
pub is-negative : (error : NetError) (answer : NoRecords) → negative_answer error ≡ Ok answer
    → error ≡ errors.Dns (dns.NoRecordsFound answer)
is-negative (errors.Dns (dns.NoRecordsFound found)) answer h = cc
is-negative (errors.Dns (dns.ResponseCode code)) answer h = absurd (cc)
is-negative (errors.Proto error) answer h = absurd (cc)
is-negative (errors.Message text) answer h = absurd (cc)
is-negative (errors.Link fault) answer h = absurd (cc)
is-negative errors.Unsupported answer h = absurd (cc)
is-negative errors.Memory answer h = absurd (cc)

-- any other error ends a lookup
pub stops-on : (settings : LookupSettings) (q : Query) (kept : List Record) (depth : ℕ) (error other : NetError)
    → negative_answer error ≡ Err other → Stops other ≡ step_on settings q kept depth (Err error)
stops-on settings q kept depth (errors.Dns (dns.NoRecordsFound answer)) other h = absurd (cc)
stops-on settings q kept depth (errors.Dns (dns.ResponseCode code)) other h = cc
stops-on settings q kept depth (errors.Proto error) other h = cc
stops-on settings q kept depth (errors.Message text) other h = cc
stops-on settings q kept depth (errors.Link fault) other h = cc
stops-on settings q kept depth errors.Unsupported other h = cc
stops-on settings q kept depth errors.Memory other h = cc

-- what an outcome leads to that an error tells, unless memory ran out
pub leads-on : {E : Type 0} (settings : LookupSettings) (q : Query) (kept : List Record) (depth : ℕ) (out : Outcome)
    (error : NetError) (r : Result Step E)
    → IfOk r (λ step. (settings : LookupSettings) (q : Query) (kept : List Record) (depth : ℕ) → step ≡ step_on settings q kept depth (Err error))
    → (IsOk r → error ≢ errors.Memory) → (error ≢ errors.Memory → out ≡ Err error)
    → IfOk r (λ step. step ≡ step_on settings q kept depth out)
leads-on settings q kept depth out error (Ok step) leads known means =
    leads settings q kept depth ∙ ap (step_on settings q kept depth) (sym (means (known refl)))
leads-on settings q kept depth out error (Err e) leads known means = leads
