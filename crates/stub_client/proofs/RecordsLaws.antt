-- Records of a type in lists, and their TTLs within bounds.
use Rattle.std.proofs.Common.{◌≡◌, ℕ, ◌≤◌, ◌==◌, ◌||◌, ◌++◌, min, Bool, true, false, cond, List, [], ◌∷◌, filter, Option, Some, None, All, refl, sym, subst, slice_index_or, arith}
use Rattle.std.specs.Option.{unwrap_or}
use Rattle.std.specs.BTreeMap.{is_at}
use Rattle.std.specs.Map.{lookup}
use Rattle.std.specs.Ordering.{nat_cmp}
use Rattle.std.proofs.lemmas.Bool.Decides.{nat_tests}
use Rattle.std.proofs.lemmas.List.Elements.{All-nil, All-cons, All-head, All-tail, All-filter, filter_passes}
use Rattle.dns_wire.specs.codes.RecordType.{type_number}
use Rattle.dns_wire.specs.declared.codes.record_type.RecordType.{RecordType}
use Rattle.dns_wire.specs.declared.codes.record_type.RecordType.TheVariants as types
use Rattle.dns_data.specs.rdata.{data_type}
use Rattle.dns_records.specs.Record.{Record}
use Rattle.dns_messages.specs.Response.{has_type}
use Rattle.dns_messages.specs.declared.message.Message.{Message}
use Rattle.stub_cache.specs.Ttl.{TtlConfigContent, TtlRange, bounds_of, clamp, clamped_record, least_ttl, lesser, lifetime_within, positive_lifetime, positive_range}
use Rattle.stub_client.specs.Laws.{EachOf, HasNoMinimum}
use Rattle.stub_client.specs.Step.{lowered}

-- ---- numbers of types

pub equal-numbers : (m n : ℕ) → (m == n) ≡ true → m ≡ n
equal-numbers m n h = grind (arith, nat_tests)

pub numbers-equal : (m n : ℕ) → m ≡ n → (m == n) ≡ true
numbers-equal m n h = grind (arith, nat_tests)

same-third : (m n k : ℕ) → (m == n) ≡ true → (n == k) ≡ true → (m == k) ≡ true
same-third m n k h i = grind (arith, nat_tests)

-- ---- records of a type

module _ (kind : RecordType) where
  pub each-weaker : (P Q : Record → Type 0) → ((r : Record) → has_type kind r ≡ true → P r → Q r) → (rs : List Record) → EachOf kind P rs
      → EachOf kind Q rs
  each-weaker P Q f rs h = λ k d less typed. f (slice_index_or rs k d) typed (h k d less typed)

  pub each-both : (P Q : Record → Type 0) (rs : List Record) → EachOf kind P rs → EachOf kind Q rs → EachOf kind (λ r. P r × Q r) rs
  each-both P Q rs h i = λ k d less typed. (h k d less typed, i k d less typed)

  -- a type with the same number
  pub each-of-number : (other : RecordType) (P : Record → Type 0) (rs : List Record) → type_number kind ≡ type_number other → EachOf kind P rs
      → EachOf other P rs
  each-of-number other P rs same h = λ k d less typed.
      h k d less (subst (λ (n : ℕ). (type_number (data_type (slice_index_or rs k d).rdata) == n) ≡ true) (sym same) typed)

  -- those that pass a test
  pub each-filter : (P : Record → Type 0) (p : Record → Bool) (rs : List Record) → EachOf kind (λ r. p r ≡ true → P r) rs
      → EachOf kind P (filter p rs)
  each-filter P p rs h =
      let kept = All-filter p (λ r. has_type kind r ≡ true → p r ≡ true → P r) rs h in
      let passed = filter_passes p rs in
      λ k d less typed. kept k d less typed (passed k d less)

  one-of-all : (P : Record → Type 0) (b : Bool) (r : Record) (rest : List Record) → (has_type kind r ≡ true → b ≡ true)
      → EachOf kind P (cond b (r ∷ rest) rest) → (has_type kind r ≡ true → P r) × EachOf kind P rest
  one-of-all P true r rest f h = (All-head (λ x. has_type kind x ≡ true → P x) r rest h, All-tail (λ x. has_type kind x ≡ true → P x) r rest h)
  one-of-all P false r rest f h = (λ typed. absurd (let clash : false ≡ true = f typed in cc), h)

  -- if all of the type pass the test
  pub each-unfilter : (P : Record → Type 0) (p : Record → Bool) → ((r : Record) → has_type kind r ≡ true → p r ≡ true) → (rs : List Record)
      → EachOf kind P (filter p rs) → EachOf kind P rs
  each-unfilter P p f [] h = All-nil (λ r. has_type kind r ≡ true → P r)
  each-unfilter P p f (r ∷ rs) h =
      let both = one-of-all P (p r) r (filter p rs) (f r) h in
      All-cons (λ x. has_type kind x ≡ true → P x) r rs both.0 (each-unfilter P p f rs both.1)

  pub each-front : (P : Record → Type 0) (xs ys : List Record) → EachOf kind P (xs ++ ys) → EachOf kind P xs
  each-front P [] ys h = All-nil (λ r. has_type kind r ≡ true → P r)
  each-front P (x ∷ xs) ys h =
      All-cons (λ r. has_type kind r ≡ true → P r) x xs (All-head (λ r. has_type kind r ≡ true → P r) x (xs ++ ys) h)
      (each-front P xs ys (All-tail (λ r. has_type kind r ≡ true → P r) x (xs ++ ys) h))

-- ---- lifetimes

lesser-bound : (n : ℕ) (o : Option ℕ) → lesser n o ≤ n
lesser-bound n None = omega arith
lesser-bound n (Some other) = omega arith

least-each : (n : ℕ) (rs : List Record) → All (λ r. lesser n (least_ttl rs) ≤ r.ttl) rs
least-each n [] = All-nil (λ r. n ≤ r.ttl)
least-each n (r ∷ rs) =
    let least = lesser r.ttl (least_ttl rs) in
    let first : least ≤ r.ttl = lesser-bound r.ttl (least_ttl rs) in
    let rest : All (λ x. least ≤ x.ttl) rs = least-each r.ttl rs in
    All-cons (λ x. min n least ≤ x.ttl) r rs (omega arith)
    (λ k d less. let one : least ≤ (slice_index_or rs k d).ttl = rest k d less in omega arith)

clamp-bound : (range : TtlRange) (ttl : ℕ) → range.least ≡ 0 → clamp range ttl ≤ ttl
clamp-bound range ttl h = omega arith

clamp-monotone : (range : TtlRange) (ttl most : ℕ) → clamp range (min ttl most) ≤ clamp range ttl
clamp-monotone range ttl most = omega arith

lifetime-bound : (range : TtlRange) → range.least ≡ 0 → (rs : List Record) → All (λ r. lifetime_within range (least_ttl rs) ≤ r.ttl) rs
lifetime-bound range h [] = All-nil (λ r. range.least ≤ r.ttl)
lifetime-bound range h (r ∷ rs) =
    let least = lesser r.ttl (least_ttl rs) in
    let low : clamp range least ≤ least = clamp-bound range least h in
    let first : least ≤ r.ttl = lesser-bound r.ttl (least_ttl rs) in
    let rest : All (λ x. least ≤ x.ttl) rs = least-each r.ttl rs in
    All-cons (λ x. clamp range least ≤ x.ttl) r rs (omega arith)
    (λ k d less. let one : least ≤ (slice_index_or rs k d).ttl = rest k d less in omega arith)

pub or-left : (a b : Bool) → a ≡ true → a || b ≡ true
or-left true b h = refl
or-left false b h = absurd (cc)

deciding : (c : Bool) (kind : RecordType) (range : TtlRange) (m : Message) → (type_number kind == 2) ≡ c → range.least ≡ 0
    → EachOf kind (λ r. lifetime_within range (least_ttl (cond c (filter (has_type types.NS) (m.answers ++ m.authorities))
    (filter (λ x. has_type kind x || has_type types.CNAME x) m.answers))) ≤ r.ttl) m.answers
deciding true kind range m e h =
    let rs = filter (has_type types.NS) (m.answers ++ m.authorities) in
    let P : Record → Type 0 = λ r. lifetime_within range (least_ttl rs) ≤ r.ttl in
    let all : All P rs = lifetime-bound range h rs in
    each-front kind P m.answers m.authorities
    (each-unfilter kind P (has_type types.NS) (λ r typed. same-third (type_number (data_type r.rdata)) (type_number kind) 2 typed e)
    (m.answers ++ m.authorities) (λ k d less typed. all k d less))
deciding false kind range m e h =
    let p : Record → Bool = λ r. has_type kind r || has_type types.CNAME r in
    let rs = filter p m.answers in
    let P : Record → Type 0 = λ r. lifetime_within range (least_ttl rs) ≤ r.ttl in
    let all : All P rs = lifetime-bound range h rs in
    each-unfilter kind P p (λ r typed. or-left (has_type kind r) (has_type types.CNAME r) typed) m.answers (λ k d less typed. all k d less)

-- no answer of the type that was asked for ends before the response does
pub lifetime-each : (config : TtlConfigContent) (kind : RecordType) (m : Message) → HasNoMinimum config kind
    → EachOf kind (λ r. positive_lifetime config kind m ≤ r.ttl) m.answers
lifetime-each config kind m h = deciding (type_number kind == 2) kind (positive_range (bounds_of config kind)) m refl h

-- without a minimum, bounds lower a TTL
pub clamped-bound : (config : TtlConfigContent) (kind : RecordType) (r : Record) → HasNoMinimum config kind → has_type kind r ≡ true
    → (clamped_record config r).ttl ≤ r.ttl
clamped-bound config kind r h typed =
    clamp-bound (positive_range (bounds_of config (data_type r.rdata))) r.ttl
    (subst (λ (n : ℕ). (positive_range (unwrap_or (lookup (is_at (nat_cmp n)) config.by_query_type) config.default)).least ≡ 0)
    (sym (equal-numbers (type_number (data_type r.rdata)) (type_number kind) typed)) h)

-- of a lower TTL they make a lower one
pub clamped-lowered : (config : TtlConfigContent) (most : ℕ) (r : Record) → (clamped_record config (lowered most r)).ttl ≤ (clamped_record config r).ttl
clamped-lowered config most r = clamp-monotone (positive_range (bounds_of config (data_type r.rdata))) r.ttl most
