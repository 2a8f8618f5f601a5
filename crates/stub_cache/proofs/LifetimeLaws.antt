-- The least TTL of the records that decide how long a response is kept.
use Rattle.std.proofs.Common.{◌≡◌, ◌∙◌, ℕ, Bool, true, false, List, [], ◌∷◌, ◌++◌, Option, Some, None, refl, ap, sym, arith}
use Rattle.std.specs.Prelude.{◌==◌, ◌&&◌, ◌||◌, not, cond, min}
use Rattle.std.specs.List.{filter}
use Rattle.std.proofs.lemmas.Bool.{eqb-true}
use Rattle.std.proofs.lemmas.List.Elements.{filter-append}
use Rattle.dns_wire.specs.codes.RecordType.{type_number}
use Rattle.dns_wire.specs.declared.codes.record_type.RecordType.{RecordType}
use Rattle.dns_wire.specs.declared.codes.record_type.RecordType.TheVariants as types
use Rattle.dns_data.specs.rdata.{data_type}
use Rattle.dns_records.specs.Record.{Record}
use Rattle.dns_messages.specs.Response.{has_type}
use Rattle.dns_messages.specs.declared.message.Message.{Message}
use Rattle.stub_cache.specs.Ttl.{deciding_records, least_ttl, lesser}
use Rattle.stub_cache.specs.internal.Ttl.{is_deciding_record, is_same_type, lesser_of}

-- ---- the least TTL of two sections

lesser-min : (ttl other : ℕ) (second : Option ℕ) → lesser ttl (Some (lesser other second)) ≡ lesser (min ttl other) second
lesser-min ttl other None = refl
lesser-min ttl other (Some more) = omega arith

lesser-lesser_of : (ttl : ℕ) (first second : Option ℕ) → lesser ttl (lesser_of first second) ≡ lesser (lesser ttl first) second
lesser-lesser_of ttl None second = refl
lesser-lesser_of ttl (Some other) second = lesser-min ttl other second

least_ttl-append : (rs others : List Record) → least_ttl (rs ++ others) ≡ lesser_of (least_ttl rs) (least_ttl others)
least_ttl-append [] others = refl
least_ttl-append (r ∷ rs) others =
    ap (λ (rest : Option ℕ). Some (lesser r.ttl rest)) (least_ttl-append rs others)
    ∙ ap Some (lesser-lesser_of r.ttl (least_ttl rs) (least_ttl others))

least_of_both : (test : Record → Bool) (rs others : List Record)
    → lesser_of (least_ttl (filter test rs)) (least_ttl (filter test others)) ≡ least_ttl (filter test (rs ++ others))
least_of_both test rs others = sym (ap least_ttl (filter-append test rs others) ∙ least_ttl-append (filter test rs) (filter test others))

-- ---- the records that decide

filter_congr : {A : Type 0} (p q : A → Bool) → ((x : A) → p x ≡ q x) → (xs : List A) → filter p xs ≡ filter q xs
filter_congr p q same [] = refl
filter_congr p q same (x ∷ xs) =
    ap (λ b. cond b (x ∷ filter p xs) (filter p xs)) (same x) ∙ ap (λ ys. cond (q x) (x ∷ ys) ys) (filter_congr p q same xs)

or_none : (b c : Bool) → (b || (c && false)) ≡ b
or_none true c = refl
or_none false true = refl
or_none false false = refl

-- for NS, the NS records alone
number_decides : (asked kind : ℕ) → asked ≡ 2 → ((kind == asked) || ((kind == 5) && not (asked == 2))) ≡ (kind == 2)
number_decides asked kind ns = ap (λ n. (kind == n) || ((kind == 5) && not (n == 2))) ns ∙ or_none (kind == 2) (kind == 5)

pub least_for_ns : (asked : RecordType) (m : Message) → is_same_type asked types.NS ≡ true
    → lesser_of (least_ttl (filter (is_deciding_record asked) m.answers)) (least_ttl (filter (is_deciding_record asked) m.authorities))
    ≡ least_ttl (deciding_records asked m)
least_for_ns asked m ns =
    let both = m.answers ++ m.authorities in
    let others : List Record = filter (λ r. has_type asked r || has_type types.CNAME r) m.answers in
    let same : (r : Record) → is_deciding_record asked r ≡ has_type types.NS r =
    λ r. number_decides (type_number asked) (type_number (data_type r.rdata)) (eqb-true (type_number asked) 2 ns) in
    least_of_both (is_deciding_record asked) m.answers m.authorities
    ∙ ap least_ttl (filter_congr (is_deciding_record asked) (has_type types.NS) same both)
    ∙ ap (λ b. least_ttl (cond b (filter (has_type types.NS) both) others)) (sym ns)
