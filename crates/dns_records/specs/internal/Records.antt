-- Bytes decode to one record at most, and what decodes is not refused.
use Rattle.std.proofs.Common.{◌≡◌, ℕ, List, refl, sym, ap, subst, ◌∙◌, arith, length-drop}
use Rattle.std.specs.Int.{w16, w32, to_be_bytes}
use Rattle.dns_wire.specs.declared.codes.record_type.RecordType.{RecordType}
use Rattle.dns_wire.specs.declared.codes.dns_class.DNSClass.{DNSClass}
use Rattle.dns_wire.specs.codes.RecordType.{type_number}
use Rattle.dns_names.specs.Name.{DomainName}
use Rattle.dns_wire.specs.internal.NumberLaws.{same_number_2, same_number_4}
use Rattle.dns_wire.specs.declared.error.DecodeError.{DecodeError}
use Rattle.dns_wire.proofs.ReadingLaws.{reads_same, reads_not_refused}
use Rattle.dns_data.specs.rdata.{data_type, ReadsData}
use Rattle.dns_data.specs.declared.rdata.RData.{RData}
use Rattle.dns_data.proofs.UnambiguousLaws.{data_same, read_data_not_refused}
use Rattle.dns_records.specs.declared.record_head.RecordHead.{RecordHead}
use Rattle.dns_records.specs.RecordHead.{ReadsHead, RefusesHead, bad_owner, short_head, class_for, head_form}
use Rattle.dns_records.specs.Record.{Record, head_of, ReadsRecord, RefusesRecord, bad_head, bad_data}
use Rattle.dns_records.specs.internal.Pieces.{pieces_same, same_domain, same_type}

pub head_same : (bytes : List ℕ) (place : ℕ) (a b : RecordHead) (end end' : ℕ) → ReadsHead bytes place a end
    → ReadsHead bytes place b end' → (a ≡ b) × (end ≡ end')
head_same bytes place a b end end' s s' =
    let same = pieces_same bytes place end end' (head_form a s.class) (head_form b s'.class) (refl, (refl, (refl, (refl, tt)))) s.there s'.there in
    let e : head_form a s.class ≡ head_form b s'.class = same.0 in
    let labels : a.name.labels ≡ b.name.labels = cc in
    let types : to_be_bytes w16 (type_number a.record_type) ≡ to_be_bytes w16 (type_number b.record_type) = cc in
    let classes : to_be_bytes w16 s.class ≡ to_be_bytes w16 s'.class = cc in
    let ttls : to_be_bytes w32 a.ttl ≡ to_be_bytes w32 b.ttl = cc in
    let lens : to_be_bytes w16 a.len ≡ to_be_bytes w16 b.len = cc in
    let type_is : a.record_type ≡ b.record_type = same_type a.record_type b.record_type s.type_fits s'.type_fits s.type_named s'.type_named types in
    let number_is : s.class ≡ s'.class = same_number_2 s.class s'.class s.class_fits s'.class_fits classes in
    let class_is : a.dns_class ≡ b.dns_class = s.class_named ∙ ap (λ (t : RecordType). class_for t s.class) type_is
    ∙ ap (class_for b.record_type) number_is ∙ sym s'.class_named in (
      ap (λ (n : DomainName). record a { name = n }) (same_domain a.name b.name s.fqdn s'.fqdn labels)
          ∙ ap (λ (t : RecordType). record a { name = b.name; record_type = t }) type_is
          ∙ ap (λ (k : DNSClass). record b { dns_class = k; ttl = a.ttl; len = a.len }) class_is
          ∙ ap (λ (n : ℕ). record b { ttl = n; len = a.len }) (same_number_4 a.ttl b.ttl s.ttl_fits s'.ttl_fits ttls)
          ∙ ap (λ (n : ℕ). record b { len = n }) (same_number_2 a.len b.len s.len_fits s'.len_fits lens),
      same.1,
    )

-- data after a head is data after an equal one
data_after : (bytes : List ℕ) (place place' : ℕ) (h h' : RecordHead) (d : RData) → place ≡ place' → h ≡ h'
    → ReadsData bytes place h.record_type h.len d → ReadsData bytes place' h'.record_type h'.len d
data_after bytes place place' h h' d e f r =
    subst (λ (n : ℕ). ReadsData bytes n h'.record_type h'.len d) e (subst (λ (x : RecordHead). ReadsData bytes place x.record_type x.len d) f r)

pub record_same : (bytes : List ℕ) (place : ℕ) (a b : Record) (end end' : ℕ) → ReadsRecord bytes place a end
    → ReadsRecord bytes place b end' → (a ≡ b) × (end ≡ end')
record_same bytes place a b end end' r r' =
    let head : RecordHead = head_of a r.len in
    let head' : RecordHead = head_of b r'.len in
    let heads = head_same bytes place head head' r.data_place r'.data_place r.head r'.head in
    let lens : r.len ≡ r'.len = ap (λ (h : RecordHead). h.len) heads.0 in
    let there = data_after bytes r'.data_place r.data_place head' head b.rdata (sym heads.1) (sym heads.0) r'.rdata in
    let rdatas : a.rdata ≡ b.rdata = data_same bytes r.data_place r.len (data_type a.rdata) a.rdata b.rdata r.rdata there in (
      ap (λ (h : RecordHead). record a { name = h.name; dns_class = h.dns_class; ttl = h.ttl }) heads.0
          ∙ ap (λ (d : RData). record b { rdata = d }) rdatas,
      omega (arith, r.ends, r'.ends, heads.1, lens),
    )

-- ---- what decodes is not refused

pub head_not_refused : (bytes : List ℕ) (place : ℕ) (h : RecordHead) (end : ℕ) (error : DecodeError)
    → ReadsHead bytes place h end → RefusesHead bytes place error → ⊥
head_not_refused bytes place h end error r (bad_owner refused) = reads_not_refused r.there.1 refused
head_not_refused bytes place h end error r (short_head {labels} {name_end} name short) =
    let same = reads_same r.there.1 name in
    omega (arith, same.1, r.there.2.1.ends, r.there.2.2.1.ends, r.there.2.2.2.1.ends, r.there.2.2.2.2.1.ends, r.there.2.2.2.2.1.within, length-drop name_end bytes, short)

pub record_not_refused : (bytes : List ℕ) (place : ℕ) (r : Record) (end : ℕ) (error : DecodeError)
    → ReadsRecord bytes place r end → RefusesRecord bytes place error → ⊥
record_not_refused bytes place r end error reads (bad_head refused) =
    head_not_refused bytes place (head_of r reads.len) reads.data_place error reads.head refused
record_not_refused bytes place r end error reads (bad_data h {data_place} head refused) =
    let same = head_same bytes place (head_of r reads.len) h reads.data_place data_place reads.head head in
    let here = data_after bytes reads.data_place data_place (head_of r reads.len) h r.rdata same.1 same.0 reads.rdata in
    read_data_not_refused bytes data_place h.len h.record_type r.rdata error here refused
