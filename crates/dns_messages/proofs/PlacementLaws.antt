-- Records at their places in a section.
use Rattle.std.proofs.Common.{◌≡◌, ◌==◌, ◌&&◌, ◌||◌, ◌+◌, ◌-◌, ◌<◌, ◌^◌, not, Bool, true, false, ℕ, zero, suc, List, [], ◌∷◌, ◌++◌, length, Option, Some, None, refl, sym, ap, subst, ◌∙◌, arith}
use Rattle.std.specs.Prelude.{if◌then◌else◌}
use Rattle.std.proofs.Math.Dec.{eqb-suc-zero}
use Rattle.std.proofs.lemmas.Bool.{eqb-true}
use Rattle.std.specs.List.{filter, find, list_any}
use Rattle.dns_wire.specs.declared.codes.record_type.RecordType.{RecordType}
use Rattle.dns_wire.specs.declared.codes.record_type.RecordType.TheVariants as types
use Rattle.dns_wire.specs.codes.RecordType.{type_number, type_of}
use Rattle.dns_wire.specs.Encodable.{PiecesAt}
use Rattle.dns_wire.specs.declared.error.DecodeError.{DecodeError}
use Rattle.dns_wire.specs.declared.name_encoding.NameEncoding.TheVariants.{Uncompressed}
use Rattle.dns_names.specs.Name.{DomainName}
use Rattle.dns_data.specs.rdata.{data_type, data_pieces, empty_data, is_update_data, ReadsData}
use Rattle.dns_data.specs.declared.rdata.RData.{RData}
use Rattle.dns_data.specs.declared.rdata.RData.TheVariants as of
use Rattle.dns_data.proofs.DataLaws.{reads_empty}
use Rattle.dns_data.proofs.UnambiguousLaws.{data_same}
use Rattle.dns_records.specs.declared.record_head.RecordHead.{RecordHead}
use Rattle.dns_records.specs.RecordHead.{ReadsHead}
use Rattle.dns_records.specs.Record.{Record, head_of, ReadsDataOf, ReadsRecord}
use Rattle.dns_messages.specs.Section.{Setting, SectionKind, setting_of, is_opt_type, is_tsig_type, is_opt, is_signature, placement_fault, head_fault, record_fault, AreWellPlaced}

-- ---- a record and its head

-- data after a head makes a record
pub record_read : (bytes : List ℕ) (place data_place end : ℕ) (h : RecordHead) (r : Record) → ReadsHead bytes place h data_place → ReadsDataOf bytes data_place h r end → ReadsRecord bytes place r end
record_read bytes place data_place end h r head d =
    let type_is : data_type r.rdata ≡ h.record_type = d.rdata.of_type ∙ head.type_named in
    let head_is : h ≡ head_of r h.len =
    sym (ap (λ (t : RecordType). record (head_of r h.len) { record_type = t }) type_is
    ∙ ap (λ (n : _). record h { name = n; dns_class = r.dns_class; ttl = r.ttl }) d.name
    ∙ ap (λ (k : _). record h { dns_class = k; ttl = r.ttl }) d.dns_class
    ∙ ap (λ (n : ℕ). record h { ttl = n }) d.ttl) in
    record {
      len = h.len;
      data_place = data_place;
      head = subst (λ (x : RecordHead). ReadsHead bytes place x data_place) head_is head;
      rdata = subst (λ (t : RecordType). ReadsData bytes data_place t h.len r.rdata) (sym type_is) d.rdata;
      ends = d.ends;
    }

-- data of some length is not that of an update
not_update : (bytes : List ℕ) (place n : ℕ) (d : RData) → PiecesAt Uncompressed bytes place (data_pieces false d) (place + suc n) → false ≡ is_update_data d
not_update bytes place n (of.A a) there = refl
not_update bytes place n (of.AAAA a) there = refl
not_update bytes place n (of.CNAME c) there = refl
not_update bytes place n (of.NS m) there = refl
not_update bytes place n (of.PTR p) there = refl
not_update bytes place n (of.MX m) there = refl
not_update bytes place n (of.SOA s) there = refl
not_update bytes place n (of.SRV s) there = refl
not_update bytes place n (of.TXT strings) there = refl
not_update bytes place n (of.OPT options) there = refl
not_update bytes place n (of.Update0 t) there = absurd (omega (arith, there))
not_update bytes place n (of.Unknown code opaque) there = refl

update_data : (t : RecordType) → (t ≡ types.OPT → ⊥) → true ≡ is_update_data (empty_data t)
update_data types.OPT other = absurd (other refl)
update_data t other = refl

-- data is that of an update exactly if it is empty, unless its type is OPT
data_empty : (bytes : List ℕ) (place len : ℕ) (t : RecordType) (d : RData) → (t ≡ types.OPT → ⊥) → type_number t < 2 ^ 16 → type_of (type_number t) ≡ t → ReadsData bytes place t len d → (len == 0) ≡ is_update_data d
data_empty bytes place zero t d other fits named r =
    let e : d ≡ empty_data t = data_same bytes place 0 t d (empty_data t) r (reads_empty t t bytes place fits (ap type_number named) (sym named)) in
    update_data t other ∙ sym (ap is_update_data e)
data_empty bytes place (suc n) t d other fits named r = eqb-suc-zero n ∙ not_update bytes place n d r.there

-- whether data is empty matters only for a type other than OPT
same_fault : (s : Setting) (owner : DomainName) (t : RecordType) (a b : Bool) → ((t ≡ types.OPT → ⊥) → a ≡ b) → placement_fault s owner t a ≡ placement_fault s owner t b
same_fault s owner types.OPT a b e = refl
same_fault s owner t a b e = ap (placement_fault s owner t) (e (λ opt. cc))

-- a record and its head have the same fault
pub fault_of_head : (bytes : List ℕ) (place end : ℕ) (s : Setting) (r : Record) (h : ReadsRecord bytes place r end) → record_fault s r ≡ head_fault s (head_of r h.len)
fault_of_head bytes place end s r h =
    same_fault s r.name (data_type r.rdata) (is_update_data r.rdata) (h.len == 0) (λ other. sym (data_empty bytes h.data_place h.len (data_type r.rdata) r.rdata other h.head.type_fits h.head.type_named h.rdata))

pub fault_after_head : (bytes : List ℕ) (place data_place end : ℕ) (s : Setting) (h : RecordHead) (r : Record) → ReadsHead bytes place h data_place → ReadsDataOf bytes data_place h r end → record_fault s r ≡ head_fault s h
fault_after_head bytes place data_place end s h r head d =
    let type_is : data_type r.rdata ≡ h.record_type = d.rdata.of_type ∙ head.type_named in
    ap (λ (n : DomainName). placement_fault s n (data_type r.rdata) (is_update_data r.rdata)) d.name
    ∙ ap (λ (t : RecordType). placement_fault s h.name t (is_update_data r.rdata)) type_is
    ∙ same_fault s h.name h.record_type (is_update_data r.rdata) (h.len == 0) (λ other. sym (data_empty bytes data_place h.len h.record_type r.rdata other head.type_fits head.type_named d.rdata))

-- ---- what has a fault

-- an OPT record in place is in the additional section, and the first
opt_place : (additional has : Bool) (more : Option DecodeError) (e f : DecodeError) → (if not additional then Some e else if has then Some f else more) ≡ None → (additional ≡ true) × (has ≡ false)
opt_place false has more e f h = absurd (cc)
opt_place true true more e f h = absurd (cc)
opt_place true false more e f h = (refl, refl)

opt_in_place : (s : Setting) (owner : DomainName) (t : RecordType) (empty : Bool) → is_opt_type t ≡ true → placement_fault s owner t empty ≡ None → (s.is_additional ≡ true) × (s.has_edns ≡ false)
opt_in_place s owner types.OPT empty opt h = opt_place s.is_additional s.has_edns _ _ _ h
opt_in_place s owner t empty opt h = absurd (cc)

-- a signature in place is in the additional section, and the last
last_place : (additional last : Bool) (e : DecodeError) → (if not (additional && last) then Some e else None) ≡ None → (additional ≡ true) × (last ≡ true)
last_place true true e h = (refl, refl)
last_place true false e h = absurd (cc)
last_place false last e h = absurd (cc)

signature_in_place : (s : Setting) (owner : DomainName) (t : RecordType) (empty : Bool) → (is_tsig_type t && not empty) ≡ true → placement_fault s owner t empty ≡ None → (s.is_additional ≡ true) × (s.is_last ≡ true)
signature_in_place s owner types.TSIG true signed h = absurd (cc)
signature_in_place s owner types.TSIG false signed h = last_place s.is_additional s.is_last _ h
signature_in_place s owner t empty signed h = absurd (cc)

pub opt_first : (s : Setting) (r : Record) → record_fault s r ≡ None → is_opt r ≡ true → (s.is_additional ≡ true) × (s.has_edns ≡ false)
opt_first s r h opt = opt_in_place s r.name (data_type r.rdata) (is_update_data r.rdata) opt h

pub signature_last : (s : Setting) (r : Record) → record_fault s r ≡ None → is_signature r ≡ true → (s.is_additional ≡ true) × (s.is_last ≡ true)
signature_last s r h signed = signature_in_place s r.name (data_type r.rdata) (is_update_data r.rdata) signed h

-- a record without data is an OPT record, or of an update
data_in_place : (s : Setting) (owner : DomainName) (t : RecordType) (empty : Bool) → is_opt_type t ≡ false → placement_fault s owner t empty ≡ None → (s.is_update || not empty) ≡ true
data_in_place s owner types.OPT empty opt h = absurd (cc)
data_in_place s owner t false opt h = or_true s.is_update
  where
    or_true : (b : Bool) → (b || true) ≡ true
    or_true true = refl
    or_true false = refl
data_in_place s owner t true opt h = update s.is_update _ h
  where
    update : (b : Bool) (e : DecodeError) → (if b then None else Some e) ≡ None → (b || false) ≡ true
    update true e k = refl
    update false e k = absurd (cc)

pub data_there : (s : Setting) (r : Record) → record_fault s r ≡ None → is_opt r ≡ false → (s.is_update || not (is_update_data r.rdata)) ≡ true
data_there s r h opt = data_in_place s r.name (data_type r.rdata) (is_update_data r.rdata) opt h

-- ---- records of a section

or_false : (b : Bool) → b ≡ (b || false)
or_false true = refl
or_false false = refl

or_assoc : (a b c : Bool) → (a || (b || c)) ≡ ((a || b) || c)
or_assoc true b c = refl
or_assoc false b c = refl

fault_moved : (kind : SectionKind) (a b : Bool) (m n : ℕ) (r : Record) → a ≡ b → m ≡ n → record_fault (setting_of kind a m) r ≡ None → record_fault (setting_of kind b n) r ≡ None
fault_moved kind a b m n r e f h = subst (λ (l : ℕ). record_fault (setting_of kind b l) r ≡ None) f (subst (λ (c : Bool). record_fault (setting_of kind c m) r ≡ None) e h)

-- one more
pub placed_push : (kind : SectionKind) (has : Bool) (left : ℕ) (rs : List Record) (r : Record) → AreWellPlaced kind has left rs → record_fault (setting_of kind (has || list_any is_opt rs) (left - length rs)) r ≡ None → AreWellPlaced kind has left (rs ++ r ∷ [])
placed_push kind has left [] r placed h = (fault_moved kind (has || false) has (left - 0) left r (sym (or_false has)) (omega arith) h, tt)
placed_push kind has left (x ∷ rs) r placed h =
    (placed.0, placed_push kind (has || is_opt x) (left - 1) rs r placed.1 (fault_moved kind (has || (is_opt x || list_any is_opt rs)) ((has || is_opt x) || list_any is_opt rs) (left - length (x ∷ rs)) ((left - 1) - length rs) r (or_assoc has (is_opt x) (list_any is_opt rs)) (omega arith) h))

-- and the first behind some
pub placed_at : (kind : SectionKind) (has : Bool) (left : ℕ) (rs : List Record) (r : Record) (more : List Record) → AreWellPlaced kind has left (rs ++ r ∷ more) → record_fault (setting_of kind (has || list_any is_opt rs) (left - length rs)) r ≡ None
placed_at kind has left [] r more placed = fault_moved kind has (has || false) left (left - 0) r (or_false has) (omega arith) placed.0
placed_at kind has left (x ∷ rs) r more placed =
    fault_moved kind ((has || is_opt x) || list_any is_opt rs) (has || (is_opt x || list_any is_opt rs)) ((left - 1) - length rs) (left - length (x ∷ rs)) r (sym (or_assoc has (is_opt x) (list_any is_opt rs))) (omega arith) (placed_at kind (has || is_opt x) (left - 1) rs r more placed.1)

not_one : (n : ℕ) → 1 < n → (n == 1) ≡ true → ⊥
not_one n more e = omega (arith, more, eqb-true n 1 e)

when_not : (b : Bool) → (b ≡ true → ⊥) → b ≡ false
when_not true never = absurd (never refl)
when_not false never = refl

-- no signature precedes another record
pub unsigned_front : (kind : SectionKind) (has : Bool) (left : ℕ) (rs : List Record) → AreWellPlaced kind has left rs → length rs < left → find is_signature rs ≡ None
unsigned_front kind has left [] placed less = refl
unsigned_front kind has left (r ∷ rs) placed less =
    let none : is_signature r ≡ false = when_not (is_signature r) (λ signed. not_one left (omega arith) (signature_last (setting_of kind has left) r placed.0 signed).1) in
    ap (λ (b : Bool). if b then Some r else find is_signature rs) none ∙ unsigned_front kind (has || is_opt r) (left - 1) rs placed.1 (omega arith)

-- a section other than the additional one has ordinary records alone
not_true : (b : Bool) → b ≡ false → b ≡ true → ⊥
not_true b e f = absurd (cc)

ordinary_one : (o s : Bool) → o ≡ false → s ≡ false → not (o || s) ≡ true
ordinary_one o s e f = ap (λ (b : Bool). not (b || s)) e ∙ ap not f

pub plain_section : (kind : SectionKind) (has : Bool) (left : ℕ) (rs : List Record) → kind.is_additional ≡ false → AreWellPlaced kind has left rs → filter (λ (r : Record). not (is_opt r || is_signature r)) rs ≡ rs
plain_section kind has left [] plain placed = refl
plain_section kind has left (r ∷ rs) plain placed =
    let no_opt : is_opt r ≡ false = when_not (is_opt r) (λ opt. not_true kind.is_additional plain (opt_first (setting_of kind has left) r placed.0 opt).0) in
    let unsigned : is_signature r ≡ false = when_not (is_signature r) (λ signed. not_true kind.is_additional plain (signature_last (setting_of kind has left) r placed.0 signed).0) in
    ap (λ (b : Bool). if b then r ∷ filter (λ (x : Record). not (is_opt x || is_signature x)) rs else filter (λ (x : Record). not (is_opt x || is_signature x)) rs) (ordinary_one (is_opt r) (is_signature r) no_opt unsigned)
    ∙ ap (λ (xs : List Record). r ∷ xs) (plain_section kind (has || is_opt r) (left - 1) rs plain placed.1)
