-- Records: what is written for them, and which bytes decode to them (RFC 1035 section 4.1.3).
use Rattle.std.specs.Prelude.{◌≡◌, ◌+◌, ◌-◌, ◌++◌, ◌^◌, ◌<◌, Bool, true, List, [], ◌∷◌, ℕ, length, Option, option_map}
use Rattle.std.specs.Fmt.{decimal}
use Rattle.std.specs.declared.cmp.Ordering.{Ordering}
use Rattle.std.specs.Ordering.{nat_cmp, on, eq_of_both, then_cmp}
use Rattle.std.specs.Int.{w16, w32, to_be_bytes}
use Rattle.dns_wire.specs.Encodable.{Piece, Plain, Domain, Position, form, after}
use Rattle.dns_wire.specs.declared.error.DecodeError.{DecodeError}
use Rattle.dns_wire.specs.codes.RecordType.{type_number}
use Rattle.dns_wire.specs.codes.DNSClass.{class_number, same_class}
use Rattle.dns_wire.specs.codes.CodeText.{class_text, type_text}
use Rattle.dns_wire.specs.declared.codes.record_type.RecordType.{RecordType}
use Rattle.dns_names.specs.Compare.{same_name, name_cmp}
use Rattle.dns_names.specs.Print.{text_of_name}
use Rattle.dns_data.specs.declared.rdata.RData.{RData}
use Rattle.dns_data.specs.Memory.{IsInlineName}
use Rattle.dns_data.specs.rdata.{data_type, data_pieces, data_text, IsInlineData, IsSoundData, ReadsData, RefusesData, RefusesDataEarly}
use Rattle.dns_records.specs.declared.record_head.RecordHead.{RecordHead}
use Rattle.dns_records.specs.declared.record.Record as generic
use Rattle.dns_records.specs.RecordHead.{ReadsHead, RefusesHead, class_for}

-- a record with data of any type
abbrev pub Record : Type 0
Record = generic.Record RData

-- ---- values

-- the record with its data as data of any type
abbrev pub record_of_rdata : {R : Type 0} → (R → RData) → generic.Record R → Record
record_of_rdata rdata r = record {
  name = r.name;
  dns_class = r.dns_class;
  ttl = r.ttl;
  rdata = rdata r.rdata;
}

-- Records are equal if their owners, ignoring ASCII case, their classes and their data are. The TTL is not compared (RFC 2136
-- section 1.1.1).
abbrev pub same_record : {R : Type 0} → (R → R → Bool) → generic.Record R → generic.Record R → Bool
same_record same_data =
    eq_of_both (on (λ r. r.name) same_name)
    (eq_of_both (on (λ r. r.dns_class) same_class) (on (λ r. r.rdata) same_data))

-- The order of records: by owner, ignoring ASCII case, then by the numbers of type and class, then by TTL, then by data.
abbrev pub record_cmp : {R : Type 0} → (R → RData) → (R → R → Ordering) → generic.Record R → generic.Record R → Ordering
record_cmp rdata rdata_cmp =
    then_cmp (on (λ r. r.name) name_cmp)
    (then_cmp (on (λ r. type_number (data_type (rdata r.rdata))) nat_cmp)
    (then_cmp (on (λ r. class_number r.dns_class) nat_cmp)
    (then_cmp (on (λ r. r.ttl) nat_cmp) (on (λ r. r.rdata) rdata_cmp))))

-- a record with the same owner, class and TTL, and with a copy of the data
pub record IsCopyOf {R : Type 0} (is_clone : R → R → Type 0) (r copy : generic.Record R) : Type 0 where
  pub name : copy.name ≡ r.name
  pub dns_class : copy.dns_class ≡ r.dns_class
  pub ttl : copy.ttl ≡ r.ttl
  pub rdata : is_clone r.rdata copy.rdata

-- a short owner, and data whose values are all stored inline: no part of the record takes memory
abbrev pub IsInlineRecord : Record → Type 0
IsInlineRecord r = IsInlineName r.name × IsInlineData r.rdata

-- the record after some seconds: its TTL is reduced, to 0 at the least
abbrev pub after_seconds : {R : Type 0} → ℕ → generic.Record R → generic.Record R
after_seconds seconds r = record r { ttl = r.ttl - seconds }

-- ---- printed

-- A record of a type, with the text of its data, as a line of a zone file without the line's end (RFC 1035 section 5.1): owner,
-- TTL, class, type and data, separated by single spaces.
abbrev pub text_with_data : {R : Type 0} → RecordType → generic.Record R → List ℕ → List ℕ
text_with_data record_type r text =
    text_of_name r.name ++ 32 ∷ decimal r.ttl ++ 32 ∷ class_text r.dns_class ++ 32 ∷ type_text record_type ++ 32 ∷ text

-- the line of a record with data of any type, such as `a.t. 60 IN A 10.0.0.1`
abbrev pub record_text : Record → List ℕ
record_text r = text_with_data (data_type r.rdata) r (data_text r.rdata)

-- the line of a record with data of one type, if a text is stated for this data
abbrev pub record_output : {R : Type 0} → (R → RData) → (R → Option (List ℕ)) → generic.Record R → Option (List ℕ)
record_output rdata output r = option_map (text_with_data (data_type (rdata r.rdata)) r) (output r.rdata)

-- ---- written

-- owner, type, class and TTL
abbrev pub head_pieces : Record → List Piece
head_pieces r =
    Domain r.name.labels
    ∷ Plain (to_be_bytes w16 (type_number (data_type r.rdata)))
    ∷ Plain (to_be_bytes w16 (class_number r.dns_class))
    ∷ Plain (to_be_bytes w32 r.ttl)
    ∷ []

-- the length of the data, which begins after the head and the two bytes of this length
abbrev pub data_len : Position → Record → ℕ
data_len s r =
    length (form (after s (head_pieces r ++ Plain (0 ∷ 0 ∷ []) ∷ [])) (data_pieces s.canonical r.rdata))

-- the encoding of a record: its head, the length of its data, and the data
abbrev pub record_pieces : Position → Record → List Piece
record_pieces s r =
    head_pieces r ++ Plain (to_be_bytes w16 (data_len s r)) ∷ data_pieces s.canonical r.rdata

-- ---- read

-- the head of a record whose data has a length
abbrev pub head_of : Record → ℕ → RecordHead
head_of r len = record {
  name = r.name;
  record_type = data_type r.rdata;
  dns_class = r.dns_class;
  ttl = r.ttl;
  len = len;
}

-- the record with a head, and with the data after it, which takes exactly the length in the head
pub record ReadsDataOf (bytes : List ℕ) (place : ℕ) (h : RecordHead) (r : Record) (end : ℕ) : Type 0 where
  pub name : r.name ≡ h.name
  pub dns_class : r.dns_class ≡ h.dns_class
  pub ttl : r.ttl ≡ h.ttl
  pub rdata : ReadsData bytes place h.record_type h.len r.rdata
  pub ends : place + h.len ≡ end

-- The first fault of the data after a head.
abbrev pub RefusesDataOf : List ℕ → ℕ → RecordHead → DecodeError → Type 0
RefusesDataOf bytes place h error = RefusesData bytes place h.record_type h.len error

-- The first fault of the data after a head, which is found before memory is taken.
abbrev pub RefusesDataOfEarly : List ℕ → ℕ → RecordHead → DecodeError → Type 0
RefusesDataOfEarly bytes place h error = RefusesDataEarly bytes place h.record_type h.len error

-- a head, and data that takes exactly the length in the head
pub record ReadsRecord (bytes : List ℕ) (place : ℕ) (r : Record) (end : ℕ) : Type 0 where
  pub len : ℕ
  pub data_place : ℕ
  pub head : ReadsHead bytes place (head_of r len) data_place
  pub rdata : ReadsData bytes data_place (data_type r.rdata) len r.rdata
  pub ends : data_place + len ≡ end

-- No record can be decoded: its head is refused, or its data is.
pub data RefusesRecord (bytes : List ℕ) (place : ℕ) : DecodeError → Type 0 where
  bad_head : {error : DecodeError} → RefusesHead bytes place error → RefusesRecord bytes place error
  bad_data : {error : DecodeError} (h : RecordHead) {data_place : ℕ} → ReadsHead bytes place h data_place
      → RefusesDataOf bytes data_place h error → RefusesRecord bytes place error

-- ---- sound records

-- What a record must be to be written and read as itself: its owner is fully qualified, its class is what its number stands
-- for, and its data is sound.
pub record IsSoundRecord (r : Record) : Type 0 where
  pub fqdn : r.name.is_fqdn ≡ true
  pub class_fits : class_number r.dns_class < 2 ^ 16
  pub class_named : class_for (data_type r.rdata) (class_number r.dns_class) ≡ r.dns_class
  pub ttl_fits : r.ttl < 2 ^ 32
  pub rdata : IsSoundData r.rdata
