-- Which records the sections of a message may have, and where OPT and TSIG records are.
use Rattle.std.specs.Prelude.{◌≡◌, ◌==◌, ◌+◌, ◌++◌, ◌&&◌, ◌||◌, ◌-◌, not, if◌then◌else◌, Bool, true, false, List, [], ◌∷◌, ℕ, length, Option, Some, None, option_map}
use Rattle.std.specs.List.{filter, find, list_any}
use Rattle.dns_wire.specs.declared.codes.record_type.RecordType.{RecordType}
use Rattle.dns_wire.specs.declared.codes.record_type.RecordType.TheVariants as types
use Rattle.dns_wire.specs.Decodable.{Follow}
use Rattle.dns_wire.specs.declared.error.DecodeError.{DecodeError}
use Rattle.dns_wire.specs.declared.error.DecodeError.TheVariants.{InvalidEmptyRecord, RecordNotInAdditionalSection, DuplicateEdns, EdnsNameNotRoot}
use Rattle.dns_names.specs.Name.{DomainName}
use Rattle.dns_data.specs.rdata.{data_type, is_update_data}
use Rattle.dns_records.specs.declared.record_head.RecordHead.{RecordHead}
use Rattle.dns_records.specs.Record.{Record, ReadsRecord, RefusesDataOf}
use Rattle.dns_records.specs.RecordHead.{ReadsHead, RefusesHead}
use Rattle.dns_messages.specs.declared.edns.Edns.{Edns}
pub use Rattle.dns_messages.specs.declared.section.Setting.{Setting}
use Rattle.dns_messages.specs.declared.section.SectionRecords.{SectionRecords}
use Rattle.dns_messages.specs.Edns.{edns_of}

-- ---- records with a place of their own

-- whether a type is OPT (RFC 6891 section 6.1.1)
abbrev pub is_opt_type : RecordType → Bool
is_opt_type types.OPT = true
is_opt_type other = false

-- whether a type is TSIG (RFC 8945 section 4.2)
abbrev pub is_tsig_type : RecordType → Bool
is_tsig_type types.TSIG = true
is_tsig_type other = false

-- whether a record is an OPT record
abbrev pub is_opt : Record → Bool
is_opt r = is_opt_type (data_type r.rdata)

-- a TSIG record with data (RFC 8945 section 4.2)
abbrev pub is_signature : Record → Bool
is_signature r = is_tsig_type (data_type r.rdata) && not (is_update_data r.rdata)

-- ---- the fault of a record at its place

-- A `Setting` is where a record is: in an update or another message, in the additional section or another, after an OPT
-- record in it, and as the last of its section.

-- an OPT record is in the additional section, once, and owned by the root (RFC 6891 sections 6.1.1 and 6.1.2)
abbrev pub opt_fault : Setting → DomainName → Option DecodeError
opt_fault setting owner =
    if not setting.is_additional then Some RecordNotInAdditionalSection
    else if setting.has_edns then Some DuplicateEdns
    else if length owner.labels == 0 then None
    else Some EdnsNameNotRoot

-- Data is empty only in an OPT record and in updates (RFC 2136 section 2.4); a TSIG record is the last of the additional section
-- (RFC 8945 section 5.1).
abbrev pub placement_fault : Setting → DomainName → RecordType → Bool → Option DecodeError
placement_fault setting owner record_type is_empty =
    if is_opt_type record_type then opt_fault setting owner
    else if is_empty then (if setting.is_update then None else Some InvalidEmptyRecord)
    else if is_tsig_type record_type && not (setting.is_additional && setting.is_last)
    then Some RecordNotInAdditionalSection
    else None

-- the fault of a record with this head at its place, if it has one
abbrev pub head_fault : Setting → RecordHead → Option DecodeError
head_fault setting h = placement_fault setting h.name h.record_type (h.len == 0)

-- the fault of a record at its place, if it has one
abbrev pub record_fault : Setting → Record → Option DecodeError
record_fault setting r = placement_fault setting r.name (data_type r.rdata) (is_update_data r.rdata)

-- ---- sections

-- what is known of a section before its records are read: the message, and which section it is
pub record SectionKind : Type 0 where
  pub is_update : Bool
  pub is_additional : Bool

-- where the next record of a section is, of which so many are left
abbrev pub setting_of : SectionKind → Bool → ℕ → Setting
setting_of kind has_edns left = record {
  is_update = kind.is_update;
  is_additional = kind.is_additional;
  has_edns = has_edns;
  is_last = left == 1;
}

-- the first records of a section, of which so many are left, are in places of theirs
abbrev pub AreWellPlaced : SectionKind → Bool → ℕ → List Record → Type 0
AreWellPlaced kind has_edns left [] = Unit {0}
AreWellPlaced kind has_edns left (r ∷ rs) =
    (record_fault (setting_of kind has_edns left) r ≡ None)
    × AreWellPlaced kind (has_edns || is_opt r) (left - 1) rs

-- the records of a section, as many as the header says
pub record ReadsSection (bytes : List ℕ) (kind : SectionKind) (place count : ℕ) (rs : List Record) (end : ℕ) : Type 0 where
  pub records : Follow (ReadsRecord bytes) place rs end
  pub count_is : length rs ≡ count
  pub placed : AreWellPlaced kind false count rs

-- The next record of a section is refused: its head is, or the record is out of place, or its data is refused.
pub data RefusesNext (bytes : List ℕ) (setting : Setting) (place : ℕ) : DecodeError → Type 0 where
  bad_record_head : {error : DecodeError} → RefusesHead bytes place error → RefusesNext bytes setting place error
  out_of_place : {error : DecodeError} (h : RecordHead) {data_place : ℕ} → ReadsHead bytes place h data_place
      → head_fault setting h ≡ Some error → RefusesNext bytes setting place error
  bad_record_data : {error : DecodeError} (h : RecordHead) {data_place : ℕ} → ReadsHead bytes place h data_place
      → head_fault setting h ≡ None → RefusesDataOf bytes data_place h error → RefusesNext bytes setting place error

-- A section is refused: records at its front are read, and the next is refused.
pub record RefusesSection (bytes : List ℕ) (kind : SectionKind) (place count : ℕ) (error : DecodeError) : Type 0 where
  pub front : List Record
  pub middle : ℕ
  pub records : Follow (ReadsRecord bytes) place front middle
  pub placed : AreWellPlaced kind false count front
  pub left : ℕ
  pub counted : length front + (left + 1) ≡ count
  pub next : RefusesNext bytes (setting_of kind (list_any is_opt front) (left + 1)) middle error

-- ---- what a section has

-- the records that are neither an OPT record nor a signature
abbrev pub ordinary_records : List Record → List Record
ordinary_records rs = filter (λ r. not (is_opt r || is_signature r)) rs

-- what the OPT record says, if there is one
abbrev pub edns_in : List Record → Option Edns
edns_in rs = option_map edns_of (find is_opt rs)

-- the signature, if there is one
abbrev pub signature_in : List Record → Option Record
signature_in rs = find is_signature rs

-- these are the records of a section: ordinary records, what the OPT record says, and the signature
pub record IsPartition (rs : List Record) (s : SectionRecords) : Type 0 where
  pub records : s.records ≡ ordinary_records rs
  pub edns : s.edns ≡ edns_in rs
  pub signature : s.signature ≡ signature_in rs

-- A section is read, and its records are divided into ordinary ones, the OPT record and the signature.
pub record ReadsSectionRecords (bytes : List ℕ) (kind : SectionKind) (place count : ℕ)
    (s : SectionRecords) (end : ℕ) : Type 0 where
  pub all : List Record
  pub section : ReadsSection bytes kind place count all end
  pub partition : IsPartition all s

-- a section with one more record
abbrev pub with_record : SectionRecords → Record → SectionRecords
with_record s r =
    if is_opt r then record s { edns = Some (edns_of r) }
    else if is_signature r then record s { signature = Some r }
    else record s { records = s.records ++ r ∷ [] }
