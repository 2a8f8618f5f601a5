-- Records whose data is not decoded (RFC 1035 section 4.1.3).
use Rattle.std.specs.Prelude.{◌≡◌, ◌<◌, ℕ, List, length, drop}
use Rattle.dns_wire.specs.Decodable.{BytesAt}
use Rattle.dns_wire.specs.declared.error.DecodeError.{DecodeError}
use Rattle.dns_wire.specs.declared.error.DecodeError.TheVariants.{InsufficientBytes}
use Rattle.dns_records.specs.declared.record_head.RecordHead.{RecordHead}
use Rattle.dns_records.specs.RecordHead.{ReadsHead, RefusesHead}
use Rattle.dns_message_bytes.specs.view.NameView.{IsNameOf}
use Rattle.dns_message_bytes.specs.declared.view.record_view.RecordView.{RecordView}

-- a record whose data is bytes: a head (owner, type, class, TTL and the length of the data), and the data
pub record RawRecord : Type 0 where
  pub head : RecordHead
  pub rdata : List ℕ

-- a head, and after it as many bytes of data as the head says
pub record ReadsRaw (bytes : List ℕ) (place : ℕ) (r : RawRecord) (end : ℕ) : Type 0 where
  pub data_place : ℕ
  pub head : ReadsHead bytes place r.head data_place
  pub len : length r.rdata ≡ r.head.len
  pub there : BytesAt bytes data_place r.rdata end

-- No record can be read: its head is refused, or fewer bytes follow it than its data takes.
pub data RefusesRaw (bytes : List ℕ) (place : ℕ) : DecodeError → Type 0 where
  no_head : {error : DecodeError} → RefusesHead bytes place error → RefusesRaw bytes place error
  short_data : (h : RecordHead) {data_place : ℕ} → ReadsHead bytes place h data_place
      → length (drop data_place bytes) < h.len → RefusesRaw bytes place InsufficientBytes

-- the view borrows this record
pub record IsRecordOf (view : RecordView) (r : RawRecord) : Type 0 where
  pub name : IsNameOf view.name r.head.name.labels
  pub record_type : view.record_type ≡ r.head.record_type
  pub dns_class : view.dns_class ≡ r.head.dns_class
  pub ttl : view.ttl ≡ r.head.ttl
  pub rdata : view.data.now ≡ r.rdata
