-- Sections of records whose data is not decoded (RFC 1035 section 4.1).
use Rattle.std.specs.Prelude.{◌≡◌, ◌<◌, ℕ, List, [], ◌∷◌, length, Option, Some, None}
use Rattle.dns_wire.specs.Decodable.{Follow}
use Rattle.dns_wire.specs.declared.error.DecodeError.{DecodeError}
use Rattle.dns_message_bytes.specs.view.RecordView.{RawRecord, ReadsRaw, RefusesRaw, IsRecordOf}
use Rattle.dns_message_bytes.specs.declared.view.record_view.RecordView.{RecordView}
use Rattle.dns_message_bytes.specs.declared.view.record_views.RecordViews.{RecordViews}

-- the records of a section, as many as the header says
pub record ReadsRecords (bytes : List ℕ) (place count : ℕ) (rs : List RawRecord) (end : ℕ) : Type 0 where
  pub records : Follow (ReadsRaw bytes) place rs end
  pub count_is : length rs ≡ count

-- Records at the front are read, and the next is refused.
pub record RefusesRecords (bytes : List ℕ) (place count : ℕ) (error : DecodeError) : Type 0 where
  pub front : List RawRecord
  pub middle : ℕ
  pub records : Follow (ReadsRaw bytes) place front middle
  pub counted : length front < count
  pub next : RefusesRaw bytes middle error

-- the iterator has these records left
abbrev pub HasRecords : RecordViews → List RawRecord → Type 0
HasRecords views rs =
    (end : ℕ) × ReadsRecords views.decoder.bytes views.decoder.index views.left rs end

-- the first of these records is lent, and the others are left
abbrev pub LendsFirst : List RawRecord → Option RecordView → RecordViews → Type 0
LendsFirst [] None new = HasRecords new []
LendsFirst (r ∷ rs) (Some view) new = IsRecordOf view r × HasRecords new rs
LendsFirst rs result new = ⊥

-- of the records that are left, the first is lent
abbrev pub LendsRecord : RecordViews → Option RecordView → RecordViews → Type 0
LendsRecord old result new = (rs : List RawRecord) → HasRecords old rs → LendsFirst rs result new
