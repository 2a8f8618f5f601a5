-- Records of a section that are looked at one after another, up to the first OPT record.
use Rattle.std.proofs.Common.{◌≡◌, ◌∙◌, sym, refl, ap, subst, ℕ, Bool, true, false, ◌||◌, List, [], ◌∷◌, Some, None}
use Rattle.dns_wire.specs.declared.codes.record_type.RecordType.{RecordType}
use Rattle.dns_wire.specs.declared.codes.record_type.RecordType.TheVariants as types
use Rattle.dns_messages.specs.Section.{is_opt_type}
use Rattle.dns_message_bytes.specs.view.MessageView.{RawMessage, ReadsRawMessage}
use Rattle.dns_message_bytes.specs.view.RecordView.{RawRecord}
use Rattle.dns_message_bytes.specs.view.RecordViews.{HasRecords, LendsRecord}
use Rattle.dns_message_bytes.specs.declared.view.record_view.RecordView.{RecordView}
use Rattle.dns_message_bytes.specs.declared.view.record_views.RecordViews.{RecordViews}
use Rattle.dns_authority.specs.replies.Malformed.{IsOptFound, has_raw_opt}
use Rattle.dns_authority.specs.replies.Malformed.IsOptFound.{by_form}

-- no OPT record is among those that were passed
abbrev pub PassesNoOpt : RecordViews → RecordViews → Type 0
PassesNoOpt start now = (rs : List RawRecord) → HasRecords start rs → (rest : List RawRecord) × (HasRecords now rest × (has_raw_opt rs ≡ has_raw_opt rest))

pub at_start : (it : RecordViews) → PassesNoOpt it it
at_start it rs has = (rs, (has, refl))

other_first : (kind found : RecordType) (more : Bool) → found ≡ kind → is_opt_type found ≡ false → (is_opt_type kind || more) ≡ more
other_first kind found more e other = ap (λ (k : RecordType). is_opt_type k || more) (sym e) ∙ ap (λ (b : Bool). b || more) other

opt_first : (kind : RecordType) (more : Bool) → types.OPT ≡ kind → true ≡ (is_opt_type kind || more)
opt_first kind more e = ap (λ (k : RecordType). is_opt_type k || more) e

pub not_opt : (k : RecordType) → (k ≡ types.OPT → ⊥) → is_opt_type k ≡ false
not_opt types.OPT excluded = absurd (excluded refl)
not_opt other excluded = refl

pub passed : (start old new : RecordViews) (view : RecordView) → PassesNoOpt start old → LendsRecord old (Some view) new
    → (view.record_type ≡ types.OPT → ⊥) → PassesNoOpt start new
passed start old new view before lends other rs has = by (before rs has).0 (before rs has).1.0 (before rs has).1.1
  where
    by : (rest : List RawRecord) → HasRecords old rest → has_raw_opt rs ≡ has_raw_opt rest
        → (left : List RawRecord) × (HasRecords new left × (has_raw_opt rs ≡ has_raw_opt left))
    by [] there e = absurd (lends [] there)
    by (r ∷ more) there e =
        let first = lends (r ∷ more) there in
        (more, (first.1, e ∙ other_first r.head.record_type view.record_type (has_raw_opt more) first.0.record_type (not_opt view.record_type other)))

pub found : (start old new : RecordViews) (view : RecordView) → PassesNoOpt start old → LendsRecord old (Some view) new
    → view.record_type ≡ types.OPT → (rs : List RawRecord) → HasRecords start rs → true ≡ has_raw_opt rs
found start old new view before lends opt rs has = by (before rs has).0 (before rs has).1.0 (before rs has).1.1
  where
    by : (rest : List RawRecord) → HasRecords old rest → has_raw_opt rs ≡ has_raw_opt rest → true ≡ has_raw_opt rs
    by [] there e = absurd (lends [] there)
    by (r ∷ more) there e =
        let first = lends (r ∷ more) there in
        opt_first r.head.record_type (has_raw_opt more) (sym opt ∙ first.0.record_type) ∙ sym e

pub ended : (start old new : RecordViews) → PassesNoOpt start old → LendsRecord old None new → (rs : List RawRecord)
    → HasRecords start rs → false ≡ has_raw_opt rs
ended start old new before lends rs has = by (before rs has).0 (before rs has).1.0 (before rs has).1.1
  where
    by : (rest : List RawRecord) → HasRecords old rest → has_raw_opt rs ≡ has_raw_opt rest → false ≡ has_raw_opt rs
    by [] there e = sym e
    by (r ∷ more) there e = absurd (lends (r ∷ more) there)

-- the view of a message shows whether it has an OPT record
pub shown : (bytes : List ℕ) (m : RawMessage) (answer : Bool) → ReadsRawMessage bytes m → answer ≡ has_raw_opt m.additionals → IsOptFound bytes answer
shown bytes m answer reads e = subst (λ (b : Bool). IsOptFound bytes b) (sym e) (by_form m reads)
