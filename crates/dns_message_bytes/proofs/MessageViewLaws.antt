-- Messages, as they are read in place.
use Rattle.std.proofs.Common.{◌≡◌, ℕ, List, sym, subst}
use Rattle.dns_wire.specs.Decoder.{Decoder}
use Rattle.dns_messages.specs.declared.query.Query.{Query}
use Rattle.dns_messages.specs.Grammar.{ReadsQuestions}
use Rattle.dns_message_bytes.specs.declared.view.record_views.RecordViews.{RecordViews}
use Rattle.dns_message_bytes.specs.declared.view.query_views.QueryViews.{QueryViews}
use Rattle.dns_message_bytes.specs.view.RecordView.{RawRecord}
use Rattle.dns_message_bytes.specs.view.RecordViews.{ReadsRecords, HasRecords}
use Rattle.dns_message_bytes.specs.view.QueryViews.{HasQueries}

-- the questions of a decoder's bytes are those of the message
pub queries_here : (bytes : List ℕ) (d : Decoder) (count : ℕ) (qs : List Query) (end : ℕ) → d.bytes ≡ bytes → d.index ≡ 12 → ReadsQuestions d.bytes d.index count qs end → ReadsQuestions bytes 12 count qs end
queries_here bytes d count qs end same at reads =
    subst (λ (bs : List ℕ). ReadsQuestions bs 12 count qs end) same (subst (λ (n : ℕ). ReadsQuestions d.bytes n count qs end) at reads)

-- the records of a decoder's bytes are those of the message
pub records_here : (bytes : List ℕ) (d : Decoder) (count : ℕ) (rs : List RawRecord) (end : ℕ) → d.bytes ≡ bytes → ReadsRecords d.bytes d.index count rs end → ReadsRecords bytes d.index count rs end
records_here bytes d count rs end same reads = subst (λ (bs : List ℕ). ReadsRecords bs d.index count rs end) same reads

pub has_queries : (views : QueryViews) (last : Decoder) (place count : ℕ) (bytes : List ℕ) (qs : List Query) (end : ℕ) → views ≡ record { decoder = record { bytes = last.bytes; index = place }; left = count } → last.bytes ≡ bytes → place ≡ 12 → ReadsQuestions bytes 12 count qs end → HasQueries views qs
has_queries views last place count bytes qs end is same at reads =
    subst (λ (v : QueryViews). HasQueries v qs) (sym is)
    (end, subst (λ (bs : List ℕ). ReadsQuestions bs place count qs end) (sym same) (subst (λ (n : ℕ). ReadsQuestions bytes n count qs end) (sym at) reads))

pub has_records : (views : RecordViews) (last start : Decoder) (place count : ℕ) (bytes : List ℕ) (rs : List RawRecord) (end : ℕ) → views ≡ record { decoder = record { bytes = last.bytes; index = place }; left = count } → last.bytes ≡ bytes → place ≡ start.index → ReadsRecords bytes start.index count rs end → HasRecords views rs
has_records views last start place count bytes rs end is same at reads =
    subst (λ (v : RecordViews). HasRecords v rs) (sym is)
    (end, subst (λ (bs : List ℕ). ReadsRecords bs place count rs end) (sym same) (subst (λ (n : ℕ). ReadsRecords bytes n count rs end) (sym at) reads))
