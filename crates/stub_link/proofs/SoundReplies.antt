-- The aliases and services in a response of a handle lead to fully qualified names.
use Rattle.std.proofs.Common.{◌≡◌, ℕ, List, [], ◌∷◌, false, inl, inr, Option, Result, Ok, Err, sym, ◌∙◌}
use Rattle.std.proofs.lemmas.Bool.{true≢false}
use Rattle.std.specs.List.{AllByRecursion}
use Rattle.dns_wire.specs.declared.codes.record_type.RecordType.{RecordType}
use Rattle.dns_wire.specs.Decodable.{Follow}
use Rattle.dns_wire.specs.Name.{AreLabels}
use Rattle.dns_wire.proofs.ReadingLaws.{reads_name-fits}
use Rattle.dns_data.specs.declared.rdata.RData.{RData}
use Rattle.dns_data.specs.declared.rdata.RData.TheVariants as of
use Rattle.dns_data.specs.rdata.{ReadsData}
use Rattle.dns_records.specs.Record.{Record, ReadsRecord}
use Rattle.dns_messages.specs.Grammar.{ReadsMessage}
use Rattle.dns_messages.specs.declared.message.Message.{Message}
use Rattle.stub_client.specs.Handle.{Outcome}
use Rattle.stub_client.specs.declared.request.DnsRequest.{DnsRequest}
use Rattle.stub_link.specs.declared.link.LinkError.{LinkError}
use Rattle.stub_link.specs.declared.wire_handle.WireHandle.{WireHandle}
use Rattle.stub_link.specs.AskState.{AskState, AskZone}
use Rattle.stub_link.specs.Link.{Decodes, IsResponse, calls_of, messages, wire}
use Rattle.stub_link.specs.LinkState.{link_calls}
use Rattle.stub_link.specs.SoundQuestion.{IsSoundReply, LeadsToName}
use Rattle.stub_link.specs.WireHandle.{Asks, asker_of}
use Rattle.stub_link.proofs.OutcomeLaws.{IsDecoded, responses-decode}

abbrev Leads : Record → Type 0
Leads r = LeadsToName r.rdata

data-leads : (bytes : List ℕ) (place len : ℕ) (kind : RecordType) (d : RData) → ReadsData bytes place kind len d → LeadsToName d
data-leads bytes place len kind (of.CNAME alias) r =
    let fits : AreLabels alias.0.labels = reads_name-fits r.there.1 in
    record { fqdn = r.sound.values.0; short = fits.fits }
data-leads bytes place len kind (of.SRV service) r =
    let fits : AreLabels service.target.labels = reads_name-fits r.there.2.2.2.1 in
    record { fqdn = r.sound.values.1.1.1.0; short = fits.fits }
data-leads bytes place len kind (of.A a) r = tt
data-leads bytes place len kind (of.AAAA a) r = tt
data-leads bytes place len kind (of.NS n) r = tt
data-leads bytes place len kind (of.PTR p) r = tt
data-leads bytes place len kind (of.MX m) r = tt
data-leads bytes place len kind (of.SOA s) r = tt
data-leads bytes place len kind (of.TXT t) r = tt
data-leads bytes place len kind (of.OPT o) r = tt
data-leads bytes place len kind (of.Update0 t) r = tt
data-leads bytes place len kind (of.Unknown code bytes') r = tt

records-lead : (bytes : List ℕ) (place : ℕ) (rs : List Record) (end : ℕ) → Follow (ReadsRecord bytes) place rs end
    → AllByRecursion Leads rs
records-lead bytes place [] end f = tt
records-lead bytes place (r ∷ rs) end f =
    (data-leads bytes f.1.data_place f.1.len _ r.rdata f.1.rdata, records-lead bytes f.0 rs end f.2)

pub decoded-sound : (bytes : List ℕ) (m : Message) → ReadsMessage bytes m → AllByRecursion Leads m.answers
decoded-sound bytes m r = records-lead bytes r.queries_end m.answers r.answers_end r.answers.records

wire-sound : (out : Outcome) → IsDecoded wire out → IsSoundReply out
wire-sound (Err error) h = tt
wire-sound (Ok response) h =
    let d : Decodes h.0 response = h.1 in
    decoded-sound h.0 response.message d.message

module _ {L : Type 0} (sends : L → List ℕ → Result (Unit {0}) LinkError → L → Type 0)
    (receives : L → Result (Option (List ℕ)) LinkError → L → Type 0) (streams : L → List ℕ → Result (List ℕ) LinkError → L → Type 0)
    (failure_count : L → ℕ) where
  pub wire-replies : (old : WireHandle L) (request : DnsRequest) (now : ℕ) (outcome : Outcome) (new : WireHandle L)
      → Asks sends receives streams failure_count old request now outcome new → IsSoundReply outcome
  wire-replies old request now outcome new h =
      wire-sound outcome
      (responses-decode wire (calls_of sends receives streams) request.message (asker_of old) outcome (asker_of new) h.ask)

-- ---- the zone

message-sound : (out : Outcome) → IsDecoded messages out → IsSoundReply out
message-sound (Err error) h = tt
message-sound (Ok response) h =
    let r : IsResponse h.0 response = h.1 in
    decoded-sound response.buffer.items response.message r.reads

pub zone-replies : (old new : AskState) (request : DnsRequest) (now : ℕ) (outcome : Outcome)
    → AskZone old request now outcome new → new.link.out_of_memory ≡ false → IsSoundReply outcome
zone-replies old new request now outcome (inl out) lives = absurd (true≢false (sym out.1 ∙ lives))
zone-replies old new request now outcome (inr a) lives =
    message-sound outcome (responses-decode messages link_calls request.message old outcome new a)
