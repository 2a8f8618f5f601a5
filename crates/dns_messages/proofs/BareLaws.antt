-- A header whose counts are all 0, and the message that it decodes to.
use Rattle.std.proofs.Common.{◌≡◌, ◌<◌, ℕ, List, [], length, None, Option, ap, ◌∙◌, refl}
use Rattle.dns_wire.specs.declared.error.DecodeError.TheVariants.{InsufficientBytes}
use Rattle.dns_records.specs.Record.{Record}
use Rattle.dns_messages.specs.declared.header.Metadata.{Metadata}
use Rattle.dns_messages.specs.declared.header.Header.{Header}
use Rattle.dns_messages.specs.declared.query.Query.{Query}
use Rattle.dns_messages.specs.declared.edns.Edns.{Edns}
use Rattle.dns_messages.specs.declared.section.SectionRecords.{SectionRecords}
use Rattle.dns_messages.specs.declared.message.Message.{Message}
use Rattle.dns_messages.specs.Header.{DecodesHeader, no_counts}
use Rattle.dns_messages.specs.Grammar.{IsBareHeader, extended}
use Rattle.dns_messages.specs.Message.{empty_message}
use Rattle.dns_messages.specs.internal.Headers.{header_unambiguous, header_not_refused}

-- bytes that begin with a header are twelve at least
pub not_short : (bytes : List ℕ) (bare : Header) → IsBareHeader bytes bare → length bytes < 12 → ⊥
not_short bytes bare is short = header_not_refused bytes 0 bare 12 InsufficientBytes is.header (refl, short)

-- the header that was read
pub same_header : (bytes : List ℕ) (h bare : Header) → DecodesHeader bytes 0 h 12 → IsBareHeader bytes bare → h ≡ bare
same_header bytes h bare read is = (header_unambiguous bytes 0 h bare 12 12 read is.header).0

pub same_counts : (bytes : List ℕ) (h bare : Header) → DecodesHeader bytes 0 h 12 → IsBareHeader bytes bare → h.counts ≡ no_counts
same_counts bytes h bare read is = ap (λ (x : Header). x.counts) (same_header bytes h bare read is) ∙ is.counts

-- a section without records
abbrev pub empty_section : SectionRecords
empty_section = record { records = []; edns = None; signature = None }

-- a message of its metadata and its sections
abbrev pub message_with : Metadata → List Query → List Record → List Record → SectionRecords → Message
message_with metadata queries answers authorities last = record {
  metadata = metadata;
  queries = queries;
  answers = answers;
  authorities = authorities;
  additionals = last.records;
  edns = last.edns;
  signature = last.signature;
}

-- the message of a header and four empty sections
pub bare_message : (metadata : Metadata) (queries : List Query) (answers authorities : List Record) (last : SectionRecords) (h bare : Header)
    → metadata ≡ extended last.edns h.metadata → queries ≡ [] → answers ≡ [] → authorities ≡ [] → last ≡ empty_section → h ≡ bare
    → message_with metadata queries answers authorities last ≡ empty_message bare.metadata
bare_message metadata queries answers authorities last h bare extends q an au l same =
    let edns : last.edns ≡ None = ap (λ (s : SectionRecords). s.edns) l in
    let records : last.records ≡ [] = ap (λ (s : SectionRecords). s.records) l in
    let signature : last.signature ≡ None = ap (λ (s : SectionRecords). s.signature) l in
    let kept : metadata ≡ bare.metadata = extends ∙ ap (λ (e : Option Edns). extended e h.metadata) edns ∙ ap (λ (x : Header). x.metadata) same in
    cc
