-- What is executed of a signed message, and what was signed.
use Rattle.std.specs.Prelude.{◌≡◌, ◌++◌, ℕ, List, length, drop, replicate, Some, None}
use Rattle.dns_wire.specs.Decodable.{Follow}
use Rattle.dns_wire.specs.declared.codes.record_type.RecordType.TheVariants as types
use Rattle.dns_data.specs.declared.rdata.RData.TheVariants as of
use Rattle.dns_records.specs.Record.{Record, ReadsRecord}
use Rattle.dns_messages.specs.Grammar.{ReadsMessage, ReadsQuestion}
use Rattle.dns_messages.specs.declared.message.Message.{Message}
use Rattle.dns_tsig.specs.Covered.{covered, prior_bytes}
use Rattle.dns_tsig.specs.Tsig.{fields_of}
use Rattle.dns_tsig.specs.WireName.{canonical_name}
use Rattle.dns_tsig.specs.declared.covered.Coverage.TheVariants.{Variables}
use Rattle.dns_tsig.specs.declared.found.Signature.{Signature}
use Rattle.dns_tsig.specs.declared.key.Key.{Key}

-- what the code of a message covers that has no TSIG record yet (RFC 8945 section 4.3)
abbrev pub signed_text : Key → List ℕ → List ℕ → ℕ → ℕ → ℕ → List ℕ → List ℕ
signed_text key prior message time fudge error other =
    prior_bytes prior ++ message ++ covered Variables key time fudge error other

-- The bytes of a message with 64 in place of each byte of its header. It begins no label and no pointer, and ends no name (RFC 1035
-- section 4.1.4), so a pointer that leads there is refused.
abbrev pub without_header : List ℕ → List ℕ
without_header bytes = replicate 12 64 ++ drop 12 bytes

-- Bytes decode to a message and end with its last record, and no pointer leads into the header, which has no prior name that it could
-- refer to (RFC 1035 section 4.1.4).
pub record DecodesApart (bytes : List ℕ) (m : Message) : Type 0 where
  pub reads : ReadsMessage bytes m
  pub whole : reads.end ≡ length bytes
  pub queries : Follow (ReadsQuestion (without_header bytes)) 12 m.queries reads.queries_end
  pub answers : Follow (ReadsRecord (without_header bytes)) reads.queries_end m.answers reads.answers_end
  pub authorities : Follow (ReadsRecord (without_header bytes)) reads.answers_end m.authorities reads.authorities_end
  pub last : Follow (ReadsRecord (without_header bytes)) reads.authorities_end reads.last reads.end

-- The first message has no TSIG record, and the second is the same message with a TSIG record, and perhaps another id.
pub record IsExecutionOf (signed executed : Message) : Type 0 where
  pub unsigned : signed.signature ≡ None
  pub same : executed ≡ record signed {
    metadata = record signed.metadata { id = executed.metadata.id };
    signature = executed.signature;
  }

-- The TSIG record that was found in a message is the last record that the decoder reads: it is at the same place, ends where the message
-- ends, and has the same owner, but for case, and the same fields.
pub record IsDecodedAs (message : List ℕ) (found : Signature) (m : Message) : Type 0 where
  pub tsig : Record
  pub signature : m.signature ≡ Some tsig
  pub there : ReadsRecord message found.place tsig (length message)
  pub owner : canonical_name tsig.name.labels ≡ found.name.items
  pub content : List ℕ
  pub rdata : tsig.rdata ≡ of.Unknown types.TSIG content
  pub fields : fields_of content ≡ Some found.tsig
