-- What of a reply is sent under the limit of its transport (RFC 2181 section 9, RFC 9471 section 3).
use Rattle.std.specs.Prelude.{◌≡◌, ◌==◌, ◌-◌, true, false, not, if◌then◌else◌, Bool, List, [], ℕ, length, take, Option, Some, None}
use Rattle.std.specs.List.{list_any}
use Rattle.dns_wire.specs.codes.RecordType.{type_number}
use Rattle.dns_data.specs.rdata.{data_type}
use Rattle.dns_messages.specs.declared.message.Message.{Message}
use Rattle.dns_messages.specs.Cut.{cut, remaining}
use Rattle.dns_messages.specs.Emit.{lent}
use Rattle.dns_messages.specs.Encoding.{Encodes}
use Rattle.dns_messages.specs.Message.{truncated}
use Rattle.dns_authority.specs.declared.replies.reply_ref.ReplyRef.{ReplyRef}
use Rattle.dns_authority.specs.replies.WholeSets.{set_start}

-- the message whose parts are borrowed
abbrev pub borrowed_message : ReplyRef → Message
borrowed_message r = record {
  metadata = r.metadata;
  queries = r.queries.now;
  answers = r.answers.now;
  authorities = r.authorities.now;
  additionals = r.additionals.now;
  edns = lent r.edns;
  signature = None;
}

-- whether all of a message fits a limit: what is left of it has no TC
abbrev pub fits : ℕ → Message → Bool
fits limit m = not (cut limit m).metadata.truncation

-- whether the answers and the authority records of a message fit a limit
abbrev pub sections_fit : ℕ → Message → Bool
sections_fit limit m = fits limit (record m { additionals = []; edns = None })

-- the message without its additional records; the OPT record stays
abbrev pub without_additionals : Message → Message
without_additionals m = record m { additionals = [] }

-- whether a message is a referral: its authority section has NS records, whose glue is then needed (RFC 9471 section 3)
abbrev pub is_referral : Message → Bool
is_referral m = list_any (λ r. type_number (data_type r.rdata) == 2) m.authorities

-- how many of the additional records of a message fit beside the OPT record of a reply, which has 11 bytes (RFC 6891 section 6.1.2)
abbrev pub fitting_count : ℕ → Message → ℕ
fitting_count limit m = length (remaining (limit - 11) (record m { edns = None })).additionals

-- the message with the sets of these additional records, and without a set of which some records do not fit (RFC 2181 section 9)
abbrev pub with_fitting : ℕ → Message → Message
with_fitting limit m = record m { additionals = take (set_start m.additionals (fitting_count limit m)) m.additionals }

-- what is sent of a message that fits without its additional records: as many sets of these as fit, too
abbrev pub fullest_sent : ℕ → Message → Message
fullest_sent limit m = if fits limit (with_fitting limit m) then with_fitting limit m else without_additionals m

-- What is sent of a reply that does not fit: if it fits without its additional records, and these are not the glue of a referral,
-- it is sent without the sets that do not fit, and without TC (RFC 2181 section 9); or else with TC, and with no record but OPT.
abbrev pub rest_sent : ℕ → Message → Message
rest_sent limit m =
    if is_referral m then truncated m
    else if fits limit (without_additionals m) then fullest_sent limit m
    else truncated m

-- what is sent of a reply
abbrev pub sent : ℕ → Message → Message
sent limit m = if fits limit m then m else rest_sent limit m

-- the bytes of a message are there exactly if all of it fits
abbrev pub IsWhole : ℕ → Message → Option (List ℕ) → Type 0
IsWhole limit m None = fits limit m ≡ false
IsWhole limit m (Some bytes) = (fits limit m ≡ true) × Encodes limit m bytes

-- The answers and the authority records of a message do not fit a limit, and the bytes are those of the message with TC.
abbrev pub IsTruncatedAt : ℕ → Message → List ℕ → Type 0
IsTruncatedAt limit m bytes = (sections_fit limit m ≡ false) × Encodes limit (truncated m) bytes
