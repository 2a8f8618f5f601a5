-- Numbers of records that do not fit a message (RFC 1035 section 4.1.3).
use Rattle.std.specs.Prelude.{◌<◌, ◌≤◌, ◌+◌, ◌/◌, List, ℕ, Option, Some, None, length}
use Rattle.dns_messages.specs.declared.message.Message.{Message}
use Rattle.dns_messages.specs.Encoding.{Encodes}
use Rattle.dns_messages.specs.Message.{truncated}
use Rattle.dns_authority.specs.declared.answer.AuthorityAnswer.{AuthorityAnswer}
use Rattle.dns_authority.specs.replies.Reply.{reply_with}

-- A number of records that do not fit a limit, whatever they are: each has eleven bytes at least, one of its owner, and those of
-- type, class, TTL and the length of its data.
abbrev pub too_many_records : ℕ → ℕ
too_many_records limit = limit / 11 + 1

-- how many answers and authority records there are
abbrev pub record_count : AuthorityAnswer → ℕ
record_count a = length a.answers + length a.authorities

-- The bytes are there exactly if an answer has too many records, and are those of the reply with TC.
abbrev pub IsReplyToLong : ℕ → Message → AuthorityAnswer → Option (List ℕ) → Type 0
IsReplyToLong limit m a None = record_count a < too_many_records limit
IsReplyToLong limit m a (Some out) = (too_many_records limit ≤ record_count a) × Encodes limit (truncated (reply_with m a)) out
