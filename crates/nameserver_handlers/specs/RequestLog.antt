-- The log of requests.
use Rattle.std.specs.Prelude.{◌≡◌, ◌⊎◌, ◌++◌, [], ◌∷◌, IsSomeAnd, false, length, string_bytes, List, ℕ, Option, Some, None}
use Rattle.std.specs.Io.KnownBytes.{Appends}
use Rattle.std.specs.Net.Text.{socket_text}
use Rattle.dns_log.specs.Entry.{entry_text}
use Rattle.dns_log.specs.declared.entry.LogEntry.{LogEntry}
use Rattle.dns_messages.specs.Header.{peeked_metadata}
use Rattle.dns_nameserver.specs.LogEntry.{HasCode, HasQuestion, counts_of, log_transport, number_at, op_of_header, reply_bytes}
use Rattle.dns_nameserver.specs.declared.answered.Answered.{Answered}
use Rattle.dns_sockets.specs.Handler.{RequestContent}
use Rattle.nameserver_handlers.specs.declared.request_log.RequestLog.{RequestLog}

-- what the log says of a request and of what it led to
pub record IsEntryOf (r : RequestContent) (a : Answered) (e : LogEntry) : Type 0 where
  pub moment : e.moment ≡ r.moment
  pub peer : string_bytes e.peer ≡ socket_text r.peer
  pub transport : e.transport ≡ log_transport r.transport
  pub id : e.id ≡ number_at r.bytes 0
  pub op_code : e.op_code ≡ op_of_header (peeked_metadata r.bytes)
  pub question : HasQuestion r.bytes e.question
  pub code : HasCode (reply_bytes a) e.code
  pub counts : e.counts ≡ counts_of (reply_bytes a)
  pub request_len : e.request_len ≡ length r.bytes
  pub reply_len : e.reply_len ≡ length (reply_bytes a)
  pub fault_line : e.fault_line ≡ a.line
  pub is_update_applied : e.is_update_applied ≡ a.has_updated

-- A line is appended, unless a write fails, or one has failed before.
pub record HasLine {W : Type 0} (contents : W → Option (List ℕ)) (old : RequestLog W) (line : List ℕ) (new : RequestLog W)
    : Type 0 where
  pub appended : new.has_failed ≡ false → Appends (contents old.writer) (contents new.writer) line
  pub unfailed : new.has_failed ≡ false → old.has_failed ≡ false

-- The line of a request and of what it led to is appended.
abbrev pub Logs : {W : Type 0} → (W → Option (List ℕ)) → RequestLog W → RequestContent → Answered → RequestLog W → Type 0
Logs contents old r a new =
    (entry : LogEntry) × (IsEntryOf r a entry × HasLine contents old (entry_text entry ++ 10 ∷ []) new)

-- the same if there is a log, and memory for the line
abbrev pub LogsIf : {W : Type 0} → (W → Option (List ℕ)) → Option (RequestLog W) → RequestContent → Answered → Option (RequestLog W) → Type 0
LogsIf contents None r a new = new ≡ None
LogsIf contents (Some log) r a new = IsSomeAnd new (λ after. (after ≡ log) ⊎ Logs contents log r a after)
