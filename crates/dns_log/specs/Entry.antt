-- The line of an entry: a JSON object (RFC 8259 section 4).
use Rattle.std.specs.Prelude.{◌++◌, List, ℕ, Option, Some, None, codes}
use Rattle.std.specs.Fmt.{decimal}
use Rattle.std.specs.String.{string_bytes}
use Rattle.dns_log.specs.declared.entry.LogEntry.{LogEntry}
use Rattle.dns_log.specs.declared.entry.LogTransport.{LogTransport}
use Rattle.dns_log.specs.declared.entry.LogTransport.TheVariants.{Udp, Tcp}
use Rattle.dns_log.specs.declared.entry.ReplyCounts.{ReplyCounts}
use Rattle.dns_log.specs.declared.question.LogQuestion.{LogQuestion}
use Rattle.dns_log.specs.Json.{json_bool, json_number, json_text}

-- the name of a transport
unfoldable pub transport_text : LogTransport → List ℕ
transport_text Udp = codes "udp"
transport_text Tcp = codes "tcp"

-- a question: an object of three texts
unfoldable pub question_text : LogQuestion → List ℕ
question_text q =
    codes "{\"name\":" ++ (json_text (string_bytes q.name) ++ (codes ",\"type\":" ++ (json_text (string_bytes q.record_type) ++ (codes ",\"class\":" ++ (json_text (string_bytes q.class) ++ (codes "}"))))))

-- a question, or `null`
unfoldable pub question_or_null : Option LogQuestion → List ℕ
question_or_null None = codes "null"
question_or_null (Some q) = question_text q

-- the numbers of records
unfoldable pub counts_text : ReplyCounts → List ℕ
counts_text c =
    codes "\"answers\":" ++ (decimal c.answers ++ (codes ",\"authorities\":" ++ (decimal c.authorities ++ (codes ",\"additionals\":" ++ (decimal c.additionals)))))

-- when and from where the request came
unfoldable pub sender_text : LogEntry → List ℕ
sender_text e =
    codes "{\"moment\":" ++ (decimal e.moment ++ (codes ",\"peer\":" ++ (json_text (string_bytes e.peer) ++ (codes ",\"transport\":\"" ++ (transport_text e.transport ++ (codes "\""))))))

-- what was asked
unfoldable pub asked_text : LogEntry → List ℕ
asked_text e =
    codes ",\"id\":" ++ (json_number e.id ++ (codes ",\"opcode\":" ++ (json_number e.op_code ++ (codes ",\"question\":" ++ (question_or_null e.question)))))

-- what was replied
unfoldable pub replied_text : LogEntry → List ℕ
replied_text e =
    codes ",\"code\":" ++ (json_number e.code ++ (codes "," ++ (counts_text e.counts)))

-- how long the messages were
unfoldable pub sizes_text : LogEntry → List ℕ
sizes_text e =
    codes ",\"request_bytes\":" ++ (decimal e.request_len ++ (codes ",\"reply_bytes\":" ++ (decimal e.reply_len)))

-- which rule decided, and whether an update was applied
unfoldable pub effects_text : LogEntry → List ℕ
effects_text e =
    codes ",\"fault\":" ++ (json_number e.fault_line ++ (codes ",\"updated\":" ++ (json_bool e.is_update_applied ++ (codes "}"))))

-- the whole line, without a line feed
abbrev pub entry_text : LogEntry → List ℕ
entry_text e = sender_text e ++ asked_text e ++ replied_text e ++ sizes_text e ++ effects_text e
