-- What a line gives as the reply to a question: `reply <name> <type> <message>..` or `stream <name> <type> <message>`.
use Rattle.std.specs.Prelude.{◌==◌, ◌&&◌, ◌++◌, ◌/◌, ◌%◌, if◌then◌else◌, Bool, true, false, List, [], ◌∷◌, ℕ, codes, length, map, Option, Some, None, option_map, Result, Ok, Err}
use Rattle.std.specs.Int.{w16, to_be_bytes}
use Rattle.std.specs.Str.{bytes_eq}
use Rattle.hex.specs.Hex.{decode_of}
use Rattle.hex.specs.declared.error.FromHexError.{FromHexError}
use Rattle.dns_wire.specs.declared.codes.dns_class.DNSClass.TheVariants.{IN}
use Rattle.dns_wire.specs.declared.codes.record_type.RecordType.{RecordType}
use Rattle.dns_names.specs.Name.{DomainName}
use Rattle.dns_messages.specs.declared.query.Query.{Query}
use Rattle.dns_zone_file.specs.declared.types.Types.{Types}
use Rattle.stub_script.specs.ScriptFields.{question_of}
use Rattle.stub_script.specs.declared.reply_line.GivenAnswer.{GivenAnswer}
use Rattle.stub_script.specs.declared.reply_line.GivenAnswer.TheVariants.{Server, Messages}
use Rattle.stub_script.specs.declared.reply_line.GivenMessage.{GivenMessage}
use Rattle.stub_script.specs.declared.reply_line.GivenReply.{GivenReply}
use Rattle.stub_script.specs.declared.reply_line.ReplyTransport.{ReplyTransport}
use Rattle.stub_script.specs.declared.reply_line.ReplyTransport.TheVariants.{Datagram, Stream}

-- ---- contents

-- a message: whether the id of the request comes before its bytes
pub record MessageContent : Type 0 where
  pub repeats_id : Bool
  pub bytes : List ℕ

-- the content of a message
abbrev pub message_content : GivenMessage → MessageContent
message_content message = record { repeats_id = message.repeats_id; bytes = message.bytes.items }

-- the messages of an answer, or none if the server answers
abbrev pub answer_content : GivenAnswer → Option (List MessageContent)
answer_content Server = None
answer_content (Messages messages) = Some (map message_content messages.items)

-- what a line gives
pub record ReplyContent : Type 0 where
  pub line : ℕ
  pub transport : ReplyTransport
  pub question : Query
  pub answer : Option (List MessageContent)

-- the content of a reply
abbrev pub reply_content : GivenReply → ReplyContent
reply_content reply = record {
  line = reply.line;
  transport = reply.transport;
  question = reply.question;
  answer = answer_content reply.answer;
}

-- the bytes of a message in reply to a request with this id, which comes first in it (RFC 1035 section 4.1.1)
abbrev pub message_bytes : ℕ → GivenMessage → List ℕ
message_bytes id message = if message.repeats_id then to_be_bytes w16 id ++ message.bytes.items else message.bytes.items

-- ---- messages

-- a message whose bytes could be decoded
abbrev pub message_if : Bool → Result (List ℕ) FromHexError → Option MessageContent
message_if repeats_id (Ok bytes) = Some (record { repeats_id = repeats_id; bytes = bytes })
message_if repeats_id (Err error) = None

-- what follows `id`, which is in the place of the id of the request
abbrev pub after_id : List ℕ → Option (List ℕ)
after_id (i ∷ d ∷ digits) = if (i == 105) && (d == 100) then Some digits else None
after_id word = None

-- a message by its digits after `id`, if it has that
abbrev pub message_by : List ℕ → Option (List ℕ) → Option MessageContent
message_by word (Some digits) = message_if true (decode_of digits)
message_by word None = message_if false (decode_of word)

-- the message of a word: `-` is without bytes, and others are stated by hexadecimal digits
abbrev pub message_of : List ℕ → Option MessageContent
message_of word = if bytes_eq word (codes "-") then message_if false (decode_of []) else message_by word (after_id word)

-- a message before others, if each is one
abbrev pub message_before : Option MessageContent → Option (List MessageContent) → Option (List MessageContent)
message_before (Some message) (Some messages) = Some (message ∷ messages)
message_before message messages = None

-- the message of each word
abbrev pub messages_of : List (List ℕ) → Option (List MessageContent)
messages_of [] = Some []
messages_of (word ∷ words) = message_before (message_of word) (messages_of words)

-- ---- replies

-- `server` alone
abbrev pub is_server : List (List ℕ) → Bool
is_server (word ∷ []) = bytes_eq word (codes "server")
is_server words = false

-- any number of datagrams, and one message over a stream
abbrev pub fits : ReplyTransport → ℕ → Bool
fits Datagram count = true
fits Stream count = count == 1

-- what answers a question, by the words after the question: the server, or messages
abbrev pub answer_of : ReplyTransport → List (List ℕ) → Option (Option (List MessageContent))
answer_of transport words =
    if is_server words then Some None
    else if fits transport (length words) then option_map Some (messages_of words)
    else None

-- the reply to a question, if there are a question and an answer
abbrev pub reply_if : ℕ → ReplyTransport → Option (DomainName × RecordType) → Option (Option (List MessageContent)) → Option ReplyContent
reply_if line transport (Some (name, kind)) (Some answer) = Some (record {
  line = line;
  transport = transport;
  question = record { name = name; query_type = kind; query_class = IN };
  answer = answer;
})
reply_if line transport question answer = None

-- the reply of a line, by the words after its keyword
abbrev pub reply_of : Types → ℕ → ReplyTransport → List (List ℕ) → Option ReplyContent
reply_of types line transport (name ∷ kind ∷ words) = reply_if line transport (question_of types name kind) (answer_of transport words)
reply_of types line transport arguments = None
