-- The requests in datagrams, as traces name them.
use Rattle.std.specs.Prelude.{◌≡◌, ◌++◌, Bool, false, List, [], Option, Some, None, codes, ℕ}
use Rattle.std.specs.Fmt.{decimal}
use Rattle.dns_wire.specs.declared.error.DecodeError.{DecodeError}
use Rattle.dns_messages.specs.declared.message.Message.{Message}
use Rattle.dns_messages.specs.declared.query.Query.{Query}
use Rattle.dns_messages.specs.Grammar.{ReadsMessage, RefusesMessage}
use Rattle.dns_messages.specs.Question.{question_text, same_question}
use Rattle.stub_link.specs.Reply.{question_in}
use Rattle.stub_link.specs.declared.trace.note_text.RequestNote.{RequestNote}

-- the request of a message, before any receive
pub record IsNoteOf (m : Message) (note : RequestNote) : Type 0 where
  pub id : note.id ≡ m.metadata.id
  pub question : note.question ≡ question_in m
  pub receives : note.receives ≡ 0

-- the request in a datagram, or none if it does not decode
abbrev pub ReadsRequest : List ℕ → Option RequestNote → Type 0
ReadsRequest bytes (Some note) = (m : Message) × ReadsMessage bytes m × IsNoteOf m note
ReadsRequest bytes None = (error : DecodeError) × RefusesMessage bytes error

-- whether a request has a question
abbrev pub asks : Option Query → Query → Bool
asks (Some asked) q = same_question asked q
asks None q = false

-- how a trace shows a request
abbrev pub asked_text : Option Query → List ℕ
asked_text (Some q) = codes " " ++ question_text q
asked_text None = codes " update"

-- its ID first, in decimal
abbrev pub request_text : RequestNote → List ℕ
request_text note = codes "id " ++ (decimal note.id ++ asked_text note.question)
