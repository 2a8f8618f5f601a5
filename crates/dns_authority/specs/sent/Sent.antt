-- What is known of a reply that is decoded.
use Rattle.std.specs.Prelude.{◌≡◌, false, List, [], ◌∷◌}
use Rattle.std.specs.List.{AllByRecursion}
use Rattle.dns_messages.specs.declared.message.Message.{Message}
use Rattle.dns_messages.specs.declared.query.Query.{Query}
use Rattle.dns_messages.specs.Cut.{remaining_code}
use Rattle.dns_zone.specs.Rows.{ZoneContent}
use Rattle.dns_authority.specs.declared.answer.AuthorityAnswer.{AuthorityAnswer}
use Rattle.dns_authority.specs.Origin.{IsAdditionalRecord, IsAnswerRecord, IsAuthorityRecord}

-- Each record of a message comes from a zone, as the definition for its section says of the answer to a question.
pub record RecordsComeFrom (zones : List ZoneContent) (q : Query) (a : AuthorityAnswer) (m : Message) : Type 0 where
  pub answers : AllByRecursion (IsAnswerRecord zones q a.answers) m.answers
  pub authorities : AllByRecursion (IsAuthorityRecord zones q a.answers) m.authorities
  pub additionals : AllByRecursion (IsAdditionalRecord zones a.answers a.authorities) m.additionals

-- a message without records
pub record HasNoRecords (m : Message) : Type 0 where
  pub answers : m.answers ≡ []
  pub authorities : m.authorities ≡ []
  pub additionals : m.additionals ≡ []

-- the records of a reply, by the questions of its request: there is none unless the request has exactly one question
abbrev pub AnswerTheQuestion : List ZoneContent → List Query → AuthorityAnswer → Message → Type 0
AnswerTheQuestion zones (q ∷ []) a m = RecordsComeFrom zones q a m
AnswerTheQuestion zones queries a m = HasNoRecords m

-- A message that is decoded from the reply with an answer to a request with these questions: each record comes from a zone, all records
-- of the answer section are there unless TC is set, and the code is that of the answer, of which a message without an OPT record has four
-- bits (RFC 6891 section 6.1.3).
pub record IsReplyWith (zones : List ZoneContent) (queries : List Query) (a : AuthorityAnswer) (m : Message) : Type 0 where
  pub records : AnswerTheQuestion zones queries a m
  pub whole : m.metadata.truncation ≡ false → m.answers ≡ a.answers
  pub code : m.metadata.response_code ≡ remaining_code m.edns a.code
