-- The reply to a request (RFC 1035 section 4.1, RFC 6891 sections 6.1.3 and 7).
use Rattle.std.specs.Prelude.{nat_lt, if◌then◌else◌, List, [], ◌∷◌, Option, None, option_map}
use Rattle.dns_messages.specs.declared.op_code.OpCode.{OpCode}
use Rattle.dns_messages.specs.declared.op_code.OpCode.TheVariants as ops
use Rattle.dns_messages.specs.declared.response_code.ResponseCode.{ResponseCode}
use Rattle.dns_messages.specs.declared.response_code.ResponseCode.TheVariants.{BADVERS, FormErr, NotImp}
use Rattle.dns_messages.specs.declared.header.Metadata.{Metadata}
use Rattle.dns_messages.specs.declared.edns.Edns.{Edns}
use Rattle.dns_messages.specs.declared.query.Query.{Query}
use Rattle.dns_messages.specs.declared.message.Message.{Message}
use Rattle.dns_messages.specs.Cut.{with_code}
use Rattle.dns_messages.specs.Header.{response_metadata}
use Rattle.dns_messages.specs.Message.{version_of}
use Rattle.dns_zone.specs.Request.{repeated_queries}
use Rattle.dns_zone.specs.Rows.{ZoneContent}
use Rattle.dns_zone.specs.Serving.{reply_edns}
use Rattle.dns_authority.specs.declared.answer.AuthorityAnswer.{AuthorityAnswer}
use Rattle.dns_authority.specs.declared.asked.AnyAnswer.{AnyAnswer}
use Rattle.dns_authority.specs.Additional.{with_additionals}
use Rattle.dns_authority.specs.Answer.{bare_answer}
use Rattle.dns_authority.specs.Step.{refusal}

-- ---- answers

-- the answer to the question of a query without its additional section; a query is malformed unless it has exactly one question
abbrev pub bare_answer_to_queries : AnyAnswer → List ZoneContent → List Query → AuthorityAnswer
bare_answer_to_queries any zones (q ∷ []) = bare_answer any zones q
bare_answer_to_queries any zones queries = refusal FormErr

-- the answer to a request with an opcode without its additional section: to others than queries it is NotImp
abbrev pub bare_answer_by_code : AnyAnswer → List ZoneContent → List Query → OpCode → AuthorityAnswer
bare_answer_by_code any zones queries ops.Query = bare_answer_to_queries any zones queries
bare_answer_by_code any zones queries other = refusal NotImp

-- the answer to a request without its additional section: BADVERS if its version of EDNS is above 0 (RFC 6891 section 6.1.3)
abbrev pub bare_answer_to : AnyAnswer → List ZoneContent → Message → AuthorityAnswer
bare_answer_to any zones m =
    if nat_lt 0 (version_of m.edns) then refusal BADVERS
    else bare_answer_by_code any zones m.queries m.metadata.op_code

-- the answer to a request
abbrev pub answer_to : AnyAnswer → List ZoneContent → Message → AuthorityAnswer
answer_to any zones m = with_additionals zones (bare_answer_to any zones m)

-- ---- replies

-- the header of a reply: the id, the opcode, RD and CD are the request's, AA and the code those of the answer
abbrev pub metadata_with : Metadata → AuthorityAnswer → Metadata
metadata_with request a = record (response_metadata request) { authoritative = a.authoritative; response_code = a.code }

-- A reply has an OPT record exactly if the request has one, with the upper bits of the code (RFC 6891 sections 6.1.3 and 7).
abbrev pub edns_with : ResponseCode → Option Edns → Option Edns
edns_with code edns = option_map {T = Edns} {U = Edns} (with_code code) (reply_edns edns)

-- the reply to a request with an answer: it repeats the question of a query that has exactly one
abbrev pub reply_with : Message → AuthorityAnswer → Message
reply_with m a = record {
  metadata = metadata_with m.metadata a;
  queries = repeated_queries m;
  answers = a.answers;
  authorities = a.authorities;
  additionals = a.additionals;
  edns = edns_with a.code m.edns;
  signature = None;
}

-- the whole reply to a request
abbrev pub reply : AnyAnswer → List ZoneContent → Message → Message
reply any zones m = reply_with m (answer_to any zones m)
