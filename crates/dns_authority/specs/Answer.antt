-- The answer of an authoritative server to a question (RFC 1034 section 4.3.2).
use Rattle.std.specs.Prelude.{◌==◌, ◌&&◌, ◌++◌, true, not, zero, suc, if◌then◌else◌, Bool, List, [], ℕ, Option, Some, None}
use Rattle.dns_wire.specs.codes.RecordType.{type_number}
use Rattle.dns_wire.specs.codes.DNSClass.{class_number}
use Rattle.dns_wire.specs.declared.codes.record_type.RecordType.{RecordType}
use Rattle.dns_names.specs.Name.{DomainName}
use Rattle.dns_messages.specs.declared.query.Query.{Query}
use Rattle.dns_messages.specs.declared.response_code.ResponseCode.TheVariants.{NotImp, Refused}
use Rattle.dns_records.specs.Record.{Record}
use Rattle.dns_zone.specs.Rows.{ZoneContent}
use Rattle.dns_zone.specs.Answer.{is_no_row_type, max_aliases}
use Rattle.dns_authority.specs.declared.answer.AuthorityAnswer.{AuthorityAnswer}
use Rattle.dns_authority.specs.declared.asked.AnyAnswer.{AnyAnswer}
use Rattle.dns_authority.specs.declared.asked.Asked.{Asked}
use Rattle.dns_authority.specs.declared.step.Step.{Step}
use Rattle.dns_authority.specs.declared.step.Step.TheVariants.{End, Links}
use Rattle.dns_authority.specs.Asked.{is_any}
use Rattle.dns_authority.specs.Step.{positive, refusal, step}
use Rattle.dns_authority.specs.Additional.{with_additionals}

-- an answer after aliases: AA is for the owner of the first record (RFC 1035 section 4.1.1)
abbrev pub after_records : List Record → AuthorityAnswer → AuthorityAnswer
after_records records a = record a { answers = records ++ a.answers; authoritative = true }

-- the rest of an answer: at the next name, or nothing if the alias is not followed
abbrev pub rest_at : (DomainName → AuthorityAnswer) → Option DomainName → AuthorityAnswer
rest_at answer_of None = positive []
rest_at answer_of (Some name) = answer_of name

-- the answer after a step, with the rest after aliases
abbrev pub after_step : Step → (List Record → Option DomainName → AuthorityAnswer) → AuthorityAnswer
after_step (End a) rest = a
after_step (Links records next) rest = rest records next

-- the answer at a name, along so many steps over aliases at most; further aliases are left out
unfoldable pub answer_at : ℕ → List ZoneContent → Asked → DomainName → AuthorityAnswer
answer_at zero zones asked owner = after_step (step zones asked owner) (λ records next. positive [])
answer_at (suc links) zones asked owner =
    after_step (step zones asked owner) (λ records next. after_records records (rest_at (answer_at links zones asked) next))

-- whether questions for a type are not answered: no row has it, and it is not ANY (RFC 1035 section 3.2.3, RFC 6895 section 3.1)
abbrev pub is_unanswered : RecordType → Bool
is_unanswered t = not (is_any t) && is_no_row_type (type_number t)

-- the answer to a question without its additional section: the first case that applies
abbrev pub bare_answer : AnyAnswer → List ZoneContent → Query → AuthorityAnswer
bare_answer any zones q =
    if is_unanswered q.query_type then refusal NotImp
    else if not (class_number q.query_class == 1) then refusal Refused
    else answer_at max_aliases zones (record { record_type = q.query_type; any = any }) q.name

-- The answer to a question. The owner of its first record is spelled like the name in the question, and that of each other record
-- like the target of the alias before it.
abbrev pub authority_answer : AnyAnswer → List ZoneContent → Query → AuthorityAnswer
authority_answer any zones q = with_additionals zones (bare_answer any zones q)
