-- Answers, and what became of updates, as JSON objects on a line (RFC 8259 section 4).
use Rattle.std.specs.Prelude.{List, [], ◌∷◌, ◌++◌, ℕ, Option, Some, None, Result, Ok, Err, codes, option_map, string_bytes}
use Rattle.std.specs.Fmt.{decimal}
use Rattle.dns_log.specs.Json.{json_text}
use Rattle.dns_messages.specs.ResponseCode.{code_text}
use Rattle.dns_messages.specs.declared.response_code.ResponseCode.{ResponseCode}
use Rattle.dns_tsig.specs.declared.signer.refusal.TsigError.{TsigError}
use Rattle.dns_zone_file.specs.record_texts.RecordText.{owner_text}
use Rattle.stub_net.specs.declared.signed.error.UpdateError.{UpdateError}
use Rattle.lookup_cli.specs.answers.Answer.{code_of, records_of}
use Rattle.lookup_cli.specs.answers.GivenText.{given_text}
use Rattle.lookup_cli.specs.answers.Item.{question_text}
use Rattle.lookup_cli.specs.answers.JsonRecords.{json_records}
use Rattle.lookup_cli.specs.answers.Plain.{reason_text}
use Rattle.lookup_cli.specs.answers.Status.{status_of, status_word}
use Rattle.lookup_cli.specs.declared.answers.answer.Answer.{Answer}
use Rattle.lookup_cli.specs.declared.answers.item.Item.{Item}
use Rattle.lookup_cli.specs.declared.answers.item.Question.{Question}
use Rattle.lookup_cli.specs.declared.answers.item.Question.TheVariants.{Unknown}
use Rattle.lookup_cli.specs.declared.answers.json.JsonUpdate.{JsonUpdate}
use Rattle.lookup_cli.specs.declared.answers.status.Status.{Status}
use Rattle.lookup_cli.specs.declared.answers.status.Status.TheVariants.{Found}

-- ---- members

-- a type, or what was given in its place
abbrev pub json_type_of : Question → List ℕ → List ℕ
json_type_of Unknown given = given_text given
json_type_of question given = json_text (question_text question)

-- the type of an item
abbrev pub json_type : Item → List ℕ
json_type item = json_type_of item.question (string_bytes item.type_text)

-- a response code, or `null` (RFC 8259 section 3)
abbrev pub code_or_null : Option ResponseCode → List ℕ
code_or_null None = codes "null"
code_or_null (Some code) = json_text (code_text code)

-- the end of an object and its line: an error, the number of requests, and how long they took
abbrev pub json_end : (questions milliseconds : ℕ) (error : List ℕ) → List ℕ
json_end questions milliseconds error =
    codes ",\"error\":" ++ (error ++ (codes ",\"questions\":" ++ (decimal questions ++ (codes ",\"milliseconds\":" ++ (decimal milliseconds
    ++ (codes "}" ++ 10 ∷ []))))))

-- ---- answers

-- what was looked up, and what that led to
abbrev pub json_asked : Answer → List ℕ
json_asked a =
    codes "{\"name\":" ++ (given_text (string_bytes a.item.name) ++ (codes ",\"type\":" ++ (json_type a.item
    ++ (codes ",\"status\":\"" ++ (status_word (status_of a.outcome) ++ codes "\"")))))

-- the response code and the records
abbrev pub json_found : Answer → List ℕ
json_found a =
    codes ",\"code\":" ++ (code_or_null (code_of a.outcome) ++ (codes ",\"records\":[" ++ (json_records (records_of a.outcome) ++ codes "]")))

-- why an answer of a status has no records, or `null` if it has some
abbrev pub error_by : Status → Option (List ℕ) → Option (List ℕ)
error_by Found reason = Some (codes "null")
error_by status reason = option_map json_text reason

-- why an answer has no records, or `null`; the texts of the errors of other libraries are theirs
abbrev pub answer_error : Answer → Option (List ℕ)
answer_error a = error_by (status_of a.outcome) (reason_text a)

-- an answer with the text of its error
abbrev pub answer_with : Answer → List ℕ → List ℕ
answer_with a error = json_asked a ++ (json_found a ++ json_end a.questions a.milliseconds error)

-- an answer, if the text of its error is stated
abbrev pub json_answer : Answer → Option (List ℕ)
json_answer a = option_map (answer_with a) (answer_error a)

-- ---- updates

-- the response code of a reply, if there is one
abbrev pub reply_code : Result ResponseCode UpdateError → Option ResponseCode
reply_code (Ok code) = Some code
reply_code (Err error) = None

-- `null` if a reply reports no error; the texts of the errors of other libraries are theirs
abbrev pub update_error : Result ResponseCode UpdateError → Option TsigError → Option (List ℕ)
update_error (Ok code) None = Some (codes "null")
update_error (Ok code) (Some report) = None
update_error (Err error) report = None

-- what was sent, and the response code of the reply
abbrev pub json_sent : JsonUpdate → List ℕ
json_sent u =
    codes "{\"update\":" ++ (given_text u.words.now ++ (codes ",\"zone\":" ++ (json_text (owner_text u.zone.now)
    ++ (codes ",\"code\":" ++ code_or_null (reply_code u.outcome.now)))))

-- what became of an update, with the text of its error
abbrev pub update_with : JsonUpdate → List ℕ → List ℕ
update_with u error = json_sent u ++ json_end u.questions u.milliseconds error

-- what became of an update, if the text of its error is stated
abbrev pub json_update : JsonUpdate → Option (List ℕ)
json_update u = option_map (update_with u) (update_error u.outcome.now u.report)
