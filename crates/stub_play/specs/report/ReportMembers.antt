-- What the object of an event says, and that its text says no more.
use Rattle.std.specs.Prelude.{ℕ, List, [], ◌∷◌, ◌++◌, length, map, flat_map, codes, Option, Some, None, Result, Ok, Err}
use Rattle.std.specs.Fmt.{decimal}
use Rattle.dns_log.specs.Json.{json_text}
use Rattle.dns_data.specs.rdata.{data_type}
use Rattle.dns_records.specs.Record.{Record}
use Rattle.dns_zone_file.specs.record_texts.RecordText.{data_as_read, owner_text, type_as_read}
use Rattle.dns_zone_file.specs.declared.types.Types.{Types}
use Rattle.stub_lookup.specs.Lookup.{LookupContent}
use Rattle.stub_lookup.specs.declared.error.NetError.{NetError}
use Rattle.stub_run.specs.declared.event.Event.{Event}
use Rattle.stub_run.specs.declared.report.EventReply.{EventReply}
use Rattle.stub_run.specs.declared.report.EventReply.TheVariants as replies
use Rattle.stub_play.specs.report.ReportJson.{event_host, event_name, event_type, event_word, reply_code, reply_error, text_or_null}

-- ---- members

-- the members of the object of a record
pub record RecordMembers : Type 0 where
  pub name : List ℕ
  pub ttl : ℕ
  pub kind : List ℕ
  pub rdata : List ℕ

-- the members of the object of an event, but for its counts
pub record Members : Type 0 where
  pub moment : ℕ
  pub word : List ℕ
  pub name : Option (List ℕ)
  pub kind : Option (List ℕ)
  pub host : Option (List ℕ)
  pub code : Option (List ℕ)
  pub error : Option (List ℕ)
  pub records : Option (List RecordMembers)

-- those of a record
abbrev pub record_members : Types → Record → RecordMembers
record_members types r = record {
  name = owner_text r.name;
  ttl = r.ttl;
  kind = type_as_read types (data_type r.rdata);
  rdata = data_as_read types r.rdata;
}

-- those of the records that a lookup found
abbrev pub outcome_members : Types → Result LookupContent NetError → Option (List RecordMembers)
outcome_members types (Ok lookup) = Some (map (record_members types) lookup.message.answers)
outcome_members types (Err error) = None

-- those of the records of a reply
abbrev pub reply_members : Types → EventReply → Option (List RecordMembers)
reply_members types (replies.Lookup outcome) = outcome_members types outcome
reply_members types (replies.LookupIp outcome) = outcome_members types outcome
reply_members types (replies.Cleared outcome) = None
reply_members types (replies.Update outcome) = None

-- those of an event with its reply
abbrev pub members_of : Types → Event → EventReply → Members
members_of types e reply = record {
  moment = e.at;
  word = event_word e.action;
  name = event_name e.action;
  kind = event_type types e.action;
  host = event_host e.action;
  code = reply_code reply;
  error = reply_error reply;
  records = reply_members types reply;
}

-- ---- the object

-- the object of a record
abbrev pub record_object : RecordMembers → List ℕ
record_object m =
    (codes "{\"name\":" ++ (json_text m.name ++ (codes ",\"ttl\":" ++ (decimal m.ttl ++ codes ",\"class\":\"IN\""))))
    ++ (codes ",\"type\":" ++ (json_text m.kind ++ (codes ",\"data\":" ++ (json_text m.rdata ++ codes "}"))))

-- objects with commas between them
abbrev pub record_objects : List RecordMembers → List ℕ
record_objects [] = []
record_objects (m ∷ more) = record_object m ++ flat_map (λ (r : RecordMembers). codes "," ++ record_object r) more

-- an array of objects, or `null`
abbrev pub objects_or_null : Option (List RecordMembers) → List ℕ
objects_or_null None = codes "null"
objects_or_null (Some records) = codes "[" ++ (record_objects records ++ codes "]")

-- the object of an event, up to its counts
abbrev pub object_of : Members → List ℕ
object_of m =
    (codes "{\"moment\":" ++ (decimal m.moment ++ (codes ",\"event\":\"" ++ (m.word ++ (codes "\",\"name\":" ++ (text_or_null m.name
    ++ (codes ",\"type\":" ++ (text_or_null m.kind ++ (codes ",\"host\":" ++ text_or_null m.host)))))))))
    ++ ((codes ",\"code\":" ++ (text_or_null m.code ++ (codes ",\"error\":" ++ (text_or_null m.error ++ codes ",\"records\":")))) ++ objects_or_null m.records)

-- ---- the text

-- a word after a blank
abbrev pub after_blank : Option (List ℕ) → List ℕ
after_blank None = []
after_blank (Some word) = 32 ∷ word

-- a record on a line of its own
abbrev pub record_line : RecordMembers → List ℕ
record_line m =
    codes "  " ++ (m.name ++ (codes " " ++ (decimal m.ttl ++ (codes " IN " ++ (m.kind ++ (codes " " ++ (m.rdata ++ 10 ∷ [])))))))

-- what an event led to: records, a reason, a code, or nothing
abbrev pub result_text : Option (List RecordMembers) → Option (List ℕ) → Option (List ℕ) → List ℕ
result_text (Some records) error code =
    codes ": " ++ ((decimal (length records) ++ (codes " records" ++ 10 ∷ [])) ++ flat_map record_line records)
result_text None (Some error) code = codes ": " ++ (error ++ 10 ∷ [])
result_text None None (Some code) = codes ": " ++ (code ++ 10 ∷ [])
result_text None None None = 10 ∷ []

-- the text of an event, by the members of its object alone
abbrev pub text_of : Members → List ℕ
text_of m =
    (decimal m.moment ++ (32 ∷ m.word ++ (after_blank m.name ++ (after_blank m.kind ++ after_blank m.host))))
    ++ result_text m.records m.error m.code
