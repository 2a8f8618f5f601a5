-- The report of an event as a JSON object on a line (RFC 8259 section 4).
use Rattle.std.specs.Prelude.{ℕ, List, [], ◌∷◌, ◌++◌, flat_map, codes, string_bytes, Option, Some, None, Result, Ok, Err}
use Rattle.std.specs.Fmt.{decimal}
use Rattle.dns_log.specs.Json.{json_text}
use Rattle.dns_names.specs.Print.{text_of_name}
use Rattle.dns_data.specs.rdata.{data_type}
use Rattle.dns_messages.specs.ResponseCode.{code_text}
use Rattle.dns_records.specs.Record.{Record}
use Rattle.dns_zone_file.specs.record_texts.RecordText.{data_as_read, owner_text, type_as_read}
use Rattle.dns_zone_file.specs.declared.types.Types.{Types}
use Rattle.stub_lookup.specs.Lookup.{LookupContent}
use Rattle.stub_lookup.specs.declared.error.DnsError.TheVariants as dns
use Rattle.stub_lookup.specs.declared.error.NetError.{NetError}
use Rattle.stub_lookup.specs.declared.error.NetError.TheVariants as net
use Rattle.stub_run.specs.declared.event.Action.{Action}
use Rattle.stub_run.specs.declared.event.Action.TheVariants as actions
use Rattle.stub_run.specs.declared.event.Event.{Event}
use Rattle.stub_run.specs.declared.report.EventReply.{EventReply}
use Rattle.stub_run.specs.declared.report.EventReply.TheVariants as replies
use Rattle.stub_run.specs.declared.report.EventReport.{EventReport}
use Rattle.stub_play.specs.report.ReportText.{reason_text}

-- a string, or `null`
abbrev pub text_or_null : Option (List ℕ) → List ℕ
text_or_null None = codes "null"
text_or_null (Some text) = json_text text

-- ---- events

-- the keyword of an event
abbrev pub event_word : Action → List ℕ
event_word (actions.Lookup name kind) = codes "lookup"
event_word (actions.LookupIp host) = codes "ip"
event_word (actions.Clear name kind) = codes "clear"
event_word actions.ClearAll = codes "clearall"
event_word (actions.Update update) = codes "update"

-- the name that an event is about
abbrev pub event_name : Action → Option (List ℕ)
event_name (actions.Lookup name kind) = Some (text_of_name name)
event_name (actions.LookupIp host) = None
event_name (actions.Clear name kind) = Some (text_of_name name)
event_name actions.ClearAll = None
event_name (actions.Update update) = None

-- the type that an event is about
abbrev pub event_type : Types → Action → Option (List ℕ)
event_type types (actions.Lookup name kind) = Some (type_as_read types kind)
event_type types (actions.LookupIp host) = None
event_type types (actions.Clear name kind) = Some (type_as_read types kind)
event_type types actions.ClearAll = None
event_type types (actions.Update update) = None

-- the host that an event is about
abbrev pub event_host : Action → Option (List ℕ)
event_host (actions.Lookup name kind) = None
event_host (actions.LookupIp host) = Some (string_bytes host)
event_host (actions.Clear name kind) = None
event_host actions.ClearAll = None
event_host (actions.Update update) = None

-- an event's moment, its keyword, and what it is about
abbrev pub json_event : Types → Event → List ℕ
json_event types e =
    codes "{\"moment\":" ++ (decimal e.at ++ (codes ",\"event\":\"" ++ (event_word e.action ++ (codes "\",\"name\":" ++ (text_or_null (event_name e.action)
    ++ (codes ",\"type\":" ++ (text_or_null (event_type types e.action) ++ (codes ",\"host\":" ++ text_or_null (event_host e.action)))))))))

-- ---- replies

-- the response code of an error that has one
abbrev pub error_code : NetError → Option (List ℕ)
error_code (net.Dns (dns.NoRecordsFound none)) = Some (code_text none.response_code)
error_code (net.Dns (dns.ResponseCode code)) = Some (code_text code)
error_code (net.Link fault) = None
error_code net.Memory = None
error_code (net.Proto error) = None
error_code (net.Message text) = None
error_code net.Unsupported = None

-- the response code of an outcome that has one
abbrev pub outcome_code : Result LookupContent NetError → Option (List ℕ)
outcome_code (Ok lookup) = None
outcome_code (Err error) = error_code error

-- the response code of a reply that has one
abbrev pub reply_code : EventReply → Option (List ℕ)
reply_code (replies.Lookup outcome) = outcome_code outcome
reply_code (replies.LookupIp outcome) = outcome_code outcome
reply_code (replies.Cleared (Ok done)) = None
reply_code (replies.Cleared (Err error)) = error_code error
reply_code (replies.Update (Ok code)) = Some (code_text code)
reply_code (replies.Update (Err error)) = error_code error

-- why a lookup found nothing
abbrev pub outcome_error : Result LookupContent NetError → Option (List ℕ)
outcome_error (Ok lookup) = None
outcome_error (Err error) = Some (reason_text error)

-- why an event led to nothing
abbrev pub reply_error : EventReply → Option (List ℕ)
reply_error (replies.Lookup outcome) = outcome_error outcome
reply_error (replies.LookupIp outcome) = outcome_error outcome
reply_error (replies.Cleared (Ok done)) = None
reply_error (replies.Cleared (Err error)) = Some (reason_text error)
reply_error (replies.Update (Ok code)) = None
reply_error (replies.Update (Err error)) = Some (reason_text error)

-- the owner of a record, its TTL and its class
abbrev pub json_owner : Record → List ℕ
json_owner r = codes "{\"name\":" ++ (json_text (owner_text r.name) ++ (codes ",\"ttl\":" ++ (decimal r.ttl ++ codes ",\"class\":\"IN\"")))

-- the type of a record, and its data
abbrev pub json_data : Types → Record → List ℕ
json_data types r =
    codes ",\"type\":" ++ (json_text (type_as_read types (data_type r.rdata)) ++ (codes ",\"data\":" ++ (json_text (data_as_read types r.rdata) ++ codes "}")))

-- a record as an object
abbrev pub json_record : Types → Record → List ℕ
json_record types r = json_owner r ++ json_data types r

-- a record after another
abbrev pub other_record : Types → Record → List ℕ
other_record types r = codes "," ++ json_record types r

-- records, with commas between them
abbrev pub json_records : Types → List Record → List ℕ
json_records types [] = []
json_records types (r ∷ records) = json_record types r ++ flat_map (other_record types) records

-- the records of a lookup as an array
abbrev pub json_array : Types → List Record → List ℕ
json_array types records = codes "[" ++ (json_records types records ++ codes "]")

-- what a lookup found
abbrev pub outcome_records : Types → Result LookupContent NetError → List ℕ
outcome_records types (Ok lookup) = json_array types lookup.message.answers
outcome_records types (Err error) = codes "null"

-- the records of a reply that has some, or `null`
abbrev pub json_found : Types → EventReply → List ℕ
json_found types (replies.Lookup outcome) = outcome_records types outcome
json_found types (replies.LookupIp outcome) = outcome_records types outcome
json_found types (replies.Cleared outcome) = codes "null"
json_found types (replies.Update outcome) = codes "null"

-- the code of a reply, why it has no records, and its records
abbrev pub json_reply : Types → EventReply → List ℕ
json_reply types reply =
    (codes ",\"code\":" ++ (text_or_null (reply_code reply) ++ (codes ",\"error\":" ++ (text_or_null (reply_error reply) ++ codes ",\"records\":"))))
    ++ json_found types reply

-- how many questions were sent during an event, and how many ended in a fault
abbrev pub json_counts : EventReport → List ℕ
json_counts report =
    codes ",\"questions\":" ++ (decimal report.questions ++ (codes ",\"faults\":" ++ (decimal report.faults ++ (codes "}" ++ 10 ∷ []))))

-- ---- lines

-- The report of an event as an object, which always has the same members: `moment`, `event`, `name`, `type`, `host`, `code`, `error`,
-- `records`, `questions` and `faults`. Those that an event has no value for are `null`.
abbrev pub json_line : Types → Event → EventReport → List ℕ
json_line types e report = json_event types e ++ (json_reply types report.reply ++ json_counts report)
