-- The text of the report of an event: what happened, and what it led to.
use Rattle.std.specs.Prelude.{ℕ, List, [], ◌∷◌, ◌++◌, length, flat_map, codes, string_bytes, Result, Ok, Err}
use Rattle.std.specs.Fmt.{decimal}
use Rattle.dns_names.specs.Print.{text_of_name}
use Rattle.dns_zone_file.specs.declared.types.Types.{Types}
use Rattle.dns_data.specs.rdata.{data_type}
use Rattle.dns_messages.specs.ResponseCode.{code_text}
use Rattle.dns_records.specs.Record.{Record}
use Rattle.dns_zone_file.specs.record_texts.RecordText.{data_as_read, owner_text, type_as_read}
use Rattle.stub_run.specs.declared.event.Action.{Action}
use Rattle.stub_run.specs.declared.event.Action.TheVariants as actions
use Rattle.stub_run.specs.declared.event.Event.{Event}
use Rattle.stub_lookup.specs.declared.error.DnsError.TheVariants as dns
use Rattle.stub_lookup.specs.declared.error.NetError.{NetError}
use Rattle.stub_lookup.specs.declared.error.NetError.TheVariants as net
use Rattle.stub_run.specs.declared.report.EventReply.{EventReply}
use Rattle.stub_run.specs.declared.report.EventReply.TheVariants as replies
use Rattle.stub_lookup.specs.Error.{fault_number}
use Rattle.stub_lookup.specs.Lookup.{LookupContent}

-- an action's keyword, and what it is about: a name and a type, a host, or nothing
abbrev pub action_text : Types → Action → List ℕ
action_text types (actions.Lookup name kind) = codes " lookup " ++ (text_of_name name ++ (codes " " ++ type_as_read types kind))
action_text types (actions.LookupIp host) = codes " ip " ++ string_bytes host
action_text types (actions.Clear name kind) = codes " clear " ++ (text_of_name name ++ (codes " " ++ type_as_read types kind))
action_text types actions.ClearAll = codes " clearall"
action_text types (actions.Update update) = codes " update"

-- an event's moment, and what happens
abbrev pub event_text : Types → Event → List ℕ
event_text types e = decimal e.at ++ action_text types e.action

-- a record on a line of its own
abbrev pub record_text : Types → Record → List ℕ
record_text types r =
    codes "  " ++ (owner_text r.name ++ (codes " " ++ (decimal r.ttl ++ (codes " IN " ++ (type_as_read types (data_type r.rdata)
    ++ (codes " " ++ (data_as_read types r.rdata ++ 10 ∷ [])))))))

-- how many records there are, and each of them
abbrev pub answers_text : Types → List Record → List ℕ
answers_text types answers = (decimal (length answers) ++ (codes " records" ++ 10 ∷ [])) ++ flat_map (record_text types) answers

-- why there is no record
abbrev pub reason_text : NetError → List ℕ
reason_text (net.Dns (dns.NoRecordsFound none)) = codes "no records " ++ code_text none.response_code
reason_text (net.Dns (dns.ResponseCode code)) = codes "code " ++ code_text code
reason_text (net.Link fault) = codes "fault F" ++ decimal (fault_number fault)
reason_text net.Memory = codes "no memory"
reason_text (net.Proto error) = codes "refused"
reason_text (net.Message text) = codes "refused"
reason_text net.Unsupported = codes "refused"

-- what a lookup found
abbrev pub outcome_text : Types → Result LookupContent NetError → List ℕ
outcome_text types (Ok lookup) = codes ": " ++ answers_text types lookup.message.answers
outcome_text types (Err error) = codes ": " ++ (reason_text error ++ 10 ∷ [])

-- The reply to an event: what a lookup found, nothing about entries that were removed, or the code of an update.
abbrev pub reply_text : Types → EventReply → List ℕ
reply_text types (replies.Lookup outcome) = outcome_text types outcome
reply_text types (replies.LookupIp outcome) = outcome_text types outcome
reply_text types (replies.Cleared (Ok done)) = 10 ∷ []
reply_text types (replies.Cleared (Err error)) = codes ": " ++ (reason_text error ++ 10 ∷ [])
reply_text types (replies.Update (Ok code)) = codes ": " ++ (code_text code ++ 10 ∷ [])
reply_text types (replies.Update (Err error)) = codes ": " ++ (reason_text error ++ 10 ∷ [])

-- an event and its reply
abbrev pub plain_text : Types → Event → EventReply → List ℕ
plain_text types e reply = event_text types e ++ reply_text types reply
