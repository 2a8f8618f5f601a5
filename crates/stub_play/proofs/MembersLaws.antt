-- The text and the object of an event, by the members of the object.
use Rattle.std.proofs.Common.{◌≡◌, ◌∙◌, ◌++◌, ℕ, List, [], ◌∷◌, suc, length, map, flat_map, codes, Ok, Err, refl, ap, sym, append-nil, append_assoc}
use Rattle.std.specs.Fmt.{decimal}
use Rattle.dns_names.specs.Print.{text_of_name}
use Rattle.dns_records.specs.Record.{Record}
use Rattle.dns_zone_file.specs.record_texts.RecordText.{type_as_read}
use Rattle.dns_zone_file.specs.declared.types.Types.{Types}
use Rattle.stub_run.specs.declared.event.Action.{Action}
use Rattle.stub_run.specs.declared.event.Action.TheVariants as actions
use Rattle.stub_run.specs.declared.event.Event.{Event}
use Rattle.stub_run.specs.declared.report.EventReply.{EventReply}
use Rattle.stub_run.specs.declared.report.EventReply.TheVariants as replies
use Rattle.stub_run.specs.declared.report.EventReport.{EventReport}
use Rattle.stub_play.specs.report.ReportJson.{event_host, event_name, event_type, event_word, json_counts, json_event, json_found, json_line, json_records, other_record, reply_code, reply_error, text_or_null}
use Rattle.stub_play.specs.report.ReportMembers.{RecordMembers, after_blank, members_of, object_of, objects_or_null, record_line, record_members, record_object, record_objects, reply_members, result_text, text_of}
use Rattle.stub_play.specs.report.ReportText.{action_text, plain_text, record_text, reply_text}

-- ---- the text

action_is : (types : Types) (action : Action)
    → action_text types action
    ≡ 32 ∷ event_word action ++ (after_blank (event_name action) ++ (after_blank (event_type types action) ++ after_blank (event_host action)))
action_is types (actions.Lookup name kind) =
    ap (λ (t : List ℕ). codes " lookup " ++ (text_of_name name ++ (32 ∷ t))) (sym (append-nil (type_as_read types kind)))
action_is types (actions.LookupIp host) = refl
action_is types (actions.Clear name kind) =
    ap (λ (t : List ℕ). codes " clear " ++ (text_of_name name ++ (32 ∷ t))) (sym (append-nil (type_as_read types kind)))
action_is types actions.ClearAll = refl
action_is types (actions.Update update) = refl

same_len : (types : Types) (records : List Record) → length records ≡ length (map (record_members types) records)
same_len types [] = refl
same_len types (r ∷ records) = ap suc (same_len types records)

records_are : (types : Types) (records : List Record) → flat_map (record_text types) records ≡ flat_map record_line (map (record_members types) records)
records_are types [] = refl
records_are types (r ∷ records) = ap (λ (x : List ℕ). record_text types r ++ x) (records_are types records)

answers_are : (types : Types) (records : List Record)
    → (decimal (length records) ++ (codes " records" ++ 10 ∷ [])) ++ flat_map (record_text types) records
    ≡ (decimal (length (map (record_members types) records)) ++ (codes " records" ++ 10 ∷ [])) ++ flat_map record_line (map (record_members types) records)
answers_are types records =
    ap (λ (n : ℕ). (decimal n ++ (codes " records" ++ 10 ∷ [])) ++ flat_map (record_text types) records) (same_len types records)
    ∙ ap (λ (x : List ℕ). (decimal (length (map (record_members types) records)) ++ (codes " records" ++ 10 ∷ [])) ++ x) (records_are types records)

reply_is : (types : Types) (e : Event) (reply : EventReply)
    → reply_text types reply ≡ result_text (members_of types e reply).records (members_of types e reply).error (members_of types e reply).code
reply_is types e (replies.Lookup (Ok lookup)) = ap (λ (x : List ℕ). codes ": " ++ x) (answers_are types lookup.message.answers)
reply_is types e (replies.Lookup (Err error)) = refl
reply_is types e (replies.LookupIp (Ok lookup)) = ap (λ (x : List ℕ). codes ": " ++ x) (answers_are types lookup.message.answers)
reply_is types e (replies.LookupIp (Err error)) = refl
reply_is types e (replies.Cleared (Ok done)) = refl
reply_is types e (replies.Cleared (Err error)) = refl
reply_is types e (replies.Update (Ok code)) = refl
reply_is types e (replies.Update (Err error)) = refl

pub text_is : (types : Types) (e : Event) (reply : EventReply) → plain_text types e reply ≡ text_of (members_of types e reply)
text_is types e reply =
    ap (λ (x : List ℕ). (decimal e.at ++ x) ++ reply_text types reply) (action_is types e.action)
    ∙ ap (λ (x : List ℕ). (decimal e.at ++ (32 ∷ event_word e.action ++ (after_blank (event_name e.action)
    ++ (after_blank (event_type types e.action) ++ after_blank (event_host e.action))))) ++ x) (reply_is types e reply)

-- ---- the object

others_are : (types : Types) (records : List Record)
    → flat_map (other_record types) records ≡ flat_map (λ (r : RecordMembers). codes "," ++ record_object r) (map (record_members types) records)
others_are types [] = refl
others_are types (r ∷ records) = ap (λ (x : List ℕ). other_record types r ++ x) (others_are types records)

array_is : (types : Types) (records : List Record) → json_records types records ≡ record_objects (map (record_members types) records)
array_is types [] = refl
array_is types (r ∷ records) = ap (λ (x : List ℕ). record_object (record_members types r) ++ x) (others_are types records)

pub found_is : (types : Types) (reply : EventReply) → json_found types reply ≡ objects_or_null (reply_members types reply)
found_is types (replies.Lookup (Ok lookup)) = ap (λ (x : List ℕ). codes "[" ++ (x ++ codes "]")) (array_is types lookup.message.answers)
found_is types (replies.Lookup (Err error)) = refl
found_is types (replies.LookupIp (Ok lookup)) = ap (λ (x : List ℕ). codes "[" ++ (x ++ codes "]")) (array_is types lookup.message.answers)
found_is types (replies.LookupIp (Err error)) = refl
found_is types (replies.Cleared outcome) = refl
found_is types (replies.Update outcome) = refl

abbrev reply_front : EventReply → List ℕ
reply_front reply = codes ",\"code\":" ++ (text_or_null (reply_code reply) ++ (codes ",\"error\":" ++ (text_or_null (reply_error reply) ++ codes ",\"records\":")))

pub object_is : (types : Types) (e : Event) (report : EventReport)
    → json_line types e report ≡ object_of (members_of types e report.reply) ++ json_counts report
object_is types e report =
    ap (λ (x : List ℕ). json_event types e ++ ((reply_front report.reply ++ x) ++ json_counts report)) (found_is types report.reply)
    ∙ sym (append_assoc (json_event types e) (reply_front report.reply ++ objects_or_null (reply_members types report.reply)) (json_counts report))
