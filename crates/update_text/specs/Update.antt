-- The words of an update (RFC 2136 section 2):
-- `create <name> <ttl> <type> <data>` and `append` alike, `swap <name> <ttl> <type> <data> -> <data>`,
-- `delete-record <name> <type> <data>`, `delete-set <name> <type>`, `delete-name <name>`.
-- The zone's origin completes names; the owner of an update is at or below it. The types are those that zone files may have.
use Rattle.std.specs.Prelude.{◌≡◌, ◌==◌, ◌+◌, ◌-◌, if◌then◌else◌, false, List, [], ◌∷◌, ℕ, map, take, drop, length, codes, Option, Some, None, option_map, Result, Ok, Err}
use Rattle.std.specs.List.{position}
use Rattle.std.specs.Str.{bytes_eq}
use Rattle.dns_wire.specs.codes.Decimal.{decimal_up_to}
use Rattle.dns_wire.specs.declared.codes.dns_class.DNSClass.TheVariants.{IN}
use Rattle.dns_wire.specs.declared.codes.record_type.RecordType.{RecordType}
use Rattle.dns_names.specs.Build.{parse_name}
use Rattle.dns_names.specs.Compare.{at_or_below}
use Rattle.dns_names.specs.Name.{DomainName}
use Rattle.dns_names.specs.declared.error.ParseError.{ParseError}
use Rattle.dns_text.specs.Lexer.{Lexeme, QuotedString, word_token}
use Rattle.dns_data.specs.declared.rdata.RData.{RData}
use Rattle.dns_data.specs.declared.rdata.RData.TheVariants as of
use Rattle.dns_data.specs.rdata.{data_type}
use Rattle.dns_zone_file.specs.Data.{ReadsIn, RefusesIn}
use Rattle.dns_zone_file.specs.declared.error.EntryFault.{EntryFault}
use Rattle.dns_zone_file.specs.declared.types.Types.{Types}
use Rattle.dns_records.specs.Record.{Record}
use Rattle.dns_records.specs.RecordSet.{RecordSetValue}
use Rattle.dns_messages.specs.declared.message.Message.{Message}
use Rattle.dns_updates.specs.Builders.{append_message, compare_and_swap_message, create_message, delete_all_message, delete_by_rdata_message, delete_rrset_message}
use Rattle.stub_link.specs.Request.{IsUpdate}
use Rattle.update_text.specs.TypeWord.{type_named}
use Rattle.update_text.specs.Words.{AreWords}
use Rattle.update_text.specs.declared.update.action.Action.{Action}
use Rattle.update_text.specs.declared.update.action.Action.TheVariants.{Create, Append, Swap, DeleteRecord, DeleteSet, DeleteName}

-- the origin of the zone of an update, the id of its message, and the types that its data may have
pub record UpdateContext : Type 0 where
  pub origin : DomainName
  pub id : ℕ
  pub types : Types

-- ---- fields

-- a TTL in seconds: digits
abbrev pub ttl_of : List ℕ → Option ℕ
ttl_of text = decimal_up_to 4294967295 text

-- a name, if it is at or below the origin
abbrev pub owner_if : DomainName → Result DomainName ParseError → Option DomainName
owner_if origin (Ok name) = if at_or_below origin.labels name.labels then Some name else None
owner_if origin (Err error) = None

-- the owner of an update
abbrev pub owner_of : DomainName → List ℕ → Option DomainName
owner_of origin text = owner_if origin (parse_name text (Some origin))

-- a word as a token of record data: a quoted string without its quotes, `@`, or a word
abbrev pub word_lexeme : List ℕ → Lexeme
word_lexeme [] = word_token false []
word_lexeme (c ∷ cs) = if c == 34 then QuotedString (take (length cs - 1) cs) else word_token false (c ∷ cs)

-- ---- the words of a record

-- a TTL, a type, and the words of data
pub record RecordText : Type 0 where
  pub ttl : ℕ
  pub kind : RecordType
  pub rdata : List (List ℕ)

-- the same, if there is a TTL and a type
abbrev pub text_if : Option ℕ → Option RecordType → List (List ℕ) → Option RecordText
text_if (Some ttl) (Some kind) rdata = Some (record { ttl = ttl; kind = kind; rdata = rdata })
text_if ttl kind rdata = None

-- `<ttl> <type> <data>`
abbrev pub text_with_ttl : Types → List (List ℕ) → Option RecordText
text_with_ttl types (ttl ∷ kind ∷ rdata) = text_if (ttl_of ttl) (type_named types kind) rdata
text_with_ttl types arguments = None

-- `<type> <data>`
abbrev pub text_without_ttl : Types → List (List ℕ) → Option RecordText
text_without_ttl types (kind ∷ rdata) = text_if (Some 0) (type_named types kind) rdata
text_without_ttl types arguments = None

-- the place of the first word `->`; in a quoted string it is data
abbrev pub arrow_of : List (List ℕ) → Option ℕ
arrow_of words = position (λ (word : List ℕ). bytes_eq word (codes "->")) words

-- the data before an arrow, which has no TTL of its own
abbrev pub text_before : ℕ → RecordText → RecordText
text_before arrow text = record { ttl = 0; kind = text.kind; rdata = take arrow text.rdata }

-- the data after an arrow
abbrev pub text_after : ℕ → RecordText → RecordText
text_after arrow text = record { ttl = text.ttl; kind = text.kind; rdata = drop (arrow + 1) text.rdata }

-- the data that the words of a record are, or none if they are not such data
abbrev pub IsData : UpdateContext → RecordText → Option RData → Type 0
IsData context text (Some d) = ReadsIn context.types context.origin text.kind (map word_lexeme text.rdata) d
IsData context text None =
    (fault : EntryFault) × RefusesIn context.types context.origin text.kind (map word_lexeme text.rdata) fault

-- ---- sets of one record

-- a record of class IN
abbrev pub record_of : DomainName → ℕ → RData → Record
record_of owner ttl d = record { name = owner; dns_class = IN; ttl = ttl; rdata = d }

-- a set of one record of class IN
abbrev pub set_of : DomainName → ℕ → RData → RecordSetValue
set_of owner ttl d = record {
  name = owner;
  record_type = data_type d;
  dns_class = IN;
  ttl = ttl;
  serial = 0;
  records = record_of owner ttl d ∷ [];
}

-- the set of one record that the words are, or none
abbrev pub IsSet : UpdateContext → DomainName → RecordText → Option RecordSetValue → Type 0
IsSet context owner text set = (d : Option RData) × IsData context text d × (set ≡ option_map (set_of owner text.ttl) d)

-- the same, if there are such words
abbrev pub IsSetIf : UpdateContext → DomainName → Option RecordText → Option RecordSetValue → Type 0
IsSetIf context owner (Some text) set = IsSet context owner text set
IsSetIf context owner None set = set ≡ None

-- `<ttl> <type> <data>`
abbrev pub IsSetWithTtl : UpdateContext → DomainName → List (List ℕ) → Option RecordSetValue → Type 0
IsSetWithTtl context owner arguments set = IsSetIf context owner (text_with_ttl context.types arguments) set

-- `<type> <data>`
abbrev pub IsSetWithoutTtl : UpdateContext → DomainName → List (List ℕ) → Option RecordSetValue → Type 0
IsSetWithoutTtl context owner arguments set = IsSetIf context owner (text_without_ttl context.types arguments) set

-- ---- swaps

-- the new set, after the current one
abbrev pub IsSwapTo : UpdateContext → DomainName → Option RecordSetValue → RecordText → Option Message → Type 0
IsSwapTo context owner None after found = found ≡ None
IsSwapTo context owner (Some current) after found =
    (new : Option RecordSetValue) × IsSet context owner after new
    × (found ≡ option_map (λ (s : RecordSetValue). compare_and_swap_message context.id current s context.origin false) new)

-- the current data, and the new data
abbrev pub IsSwapBetween : UpdateContext → DomainName → RecordText → RecordText → Option Message → Type 0
IsSwapBetween context owner before after found =
    (current : Option RecordSetValue) × IsSet context owner before current × IsSwapTo context owner current after found

-- the words before the arrow are the current data, and those after it the new data
abbrev pub IsSwapAt : UpdateContext → DomainName → Option ℕ → RecordText → Option Message → Type 0
IsSwapAt context owner (Some arrow) text found = IsSwapBetween context owner (text_before arrow text) (text_after arrow text) found
IsSwapAt context owner None text found = found ≡ None

-- the same, if there is a TTL and a type
abbrev pub IsSwapIf : UpdateContext → DomainName → Option RecordText → Option Message → Type 0
IsSwapIf context owner (Some text) found = IsSwapAt context owner (arrow_of text.rdata) text found
IsSwapIf context owner None found = found ≡ None

-- ---- actions

-- the action that a word names
abbrev pub action_of : List ℕ → Option Action
action_of word =
    if bytes_eq word (codes "create") then Some Create
    else if bytes_eq word (codes "append") then Some Append
    else if bytes_eq word (codes "swap") then Some Swap
    else if bytes_eq word (codes "delete-record") then Some DeleteRecord
    else if bytes_eq word (codes "delete-set") then Some DeleteSet
    else if bytes_eq word (codes "delete-name") then Some DeleteName
    else None

-- `create`: the zone must not have the set yet (RFC 2136 section 2.4.3)
abbrev pub IsCreate : UpdateContext → DomainName → List (List ℕ) → Option Message → Type 0
IsCreate context owner arguments found =
    (set : Option RecordSetValue) × IsSetWithTtl context owner arguments set
    × (found ≡ option_map (λ (s : RecordSetValue). create_message context.id s context.origin false) set)

-- `append`: the record is added to the set, which need not exist (RFC 2136 section 2.5.1)
abbrev pub IsAppend : UpdateContext → DomainName → List (List ℕ) → Option Message → Type 0
IsAppend context owner arguments found =
    (set : Option RecordSetValue) × IsSetWithTtl context owner arguments set
    × (found ≡ option_map (λ (s : RecordSetValue). append_message context.id s context.origin false false) set)

-- `swap`: current data, which must be exactly that of the set (RFC 2136 section 2.4.2), and new data
abbrev pub IsSwap : UpdateContext → DomainName → List (List ℕ) → Option Message → Type 0
IsSwap context owner arguments found = IsSwapIf context owner (text_with_ttl context.types arguments) found

-- `delete-record`: the record is deleted (RFC 2136 section 2.5.4)
abbrev pub IsDeleteRecord : UpdateContext → DomainName → List (List ℕ) → Option Message → Type 0
IsDeleteRecord context owner arguments found =
    (set : Option RecordSetValue) × IsSetWithoutTtl context owner arguments set
    × (found ≡ option_map (λ (s : RecordSetValue). delete_by_rdata_message context.id s context.origin false) set)

-- a type alone
abbrev pub only_type : Types → List (List ℕ) → Option RecordType
only_type types (kind ∷ []) = type_named types kind
only_type types arguments = None

-- `delete-set`: all records of the type are deleted (RFC 2136 section 2.5.2)
abbrev pub delete_set : UpdateContext → DomainName → List (List ℕ) → Option Message
delete_set context owner arguments =
    option_map (λ (t : RecordType). delete_rrset_message context.id (record_of owner 0 (of.Update0 t)) context.origin false)
    (only_type context.types arguments)

-- `delete-name`: all records of the name are deleted (RFC 2136 section 2.5.3)
abbrev pub delete_name : UpdateContext → DomainName → List (List ℕ) → Option Message
delete_name context owner [] = Some (delete_all_message context.id owner context.origin IN false)
delete_name context owner arguments = None

-- the message of an action on an owner
abbrev pub IsAction : UpdateContext → Option Action → Option DomainName → List (List ℕ) → Option Message → Type 0
IsAction context (Some Create) (Some owner) arguments found = IsCreate context owner arguments found
IsAction context (Some Append) (Some owner) arguments found = IsAppend context owner arguments found
IsAction context (Some Swap) (Some owner) arguments found = IsSwap context owner arguments found
IsAction context (Some DeleteRecord) (Some owner) arguments found = IsDeleteRecord context owner arguments found
IsAction context (Some DeleteSet) (Some owner) arguments found = found ≡ delete_set context owner arguments
IsAction context (Some DeleteName) (Some owner) arguments found = found ≡ delete_name context owner arguments
IsAction context action owner arguments found = found ≡ None

-- the message of an action, an owner, and what follows them
abbrev pub IsMessage : UpdateContext → List (List ℕ) → Option Message → Type 0
IsMessage context (action ∷ owner ∷ arguments) found =
    IsAction context (action_of action) (owner_of context.origin owner) arguments found
IsMessage context arguments found = found ≡ None

-- ---- updates

-- the message, if it is an update that can be sent
abbrev pub IsSendable : Option Message → Option Message → Type 0
IsSendable (Some message) (Some update) = (update ≡ message) × IsUpdate message
IsSendable (Some message) None = ¬ IsUpdate message
IsSendable None update = update ≡ None

-- the update of words, under an id
abbrev pub IsUpdateOf : Types → DomainName → ℕ → List (List ℕ) → Option Message → Type 0
IsUpdateOf types origin id arguments update =
    (message : Option Message) × IsMessage (record { origin = origin; id = id; types = types }) arguments message
    × IsSendable message update

-- the update of words, if there are any
abbrev pub IsUpdateIf : Types → DomainName → ℕ → Option (List (List ℕ)) → Option Message → Type 0
IsUpdateIf types origin id (Some words) update = IsUpdateOf types origin id words update
IsUpdateIf types origin id None update = update ≡ None

-- the update that a text says, or none if it is not words alone
abbrev pub IsUpdateText : Types → DomainName → ℕ → List ℕ → Option Message → Type 0
IsUpdateText types origin id text update =
    (words : Option (List (List ℕ))) × AreWords text words × IsUpdateIf types origin id words update
