-- What the holders of keys may change (RFC 2136 section 3.3).
use Rattle.std.specs.Prelude.{ℕ, ◌==◌, ◌&&◌, ◌||◌, if◌then◌else◌, Bool, List, length}
use Rattle.std.specs.List.{list_all, list_any}
use Rattle.std.specs.Str.{bytes_eq}
use Rattle.dns_wire.specs.codes.RecordType.{type_number}
use Rattle.dns_wire.specs.declared.codes.record_type.RecordType.{RecordType}
use Rattle.dns_wire.specs.declared.codes.record_type.RecordType.TheVariants as types
use Rattle.dns_names.specs.Compare.{at_or_below}
use Rattle.dns_records.specs.Record.{Record}
use Rattle.dns_records.specs.Rows.{type_of_record}
use Rattle.dns_messages.specs.declared.message.Message.{Message}
use Rattle.dns_updates.specs.Records.{is_of_type}
use Rattle.dns_keys.specs.declared.grants.grant.Grant.{Grant}

-- whether types have a type
abbrev pub has_type : List RecordType → ℕ → Bool
has_type of number = list_any (λ t. type_number t == number) of

-- whether types have a type, or are all types
abbrev pub allows_type : List RecordType → ℕ → Bool
allows_type of number = length of == 0 || has_type of number

-- whether a grant gives a key sets at a name: those at or below its own
abbrev pub is_within : List ℕ → List (List ℕ) → Grant → Bool
is_within key owner grant = bytes_eq grant.key.items key && at_or_below grant.subtree.labels owner

-- whether a grant gives a key the sets of a type at a name
abbrev pub is_granted : List ℕ → List (List ℕ) → ℕ → Grant → Bool
is_granted key owner number grant =
    is_within key owner grant && allows_type grant.types.items number

-- whether a grant gives a key all sets of a name
abbrev pub is_granted_name : List ℕ → List (List ℕ) → Grant → Bool
is_granted_name key owner grant =
    is_within key owner grant && length grant.types.items == 0

-- whether the holders of a key may change the sets of a type at a name
abbrev pub may_change : List Grant → List ℕ → List (List ℕ) → ℕ → Bool
may_change grants key owner number = list_any (is_granted key owner number) grants

-- whether the holders of a key may change all sets of a name
abbrev pub may_change_name : List Grant → List ℕ → List (List ℕ) → Bool
may_change_name grants key owner = list_any (is_granted_name key owner) grants

-- Whether a record of an update is permitted. One of the type ANY deletes all sets of a name (RFC 2136 section 2.5.3).
abbrev pub permits_record : List Grant → List ℕ → Record → Bool
permits_record grants key r =
    if is_of_type types.ANY r then may_change_name grants key r.name.labels
    else may_change grants key r.name.labels (type_number (type_of_record r))

-- whether each record of an update is permitted
abbrev pub permits : List Grant → List ℕ → Message → Bool
permits grants key m = list_all (permits_record grants key) m.authorities
