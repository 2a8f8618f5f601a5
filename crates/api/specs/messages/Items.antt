-- The prerequisites and changes of an update, by number (RFC 2136 sections 2.4 and 2.5).
use Rattle.std.specs.Prelude.{◌==◌, if◌then◌else◌, ℕ, Option, Some, None}
use Rattle.dns_wire.specs.declared.codes.dns_class.DNSClass.TheVariants as classes
use Rattle.dns_wire.specs.declared.codes.record_type.RecordType.{RecordType}
use Rattle.dns_wire.specs.declared.codes.record_type.RecordType.TheVariants as types
use Rattle.dns_data.specs.declared.rdata.RData.{RData}
use Rattle.dns_names.specs.Name.{DomainName}
use Rattle.dns_updates.specs.Builders.{empty_record}
use Rattle.dns_updates.specs.builder.Builder.{data_record, with_change, with_prerequisite}
use Rattle.dns_updates.specs.builder.Parts.{UpdateParts}
use Rattle.api.specs.declared.messages.item.EmptyItem.{EmptyItem}
use Rattle.api.specs.declared.messages.item.EmptyItem.TheVariants.{RequireName, ForbidName, RequireSet, ForbidSet, DeleteSet, DeleteName}
use Rattle.api.specs.declared.messages.item.FilledItem.{FilledItem}
use Rattle.api.specs.declared.messages.item.FilledItem.TheVariants.{RequireRecord, AddRecord, DeleteRecord}
use Rattle.api.specs.declared.messages.item.Item.{Item}
use Rattle.api.specs.declared.messages.item.Item.TheVariants.{Empty, Filled}

-- the item with a number: the last digit is that of its section in RFC 2136, and changes, those of section 2.5, have a 1 before it
abbrev pub item_of : ℕ → Option Item
item_of number =
    if number == 1 then Some (Empty RequireSet)
    else if number == 2 then Some (Filled RequireRecord)
    else if number == 3 then Some (Empty ForbidSet)
    else if number == 4 then Some (Empty RequireName)
    else if number == 5 then Some (Empty ForbidName)
    else if number == 11 then Some (Filled AddRecord)
    else if number == 12 then Some (Empty DeleteSet)
    else if number == 13 then Some (Empty DeleteName)
    else if number == 14 then Some (Filled DeleteRecord)
    else None

-- an update with one more prerequisite or change, which has no data (RFC 2136 sections 2.4 and 2.5)
abbrev pub with_empty : EmptyItem → DomainName → RecordType → UpdateParts → UpdateParts
with_empty RequireSet name kind parts = with_prerequisite (empty_record classes.ANY name kind) parts
with_empty ForbidSet name kind parts = with_prerequisite (empty_record classes.NONE name kind) parts
with_empty RequireName name kind parts = with_prerequisite (empty_record classes.ANY name types.ANY) parts
with_empty ForbidName name kind parts = with_prerequisite (empty_record classes.NONE name types.ANY) parts
with_empty DeleteSet name kind parts = with_change (empty_record classes.ANY name kind) parts
with_empty DeleteName name kind parts = with_change (empty_record classes.ANY name types.ANY) parts

-- an update with one more prerequisite or change, which has data
abbrev pub with_filled : FilledItem → DomainName → ℕ → RData → UpdateParts → UpdateParts
with_filled RequireRecord name ttl d parts = with_prerequisite (data_record parts.dns_class name 0 d) parts
with_filled AddRecord name ttl d parts = with_change (data_record parts.dns_class name ttl d) parts
with_filled DeleteRecord name ttl d parts = with_change (data_record classes.NONE name 0 d) parts
