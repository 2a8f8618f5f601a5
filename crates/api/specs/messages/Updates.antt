-- Updates: a zone, prerequisites and changes (RFC 2136 section 2).
use Rattle.std.specs.Prelude.{◌≡◌, ◌<◌, false, IsOk, IsOkAnd, List, ℕ, Option, Some, None, Result, Ok, Err}
use Rattle.api.specs.buffer.Arguments.{name_in}
use Rattle.api.specs.declared.buffer.refusal.Refusal.{Refusal}
use Rattle.api.specs.declared.buffer.refusal.Refusal.TheVariants as refusal
use Rattle.dns_wire.specs.codes.RecordType.{type_of}
use Rattle.dns_wire.specs.declared.codes.dns_class.DNSClass.TheVariants.{IN}
use Rattle.dns_wire.specs.declared.codes.record_type.RecordType.{RecordType}
use Rattle.dns_data.specs.declared.rdata.RData.{RData}
use Rattle.dns_messages.specs.Cut.{uncompressed_len}
use Rattle.dns_messages.specs.Encoding.{Encodes, IsTooLong}
use Rattle.dns_messages.specs.Grammar.{ReadsMessage}
use Rattle.dns_messages.specs.Sound.{IsSound}
use Rattle.dns_messages.specs.declared.message.Message.{Message}
use Rattle.dns_names.specs.Name.{DomainName}
use Rattle.dns_updates.specs.Builders.{update_message}
use Rattle.dns_updates.specs.builder.Builder.{first_parts}
use Rattle.dns_updates.specs.builder.Parts.{UpdateParts}
use Rattle.api.specs.messages.Data.{IsDataText}
use Rattle.api.specs.messages.Data as text
use Rattle.api.specs.messages.Items.{item_of, with_empty, with_filled}
use Rattle.api.specs.messages.Messages.{max_len}
use Rattle.api.specs.declared.messages.item.EmptyItem.{EmptyItem}
use Rattle.api.specs.declared.messages.item.FilledItem.{FilledItem}
use Rattle.api.specs.declared.messages.item.Item.{Item}
use Rattle.api.specs.declared.messages.item.Item.TheVariants.{Empty, Filled}

-- ---- new updates

-- an update of a zone without prerequisites and changes
abbrev pub empty_update : Result DomainName Refusal → Result UpdateParts Refusal
empty_update (Ok zone) = Ok (first_parts zone IN)
empty_update (Err refusal) = Err refusal

-- the same, of the zone whose name a text is
abbrev pub update_of : List ℕ → Result UpdateParts Refusal
update_of zone = empty_update (name_in zone)

-- ---- items

-- an item without data is added
abbrev pub AddsEmpty : UpdateParts → EmptyItem → List ℕ → RecordType → UpdateParts → Type 0
AddsEmpty parts item name kind after = IsOkAnd (name_in name) (λ owner. after ≡ with_empty item owner kind parts)

-- an item with the data that a text is, of a name
pub record AddsFilledOf (parts : UpdateParts) (item : FilledItem) (owner : DomainName) (kind : RecordType) (ttl : ℕ)
    (written : List ℕ) (after : UpdateParts) : Type 0 where
  pub rdata : RData
  pub is_data : IsDataText parts.zone kind written rdata
  pub after_is : after ≡ with_filled item owner ttl rdata parts

-- an item with data is added
abbrev pub AddsFilled : UpdateParts → FilledItem → List ℕ → RecordType → ℕ → List ℕ → UpdateParts → Type 0
AddsFilled parts item name kind ttl written after =
    IsOkAnd (name_in name) (λ owner. AddsFilledOf parts item owner kind ttl written after)

-- an item is added, if there is one
abbrev pub Adds : UpdateParts → Option Item → List ℕ → RecordType → ℕ → List ℕ → UpdateParts → Type 0
Adds parts (Some (Empty item)) name kind ttl written after = AddsEmpty parts item name kind after
Adds parts (Some (Filled item)) name kind ttl written after = AddsFilled parts item name kind ttl written after
Adds parts None name kind ttl written after = ⊥

-- the item with a number is added
abbrev pub AddsItem : UpdateParts → ℕ → List ℕ → ℕ → ℕ → List ℕ → UpdateParts → Type 0
AddsItem parts number name kind ttl written after = Adds parts (item_of number) name (type_of kind) ttl written after

-- why an item without data is not added
abbrev pub IsEmptyUnadded : List ℕ → Refusal → Type 0
IsEmptyUnadded name refusal.Name = name_in name ≡ Err refusal.Name
IsEmptyUnadded name refusal.Memory = Unit {0}
IsEmptyUnadded name other = ⊥

-- why an item with data is not added
abbrev pub IsFilledUnadded : DomainName → List ℕ → RecordType → List ℕ → Refusal → Type 0
IsFilledUnadded zone name kind written refusal.Name = name_in name ≡ Err refusal.Name
IsFilledUnadded zone name kind written refusal.Encoding = IsOk (name_in name) × text.IsRefused zone kind written refusal.Encoding
IsFilledUnadded zone name kind written refusal.Data = IsOk (name_in name) × text.IsRefused zone kind written refusal.Data
IsFilledUnadded zone name kind written refusal.Memory = Unit {0}
IsFilledUnadded zone name kind written other = ⊥

-- why an item is not added
abbrev pub IsItemUnadded : DomainName → Option Item → List ℕ → RecordType → List ℕ → Refusal → Type 0
IsItemUnadded zone (Some (Empty item)) name kind written refused = IsEmptyUnadded name refused
IsItemUnadded zone (Some (Filled item)) name kind written refused = IsFilledUnadded zone name kind written refused
IsItemUnadded zone None name kind written refused = refused ≡ refusal.Item

-- why the item with a number is not added
abbrev pub IsUnadded : UpdateParts → ℕ → List ℕ → ℕ → List ℕ → Refusal → Type 0
IsUnadded parts number name kind written refused = IsItemUnadded parts.zone (item_of number) name (type_of kind) written refused

-- ---- bytes

-- the bytes of a message that decode to it, whole
pub record EncodesWhole (m : Message) (bytes : List ℕ) : Type 0 where
  pub encodes : Encodes max_len m bytes
  pub decodes : ReadsMessage bytes m

-- a message has more than 65,535 bytes: without compression, or in its header and questions
pub data IsTooLongWhole (m : Message) : Type 0 where
  by_length : max_len < uncompressed_len m → IsTooLongWhole m
  by_front : IsTooLong max_len m → IsTooLongWhole m

-- why a message is not encoded whole
abbrev pub IsUnfit : Message → Refusal → Type 0
IsUnfit m refusal.TooLong = IsTooLongWhole m
IsUnfit m refusal.Update = ¬ IsSound m
IsUnfit m refusal.Memory = Unit {0}
IsUnfit m other = ⊥

-- the message of an update, with an id
abbrev pub message_of : UpdateParts → ℕ → Message
message_of parts id = update_message id parts.zone parts.dns_class false parts.prerequisites parts.changes
