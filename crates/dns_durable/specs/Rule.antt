-- By which rule the updates of a journal are made: whether serial numbers rise, and data has the format of its type.
use Rattle.std.specs.Prelude.{◌==◌, ◌&&◌, if◌then◌else◌, ℕ, List, [], ◌∷◌, ◌++◌, Option, Some, None}
use Rattle.dns_authority.specs.declared.asked.AnyAnswer.TheVariants.{AllSets}
use Rattle.dns_message_bytes.specs.frames.Frame.{stream_of}
use Rattle.dns_messages.specs.declared.message.Message.{Message}
use Rattle.dns_server.specs.declared.updates.Updates.TheVariants.{Allowed}
use Rattle.dns_zone.specs.Rows.{ZoneContent}
use Rattle.dns_zone.specs.declared.zone.serials.Serials.TheVariants.{Kept, Rising}
use Rattle.dns_authority.specs.service.Answering.{zones_served}
use Rattle.dns_authority.specs.declared.service.answering.Answering.{Answering}
use Rattle.dns_authority.specs.declared.service.answering.Answering.TheVariants.{Plain, Whole}

-- the zones after an update that may be made, by a rule
abbrev pub step_of : Answering → List ZoneContent → Message → List ZoneContent
step_of answering = zones_served answering Allowed

-- ---- the entry for updates

-- The mark of a rule: a frame of one byte, which is no request. Rules that differ only in the answers to ANY have one mark.
abbrev pub mark_of : Answering → List ℕ
mark_of Plain = 0 ∷ 1 ∷ 0 ∷ []
mark_of (Whole any Kept) = 0 ∷ 1 ∷ 1 ∷ []
mark_of (Whole any Rising) = 0 ∷ 1 ∷ 2 ∷ []

-- the entry for updates: if there are any, the mark of their rule and their frames
abbrev pub entry_of : Answering → List (List ℕ) → List ℕ
entry_of answering [] = []
entry_of answering (message ∷ more) = mark_of answering ++ stream_of (message ∷ more)

-- an entry with a mark, if it had nothing
abbrev pub begun : Answering → List ℕ → List ℕ
begun answering [] = mark_of answering
begun answering (byte ∷ bytes) = byte ∷ bytes

-- an entry with further updates
abbrev pub entry_with : Answering → List ℕ → List (List ℕ) → List ℕ
entry_with answering entry [] = entry
entry_with answering entry (message ∷ more) = begun answering entry ++ stream_of (message ∷ more)

-- ---- the rule of an entry

-- the rule of the byte in a mark
abbrev pub rule_of_byte : ℕ → Option Answering
rule_of_byte byte =
    if byte == 0 then Some Plain else if byte == 1 then Some (Whole AllSets Kept) else if byte == 2 then Some (Whole AllSets Rising) else None

-- the rule of three bytes, if they are a mark
abbrev pub rule_of_mark : ℕ → ℕ → ℕ → Option Answering
rule_of_mark high low byte = if (high == 0) && (low == 1) then rule_of_byte byte else None

-- a rule, or that of an entry without a mark
abbrev pub or_plain : Option Answering → Answering
or_plain (Some answering) = answering
or_plain None = Plain

-- the rule of an entry: entries of older versions have no mark
abbrev pub rule_in : List ℕ → Answering
rule_in (high ∷ low ∷ byte ∷ updates) = or_plain (rule_of_mark high low byte)
rule_in other = Plain

-- what follows a mark, or a whole entry without one
abbrev pub behind_mark : Option Answering → List ℕ → List ℕ → List ℕ
behind_mark (Some answering) updates entry = updates
behind_mark None updates entry = entry

-- the frames of the updates of an entry
abbrev pub updates_in : List ℕ → List ℕ
updates_in (high ∷ low ∷ byte ∷ updates) = behind_mark (rule_of_mark high low byte) updates (high ∷ low ∷ byte ∷ updates)
updates_in other = other
