-- Names that are borrowed from a message.
use Rattle.std.specs.Prelude.{ℕ, List}
use Rattle.dns_wire.specs.Reading.{ReadsName}
use Rattle.dns_message_bytes.specs.declared.view.name_view.NameView.{NameView}

-- the name that is borrowed has these labels
abbrev pub IsNameOf : NameView → List (List ℕ) → Type 0
IsNameOf view labels = (end : ℕ) × ReadsName view.decoder.bytes view.decoder.index labels end
