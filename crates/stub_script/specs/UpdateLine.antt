-- Lines of updates, by the words after the keyword.
use Rattle.std.specs.Prelude.{◌≡◌, List, ℕ, Option, option_map}
use Rattle.dns_names.specs.Name.{DomainName}
use Rattle.dns_messages.specs.declared.message.Message.{Message}
use Rattle.dns_zone_file.specs.declared.types.Types.{Types}
use Rattle.update_text.specs.Update.{IsUpdateOf}
use Rattle.stub_script.specs.EventContent.{ActionContent, Update}

-- the update, by the words after its keyword
abbrev pub IsUpdateLine : Types → DomainName → ℕ → List (List ℕ) → Option ActionContent → Type 0
IsUpdateLine types origin id arguments found =
    (update : Option Message) × IsUpdateOf types origin id arguments update
    × (found ≡ option_map Update update)
