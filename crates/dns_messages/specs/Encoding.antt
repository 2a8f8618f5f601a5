-- Encoding a message under a limit.
use Rattle.std.specs.Prelude.{◌≡◌, ◌<◌, ◌≤◌, List, ℕ, length}
use Rattle.dns_messages.specs.declared.message.Message.{Message}
use Rattle.dns_messages.specs.Cut.{cut, cut_form, front_reach}
use Rattle.dns_messages.specs.Sound.{IsSound}
use Rattle.dns_messages.specs.Grammar.{ReadsMessage}

-- The bytes of a message under a limit: they are its form, end within the limit, and decode to what remains of it if it is
-- sound.
pub record Encodes (limit : ℕ) (m : Message) (bytes : List ℕ) : Type 0 where
  pub form_is : bytes ≡ cut_form limit m
  pub decodes : IsSound m → ReadsMessage bytes (cut limit m)
  pub within : length bytes ≤ limit
  pub room : front_reach m ≤ limit

-- header and questions reach past the limit
pub record IsTooLong (limit : ℕ) (m : Message) : Type 0 where
  pub past : limit < front_reach m
