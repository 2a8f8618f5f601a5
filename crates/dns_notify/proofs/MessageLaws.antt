-- Notifications fit messages, and what bytes decode to decides whether they are a response.
use Rattle.std.proofs.Common.{◌≡◌, ◌<◌, ◌≤◌, ◌∙◌, ℕ, Bool, true, false, List, [], ◌∷◌, sym, ap, subst, arith}
use Rattle.dns_messages.specs.Cut.{front_reach, header_end, query_item, twelve_zeros}
use Rattle.dns_messages.specs.Encoding.{IsTooLong}
use Rattle.dns_messages.specs.Grammar.{ReadsMessage}
use Rattle.dns_messages.specs.declared.message.Message.{Message}
use Rattle.dns_names.specs.Name.{DomainName}
use Rattle.dns_records.specs.Record.{Record}
use Rattle.dns_wire.specs.Encodable.{Plain, start_position}
use Rattle.dns_wire.specs.Items.{all_pieces}
use Rattle.dns_wire.specs.Name.{name_len}
use Rattle.dns_wire.proofs.SectionLaws.{reach-most}
use Rattle.dns_notify.specs.notifier.Notification.{notification, start_question}
use Rattle.dns_notify.specs.notifier.Response.{responds, IsResponse}

-- header and question fit
notification_fits : (id : ℕ) (origin : DomainName) (start : Record) → name_len origin.labels ≤ 255 → front_reach (notification id origin start) ≤ 65535
notification_fits id origin start short =
    omega (arith, reach-most start_position (Plain twelve_zeros ∷ all_pieces query_item header_end (start_question origin ∷ [])), short)

pub never_long : (id : ℕ) (origin : DomainName) (start : Record) (m : Message) → m ≡ notification id origin start → name_len origin.labels ≤ 255 → IsTooLong 65535 m → ⊥
never_long id origin start m is short long =
    let past : 65535 < front_reach (notification id origin start) = subst (λ (n : Message). 65535 < front_reach n) is long.past in
    omega (arith, past, notification_fits id origin start short)

-- the message that bytes decode to decides
pub decided : (id : ℕ) (origin : DomainName) (bytes : List ℕ) (m : Message) → ((n : Message) → ReadsMessage bytes n → n ≡ m) → ReadsMessage bytes m → (b : Bool) → b ≡ responds id origin m → IsResponse id origin bytes b
decided id origin bytes m same reads true e = (m, (reads, sym e))
decided id origin bytes m same reads false e = λ n other. ap (responds id origin) (same n other) ∙ sym e
