use Rattle.std.proofs.Common.{ℕ, List, ap, sym, subst}
use Rattle.dns_wire.specs.Decoder.{Decoder}
use Rattle.dns_messages.specs.Grammar.{IsBareHeader}
use Rattle.dns_messages.proofs.read.read_message.Goals as goal

pub returns-then-bytes-le-SHORT_LEN-clause-decided :
    goal.returns-then-bytes-le-SHORT_LEN-clause-decided
returns-then-bytes-le-SHORT_LEN-clause-decided c = λ header bare.
    c.read_from.ensures.decided header (subst (λ (bs : List ℕ). IsBareHeader bs header) (sym (ap (λ (d : Decoder). d.bytes) c.new.ensures)) bare)

pub returns-in-Ok-clause-decided : goal.returns-in-Ok-clause-decided
returns-in-Ok-clause-decided c = λ header bare.
    c.read_from-in-Ok.ensures.decided header (subst (λ (bs : List ℕ). IsBareHeader bs header) (sym (ap (λ (d : Decoder). d.bytes) c.with_pointers.ensures)) bare)

pub returns-in-Err-clause-decided : goal.returns-in-Err-clause-decided
returns-in-Err-clause-decided c = λ header bare.
    c.read_from-in-Err.ensures.decided header (subst (λ (bs : List ℕ). IsBareHeader bs header) (sym (ap (λ (d : Decoder). d.bytes) c.new-in-Err.ensures)) bare)
