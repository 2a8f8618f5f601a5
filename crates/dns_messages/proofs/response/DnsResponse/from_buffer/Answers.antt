use Rattle.std.proofs.Common.{List, ℕ, subst, sym}
use Rattle.dns_messages.specs.Grammar.{IsBareHeader}
use Rattle.dns_messages.proofs.response.DnsResponse.from_buffer.Goals as goal

pub returns-in-Err-clause-decided : goal.returns-in-Err-clause-decided
returns-in-Err-clause-decided c = λ header bare same.
    let there = subst (λ (bytes : List ℕ). IsBareHeader bytes header) (sym c.as_slice.ensures.value) bare in
    absurd (cc (c.in-Err.ensures.decided header there))
