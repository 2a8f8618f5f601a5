-- The text that is found of a zone, from the clauses of its call.
use Rattle.std.proofs.Common.{◌≡◌, ℕ, List, IfOk, IfErr, Result, Ok, Err}
use Rattle.api.specs.buffer.Buffer.{bytes_in}
use Rattle.api.specs.declared.buffer.refusal.Refusal.{Refusal}
use Rattle.api.specs.declared.buffer.refusal.Refusal.TheVariants.{Memory}
use Rattle.dns_zone.specs.Printed.{IsZoneText}
use Rattle.dns_zone.specs.Rows.{ZoneContent}
use Rattle.rumstrait_c.specs.Zones.{IsTextOf}

pub text_found : {V : Type 0} (items : V → List ℕ) (zone : ZoneContent) (found : Result V Refusal)
    → IfOk found (λ v. IsZoneText zone (items v)) → IfErr found (λ refusal. refusal ≡ Memory) → IsTextOf zone (bytes_in items found)
text_found items zone (Ok v) text refused = text
text_found items zone (Err reason) text refused = refused
