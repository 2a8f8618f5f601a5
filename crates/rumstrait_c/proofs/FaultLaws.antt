-- The fault that is found of a text, from the clauses of its call.
use Rattle.std.proofs.Common.{◌≡◌, ℕ, List, IfOk, IfErr, OnErr, Result, Ok, Err}
use Rattle.api.specs.buffer.Buffer.{bytes_in}
use Rattle.api.specs.declared.buffer.refusal.Refusal.{Refusal}
use Rattle.api.specs.zones.Faults.{FindsFault, IsUnread}
use Rattle.rumstrait_c.specs.Zones.{IsFaultOf}

pub fault_found : {V : Type 0} (items : V → List ℕ) (origin text : List ℕ) (line line' : ℕ) (found : Result V Refusal)
    → IfOk found (λ v. FindsFault origin text line' (items v)) → IfErr found (IsUnread origin text) → OnErr found (line' ≡ line)
    → IsFaultOf origin text line (bytes_in items found) line'
fault_found items origin text line line' (Ok v) is_found refused same = is_found
fault_found items origin text line line' (Err reason) is_found refused same = (refused, same)
