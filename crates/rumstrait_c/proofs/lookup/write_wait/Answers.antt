use Rattle.std.proofs.Common.{List, ℕ, Ok, Err, refl, rules, subst}
use Rattle.api.specs.buffer.Buffer.{Writes}
use Rattle.rumstrait_c.proofs.lookup.write_wait.Goals as goal

pub returns-in-Ok-write_bytes : goal.returns-in-Ok-write_bytes
returns-in-Ok-write_bytes c =
    let writes = subst (λ (bytes : List ℕ). Writes bytes c.args.message.now (Ok c.in-Ok-write_bytes.field-0) c.write_bytes.new.buffer c.write_bytes.new.len) c.as_slice.ensures c.in-Ok-write_bytes.ensures in record {
      found = Ok (c.in-Ok.exchanges, c.in-Ok.awaited.now);
      awaits = c.in-Ok.ensures;
      written = record { outcome = Ok c.in-Ok-write_bytes.field-0; writes = writes; code_is = refl; waits_as = c.wait_of.ensures };
      same = refl;
    }

pub returns-in-Err-write_bytes : goal.returns-in-Err-write_bytes
returns-in-Err-write_bytes c =
    let writes = subst (λ (bytes : List ℕ). Writes bytes c.args.message.now (Err c.in-Err-write_bytes.refusal) c.write_bytes.new.buffer c.write_bytes.new.len) c.as_slice.ensures c.in-Err-write_bytes.ensures in record {
      found = Ok (c.in-Ok.exchanges, c.in-Ok.awaited.now);
      awaits = c.in-Ok.ensures;
      written = record { outcome = Err c.in-Err-write_bytes.refusal; writes = writes; code_is = search rules; waits_as = refl };
      same = refl;
    }
