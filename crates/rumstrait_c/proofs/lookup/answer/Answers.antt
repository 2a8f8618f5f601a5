use Rattle.std.proofs.Common.{List, ℕ, Ok, refl, rules, subst}
use Rattle.api.specs.buffer.Buffer.{Writes}
use Rattle.rumstrait_c.proofs.lookup.answer.Goals as goal

pub returns-in-Ok : goal.returns-in-Ok
returns-in-Ok c =
    let writes = subst (λ (bytes : List ℕ). Writes bytes c.args.text.now c.write_bytes.result c.write_bytes.new.buffer c.write_bytes.new.len) c.as_slice.ensures.value c.write_bytes.ensures in record {
      found = Ok c.in-Ok.found.items;
      answers = c.in-Ok.ensures;
      written = (c.write_bytes.result, writes, search rules);
      same = refl;
    }
