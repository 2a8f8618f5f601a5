use Rattle.std.proofs.Common.{List, ℕ, refl, rules, subst}
use Rattle.api.specs.lookups.Table.{StepsAt, StepsByMessage, lookup_at, message_is_received, no_endpoint, no_memory_for_message}
use Rattle.std.proofs.lemmas.Result.{err_from_is_err_and}
use Rattle.api.proofs.lookups.table.LookupTable.received.Goals as goal

pub returns : goal.returns
returns c =
    let taken = subst (λ (bytes : List ℕ). StepsAt (StepsByMessage bytes c.in-Some.from c.args.clock) c.args.number c.args.self.now (lookup_at c.args.self.now c.args.number) c.receive.result c.receive.new.self) c.in_ok-bytes.ensures.items c.receive.ensures in
    message_is_received c.in-Some.from c.receive.result c.receive.new.self c.in-Some.ensures.endpoint taken

pub returns-in_default : goal.returns-in_default
returns-in_default c = no_endpoint c.args.self.now (search rules) refl

pub returns-in_err-bytes : goal.returns-in_err-bytes
returns-in_err-bytes c =
    let p = err_from_is_err_and c.from_residual.result c.from_residual.ensures.1 in
    rw (p.1, p.2) (no_memory_for_message c.args.self.now refl)
