use Rattle.api_resolver.specs.Lookup.{no_memory_to_begin}
use Rattle.api_resolver.proofs.LookupLaws.{ends_first, waits_first}
use Rattle.api_resolver.proofs.resolver.StepResolver.open_from.Goals as goal

pub returns-in-Ok-Waits : goal.returns-in-Ok-Waits
returns-in-Ok-Waits c =
    waits_first c.args.self.now c.args.start _ _ c.in-Ok-Waits.awaited c.in-Ok-Waits.ensures c.in-Ok-Waits.field-0-is c.new-events.ensures

pub returns-in-Ok-Ends : goal.returns-in-Ok-Ends
returns-in-Ok-Ends c =
    ends_first c.args.self.now c.args.start _ _ c.in-Ok-Ends.outcome _ _ c.in-Ok-Ends.ensures c.in-Ok-Ends.field-0-is c.new-events.ensures c.failure_of.ensures

pub returns-in-Err : goal.returns-in-Err
returns-in-Err c = rw c.out_of_memory.ensures no_memory_to_begin
