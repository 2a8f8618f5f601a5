use Rattle.std.proofs.Common.{refl}
use Rattle.api_resolver.specs.Lookup.{no_memory_for_step}
use Rattle.api_resolver.specs.declared.resolver.StepResolver.{StepResolver}
use Rattle.api_resolver.proofs.LookupLaws.{takes_and_ends, takes_and_waits}
use Rattle.api_resolver.proofs.resolver.StepResolver.after_event.Goals as goal

pub returns-in_default : goal.returns-in_default
returns-in_default c = rw c.out_of_memory.ensures (no_memory_for_step c.args.course.now c.args.self.now refl refl)

pub returns-in-Ok-Waits : goal.returns-in-Ok-Waits
returns-in-Ok-Waits c =
    takes_and_waits c.args.self.now c.args.self.now c.args.course.now c.args.course.now c.args.exchange c.in-Ok-Waits.exchange c.args.event c.in-Ok-Waits.field-0
    c.in-Ok-Waits.ensures c.in-Ok-Waits.field-0-is refl refl

pub returns-in-Ok-Ends : goal.returns-in-Ok-Ends
returns-in-Ok-Ends c =
    let mid : StepResolver = record c.args.self.now { servers = c.in-Ok-Ends.servers } in
    takes_and_ends c.args.self.now mid c.after_outcome.new.self c.args.course.now c.after_outcome.new.course c.args.exchange c.args.event c.in-Ok-Ends.field-0 c.in-Ok-Ends.outcome c.in-Ok-Ends.servers
    c.in-Ok.question c.after_outcome.result c.in-Ok-Ends.ensures c.in-Ok-Ends.field-0-is refl c.in-Ok.ensures.ok c.after_outcome.ensures

pub returns-in-Err : goal.returns-in-Err
returns-in-Err c = rw c.out_of_memory-in-Err.ensures (no_memory_for_step c.args.course.now c.args.self.now refl refl)
