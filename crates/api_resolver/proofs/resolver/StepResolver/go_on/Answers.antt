use Rattle.api_resolver.specs.Lookup.{no_memory_for_question}
use Rattle.api_resolver.proofs.LookupLaws.{goes_to_ask, goes_to_end}
use Rattle.api_resolver.proofs.resolver.StepResolver.go_on.Goals as goal

pub returns-in-Ok-Ends : goal.returns-in-Ok-Ends
returns-in-Ok-Ends c =
    goes_to_end c.args.self.now c.progress.new.self c.args.course.now c.progress.new.course c.args.clock c.in-Ok-Ends.field-0 c.in-Ok-Ends.reply
    c.in-Ok-Ends.ensures.comes c.in-Ok-Ends.field-0-is c.in-Ok-Ends.ensures.course c.in-Ok-Ends.ensures.settings

pub returns-in-Ok-Asks : goal.returns-in-Ok-Asks
returns-in-Ok-Asks c =
    goes_to_ask c.args.self.now c.progress.new.self c.args.course.now c.progress.new.course c.open.new.course c.args.clock c.in-Ok-Asks.field-0 c.in-Ok-Asks.question c.open.result
    c.in-Ok-Asks.ensures.comes c.in-Ok-Asks.field-0-is c.in-Ok-Asks.ensures.course c.in-Ok-Asks.ensures.settings c.open.ensures

pub returns-in-Err : goal.returns-in-Err
returns-in-Err c =
    rw c.out_of_memory.ensures (no_memory_for_question c.progress.new.course c.progress.new.self c.in-Err.ensures.course c.in-Err.ensures.refused)
