use Rattle.api_resolver.specs.Lookup.{no_memory_for_servers}
use Rattle.api_resolver.proofs.LookupLaws.{begins, has_no_id}
use Rattle.api_resolver.proofs.resolver.StepResolver.open.Goals as goal

pub returns-in_default : goal.returns-in_default
returns-in_default c = rw c.out_of_memory.ensures no_memory_for_servers

pub returns-in_default-draw_id : goal.returns-in_default-draw_id
returns-in_default-draw_id c = has_no_id c.args.self.now c.args.course.now c.draw_id.new.self _ _ c.draw_id.result c.draw_id.ensures c.in_default-draw_id.is

pub returns : goal.returns
returns c =
    begins c.args.self.now c.args.course.now c.draw_id.new.self c.args.question c.args.clock c.in-Some.id c.draw_id.result c.in-Ok.servers _
    c.draw_id.ensures c.in-Some.is c.in-Ok.ensures c.open_from.ensures
