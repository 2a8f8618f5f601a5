use Rattle.std.proofs.Common.{refl}
use Rattle.api_resolver.specs.Lookup.{memory_ran_out}
use Rattle.api_resolver.specs.declared.lookup.Course.{Course}
use Rattle.api_resolver.proofs.LookupLaws.{follows_on, now_known, still_known}
use Rattle.api_resolver.proofs.resolver.StepResolver.after_outcome.Goals as goal

pub returns-in_default : goal.returns-in_default
returns-in_default c = rw c.out_of_memory.ensures (memory_ran_out c.args.course.now c.args.self.now refl refl)

pub returns-in-Ok : goal.returns-in-Ok
returns-in-Ok c =
    let mid : Course = record c.args.course.now { known = c.push.new.self } in
    follows_on c.args.self.now c.go_on.new.self c.args.course.now mid c.go_on.new.course c.args.question c.args.outcome c.args.clock c.known_outcome.result c.in-Some.outcome c.go_on.result
    c.known_outcome.ensures c.in-Some.is (now_known c.args.course.now mid c.args.question c.in-Some.outcome c.push.new.self refl c.in-Ok.ensures.ok) c.go_on.ensures

pub returns-in-Err : goal.returns-in-Err
returns-in-Err c =
    let mid : Course = record c.args.course.now { known = c.push.new.self } in
    rw c.out_of_memory-in-Err.ensures (memory_ran_out mid c.args.self.now (still_known c.args.course.now c.push.new.self c.in-Err.ensures.err) refl)
