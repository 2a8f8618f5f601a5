use Rattle.std.proofs.Common.{◌≡◌, ◌-◌, ◌^◌, ◌<◌, ◌≤◌, length, arith, rules}
use Rattle.stub_net.specs.Script.{script_over}
use Rattle.stub_net.proofs.ScriptLaws.{first-removed, moment-later, nothing-left, taken-in-time, taken-too-late}
use Rattle.stub_net.proofs.network.scripted.ScriptedNetwork.take_event.Goals as goal

pub returns-then-is_empty : goal.returns-then-is_empty
returns-then-is_empty c =
    let none : length c.self.inside.script.items ≡ 0 = search rules in
    rw (← c.self.view_is) (script_over (nothing-left c.self.inside.script.items none))

pub returns-then-moment-deadline : goal.returns-then-moment-deadline
returns-then-moment-deadline c =
    let some : 0 < length c.self.inside.script.items = search rules in
    let small : c.self.inside.clock ≤ 2 ^ 64 - 1 = omega arith in
    rw (← c.self.view_is) (taken-too-late _ _ c.remove-delay.result c.remove-delay.new.self.items c.saturating_add-moment.result (first-removed _ _ _ some c.remove-delay.ensures.value c.remove-delay.ensures.items) (moment-later c.self.inside.clock c.remove-delay.result.delay c.saturating_add-moment.result small c.saturating_add-moment.ensures) c.if-moment-deadline.true)

pub returns : goal.returns
returns c =
    let some : 0 < length c.self.inside.script.items = search rules in
    let small : c.self.inside.clock ≤ 2 ^ 64 - 1 = omega arith in
    rw (← c.self.view_is) (taken-in-time _ _ c.remove-delay.result c.remove-delay.new.self.items c.saturating_add-moment.result (first-removed _ _ _ some c.remove-delay.ensures.value c.remove-delay.ensures.items) (moment-later c.self.inside.clock c.remove-delay.result.delay c.saturating_add-moment.result small c.saturating_add-moment.ensures) c.if-moment-deadline.false)
