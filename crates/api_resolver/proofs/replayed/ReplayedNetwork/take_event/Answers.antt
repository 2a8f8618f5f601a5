use Rattle.std.proofs.Common.{◌≡◌, ◌<◌, length, rules}
use Rattle.api_resolver.specs.Replay.{no_event_is_left}
use Rattle.api_resolver.proofs.ReplayLaws.{first-removed, nothing-left, takes-next}
use Rattle.api_resolver.proofs.replayed.ReplayedNetwork.take_event.Goals as goal

pub returns-then-is_empty : goal.returns-then-is_empty
returns-then-is_empty c =
    let none : length c.self.inside.events.items ≡ 0 = search rules in
    rw (← c.self.view_is) (no_event_is_left (nothing-left c.self.inside.events.items none))

pub returns : goal.returns
returns c =
    let some : 0 < length c.self.inside.events.items = search rules in
    rw (← c.self.view_is) (takes-next _ _ c.remove-moment.result c.remove-moment.new.self.items c.max-self-inside.result (first-removed _ _ _ some c.remove-moment.ensures.value c.remove-moment.ensures.items) c.max-self-inside.ensures)
