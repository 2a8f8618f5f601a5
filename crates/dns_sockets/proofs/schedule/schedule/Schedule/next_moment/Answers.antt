use Rattle.std.proofs.Common.{◌∙◌, ap}
use Rattle.dns_sockets.specs.schedule.Schedule.{first_moment}
use Rattle.dns_sockets.proofs.StoreLaws.{moment-of_first}
use Rattle.dns_sockets.proofs.schedule.schedule.Schedule.next_moment.Goals as goal

pub returns-in-Some : goal.returns-in-Some
returns-in-Some g c =
    moment-of_first _ _ _ c.in-Some.ensures.first ∙ ap (λ s. first_moment s.items) c.self.view_is
