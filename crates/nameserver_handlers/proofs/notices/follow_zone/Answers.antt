use Rattle.nameserver_handlers.proofs.NoticeLaws.{follows_if}
use Rattle.nameserver_handlers.proofs.notices.follow_zone.Goals as goal

pub returns : goal.returns
returns g c =
    follows_if c.args.now c.in-Some-random_id.id c.args.zone.now c.in-Some.start.now c.args.follower.now c.follow.new.self c.follow.result c.is_ok.result c.is_ok.ensures.value c.in-Some.ensures
    c.follow.ensures.ok c.follow.ensures.err
