use Rattle.std.proofs.Common.{arith}
use Rattle.nameserver_handlers.proofs.NoticeLaws.{all_followed, one_followed}
use Rattle.nameserver_handlers.proofs.notices.follow_all.Goals as goal

pub loop-place-preserved : goal.loop-place-preserved
loop-place-preserved g c =
    one_followed c.args.now c.args.zones.now c.args.followers.now c.loop-place.followers c.loop-place.are_all c.follow_zone-is_followed.result c.loop-place.place c.index-zones-place.result
    c.index-followers-place.result c.follow_zone-is_followed.new.follower c.loop-place.invariant (omega arith) (omega arith) c.index-zones-place.is c.follow_zone-is_followed.ensures

pub returns : goal.returns
returns g c =
    all_followed c.args.now c.args.zones.now c.args.followers.now c.loop-place.followers c.loop-place.are_all c.loop-place.place c.loop-place.invariant (omega arith) (omega arith)
