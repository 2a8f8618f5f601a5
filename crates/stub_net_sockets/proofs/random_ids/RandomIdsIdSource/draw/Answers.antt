use Rattle.std.proofs.Common.{arith, refl}
use Rattle.stub_net_sockets.proofs.IdLaws.{draws_anew}
use Rattle.stub_net_sockets.proofs.random_ids.RandomIdsIdSource.draw.Goals as goal

pub returns : goal.returns
returns g c =
    draws_anew g.E.Entropy.gives c.args.self.now c.take.new.self c.refill.new.self c.take-2.new.self c.take-2.result
    (c.in_default.ensures.none refl) (c.in_default.ensures.unchanged refl) (c.in_ok-refill.ensures.given refl) (c.in_ok-refill.ensures.used refl) c.take-2.ensures.taken
    (search (c.in_ok-refill.ensures.used, c.take-2.ensures.kept, arith))
