use Rattle.std.proofs.Common.{take}
use Rattle.dns_authority.proofs.FrontLaws.{first_copied, of_front}
use Rattle.dns_authority.proofs.copies.first_copies.Goals as goal

pub returns : goal.returns
returns c =
    of_front (take c.args.most) c.copies.result _ _ c.copies.ensures
    (first_copied c.args.most c.args.owner.now c.args.stored.now c.first_of.result.now c.first_of.ensures)
