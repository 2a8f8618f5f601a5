use Rattle.lookup_cli.proofs.SessionLaws.{same_reply}
use Rattle.lookup_cli.proofs.session.Session.look_up_addresses.Goals as goal

pub returns : goal.returns
returns g c = same_reply _ _ _ _ _ _ _ _ c.lookup_of.ensures c.lookup_ip.ensures
