use Rattle.std.proofs.Common.{rules, ◌≡◌, [], ◌∷◌, refl}
use Rattle.dns_server.specs.AddressList.{is_covered}
use Rattle.nameserver_cli.proofs.arguments.Arguments.takes_updates.Goals as goal

pub returns-else-not-is_empty : goal.returns-else-not-is_empty
returns-else-not-is_empty c =
    let covered : c.contains.result ≡ is_covered c.args.self.now.updaters (127 ∷ 0 ∷ 0 ∷ 1 ∷ []) = c.contains.ensures.v4 _ refl in
    search rules
