use Rattle.std.proofs.Common.{List, ℕ, ◌+◌, map, take, sym, subst}
use Rattle.std.specs.Borrow.{Bor}
use Rattle.std.specs.List.{AllZip}
use Rattle.std.specs.declared.net.socket_addr.SocketAddr.{SocketAddr}
use Rattle.nameserver_cli.specs.Addresses.{IsAddress}
use Rattle.nameserver_cli.proofs.ValueLaws.{read_more}
use Rattle.nameserver_cli.proofs.arguments.addresses_of.Goals as goal

pub loop-value-preserved : goal.loop-value-preserved
loop-value-preserved c =
    subst (λ (found : List SocketAddr). AllZip IsAddress (map (λ (value : Bor (List ℕ)). value.now) (take (c.loop-value.value-index + 1) c.args.values.now)) found)
    (sym c.in_ok-push.ensures.items)
    (read_more IsAddress (λ (value : Bor (List ℕ)). value.now) c.args.values.now c.loop-value.value-index _ c.loop-value.addresses.items
    c.in_ok-address_of.field-0 c.loop-value-test.true c.loop-value.invariant c.in_ok-address_of.ensures.address)
