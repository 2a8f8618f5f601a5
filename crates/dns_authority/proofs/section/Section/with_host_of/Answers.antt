use Rattle.std.proofs.Common.{Option, subst}
use Rattle.std.specs.Prelude.{IfOk}
use Rattle.dns_names.specs.Name.{DomainName}
use Rattle.dns_authority.specs.Additional.{rows_by, with_host_of}
use Rattle.dns_authority.specs.SetIndex.{Grows}
use Rattle.dns_authority.proofs.section.Section.with_host_of.Goals as goal

pub returns-in-Some : goal.returns-in-Some
returns-in-Some c =
    subst (λ (host : Option DomainName). IfOk c.with_host.result (λ grown. Grows c.args.self (λ answers records. with_host_of (rows_by c.args.kind c.args.zones.now) answers records host) grown))
    c.in-Some.ensures c.with_host.ensures
