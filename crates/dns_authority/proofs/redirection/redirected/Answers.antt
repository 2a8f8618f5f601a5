use Rattle.std.proofs.Common.{◌∙◌, ap, sym, Bor, Option}
use Rattle.std.specs.Option.{option_copied}
use Rattle.dns_names.specs.Name.{DomainName}
use Rattle.dns_zone.specs.Rows.{row_of}
use Rattle.dns_authority.specs.Step.{redirected}
use Rattle.dns_authority.proofs.StepLaws.{redirected_links}
use Rattle.dns_authority.proofs.redirection.redirected.Goals as goal

pub returns : goal.returns
returns c =
    redirected_links c.args.zones.now c.args.record_type c.args.owner.now c.args.at.now c.in-Some.target.now (row_of c.args.dname.now)
    c.new-records.result c.push.new.self c.push-2.new.self c.in_ok-copy.field-0 c.in_ok-synthesized.field-0 c.in_ok-next.next
    c.new-records.ensures c.in_ok-push.ensures.ok c.in_ok-copy.ensures c.in_ok-push-2.ensures.ok (c.in_ok-synthesized.ensures c.args.dname.now.rdata) c.in_ok-next.ensures
    ∙ sym (ap (λ (o : Option (Bor DomainName)). redirected c.args.zones.now c.args.record_type c.args.owner.now c.args.at.now (row_of c.args.dname.now) (option_copied o)) c.in-Some.is)
