use Rattle.std.proofs.Common.{◌∙◌, ◌-◌, ◌*◌, Some}
use Rattle.std.specs.declared.net.ip_addr.IpAddr.TheVariants.{V4}
use Rattle.dns_names.proofs.ArpaLaws.{v4_is}
use Rattle.dns_names.proofs.name.Name.v4_prefix.Goals as goal

pub returns : goal.returns
returns c =
    (λ i. Some (record { addr = V4 (record { octets = c.new.ensures i }); prefix_len = 8 * (c.label_count.ensures.value i - 2) }))
    ∙ v4_is c.args.self.now.labels c.in_ok-octets.octets c.in_ok-octets.ensures.value
