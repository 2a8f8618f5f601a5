use Rattle.std.proofs.Common.{◌∙◌, ◌∷◌, [], ◌-◌, ◌*◌, length, Some}
use Rattle.std.specs.declared.net.ip_addr.IpAddr.TheVariants.{V6}
use Rattle.dns_names.proofs.ArpaLaws.{v6_is}
use Rattle.dns_names.proofs.name.Name.v6_prefix.Goals as goal

pub returns : goal.returns
returns c =
    (λ i. Some (record { addr = V6 (record { segments = c.new.ensures i }); prefix_len = 4 * (c.label_count.ensures.value i - 2) }))
    ∙ (λ i. Some (record {
      addr = V6 (record { segments = c.segment.ensures i ∷ c.segment-2.ensures i ∷ c.segment-3.ensures i ∷ c.segment-4.ensures i ∷ c.segment-5.ensures i ∷ c.segment-6.ensures i ∷ c.segment-7.ensures i ∷ c.segment-8.ensures i ∷ [] });
      prefix_len = 4 * (length c.args.self.now.labels - 2);
    }))
    ∙ v6_is c.args.self.now.labels c.in_ok-digits.digits c.in_ok-digits.ensures.value
