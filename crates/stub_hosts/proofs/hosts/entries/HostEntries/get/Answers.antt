use Rattle.std.proofs.Common.{true, ap, ◌∙◌}
use Rattle.std.specs.List.{find}
use Rattle.dns_names.specs.Compare.{same_labels}
use Rattle.stub_hosts.proofs.EntryLaws.{found_by_key}
use Rattle.stub_hosts.proofs.hosts.entries.HostEntries.get.Goals as goal

pub returns : goal.returns
returns c = λ labels key_is.
    c.get.ensures.value
    ∙ found_by_key c.args.key.now (record { is_fqdn = true; labels = labels }) key_is c.self.inside.entries.entries c.self.invariant.0
    ∙ ap (find (λ e. same_labels e.name.labels labels)) c.self.view_is
