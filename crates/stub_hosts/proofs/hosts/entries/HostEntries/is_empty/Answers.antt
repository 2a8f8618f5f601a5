use Rattle.std.proofs.Common.{ap, sym, ◌∙◌}
use Rattle.std.specs.Map.{values_of}
use Rattle.std.proofs.lemmas.List.{nil_from_length}
use Rattle.stub_hosts.proofs.hosts.entries.HostEntries.is_empty.Goals as goal

pub returns : goal.returns
returns c = λ is.
    sym c.self.view_is ∙ ap values_of (nil_from_length c.self.inside.entries.entries (c.is_empty.ensures.0 is))
