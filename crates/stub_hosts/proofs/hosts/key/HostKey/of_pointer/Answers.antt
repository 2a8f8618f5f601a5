use Rattle.std.proofs.Common.{[], ◌∷◌, ◌++◌, ap, ◌∙◌}
use Rattle.stub_hosts.specs.internal.HostKeys.{labels_key, address_key}
use Rattle.stub_hosts.proofs.HostKeyLaws.{address_then}
use Rattle.stub_hosts.proofs.hosts.key.HostKey.of_pointer.Goals as goal

pub returns : goal.returns
returns c =
    let labels = labels_key c.args.name.now.labels in
    c.in_ok-push_labels.ensures ∙ ap (λ xs. xs ++ labels) (c.in_ok-push_address.ensures ∙ ap (λ xs. xs ++ address_key c.args.address (0 ∷ [])) c.new-numbers.ensures.items)
    ∙ address_then c.args.address (0 ∷ []) labels
