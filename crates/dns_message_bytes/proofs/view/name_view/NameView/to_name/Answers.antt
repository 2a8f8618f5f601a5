use Rattle.dns_message_bytes.proofs.NameViewLaws.{at_place, copied}
use Rattle.dns_message_bytes.proofs.view.name_view.NameView.to_name.Goals as goal

pub returns-clause-copied : goal.returns-clause-copied
returns-clause-copied c = λ labels is.
    let reads = at_place c.args.self.now.decoder c.clone.result c.index-place.result is.0 labels c.index-place.ensures.value c.clone.ensures is.1 in
    copied c.read.result labels _ (c.read.ensures.only labels is.0 reads) c.read.ensures.fqdn

pub returns-clause-inline : goal.returns-clause-inline
returns-clause-inline c = λ labels is small.
    let reads = at_place c.args.self.now.decoder c.clone.result c.index-place.result is.0 labels c.index-place.ensures.value c.clone.ensures is.1 in
    c.read.ensures.inline labels is.0 reads small
