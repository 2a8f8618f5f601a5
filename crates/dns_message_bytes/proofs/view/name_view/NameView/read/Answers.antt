use Rattle.std.proofs.Common.{Err, ap}
use Rattle.dns_wire.proofs.ReadingLaws.{reads_not_refused, refuses_same}
use Rattle.dns_message_bytes.proofs.NameViewLaws.{in_place, refused_in_place}
use Rattle.dns_message_bytes.proofs.view.name_view.NameView.read.Goals as goal

pub returns-in-Ok-clause-read : goal.returns-in-Ok-clause-read
returns-in-Ok-clause-read c = in_place c.args.decoder.now c.clone.result c.clone-start.result c.clone-in-Ok.result c.index-place.result c.in-Ok.end c.index-place.ensures.value c.clone.ensures c.clone-start.ensures c.clone-in-Ok.ensures c.in-Ok.ensures.read

pub returns-in-Err-clause-refused : goal.returns-in-Err-clause-refused
returns-in-Err-clause-refused c = refused_in_place c.args.decoder.now c.clone.result c.index-place.result c.in-Err.error c.index-place.ensures.value c.clone.ensures c.in-Err.ensures.refused

pub returns-in-Ok-clause-fault : goal.returns-in-Ok-clause-fault
returns-in-Ok-clause-fault c = λ error refused.
    let found = in_place c.args.decoder.now c.clone.result c.clone-start.result c.clone-in-Ok.result c.index-place.result c.in-Ok.end c.index-place.ensures.value c.clone.ensures c.clone-start.ensures c.clone-in-Ok.ensures c.in-Ok.ensures.read in
    absurd (reads_not_refused found.1.0 refused)

pub returns-in-Err-clause-fault : goal.returns-in-Err-clause-fault
returns-in-Err-clause-fault c = λ error refused.
    ap Err (refuses_same (refused_in_place c.args.decoder.now c.clone.result c.index-place.result c.in-Err.error c.index-place.ensures.value c.clone.ensures c.in-Err.ensures.refused) refused)
