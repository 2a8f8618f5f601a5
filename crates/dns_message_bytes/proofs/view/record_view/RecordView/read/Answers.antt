use Rattle.std.proofs.Common.{Err, ap}
use Rattle.dns_message_bytes.proofs.RawRecordLaws.{no_fault, one_fault}
use Rattle.dns_message_bytes.proofs.view.record_view.RecordView.read.Goals as goal

pub returns-in-Ok-clause-fault : goal.returns-in-Ok-clause-fault
returns-in-Ok-clause-fault c = λ error refused.
    let found = c.in-Ok.ensures.read in
    absurd (no_fault c.args.decoder.now c.clone-reader.result c.index.result found.0 c.read_on.new.decoder.index error c.index.ensures.value c.clone-reader.ensures found.1.0 refused)

pub returns-in-Err-clause-fault : goal.returns-in-Err-clause-fault
returns-in-Err-clause-fault c = λ error refused.
    ap Err (one_fault c.args.decoder.now c.clone-reader.result c.index.result c.in-Err.error error c.index.ensures.value c.clone-reader.ensures c.in-Err.ensures.refused refused)
