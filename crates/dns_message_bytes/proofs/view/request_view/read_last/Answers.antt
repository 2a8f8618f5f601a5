use Rattle.std.proofs.Common.{Some}
use Rattle.dns_wire.specs.Decoder.{rest}
use Rattle.dns_message_bytes.proofs.RequestLaws.{no_opt}
use Rattle.dns_message_bytes.proofs.view.request_view.read_last.Goals as goal

pub returns-in-Some-clause-read : goal.returns-in-Some-clause-read
returns-in-Some-clause-read c =
    let found = c.in-Some.ensures.read in
    (Some found.0, ((c.in-1.is, (rest c.read.new.decoder, found.1.0)), found.1.1))

pub returns-in-None-clause-none : goal.returns-in-None-clause-none
returns-in-None-clause-none c = λ _ edns reads. no_opt (rest c.args.decoder.now) c.args.count c.in-1.is (c.read.ensures.none c.in-None.is) edns reads
