use Rattle.dns_messages.proofs.HeaderLaws.{header_read}
use Rattle.dns_messages.proofs.header.HeaderBinDecodable.read.Goals as goal

pub returns-clause-read : goal.returns-clause-read
returns-clause-read c = header_read c.args.decoder.now c.read_slice.new.self c.in_ok-bytes.bytes.now c.from_slice.result c.in_ok-bytes.ensures.len c.in_ok-bytes.ensures.ok c.in_ok-bytes.ensures.moved c.from_slice.ensures
