use Rattle.std.proofs.Common.{arith}
use Rattle.std.proofs.lemmas.Int.{to_z-of_z}
use Rattle.std.specs.Int.{w32, to_be_bytes, cast_unsigned}
use Rattle.dns_wire.proofs.BytesAtLaws.{advances-bytes_at}
use Rattle.dns_wire.proofs.numbers.I32BinDecodable.read.Goals as goal

pub returns-clause-read : goal.returns-clause-read
returns-clause-read c =
    let decodes = advances-bytes_at c.args.decoder.now c.read_i32.new.self (to_be_bytes w32 (cast_unsigned w32 c.in_ok-number.number)) (omega arith) c.in_ok-number.ensures.ok c.in_ok-number.ensures.moved in
    (rw (to_z-of_z w32 c.in_ok-number.number (search arith)) decodes, search arith)
