use Rattle.std.proofs.Common.{arith}
use Rattle.std.specs.Int.{w32, to_be_bytes}
use Rattle.dns_wire.proofs.BytesAtLaws.{advances-bytes_at}
use Rattle.dns_data.proofs.fields.U32Field.read_field.Goals as goal

pub returns-clause-read : goal.returns-clause-read
returns-clause-read c = λ data_end. (advances-bytes_at c.args.decoder.now c.read_u32.new.self (to_be_bytes w32 c.in_ok-number.number) (omega arith) c.in_ok-number.ensures.ok c.in_ok-number.ensures.moved, search arith)
