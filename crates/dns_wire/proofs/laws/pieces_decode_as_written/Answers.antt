use Rattle.dns_wire.specs.Encodable.{position_of}
use Rattle.dns_wire.proofs.PieceLaws.{pieces_decode}
use Rattle.dns_wire.proofs.laws.pieces_decode_as_written.Goals as goal

pub returns : goal.returns
returns c = λ w ps end stand is. pieces_decode w.bytes (position_of w) ps end stand is
