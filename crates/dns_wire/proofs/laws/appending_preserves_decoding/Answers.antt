use Rattle.dns_wire.proofs.PieceLaws.{pieces_at-append}
use Rattle.dns_wire.proofs.laws.appending_preserves_decoding.Goals as goal

pub returns : goal.returns
returns c = λ encoding bytes more place end ps h. pieces_at-append encoding bytes more place ps end h
