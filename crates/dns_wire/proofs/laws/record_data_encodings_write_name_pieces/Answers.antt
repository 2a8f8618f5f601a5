use Rattle.dns_wire.proofs.PieceLaws.{emits_name_piece, name_piece-writable}
use Rattle.dns_wire.proofs.laws.record_data_encodings_write_name_pieces.Goals as goal

pub returns-clause-emits : goal.returns-clause-emits
returns-clause-emits c = λ old new kind labels result e. emits_name_piece old new kind labels result e

pub returns-clause-writable : goal.returns-clause-writable
returns-clause-writable c = λ kind canonical labels are. name_piece-writable kind canonical labels are
