use Rattle.dns_wire.proofs.PieceLaws.{emits_whole}
use Rattle.dns_wire.proofs.laws.whole_encodings_write_whole_names.Goals as goal

pub returns : goal.returns
returns c = λ old new encoding labels result whole e. emits_whole old new encoding labels result whole e
