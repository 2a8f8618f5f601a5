use Rattle.std.proofs.Common.{refl}
use Rattle.dns_wire.proofs.FillLaws.{fills}
use Rattle.dns_wire.proofs.laws.filling_a_place_is_writing_its_value.Goals as goal

pub returns : goal.returns
returns c = λ w suffixes_before behind a b end len. fills w suffixes_before behind a b _ end len refl
