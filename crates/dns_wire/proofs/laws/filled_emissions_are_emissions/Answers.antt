use Rattle.std.proofs.Common.{refl}
use Rattle.dns_wire.specs.Encodable.{position_of}
use Rattle.dns_wire.proofs.FillLaws.{emits_filled, refused_same_len, place_within}
use Rattle.dns_wire.proofs.laws.filled_emissions_are_emissions.Goals as goal

pub returns-clause-filled : goal.returns-clause-filled
returns-clause-filled c = λ old middle new suffixes_before behind a b end len e is. emits_filled old middle new suffixes_before behind a b _ end len refl e is

pub returns-clause-refused : goal.returns-clause-refused
returns-clause-refused c = λ old new suffixes_before behind a b error len e. refused_same_len old new suffixes_before behind a b error len e

pub returns-clause-within : goal.returns-clause-within
returns-clause-within c = λ old suffixes_before behind a fits. place_within old.limit (position_of old) suffixes_before behind a fits
