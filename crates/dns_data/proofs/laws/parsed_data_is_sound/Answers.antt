use Rattle.dns_data.proofs.ParsedSoundLaws.{parsed_sound, parsed_type, parsed_has_data}
use Rattle.dns_data.proofs.laws.parsed_data_is_sound.Goals as goal

pub returns : goal.returns
returns c = record {
  sound = parsed_sound;
  not_opt = λ origin t tokens d p. (parsed_type origin t tokens d p).not_opt;
  not_tsig = λ origin t tokens d p. (parsed_type origin t tokens d p).not_tsig;
  has_data = parsed_has_data;
}
