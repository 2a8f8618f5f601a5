use Rattle.dns_zone_file.proofs.DataLaws.{sound_in, not_opt_in, not_tsig_in, has_data_in}
use Rattle.dns_zone_file.proofs.laws.data_in_zone_files_is_sound.Goals as goal

pub returns : goal.returns
returns c = record { sound = sound_in; not_opt = not_opt_in; not_tsig = not_tsig_in; has_data = has_data_in }
