use Rattle.dns_data.proofs.WritingLaws.{written_decodes, written_len}
use Rattle.dns_data.proofs.laws.written_data_decodes.Goals as goal

pub returns : goal.returns
returns c = record {
  decodes = λ w d end targets keeps sound are. written_decodes w d end targets keeps sound are;
  fits = λ w d sound. written_len w d sound.fits;
}
