use Rattle.dns_fields.proofs.KeyBackLaws.{key_back}
use Rattle.dns_fields.proofs.ValueBackLaws.{parameter_back}
use Rattle.dns_fields.proofs.WordBackLaws.{word_back, word_run}
use Rattle.dns_fields.proofs.service.laws.parameters_are_read_back.Goals as goal

pub returns : goal.returns
returns c = record {
  key = λ key small. key_back key small;
  word = λ octets are. word_run octets are;
  octets = λ octets are. word_back octets are;
  value = λ all key value are is. parameter_back all key value are is;
}
