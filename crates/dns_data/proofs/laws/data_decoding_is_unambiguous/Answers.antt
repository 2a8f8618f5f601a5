use Rattle.dns_data.proofs.UnambiguousLaws.{data_same, read_data_not_refused, read_data_refusal_same}
use Rattle.dns_data.proofs.laws.data_decoding_is_unambiguous.Goals as goal

pub returns : goal.returns
returns c = record {
  one = λ bytes place len t a b r r'. data_same bytes place len t a b r r';
  not_refused = λ bytes place len t a error r refused. read_data_not_refused bytes place len t a error r refused;
  one_error = λ bytes place len t error other r r'. read_data_refusal_same bytes place len t error other r r';
}
