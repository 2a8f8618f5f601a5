use Rattle.dns_data.proofs.ParsedLaws.{data_same, data_not_refused, data_refused_same}
use Rattle.dns_data.proofs.laws.parsed_data_is_unambiguous.Goals as goal

pub returns : goal.returns
returns c = record { one = data_same; not_refused = data_not_refused; one_error = data_refused_same }
