use Rattle.dns_text.proofs.PrintedData.{name_datum, decimal_datum, address_datum, string_datum}
use Rattle.dns_text.proofs.laws.printed_values_are_data.Goals as goal

pub returns : goal.returns
returns c = record { name = name_datum; number = decimal_datum; address = address_datum; string = string_datum }
