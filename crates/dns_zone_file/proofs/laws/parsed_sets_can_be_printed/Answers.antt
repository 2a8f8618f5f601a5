use Rattle.dns_zone_file.proofs.ValidLaws.{text_file}
use Rattle.dns_zone_file.proofs.laws.parsed_sets_can_be_printed.Goals as goal

pub returns-clause-sets : goal.returns-clause-sets
returns-clause-sets c = λ file end is parses. (text_file file end is parses).sets

pub returns-clause-origin : goal.returns-clause-origin
returns-clause-origin c = λ file end is parses. (text_file file end is parses).origin

pub returns-clause-soa : goal.returns-clause-soa
returns-clause-soa c = λ file end is parses. (text_file file end is parses).first_soa
