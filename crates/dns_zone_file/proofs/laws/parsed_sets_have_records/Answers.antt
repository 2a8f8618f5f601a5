use Rattle.dns_zone_file.proofs.ParsedLaws.{parsed_file, soa_qualified, soa_set}
use Rattle.dns_zone_file.proofs.laws.parsed_sets_have_records.Goals as goal

pub returns-clause-sets : goal.returns-clause-sets
returns-clause-sets c = λ types includes origin text end parses. (parsed_file types includes origin text end parses).sets

pub returns-clause-distinct : goal.returns-clause-distinct
returns-clause-distinct c = λ types includes origin text end parses. (parsed_file types includes origin text end parses).distinct

pub returns-clause-origin : goal.returns-clause-origin
returns-clause-origin c = λ types includes origin text end parses. (parsed_file types includes origin text end parses).origin

pub returns-clause-soa : goal.returns-clause-soa
returns-clause-soa c = λ types includes origin text end parses. soa_qualified end (parsed_file types includes origin text end parses)

pub returns-clause-soa_set : goal.returns-clause-soa_set
returns-clause-soa_set c = λ types includes origin text end parses. soa_set end (parsed_file types includes origin text end parses)
