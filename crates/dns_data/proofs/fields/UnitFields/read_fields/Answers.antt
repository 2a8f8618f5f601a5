use Rattle.dns_data.proofs.EarlyLaws.{nothing_read}
use Rattle.dns_data.proofs.fields.UnitFields.read_fields.Goals as goal

pub returns-clause-early : goal.returns-clause-early
returns-clause-early c = λ data_end. nothing_read c.args._decoder.now.bytes data_end c.args._decoder.now.index
