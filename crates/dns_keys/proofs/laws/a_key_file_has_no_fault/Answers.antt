use Rattle.dns_keys.proofs.FileLaws.{no_fault}
use Rattle.dns_keys.proofs.laws.a_key_file_has_no_fault.Goals as goal

pub returns : goal.returns
returns c = λ text keys error is refused. no_fault text text keys error is refused
