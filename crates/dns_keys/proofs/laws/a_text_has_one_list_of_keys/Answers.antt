use Rattle.dns_keys.proofs.FileLaws.{one_list}
use Rattle.dns_keys.proofs.laws.a_text_has_one_list_of_keys.Goals as goal

pub returns : goal.returns
returns c = λ text keys others is also. one_list text text keys others is also
