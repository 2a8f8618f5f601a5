use Rattle.dns_differences.proofs.HistoryLaws.{is_known, since_history}
use Rattle.dns_differences.proofs.laws.differences_since_a_version_lead_to_the_current_one.Goals as goal

pub returns : goal.returns
returns c = record {
  last = λ ds current serial d more e. let k = is_known ds current serial d more e in (k.begins_at.older, k.begins_at.split);
  begins = λ ds current serial d more e. (is_known ds current serial d more e).begins_at.serial_is;
  ends = λ ds current serial d more e. (is_known ds current serial d more e).ends_at;
  leads = since_history;
}
