use Rattle.dns_message_bytes.proofs.FrameLaws.{read_back}
use Rattle.dns_message_bytes.proofs.frames.laws.frames_are_split.Goals as goal

pub returns : goal.returns
returns c = read_back
