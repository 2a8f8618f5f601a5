use Rattle.std.proofs.Common.{ℕ, List, subst}
use Rattle.dns_message_bytes.specs.frames.Frame.{ReadsAll}
use Rattle.dns_message_bytes.proofs.FrameLaws.{same_messages}
use Rattle.dns_message_bytes.proofs.frames.laws.list_sources_are_split.Goals as goal

pub returns : goal.returns
returns c = λ one other messages others same reads reads'.
    same_messages other.left messages others (subst (λ (l : List ℕ). ReadsAll l messages) same reads) reads'
