use Rattle.stub_net.specs.Try.{no_memory_for_message, other_message, stream_replies}
use Rattle.stub_net.proofs.requester.stream.stream_outcome.Goals as goal

pub returns-in-Ok-Some : goal.returns-in-Ok-Some
returns-in-Ok-Some c =
    rw c.whole_reply.ensures (stream_replies c.args.bytes.items c.in-Ok-Some.response (rw c.in-Ok-Some.field-0-is at c.in-Ok-Some.ensures.found))

pub returns-in-Ok-None : goal.returns-in-Ok-None
returns-in-Ok-None c = other_message c.args.bytes.items (rw c.in-Ok-None.field-0-is at c.in-Ok-None.ensures.found)

pub returns-in-Err : goal.returns-in-Err
returns-in-Err c = no_memory_for_message c.args.bytes.items c.in-Err.ensures.headed
