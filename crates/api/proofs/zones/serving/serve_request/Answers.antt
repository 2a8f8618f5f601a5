use Rattle.api.specs.zones.Serving.{IsRefused, Replies}
use Rattle.api.proofs.ServingLaws.{over_transport}
use Rattle.api.proofs.zones.serving.serve_request.Goals as goal

-- src/serving.rt:26:1
pub returns-in-Ok : goal.returns-in-Ok
returns-in-Ok c = over_transport (λ reply. reply.items) c.serve_over.result c.in-Ok.reply_transport c.in-Ok.ensures.reply_transport c.serve_over.ensures.ok c.serve_over.ensures.refused c.serve_over.ensures.err

-- src/serving.rt:26:1
pub returns-in-Err : goal.returns-in-Err
returns-in-Err c = Replies.unserved c.in-Err.refusal (IsRefused.by_transport c.in-Err.ensures.refused)
