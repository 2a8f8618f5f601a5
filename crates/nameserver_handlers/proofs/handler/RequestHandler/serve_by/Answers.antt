use Rattle.nameserver_handlers.proofs.RuleLaws.{one_question}
use Rattle.nameserver_handlers.proofs.handler.RequestHandler.serve_by.Goals as goal

pub coded-requires : goal.coded-requires
coded-requires g c = one_question c.args.self.now.faults c.args.request.now.transport c.args.decided.now.request c.requires.decided.rule c.requires.decided.decides

pub serve_by_former-requires-clause-sound : goal.serve_by_former-requires-clause-sound
serve_by_former-requires-clause-sound g c = c.decoded_messages_are_sound.ensures c.args.request.now.bytes.now c.args.decided.now.request c.requires.decided.reads
