use Rattle.dns_message_bytes.specs.view.MessageView.{RawMessage}
use Rattle.dns_authority.specs.replies.Malformed.IsOptFound.{formless}
use Rattle.dns_authority.proofs.MalformedLaws.{shown}
use Rattle.dns_authority.proofs.replies.malformed.has_opt.Goals as goal

pub returns-in-Ok : goal.returns-in-Ok
returns-in-Ok c =
    let read = c.in-Ok.ensures.read in
    let m : RawMessage = read.0 in
    shown c.args.bytes.now m c.is_opt_among.result read.1.0
    (c.is_opt_among.ensures m.additionals (rw c.additionals.ensures read.1.1.additionals))

pub returns-in-Err : goal.returns-in-Err
returns-in-Err c = formless (c.in-Err.ensures.refused)
