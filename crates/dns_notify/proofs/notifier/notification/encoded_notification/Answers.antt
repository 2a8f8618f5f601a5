use Rattle.std.proofs.Common.{◌∙◌, ap, Err}
use Rattle.dns_notify.proofs.MessageLaws.{never_long}
use Rattle.dns_notify.proofs.notifier.notification.encoded_notification.Goals as goal

pub unreachable-requires : goal.unreachable-requires
unreachable-requires c =
    never_long c.args.id c.args.origin.now c.args.start.now c.in_ok-message.message c.in_ok-message.ensures c.encoded_len-len.ensures.labels.fits
    (c.to_vec.ensures.full (c.in-Err-MaxBufferSizeExceeded.is ∙ ap Err c.in-Err-MaxBufferSizeExceeded.field-0-is))
