use Rattle.std.proofs.Common.{◌∙◌, ap, sym}
use Rattle.std.specs.Prelude.{position}
use Rattle.nameserver_handlers.specs.Notices.{is_due}
use Rattle.nameserver_handlers.proofs.NoticeLaws.{none_due}
use Rattle.nameserver_handlers.proofs.notices.Notices.next_notice.Goals as goal

pub returns-in-None-clause-notice : goal.returns-in-None-clause-notice
returns-in-None-clause-notice c =
    sym (none_due c.args.now c.args.self.now.followers.items (ap (position (is_due c.args.now)) (sym c.as_slice.ensures.value) ∙ sym c.in-None.ensures.place)).0

pub returns-in-None-clause-left : goal.returns-in-None-clause-left
returns-in-None-clause-left c =
    sym (none_due c.args.now c.args.self.now.followers.items (ap (position (is_due c.args.now)) (sym c.as_slice.ensures.value) ∙ sym c.in-None.ensures.place)).1
