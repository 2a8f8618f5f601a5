use Rattle.std.proofs.Common.{◌≡◌, Option, subst}
use Rattle.std.specs.Prelude.{IfOk}
use Rattle.dns_sockets.specs.Handler.{NoticeContent, notice_if}
use Rattle.nameserver_handlers.proofs.NoticeLaws.{notice_at}
use Rattle.nameserver_handlers.proofs.notices.take_notice_at.Goals as goal

pub returns-clause-notice : goal.returns-clause-notice
returns-clause-notice c =
    subst (λ (due : Option NoticeContent). IfOk c.take_notice.result (λ notice. notice_if notice ≡ due))
    (notice_at c.args.now c.args.followers.now c.args.place c.index-followers-place.result c.take_notice.new.follower c.requires.place c.take_notice.ensures.left).0
    c.take_notice.ensures.notice

pub returns-clause-left : goal.returns-clause-left
returns-clause-left c =
    (notice_at c.args.now c.args.followers.now c.args.place c.index-followers-place.result c.take_notice.new.follower c.requires.place c.take_notice.ensures.left).1
