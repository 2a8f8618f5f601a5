use Rattle.std.proofs.Common.{◌≡◌, Option, subst}
use Rattle.dns_message_bytes.specs.view.RecordViews.{LendsRecord}
use Rattle.dns_message_bytes.specs.declared.view.record_view.RecordView.{RecordView}
use Rattle.dns_authority.proofs.MalformedLaws.{passed, found, ended}
use Rattle.dns_authority.proofs.replies.malformed.is_opt_among.Goals.{After-next}
use Rattle.dns_authority.proofs.replies.malformed.is_opt_among.Goals as goal

-- what the call of `next` lent
lent : (c : After-next) → (o : Option RecordView) → c.next.result ≡ o → LendsRecord c.loop-record.record-iterator o c.next.new.self
lent c o is = subst (λ (o : Option RecordView). LendsRecord c.loop-record.record-iterator o c.next.new.self) is c.next.ensures.steps

pub returns-in-OPT : goal.returns-in-OPT
returns-in-OPT c =
    found c.args.records c.loop-record.record-iterator c.next.new.self c.in-Some.record c.loop-record.invariant.1.1
    (lent (goal.at.returns-in-OPT c).After-next _ c.in-Some.is) c.in-OPT.is

pub loop-record-preserved : goal.loop-record-preserved
loop-record-preserved c = (
  tt,
  (
    tt,
    passed c.args.records c.loop-record.record-iterator c.next.new.self c.in-Some.record c.loop-record.invariant.1.1
        (lent (goal.at.loop-record-preserved c).After-next _ c.in-Some.is) c.in_default.not-OPT,
  ),
)

pub returns : goal.returns
returns c =
    ended c.args.records c.loop-record.record-iterator c.next.new.self c.loop-record.invariant.1.1
    (lent (goal.at.returns c).After-next _ c.in-None.is)
