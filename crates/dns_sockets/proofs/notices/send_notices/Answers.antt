use Rattle.std.proofs.Common.{◌++◌, ◌∷◌, [], arith, map, refl, subst, Option, Some, None}
use Rattle.dns_sockets.specs.Handler.{NoticeContent, Noticed, notice_if}
use Rattle.dns_sockets.specs.Trace.{At, By, Nowhere}
use Rattle.dns_sockets.specs.declared.handler.Notice.{Notice}
use Rattle.dns_sockets.proofs.NoticeLaws.{notices_end, notices_more, notices_whole}
use Rattle.dns_sockets.proofs.TraceLaws.{leads_at, leads_both}
use Rattle.dns_sockets.proofs.notices.send_notices.Goals as goal

pub returns-in_default : goal.returns-in_default
returns-in_default g c =
    let before = c.loop-notice.invariant in
    let performs = g.W.World.performs in
    let steps = g.H.Handler.steps in
    let handler = c.loop-notice.handler in
    record {
      acts = before.0 ++ By Nowhere (Noticed c.args.now None) ∷ [];
      leads = leads_both performs steps c.args.world.now c.loop-notice.world c.loop-notice.world c.args.handler.now handler c.next_notice.new.self before.0 (By Nowhere (Noticed c.args.now None) ∷ []) before.1.0
          (c.next_notice.new.self, (subst (λ (n : Option Notice). steps handler (Noticed c.args.now (notice_if n)) c.next_notice.new.self) c.in_default.is c.next_notice.ensures, (refl, refl)));
      holds = notices_end c.loop-notice._notice 64 c.args.sockets c.args.now before.0 c.loop-notice-test.true before.1.1;
    }

pub loop-notice-preserved : goal.loop-notice-preserved
loop-notice-preserved g c =
    let before = c.loop-notice.invariant in
    let performs = g.W.World.performs in
    let steps = g.H.Handler.steps in
    let handler = c.loop-notice.handler in
    let sent = c.send.ensures in
    let notice : NoticeContent = record { peer = c.in-Some.notice.peer; bytes = c.in-Some.notice.bytes.items } in
    let one = By Nowhere (Noticed c.args.now (Some notice)) ∷ map At sent.events in (
      before.0 ++ one,
      (
        leads_both performs steps c.args.world.now c.loop-notice.world c.send.new.world c.args.handler.now handler c.next_notice.new.self before.0 one before.1.0 (
          c.next_notice.new.self,
          (
            subst (λ (n : Option Notice). steps handler (Noticed c.args.now (notice_if n)) c.next_notice.new.self) c.in-Some.is c.next_notice.ensures,
            leads_at performs steps c.loop-notice.world c.send.new.world c.next_notice.new.self sent.events sent.led,
          ),
        ),
        notices_more c.loop-notice._notice 64 c.args.sockets c.args.now notice before.0 one c.loop-notice-test.true (sent.events, (refl, sent.holds)) before.1.1,
      ),
    )

pub returns : goal.returns
returns g c =
    let before = c.loop-notice.invariant in
    record {
      acts = before.0;
      leads = before.1.0;
      holds = notices_whole c.loop-notice._notice 64 c.args.sockets c.args.now before.0 (omega (arith, c.loop-notice-test.false)) before.1.1;
    }
