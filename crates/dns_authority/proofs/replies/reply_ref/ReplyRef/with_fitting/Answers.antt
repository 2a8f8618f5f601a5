use Rattle.std.proofs.Common.{◌≤◌, ℕ, subst}
use Rattle.dns_authority.specs.replies.Sending.{borrowed_message}
use Rattle.dns_authority.proofs.WholeSetsLaws.{fitting_there}
use Rattle.dns_authority.proofs.replies.reply_ref.ReplyRef.with_fitting.Goals as goal

pub slice_bounds-result-end : goal.slice_bounds-result-end
slice_bounds-result-end c =
    fitting_there c.args.limit c.set_start-end.result (borrowed_message c.args.self)
    (subst (λ (k : ℕ). c.set_start-end.result ≤ k) c.in_ok-count.ensures c.set_start-end.ensures.within)
