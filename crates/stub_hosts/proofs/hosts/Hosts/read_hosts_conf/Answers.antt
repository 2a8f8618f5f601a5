use Rattle.std.proofs.Common.{◌==◌, ℕ, [], ◌∷◌, ◌∙◌, sym, subst, rules, tests}
use Rattle.std.proofs.lemmas.Iterator.Consumers.{YieldsList-at, YieldsList-end}
use Rattle.std.proofs.lemmas.Iterator.Splits.{YieldsList-from_slice_split}
use Rattle.std.proofs.lemmas.List.{map-append}
use Rattle.std.proofs.lemmas.Result.{err_from_is_err_and}
use Rattle.stub_hosts.specs.HostsFile.{without_mark, lines_of}
use Rattle.stub_hosts.proofs.LinesLaws.{LinesBefore, next_left, lines_next, lines_stop, lines_end}
use Rattle.stub_hosts.proofs.hosts.Hosts.read_hosts_conf.Goals as goal

pub loop-line-preserved : goal.loop-line-preserved
loop-line-preserved c =
    subst (LinesBefore c.args.now c.args.self.now c.read_line.new.self) (sym (map-append (λ x. x.now) c.loop-line.yielded (c.in-Some.line ∷ [])))
    (lines_next c.loop-line.invariant c.read_line.new.self c.in-Some.line.now c.in_ok-read_line.ensures)

pub returns-in_err-read_line : goal.returns-in_err-read_line
returns-in_err-read_line c =
    let p = err_from_is_err_and c.from_residual.result c.from_residual.ensures.1 in
    let left = next_left
    (YieldsList-at c.into_iter-line-iterator.ensures.into_iter_gives
    (YieldsList-from_slice_split _ (λ (b : ℕ). b == 10) (without_mark c.args.src.now) (c.split-line-items.ensures.rest ∙ c.without_mark.ensures) c.split-line-items.ensures.done c.split-line-items.ensures.closure (λ x r q k. search (rules, tests))))
    c.loop-line.yielded _ c.loop-line.yielded_by _ _ c.in-Some.line c.in-Some.is c.next.ensures.steps in
    rw (p.1, p.2) (lines_stop c.loop-line.invariant c.read_line.new.self (lines_of c.args.src.now) c.in-Some.line.now c.in_err-read_line.field-0.0 left c.in_err-read_line.ensures)

pub returns : goal.returns
returns c =
    let seen = YieldsList-end
    (YieldsList-at c.into_iter-line-iterator.ensures.into_iter_gives
    (YieldsList-from_slice_split _ (λ (b : ℕ). b == 10) (without_mark c.args.src.now) (c.split-line-items.ensures.rest ∙ c.without_mark.ensures) c.split-line-items.ensures.done c.split-line-items.ensures.closure (λ x r q k. search (rules, tests))))
    c.loop-line.yielded _ c.loop-line.yielded_by _ _ c.in-None.is c.next.ensures.steps in
    lines_end c.loop-line.invariant (lines_of c.args.src.now) (sym seen.0)
