use Rattle.std.proofs.Common.{◌==◌, ℕ, List, [], ◌∷◌, sym, subst, rules, tests}
use Rattle.std.proofs.lemmas.Iterator.Consumers.{YieldsList-at, YieldsList-end}
use Rattle.std.proofs.lemmas.Iterator.Splits.{YieldsList-from_slice_split}
use Rattle.std.proofs.lemmas.List.{map-append}
use Rattle.stub_servers.specs.resolv_conf.Settings.{SetsAll}
use Rattle.stub_servers.proofs.SettingLaws.{sets-next}
use Rattle.stub_servers.proofs.resolv_conf.settings.Settings.set_all.Goals as goal

pub loop-line-preserved : goal.loop-line-preserved
loop-line-preserved c =
    subst (λ (lines : List (List ℕ)). SetsAll lines c.args.self.now c.set_line.new.self) (sym (map-append (λ x. x.now) c.loop-line.yielded (c.in-Some.line ∷ [])))
    (sets-next _ c.in-Some.line.now c.args.self.now c.loop-line.self c.set_line.new.self c.loop-line.invariant c.in_ok-set_line.ensures)

pub returns : goal.returns
returns c =
    let seen = YieldsList-end
    (YieldsList-at c.into_iter-line-iterator.ensures.into_iter_gives
    (YieldsList-from_slice_split _ (λ (b : ℕ). b == 10) c.args.text.now c.split-line-items.ensures.rest c.split-line-items.ensures.done c.split-line-items.ensures.closure (λ x r q k. search (rules, tests))))
    c.loop-line.yielded _ c.loop-line.yielded_by _ _ c.in-None.is c.next.ensures.steps in
    subst (λ (lines : List (List ℕ)). SetsAll lines c.args.self.now c.loop-line.self) seen.0 c.loop-line.invariant
