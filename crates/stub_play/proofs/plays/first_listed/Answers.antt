use Rattle.std.proofs.Common.{true, false, sym, subst, ap, ◌∙◌}
use Rattle.std.proofs.lemmas.List.{take_all}
use Rattle.stub_run.specs.Event.{AreHonest}
use Rattle.stub_run.specs.declared.event.Event.{Event}
use Rattle.stub_play.proofs.HonestLaws.{honest-more, listed-at}
use Rattle.stub_play.proofs.plays.first_listed.Goals as goal

pub returns-then-is_listed-clause-first : goal.returns-then-is_listed-clause-first
returns-then-is_listed-clause-first c = record {
  is_event = c.loop-i-test.true;
  before = c.loop-i.invariant;
  listed =
      listed-at c.args.events.now c.loop-i.i c.index-events-i.result c.loop-i-test.true
      (λ honest. let not = c.is_listed.ensures.1 (ap (λ (e : Event). e.script) c.index-events-i.is ∙ honest) in absurd (cc (not, c.if-is_listed.true)));
}

pub loop-i-preserved : goal.loop-i-preserved
loop-i-preserved c =
    honest-more c.args.events.now c.loop-i.i c.index-events-i.result c.loop-i-test.true c.loop-i.invariant
    (sym (ap (λ (e : Event). e.script) c.index-events-i.is) ∙ c.is_listed.ensures.0 c.if-is_listed.false)

pub returns-clause-none : goal.returns-clause-none
returns-clause-none c = λ none.
    subst AreHonest (take_all c.loop-i.i c.args.events.now c.loop-i-test.false) c.loop-i.invariant
