use Rattle.std.proofs.Common.{subst, sym}
use Rattle.stub_link.specs.LinkState.{first_link_state}
use Rattle.stub_link.specs.ScriptedLink.{IsAt}
use Rattle.stub_run.specs.Questions.{AreAskable}
use Rattle.stub_play.proofs.PlayLaws.{RunsHold, played_as, played_in_memory}
use Rattle.stub_play.proofs.plays.traced.trace_loaded.Goals as goal

pub returns : goal.returns
returns g c =
    let laws : RunsHold = record {
      history = c.runs_have_one_history.ensures;
      drawn = c.ids_are_drawn_in_order.ensures;
      distinct = c.distinct_ids_are_not_reused.ensures.drawn;
      counted = c.distinct_ids_are_not_reused.ensures.counted;
    } in
    let input = c.args.input.now in
    let loaded = c.args.loaded in
    let traced = c.new-link.result in
    let askable : AreAskable loaded.script.events.items = subst AreAskable c.as_slice.ensures.value c.know_names.ensures in
    let at : IsAt traced.link (first_link_state loaded.zone input.limit) =
    subst (λ (l : _). IsAt l (first_link_state loaded.zone input.limit)) (sym c.new-link.ensures.link) c.scripted_link-inner.ensures in
    played_in_memory input loaded c.requires.loaded laws c.origin-origin.ensures.well_formed askable c.limit_of-limit.ensures.range
    c.resolvers_run_in_states.ensures traced.link at _ _ _ c.play_over_link.result
    (played_as _ _ input traced traced.link loaded.hosts loaded.script _ _ _ c.play_over_link.result
    (c.traced_resolvers_run_as_others.ensures traced) c.play_over_link.ensures)
