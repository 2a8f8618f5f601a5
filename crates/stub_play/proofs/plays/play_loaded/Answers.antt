use Rattle.stub_run.specs.Questions.{AreAskable}
use Rattle.std.proofs.Common.{subst}
use Rattle.stub_play.proofs.PlayLaws.{RunsHold, played_in_memory}
use Rattle.stub_play.proofs.plays.play_loaded.Goals as goal

pub returns : goal.returns
returns g c =
    let laws : RunsHold = record {
      history = c.runs_have_one_history.ensures;
      drawn = c.ids_are_drawn_in_order.ensures;
      distinct = c.distinct_ids_are_not_reused.ensures.drawn;
      counted = c.distinct_ids_are_not_reused.ensures.counted;
    } in
    let loaded = c.args.loaded in
    let askable : AreAskable loaded.script.events.items = subst AreAskable c.as_slice.ensures.value c.know_names.ensures in
    played_in_memory c.args.input.now loaded c.requires.loaded laws c.origin-origin.ensures.well_formed askable c.limit_of-limit.ensures.range
    c.resolvers_run_in_states.ensures c.scripted_link-link.result c.scripted_link-link.ensures _ _ _ c.play_over_link.result c.play_over_link.ensures
