use Rattle.std.proofs.Common.{◌<◌, false, length, refl, subst}
use Rattle.std.proofs.lemmas.Option.{slice_get_read}
use Rattle.stub_run.specs.Event.{AreHonest}
use Rattle.stub_play.specs.Plays.{IsFirstListed}
use Rattle.stub_play.proofs.PlayLaws.{first_at_some, line_beside, usable_if}
use Rattle.stub_play.proofs.plays.refuse_link_words.Goals as goal

pub returns-in-Some-clause-fault : goal.returns-in-Some-clause-fault
returns-in-Some-clause-fault c =
    let script = c.args.script.now in
    let first : IsFirstListed script.events.items c.in-Some.place =
    first_at_some IsFirstListed c.as_slice.result.now script.events.items c.first_listed.result c.in-Some.place c.as_slice.ensures.value
    c.in-Some.is c.first_listed.ensures.first in
    let below : c.in-Some.place < length script.lines.items = rw c.requires first.is_event in (
      c.index.result.now,
      refl,
      c.if-not-input.false,
      line_beside IsFirstListed script.lines.items script.events.items c.in-Some.place c.index.result.now c.requires first
          (slice_get_read script.lines.items (length script.lines.items) c.in-Some.place c.index.result.now refl below c.index.ensures),
    )

pub returns-in-None-clause-usable : goal.returns-in-None-clause-usable
returns-in-None-clause-usable c =
    usable_if c.args.input.now c.args.script.now c.requires
    (λ udp. subst AreHonest c.as_slice.ensures.value (c.first_listed.ensures.none c.in-None.is))
