use Rattle.std.proofs.Common.{◌∙◌, Option, arith, refl, subst}
use Rattle.dns_sockets.specs.Service.{known_of}
use Rattle.dns_sockets.specs.Trace.{IsQuiet}
use Rattle.dns_sockets.specs.World.{Woken}
use Rattle.dns_sockets.specs.declared.world.Wake.{Wake}
use Rattle.dns_sockets.proofs.ListenerLaws.{turns_both, turns_kept}
use Rattle.dns_sockets.proofs.NotedLaws.{none_noted, noted_all, noted_end, noted_last, one_noted}
use Rattle.dns_sockets.proofs.TraceLaws.{performs_all, performs_none, performs_one}
use Rattle.dns_sockets.proofs.service.Service.note_all.Goals as goal

pub loop-wake-init : goal.loop-wake-init
loop-wake-init g c = record {
  events = performs_none g.W.World.performs IsQuiet c.args.world.now;
  waiting = refl;
  streams = λ index. refl;
  noted = none_noted g.W.World.performs c.args.world.now (known_of c.args.self.now);
  turns = turns_kept c.args.self.now.streams;
}

pub returns-in_default-clause-world : goal.returns-in_default-clause-world
returns-in_default-clause-world g c =
    performs_all g.W.World.performs IsQuiet c.args.world.now c.loop-wake.world c.next_wake.new.self c.loop-wake.invariant.events
    (performs_one g.W.World.performs IsQuiet c.loop-wake.world c.next_wake.new.self (Woken c.next_wake.result) c.next_wake.ensures tt)

pub returns-in_default-clause-notes : goal.returns-in_default-clause-notes
returns-in_default-clause-notes g c =
    noted_last g.W.World.performs c.args.world.now c.loop-wake.world c.next_wake.new.self c.loop-wake._wake (known_of c.args.self.now) (known_of c.loop-wake.self) c.loop-wake.invariant.noted
    (subst (λ (woken : Option Wake). g.W.World.performs c.loop-wake.world (Woken woken) c.next_wake.new.self) c.in_default.is c.next_wake.ensures)

pub returns-then-note : goal.returns-then-note
returns-then-note g c = record {
  world = performs_all g.W.World.performs IsQuiet c.args.world.now c.loop-wake.world c.next_wake.new.self c.loop-wake.invariant.events
      (performs_one g.W.World.performs IsQuiet c.loop-wake.world c.next_wake.new.self (Woken c.next_wake.result) c.next_wake.ensures tt);
  waiting = c.note.ensures.waiting ∙ c.loop-wake.invariant.waiting;
  streams = λ index. c.note.ensures.streams index ∙ c.loop-wake.invariant.streams index;
  notes = noted_end g.W.World.performs c.args.world.now c.loop-wake.world c.next_wake.new.self c.loop-wake._wake (known_of c.args.self.now) (known_of c.loop-wake.self) (known_of c.note.new.self) c.in-Some.wake
      c.loop-wake.invariant.noted (subst (λ (woken : Option Wake). g.W.World.performs c.loop-wake.world (Woken woken) c.next_wake.new.self) c.in-Some.is c.next_wake.ensures) (cc) c.note.ensures.noted;
  turns = turns_both c.args.self.now.streams c.loop-wake.self.streams c.note.new.self.streams c.loop-wake.invariant.turns c.note.ensures.turns;
}

pub loop-wake-preserved : goal.loop-wake-preserved
loop-wake-preserved g c = record {
  events = performs_all g.W.World.performs IsQuiet c.args.world.now c.loop-wake.world c.next_wake.new.self c.loop-wake.invariant.events
      (performs_one g.W.World.performs IsQuiet c.loop-wake.world c.next_wake.new.self (Woken c.next_wake.result) c.next_wake.ensures tt);
  waiting = c.note.ensures.waiting ∙ c.loop-wake.invariant.waiting;
  streams = λ index. c.note.ensures.streams index ∙ c.loop-wake.invariant.streams index;
  noted = one_noted g.W.World.performs c.args.world.now c.loop-wake.world c.next_wake.new.self c.loop-wake._wake (known_of c.args.self.now) (known_of c.loop-wake.self) (known_of c.note.new.self) c.in-Some.wake
      c.loop-wake.invariant.noted (subst (λ (woken : Option Wake). g.W.World.performs c.loop-wake.world (Woken woken) c.next_wake.new.self) c.in-Some.is c.next_wake.ensures) (cc) c.note.ensures.noted;
  turns = turns_both c.args.self.now.streams c.loop-wake.self.streams c.note.new.self.streams c.loop-wake.invariant.turns c.note.ensures.turns;
}

pub returns-clause-notes : goal.returns-clause-notes
returns-clause-notes g c =
    noted_all g.W.World.performs c.args.world.now c.loop-wake.world c.loop-wake._wake (known_of c.args.self.now) (known_of c.loop-wake.self) c.loop-wake.invariant.noted (omega arith)
