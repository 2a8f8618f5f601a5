use Rattle.std.proofs.Common.{◌≡◌, [], length, refl, sym, subst, arith, rules}
use Rattle.std.proofs.lemmas.Bool.Decides.{nat_tests}
use Rattle.dns_journal.specs.declared.journal.State.TheVariants as states
use Rattle.dns_durable.specs.Storing.{Asks}
use Rattle.dns_durable.proofs.StoringLaws.{asks_append, asks_nothing, asks_refused, no_length, some_length}
use Rattle.dns_durable.proofs.storing.store.Goals as goal

pub returns-then-is_empty : goal.returns-then-is_empty
returns-then-is_empty g c =
    let none : length c.args.frames.now ≡ 0 = grind (arith, nat_tests, c.if-is_empty.ensures) in
    record { events = []; led = refl; holds = asks_nothing c.args.frames.now c.args.journal.now.position (no_length c.args.frames.now none) }

pub returns-then-ne : goal.returns-then-ne
returns-then-ne g c = record { events = []; led = refl; holds = asks_refused c.args.frames.now c.args.journal.now.position }

pub returns : goal.returns
returns g c =
    let some : ¬ (length c.args.frames.now ≡ 0) = grind (arith, nat_tests, c.if-is_empty.ensures) in
    let ready : c.args.journal.now.position.state ≡ states.Ready = search rules in
    let p = c.args.journal.now.position in
    let q = c.append_update.new.journal.position in
    let es = c.append_update.ensures.performs.events in
    record {
      events = es;
      led = c.append_update.ensures.performs.led;
      holds = subst (λ (b : _). Asks c.args.frames.now b p q es) (sym c.is_ok.ensures.value)
          (asks_append c.args.frames.now _ p q es (some_length c.args.frames.now some) ready c.append_update.ensures.performs.holds);
    }
