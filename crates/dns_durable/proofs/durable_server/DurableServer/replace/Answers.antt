use Rattle.std.proofs.Common.{ℕ, List, true, false, refl, subst}
use Rattle.std.specs.String.{string_bytes}
use Rattle.dns_journal.specs.Appending.{IsRefusal}
use Rattle.dns_durable.specs.recovery.Compacting.{AsksToCompact, mark}
use Rattle.dns_durable.proofs.CompactionLaws.{served_again}
use Rattle.dns_durable.proofs.durable_server.DurableServer.replace.Goals as goal

pub returns-in-Ok-clause-performs : goal.returns-in-Ok-clause-performs
returns-in-Ok-clause-performs g c = λ successor.
    let p = c.args.self.now.journal.position in
    let q = c.compact.new.journal.position in
    let es = c.in-Ok.ensures.performs.events in
    record {
      events = es;
      led = c.in-Ok.ensures.performs.led;
      holds = record {
        again = successor.again;
        behind = successor.behind;
        served = λ _. served_again c.args.self.now.server c.serve_again.new.server c.args.rewritten.zone c.in_ok-server.server successor.again c.args.rewritten.carried.items
            c.in_ok-server.ensures.ok c.serve_again.ensures successor.served;
        unchanged = λ e. absurd cc;
        ready = λ _. c.in-Ok.ensures.ready refl;
        asks = subst (λ (t : List ℕ). AsksToCompact t c.args.rewritten.carried.items true p q es) c.as_bytes.ensures.value
            (subst (λ (k : List ℕ). AsksToCompact c.as_bytes.result.now k true p q es) c.as_slice.ensures.value c.in-Ok.ensures.performs.holds);
      };
    }

pub returns-clause-performs : goal.returns-clause-performs
returns-clause-performs g c = λ successor.
    let p = c.args.self.now.journal.position in
    let q = c.compact.new.journal.position in
    let es = c.in-Err.ensures.performs.events in
    record {
      events = es;
      led = c.in-Err.ensures.performs.led;
      holds = record {
        again = successor.again;
        behind = successor.behind;
        served = λ e. absurd cc;
        unchanged = λ _. refl;
        ready = λ e. absurd cc;
        asks = subst (λ (t : List ℕ). AsksToCompact t c.args.rewritten.carried.items false p q es) c.as_bytes.ensures.value
            (subst (λ (k : List ℕ). AsksToCompact c.as_bytes.result.now k false p q es) c.as_slice.ensures.value c.in-Err.ensures.performs.holds);
      };
    }

pub returns-clause-refused : goal.returns-clause-refused
returns-clause-refused g c = λ successor.
    let p = c.args.self.now.journal.position in
    let q = c.compact.new.journal.position in
    record {
      text = string_bytes c.args.rewritten.text;
      carried = c.args.rewritten.carried.items;
      again = successor.again;
      behind = successor.behind;
      refused = subst (λ (t : List ℕ). IsRefusal p (mark t c.args.rewritten.carried.items) q c.in-Err.error) c.as_bytes.ensures.value
          (subst (λ (k : List ℕ). IsRefusal p (mark c.as_bytes.result.now k) q c.in-Err.error) c.as_slice.ensures.value c.in-Err.ensures.refused);
    }
