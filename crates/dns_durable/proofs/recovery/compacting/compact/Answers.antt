use Rattle.std.proofs.Common.{◌≡◌, ◌<◌, ◌+◌, ◌^◌, [], ◌++◌, ℕ, true, false, List, length, inl, inr, refl, subst, ◌∙◌, arith}
use Rattle.std.proofs.lemmas.Bool.Decides.{nat_tests}
use Rattle.sha2.specs.Sha256.{sha256}
use Rattle.dns_journal.specs.declared.journal.State.TheVariants as states
use Rattle.dns_journal.specs.Appending.{Appends, IsPosition}
use Rattle.dns_durable.specs.recovery.Beginning.{new_journal}
use Rattle.dns_durable.specs.recovery.Compacting.{IsReplaced, mark, payloads_of}
use Rattle.dns_durable.proofs.BeginningLaws.{first_digest, first_journal, first_position}
use Rattle.dns_durable.proofs.CompactingLaws.{all_done, replace_failed}
use Rattle.dns_durable.proofs.AskingLaws.{asks_done, asks_idle, asks_nothing, asks_refused, ready_or}
use Rattle.dns_durable.proofs.EventLaws.{led_append}
use Rattle.dns_durable.proofs.recovery.compacting.compact.Goals as goal

pub returns-then-new-gt-MAX_CARRIED_LEN-clause-performs : goal.returns-then-new-gt-MAX_CARRIED_LEN-clause-performs
returns-then-new-gt-MAX_CARRIED_LEN-clause-performs g c = record {
  events = [];
  led = refl;
  holds = asks_nothing c.args.new.text.now c.args.new.carried.now c.args.journal.now.position;
}

pub returns-in-Err-clause-performs : goal.returns-in-Err-clause-performs
returns-in-Err-clause-performs g c = record {
  events = [];
  led = refl;
  holds = asks_nothing c.args.new.text.now c.args.new.carried.now c.args.journal.now.position;
}

pub returns-in-Err-append-clause-performs : goal.returns-in-Err-append-clause-performs
returns-in-Err-append-clause-performs g c =
    let text = c.args.new.text.now in
    let carried = c.args.new.carried.now in
    let mark_is : c.as_slice.result.now ≡ mark text carried = c.as_slice.ensures.value ∙ c.in-Ok.ensures.mark in
    let p = c.args.journal.now.position in
    let q = c.append.new.self.position in
    let asked = c.in-Err-append.ensures.calls in
    let appended = c.in-Err-append.ensures.performs in
    elim (ready_or p.state) [
      | inl ready ↦ record {
        events = appended.events;
        led = appended.led;
        holds = asks_refused text carried p q appended.events ready
            (λ bytes digest payloads at old. subst (λ (m : List ℕ). Appends p q m false old bytes digest payloads appended.events) mark_is (appended.holds old bytes digest payloads at));
      }
      | inr not ↦ record {
        events = asked.events;
        led = asked.led;
        holds = asks_idle text carried _ _ p q c.in-Err-append.error asked.events not c.in-Err-append.ensures.refused asked.holds;
      }
    ]

pub returns-in-Ready-clause-performs : goal.returns-in-Ready-clause-performs
returns-in-Ready-clause-performs g c =
    let text = c.args.new.text.now in
    let carried = c.args.new.carried.now in
    let mark_is : c.as_slice.result.now ≡ mark text carried = c.as_slice.ensures.value ∙ c.in-Ok.ensures.mark in
    let p = c.args.journal.now.position in
    let q = c.append.new.self.position in
    let es = c.in-Ok-append.ensures.performs.events in
    let r = c.in-Ok.replacement.journal.position in
    let size = c.in-Ok.ensures.len in
    let short : length carried + 1 < 2 ^ 23 = grind (arith, nat_tests, c.if-new-gt-MAX_CARRIED_LEN.false) in
    let journal_is = c.as_slice-2.ensures.value ∙ c.in-Ok.ensures.journal in
    let key = c.args.key in
    let of_new = first_digest text key size in
    let begun = first_journal text key size c.a_header_is_a_journal.ensures c.an_appended_entry_is_read.ensures carried short in
    let at_end : IsPosition r (new_journal (sha256 text) key carried) (sha256 text) (payloads_of carried) =
    first_position text key size c.a_header_is_a_journal.ensures c.an_appended_entry_is_read.ensures carried short r c.in-Ok.ensures.position in
    record {
      events = es ++ c.in-Ready.ensures.events;
      led = led_append g.S.Storage.performs _ _ _ es c.in-Ready.ensures.events c.in-Ok-append.ensures.performs.led c.in-Ready.ensures.led;
      holds = asks_done text carried true p r _ (c.in-Ok-append.ensures.ready refl) (λ old bytes digest payloads at belongs one. all_done p old text carried bytes digest payloads belongs one q es
          (subst (λ (m : List ℕ). Appends p q m true old bytes digest payloads es) mark_is (c.in-Ok-append.ensures.performs.holds old bytes digest payloads at)) key of_new begun r
          c.in-Ready.ensures.events (subst (λ (j : List ℕ). IsReplaced text j states.Ready c.in-Ready.ensures.events) journal_is c.in-Ready.ensures.holds) at_end c.in-Ok.ensures.position.key_is c.in-Ok.ensures.position.ready);
    }

pub returns-in-Torn-clause-performs : goal.returns-in-Torn-clause-performs
returns-in-Torn-clause-performs g c =
    let text = c.args.new.text.now in
    let carried = c.args.new.carried.now in
    let mark_is : c.as_slice.result.now ≡ mark text carried = c.as_slice.ensures.value ∙ c.in-Ok.ensures.mark in
    let p = c.args.journal.now.position in
    let q = c.append.new.self.position in
    let es = c.in-Ok-append.ensures.performs.events in
    let size = c.in-Ok.ensures.len in
    let short : length carried + 1 < 2 ^ 23 = grind (arith, nat_tests, c.if-new-gt-MAX_CARRIED_LEN.false) in
    let journal_is = c.as_slice-2.ensures.value ∙ c.in-Ok.ensures.journal in
    let key = c.args.key in
    let of_new = first_digest text key size in
    let begun = first_journal text key size c.a_header_is_a_journal.ensures c.an_appended_entry_is_read.ensures carried short in
    record {
      events = es ++ c.in-Torn.ensures.events;
      led = led_append g.S.Storage.performs _ _ _ es c.in-Torn.ensures.events c.in-Ok-append.ensures.performs.led c.in-Torn.ensures.led;
      holds = asks_done text carried false p _ _ (c.in-Ok-append.ensures.ready refl) (λ old bytes digest payloads at belongs one. replace_failed p old text carried bytes digest payloads belongs one q es
          (subst (λ (m : List ℕ). Appends p q m true old bytes digest payloads es) mark_is (c.in-Ok-append.ensures.performs.holds old bytes digest payloads at)) key of_new begun _ states.Torn
          c.in-Torn.ensures.events (subst (λ (j : List ℕ). IsReplaced text j states.Torn c.in-Torn.ensures.events) journal_is c.in-Torn.ensures.holds) refl);
    }

pub returns-clause-performs : goal.returns-clause-performs
returns-clause-performs g c =
    let text = c.args.new.text.now in
    let carried = c.args.new.carried.now in
    let mark_is : c.as_slice.result.now ≡ mark text carried = c.as_slice.ensures.value ∙ c.in-Ok.ensures.mark in
    let p = c.args.journal.now.position in
    let q = c.append.new.self.position in
    let es = c.in-Ok-append.ensures.performs.events in
    let size = c.in-Ok.ensures.len in
    let short : length carried + 1 < 2 ^ 23 = grind (arith, nat_tests, c.if-new-gt-MAX_CARRIED_LEN.false) in
    let journal_is = c.as_slice-2.ensures.value ∙ c.in-Ok.ensures.journal in
    let key = c.args.key in
    let of_new = first_digest text key size in
    let begun = first_journal text key size c.a_header_is_a_journal.ensures c.an_appended_entry_is_read.ensures carried short in
    record {
      events = es ++ c.in-Lost.ensures.events;
      led = led_append g.S.Storage.performs _ _ _ es c.in-Lost.ensures.events c.in-Ok-append.ensures.performs.led c.in-Lost.ensures.led;
      holds = asks_done text carried false p _ _ (c.in-Ok-append.ensures.ready refl) (λ old bytes digest payloads at belongs one. replace_failed p old text carried bytes digest payloads belongs one q es
          (subst (λ (m : List ℕ). Appends p q m true old bytes digest payloads es) mark_is (c.in-Ok-append.ensures.performs.holds old bytes digest payloads at)) key of_new begun _ states.Lost
          c.in-Lost.ensures.events (subst (λ (j : List ℕ). IsReplaced text j states.Lost c.in-Lost.ensures.events) journal_is c.in-Lost.ensures.holds) refl);
    }
