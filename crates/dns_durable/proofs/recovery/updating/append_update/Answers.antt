use Rattle.std.proofs.Common.{◌≡◌, [], ℕ, List, refl, subst, ◌∙◌}
use Rattle.std.specs.Prelude.{is_ok}
use Rattle.dns_journal.specs.Appending.{Appends}
use Rattle.sha2.specs.Sha256.{sha256}
use Rattle.dns_durable.specs.recovery.Updating.{update_payload}
use Rattle.dns_durable.proofs.UpdatingLaws.{appends_update, nothing_appended}
use Rattle.dns_durable.proofs.recovery.updating.append_update.Goals as goal

pub returns-in-Err-clause-performs : goal.returns-in-Err-clause-performs
returns-in-Err-clause-performs g c = record {
  events = [];
  led = refl;
  holds = λ text updates d opened. nothing_appended text updates c.args.journal.now.position c.args.update.now d opened;
}

pub returns-clause-performs : goal.returns-clause-performs
returns-clause-performs g c =
    let payload_is : c.as_slice.result.now ≡ update_payload c.args.update.now = c.as_slice.ensures.value ∙ c.in-Ok.ensures.payload in
    let p = c.args.journal.now.position in
    let q = c.append.new.self.position in
    let es = c.append.ensures.performs.events in
    record {
      events = es;
      led = c.append.ensures.performs.led;
      holds = λ text updates d opened. appends_update text updates p q c.args.update.now d opened (is_ok c.append.result) es
          (subst (λ (m : List ℕ). Appends p q m (is_ok c.append.result) text opened.bytes (sha256 text) opened.payloads es) payload_is
          (c.append.ensures.performs.holds text opened.bytes (sha256 text) opened.payloads opened.at));
    }
