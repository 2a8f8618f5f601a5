use Rattle.std.proofs.Common.{◌≡◌, ◌≢◌, ◌⊎◌, ℕ, List, [], ◌∷◌, ◌++◌, false, length, map, refl, sym, ap, subst, ◌∙◌, inr, arith, IsTrue, Bor}
use Rattle.std.proofs.lemmas.Bool.Decides.{nat_tests}
use Rattle.std.proofs.lemmas.Result.{IfOk-weaker}
use Rattle.sha2.specs.Sha256.{sha256}
use Rattle.dns_journal.specs.format.Format.{digest_in, IsJournal}
use Rattle.dns_durable.specs.recovery.Compacting.{entries_of, last_payload, mark, updates_in}
use Rattle.dns_durable.specs.recovery.Opening.{IsContentOf, IsOfText, StandFor, files_read}
use Rattle.dns_durable.proofs.OpeningLaws.{begins_opens, carried_short, none_if_empty, only_carried, resumed_stand, resumes_opens}
use Rattle.dns_durable.proofs.recovery.opening.open_journal.Goals as goal

nothing : (xs : List ℕ) → length xs ≡ 0 → xs ≡ []
nothing [] e = refl
nothing (x ∷ xs) e = absurd (omega (arith, e))

no_truth : IsTrue false → ⊥
no_truth e = cc

journal_at : (bytes other head : List ℕ) (payloads : List (List ℕ)) (end : List ℕ) → bytes ≡ other → IsJournal bytes head payloads end → IsJournal other head payloads end
journal_at bytes other head payloads end same is = subst (λ (b : List ℕ). IsJournal b head payloads end) same is

pub returns-then-is_empty-clause-performs : goal.returns-then-is_empty-clause-performs
returns-then-is_empty-clause-performs g c =
    let files = files_read c.args.files.now in
    let size : length files.journal ≡ 0 = grind (arith, nat_tests, c.if-is_empty.ensures) in
    record {
      events = c.begin.ensures.performs.events;
      led = c.begin.ensures.performs.led;
      holds = begins_opens files c.as_slice.result.now c.args.key [] c.as_slice.ensures.value c.begin.ensures.len (omega arith) (none_if_empty files (nothing files.journal size))
          c.a_header_is_a_journal.ensures c.an_appended_entry_is_read.ensures c.begin.result c.begin.ensures.performs.events c.begin.ensures.performs.holds;
    }

pub returns-then-is_same-clause-ok : goal.returns-then-is_same-clause-ok
returns-then-is_same-clause-ok g c =
    let files = files_read c.args.files.now in
    let payloads : List (List ℕ) = map (λ p. p.now) c.in-Ok.content.payloads.items in
    let own : digest_in c.in-Ok.content.head.now ≡ sha256 files.text = c.if-is_same.ensures.0 refl ∙ c.as_slice-4.ensures ∙ c.digest_of-digest.ensures ∙ ap sha256 c.as_slice-3.ensures.value in
    let is : IsJournal files.journal c.in-Ok.content.head.now payloads c.in-Ok.content.end.now = journal_at _ _ _ payloads _ c.as_slice-2.ensures.value c.in-Ok.ensures.journal in
    IfOk-weaker c.resume_updates.result (λ opened. map (λ u. u.now) opened.updates.items ≡ updates_in payloads) (λ opened. StandFor files (map (λ u. u.now) opened.updates.items))
    (λ opened are. resumed_stand c.journals_read_unambiguously.ensures files c.in-Ok.content.head.now payloads c.in-Ok.content.end.now own is (map (λ u. u.now) opened.updates.items) are) c.resume_updates.ensures.updates

pub returns-then-is_same-clause-key : goal.returns-then-is_same-clause-key
returns-then-is_same-clause-key g c =
    let files = files_read c.args.files.now in
    let payloads : List (List ℕ) = map (λ p. p.now) c.in-Ok.content.payloads.items in
    let own : digest_in c.in-Ok.content.head.now ≡ sha256 files.text = c.if-is_same.ensures.0 refl ∙ c.as_slice-4.ensures ∙ c.digest_of-digest.ensures ∙ ap sha256 c.as_slice-3.ensures.value in
    let is : IsJournal files.journal c.in-Ok.content.head.now payloads c.in-Ok.content.end.now = journal_at _ _ _ payloads _ c.as_slice-2.ensures.value c.in-Ok.ensures.journal in
    let of_text : IsOfText files = record { head = c.in-Ok.content.head.now; payloads = payloads; end = c.in-Ok.content.end.now; journal = is; own = own } in
    IfOk-weaker c.resume_updates.result (λ opened. map (λ u. u.now) opened.updates.items ≡ updates_in payloads) (λ opened. (opened.position.key ≡ c.args.key) ⊎ IsOfText files)
    (λ opened are. inr of_text) c.resume_updates.ensures.updates

pub returns-then-is_same-clause-performs : goal.returns-then-is_same-clause-performs
returns-then-is_same-clause-performs g c =
    let files = files_read c.args.files.now in
    let payloads : List (List ℕ) = map (λ p. p.now) c.in-Ok.content.payloads.items in
    let own : digest_in c.in-Ok.content.head.now ≡ sha256 files.text = c.if-is_same.ensures.0 refl ∙ c.as_slice-4.ensures ∙ c.digest_of-digest.ensures ∙ ap sha256 c.as_slice-3.ensures.value in
    let is : IsJournal files.journal c.in-Ok.content.head.now payloads c.in-Ok.content.end.now = journal_at _ _ _ payloads _ c.as_slice-2.ensures.value c.in-Ok.ensures.journal in
    let of : IsContentOf c.in-Ok.content files.journal c.in-Ok.content.head.now payloads = record {
      journal = is;
      len = c.in-Ok.ensures.len ∙ ap length c.as_slice-2.ensures.value;
      head_is = refl;
      link_is = c.in-Ok.ensures.link;
    } in
    record {
      events = c.resume_updates.ensures.performs.events;
      led = c.resume_updates.ensures.performs.led;
      holds = resumes_opens c.journals_read_unambiguously.ensures files c.in-Ok.content c.in-Ok.content.head.now payloads own of c.resume_updates.result c.resume_updates.ensures.performs.events
          c.resume_updates.ensures.updates c.resume_updates.ensures.performs.holds;
    }

pub begin-requires-in-Some : goal.begin-requires-in-Some
begin-requires-in-Some g c =
    let files = files_read c.args.files.now in
    let payloads : List (List ℕ) = map (λ p. p.now) c.in-Ok.content.payloads.items in
    let is : IsJournal files.journal c.in-Ok.content.head.now payloads c.in-Ok.content.end.now = journal_at _ _ _ payloads _ c.as_slice-2.ensures.value c.in-Ok.ensures.journal in
    let last : last_payload payloads ≡ mark files.text c.in-Some.carried.now =
    ap (λ (ps : List (Bor (List ℕ))). last_payload (map (λ p. p.now) ps)) (sym c.as_slice-5.ensures.value) ∙ sym c.last_payload.ensures ∙ c.in-Some.ensures.found
    ∙ ap (λ (d : List ℕ). 1 ∷ (d ++ c.in-Some.carried.now)) (c.as_slice-6.ensures ∙ c.digest_of-digest.ensures ∙ ap sha256 c.as_slice-3.ensures.value) in
    carried_short files.journal c.in-Ok.content.head.now payloads c.in-Ok.content.end.now files.text c.in-Some.carried.now is last

pub returns-in-Some-clause-ok : goal.returns-in-Some-clause-ok
returns-in-Some-clause-ok g c =
    let files = files_read c.args.files.now in
    let payloads : List (List ℕ) = map (λ p. p.now) c.in-Ok.content.payloads.items in
    let digest_is : c.as_slice-4.result.now ≡ sha256 files.text = c.as_slice-4.ensures ∙ c.digest_of-digest.ensures ∙ ap sha256 c.as_slice-3.ensures.value in
    let other : digest_in c.in-Ok.content.head.now ≢ sha256 files.text = λ e. no_truth (c.if-is_same.ensures.1 (e ∙ sym digest_is)) in
    let is : IsJournal files.journal c.in-Ok.content.head.now payloads c.in-Ok.content.end.now = journal_at _ _ _ payloads _ c.as_slice-2.ensures.value c.in-Ok.ensures.journal in
    let last : last_payload payloads ≡ mark files.text c.in-Some.carried.now =
    ap (λ (ps : List (Bor (List ℕ))). last_payload (map (λ p. p.now) ps)) (sym c.as_slice-5.ensures.value) ∙ sym c.last_payload.ensures ∙ c.in-Some.ensures.found
    ∙ ap (λ (d : List ℕ). 1 ∷ (d ++ c.in-Some.carried.now)) (c.as_slice-6.ensures ∙ c.digest_of-digest.ensures ∙ ap sha256 c.as_slice-3.ensures.value) in
    IfOk-weaker c.begin-in-Some.result (λ opened. map (λ u. u.now) opened.updates.items ≡ entries_of c.in-Some.carried.now) (λ opened. StandFor files (map (λ u. u.now) opened.updates.items))
    (λ opened are. inr (record {
      head = c.in-Ok.content.head.now;
      payloads = payloads;
      end = c.in-Ok.content.end.now;
      journal = is;
      by = inr (other, record { carried = c.in-Some.carried.now; marked = last; updates_are = are });
    })) c.begin-in-Some.ensures.updates

pub returns-in-Some-clause-performs : goal.returns-in-Some-clause-performs
returns-in-Some-clause-performs g c =
    let files = files_read c.args.files.now in
    let carried = c.in-Some.carried.now in
    let payloads : List (List ℕ) = map (λ p. p.now) c.in-Ok.content.payloads.items in
    let digest_is : c.as_slice-4.result.now ≡ sha256 files.text = c.as_slice-4.ensures ∙ c.digest_of-digest.ensures ∙ ap sha256 c.as_slice-3.ensures.value in
    let other : digest_in c.in-Ok.content.head.now ≢ sha256 files.text = λ e. no_truth (c.if-is_same.ensures.1 (e ∙ sym digest_is)) in
    let is : IsJournal files.journal c.in-Ok.content.head.now payloads c.in-Ok.content.end.now = journal_at _ _ _ payloads _ c.as_slice-2.ensures.value c.in-Ok.ensures.journal in
    let last : last_payload payloads ≡ mark files.text carried =
    ap (λ (ps : List (Bor (List ℕ))). last_payload (map (λ p. p.now) ps)) (sym c.as_slice-5.ensures.value) ∙ sym c.last_payload.ensures ∙ c.in-Some.ensures.found
    ∙ ap (λ (d : List ℕ). 1 ∷ (d ++ carried)) (c.as_slice-6.ensures ∙ c.digest_of-digest.ensures ∙ ap sha256 c.as_slice-3.ensures.value) in
    record {
      events = c.begin-in-Some.ensures.performs.events;
      led = c.begin-in-Some.ensures.performs.led;
      holds = begins_opens files c.as_slice-in-Some.result.now c.args.key carried c.as_slice-in-Some.ensures.value c.begin-in-Some.ensures.len
          (carried_short files.journal c.in-Ok.content.head.now payloads c.in-Ok.content.end.now files.text carried is last)
          (only_carried c.journals_read_unambiguously.ensures files c.in-Ok.content.head.now payloads c.in-Ok.content.end.now carried is other last)
          c.a_header_is_a_journal.ensures c.an_appended_entry_is_read.ensures c.begin-in-Some.result c.begin-in-Some.ensures.performs.events c.begin-in-Some.ensures.performs.holds;
    }
