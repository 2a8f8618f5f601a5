-- What a crash leaves of a journal whose end is cut off.
use Rattle.std.proofs.Common.{◌≡◌, ℕ, ◌-◌, ◌≤◌, true, false, List, [], ◌∷◌, ◌++◌, length, take, drop, refl, sym, ap, subst, ◌∙◌, arith, ⊎_elim}
use Rattle.std.proofs.lemmas.List.{take_all, take-append-drop, length-take}
use Rattle.dns_journal.specs.format.Format.{digest_in, key_in, last_link, IsJournal}
use Rattle.dns_journal.specs.declared.journal.Position.{Position}
use Rattle.dns_journal.specs.declared.journal.State.TheVariants as states
use Rattle.dns_journal.specs.Appending.{IsPosition}
use Rattle.dns_journal.specs.Opening.{IsCutOff, IsUnchanged, Resumes, whole_front}
use Rattle.dns_journal.specs.Storage.{Always, Disk, Ends, LeavesOnly, at_rest, lost, shortened}
use Rattle.dns_journal.specs.Event.{Event, Files}
use Rattle.dns_journal.specs.Event as events
use Rattle.dns_journal.proofs.CrashLaws.{take_take}

pub nothing : (xs : List ℕ) → length xs ≡ 0 → xs ≡ []
nothing [] none = refl
nothing (x ∷ xs) none = absurd (omega (arith, none))

abbrev pub EndsMayBeShort : Type 0
EndsMayBeShort = (bytes head end : List ℕ) (payloads : List (List ℕ)) (n : ℕ) → IsJournal bytes head payloads end
    → IsJournal (take (length bytes - length end) bytes ++ take n end) head payloads (take n end)

abbrev pub FrontsAreWhole : Type 0
FrontsAreWhole = (bytes head end : List ℕ) (payloads : List (List ℕ)) → IsJournal bytes head payloads end → IsJournal (take (length bytes - length end) bytes) head payloads []

module _ (short_ends : EndsMayBeShort) (fronts : FrontsAreWhole) (text bytes head end : List ℕ) (payloads : List (List ℕ)) (journal : IsJournal bytes head payloads end) (within : length end ≤ length bytes) where
  -- a journal whose front is kept has the payloads
  kept : (files : Files) → files.text ≡ text → take (length bytes - length end) files.journal ≡ whole_front bytes end → IsUnchanged text bytes head payloads end files
  kept files same front =
      let n = length bytes - length end in
      let rest = drop n files.journal in
      let whole : files.journal ≡ whole_front bytes end ++ rest = sym (take-append-drop n files.journal) ∙ ap (λ (l : List ℕ). l ++ rest) front in
      record {
        text_is = same;
        journal = λ left. record {
          head = head;
          end = take left.len end;
          is = subst (λ (l : List ℕ). IsJournal l head payloads (take left.len end)) (sym (whole ∙ ap (λ (l : List ℕ). whole_front bytes end ++ l) left.is)) (short_ends bytes head end payloads left.len journal);
          of_text = refl;
        };
      }

  left : (d : Disk) → d.text ≡ text → length bytes - length end ≤ d.safe → take d.safe d.seen ≡ take d.safe bytes → LeavesOnly (IsUnchanged text bytes head payloads end) d
  left d same safe seen files leaves =
      let n = length bytes - length end in
      kept files (leaves.text ∙ same) (
      sym (take_take n d.safe files.journal safe)
      ∙ ap (λ (l : List ℕ). take n l) (leaves.front ∙ seen)
      ∙ take_take n d.safe bytes safe
      )

  before : LeavesOnly (IsUnchanged text bytes head payloads end) (at_rest text bytes)
  before = left (at_rest text bytes) refl (omega arith) refl

  during : LeavesOnly (IsUnchanged text bytes head payloads end) (shortened (at_rest text bytes) (length bytes - length end))
  during =
      let n = length bytes - length end in
      let d = shortened (at_rest text bytes) n in
      let safe_is : d.safe ≡ n = omega arith in
      left d refl (omega (arith, safe_is)) (ap (λ (k : ℕ). take k (take n bytes)) safe_is ∙ take_take n n bytes (omega arith) ∙ ap (λ (k : ℕ). take k bytes) (sym safe_is))

  unsynced : LeavesOnly (IsUnchanged text bytes head payloads end) (lost (shortened (at_rest text bytes) (length bytes - length end)))
  unsynced files leaves = during files (record { text = leaves.text; front = leaves.front; no_shorter = leaves.no_shorter; no_longer = leaves.no_longer })

  after : LeavesOnly (IsUnchanged text bytes head payloads end) (at_rest text (whole_front bytes end))
  after =
      let n = length bytes - length end in
      let size : length (whole_front bytes end) ≡ n = omega (arith, length-take n bytes) in
      left (at_rest text (whole_front bytes end)) refl (omega (arith, size)) (take_all (length (whole_front bytes end)) (whole_front bytes end) (omega arith) ∙ ap (λ (k : ℕ). take k bytes) (sym size))

  pub nothing_cut : end ≡ [] → Resumes end true text bytes head payloads []
  nothing_cut none =
      let n = length bytes - length end in
      let size : length end ≡ 0 = ap (λ (l : List ℕ). length l) none in
      let same : bytes ≡ whole_front bytes end = sym (take_all n bytes (omega (arith, size))) in
      record { any_moment = before; stored = λ _. ap (at_rest text) same; whole = fronts bytes head end payloads journal }

  pub cut_done : (es : List Event) (len : ℕ) → len ≡ length bytes - length end → IsCutOff len states.Ready es → Resumes end true text bytes head payloads es
  cut_done es len len_is is =
      let P = LeavesOnly (IsUnchanged text bytes head payloads end) in
      let n = length bytes - length end in
      let calls : es ≡ events.Cut n true ∷ events.Sync true ∷ [] = is ∙ ap (λ (k : ℕ). events.Cut k true ∷ events.Sync true ∷ []) len_is in
      let moments : Always P (at_rest text bytes) (events.Cut n true ∷ events.Sync true ∷ []) =
      (before, λ e s. subst (λ (d : Disk). Always P d (events.Sync true ∷ [])) (sym s) (during, λ e' s'. subst P (sym s') after)) in
      let ends : Ends (λ d. d ≡ at_rest text (whole_front bytes end)) (at_rest text bytes) (events.Cut n true ∷ events.Sync true ∷ []) =
      λ e s. subst (λ (d : Disk). Ends (λ d'. d' ≡ at_rest text (whole_front bytes end)) d (events.Sync true ∷ [])) (sym s) (λ e' s'. s') in
      record {
        any_moment = subst (Always P (at_rest text bytes)) (sym calls) moments;
        stored = λ _. subst (Ends (λ d. d ≡ at_rest text (whole_front bytes end)) (at_rest text bytes)) (sym calls) ends;
        whole = fronts bytes head end payloads journal;
      }

  pub cut_torn : (es : List Event) (len : ℕ) → len ≡ length bytes - length end → IsCutOff len states.Torn es → Resumes end false text bytes head payloads es
  cut_torn es len len_is is =
      let P = LeavesOnly (IsUnchanged text bytes head payloads end) in
      let n = length bytes - length end in
      let one : Always P (at_rest text bytes) (events.Cut n false ∷ []) =
      (before, λ e s. ⊎_elim (λ a. subst P (sym a) before) (λ b. subst P (sym b) during) s) in
      record {
        any_moment = subst (Always P (at_rest text bytes)) (sym (is ∙ ap (λ (k : ℕ). events.Cut k false ∷ []) len_is)) one;
        stored = λ e. absurd cc;
        whole = fronts bytes head end payloads journal;
      }

  pub cut_lost : (es : List Event) (len : ℕ) → len ≡ length bytes - length end → IsCutOff len states.Lost es → Resumes end false text bytes head payloads es
  cut_lost es len len_is is =
      let P = LeavesOnly (IsUnchanged text bytes head payloads end) in
      let n = length bytes - length end in
      let two : Always P (at_rest text bytes) (events.Cut n true ∷ events.Sync false ∷ []) =
      (before, λ e s. subst (λ (d : Disk). Always P d (events.Sync false ∷ [])) (sym s) (during, λ e' s'. subst P (sym s') unsynced)) in
      record {
        any_moment = subst (Always P (at_rest text bytes)) (sym (is ∙ ap (λ (k : ℕ). events.Cut k true ∷ events.Sync false ∷ []) len_is)) two;
        stored = λ e. absurd cc;
        whole = fronts bytes head end payloads journal;
      }

  pub position_is : (p : Position) → p.end ≡ length bytes - length end → p.digest ≡ digest_in head → p.key ≡ key_in head → p.link ≡ last_link head payloads
      → IsPosition p (whole_front bytes end) (digest_in head) payloads
  position_is p end_is same key_is link_is = record {
    head = head;
    journal = fronts bytes head end payloads journal;
    of_text = refl;
    end_is = omega (arith, end_is, length-take (length bytes - length end) bytes);
    digest_is = same;
    key_is = key_is;
    link_is = link_is;
  }
