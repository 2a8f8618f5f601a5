-- What a crash leaves of a journal that is opened.
use Rattle.std.proofs.Common.{◌≡◌, ◌≢◌, ℕ, ◌-◌, ◌+◌, ◌<◌, ◌^◌, Bool, true, false, List, [], ◌∷◌, ◌++◌, length, take, drop, get_or, suc, ◌≤◌, map, Result, Ok, Err, refl, sym, ap, subst, ◌∙◌, inr, ⊎_elim, arith, length-append}
use Rattle.std.specs.Prelude.{IfOk}
use Rattle.std.proofs.lemmas.List.{take_all, drop_at, take_at, take-append-drop, length-drop}
use Rattle.sha2.proofs.Facts256.{length-sha256}
use Rattle.sha2.specs.Sha256.{sha256}
use Rattle.dns_journal.specs.format.Format.{digest_in, AreShort, IsJournal, IsShort}
use Rattle.dns_journal.specs.declared.journal.Position.{Position}
use Rattle.dns_journal.specs.Appending.{IsPosition}
use Rattle.dns_journal.specs.Event.{Event, Files}
use Rattle.dns_journal.specs.Event as events
use Rattle.dns_journal.specs.Opening.{IsUnchanged, Resumes, whole_front}
use Rattle.dns_journal.specs.Storage.{Always, Ends, LeavesOnly, at_rest}
use Rattle.dns_durable.specs.recovery.Compacting.{entries_of, last_after, last_payload, mark, payloads_of, updates_in}
use Rattle.dns_journal.specs.declared.format.read.JournalContent.{JournalContent}
use Rattle.dns_durable.specs.recovery.Opening.{Begins, IsContentOf, Keeps, Opens, ResumesUpdates, StandFor}
use Rattle.dns_durable.specs.declared.recovery.error.OpenError.{OpenError}
use Rattle.dns_durable.specs.declared.recovery.error.OpenError.TheVariants as errors
use Rattle.dns_durable.specs.declared.recovery.opening.Opened.{Opened}
use Rattle.dns_durable.specs.recovery.Updating.{IsOpen}
use Rattle.dns_durable.specs.recovery.Beginning.{IsFirst, new_journal}
use Rattle.dns_durable.proofs.BeginningLaws.{EntriesAreRead, HeadersAreJournals, first_digest, first_journal, first_position}
use Rattle.dns_durable.proofs.CompactingLaws.{carried_updates}
use Rattle.dns_durable.proofs.EventLaws.{always_weaker, ends_weaker, rest_is}
use Rattle.dns_durable.proofs.UpdatingLaws.{recovers}

-- bytes are a journal in one way at most
abbrev pub Unambiguous : Type 0
Unambiguous = (bytes head other : List ℕ) (payloads others : List (List ℕ)) (end rest : List ℕ)
    → IsJournal bytes head payloads end → IsJournal bytes other others rest → (head ≡ other) × ((payloads ≡ others) × (end ≡ rest))

-- an empty file is no journal
pub no_journal : (head : List ℕ) (payloads : List (List ℕ)) (end : List ℕ) → IsJournal [] head payloads end → ⊥
no_journal head payloads end is = absurd (let h = is.entries_are.parts in cc)

made : List ℕ → List ℕ → Files
made text journal = record { text = text; journal = journal }

-- files that are left as they were stand for the same
pub same_files : (files left : Files) → left.text ≡ files.text → left.journal ≡ files.journal → Keeps files left
unfolding made
same_files files left text_is journal_is =
    let one : made left.text left.journal ≡ made files.text left.journal = ap (λ (t : List ℕ). made t left.journal) text_is in
    let two : made files.text left.journal ≡ made files.text files.journal = ap (λ (j : List ℕ). made files.text j) journal_is in
    let same : left ≡ files = one ∙ two in
    record { text_is = text_is; stands = λ forged updates stand. subst (λ (f : Files). StandFor f updates) (sym same) stand }

-- ---- a journal is begun

module _ (files : Files) (carried : List ℕ) (only : (updates : List (List ℕ)) → StandFor files updates → updates ≡ entries_of carried) (key : List ℕ) (size : length key ≡ 16)
    (short : length carried + 1 < 2 ^ 23) (journals : HeadersAreJournals) (read : EntriesAreRead) where
  at_start : LeavesOnly (Keeps files) (at_rest files.text files.journal)
  at_start left leaves = same_files files left leaves.text (rest_is files.text files.journal left leaves)

  begun : IsJournal (new_journal (sha256 files.text) key carried) (sha256 files.text ++ key) (payloads_of carried) []
  begun = first_journal files.text key size journals read carried short

  at_end : LeavesOnly (Keeps files) (at_rest files.text (new_journal (sha256 files.text) key carried))
  at_end left leaves =
      let head = sha256 files.text ++ key in
      let journal_is = rest_is files.text (new_journal (sha256 files.text) key carried) left leaves in
      let is : IsJournal left.journal head (payloads_of carried) [] = subst (λ (l : List ℕ). IsJournal l head (payloads_of carried) []) (sym journal_is) begun in
      record {
        text_is = leaves.text;
        stands = λ forged updates stand. inr (recovers files.text (sha256 files.text) left (payloads_of carried) updates refl leaves.text (only updates stand ∙ carried_updates carried)
            (record { head = head; end = []; is = is; of_text = first_digest files.text key size }));
      }

  pub begun_always : (es : List Event) → es ≡ events.ReplaceJournal (new_journal (sha256 files.text) key carried) true ∷ [] → Always (LeavesOnly (Keeps files)) (at_rest files.text files.journal) es
  begun_always es is =
      let P = LeavesOnly (Keeps files) in
      let one : Always P (at_rest files.text files.journal) (events.ReplaceJournal (new_journal (sha256 files.text) key carried) true ∷ []) = (at_start, λ e s. subst P (sym s) at_end) in
      subst (Always P (at_rest files.text files.journal)) (sym is) one

  pub failed_always : (es : List Event) → es ≡ events.ReplaceJournal (new_journal (sha256 files.text) key carried) false ∷ [] → Always (LeavesOnly (Keeps files)) (at_rest files.text files.journal) es
  failed_always es is =
      let P = LeavesOnly (Keeps files) in
      let one : Always P (at_rest files.text files.journal) (events.ReplaceJournal (new_journal (sha256 files.text) key carried) false ∷ []) =
      (at_start, λ e s. ⊎_elim (λ a. subst P (sym a) at_start) (λ b. subst P (sym b) at_end) s) in
      subst (Always P (at_rest files.text files.journal)) (sym is) one

  pub begun_ends : (position : Position) (updates : List (List ℕ)) (es : List Event) → es ≡ events.ReplaceJournal (new_journal (sha256 files.text) key carried) true ∷ [] → updates ≡ entries_of carried
      → IsFirst (sha256 files.text) key carried position → Ends (IsOpen files.text updates position) (at_rest files.text files.journal) es
  begun_ends position updates es is are first =
      let H = new_journal (sha256 files.text) key carried in
      let at : IsPosition position H (sha256 files.text) (payloads_of carried) = first_position files.text key size journals read carried short position first in
      let one : Ends (IsOpen files.text updates position) (at_rest files.text files.journal) (events.ReplaceJournal H true ∷ []) =
      λ e s. record { bytes = H; payloads = payloads_of carried; disk_is = s; at = at; updates_are = are ∙ carried_updates carried } in
      subst (Ends (IsOpen files.text updates position) (at_rest files.text files.journal)) (sym is) one

-- ---- files without updates

-- a journal that was not begun
pub none_if_empty : (files : Files) → files.journal ≡ [] → (updates : List (List ℕ)) → StandFor files updates → updates ≡ []
none_if_empty files empty updates stand =
    ⊎_elim (λ a. a.1)
    (λ b. absurd (no_journal b.head b.payloads b.end (subst (λ (l : List ℕ). IsJournal l b.head b.payloads b.end) empty b.journal))) stand

-- a mark tells which updates its text lacks
mark_once : (text a b : List ℕ) → mark text a ≡ mark text b → a ≡ b
mark_once text a b e =
    sym (drop_at (sha256 text) a 32 (length-sha256 text)) ∙ ap (λ (l : List ℕ). drop 32 (drop 1 l)) e ∙ drop_at (sha256 text) b 32 (length-sha256 text)

-- a journal that ends with the mark of the text
pub only_carried : Unambiguous → (files : Files) (head : List ℕ) (payloads : List (List ℕ)) (end carried : List ℕ) → IsJournal files.journal head payloads end → digest_in head ≢ sha256 files.text
    → last_payload payloads ≡ mark files.text carried → (updates : List (List ℕ)) → StandFor files updates → updates ≡ entries_of carried
only_carried once files head payloads end carried is other marked updates stand =
    ⊎_elim (λ a. absurd (no_journal head payloads end (subst (λ (l : List ℕ). IsJournal l head payloads end) a.0 is)))
    (λ b. let same = once files.journal head b.head payloads b.payloads end b.end is b.journal in
    ⊎_elim (λ own. absurd (other (ap (λ (l : List ℕ). digest_in l) same.0 ∙ own.0)))
    (λ at. at.1.updates_are ∙ ap entries_of (mark_once files.text at.1.carried carried (sym at.1.marked ∙ ap last_payload (sym same.1.0) ∙ marked))) b.by) stand

-- a mark is no longer than a payload may be
last_short : (last : List ℕ) (payloads : List (List ℕ)) → IsShort last → AreShort payloads → IsShort (last_after last payloads)
last_short last [] is are = is
last_short last (payload ∷ payloads) is are = last_short payload payloads are.0 are.1

pub carried_short : (bytes head : List ℕ) (payloads : List (List ℕ)) (end text carried : List ℕ) → IsJournal bytes head payloads end → last_payload payloads ≡ mark text carried
    → length carried + 1 < 2 ^ 23
carried_short bytes head payloads end text carried is marked =
    let none : IsShort [] = omega arith in
    let whole : IsShort (mark text carried) = subst IsShort marked (last_short [] payloads none is.entries_are.short) in
    omega (arith, whole, length-append (sha256 text) carried)

-- ---- the end of a journal is repaired

module _ (once : Unambiguous) (files : Files) (head : List ℕ) (payloads : List (List ℕ)) (end : List ℕ) (own : digest_in head ≡ sha256 files.text) (is : IsJournal files.journal head payloads end) where
  keeps : (left : Files) → IsUnchanged files.text files.journal head payloads end left → Keeps files left
  keeps left unchanged = record {
    text_is = unchanged.text_is;
    stands = λ front updates stand.
        ⊎_elim (λ a. absurd (no_journal head payloads end (subst (λ (l : List ℕ). IsJournal l head payloads end) a.0 is)))
        (λ b. let same = once files.journal head b.head payloads b.payloads end b.end is b.journal in
        ⊎_elim (λ it. inr (recovers files.text (digest_in head) left payloads updates own unchanged.text_is (it.1 ∙ ap updates_in (sym same.1.0))
        (unchanged.journal (front head payloads end is)))) (λ marked. absurd (marked.0 (ap (λ (l : List ℕ). digest_in l) (sym same.0) ∙ own))) b.by) stand;
  }

  pub resumed_always : (done : Bool) (es : List Event) → Resumes end done files.text files.journal head payloads es → Always (LeavesOnly (Keeps files)) (at_rest files.text files.journal) es
  resumed_always done es resumes =
      always_weaker (LeavesOnly (IsUnchanged files.text files.journal head payloads end)) (LeavesOnly (Keeps files))
      (λ d holds left leaves. keeps left (holds left leaves)) (at_rest files.text files.journal) es resumes.any_moment

  pub resumed_ends : (position : Position) (updates : List (List ℕ)) (es : List Event) → Resumes end true files.text files.journal head payloads es
      → IsPosition position (whole_front files.journal end) (digest_in head) payloads → updates ≡ updates_in payloads
      → Ends (IsOpen files.text updates position) (at_rest files.text files.journal) es
  resumed_ends position updates es resumes at are =
      let at_text : IsPosition position (whole_front files.journal end) (sha256 files.text) payloads =
      subst (λ (h : List ℕ). IsPosition position (whole_front files.journal end) h payloads) own at in
      ends_weaker (λ d. d ≡ at_rest files.text (whole_front files.journal end)) (IsOpen files.text updates position)
      (λ d same. record { bytes = whole_front files.journal end; payloads = payloads; disk_is = same; at = at_text; updates_are = are })
      (at_rest files.text files.journal) es (resumes.stored refl)

  -- the updates of the files
  pub resumed_stand : (updates : List (List ℕ)) → updates ≡ updates_in payloads → StandFor files updates
  resumed_stand updates are = inr (recovers files.text (digest_in head) files payloads updates own refl are (record { head = head; end = end; is = is; of_text = refl }))

-- ---- what is returned

-- a journal that was begun is open
pub begins_opens : (files : Files) (text key carried : List ℕ) → text ≡ files.text → length key ≡ 16 → length carried + 1 < 2 ^ 23
    → ((updates : List (List ℕ)) → StandFor files updates → updates ≡ entries_of carried)
    → HeadersAreJournals → EntriesAreRead → (result : Result Opened OpenError) (es : List Event) → Begins text key carried result es → Opens files result es
begins_opens files text key carried same size short only journals read (Ok opened) es begins =
    let calls : es ≡ events.ReplaceJournal (new_journal (sha256 files.text) key carried) true ∷ [] =
    begins.0 ∙ ap (λ (t : List ℕ). events.ReplaceJournal (new_journal (sha256 t) key carried) true ∷ []) same in (
      begun_always files carried only key size short journals read es calls,
      begun_ends files carried only key size short journals read opened.position (map (λ u. u.now) opened.updates.items) es calls begins.1.0
          (subst (λ (t : List ℕ). IsFirst (sha256 t) key carried opened.position) same begins.1.1),
    )
begins_opens files text key carried same size short only journals read (Err (errors.Storage error)) es begins =
    failed_always files carried only key size short journals read es (begins ∙ ap (λ (t : List ℕ). events.ReplaceJournal (new_journal (sha256 t) key carried) false ∷ []) same)
begins_opens files text key carried same size short only journals read (Err errors.Memory) es begins = begins
begins_opens files text key carried same size short only journals read (Err errors.OtherText) es begins = absurd begins
begins_opens files text key carried same size short only journals read (Err (errors.Journal error)) es begins = absurd begins

-- a journal whose end was repaired is open
pub resumes_opens : Unambiguous → (files : Files) (content : JournalContent) (head : List ℕ) (payloads : List (List ℕ)) → digest_in head ≡ sha256 files.text
    → IsContentOf content files.journal head payloads
    → (result : Result Opened OpenError) (es : List Event) → IfOk result (λ opened. map (λ u. u.now) opened.updates.items ≡ updates_in payloads)
    → ResumesUpdates content result es → Opens files result es
resumes_opens once files content head payloads own of (Ok opened) es are resumes =
    let both = resumes files.text files.journal head payloads of in (
      resumed_always once files head payloads content.end.now own of.journal true es both.0,
      resumed_ends once files head payloads content.end.now own of.journal opened.position (map (λ u. u.now) opened.updates.items) es both.0 both.1 are,
    )
resumes_opens once files content head payloads own of (Err (errors.Storage error)) es are resumes =
    resumed_always once files head payloads content.end.now own of.journal false es (resumes files.text files.journal head payloads of)
resumes_opens once files content head payloads own of (Err errors.Memory) es are resumes = resumes
resumes_opens once files content head payloads own of (Err errors.OtherText) es are resumes = absurd resumes
resumes_opens once files content head payloads own of (Err (errors.Journal error)) es are resumes = absurd resumes

-- ---- marks

-- a digest, and what follows it
pub digest_and_rest : (bytes digest : List ℕ) → 32 ≤ length bytes → take 32 bytes ≡ digest → bytes ≡ digest ++ take (length bytes - 32) (drop 32 bytes)
digest_and_rest bytes digest long same =
    let all : take (length bytes - 32) (drop 32 bytes) ≡ drop 32 bytes = take_all (length bytes - 32) (drop 32 bytes) (omega (arith, length-drop 32 bytes)) in
    sym (take-append-drop 32 bytes) ∙ (λ i. same i ++ sym all i)

pub begins_with_digest : (bytes digest rest : List ℕ) → length digest ≡ 32 → bytes ≡ digest ++ rest → take 32 bytes ≡ digest
begins_with_digest bytes digest rest size is = ap (λ (l : List ℕ). take 32 l) is ∙ take_at digest rest 32 size

pub too_short : (bytes digest rest : List ℕ) → length digest ≡ 32 → length bytes < 32 → bytes ≡ digest ++ rest → ⊥
too_short bytes digest rest size less is = absurd (omega (arith, less, size, ap (λ (l : List ℕ). length l) is, length-append digest rest))

-- a payload is its tag and what follows it
pub tag_and_rest : (payload : List ℕ) (tag : ℕ) → 1 ≤ length payload → get_or payload 0 0 ≡ tag → payload ≡ tag ∷ take (length payload - 1) (drop 1 payload)
tag_and_rest [] tag some first = absurd (omega (arith, some))
tag_and_rest (x ∷ xs) tag some first =
    let all : take (suc (length xs) - 1) xs ≡ xs = take_all (suc (length xs) - 1) xs (omega arith) in
    λ i. first i ∷ sym all i

pub rest_of_mark : (payload rest : List ℕ) → payload ≡ 1 ∷ rest → take (length payload - 1) (drop 1 payload) ≡ rest
rest_of_mark payload rest is =
    let all : take (suc (length rest) - 1) rest ≡ rest = take_all (suc (length rest) - 1) rest (omega arith) in
    subst (λ (l : List ℕ). take (length l - 1) (drop 1 l) ≡ rest) (sym is) all
