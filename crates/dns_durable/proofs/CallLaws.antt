-- Calls of a history: what batches and compactions that succeed or are refused ask of a storage, and what they leave.
use Rattle.std.proofs.Common.{◌≡◌, ◌≢◌, ◌+◌, ◌<◌, ◌^◌, ℕ, Bool, true, false, List, [], ◌∷◌, ◌++◌, length, take, drop, Ok, refl, sym, ap, subst, ◌∙◌, arith, inr, length-append}
use Rattle.std.proofs.lemmas.List.{take_at, drop_at, length-take}
use Rattle.sha2.specs.Sha256.{sha256}
use Rattle.dns_journal.specs.format.Format.{entry, first_link, link_after, next, IsShort}
use Rattle.dns_journal.proofs.JournalLaws.{appended, new_journal as header_is_journal, torn_write_cut}
use Rattle.dns_journal.proofs.TornLaws.{frame_part}
use Rattle.dns_journal.specs.declared.journal.Position.{Position}
use Rattle.dns_journal.specs.declared.journal.State.TheVariants as states
use Rattle.dns_journal.specs.Appending.{IsPosition, IsRemainder}
use Rattle.dns_journal.specs.Event.{Event, Files}
use Rattle.dns_journal.specs.Event as events
use Rattle.dns_journal.specs.Storage.{Disk, Leaves, appended as written, at_rest}
use Rattle.dns_journal.proofs.CrashLaws.{ready_appends}
use Rattle.dns_durable.specs.recovery.Beginning.{new_journal}
use Rattle.dns_durable.specs.recovery.Compacting.{mark, payloads_of}
use Rattle.dns_durable.specs.recovery.Updating.{IsOpen, update_payload}
use Rattle.dns_durable.proofs.AskingLaws.{asks_done}
use Rattle.dns_durable.proofs.BeginningLaws.{first_digest, first_journal, first_position}
use Rattle.dns_durable.proofs.CompactingLaws.{all_done}
use Rattle.dns_durable.proofs.UpdatingLaws.{appends_update}
use Rattle.dns_zone.specs.Rows.{ZoneContent}
use Rattle.dns_durable.specs.Compaction.{IsTextBehind, Rewrites}
use Rattle.dns_durable.specs.Durable.{Keeps, TakesEntry}
use Rattle.dns_durable.specs.declared.durable_server.Replies.{Replies}
use Rattle.dns_durable.specs.Storing.{Asks, entries_of}
use Rattle.dns_durable.proofs.KeepingLaws.{keeps_answered}
use Rattle.dns_durable.proofs.StoringLaws.{asks_append, asks_nothing, asks_refused}

-- ---- a payload is appended

-- the position after a payload
abbrev pub behind : Position → List ℕ → Position
behind p payload = record {
  end = p.end + length (entry p.key p.link payload);
  digest = p.digest;
  key = p.key;
  link = next p.key p.link payload;
  state = states.Ready;
}

-- the calls that append it
abbrev pub appending : Position → List ℕ → List Event
appending p payload = events.Append (entry p.key p.link payload) true ∷ events.Sync true ∷ []

-- ---- batches

asks_stored : (p : Position) (frames : List ℕ) → p.state ≡ states.Ready → frames ≢ [] → IsShort (update_payload frames)
    → Asks frames true p (behind p (update_payload frames)) (appending p (update_payload frames))
asks_stored p frames ready some short =
    let payload = update_payload frames in
    let q = behind p payload in
    let es = appending p payload in
    asks_append frames true p q es some ready
    (λ text updates d opened. appends_update text updates p q frames d opened true es
    (ready_appends appended torn_write_cut text opened.bytes (sha256 text) payload opened.payloads short p opened.at (entry p.key p.link payload) refl es q refl refl refl refl refl refl))

-- a batch whose updates are stored
pub stored : (p : Position) (frames : List ℕ) (replies : Replies) (zones after : List ZoneContent) → replies.is_stored ≡ true → p.state ≡ states.Ready → frames ≢ [] → IsShort (update_payload frames)
    → TakesEntry zones frames after → Keeps frames (Ok replies) p (behind p (update_payload frames)) zones after (appending p (update_payload frames))
stored p frames replies zones after is ready some short takes =
    let q = behind p (update_payload frames) in
    let es = appending p (update_payload frames) in
    keeps_answered frames replies p q zones after es (subst (λ (b : Bool). Asks frames b p q es) (sym is) (asks_stored p frames ready some short)) (λ _. takes)
    (λ not. let never : true ≡ false = sym is ∙ not in absurd cc)

-- the journal is open behind them
pub still_open : (text : List ℕ) (updates : List (List ℕ)) (p : Position) (frames bytes : List ℕ) → p.state ≡ states.Ready → frames ≢ [] → IsShort (update_payload frames)
    → IsOpen text updates p (at_rest text bytes)
    → IsOpen text (updates ++ entries_of frames) (behind p (update_payload frames)) (at_rest text (bytes ++ entry p.key p.link (update_payload frames)))
still_open text updates p frames bytes ready some short opened =
    ((asks_stored p frames ready some short).stores text updates (at_rest text bytes) opened).stored refl _ refl _ refl

-- a batch whose updates are refused: nothing is done
pub refused : (p : Position) (frames : List ℕ) (replies : Replies) (zones : List ZoneContent) → replies.is_stored ≡ false → Keeps frames (Ok replies) p p zones zones []
refused p frames replies zones not =
    keeps_answered frames replies p p zones zones [] (subst (λ (b : Bool). Asks frames b p p []) (sym not) (asks_refused frames p))
    (λ is. let never : true ≡ false = sym is ∙ not in absurd cc) (λ _. refl)

-- a batch without updates
pub answered : (p : Position) (replies : Replies) (zones : List ZoneContent) → replies.is_stored ≡ true → TakesEntry zones [] zones → Keeps [] (Ok replies) p p zones zones []
answered p replies zones is takes =
    keeps_answered [] replies p p zones zones [] (subst (λ (b : Bool). Asks [] b p p []) (sym is) (asks_nothing [] p refl)) (λ _. takes)
    (λ not. let never : true ≡ false = sym is ∙ not in absurd cc)

-- ---- compactions

-- a new journal, with the updates that its text lacks
abbrev pub begun : List ℕ → List ℕ → List ℕ → List ℕ
begun text key carried = new_journal (sha256 text) key carried

-- the position in it
abbrev pub first : List ℕ → List ℕ → List ℕ → Position
first text key carried = record {
  end = length (begun text key carried);
  digest = sha256 text;
  key = key;
  link = link_after key (first_link (sha256 text ++ key)) (payloads_of carried);
  state = states.Ready;
}

pub first_is : (text key carried : List ℕ) → length key ≡ 16 → length carried + 1 < 2 ^ 23 → IsPosition (first text key carried) (begun text key carried) (sha256 text) (payloads_of carried)
first_is text key carried size short =
    first_position text key size header_is_journal appended carried short (first text key carried) (record { end_is = refl; digest_is = refl; key_is = refl; link_is = refl; ready = refl })

-- the calls that replace a text
abbrev pub replacing : Position → List ℕ → List ℕ → List ℕ → List Event
replacing p text key carried =
    events.Append (entry p.key p.link (mark text carried)) true ∷ events.Sync true ∷ events.ReplaceText text true ∷ events.ReplaceJournal (begun text key carried) true ∷ []

-- a compaction that is done
pub compacted : (p : Position) (text key carried : List ℕ) (zones after : List ZoneContent) (again : ZoneContent) → p.state ≡ states.Ready → length key ≡ 16 → IsShort (mark text carried)
    → length carried + 1 < 2 ^ 23 → IsTextBehind zones text carried again → TakesEntry (again ∷ []) carried after
    → Rewrites text carried (Ok tt) p (first text key carried) zones after (replacing p text key carried)
compacted p text key carried zones after again ready size short few behind_it served =
    let es = appending p (mark text carried) in
    let fs = events.ReplaceText text true ∷ events.ReplaceJournal (begun text key carried) true ∷ [] in
    record {
      again = again;
      behind = behind_it;
      served = λ _. served;
      unchanged = λ e. absurd cc;
      ready = λ _. ready;
      asks = asks_done text carried true p (first text key carried) (es ++ fs) ready
          (λ old bytes digest payloads at belongs one. all_done p old text carried bytes digest payloads belongs one (behind p (mark text carried)) es
          (ready_appends appended torn_write_cut old bytes digest (mark text carried) payloads short p at (entry p.key p.link (mark text carried)) refl es (behind p (mark text carried)) refl refl refl refl refl refl)
          key (first_digest text key size) (first_journal text key size header_is_journal appended carried few) (first text key carried) fs refl (first_is text key carried size few) refl refl);
    }

-- ---- a write that a crash tears

-- files with the first bytes of an entry, up to the end of its frame
abbrev pub torn_files : List ℕ → Position → List ℕ → List ℕ → Files
torn_files text p bytes payload = record { text = text; journal = bytes ++ take 28 (entry p.key p.link payload) }

-- a crash may leave them while the entry is appended
pub leaves_torn : (text : List ℕ) (p : Position) (bytes payload : List ℕ) → Leaves (written (at_rest text bytes) (entry p.key p.link payload)) (torn_files text p bytes payload)
leaves_torn text p bytes payload =
    let E = entry p.key p.link payload in
    record {
      text = refl;
      front = take_at bytes (take 28 E) (length bytes) refl ∙ sym (take_at bytes E (length bytes) refl);
      no_shorter = omega (arith, length-append bytes (take 28 E));
      no_longer = omega (arith, length-append bytes (take 28 E), length-take 28 E);
    }

-- and they are what it may leave of the write
pub torn_genuine : (text : List ℕ) (updates : List (List ℕ)) (p : Position) (bytes payload : List ℕ) → IsOpen text updates p (at_rest text bytes)
    → IsRemainder p payload (drop p.end (torn_files text p bytes payload).journal)
torn_genuine text updates p bytes payload opened =
    let E = entry p.key p.link payload in
    let at_end : p.end ≡ length bytes = opened.at.end_is ∙ ap (λ (d : Disk). length d.seen) (sym opened.disk_is) in
    let tail : drop p.end (bytes ++ take 28 E) ≡ take 28 E = ap (λ (n : ℕ). drop n (bytes ++ take 28 E)) at_end ∙ drop_at bytes (take 28 E) (length bytes) refl in
    subst (λ (l : List ℕ). IsRemainder p payload l) (sym tail) (inr (frame_part p.key p.link p.end payload 28 (omega arith)))
