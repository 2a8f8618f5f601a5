-- Runs of a server that meet what the laws of crashes ask: an update, a query, updates that are refused, a second update, and a crash
-- that tears the write of a third one at the end of its frame; and the same with a compaction whose text lacks the second update, because
-- that is made while it is written, then a third update, and a crash that tears the write of a fourth one.
use Rattle.std.proofs.Common.{◌≡◌, ◌⊎◌, ◌∙◌, ◌+◌, ◌<◌, ◌^◌, arith, ℕ, Bool, true, false, List, [], ◌∷◌, ◌++◌, length, Ok, refl, sym, ap, subst, inl, inr, ⊎_elim, append-nil}
use Rattle.dns_journal.specs.format.Format.{entry}
use Rattle.dns_journal.specs.declared.journal.Position.{Position}
use Rattle.dns_journal.specs.declared.journal.State.TheVariants as states
use Rattle.dns_journal.specs.Event.{Files}
use Rattle.dns_journal.specs.Storage.{at_rest}
use Rattle.dns_durable.specs.recovery.Compacting.{Recovers, payloads_of}
use Rattle.dns_durable.specs.recovery.Updating.{IsOpen, update_payload}
use Rattle.dns_zone.specs.Rows.{ZoneContent}
use Rattle.dns_durable.specs.History.{AreGenuine, AreInJournal, Call, IsBatch, IsMade, IsTextAfter, IsWholeOrNone, Kept, Runs, StandAfter, Writes, entries_in, is_done, lacking}
use Rattle.dns_durable.specs.History.Deed.{batch, compaction}
use Rattle.dns_durable.specs.History.Kept.{nothing, with_it, without_it}
use Rattle.dns_durable.specs.History.Runs.{no_call, a_call}
use Rattle.dns_durable.specs.History.Serves.{serves_none, serves_call}
use Rattle.dns_durable.specs.Storing.{entries_of}
use Rattle.dns_durable.specs.declared.durable_server.Replies.{Replies}
use Rattle.dns_durable.proofs.CallLaws.{answered, appending, begun, behind, compacted, first, first_is, leaves_torn, refused, replacing, still_open, stored, torn_files, torn_genuine}
use Rattle.dns_durable.proofs.CompactingLaws.{carried_updates}
use Rattle.dns_durable.proofs.HistoryLaws.{batches_outlast, genuine_last, outlasts}
use Rattle.dns_durable.proofs.ZoneWitness.{after_four, after_three, after_two, behind_two, few_two, frames_four, frames_one, frames_three, frames_two, grown, next_key, next_text, key, own_digest, short_four, short_mark, short_one, short_three, short_two, some_four, some_one, some_three, some_two, takes_four, takes_none, takes_one, takes_three, takes_two, text, zone}

-- ---- what is kept

-- nothing is kept of no calls
kept_none : (kept : List (List ℕ)) → Kept [] kept → kept ≡ []
kept_none kept nothing = refl

-- what was acknowledged is kept
kept_done : (c : Call) (more : List Call) (kept : List (List ℕ)) → is_done c.deed ≡ true → Kept (c ∷ more) kept
    → (rest : List (List ℕ)) × (Kept more rest × (kept ≡ entries_in c.deed ++ rest))
kept_done c more kept done (with_it {entries = rest} may are) = (rest, (are, refl))
kept_done c more kept done (without_it not are) = let never : true ≡ false = sym done ∙ not in absurd cc

-- what was refused is not, if the journal took further entries
kept_not : (c : Call) (more : List Call) (kept : List (List ℕ)) → is_done c.deed ≡ false → c.new.state ≡ states.Ready → Kept (c ∷ more) kept → Kept more kept
kept_not c more kept not ready (with_it may are) =
    ⊎_elim (λ done. let never : true ≡ false = sym done ∙ not in absurd cc) (λ stopped. absurd (stopped ready)) may.1
kept_not c more kept not ready (without_it e are) = are

-- a compaction that was done leaves no entry from before it
none_kept : {T : Type 0} (c : Call) (more : List Call) (kept : List (List ℕ)) → is_done c.deed ≡ true → (IsBatch c.deed → ⊥) → Kept (c ∷ more) kept → T
none_kept c more kept done no_batch (with_it may are) = absurd (no_batch may.0)
none_kept c more kept done no_batch (without_it not are) = let never : true ≡ false = sym done ∙ not in absurd cc

-- the entry of the last call is there, or is not
kept_last : (files : Files) (frames : List ℕ) (earlier updates kept last : List (List ℕ)) (outcome : _) → entries_of frames ≡ frames ∷ [] → kept ≡ updates → IsWholeOrNone (batch frames outcome) last
    → Recovers files ((earlier ++ kept) ++ last) → Recovers files (earlier ++ updates) ⊎ Recovers files ((earlier ++ updates) ++ frames ∷ [])
kept_last files frames earlier updates kept last outcome some same whole is = ⊎_elim
    (λ none. inl (subst (λ (l : List (List ℕ)). Recovers files l) ((λ i. (earlier ++ same i) ++ none i) ∙ append-nil (earlier ++ updates)) is))
    (λ all. inr (subst (λ (l : List (List ℕ)). Recovers files l) (λ i. (earlier ++ same i) ++ (all ∙ some) i) is)) whole

-- calls with a further one are not none
not_none : (more : List Call) (c : Call) (rest : List Call) → [] ≡ more ++ c ∷ rest → ⊥
not_none [] c rest is = absurd cc
not_none (b ∷ more) c rest is = absurd cc

-- ---- the run

-- a journal that was just begun
opened_at : (text key carried : List ℕ) → length key ≡ 16 → length carried + 1 < 2 ^ 23 → IsOpen text (entries_of carried) (first text key carried) (at_rest text (begun text key carried))
opened_at text key carried size short =
    record { bytes = begun text key carried; payloads = payloads_of carried; disk_is = refl; at = first_is text key carried size short; updates_are = carried_updates carried }

none_few : length {A = ℕ} [] + 1 < 2 ^ 23
none_few = omega arith

-- the replies to updates that are stored, and to those that are not, whatever they are
module _ (replies refusals : Replies) (is : replies.is_stored ≡ true) (not : refusals.is_stored ≡ false) where
  -- ---- calls

  -- an update that is stored, from a position on
  abbrev update : List ℕ → Position → List ZoneContent → Call
  update frames p after = record { deed = batch frames (Ok replies); events = appending p (update_payload frames); new = behind p (update_payload frames); after = after }

  abbrev p1 : Position
  p1 = behind (first text key []) (update_payload frames_one)

  abbrev one : Call
  one = update frames_one (first text key []) (grown ∷ [])

  -- a query
  abbrev query : Call
  query = record { deed = batch [] (Ok replies); events = []; new = p1; after = grown ∷ [] }

  -- updates that are refused
  abbrev failed : Call
  failed = record { deed = batch frames_three (Ok refusals); events = []; new = p1; after = grown ∷ [] }

  -- ---- without a compaction

  abbrev p2 : Position
  p2 = behind p1 (update_payload frames_two)

  abbrev two : Call
  two = update frames_two p1 after_two

  abbrev three : Call
  three = update frames_three p2 after_three

  abbrev done : List Call
  done = one ∷ query ∷ failed ∷ two ∷ []

  runs : Runs (first text key []) (zone ∷ []) (done ++ three ∷ [])
  runs =
      a_call {c = one} (stored (first text key []) frames_one replies (zone ∷ []) (grown ∷ []) is refl some_one short_one takes_one)
      (a_call {c = query} (answered p1 replies (grown ∷ []) is (takes_none (grown ∷ [])))
      (a_call {c = failed} (refused p1 frames_three refusals (grown ∷ []) not)
      (a_call {c = two} (stored p1 frames_two replies (grown ∷ []) after_two is refl some_two short_two takes_two)
      (a_call {c = three} (stored p2 frames_three replies after_two after_three is refl some_three short_three takes_three) no_call))))

  abbrev b1 : List ℕ
  b1 = begun text key [] ++ entry key (first text key []).link (update_payload frames_one)

  abbrev b2 : List ℕ
  b2 = b1 ++ entry key p1.link (update_payload frames_two)

  opened_two : IsOpen text (frames_one ∷ frames_two ∷ []) p2 (at_rest text b2)
  opened_two = still_open text (frames_one ∷ []) p1 frames_two b1 refl some_two short_two (still_open text [] (first text key []) frames_one (begun text key []) refl some_one short_one (opened_at text key [] refl none_few))

  abbrev left : Files
  left = torn_files text p2 b2 (update_payload frames_three)

  genuine : AreGenuine (first text key []) (done ++ three ∷ []) left
  genuine = genuine_last (first text key []) done three left (refl, (refl, (refl, (refl, tt))))
      (torn_genuine text (frames_one ∷ frames_two ∷ []) p2 b2 (update_payload frames_three) opened_two)

  -- what the law says of the files that this crash leaves
  in_journal : AreInJournal text [] done three.deed left
  in_journal =
      (((batches_outlast text [] (first text key []) (zone ∷ []) (at_rest text (begun text key [])) done three (tt, (tt, (tt, (tt, (tt, tt))))) (opened_at text key [] refl none_few) runs
      _ refl _ refl _ refl _ refl).1 _ refl).0 left (leaves_torn text p2 b2 (update_payload frames_three))).stands genuine

  -- the journal has both updates that were acknowledged, none that was refused, and perhaps the third one
  pub survive : Recovers left (frames_one ∷ frames_two ∷ []) ⊎ Recovers left (frames_one ∷ frames_two ∷ frames_three ∷ [])
  survive =
      let a = kept_done one (query ∷ failed ∷ two ∷ []) in_journal.kept is in_journal.are_kept in
      let b = kept_done query (failed ∷ two ∷ []) a.0 is a.1.0 in
      let c = kept_done two [] b.0 is (kept_not failed (two ∷ []) b.0 not refl b.1.0) in
      let kept_is : in_journal.kept ≡ frames_one ∷ frames_two ∷ [] =
      a.1.1 ∙ ap (λ (l : List (List ℕ)). frames_one ∷ l) (b.1.1 ∙ c.1.1 ∙ ap (λ (l : List (List ℕ)). frames_two ∷ l) (kept_none c.0 c.1.0)) in
      kept_last left frames_three [] (frames_one ∷ frames_two ∷ []) in_journal.kept in_journal.last (Ok replies) refl kept_is in_journal.is_last in_journal.recovers

  -- ---- with a compaction

  -- its text is of the zone after the first update
  abbrev replaced : Call
  replaced = record {
    deed = compaction next_text frames_two (Ok tt);
    events = replacing p2 next_text next_key frames_two;
    new = first next_text next_key frames_two;
    after = after_two;
  }

  abbrev q1 : Position
  q1 = first next_text next_key frames_two

  abbrev q2 : Position
  q2 = behind q1 (update_payload frames_three)

  abbrev then_three : Call
  then_three = update frames_three q1 after_three

  abbrev then_four : Call
  then_four = update frames_four q2 after_four

  abbrev all : List Call
  all = one ∷ query ∷ failed ∷ two ∷ replaced ∷ then_three ∷ []

  all_run : Runs (first text key []) (zone ∷ []) (all ++ then_four ∷ [])
  all_run =
      a_call {c = one} (stored (first text key []) frames_one replies (zone ∷ []) (grown ∷ []) is refl some_one short_one takes_one)
      (a_call {c = query} (answered p1 replies (grown ∷ []) is (takes_none (grown ∷ [])))
      (a_call {c = failed} (refused p1 frames_three refusals (grown ∷ []) not)
      (a_call {c = two} (stored p1 frames_two replies (grown ∷ []) after_two is refl some_two short_two takes_two)
      (a_call {c = replaced} (compacted p2 next_text next_key frames_two after_two after_two grown refl refl short_mark few_two behind_two takes_two)
      (a_call {c = then_three} (stored q1 frames_three replies after_two after_three is refl some_three short_three takes_three)
      (a_call {c = then_four} (stored q2 frames_four replies after_three after_four is refl some_four short_four takes_four) no_call))))))

  abbrev c2 : List ℕ
  c2 = begun next_text next_key frames_two ++ entry next_key q1.link (update_payload frames_three)

  opened_again : IsOpen next_text (frames_two ∷ frames_three ∷ []) q2 (at_rest next_text c2)
  opened_again = still_open next_text (frames_two ∷ []) q1 frames_three (begun next_text next_key frames_two) refl some_three short_three (opened_at next_text next_key frames_two refl few_two)

  abbrev left_again : Files
  left_again = torn_files next_text q2 c2 (update_payload frames_four)

  genuine_again : AreGenuine (first text key []) (all ++ then_four ∷ []) left_again
  genuine_again = genuine_last (first text key []) all then_four left_again (refl, (refl, (refl, (refl, (refl, (refl, tt))))))
      (torn_genuine next_text (frames_two ∷ frames_three ∷ []) q2 c2 (update_payload frames_four) opened_again)

  -- what the law says of the files that this crash leaves
  stands : StandAfter text [] (zone ∷ []) all then_four.deed left_again
  stands =
      (((outlasts text [] (first text key []) (zone ∷ []) (at_rest text (begun text key [])) all then_four (opened_at text key [] refl none_few)
      (tt, (tt, (tt, (tt, (own_digest, (tt, (tt, tt))))))) all_run
      _ refl _ refl _ refl _ refl _ refl _ refl _ refl _ refl _ refl _ refl).1 _ refl).0 left_again
      (leaves_torn next_text q2 c2 (update_payload frames_four))).stands genuine_again

  -- the updates are not all in the first journal
  not_first : {T : Type 0} → AreInJournal text [] all then_four.deed left_again → T
  not_first at =
      let a = kept_done one (query ∷ failed ∷ two ∷ replaced ∷ then_three ∷ []) at.kept is at.are_kept in
      let b = kept_done query (failed ∷ two ∷ replaced ∷ then_three ∷ []) a.0 is a.1.0 in
      let c = kept_done two (replaced ∷ then_three ∷ []) b.0 is (kept_not failed (two ∷ replaced ∷ then_three ∷ []) b.0 not refl b.1.0) in
      none_kept replaced (then_three ∷ []) c.0 refl (λ is_batch. is_batch) c.1.0

  -- the compaction among the calls, and what follows it
  which : (before : List Call) (c : Call) (rest : List Call) (t : List ℕ) → all ≡ before ++ c ∷ rest → Writes c.deed t → (c ≡ replaced) × (rest ≡ then_three ∷ [])
  which [] c rest t is_all writes = let same : one ≡ c = cc in absurd (subst (λ (x : Call). Writes x.deed t) (sym same) writes)
  which (b ∷ []) c rest t is_all writes = let same : query ≡ c = cc in absurd (subst (λ (x : Call). Writes x.deed t) (sym same) writes)
  which (b ∷ d ∷ []) c rest t is_all writes = let same : failed ≡ c = cc in absurd (subst (λ (x : Call). Writes x.deed t) (sym same) writes)
  which (b ∷ d ∷ e ∷ []) c rest t is_all writes = let same : two ≡ c = cc in absurd (subst (λ (x : Call). Writes x.deed t) (sym same) writes)
  which (b ∷ d ∷ e ∷ f ∷ []) c rest t is_all writes = (cc, cc)
  which (b ∷ d ∷ e ∷ f ∷ g ∷ []) c rest t is_all writes = let same : then_three ≡ c = cc in absurd (subst (λ (x : Call). Writes x.deed t) (sym same) writes)
  which (b ∷ d ∷ e ∷ f ∷ g ∷ h ∷ more) c rest t is_all writes = let none : [] ≡ more ++ c ∷ rest = cc in absurd (not_none more c rest none)

  -- the text has the update from before the compaction, and the journal the one that was made while the text was written, the one after the
  -- compaction, and perhaps the fourth one
  pub survive_compaction : IsTextAfter (zone ∷ []) (one ∷ query ∷ failed ∷ two ∷ []) next_text frames_two
      × (Recovers left_again (frames_two ∷ frames_three ∷ []) ⊎ Recovers left_again (frames_two ∷ frames_three ∷ frames_four ∷ []))
  survive_compaction = (
    record {
      served = after_two;
      again = grown;
      serves = serves_call {c = one} (subst (λ (b : Bool). IsMade b frames_one (zone ∷ []) (grown ∷ [])) (sym is) takes_one)
          (serves_call {c = query} (subst (λ (b : Bool). IsMade b [] (grown ∷ []) (grown ∷ [])) (sym is) (takes_none (grown ∷ [])))
          (serves_call {c = failed} (subst (λ (b : Bool). IsMade b frames_three (grown ∷ []) (grown ∷ [])) (sym not) refl)
          (serves_call {c = two} (subst (λ (b : Bool). IsMade b frames_two (grown ∷ []) after_two) (sym is) takes_two) serves_none)));
      behind = behind_two;
    },
    ⊎_elim not_first (λ replaced_once. ⊎_elim
        (λ at.
        let both = which at.before at.compacted at.rest next_text at.done_is at.writes in
        let journal : AreInJournal next_text (frames_two ∷ []) (then_three ∷ []) then_four.deed left_again =
        subst (λ (l : List Call). AreInJournal next_text (frames_two ∷ []) l then_four.deed left_again) both.1
        (subst (λ (b : Call). AreInJournal next_text (entries_of (lacking b.deed)) at.rest then_four.deed left_again) both.0 at.journal) in
        let a = kept_done then_three [] journal.kept is journal.are_kept in
        kept_last left_again frames_four (frames_two ∷ []) (frames_three ∷ []) journal.kept journal.last (Ok replies) refl
        (a.1.1 ∙ ap (λ (l : List (List ℕ)). frames_three ∷ l) (kept_none a.0 a.1.0)) journal.is_last journal.recovers)
        (λ at. absurd at.writes) replaced_once) stands,
  )
