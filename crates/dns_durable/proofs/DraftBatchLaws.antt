-- A text stays behind the zones that are served, and takes the place of a journal.
use Rattle.std.proofs.Common.{◌≡◌, ◌∙◌, ◌||◌, ℕ, Bool, true, false, not, List, [], ◌∷◌, ◌++◌, map, refl, sym, ap, subst, Option, Some, None, Result, Ok, Err}
use Rattle.std.specs.Prelude.{IfSome, string_bytes}
use Rattle.std.specs.BTreeSet as keys
use Rattle.std.specs.FinMap as rows_map
use Rattle.std.specs.List.{AllByRecursion}
use Rattle.std.specs.Ordering.{is_gt}
use Rattle.std.specs.declared.alloc.AllocError.{AllocError}
use Rattle.dns_wire.specs.codes.RecordType.{type_number}
use Rattle.dns_wire.specs.declared.codes.record_type.RecordType.TheVariants as types
use Rattle.dns_names.specs.Name.{DomainName}
use Rattle.dns_data.specs.rdata.{data_type}
use Rattle.dns_records.specs.RecordSet.{RecordSetValue}
use Rattle.dns_records.specs.declared.row.Row.{Row}
use Rattle.dns_records.specs.Rows.{key}
use Rattle.dns_updates.specs.Keys.{Place, owner_code, place_cmp}
use Rattle.dns_zone.specs.Printed.{zone_text, BeginsWithStart}
use Rattle.dns_zone.specs.Rows.{ZoneContent, AreRowsAt, IsZone, rows_of_sets}
use Rattle.dns_zone.specs.Sets.{set_place}
use Rattle.dns_zone.proofs.KeptLaws.{start_place}
use Rattle.dns_durable.specs.Compaction.{IsStatedText, IsSuccessor}
use Rattle.dns_durable.specs.Draft.{AreSettledFor, IsBehind, IsBetween, IsDraftBehind, IsDraftOf, IsPart, Settled, is_settled, place_of}
use Rattle.dns_durable.specs.Changes.{reply_bytes}
use Rattle.dns_durable.specs.Durable.{AnswersRequests, TakesEntry}
use Rattle.dns_durable.specs.Durable.Takes.{no_frame}
use Rattle.dns_durable.specs.Incoming.{AreJudged, changes_in}
use Rattle.dns_durable.specs.Reply.{AnswersAll}
use Rattle.dns_durable.specs.Rule.{entry_of}
use Rattle.dns_durable.specs.declared.draft.Draft.{Draft}
use Rattle.dns_durable.specs.declared.draft.Progress.{Progress}
use Rattle.dns_durable.specs.declared.draft.Progress.TheVariants.{Idle, Writing, GivenUp}
use Rattle.dns_durable.specs.declared.durable_server.Replies.{Replies}
use Rattle.dns_durable.specs.declared.incoming.Arrived.{Arrived}
use Rattle.dns_durable.specs.declared.policy.Policy.{Policy}
use Rattle.dns_durable.specs.internal.Drafting.{AreSettledIn, Carries, CarriesIf, CarriesOn, GoesOn, IsJoined, IsReadyFor, Notes}
use Rattle.dns_durable.specs.internal.Drafting.IsJoined.{nothing, first, further}
use Rattle.dns_durable.proofs.AnsweringLaws.{answers_take, answers_unstored}
use Rattle.dns_durable.proofs.CarryLaws.{carried_first, carried_more}
use Rattle.dns_durable.proofs.CompactionLaws.{stated_rewritten}
use Rattle.dns_durable.proofs.BetweenLaws.{moved, place_of_key, whole}
use Rattle.dns_durable.proofs.RuleLaws.{entry_none, entry_takes}
use Rattle.dns_durable.proofs.ServedLaws.{AreLater, answers_later}
use Rattle.dns_durable.proofs.StatedLaws.{stated_zone}
use Rattle.dns_durable.proofs.TouchLaws.{AreOfType}

-- ---- the whole text

all_settled : (d : Draft) → d.is_whole ≡ true → (p : Place) → is_settled d p ≡ true
all_settled d is p = ap (λ (b : Bool). b || (not (is_gt (place_cmp p d.place)) || keys.contains place_cmp d.ahead p)) is

-- a whole text is that of its zone, which can be stated
text_of_whole : (base zone : ZoneContent) (d : Draft) → IsDraftOf base zone d → d.is_whole ≡ true → IsStatedText (base ∷ []) (string_bytes d.text.text)
text_of_whole base zone d draft is =
    let rows : base.rows ≡ rows_of_sets draft.sets = sym (whole base.rows zone.rows (is_settled d) draft.sets (all_settled d is) draft.between) in
    record {
      zone = base;
      zones_are = refl;
      is_text = record {
        records = zone_text base.origin draft.sets;
        is_text = record {
          sets = draft.sets;
          origin_fqdn = draft.part.fqdn;
          rows = rows;
          sound = draft.part.sound;
          kept = draft.part.kept;
          text_is = refl;
        };
        text_is = draft.part.text_is;
      };
      stated = stated_zone base draft.sets rows draft.part.stated;
    }

-- a whole text takes the place of the journal
pub whole_succeeds : (base : ZoneContent) (zones : List ZoneContent) (d : Draft) → IsDraftBehind base zones d → d.is_whole ≡ true → IsSuccessor zones (string_bytes d.text.text) d.carried.items None
unfolding text_of_whole
whole_succeeds base zones d behind is =
    record {
      again = base;
      behind = record {
        base = base ∷ [];
        rewritten = stated_rewritten (base ∷ []) (string_bytes d.text.text) (text_of_whole base behind.zone d behind.draft is);
        carries = behind.carries;
      };
      served = behind.carries;
    }

-- ---- requests

-- the place of the SOA record is settled
start_settled : (base zone : ZoneContent) (d : Draft) → IsDraftOf base zone d → is_settled d (place_of (key zone.origin.labels types.SOA)) ≡ true
start_settled base zone d draft =
    ap (λ (o : DomainName). is_settled d (place_of (key o.labels types.SOA))) draft.origin_is ∙ ap (is_settled d) (place_of_key base.origin.labels types.SOA)
    ∙ start draft.sets draft.part.kept.start_first draft.between.all
  where
    start : (sets : List RecordSetValue) → BeginsWithStart base.origin sets → AllByRecursion (λ s. is_settled d (set_place s) ≡ true) sets → is_settled d (owner_code base.origin.labels, 0) ≡ true
    start [] begins all = absurd begins
    start (s ∷ more) begins all = ap (is_settled d) (sym (start_place base.origin s begins)) ∙ all.0

zone_of_type : (zone : ZoneContent) → IsZone zone → AreOfType zone.rows
zone_of_type zone is k found e = (at (rows_map.get zone.rows k) (is.rows k) e)
  where
    at : (o : Option (List Row)) → IfSome o (AreRowsAt zone.origin k) → o ≡ Some found → AllByRecursion (λ (row : Row). type_number (data_type row.rdata) ≡ k.1) found
    at None are f = absurd cc
    at (Some rows) are f =
        let same : rows ≡ found = cc in
        subst (λ (l : List Row). AllByRecursion (λ (row : Row). type_number (data_type row.rdata) ≡ k.1) l) same are.of_type

-- updates of settled sets leave a text behind the zones
later_draft : (base : ZoneContent) (zones after : List ZoneContent) (policy : Policy) (admitted : List Arrived) (replies : List (Option (List ℕ))) (d : Draft)
    → (behind : IsDraftBehind base zones d) → AreSettledIn zones admitted (Writing d) → AnswersAll policy true zones admitted replies after
    → (zone : ZoneContent) × ((after ≡ zone ∷ []) × IsDraftOf base zone d)
later_draft base zones after policy admitted replies d behind settled answered =
    let zone = behind.zone in
    let known = settled zone behind.zones_are in
    let later : AreLater (is_settled d) zone.rows zone.origin after =
    answers_later (is_settled d) zone.rows zone.origin policy zones after admitted replies (start_settled base zone d behind.draft) known.1
    (record {
      zone = zone;
      zones_are = behind.zones_are;
      later = record { origin_is = refl; differs = λ k un. refl; typed = zone_of_type zone known.0 };
    }) answered in (
      later.zone,
      (
        later.zones_are,
        record {
          sets = behind.draft.sets;
          part = behind.draft.part;
          between = moved base.rows zone.rows later.zone.rows (is_settled d) behind.draft.sets later.later.differs behind.draft.between;
          origin_is = later.later.origin_is ∙ behind.draft.origin_is;
        },
      ),
    )

-- a draft with the same text that has settled the same
same_draft : (base zone : ZoneContent) (d new : Draft) (entry : List ℕ) → CarriesOn entry d new → IsDraftOf base zone d → IsDraftOf base zone new
same_draft base zone d new entry on draft = record {
  sets = draft.sets;
  part = subst (λ t. IsPart base draft.sets (string_bytes t.text)) (sym on.text_is) draft.part;
  between = subst (λ (settled : Settled). IsBetween base.rows zone.rows settled draft.sets)
      (sym (λ i p. on.whole_is i || (not (is_gt (place_cmp p (on.place_is i))) || keys.contains place_cmp (on.ahead_is i) p))) draft.between;
  origin_is = draft.origin_is;
}

joined_takes : (policy : Policy) (base : ZoneContent) (zones after : List ZoneContent) (messages : List (List ℕ)) (old entry new : List ℕ) → IsJoined old entry new
    → entry ≡ entry_of policy.answering messages → TakesEntry (base ∷ []) old zones → TakesEntry zones entry after → TakesEntry (base ∷ []) new after
joined_takes policy base zones after messages old entry new (nothing none) is one other =
    subst (λ (z : List ZoneContent). TakesEntry (base ∷ []) old z) (sym (entry_none zones after entry none other)) one
joined_takes policy base zones after messages old entry new (first none) is one other =
    subst (λ (l : List ℕ). TakesEntry (base ∷ []) (l ++ entry) after) none (carried_first (base ∷ []) zones after old entry none one other)
joined_takes policy base zones after messages old entry new (further more have) is one other =
    carried_more policy.answering (base ∷ []) zones after messages old entry more have is one other

carried_by : (base : ZoneContent) (zones after : List ZoneContent) (policy : Policy) (admitted : List Arrived) (replies : List (Option (List ℕ))) (entry : List ℕ) (old new : Progress)
    → IsBehind base zones old → AreSettledIn zones admitted old → AreJudged policy admitted → entry ≡ entry_of policy.answering (changes_in admitted)
    → AnswersAll policy true zones admitted replies after → Carries entry old new → IsBehind base after new
carried_by base zones after policy admitted replies entry (Writing d) (Writing new) behind settled judged entry_is answered on =
    let later = later_draft base zones after policy admitted replies d behind settled answered in
    let takes : TakesEntry zones entry after =
    subst (λ (l : List ℕ). TakesEntry zones l after) (sym entry_is) (entry_takes policy.answering zones after (changes_in admitted) (answers_take policy zones after admitted replies judged answered)) in
    record {
      zone = later.0;
      zones_are = later.1.0;
      draft = same_draft base later.0 d new entry on later.1.1;
      carries = joined_takes policy base zones after (changes_in admitted) d.carried.items entry new.carried.items on.joined entry_is behind.carries takes;
    }
carried_by base zones after policy admitted replies entry (Writing d) Idle behind settled judged entry_is answered on = absurd on
carried_by base zones after policy admitted replies entry (Writing d) (GivenUp fault) behind settled judged entry_is answered on = tt
carried_by base zones after policy admitted replies entry Idle new behind settled judged entry_is answered on = subst (λ (p : Progress). IsBehind base after p) (sym on) tt
carried_by base zones after policy admitted replies entry (GivenUp fault) new behind settled judged entry_is answered on = subst (λ (p : Progress). IsBehind base after p) (sym on) tt

noted_if : (stored : Bool) (base : ZoneContent) (zones after : List ZoneContent) (policy : Policy) (admitted : List Arrived) (replies : List (Option (List ℕ))) (entry : List ℕ) (old new : Progress)
    → IsBehind base zones old → AreSettledIn zones admitted old → AreJudged policy admitted → entry ≡ entry_of policy.answering (changes_in admitted)
    → AnswersAll policy stored zones admitted replies after → CarriesIf stored entry old new → IsBehind base after new
noted_if true base zones after policy admitted replies entry old new behind settled judged entry_is answered on =
    carried_by base zones after policy admitted replies entry old new behind settled judged entry_is answered on
noted_if false base zones after policy admitted replies entry old new behind settled judged entry_is answered on =
    subst (λ (p : Progress). IsBehind base after p) (sym on)
    (subst (λ (z : List ZoneContent). IsBehind base z old) (sym (answers_unstored policy zones after admitted replies answered)) behind)

-- what is made of a text by requests
pub noted : (base : ZoneContent) (zones after : List ZoneContent) (policy : Policy) (admitted : List Arrived) (outcome : Result Replies AllocError) (entry : List ℕ) (old new : Progress)
    → IsBehind base zones old → AreSettledIn zones admitted old → AreJudged policy admitted → entry ≡ entry_of policy.answering (changes_in admitted)
    → AnswersRequests policy admitted zones after outcome → Notes outcome entry old new → IsBehind base after new
noted base zones after policy admitted (Ok replies) entry old new behind settled judged entry_is answered notes =
    noted_if replies.is_stored base zones after policy admitted (map reply_bytes replies.replies.items) entry old new behind settled judged entry_is answered notes
noted base zones after policy admitted (Err error) entry old new behind settled judged entry_is answered notes = notes base after

-- ---- the steps of a server

-- a text that was begun carries nothing
pub begun_behind : (zone : ZoneContent) (zones : List ZoneContent) (d : Draft) → zones ≡ zone ∷ [] → IsDraftOf zone zone d → d.carried.items ≡ [] → IsDraftBehind zone zones d
begun_behind zone zones d are draft none = record {
  zone = zone;
  zones_are = are;
  draft = draft;
  carries = subst (λ (z : List ZoneContent). TakesEntry (zone ∷ []) d.carried.items z) (sym are) (subst (λ (l : List ℕ). TakesEntry (zone ∷ []) l (zone ∷ [])) (sym none) no_frame);
}

one_zone : (a b : ZoneContent) → ◌≡◌ {A = List ZoneContent} (a ∷ []) (b ∷ []) → a ≡ b
one_zone a b e = cc

-- a text that goes on stays behind the zones
pub on_behind : (base x : ZoneContent) (zones : List ZoneContent) (progress : Progress) (d new : Draft) → progress ≡ Writing d → zones ≡ x ∷ []
    → (IsDraftOf base x d → IsDraftOf base x new) → new.carried ≡ d.carried → IsBehind base zones progress → IsDraftBehind base zones new
on_behind base x zones progress d new is are on carried behind =
    let before : IsDraftBehind base zones d = subst (λ (p : Progress). IsBehind base zones p) is behind in
    let same : before.zone ≡ x = one_zone before.zone x (sym before.zones_are ∙ are) in
    record {
      zone = x;
      zones_are = are;
      draft = on (subst (λ (z : ZoneContent). IsDraftOf base z d) same before.draft);
      carries = subst (λ c. TakesEntry (base ∷ []) c.items zones) (sym carried) before.carries;
    }

-- a whole text that is taken
pub taken : (base : ZoneContent) (zones : List ZoneContent) (progress : Progress) (d : Draft) (text carried : List ℕ) (read : Option ZoneContent) → progress ≡ Writing d → d.is_whole ≡ true
    → text ≡ string_bytes d.text.text → carried ≡ d.carried.items → read ≡ None → IsBehind base zones progress → IsSuccessor zones text carried read
taken base zones progress d text carried read is whole text_is carried_is read_is behind =
    let behind_it : IsDraftBehind base zones d = subst (λ (p : Progress). IsBehind base zones p) is behind in
    subst (λ (r : Option ZoneContent). IsSuccessor zones text carried r) (sym read_is)
    (subst (λ (c : List ℕ). IsSuccessor zones text c None) (sym carried_is)
    (subst (λ (t : List ℕ). IsSuccessor zones t d.carried.items None) (sym text_is) (whole_succeeds base zones d behind_it whole)))

-- a text is ready for the updates of requests
pub ready_behind : (base x : ZoneContent) (zones : List ZoneContent) (admitted : List Arrived) (progress : Progress) (d new : Draft) → progress ≡ Writing d → zones ≡ x ∷ [] → IsZone x
    → GoesOn x d new → AreSettledFor (is_settled new) x.rows admitted → IsReadyFor base zones admitted progress (Writing new)
ready_behind base x zones admitted progress d new is are well on settled behind = (
  on_behind base x zones progress d new is are (on.draft base) on.carried_is behind,
  λ zone zones_are.
      let same : x ≡ zone = one_zone x zone (sym are ∙ zones_are) in
      (subst (λ (z : ZoneContent). IsZone z) same well, subst (λ (z : ZoneContent). AreSettledFor (is_settled new) z.rows admitted) same settled),
)
