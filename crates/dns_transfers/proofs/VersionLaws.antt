-- A client of a version reaches the current one by the differences that are known since.
use Rattle.std.proofs.Common.{◌≡◌, ◌∙◌, ◌==◌, ℕ, Bool, true, false, cond, not, ◌&&◌, ◌||◌, List, [], ◌∷◌, ◌++◌, length, refl, sym, ap, subst, arith, Some}
use Rattle.std.proofs.lemmas.List.{append_assoc, append-nil, map-append}
use Rattle.std.proofs.lemmas.Bool.{eqb-true}
use Rattle.std.proofs.lemmas.List.Elements.{Contains-append_right}
use Rattle.std.specs.List.{Contains}
use Rattle.dns_records.specs.Record.{Record}
use Rattle.dns_records.specs.Rows.{Rows}
use Rattle.dns_differences.specs.declared.difference.Difference.{Difference}
use Rattle.dns_differences.specs.declared.history.Limits.{Limits}
use Rattle.dns_differences.specs.Difference.{applied_all, first_serial, in_zone, is_among, is_empty, is_numbered, AreAlike, AreRecordsOf, HasSerial, IsDifference, Lead}
use Rattle.dns_differences.specs.History.{extended, fits, kept, last_serial, recorded, same_serial, since}
use Rattle.dns_differences.proofs.DifferenceLaws.{all_lead}
use Rattle.dns_differences.proofs.HistoryLaws.{is_known, Begins}
use Rattle.dns_differences.proofs.RecordLaws.{record_equiv, two}
use Rattle.dns_transfers.specs.incremental.Versions.{differences_of, first_rows, with_version, AreKnown, AreToldApart, AreVersions, Version}

-- ---- one more version

to_alike : (old current new : Rows) (d : Difference) → IsDifference old current d → AreAlike current new → IsDifference old new d
to_alike old current new d is same = record {
  deleted = λ r. is.deleted r ∙ (λ i. in_zone old r && not (same r i));
  added = λ r. is.added r ∙ (λ i. same r i && not (in_zone old r));
}

-- the current version has the same records as before
same_versions : (versions : List Version) (current new : Rows) → AreVersions versions current → AreAlike current new → AreVersions versions new
same_versions [] current new are same = tt
same_versions (v ∷ []) current new are same = (to_alike v.rows current new v.difference are.0 same, tt)
same_versions (v ∷ w ∷ versions) current new are same = (are.0, same_versions (w ∷ versions) current new are.1 same)

first_of_more : (versions : List Version) (current new : Rows) (d : Difference)
    → first_rows (versions ++ record { rows = current; difference = d } ∷ []) new ≡ first_rows versions current
first_of_more [] current new d = refl
first_of_more (v ∷ versions) current new d = refl

more_versions : (versions : List Version) (current new : Rows) (d : Difference) → AreVersions versions current → IsDifference current new d
    → AreVersions (versions ++ record { rows = current; difference = d } ∷ []) new
more_versions [] current new d are is = (is, tt)
more_versions (v ∷ versions) current new d are is =
    (subst (λ (rows : Rows). IsDifference v.rows rows v.difference) (sym (first_of_more versions current new d)) are.0, more_versions versions current new d are.1 is)

no_records : (records : List Record) → (length records == 0) ≡ true → records ≡ []
no_records [] e = refl
no_records (r ∷ rs) e = absurd (omega (arith, eqb-true (length (r ∷ rs)) 0 e))

alike_at : (old new : Bool) → false ≡ (old && not new) → false ≡ (new && not old) → old ≡ new
alike_at true true d a = refl
alike_at true false d a = absurd (cc)
alike_at false true d a = absurd (cc)
alike_at false false d a = refl

nothing_changed : (current new : Rows) (d : Difference) → is_empty d ≡ true → IsDifference current new d → AreAlike current new
nothing_changed current new d e is r =
    let both = two (length d.deleted.items == 0) (length d.added.items == 0) e in
    alike_at (in_zone current r) (in_zone new r)
    (sym (ap (λ (l : List Record). is_among l r) (no_records d.deleted.items both.0)) ∙ is.deleted r)
    (sym (ap (λ (l : List Record). is_among l r) (no_records d.added.items both.1)) ∙ is.added r)

-- ---- the known differences

pub none_known : (versions : List Version) → AreKnown versions []
none_known versions = record { older = versions; kept = []; split = sym (append-nil versions); differences = refl }

abbrev rest_of : List Difference → List Difference
rest_of [] = []
rest_of (d ∷ ds) = ds

without_first : (versions : List Version) (d : Difference) (ds : List Difference) → AreKnown versions (d ∷ ds) → AreKnown versions ds
without_first versions d ds k = by k.kept k.split k.differences
  where
    by : (l : List Version) → versions ≡ k.older ++ l → d ∷ ds ≡ differences_of l → AreKnown versions ds
    by [] split are = absurd (cc)
    by (v ∷ l) split are = record {
      older = k.older ++ v ∷ [];
      kept = l;
      split = split ∙ sym (append_assoc k.older (v ∷ []) l);
      differences = ap rest_of are;
    }

kept_known : (limits : Limits) (versions : List Version) (ds : List Difference) → AreKnown versions ds → AreKnown versions (kept limits ds)
kept_known limits versions [] k = k
kept_known limits versions (d ∷ ds) k = by (fits limits (d ∷ ds)) (kept_known limits versions ds (without_first versions d ds k))
  where
    by : (b : Bool) → AreKnown versions (kept limits ds) → AreKnown versions (cond b (d ∷ ds) (kept limits ds))
    by true others = k
    by false others = others

extended_known : (versions : List Version) (ds : List Difference) (current : Rows) (d : Difference) → AreKnown versions ds
    → AreKnown (versions ++ record { rows = current; difference = d } ∷ []) (extended ds d)
extended_known versions ds current d k = by (same_serial (last_serial ds) (first_serial d.deleted.items))
  where
    v : Version
    v = record { rows = current; difference = d }

    by : (b : Bool) → AreKnown (versions ++ record { rows = current; difference = d } ∷ []) (cond b (ds ++ d ∷ []) (d ∷ []))
    by true = record {
      older = k.older;
      kept = k.kept ++ record { rows = current; difference = d } ∷ [];
      split = ap (λ (l : List Version). l ++ record { rows = current; difference = d } ∷ []) k.split ∙ append_assoc k.older k.kept (record { rows = current; difference = d } ∷ []);
      differences = ap (λ (l : List Difference). l ++ d ∷ []) k.differences ∙ sym (map-append (λ (v : Version). v.difference) k.kept (record { rows = current; difference = d } ∷ []));
    }
    by false = record { older = versions; kept = record { rows = current; difference = d } ∷ []; split = refl; differences = refl }

-- a change, once its difference is recorded
pub recorded_known : (limits : Limits) (versions : List Version) (ds : List Difference) (current new : Rows) (d : Difference) → AreVersions versions current
    → AreKnown versions ds → IsDifference current new d → AreVersions (with_version versions current d) new × AreKnown (with_version versions current d) (recorded limits ds d)
recorded_known limits versions ds current new d are k is = by (is_empty d) refl (is_numbered d)
  where
    by : (b : Bool) → is_empty d ≡ b → (c : Bool)
        → AreVersions (cond b versions (versions ++ record { rows = current; difference = d } ∷ [])) new
        × AreKnown (cond b versions (versions ++ record { rows = current; difference = d } ∷ [])) (cond b ds (cond c (kept limits (extended ds d)) []))
    by true e c = (same_versions versions current new are (nothing_changed current new d e is), k)
    by false e true = (
      more_versions versions current new d are is,
      kept_known limits (versions ++ record { rows = current; difference = d } ∷ []) (extended ds d) (extended_known versions ds current d k),
    )
    by false e false = (more_versions versions current new d are is, none_known (versions ++ record { rows = current; difference = d } ∷ []))

-- ---- the version of a client

-- versions from a difference on
record Splits (versions : List Version) (older : List Difference) (d : Difference) (more : List Difference) : Type 0 where
  pub before : List Version
  pub here : Version
  pub behind : List Version
  pub split : versions ≡ before ++ here ∷ behind
  pub is : here.difference ≡ d
  pub rest : differences_of behind ≡ more

abbrev first_of : Difference → List Difference → Difference
first_of other [] = other
first_of other (d ∷ ds) = d

splits : (versions : List Version) (older : List Difference) (d : Difference) (more : List Difference) → differences_of versions ≡ older ++ d ∷ more
    → Splits versions older d more
splits [] [] d more e = absurd (cc)
splits [] (o ∷ older) d more e = absurd (cc)
splits (v ∷ versions) [] d more e = record {
  before = [];
  here = v;
  behind = versions;
  split = refl;
  is = ap (first_of d) e;
  rest = ap rest_of e;
}
splits (v ∷ versions) (o ∷ older) d more e =
    let s = splits versions older d more (ap rest_of e) in record {
      before = v ∷ s.before;
      here = s.here;
      behind = s.behind;
      split = ap (λ (l : List Version). v ∷ l) s.split;
      is = s.is;
      rest = s.rest;
    }

later_versions : (older versions : List Version) (now : Rows) → AreVersions (older ++ versions) now → AreVersions versions now
later_versions [] versions now are = are
later_versions (v ∷ older) versions now are = later_versions older versions now are.1

lead : (versions : List Version) (now : Rows) → AreVersions versions now → Lead (first_rows versions now) (differences_of versions) now
lead [] now are = λ r. refl
lead (v ∷ versions) now are = (first_rows versions now, (are.0, lead versions now are.1))

first_has : (old next : Rows) (d : Difference) (serial : ℕ) → IsDifference old next d → first_serial d.deleted.items ≡ Some serial → HasSerial old serial
first_has old next d serial is e = by d.deleted.items is.deleted e
  where
    by : (records : List Record) → ((r : Record) → is_among records r ≡ (in_zone old r && not (in_zone next r))) → first_serial records ≡ Some serial → HasSerial old serial
    by [] are found = absurd (cc)
    by (r ∷ rs) are found =
        let here : (in_zone old r && not (in_zone next r)) ≡ true = sym (are r) ∙ ap (λ (b : Bool). b || is_among rs r) (record_equiv.refl r) in
        (r, ((two (in_zone old r) (not (in_zone next r)) here).0, found))

pub reaches_from : (versions : List Version) (now : Rows) (ds : List Difference) (current serial : ℕ) (d : Difference) (more : List Difference) (sent : Version)
    (records : List Record) → AreVersions versions now → AreKnown versions ds → AreToldApart versions → Contains versions sent → HasSerial sent.rows serial
    → since ds current serial ≡ Some (d ∷ more) → AreRecordsOf sent.rows records → AreRecordsOf now (applied_all (d ∷ more) records)
reaches_from versions now ds current serial d more sent records are k told has_sent has e of_sent =
    let b : Begins serial ds d more = (is_known ds current serial d more e).begins_at in
    let s : Splits k.kept b.older d more = splits k.kept b.older d more (sym k.differences ∙ b.split) in
    let from : AreVersions (s.here ∷ s.behind) now =
    later_versions s.before (s.here ∷ s.behind) now (subst (λ (l : List Version). AreVersions l now) s.split
    (later_versions k.older k.kept now (subst (λ (l : List Version). AreVersions l now) k.split are))) in
    let path : Lead s.here.rows (d ∷ more) now =
    subst (λ (l : List Difference). Lead s.here.rows l now) (λ i. s.is i ∷ s.rest i) (lead (s.here ∷ s.behind) now from) in
    let here_has : HasSerial s.here.rows serial =
    first_has s.here.rows (first_rows s.behind now) s.here.difference serial from.0 (ap (λ (x : Difference). first_serial x.deleted.items) s.is ∙ b.serial_is) in
    let has_here : Contains versions s.here = subst (λ (l : List Version). Contains l s.here) (sym (k.split ∙ ap (λ (l : List Version). k.older ++ l) s.split))
    (Contains-append_right k.older (s.before ++ s.here ∷ s.behind) s.here (Contains-append_right s.before (s.here ∷ s.behind) s.here (0, omega arith, refl))) in
    let same : AreAlike sent.rows s.here.rows = told sent s.here serial has_sent has_here has here_has in
    all_lead (d ∷ more) s.here.rows now records path (λ r. of_sent r ∙ same r)
