-- What is appended in two steps, and item by item.
use Rattle.std.proofs.Common.{◌≡◌, ℕ, suc, List, [], ◌∷◌, ◌++◌, ◌+◌, ◌-◌, ◌<◌, ◌≤◌, length, take, drop, get_or, Option, Some, None, Result, Ok, Err, OnOk, sym, ap, ◌∙◌, flat_map, subst, ◌⊎◌, inl, inr, arith}
use Rattle.std.proofs.lemmas.List.{append_assoc, append-nil, take_all, take_more, flat_map_more}
use Rattle.std.specs.Io.KnownBytes.{Appends, Keeps}
use Rattle.dns_records.specs.Record.{Record}
use Rattle.dns_zone_file.specs.declared.types.Types.{Types}
use Rattle.stub_run.specs.declared.event.Event.{Event}
use Rattle.stub_run.specs.declared.report.EventReport.{EventReport}
use Rattle.stub_play.specs.report.Report.{report_text, told_text}
use Rattle.stub_play.specs.report.ReportJson.{json_record, json_records, other_record}
use Rattle.stub_play.specs.declared.report.report.PlayFormat.{PlayFormat}

pub appends_nothing : (a : Option (List ℕ)) → Appends a a []
appends_nothing None = tt
appends_nothing (Some xs) = sym (append-nil xs)

pub appends_then : (a b c : Option (List ℕ)) (xs ys : List ℕ) → Appends a b xs → Appends b c ys → Appends a c (xs ++ ys)
appends_then None b c xs ys h k = tt
appends_then (Some a) None c xs ys h k = absurd h
appends_then (Some a) (Some b) None xs ys h k = absurd k
appends_then (Some a) (Some b) (Some c) xs ys h k = k ∙ (ap (λ (l : List ℕ). l ++ ys) h ∙ append_assoc a xs ys)

-- what was appended stays
pub appends_kept : (a b c : Option (List ℕ)) (xs : List ℕ) → Appends a b xs → Keeps b c → Appends a c xs
appends_kept None b c xs h k = tt
appends_kept (Some a) None c xs h k = absurd h
appends_kept (Some a) (Some b) None xs h k = absurd k
appends_kept (Some a) (Some b) (Some c) xs h k = k ∙ h

-- one more item is appended
pub appends_more : {X : Type 0} (f : X → List ℕ) (items : List X) (i : ℕ) (x : X) (a b c : Option (List ℕ)) → i < length items → get_or items i x ≡ x
    → Appends a b (flat_map f (take i items)) → Appends b c (f x) → Appends a c (flat_map f (take (i + 1) items))
appends_more f items i x a b c lt is h k =
    let more : take (i + 1) items ≡ take i items ++ x ∷ [] = take_more items i x lt ∙ ap (λ (y : _). take i items ++ y ∷ []) is in
    let text : flat_map f (take i items) ++ f x ≡ flat_map f (take (i + 1) items) = flat_map_more f [] (take i items) x ∙ ap (flat_map f) (sym more) in
    subst (Appends a c) text (appends_then a b c (flat_map f (take i items)) (f x) h k)

-- a record is written, and then the others
pub records_written : {A E : Type 0} (types : Types) (records : List Record) (x : Record) (a b c : Option (List ℕ)) (r : Result A E) → 1 ≤ length records → x ≡ get_or records 0 x
    → Appends a b (json_record types x) → OnOk r (Appends b c (flat_map (other_record types) (take (length records - 1) (drop 1 records))))
    → OnOk r (Appends a c (json_records types records))
records_written types [] x a b c r some is first others = absurd (omega (arith, some))
records_written types (y ∷ ys) x a b c (Err e) some is first others = tt
records_written types (y ∷ ys) x a b c (Ok v) some is first others =
    let same : take (suc (length ys) - 1) ys ≡ ys = take_all (suc (length ys) - 1) ys (omega arith) in
    let head : Appends a b (json_record types y) = subst (λ (z : Record). Appends a b (json_record types z)) is first in
    let rest : Appends b c (flat_map (other_record types) ys) = subst (λ (l : List Record). Appends b c (flat_map (other_record types) l)) same others in
    appends_then a b c (json_record types y) (flat_map (other_record types) ys) head rest

-- what is left completes a text
abbrev pub Completes : Types → PlayFormat → List ℕ → List Event → List EventReport → List ℕ → Type 0
Completes types format done events reports text = done ++ report_text types format events reports ≡ text

-- an event and its reply are written
pub told_more : (types : Types) (format : PlayFormat) (done text : List ℕ) (events later : List Event) (reports last : List EventReport) (e : Event) (r : EventReport) → events ≡ e ∷ later
    → reports ≡ r ∷ last → Completes types format done events reports text → Completes types format (done ++ told_text types format e r) later last text
told_more types format done text events later reports last e r first second h =
    append_assoc done (told_text types format e r) (report_text types format later last) ∙ (rw (first, second) at h)

-- nothing is left where either list ends
pub told_all : (types : Types) (format : PlayFormat) (done text : List ℕ) (events : List Event) (reports : List EventReport) → (length events ≡ 0) ⊎ (length reports ≡ 0)
    → Completes types format done events reports text → done ≡ text
told_all types format done text [] reports ended h = sym (append-nil done) ∙ h
told_all types format done text (e ∷ events) [] ended h = sym (append-nil done) ∙ h
told_all types format done text (e ∷ events) (r ∷ reports) (inl none) h = absurd (cc none)
told_all types format done text (e ∷ events) (r ∷ reports) (inr none) h = absurd (cc none)
