-- Reports, finding by finding.
use Rattle.std.proofs.Common.{◌≡◌, ℕ, ◌+◌, ◌<◌, Bool, true, false, cond, List, [], ◌∷◌, ◌++◌, map, length, take, get_or, Option, Some, None, Result, Ok, Err, refl, sym, ap, ◌∙◌, append_assoc, append-nil}
use Rattle.std.proofs.lemmas.List.{map-append}
use Rattle.std.proofs.lemmas.Grind.{take_at_read, flat_map-append}
use Rattle.std.specs.Option.{option_to_list}
use Rattle.std.specs.Prelude.{IsOk, ◌↔◌, codes, flat_map}
use Rattle.dns_zone.specs.Rows.{ZoneContent}
use Rattle.dns_zone.specs.declared.zone.ZoneFault.{ZoneFault}
use Rattle.dns_zone.specs.declared.zone.ZoneFault.TheVariants as fault
use Rattle.zone_check.specs.Apex.{some_starts}
use Rattle.zone_check.specs.Fault.{Start, entry_said}
use Rattle.zone_check.specs.Files.{ShownFiles, file_lines, file_name, finding_in, report_text}
use Rattle.zone_check.specs.Report.{check_said, entries_said, faults_said, file_said, or_file, outcome_said, parts_said, said_of_warning, said_of_warnings, start_of_check, warnings_said, whole_said, zone_report}
use Rattle.zone_check.specs.declared.check.ZoneCheck.{ZoneCheck}
use Rattle.dns_zone_file.specs.declared.types.Types.{Types}
use Rattle.zone_check.specs.findings.Finding.{Said, finding_text, number_part, said_by, severity_name, word_part}
use Rattle.zone_check.specs.findings.Shown.{shown}
use Rattle.zone_check.specs.declared.findings.finding.Finding.{Finding}
use Rattle.zone_check.specs.declared.findings.format.ReportFormat.{ReportFormat}
use Rattle.zone_check.specs.declared.findings.format.ReportFormat.TheVariants.{Text, Json}
use Rattle.zone_lines.specs.Line.{lines_of_file}
use Rattle.zone_lines.specs.Source.{FileText}
use Rattle.zone_lines.specs.declared.record_line.EntryLine.{EntryLine}
use Rattle.zone_lines.specs.declared.warnings.kind.Warning.{Warning}

-- ---- one more element

flat_next : {X Y : Type 0} (f : X → List Y) (xs : List X) (i : ℕ) (d : X) → i < length xs
    → flat_map f (take (i + 1) xs) ≡ flat_map f (take i xs) ++ f (get_or xs i d)
flat_next f xs i d within =
    ap (flat_map f) (take_at_read xs i d within).1
    ∙ flat_map-append f (take i xs) (get_or xs i d ∷ [])
    ∙ ap (λ l. flat_map f (take i xs) ++ l) (append-nil (f (get_or xs i d)))

map_next : {X Y : Type 0} (f : X → Y) (xs : List X) (i : ℕ) (d : X) → i < length xs
    → map f (take (i + 1) xs) ≡ map f (take i xs) ++ f (get_or xs i d) ∷ []
map_next f xs i d within = ap (map f) (take_at_read xs i d within).1 ∙ map-append f (take i xs) (get_or xs i d ∷ [])

module _ (format : ReportFormat) (files : ShownFiles) where
  -- a text with more said
  report_more : (said more : List Said) → report_text format files (said ++ more) ≡ report_text format files said ++ report_text format files more
  report_more said more = flat_map-append (finding_in format files) said more

  pub finding_pushed : (findings : List Finding) (i : ℕ) (f : Finding) (before found after : List ℕ) → i < length findings
      → f ≡ get_or findings i f → found ≡ before ++ report_text format files (map said_by (take i findings))
      → after ≡ found ++ finding_in format files (said_by f)
      → after ≡ before ++ report_text format files (map said_by (take (i + 1) findings))
  finding_pushed findings i f before found after within is so_far pushed =
      let one : List ℕ = finding_in format files (said_by f) in
      let front : List ℕ = report_text format files (map said_by (take i findings)) in
      pushed
      ∙ ap (λ (l : List ℕ). l ++ one) so_far
      ∙ append_assoc before front one
      ∙ ap (λ (l : List ℕ). before ++ (front ++ l)) (sym (append-nil one))
      ∙ ap (λ (l : List ℕ). before ++ l) (sym (report_more (map said_by (take i findings)) (said_by f ∷ [])))
      ∙ ap (λ (g : Finding). before ++ report_text format files (map said_by (take i findings) ++ said_by g ∷ [])) is
      ∙ ap (λ (l : List Said). before ++ report_text format files l) (sym (map_next said_by findings i f within))

  pub warning_pushed : (z : Start) (entries : List EntryLine) (warnings : List Warning) (i : ℕ) (w : Warning) (before found after : List ℕ)
      → i < length warnings → w ≡ get_or warnings i w
      → found ≡ before ++ report_text format files (said_of_warnings z entries (take i warnings))
      → after ≡ found ++ report_text format files (said_of_warning z entries w)
      → after ≡ before ++ report_text format files (said_of_warnings z entries (take (i + 1) warnings))
  warning_pushed z entries warnings i w before found after within is so_far pushed =
      let one : List ℕ = report_text format files (said_of_warning z entries w) in
      let front : List ℕ = report_text format files (said_of_warnings z entries (take i warnings)) in
      pushed
      ∙ ap (λ (l : List ℕ). l ++ one) so_far
      ∙ append_assoc before front one
      ∙ ap (λ (l : List ℕ). before ++ l) (sym (report_more (said_of_warnings z entries (take i warnings)) (said_of_warning z entries w)))
      ∙ ap (λ (v : Warning). before ++ report_text format files (said_of_warnings z entries (take i warnings) ++ said_of_warning z entries v)) is
      ∙ ap (λ (l : List Said). before ++ report_text format files l) (sym (flat_next (said_of_warning z entries) warnings i w within))

-- ---- faults of entries

module _ (z : Start) (entries : List EntryLine) (i : ℕ) (e : EntryLine) (within : i < length entries) (is : e ≡ get_or entries i e)
    (found : List Finding) (so_far : map said_by found ≡ entries_said z (take i entries)) where
  with_entry : (said : Option Said) → said ≡ entry_said z e → map said_by found ++ option_to_list said ≡ entries_said z (take (i + 1) entries)
  with_entry said same =
      ap (λ (l : List Said). l ++ option_to_list said) so_far
      ∙ ap (λ (o : Option Said). entries_said z (take i entries) ++ option_to_list o) same
      ∙ ap (λ (x : EntryLine). entries_said z (take i entries) ++ option_to_list (entry_said z x)) is
      ∙ sym (flat_next (λ x. option_to_list (entry_said z x)) entries i e within)

  pub entry_found : (f : Finding) (after : List Finding) → Some (said_by f) ≡ entry_said z e → after ≡ found ++ f ∷ []
      → map said_by after ≡ entries_said z (take (i + 1) entries)
  entry_found f after same pushed =
      ap (map said_by) pushed ∙ map-append said_by found (f ∷ []) ∙ with_entry (Some (said_by f)) same

  pub entry_passed : None ≡ entry_said z e → map said_by found ≡ entries_said z (take (i + 1) entries)
  entry_passed same = sym (append-nil (map said_by found)) ∙ with_entry None same

-- ---- nothing said

left_empty : {X : Type 0} (xs ys : List X) → xs ++ ys ≡ [] → xs ≡ []
left_empty [] ys empty = refl
left_empty (x ∷ xs) ys empty = absurd (let no : ⊥ = cc in no)

right_empty : {X : Type 0} (xs ys : List X) → xs ++ ys ≡ [] → ys ≡ []
right_empty [] ys empty = empty
right_empty (x ∷ xs) ys empty = absurd (let no : ⊥ = cc in no)

cons_empty : {X : Type 0} (x : X) (xs : List X) → x ∷ xs ≡ [] → ⊥
cons_empty x xs e = cc

-- an object without its end
abbrev json_front : List ℕ → Said → List ℕ
json_front file s =
    codes "{\"file\":\"" ++ shown Json file ++ codes "\",\"line\":" ++ number_part s.line ++ codes ",\"kind\":\""
    ++ severity_name s.severity ++ codes "\",\"message\":\"" ++ shown Json s.advice.reason ++ word_part Json s.severity s.word
    ++ codes "\",\"hint\":\"" ++ shown Json s.advice.hint

some_text : (format : ReportFormat) (file : List ℕ) (lines : List (List ℕ)) (s : Said) → finding_text format file lines s ≡ [] → ⊥
some_text Text file lines s empty = cons_empty 10 [] (right_empty _ (10 ∷ []) (left_empty _ _ (left_empty _ _ empty)))
some_text Json file lines s empty = cons_empty 34 (125 ∷ 10 ∷ []) (right_empty (json_front file s) (34 ∷ 125 ∷ 10 ∷ []) empty)

nothing_said : (format : ReportFormat) (files : ShownFiles) (said : List Said) → report_text format files said ≡ [] → said ≡ []
nothing_said format files [] empty = refl
nothing_said format files (s ∷ said) empty =
    absurd (some_text format (file_name files s.source) (file_lines files s.source) s (left_empty (finding_in format files s) (report_text format files said) empty))

or_file_some : (types : Types) (refusal : ZoneFault) (said : List Said) → or_file types refusal said ≡ [] → ⊥
or_file_some types refusal [] empty = cc
or_file_some types refusal (s ∷ said) empty = cc

whole_some : (types : Types) (refusal : ZoneFault) (entries : List EntryLine) (said : List Said) (b : Bool) → some_starts entries ≡ b
    → whole_said types refusal entries said ≡ [] → ⊥
whole_some types refusal entries said true is empty =
    or_file_some types refusal said
    (sym (ap (λ (b : Bool). cond b (or_file types refusal said) (said ++ file_said types fault.NoSoa ∷ [])) is) ∙ empty)
whole_some types refusal entries said false is empty =
    cons_empty (file_said types fault.NoSoa) []
    (right_empty said (file_said types fault.NoSoa ∷ [])
    (sym (ap (λ (b : Bool). cond b (or_file types refusal said) (said ++ file_said types fault.NoSoa ∷ [])) is) ∙ empty))

accepted_by : (z : Start) (entries : List EntryLine) (outcome : Result ZoneContent ZoneFault) → (outcome_said z entries outcome ≡ []) ↔ IsOk outcome
accepted_by z entries (Ok zone) = (λ none. let yes : true ≡ true = refl in yes, λ ok. refl)
accepted_by z entries (Err refusal) = (
  λ none. absurd (whole_some z.types refusal entries (parts_said z entries) (some_starts entries) refl none),
  λ ok. absurd (let wrong : false ≡ true = ok in let no : ⊥ = cc in no),
)

-- nothing is said of the faults exactly if there is a zone
pub accepted : (file : FileText) (check : ZoneCheck) → (faults_said file check ≡ []) ↔ IsOk check.outcome
accepted file check = accepted_by (start_of_check file check) check.entries.items check.outcome

-- a report is empty exactly if there is a zone without a warning that is said
pub empty_report : (format : ReportFormat) (names : List (List ℕ)) (file : FileText) (check : ZoneCheck) (report : List ℕ)
    → report ≡ zone_report format names file check → (report ≡ []) ↔ (IsOk check.outcome × (warnings_said file check ≡ []))
empty_report format names file check report is =
    let files : ShownFiles = record { names = names; texts = lines_of_file file } in (
      λ empty.
          let none = nothing_said format files (check_said file check) (sym is ∙ empty) in
          ((accepted file check).0 (left_empty (faults_said file check) (warnings_said file check) none), right_empty (faults_said file check) (warnings_said file check) none),
      λ both.
          is
          ∙ ap (λ (l : List Said). report_text format files (l ++ warnings_said file check)) ((accepted file check).1 both.0)
          ∙ ap (λ (l : List Said). report_text format files l) both.1,
    )

-- the whole report, by its parts
pub reported : (format : ReportFormat) (names : List (List ℕ)) (file : FileText) (check : ZoneCheck) (start between report : List ℕ)
    (files : ShownFiles) (z : Start) (findings : List Finding) → start ≡ [] → files ≡ record { names = names; texts = lines_of_file file }
    → z ≡ start_of_check file check → map said_by findings ≡ outcome_said z check.entries.items check.outcome
    → between ≡ start ++ report_text format files (map said_by findings)
    → report ≡ between ++ report_text format files (said_of_warnings z check.entries.items check.warnings.items)
    → report ≡ zone_report format names file check
reported format names file check start between report files z findings none files_is z_is found first then =
    let there : ShownFiles = record { names = names; texts = lines_of_file file } in
    then
    ∙ ap (λ (l : List ℕ). l ++ report_text format files (said_of_warnings z check.entries.items check.warnings.items)) first
    ∙ ap (λ (l : List ℕ). (l ++ report_text format files (map said_by findings)) ++ report_text format files (said_of_warnings z check.entries.items check.warnings.items)) none
    ∙ ap (λ (f : ShownFiles). report_text format f (map said_by findings) ++ report_text format f (said_of_warnings z check.entries.items check.warnings.items)) files_is
    ∙ ap (λ (l : List Said). report_text format there l ++ report_text format there (said_of_warnings z check.entries.items check.warnings.items)) found
    ∙ ap (λ (y : Start). report_text format there (outcome_said y check.entries.items check.outcome) ++ report_text format there (said_of_warnings y check.entries.items check.warnings.items)) z_is
    ∙ sym (report_more format there (faults_said file check) (warnings_said file check))
