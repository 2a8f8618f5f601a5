-- The events of a script, line by line.
use Rattle.std.proofs.Common.{◌≡◌, ◌<◌, ◌≤◌, ◌+◌, ◌++◌, ℕ, zero, suc, Bool, true, false, if◌then◌else◌, List, [], ◌∷◌, length, map, drop, get_or, Result, Ok, Err, Bor, refl, ap, ◌∙◌, sym, subst, add-one, append_assoc, drop-cons, length-append, append-nil, arith}
use Rattle.std.specs.Int.{from_bool}
use Rattle.dns_names.specs.Name.{DomainName}
use Rattle.dns_zone_file.specs.declared.types.Types.{Types}
use Rattle.stub_run.specs.declared.event.Event.{Event}
use Rattle.stub_script.specs.declared.script_text.LineContent.{LineContent}
use Rattle.stub_script.specs.declared.script_text.ScriptFault.{ScriptFault}
use Rattle.stub_script.specs.declared.script_text.ScriptFault.TheVariants.{Line}
use Rattle.stub_script.specs.EventContent.{EventContent, content_of}
use Rattle.stub_script.specs.ScriptText.{IsScriptFrom, at_fault, no_line, past_event, past_nothing, Means, Meaning, NoEvent, OneEvent, Unreadable, contents_of, is_update, meaning_of, side_by_side, update_id, updates_after, with_event}

-- events in front of those that are still to be read
abbrev pub in_front : List (ℕ × EventContent) → Result (List (ℕ × EventContent)) ScriptFault → Result (List (ℕ × EventContent)) ScriptFault
in_front front (Ok events) = Ok (front ++ events)
in_front front (Err fault) = Err fault

-- lines and events, side by side, by their contents
abbrev pub contents_at : List ℕ → List Event → List (ℕ × EventContent)
contents_at numbers events = contents_of (side_by_side numbers events)

contents_more : (numbers : List ℕ) (events : List Event) (n : ℕ) (e : Event) → length numbers ≡ length events
    → contents_at (numbers ++ n ∷ []) (events ++ e ∷ []) ≡ contents_at numbers events ++ (n, content_of e) ∷ []
contents_more [] [] n e h = refl
contents_more [] (y ∷ ys) n e h = absurd (omega arith)
contents_more (x ∷ xs) [] n e h = absurd (omega arith)
contents_more (x ∷ xs) (y ∷ ys) n e h = let same : length xs ≡ length ys = omega arith in ap (λ t. (x, content_of y) ∷ t) (contents_more xs ys n e same)

abbrev pub texts : List (Bor (List ℕ)) → List (List ℕ)
texts = map (λ line. line.now)

-- what is read from the line at a place on, after this many updates
abbrev pub Rest : Types → DomainName → ℕ → List (Bor (List ℕ)) → ℕ → Result (List (ℕ × EventContent)) ScriptFault → Type 0
Rest types origin count all i found = IsScriptFrom types origin count (i + 1) (texts (drop i all)) found

-- whatever the rest leads to, the whole leads to, with these events in front
abbrev pub LeadsOn : Types → DomainName → List (Bor (List ℕ)) → ℕ → ℕ → List (ℕ × EventContent) → Type 0
LeadsOn types origin all i count front =
    (found : Result (List (ℕ × EventContent)) ScriptFault) → Rest types origin count all i found → Rest types origin 0 all 0 (in_front front found)

-- the line at a place has this meaning
pub record IsLine (types : Types) (origin : DomainName) (count : ℕ) (all : List (Bor (List ℕ))) (i : ℕ) (meaning : Meaning) : Type 0 where
  pub d : Bor (List ℕ)
  pub is_line : i < length all
  pub means : Means types origin (update_id count) (get_or all i d).now meaning

texts_at : (all : List (Bor (List ℕ))) (i : ℕ) (d : Bor (List ℕ)) → i < length all
    → texts (drop i all) ≡ (get_or all i d).now ∷ texts (drop (i + 1) all)
texts_at all i d lt =
    let back : drop i all ≡ get_or all i d ∷ drop (i + 1) all = rw (add-one, drop-cons all i d lt) refl in
    ap texts back

-- nothing was read so far
pub leads_from_start : (types : Types) (origin : DomainName) (all : List (Bor (List ℕ))) → LeadsOn types origin all 0 0 []
leads_from_start types origin all (Ok events) rest = rest
leads_from_start types origin all (Err fault) rest = rest

pub past_no_event : (types : Types) (origin : DomainName) (all : List (Bor (List ℕ))) (i count : ℕ) (front : List (ℕ × EventContent))
    → IsLine types origin count all i NoEvent → LeadsOn types origin all i count front → LeadsOn types origin all (i + 1) count front
past_no_event types origin all i count front line leads found rest =
    leads found (subst (λ (ts : List (List ℕ)). IsScriptFrom types origin count (i + 1) ts found) (sym (texts_at all i line.d line.is_line))
    (past_nothing line.means rest))

in_front_more : (front : List (ℕ × EventContent)) (n : ℕ) (e : EventContent) (rest : Result (List (ℕ × EventContent)) ScriptFault)
    → in_front front (with_event n e rest) ≡ in_front (front ++ (n, e) ∷ []) rest
in_front_more front n e (Ok events) = ap Ok (rw append_assoc refl)
in_front_more front n e (Err fault) = refl

pub past_one_event : (types : Types) (origin : DomainName) (all : List (Bor (List ℕ))) (i count : ℕ) (numbers : List ℕ) (events : List Event) (e : Event)
    → IsLine types origin count all i (OneEvent (content_of e)) → length numbers ≡ length events
    → LeadsOn types origin all i count (contents_at numbers events)
    → LeadsOn types origin all (i + 1) (updates_after count (content_of e)) (contents_at (numbers ++ (i + 1) ∷ []) (events ++ e ∷ []))
past_one_event types origin all i count numbers events e line same leads found rest =
    let front = contents_at numbers events in
    let step : Rest types origin count all i (with_event (i + 1) (content_of e) found) =
    subst (λ (ts : List (List ℕ)). IsScriptFrom types origin count (i + 1) ts (with_event (i + 1) (content_of e) found))
    (sym (texts_at all i line.d line.is_line)) (past_event (content_of e) found line.means rest) in
    let more = contents_more numbers events (i + 1) e same in
    subst (λ (r : Result (List (ℕ × EventContent)) ScriptFault). Rest types origin 0 all 0 r)
    (in_front_more front (i + 1) (content_of e) found ∙ ap (λ (x : List (ℕ × EventContent)). in_front x found) (sym more))
    (leads (with_event (i + 1) (content_of e) found) step)

-- a line that cannot be read
pub ends_at_fault : (types : Types) (origin : DomainName) (all : List (Bor (List ℕ))) (i count : ℕ) (front : List (ℕ × EventContent))
    → IsLine types origin count all i Unreadable → LeadsOn types origin all i count front → Rest types origin 0 all 0 (Err (Line (i + 1)))
ends_at_fault types origin all i count front line leads =
    leads (Err (Line (i + 1))) (subst (λ (ts : List (List ℕ)). IsScriptFrom types origin count (i + 1) ts (Err (Line (i + 1))))
    (sym (texts_at all i line.d line.is_line)) (at_fault line.means))

pub drop_all : {A : Type 0} (xs : List A) (i : ℕ) → length xs ≤ i → drop i xs ≡ []
drop_all [] zero few = refl
drop_all [] (suc i) few = refl
drop_all (x ∷ xs) zero few = absurd (omega arith)
drop_all (x ∷ xs) (suc i) few = let less : length xs ≤ i = omega arith in drop_all xs i less

-- all lines were read
pub ends_at_end : (types : Types) (origin : DomainName) (all : List (Bor (List ℕ))) (i count : ℕ) (front : List (ℕ × EventContent)) → length all ≤ i
    → LeadsOn types origin all i count front → Rest types origin 0 all 0 (Ok front)
ends_at_end types origin all i count front len leads =
    let none : texts (drop i all) ≡ [] = ap texts (drop_all all i len) in
    let whole : Rest types origin 0 all 0 (Ok (front ++ [])) =
    leads (Ok []) (subst (λ (ts : List (List ℕ)). IsScriptFrom types origin count (i + 1) ts (Ok [])) (sym none) no_line) in
    subst (λ (events : List (ℕ × EventContent)). Rest types origin 0 all 0 (Ok events)) (append-nil front) whole

-- the line at a place was read, as an event or not
pub line_of : (types : Types) (origin : DomainName) (count id : ℕ) (all : List (Bor (List ℕ))) (i : ℕ) (content : LineContent) (meaning : Meaning)
    → id ≡ update_id count → i < length all → meaning_of content ≡ meaning
    → Means types origin id (get_or all i (record { ref_ptr = (0, 0); now = [] })).now (meaning_of content)
    → IsLine types origin count all i meaning
line_of types origin count id all i content meaning same lt is means = record {
  d = record { ref_ptr = (0, 0); now = [] };
  is_line = lt;
  means = subst (λ (n : ℕ). Means types origin n (get_or all i (record { ref_ptr = (0, 0); now = [] })).now meaning) same
      (subst (λ (m : Meaning). Means types origin id (get_or all i (record { ref_ptr = (0, 0); now = [] })).now m) is means);
}

-- a line has one update at most
few_by : (test : Bool) (count i : ℕ) → count ≤ i → (if test then count + 1 else count) ≤ i + 1
few_by true count i few = omega arith
few_by false count i few = omega arith

pub few_more : (count i : ℕ) (e : EventContent) → count ≤ i → updates_after count e ≤ i + 1
few_more count i e few = few_by (is_update e.action) count i few

-- the number that a test adds
add_test : (test : Bool) (count added : ℕ) → added ≡ from_bool test → count + added ≡ (if test then count + 1 else count)
add_test true count added is = rw is refl
add_test false count added is = rw is (omega arith)

pub counted : (count added : ℕ) (test : Bool) (e : EventContent) → test ≡ is_update e.action → added ≡ from_bool test
    → count + added ≡ updates_after count e
counted count added test e same is = rw same at (add_test test count added is)

pub more_beside : (numbers : List ℕ) (events : List Event) (n : ℕ) (e : Event) → length numbers ≡ length events → length (numbers ++ n ∷ []) ≡ length (events ++ e ∷ [])
more_beside numbers events n e h = rw (length-append numbers (n ∷ []), length-append events (e ∷ [])) (ap (λ (x : ℕ). x + 1) h)
