-- The entries of a text, entry by entry.
use Rattle.std.proofs.Common.{◌≡◌, ◌+◌, ◌*◌, ◌<◌, ◌≤◌, ◌⊎◌, inl, inr, ℕ, suc, Bool, true, false, List, [], ◌∷◌, ◌++◌, map, length, Some, None, Ok, refl, sym, ap, subst, ◌∙◌, append_assoc, append-nil, arith}
use Rattle.std.specs.Global.{Vec}
use Rattle.std.specs.Prelude.{option_map, string_bytes}
use Rattle.std.proofs.Math.Nat.{mul-le-mul_right, suc-mul}
use Rattle.dns_names.specs.Name.{DomainName}
use Rattle.dns_text.specs.Error.{line_of}
use Rattle.dns_text.specs.Lexer.{Lexeme, LexerState, NextToken, at_end, start_with}
use Rattle.dns_text.specs.Token.{lexeme}
use Rattle.dns_text.specs.declared.error.LexerError.{LexerError}
use Rattle.dns_text.specs.declared.quotes.Quotes.{Quotes}
use Rattle.dns_text.specs.declared.token.Token.{Token}
use Rattle.dns_text.proofs.ReadingLaws.{same_outcome}
use Rattle.dns_zone_file.specs.Context.{included}
use Rattle.dns_zone_file.specs.Entry.{LexesEntry, RefusesTokens, at_fault, past_token, Inclusion}
use Rattle.dns_zone_file.specs.Parsing.{Includes, IncludesText, max_includes, start_in}
use Rattle.dns_zone_file.specs.declared.context.Context.{Context}
use Rattle.dns_zone_file.specs.declared.error.EntryFault.{EntryFault}
use Rattle.dns_zone_file.specs.declared.error.ZoneFileError.TheVariants as file
use Rattle.dns_zone_file.specs.declared.types.Types.{Types}
use Rattle.dns_zone_file.specs.internal.Context.{saved_of, restored}
use Rattle.zone_lines.specs.Reading.{Generated, RefusesAlone, Takes, no_more_texts, no_text, one_fault, Reads, ended, past_fault, past_entry, past_generated, past_included, too_deep, depth_fault, text_fault, stated_origin, meant_apex, type_of_entry}
use Rattle.zone_lines.specs.Reading.{after_fault as after_fault_of}
use Rattle.zone_lines.specs.Skip.{Resumes}
use Rattle.zone_lines.specs.Word.{HasFaultyToken, names_start}
use Rattle.zone_lines.specs.declared.reading.Step.{Step}
use Rattle.zone_lines.specs.declared.reading.Step.TheVariants as step
use Rattle.zone_lines.specs.declared.record_line.EntryLine.{EntryLine}
use Rattle.zone_lines.specs.declared.record_line.EntryLine.TheVariants as kind
use Rattle.zone_lines.specs.declared.record_line.FaultLine.{FaultLine}
use Rattle.zone_lines.specs.declared.record_line.Position.{Position}
use Rattle.zone_lines.specs.declared.skip.Section.{Section}
use Rattle.zone_lines.specs.internal.Reading.{EntryStep, IncludeStep, IncludesAt, IsTooDeep, TakesStep}

-- ---- where a text is read

-- the rest of a text without its first lines, a state of the lexer in it, a context, and whether texts are included no more
pub record Spot : Type 0 where
  pub base : ℕ
  pub text : List ℕ
  pub closed : Bool
  pub context : Context
  pub lexer : LexerState

-- what is found from a spot on
abbrev pub ReadsOn : Includes → ℕ → ℕ → Spot → List EntryLine → Bool → Context → Type 0
ReadsOn includes depth source s found shut last = Reads includes depth source s.base s.text s.closed s.context s.lexer found shut last

-- the spot after an entry
abbrev pub after_entry : Spot → LexerState → Bool → Context → Spot
after_entry here next closed then = record here { lexer = next; closed = closed; context = then }

-- The entries so far and those of the rest are those of the whole text. The lexer is within its section, which is within the
-- text, and a section that it has not just begun is not empty.
pub record Leads (includes : Includes) (depth source : ℕ) (first : Spot) (found : List EntryLine) (here : Spot) : Type 0 where
  pub leads : (more : List EntryLine) (shut : Bool) (last : Context) → ReadsOn includes depth source here more shut last
      → ReadsOn includes depth source first (found ++ more) shut last
  pub within : length here.lexer.text ≤ length here.text
  pub whole : length here.text ≤ length first.text
  pub begun : (here.lexer ≡ start_in here.context.types here.text) ⊎ (0 < length here.text)

-- the spot at the start of a section
abbrev pub start_of : ℕ → List ℕ → Bool → Context → Spot
start_of base text closed c = record { base = base; text = text; closed = closed; context = c; lexer = start_in c.types text }

pub at_the_start : (includes : Includes) (depth source base : ℕ) (text : List ℕ) (closed : Bool) (c : Context) (lexer : LexerState) (found : List EntryLine)
    → lexer ≡ start_in c.types text → found ≡ []
    → Leads includes depth source (start_of base text closed c) found (record { base = base; text = text; closed = closed; context = c; lexer = lexer })
at_the_start includes depth source base text closed c lexer found begun none = record {
  leads = λ more shut last rest.
      subst (λ (l : List EntryLine). Reads includes depth source base text closed c (start_in c.types text) (l ++ more) shut last) (sym none)
      (subst (λ (p : LexerState). Reads includes depth source base text closed c p more shut last) begun rest);
  within = subst (λ (p : LexerState). length p.text ≤ length text) (sym begun) (omega arith);
  whole = omega arith;
  begun = inl begun;
}

module _ {includes : Includes} {depth source : ℕ} {first here : Spot} {found : List EntryLine} (so_far : Leads includes depth source first found here) where
  pub ends : {last : LexerState} (then : Context) → NextToken here.lexer (Ok None) last → then ≡ here.context
      → ReadsOn includes depth source first found here.closed then
  ends then none same =
      subst (λ (c : Context). ReadsOn includes depth source first found here.closed c) (sym same)
      (subst (λ (l : List EntryLine). ReadsOn includes depth source first l here.closed here.context) (append-nil found)
      (so_far.leads [] here.closed here.context (ended none)))

  goes_on : (next : LexerState) (closed : Bool) (then : Context) (pushed : List EntryLine) → length next.text < length here.lexer.text
      → ((more : List EntryLine) (shut : Bool) (last : Context) → ReadsOn includes depth source (after_entry here next closed then) more shut last
      → ReadsOn includes depth source first (pushed ++ more) shut last)
      → Leads includes depth source first pushed (after_entry here next closed then)
  goes_on next closed then pushed shorter leads =
      let within = so_far.within in
      record { leads = leads; within = omega arith; whole = so_far.whole; begun = inr (omega arith) }

  module _ {next : LexerState} {tokens : List Lexeme} (lexed : LexesEntry here.lexer tokens next) (shorter : length next.text < length here.lexer.text) where
    pub after_nothing : {then : Context} → Takes includes depth here.closed here.context (record { source = source; line = here.base + here.lexer.entry }) tokens None then
        → Leads includes depth source first found (after_entry here next here.closed then)
    after_nothing {then} takes =
        goes_on next here.closed then found shorter (λ more shut last rest. so_far.leads more shut last (past_entry lexed takes rest))

    pub after_one : {then : Context} (e : EntryLine) (pushed : List EntryLine)
        → Takes includes depth here.closed here.context (record { source = source; line = here.base + here.lexer.entry }) tokens (Some e) then
        → pushed ≡ found ++ e ∷ [] → Leads includes depth source first pushed (after_entry here next here.closed then)
    after_one {then} e pushed takes is =
        goes_on next here.closed then pushed shorter (λ more shut last rest.
        subst (λ (l : List EntryLine). ReadsOn includes depth source first l shut last)
        (sym (ap (λ (l : List EntryLine). l ++ more) is ∙ append_assoc found (e ∷ []) more))
        (so_far.leads (e ∷ more) shut last (past_entry lexed takes rest)))

    pub after_generated : {then : Context} (part pushed : List EntryLine)
        → Generated here.context (record { source = source; line = here.base + here.lexer.entry }) tokens part then
        → pushed ≡ found ++ part → Leads includes depth source first pushed (after_entry here next here.closed then)
    after_generated {then} part pushed made is =
        goes_on next here.closed then pushed shorter (λ more shut last rest.
        subst (λ (l : List EntryLine). ReadsOn includes depth source first l shut last)
        (sym (ap (λ (l : List EntryLine). l ++ more) is ∙ append_assoc found part more))
        (so_far.leads (part ++ more) shut last (past_generated lexed made rest)))

    pub after_deep : {then : Context} {i : Inclusion} (f : FaultLine) (pushed : List EntryLine) → IsTooDeep depth here.context tokens i
        → f ≡ depth_fault (record { source = source; line = here.base + here.lexer.entry }) → then ≡ here.context
        → pushed ≡ found ++ kind.Fault f ∷ [] → Leads includes depth source first pushed (after_entry here next true then)
    after_deep {then} f pushed deep fault_is same is =
        let fault : FaultLine = depth_fault (record { source = source; line = here.base + here.lexer.entry }) in
        goes_on next true then pushed shorter (λ more shut last rest.
        subst (λ (l : List EntryLine). ReadsOn includes depth source first l shut last)
        (sym (ap (λ (l : List EntryLine). l ++ more) (is ∙ ap (λ (g : FaultLine). found ++ kind.Fault g ∷ []) fault_is)
        ∙ append_assoc found (kind.Fault fault ∷ []) more))
        (so_far.leads (kind.Fault fault ∷ more) shut last (too_deep lexed deep.included deep.deep
        (subst (λ (c : Context). Reads includes depth source here.base here.text true c next more shut last) same rest))))

    pub after_included : {inner last further : Context} {between : Bool} {s : Section} {i : Inclusion} (part pushed : List EntryLine)
        → IncludesAt includes depth here.closed here.context tokens s i → inner ≡ included here.context i.origin
        → Reads includes (depth + 1) s.source s.base s.text.now here.closed inner (start_in inner.types s.text.now) part between last
        → further ≡ restored (saved_of here.context) last → pushed ≡ found ++ part
        → Leads includes depth source first pushed (after_entry here next between further)
    after_included {inner} {last} {further} {between} {s} {i} part pushed at inner_is reads further_is is =
        let there : Reads includes (depth + 1) s.source 0 s.text.now false (included here.context i.origin) (start_in here.context.types s.text.now) part between last =
        subst (λ (b : Bool). Reads includes (depth + 1) s.source 0 s.text.now b (included here.context i.origin) (start_in here.context.types s.text.now) part between last)
        at.enters.open_is
        (subst (λ (c : Context). Reads includes (depth + 1) s.source 0 s.text.now here.closed c (start_in c.types s.text.now) part between last) inner_is
        (subst (λ (n : ℕ). Reads includes (depth + 1) s.source n s.text.now here.closed inner (start_in inner.types s.text.now) part between last) at.enters.whole reads)) in
        let from_open : (more : List EntryLine) (shut : Bool) (end : Context)
        → Reads includes depth source here.base here.text between further next more shut end
        → Reads includes depth source here.base here.text here.closed here.context here.lexer (part ++ more) shut end =
        λ more shut end rest.
        subst (λ (b : Bool). Reads includes depth source here.base here.text b here.context here.lexer (part ++ more) shut end) (sym at.enters.open_is)
        (past_included lexed at.included at.enters.within at.enters.source there
        (subst (λ (c : Context). Reads includes depth source here.base here.text between c next more shut end) further_is rest)) in
        goes_on next between further pushed shorter (λ more shut end rest.
        subst (λ (l : List EntryLine). ReadsOn includes depth source first l shut end)
        (sym (ap (λ (l : List EntryLine). l ++ more) is ∙ append_assoc found part more))
        (so_far.leads (part ++ more) shut end (from_open more shut end rest)))

-- ---- a fault of a text

starts_some : (types : Types) (text : List ℕ) (error : LexerError) → RefusesTokens (start_in types text) error → 0 < length text
starts_some types [] error (at_fault refused) = let none : ⊥ = cc (same_outcome _ _ _ _ _ refused (at_end refl)).0 in absurd none
starts_some types [] error (past_token read other more) = let none : ⊥ = cc (same_outcome _ _ _ _ _ read (at_end refl)).0 in absurd none
starts_some types (c ∷ cs) error refused = omega arith

module _ {includes : Includes} {depth source : ℕ} {first here : Spot} {found : List EntryLine} (so_far : Leads includes depth source first found here)
    {error : LexerError} (refused : RefusesTokens here.lexer error) where
  pub breaks_some : 0 < length here.text
  breaks_some = elim so_far.begun [
    | inl at ↦ starts_some here.context.types here.text error (subst (λ (p : LexerState). RefusesTokens p error) at refused)
    | inr some ↦ some
  ]

  pub goes_past : (then : Context) (entry line next : ℕ) (rest : List ℕ) (lexer : LexerState) (f : FaultLine) (pushed : List EntryLine)
      → then ≡ here.context → entry ≡ here.lexer.entry → line ≡ line_of error → Resumes here.base here.text entry line next rest
      → length rest < length here.text → f ≡ text_fault source here.base (stated_origin then) error → pushed ≡ found ++ kind.Fault f ∷ [] → lexer ≡ start_in then.types rest
      → Leads includes depth source first pushed (record { base = next; text = rest; closed = here.closed; context = then; lexer = lexer })
  goes_past then entry line next rest lexer f pushed same entry_is line_is resumes shorter fault_is is lexer_is =
      let whole = so_far.whole in
      let there : Resumes here.base here.text here.lexer.entry (line_of error) next rest =
      subst (λ (n : ℕ). Resumes here.base here.text n (line_of error) next rest) entry_is
      (subst (λ (n : ℕ). Resumes here.base here.text entry n next rest) line_is resumes) in
      record {
        leads = λ more shut last rest_reads.
            let reads : Reads includes depth source next rest here.closed here.context (start_in here.context.types rest) more shut last =
            subst (λ (c : Context). Reads includes depth source next rest here.closed c (start_in c.types rest) more shut last) same
            (subst (λ (p : LexerState). Reads includes depth source next rest here.closed then p more shut last) lexer_is rest_reads) in
            subst (λ (l : List EntryLine). ReadsOn includes depth source first l shut last)
            (sym (ap (λ (l : List EntryLine). l ++ more) (is ∙ ap (λ (g : FaultLine). found ++ kind.Fault g ∷ [])
            (fault_is ∙ ap (λ (d : Context). text_fault source here.base (stated_origin d) error) same))
            ∙ append_assoc found (kind.Fault (text_fault source here.base (stated_origin here.context) error) ∷ []) more))
            (so_far.leads (kind.Fault (text_fault source here.base (stated_origin here.context) error) ∷ more) shut last (past_fault refused there reads));
        within = subst (λ (p : LexerState). length p.text ≤ length rest) (sym lexer_is) (omega arith);
        whole = omega arith;
        begun = inl lexer_is;
      }

-- ---- what the next entry is

module _ {includes : Includes} {depth source : ℕ} {first here : Spot} {found : List EntryLine} (so_far : Leads includes depth source first found here)
    (from : ℕ) (same : from ≡ source) where
  pub applied : {next : LexerState} {then : Context} → TakesStep includes depth from here.base here.closed here.lexer here.context next then step.Applied
      → Leads includes depth source first found (after_entry here next here.closed then)
  applied {next} {then} h =
      after_nothing so_far h.lexed h.shorter
      (subst (λ (n : ℕ). Takes includes depth here.closed here.context (record { source = n; line = here.base + here.lexer.entry }) h.tokens None then) same h.holds)

  pub found_one : {next : LexerState} {then : Context} (e : EntryLine) (pushed : List EntryLine)
      → TakesStep includes depth from here.base here.closed here.lexer here.context next then (step.Found e) → pushed ≡ found ++ e ∷ []
      → Leads includes depth source first pushed (after_entry here next here.closed then)
  found_one {next} {then} e pushed h is =
      after_one so_far h.lexed h.shorter e pushed
      (subst (λ (n : ℕ). Takes includes depth here.closed here.context (record { source = n; line = here.base + here.lexer.entry }) h.tokens (Some e) then) same h.holds) is

  pub found_all : {next : LexerState} {then : Context} (part : Vec EntryLine) (pushed : List EntryLine)
      → TakesStep includes depth from here.base here.closed here.lexer here.context next then (step.Generated part) → pushed ≡ found ++ part.items
      → Leads includes depth source first pushed (after_entry here next here.closed then)
  found_all {next} {then} part pushed h is =
      after_generated so_far h.lexed h.shorter part.items pushed
      (subst (λ (n : ℕ). Generated here.context (record { source = n; line = here.base + here.lexer.entry }) h.tokens part.items then) same h.holds) is

  pub found_deep : {next : LexerState} {then : Context} (f : FaultLine) (pushed : List EntryLine)
      → TakesStep includes depth from here.base here.closed here.lexer here.context next then (step.Closes f) → pushed ≡ found ++ kind.Fault f ∷ []
      → Leads includes depth source first pushed (after_entry here next true then)
  found_deep {next} {then} f pushed h is =
      after_deep so_far h.lexed h.shorter f pushed h.holds.1.0
      (subst (λ (n : ℕ). f ≡ depth_fault (record { source = n; line = here.base + here.lexer.entry })) same h.holds.1.1) h.holds.1.2 is

  pub read_included : {next : LexerState} {then between last further : Context} {shut : Bool} (s : Section) (origin : DomainName) (part pushed : List EntryLine)
      → TakesStep includes depth from here.base here.closed here.lexer here.context next then (step.Includes s origin)
      → between ≡ included then origin
      → Reads includes (depth + 1) s.source s.base s.text.now here.closed between (start_in between.types s.text.now) part shut last
      → further ≡ restored (saved_of then) last → pushed ≡ found ++ part → Leads includes depth source first pushed (after_entry here next shut further)
  read_included {next} {then} {between} {last} {further} {shut} s origin part pushed h between_is reads further_is is =
      let at = h.holds.1.0 in
      let origin_is = h.holds.1.1 in
      let then_is = h.holds.1.2 in
      after_included so_far h.lexed h.shorter part pushed at
      (between_is ∙ ap (λ (c : Context). included c origin) then_is ∙ ap (λ (o : DomainName). included here.context o) origin_is) reads
      (further_is ∙ ap (λ (c : Context). restored (saved_of c) last) then_is) is

pub depth_within : (includes : Includes) (depth from base : ℕ) (closed : Bool) (p next : LexerState) (c then : Context) (s : Section) (origin : DomainName)
    → TakesStep includes depth from base closed p c next then (step.Includes s origin) → depth < max_includes
depth_within includes depth from base closed p next c then s origin h = h.holds.1.0.enters.within

-- what an entry is, in the text that it is in
pub step_taken : (includes : Includes) (depth source base : ℕ) (closed : Bool) (p next : LexerState) (c then : Context) (s : Step) (items tokens : List Token)
    (line entry : ℕ) → LexesEntry p (map lexeme items) next → length next.text < length p.text → tokens ≡ items → entry ≡ p.entry → line ≡ base + entry
    → EntryStep includes depth closed (record { source = source; line = line }) (map lexeme tokens) s c then
    → TakesStep includes depth source base closed p c next then s
step_taken includes depth source base closed p next c then s items tokens line entry lexed shorter same entry_is line_is h =
    by_step s
    (subst (λ (n : ℕ). EntryStep includes depth closed (record { source = source; line = n }) (map lexeme items) s c then)
    (line_is ∙ ap (λ (n : ℕ). base + n) entry_is)
    (subst (λ (l : List Token). EntryStep includes depth closed (record { source = source; line = line }) (map lexeme l) s c then) same h))
  where
    by_step : (s : Step) → EntryStep includes depth closed (record { source = source; line = base + p.entry }) (map lexeme items) s c then
        → TakesStep includes depth source base closed p c next then s
    by_step step.Ended h = absurd h
    by_step (step.Breaks at refusal) h = absurd h
    by_step step.Applied h = record { tokens = map lexeme items; lexed = lexed; holds = h; shorter = shorter }
    by_step (step.Found e) h = record { tokens = map lexeme items; lexed = lexed; holds = h; shorter = shorter }
    by_step (step.Generated part) h = record { tokens = map lexeme items; lexed = lexed; holds = h; shorter = shorter }
    by_step (step.Includes t origin) h = record { tokens = map lexeme items; lexed = lexed; holds = h; shorter = shorter }
    by_step (step.Closes f) h = record { tokens = map lexeme items; lexed = lexed; holds = h; shorter = shorter }

-- what an entry is that includes a text
pub step_included : (includes : Includes) (depth : ℕ) (closed : Bool) (at : Position) (c then : Context) (tokens : List Lexeme) (i : Inclusion) (s : Step)
    → IncludesText c tokens i → then ≡ c → IncludeStep includes depth closed at i s → EntryStep includes depth closed at tokens s c then
step_included includes depth closed at c then tokens i (step.Includes t origin) there same h =
    (i, (record { included = there; enters = h.0 }, h.1, same))
step_included includes depth closed at c then tokens i step.Applied there same h =
    subst (λ (d : Context). Takes includes depth closed c at tokens None d) (sym same) (no_more_texts there h.0 h.1)
step_included includes depth closed at c then tokens i (step.Found (kind.Fault f)) there same h =
    subst (λ (d : Context). Takes includes depth closed c at tokens (Some (kind.Fault f)) d) (sym same)
    (subst (λ (g : FaultLine). Takes includes depth closed c at tokens (Some (kind.Fault g)) c) (sym h.3) (no_text there h.0 h.1 h.2))
step_included includes depth closed at c then tokens i (step.Closes f) there same h =
    (i, (record { included = there; deep = h.0 }, h.1, same))
step_included includes depth closed at c then tokens i (step.Found (kind.Record r)) there same h = absurd h
step_included includes depth closed at c then tokens i (step.Generated part) there same h = absurd h
step_included includes depth closed at c then tokens i step.Ended there same h = absurd h
step_included includes depth closed at c then tokens i (step.Breaks entry refusal) there same h = absurd h

-- an entry with a fault
pub faulted : (includes : Includes) (depth : ℕ) (closed : Bool) (old between new : Context) (at : Position) (tokens : List Lexeme) (refusal : EntryFault)
    (f : FaultLine) → RefusesAlone old tokens refusal → between ≡ old → f.source ≡ at.source → f.error ≡ file.Entry at.line refusal
    → HasFaultyToken between tokens (option_map string_bytes f.word) → f.record_type ≡ type_of_entry between.types tokens
    → f.may_be_start ≡ names_start tokens → f.apex ≡ meant_apex between tokens → new ≡ after_fault_of between tokens refusal
    → Takes includes depth closed old at tokens (Some (kind.Fault f)) new
faulted includes depth closed old between new at tokens refusal f refused same source_is error_is word type_is start_is apex_is after =
    subst (λ (d : Context). Takes includes depth closed old at tokens (Some (kind.Fault f)) d)
    (sym (after ∙ ap (λ (d : Context). after_fault_of d tokens refusal) same))
    (one_fault refused (record {
      source_is = source_is;
      error_is = error_is;
      word_is = subst (λ (d : Context). HasFaultyToken d tokens (option_map string_bytes f.word)) same word;
      type_is = type_is ∙ ap (λ (t : Types). type_of_entry t tokens) (ap (λ (d : Context). d.types) same);
      start_is = start_is;
      apex_is = apex_is ∙ ap (λ (d : Context). meant_apex d tokens) same;
    }))

-- ---- the measure

-- what is left at a spot of a text: first its section counts, and then the lexer's text
abbrev pub left_at : ℕ → List ℕ → LexerState → ℕ
left_at size text lexer = length text * (size + 1) + length lexer.text

pub section_less : (size text rest len now : ℕ) → rest < text → now ≤ size → rest * (size + 1) + now < text * (size + 1) + len
section_less size text rest len now less within =
    let more : suc rest * (size + 1) ≤ text * (size + 1) = mul-le-mul_right (size + 1) (omega arith) in
    let parts : suc rest * (size + 1) ≡ rest * (size + 1) + (size + 1) = suc-mul rest (size + 1) in
    omega arith

module _ {includes : Includes} {depth source : ℕ} {first here : Spot} {found : List EntryLine} (so_far : Leads includes depth source first found here)
    {error : LexerError} (refused : RefusesTokens here.lexer error) where
  pub breaks_less : (rest : List ℕ) (lexer : LexerState) (quotes : Quotes) → lexer ≡ start_with quotes rest
      → (0 < length here.text → length rest < length here.text)
      → left_at (length first.text) rest lexer < left_at (length first.text) here.text here.lexer
  breaks_less rest lexer quotes lexer_is shortens =
      let shorter = shortens (breaks_some so_far refused) in
      let whole = so_far.whole in
      let same : length lexer.text ≡ length rest = ap (λ (p : LexerState). length p.text) lexer_is in
      section_less (length first.text) (length here.text) (length rest) (length here.lexer.text) (length lexer.text) shorter (omega arith)
