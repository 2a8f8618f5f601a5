-- The lines of a `$GENERATE`, one after another.
use Rattle.std.proofs.Common.{◌≡◌, ℕ, suc, ◌+◌, ◌-◌, ◌<◌, ◌≤◌, List, [], ◌∷◌, ◌++◌, map, None, Ok, sym, ap, subst, ◌∙◌, append_assoc, append-nil, arith}
use Rattle.std.specs.Str.{IsUtf8}
use Rattle.dns_zone_file.specs.templates.Range.{number_at}
use Rattle.dns_text.specs.Lexer.{Lexeme, LexerState, NextToken}
use Rattle.dns_text.specs.Token.{lexeme}
use Rattle.dns_text.specs.declared.error.LexerError.{LexerError}
use Rattle.dns_text.specs.declared.token.Token.{Token}
use Rattle.dns_zone_file.specs.Context.{RefusesRecord}
use Rattle.dns_zone_file.specs.Entry.{LexesEntry, RefusesTokens}
use Rattle.dns_zone_file.specs.Generate.{Generation}
use Rattle.dns_zone_file.specs.Parsing.{start_in}
use Rattle.dns_zone_file.specs.declared.context.Context.{Context}
use Rattle.dns_zone_file.specs.declared.error.EntryFault.{EntryFault}
use Rattle.dns_zone_file.specs.declared.error.EntryFault.TheVariants.{InvalidDirective}
use Rattle.zone_lines.specs.Reading.{AddsEntry, entry_refused, AddsNumber, AddsNumbers, no_number, last_number, one_number, AddsText, no_entry, one_entry, GeneratesLines, HasNoEntry, not_utf8, no_tokens, bad_tokens, IsFaultLine, fault_at}
use Rattle.zone_lines.specs.declared.record_line.EntryLine.{EntryLine}
use Rattle.zone_lines.specs.declared.record_line.EntryLine.TheVariants as kind
use Rattle.zone_lines.specs.declared.record_line.FaultLine.{FaultLine}
use Rattle.zone_lines.specs.declared.record_line.Position.{Position}
use Rattle.zone_lines.specs.declared.record_line.RecordLine.{RecordLine}

-- ---- an entry

pub refused_entry : (at : Position) (tokens : List Lexeme) (old new : Context) (refusal : EntryFault) (f : FaultLine)
    → RefusesRecord old tokens refusal × (new ≡ old) → IsFaultLine new at tokens refusal f → AddsEntry at tokens old (kind.Fault f) new
refused_entry at tokens old new refusal f refused line =
    subst (λ (d : Context). AddsEntry at tokens old (kind.Fault f) d) (sym refused.1)
    (entry_refused refused.0 (subst (λ (d : Context). IsFaultLine d at tokens refusal f) refused.1 line))

-- ---- a text

module _ (at : Position) (line : List ℕ) (c : Context) where
  no_entry_there : (e : EntryLine) → e ≡ kind.Fault (fault_at at InvalidDirective) → HasNoEntry c line → AddsText at line c e c
  no_entry_there e is none = subst (λ (x : EntryLine). AddsText at line c x c) (sym is) (no_entry none)

  pub text_refused : (e : EntryLine) (refusal : EntryFault) → (refusal ≡ InvalidDirective) × ¬ (IsUtf8 line)
      → e ≡ kind.Fault (fault_at at InvalidDirective) → AddsText at line c e c
  text_refused e refusal invalid is = no_entry_there e is (not_utf8 invalid.1)

  module _ (text : List ℕ) (same : text ≡ line) (p : LexerState) (p_is : p ≡ start_in c.types text) where
    starts : p ≡ start_in c.types line
    starts = p_is ∙ ap (λ (l : List ℕ). start_in c.types l) same

    pub text_ends : (e : EntryLine) {end : LexerState} → NextToken p (Ok None) end → e ≡ kind.Fault (fault_at at InvalidDirective)
        → AddsText at line c e c
    text_ends e {end} none is = no_entry_there e is (no_tokens (subst (λ (q : LexerState). NextToken q (Ok None) end) starts none))

    pub text_breaks : (e : EntryLine) (refusal : LexerError) → RefusesTokens p refusal → e ≡ kind.Fault (fault_at at InvalidDirective)
        → AddsText at line c e c
    text_breaks e refusal refused is =
        no_entry_there e is (bad_tokens (subst (λ (q : LexerState). RefusesTokens q refusal) starts refused))

    pub text_added : (items tokens : List Token) {next : LexerState} → IsUtf8 line → LexesEntry p (map lexeme items) next → tokens ≡ items
        → (e : EntryLine) (then : Context) → AddsEntry at (map lexeme tokens) c e then → AddsText at line c e then
    text_added items tokens {next} valid lexed is e then adds =
        one_entry valid (subst (λ (q : LexerState). LexesEntry q (map lexeme items) next) starts lexed)
        (subst (λ (l : List Token). AddsEntry at (map lexeme l) c e then) is adds)

-- ---- all numbers

-- the lines so far and those of the numbers from a place on are those of all numbers
pub record LeadsOn (at : Position) (g : Generation) (start : Context) (place : ℕ) (found : List EntryLine) (c : Context) : Type 0 where
  pub leads : (more : List EntryLine) (last : Context) → AddsNumbers at g place (g.numbers.count - place) c more last
      → GeneratesLines at g start (found ++ more) last

pub at_first : (at : Position) (g : Generation) (start c : Context) (found : List EntryLine) → c ≡ start → found ≡ [] → LeadsOn at g start 0 found c
at_first at g start c found same none =
    let all : g.numbers.count - 0 ≡ g.numbers.count = omega arith in
    record {
      leads = λ more last rest.
          subst (λ (l : List EntryLine). GeneratesLines at g start (l ++ more) last) (sym none)
          (subst (λ (x : Context). AddsNumbers at g 0 g.numbers.count x more last) same
          (subst (λ (k : ℕ). AddsNumbers at g 0 k c more last) all rest));
    }

module _ {at : Position} {g : Generation} {start c : Context} {place : ℕ} {found : List EntryLine} (so_far : LeadsOn at g start place found c)
    (within : place < g.numbers.count) (number : ℕ) (template : List ℕ) (number_is : number ≡ number_at g.numbers place) (same : template ≡ g.template) where
  one_left : suc (g.numbers.count - (place + 1)) ≡ g.numbers.count - place
  one_left = omega (arith, within)

  here : (e : EntryLine) (then : Context) → AddsNumber at template number c e then → AddsNumber at g.template (number_at g.numbers place) c e then
  here e then adds =
      subst (λ (n : ℕ). AddsNumber at g.template n c e then) number_is (subst (λ (t : List ℕ). AddsNumber at t number c e then) same adds)

  pub number_added : (r : RecordLine) (then : Context) (pushed : List EntryLine) → AddsNumber at template number c (kind.Record r) then
      → pushed ≡ found ++ kind.Record r ∷ [] → LeadsOn at g start (place + 1) pushed then
  number_added r then pushed adds is = record {
    leads = λ more last rest.
        subst (λ (l : List EntryLine). GeneratesLines at g start l last)
        (sym (ap (λ (l : List EntryLine). l ++ more) is ∙ append_assoc found (kind.Record r ∷ []) more))
        (so_far.leads (kind.Record r ∷ more) last
        (subst (λ (k : ℕ). AddsNumbers at g place k c (kind.Record r ∷ more) last) one_left (one_number (here (kind.Record r) then adds) rest)));
  }

  pub number_refused : (f : FaultLine) (then : Context) (pushed : List EntryLine) → AddsNumber at template number c (kind.Fault f) then
      → pushed ≡ found ++ kind.Fault f ∷ [] → GeneratesLines at g start pushed then
  number_refused f then pushed adds is =
      subst (λ (l : List EntryLine). GeneratesLines at g start l then) (sym is)
      (so_far.leads (kind.Fault f ∷ []) then
      (subst (λ (k : ℕ). AddsNumbers at g place k c (kind.Fault f ∷ []) then) one_left (last_number (here (kind.Fault f) then adds))))

pub all_added : {at : Position} {g : Generation} {start c : Context} {place : ℕ} {found : List EntryLine} → LeadsOn at g start place found c
    → g.numbers.count ≤ place → GeneratesLines at g start found c
all_added {at} {g} {start} {c} {place} {found} so_far over =
    let none : 0 ≡ g.numbers.count - place = omega (arith, over) in
    subst (λ (l : List EntryLine). GeneratesLines at g start l c) (append-nil found)
    (so_far.leads [] c (subst (λ (k : ℕ). AddsNumbers at g place k c [] c) none no_number))
