-- The records of a `$GENERATE`, one after another.
use Rattle.std.proofs.Common.{◌≡◌, ℕ, suc, ◌+◌, ◌-◌, ◌<◌, ◌≤◌, List, [], ◌∷◌, ◌++◌, map, drop, length, get_or, Some, None, Result, Ok, Err, sym, ap, subst, ◌∙◌, append_assoc, arith}
use Rattle.std.proofs.Math.Seq.{drop-cons}
use Rattle.std.specs.Str.{IsUtf8}
use Rattle.dns_zone_file.specs.templates.Range.{number_at}
use Rattle.dns_zone_file.specs.templates.Template.{expanded}
use Rattle.dns_text.specs.Lexer.{Lexeme, LexerState, NextToken}
use Rattle.dns_text.specs.Token.{lexeme}
use Rattle.dns_text.specs.declared.token.Token.{Token}
use Rattle.dns_zone_file.specs.declared.error.EntryError.{EntryError}
use Rattle.dns_zone_file.specs.declared.error.EntryError.TheVariants as entry_error
use Rattle.dns_zone_file.specs.declared.error.EntryFault.{EntryFault}
use Rattle.dns_zone_file.specs.declared.error.EntryFault.TheVariants.{InvalidDirective}
use Rattle.dns_zone_file.specs.declared.error.ZoneFileError.{ZoneFileError}
use Rattle.dns_zone_file.specs.declared.error.ZoneFileError.TheVariants as error
use Rattle.dns_zone_file.specs.declared.context.Context.{Context}
use Rattle.dns_zone_file.specs.Context.{AddsRecord, RefusesRecord}
use Rattle.dns_zone_file.specs.Entry.{LexesEntry, record_entry, entry_of}
use Rattle.dns_zone_file.specs.Generate.{Generation, argument_text, template_of, generate_of, generation_of, AddsFirst, AddsLine, AddsNumber, AddsEach, Generates}
use Rattle.dns_zone_file.specs.Generate as generate
use Rattle.dns_zone_file.specs.Parsing.{start_in, Applies, for_generate, for_record, RefusesEntry, bad_directive, bad_generated, bad_record}
use Rattle.dns_zone_file.specs.internal.Entry.{IsTextFault}
use Rattle.dns_zone_file.specs.internal.Error.{IsFault}
use Rattle.dns_zone_file.specs.internal.Generate.{LexesFirst, RefusesFirst}

-- ---- the arguments

at_place : (tokens : List Token) (i : ℕ) (d : Token) → i < length tokens → drop i tokens ≡ get_or tokens i d ∷ drop (i + 1) tokens
at_place tokens i d within = let one : suc i ≡ i + 1 = omega arith in drop-cons tokens i d within ∙ ap (λ (n : ℕ). get_or tokens i d ∷ drop n tokens) one

-- one more argument, and the blank after it
pub argument_further : (tokens : List Token) (done text : List ℕ) (i : ℕ) (d : Token) → i < length tokens → text ≡ argument_text (lexeme (get_or tokens i d))
    → done ++ template_of (map lexeme (drop i tokens)) ≡ template_of (map lexeme tokens)
    → ((done ++ text) ++ 32 ∷ []) ++ template_of (map lexeme (drop (i + 1) tokens)) ≡ template_of (map lexeme tokens)
argument_further tokens done text i d within is so_far =
    let rest : List ℕ = template_of (map lexeme (drop (i + 1) tokens)) in
    let first : List ℕ = argument_text (lexeme (get_or tokens i d)) in
    append_assoc (done ++ text) (32 ∷ []) rest ∙ append_assoc done text (32 ∷ rest)
    ∙ ap (λ (l : List ℕ). done ++ (l ++ 32 ∷ rest)) is
    ∙ sym (ap (λ (l : List ℕ). done ++ l) (append_assoc first (32 ∷ []) rest))
    ∙ sym (ap (λ (l : List Token). done ++ template_of (map lexeme l)) (at_place tokens i d within)) ∙ so_far

-- ---- a line

pub first_lexed : {p q next : LexerState} {tokens : List Lexeme} → q ≡ p → LexesEntry q tokens next → LexesFirst p tokens
first_lexed {p} {q} {next} {tokens} same lexed = record { next = next; lexed = subst (λ (s : LexerState). LexesEntry s tokens next) same lexed }

pub first_of : (p : LexerState) (items tokens : List Token) → tokens ≡ items → LexesFirst p (map lexeme items) → LexesFirst p (map lexeme tokens)
first_of p items tokens same first = subst (λ (l : List Token). LexesFirst p (map lexeme l)) (sym same) first

pub first_missing : {p q end : LexerState} → q ≡ p → NextToken q (Ok None) end → RefusesFirst p InvalidDirective
first_missing {p} {q} {end} same last = λ c. generate.no_entry (subst (λ (s : LexerState). NextToken s (Ok None) end) same last)

text_refused : (q : LexerState) (e : ZoneFileError) → IsTextFault q e → RefusesFirst q InvalidDirective
text_refused q (error.Lexer fault) refused = λ c. generate.bad_tokens refused
text_refused q (error.Entry line fault) refused = absurd refused
text_refused q (error.IncludeNotFound line) refused = absurd refused
text_refused q error.Memory refused = absurd refused

pub first_refused : {p q : LexerState} (e : ZoneFileError) → q ≡ p → IsTextFault q e → RefusesFirst p InvalidDirective
first_refused {p} {q} e same refused = subst (λ (s : LexerState). RefusesFirst s InvalidDirective) same (text_refused q e refused)

pub text_fault : (c : Context) (line : List ℕ) (refusal : EntryFault) → (refusal ≡ InvalidDirective) × ¬ (IsUtf8 line) → AddsLine c line (Err refusal)
text_fault c line refusal is = subst (λ (f : EntryFault). AddsLine c line (Err f)) (sym is.0) (generate.no_text is.1)

pub line_fault : (c : Context) (line text : List ℕ) (e : EntryError) → IsUtf8 line → text ≡ line
    → IsFault (RefusesFirst (start_in c.types text)) e → IsFault (λ refusal. AddsLine c line (Err refusal)) e
line_fault c line text (entry_error.Fault refusal) is same refused =
    generate.of_text is (subst (λ (l : List ℕ). AddsFirst c (start_in c.types l) (Err refusal)) same (refused c))
line_fault c line text entry_error.Memory is same refused = tt

pub record_fault : (c : Context) (line text : List ℕ) (tokens : List Lexeme) (e : EntryError) → IsUtf8 line → text ≡ line
    → LexesFirst (start_in c.types text) tokens → IsFault (RefusesRecord c tokens) e → IsFault (λ refusal. AddsLine c line (Err refusal)) e
record_fault c line text tokens (entry_error.Fault refusal) is same first refused =
    generate.of_text is (subst (λ (l : List ℕ). AddsFirst c (start_in c.types l) (Err refusal)) same (generate.bad_record first.lexed refused))
record_fault c line text tokens entry_error.Memory is same first refused = tt

pub record_added : (c then : Context) (line text : List ℕ) (tokens : List Lexeme) → IsUtf8 line → text ≡ line
    → LexesFirst (start_in c.types text) tokens → AddsRecord c tokens then → AddsLine c line (Ok then)
record_added c then line text tokens is same first adds =
    generate.of_text is (subst (λ (l : List ℕ). AddsFirst c (start_in c.types l) (Ok then)) same (generate.one_record first.lexed adds))

-- ---- a number

module _ (c : Context) (template : List ℕ) (number : ℕ) (line text : List ℕ) (is : expanded number template ≡ Ok line) (same : text ≡ line) where
  pub line_added : (outcome : Result Context EntryFault) → AddsLine c text outcome → AddsNumber c template number outcome
  line_added outcome adds = generate.of_line is (subst (λ (l : List ℕ). AddsLine c l outcome) same adds)

  pub number_fault : (e : EntryError) → IsFault (λ refusal. AddsLine c text (Err refusal)) e → IsFault (λ refusal. AddsNumber c template number (Err refusal)) e
  number_fault (entry_error.Fault refusal) refused = line_added (Err refusal) refused
  number_fault entry_error.Memory refused = tt

-- ---- all numbers

-- what the numbers from a place on lead to, all numbers lead to
pub record LeadsOn (g : Generation) (start : Context) (place : ℕ) (c : Context) : Type 0 where
  pub leads : (outcome : Result Context EntryFault) → AddsEach g place (g.numbers.count - place) c outcome → Generates g start outcome

pub at_first : {g : Generation} {start c : Context} → c ≡ start → LeadsOn g start 0 c
at_first {g} {start} {c} same =
    let all : g.numbers.count - 0 ≡ g.numbers.count = omega arith in
    record {
      leads = λ outcome rest. subst (λ (x : Context). AddsEach g 0 g.numbers.count x outcome) same
          (subst (λ (k : ℕ). AddsEach g 0 k c outcome) all rest);
    }

module _ {g : Generation} {start c : Context} {place : ℕ} (so_far : LeadsOn g start place c) (within : place < g.numbers.count)
    (number : ℕ) (template : List ℕ) (is : number ≡ number_at g.numbers place) (same : template ≡ g.template) where
  one_left : suc (g.numbers.count - (place + 1)) ≡ g.numbers.count - place
  one_left = omega (arith, within)

  here : (outcome : Result Context EntryFault) → AddsNumber c template number outcome → AddsNumber c g.template (number_at g.numbers place) outcome
  here outcome adds =
      subst (λ (n : ℕ). AddsNumber c g.template n outcome) is (subst (λ (t : List ℕ). AddsNumber c t number outcome) same adds)

  pub number_added : (then : Context) → AddsNumber c template number (Ok then) → LeadsOn g start (place + 1) then
  number_added then adds = record {
    leads = λ outcome rest. so_far.leads outcome
        (subst (λ (k : ℕ). AddsEach g place k c outcome) one_left (generate.one_more (here (Ok then) adds) rest));
  }

  pub number_refused : (e : EntryError) → IsFault (λ refusal. AddsNumber c template number (Err refusal)) e
      → IsFault (λ refusal. Generates g start (Err refusal)) e
  number_refused (entry_error.Fault refusal) refused =
      so_far.leads (Err refusal) (subst (λ (k : ℕ). AddsEach g place k c (Err refusal)) one_left (generate.bad_number (here (Err refusal) refused)))
  number_refused entry_error.Memory refused = tt

pub all_added : {g : Generation} {start c : Context} {place : ℕ} → LeadsOn g start place c → g.numbers.count ≤ place → Generates g start (Ok c)
all_added {g} {start} {c} {place} so_far over =
    let none : 0 ≡ g.numbers.count - place = omega (arith, over) in
    so_far.leads (Ok c) (subst (λ (k : ℕ). AddsEach g place k c (Ok c)) none generate.no_more)

-- ---- an entry

module _ (c : Context) (tokens arguments : List Lexeme) (word : Some arguments ≡ generate_of c.types tokens) where
  pub directive_fault : (e : EntryError) → IsFault (λ refusal. generation_of arguments ≡ Err refusal) e
      → IsFault (λ refusal. entry_of tokens ≡ record_entry → RefusesEntry c tokens refusal) e
  directive_fault (entry_error.Fault refusal) refused = λ is. bad_directive is (sym word) refused
  directive_fault entry_error.Memory refused = tt

  pub generated_fault : (g : Generation) (e : EntryError) → generation_of arguments ≡ Ok g → IsFault (λ refusal. Generates g c (Err refusal)) e
      → IsFault (λ refusal. entry_of tokens ≡ record_entry → RefusesEntry c tokens refusal) e
  generated_fault g (entry_error.Fault refusal) reads refused = λ is. bad_generated is (sym word) reads refused
  generated_fault g entry_error.Memory reads refused = tt

  pub generated : (g : Generation) (then : Context) → generation_of arguments ≡ Ok g → Generates g c (Ok then)
      → entry_of tokens ≡ record_entry → Applies c tokens then
  generated g then reads made is = for_generate is (sym word) reads made

module _ (c : Context) (tokens : List Lexeme) (word : None ≡ generate_of c.types tokens) where
  pub plain_fault : (e : EntryError) → IsFault (RefusesRecord c tokens) e
      → IsFault (λ refusal. entry_of tokens ≡ record_entry → RefusesEntry c tokens refusal) e
  plain_fault (entry_error.Fault refusal) refused = λ is. bad_record is (sym word) refused
  plain_fault entry_error.Memory refused = tt

  pub plain : (then : Context) → AddsRecord c tokens then → entry_of tokens ≡ record_entry → Applies c tokens then
  plain then adds is = for_record is (sym word) adds

pub entry_fault : (c : Context) (tokens : List Lexeme) (e : EntryError) → record_entry ≡ entry_of tokens
    → IsFault (λ refusal. entry_of tokens ≡ record_entry → RefusesEntry c tokens refusal) e → IsFault (RefusesEntry c tokens) e
entry_fault c tokens (entry_error.Fault refusal) is refused = refused (sym is)
entry_fault c tokens entry_error.Memory is refused = tt
