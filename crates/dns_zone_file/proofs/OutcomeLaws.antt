-- A zone file has one outcome.
use Rattle.std.proofs.Common.{◌≡◌, ◌<◌, ◌≤◌, ◌+◌, ℕ, Bool, true, false, List, [], ◌∷◌, drop, Option, Some, None, Result, Ok, Err, ◌⊎◌, inl, inr, refl, sym, ap, ◌∙◌, subst, arith}
use Rattle.std.specs.Prelude.{unwrap_or}
use Rattle.dns_wire.specs.declared.codes.dns_class.DNSClass.{DNSClass}
use Rattle.dns_names.specs.Name.{DomainName}
use Rattle.dns_text.specs.Lexer.{Lexeme, LexerState, NextToken}
use Rattle.dns_text.specs.declared.error.LexerError.{LexerError}
use Rattle.dns_text.proofs.ReadingLaws.{same_outcome}
use Rattle.dns_data.specs.declared.rdata.RData.{RData}
use Rattle.dns_records.specs.Record.{Record}
use Rattle.dns_zone_file.specs.declared.context.Context.{Context}
use Rattle.dns_zone_file.specs.declared.error.EntryFault.{EntryFault}
use Rattle.dns_zone_file.specs.declared.error.EntryFault.TheVariants as fault
use Rattle.dns_zone_file.specs.declared.error.ZoneFileError.{ZoneFileError}
use Rattle.dns_zone_file.specs.declared.error.ZoneFileError.TheVariants as error
use Rattle.dns_zone_file.specs.Data.{ReadsIn, RefusesIn}
use Rattle.dns_zone_file.specs.Context.{owner_of, ttl_for, default_class, ReadsRecord, RefusesRecord, bad_owner, bad_fields, bad_data, no_ttl, other_class, after_record, AddsRecord, included, resumed}
use Rattle.dns_zone_file.specs.Entry.{LexesEntry, line_end, text_end, one_token, RefusesTokens, at_fault, past_token, Entry, nothing, origin_directive, ttl_directive, include_directive, record_entry, entry_of, Inclusion, origin_of, ttl_of, inclusion_of}
use Rattle.dns_zone_file.specs.Fields.{Fields, fields_in}
use Rattle.dns_zone_file.specs.declared.templates.fault.GenerateFault.{GenerateFault}
use Rattle.dns_zone_file.specs.Generate.{Generation, generate_of, generation_of, Generates, AddsFirst, AddsLine, AddsNumber, AddsEach}
use Rattle.dns_zone_file.specs.Generate as generate
use Rattle.dns_zone_file.specs.Parsing.{Includes, text_of, max_includes, start_in, Applies, for_nothing, for_origin, for_ttl, for_generate, for_record, IncludesText, RefusesEntry, bad_origin, bad_ttl, bad_include, bad_directive, bad_generated, bad_record, Parses, ended, bad_text, bad_entry, applied, too_deep, not_found, bad_included, past_included}
use Rattle.dns_zone_file.specs.RecordSets.{has_other_class}
use Rattle.dns_zone_file.proofs.DataLaws.{same_in, not_refused_in, refused_same_in}

-- ---- tokens

-- a reading of a token, as it is found again
next_is : {p q r : LexerState} {a b : Result (Option Lexeme) LexerError} → NextToken p a q → NextToken p b r → a ≡ b
next_is {p} {q} {r} {a} {b} h k = (same_outcome p q r a b h k).0

next_at : {p q r : LexerState} {a b : Result (Option Lexeme) LexerError} → NextToken p a q → NextToken p b r → q ≡ r
next_at {p} {q} {r} {a} {b} h k = (same_outcome p q r a b h k).1

same_token : {p q r : LexerState} {a b : Lexeme} → NextToken p (Ok (Some a)) q → NextToken p (Ok (Some b)) r → a ≡ b
same_token h k = let e = next_is h k in cc

not_the_end : {p q r : LexerState} {a : Lexeme} → NextToken p (Ok (Some a)) q → NextToken p (Ok None) r → ⊥
not_the_end h k = let e = next_is h k in absurd (cc)

not_a_fault : {p q r : LexerState} {a : Option Lexeme} {e : LexerError} → NextToken p (Ok a) q → NextToken p (Err e) r → ⊥
not_a_fault h k = let e = next_is h k in absurd (cc)

-- an entry has a token
entry_not_end : {p next end : LexerState} {tokens : List Lexeme} → LexesEntry p tokens next → NextToken p (Ok None) end → ⊥
entry_not_end (line_end h) k = not_the_end h k
entry_not_end (text_end h some last) k = not_the_end h k
entry_not_end (one_token h some rest) k = not_the_end h k

refusal_not_end : {p end : LexerState} {e : LexerError} → RefusesTokens p e → NextToken p (Ok None) end → ⊥
refusal_not_end (at_fault h) k = not_a_fault k h
refusal_not_end (past_token h some rest) k = not_the_end h k

from_there : {q r : LexerState} (P : LexerState → Type 0) → q ≡ r → P q → P r
from_there P e h = subst P e h

-- the tokens of an entry, and the state behind it
same_entry : {p q r : LexerState} {a b : List Lexeme} → LexesEntry p a q → LexesEntry p b r → (a ≡ b) × (q ≡ r)
same_entry (line_end h) (line_end k) = (refl, next_at h k)
same_entry (line_end h) (text_end k some last) = absurd (some (sym (same_token h k)))
same_entry (line_end h) (one_token k some rest) = absurd (some (sym (same_token h k)))
same_entry (text_end h some last) (line_end k) = absurd (some (same_token h k))
same_entry (text_end {end = end} h some last) (text_end {next = r} k others then) =
    (ap (λ (t : Lexeme). t ∷ []) (same_token h k), next_at (from_there (λ (s : LexerState). NextToken s (Ok None) end) (next_at h k) last) then)
same_entry (text_end {end = end} h some last) (one_token k others rest) =
    absurd (entry_not_end rest (from_there (λ (s : LexerState). NextToken s (Ok None) end) (next_at h k) last))
same_entry (one_token h some rest) (line_end k) = absurd (some (same_token h k))
same_entry (one_token {next = q} h some rest) (text_end {end = end} k others last) =
    absurd (entry_not_end rest (from_there (λ (s : LexerState). NextToken s (Ok None) end) (sym (next_at h k)) last))
same_entry (one_token h some rest) (one_token {next = next} {end = r} {tokens = b} k others more) =
    let later = same_entry rest (from_there (λ (s : LexerState). LexesEntry s b r) (sym (next_at h k)) more) in
    (λ i. same_token h k i ∷ later.0 i, later.1)

entry_not_refused : {p q : LexerState} {tokens : List Lexeme} {e : LexerError} → LexesEntry p tokens q → RefusesTokens p e → ⊥
entry_not_refused (line_end h) (at_fault k) = not_a_fault h k
entry_not_refused (line_end h) (past_token k some rest) = some (sym (same_token h k))
entry_not_refused (text_end h some last) (at_fault k) = not_a_fault h k
entry_not_refused {e = e} (text_end h some last) (past_token k others rest) =
    refusal_not_end (from_there (λ (s : LexerState). RefusesTokens s e) (sym (next_at h k)) rest) last
entry_not_refused (one_token h some rest) (at_fault k) = not_a_fault h k
entry_not_refused {e = e} (one_token h some rest) (past_token k others refused) =
    entry_not_refused rest (from_there (λ (s : LexerState). RefusesTokens s e) (sym (next_at h k)) refused)

same_text_fault : {p : LexerState} {a b : LexerError} → RefusesTokens p a → RefusesTokens p b → a ≡ b
same_text_fault (at_fault h) (at_fault k) = let e = next_is h k in cc
same_text_fault (at_fault h) (past_token k some rest) = absurd (not_a_fault k h)
same_text_fault (past_token h some rest) (at_fault k) = absurd (not_a_fault h k)
same_text_fault {b = b} (past_token h some rest) (past_token k others more) =
    same_text_fault rest (from_there (λ (s : LexerState). RefusesTokens s b) (sym (next_at h k)) more)

-- what is read from a state on: the end of the text, a fault of it, or an entry
data Reading : Type 0 where
  no_entry : Reading
  broken : LexerError → Reading
  entry : List Lexeme → LexerState → Reading

abbrev IsReading : LexerState → Reading → Type 0
IsReading p no_entry = (end : LexerState) × NextToken p (Ok None) end
IsReading p (broken e) = RefusesTokens p e
IsReading p (entry tokens next) = LexesEntry p tokens next

same_reading : (p : LexerState) (x y : Reading) → IsReading p x → IsReading p y → x ≡ y
same_reading p no_entry no_entry h k = refl
same_reading p no_entry (broken e) h k = absurd (refusal_not_end k h.1)
same_reading p no_entry (entry tokens next) h k = absurd (entry_not_end k h.1)
same_reading p (broken e) no_entry h k = absurd (refusal_not_end h k.1)
same_reading p (broken e) (broken f) h k = ap broken (same_text_fault h k)
same_reading p (broken e) (entry tokens next) h k = absurd (entry_not_refused k h)
same_reading p (entry tokens next) no_entry h k = absurd (entry_not_end h k.1)
same_reading p (entry tokens next) (broken e) h k = absurd (entry_not_refused h k)
same_reading p (entry tokens next) (entry others then) h k = let e = same_entry h k in λ i. entry (e.0 i) (e.1 i)

-- ---- entries

-- the effect of an entry: a fault, the context after it, or a text to include
data Effect : Type 0 where
  refuses : EntryFault → Effect
  leads_to : Context → Effect
  includes_text : Inclusion → Effect

abbrev HasEffect : Context → List Lexeme → Effect → Type 0
HasEffect c tokens (refuses refusal) = RefusesEntry c tokens refusal
HasEffect c tokens (leads_to next) = Applies c tokens next
HasEffect c tokens (includes_text i) = IncludesText c tokens i

-- the effect of a result
abbrev effect_of : {A : Type 0} → (A → Effect) → Result A EntryFault → Effect
effect_of f (Ok x) = f x
effect_of f (Err refusal) = refuses refusal

-- that of a record, by its class
abbrev by_class : Context → Option ℕ → Record → Bool → Effect
by_class c stated r true = refuses fault.ClassMismatch
by_class c stated r false = leads_to (after_record c stated r)

abbrev adding : Context → Option ℕ → Record → Effect
adding c stated r = by_class c stated r (has_other_class c.sets r)

abbrev made : Context → DomainName → Fields → RData → ℕ → Record
made c owner f d ttl = record { name = owner; dns_class = unwrap_or f.dns_class (default_class c); ttl = ttl; rdata = d }

abbrev by_ttl : Context → DomainName → Fields → RData → Option ℕ → Effect
by_ttl c owner f d None = refuses fault.NoTtl
by_ttl c owner f d (Some ttl) = adding c f.ttl (made c owner f d ttl)

-- that of a record with an owner and fields: a fault of its data, or what its data leads to
data DataEffect (c : Context) (owner : DomainName) (f : Fields) : Effect → Type 0 where
  by_refusal : {refusal : EntryFault} → RefusesIn c.types c.origin f.record_type f.rdata refusal → DataEffect c owner f (refuses refusal)
  by_data : {x : Effect} (d : RData) → ReadsIn c.types c.origin f.record_type f.rdata d → x ≡ by_ttl c owner f d (ttl_for c f.ttl d) → DataEffect c owner f x

abbrev ByFields : Context → DomainName → Result Fields EntryFault → Effect → Type 0
ByFields c owner (Ok f) x = DataEffect c owner f x
ByFields c owner (Err refusal) x = x ≡ refuses refusal

abbrev ByOwner : Context → List Lexeme → Result DomainName EntryFault → Effect → Type 0
ByOwner c tokens (Ok owner) x = ByFields c owner (fields_in c.types (drop 1 tokens)) x
ByOwner c tokens (Err refusal) x = x ≡ refuses refusal

-- that of a directive that makes records

data DirectiveEffect (c : Context) : Result Generation EntryFault → Effect → Type 0 where
  by_arguments : {refusal : EntryFault} {x : Effect} → x ≡ refuses refusal → DirectiveEffect c (Err refusal) x
  by_records : {g : Generation} {x : Effect} (outcome : Result Context EntryFault) → Generates g c outcome → x ≡ effect_of leads_to outcome
      → DirectiveEffect c (Ok g) x

abbrev ByWord : Context → List Lexeme → Option (List Lexeme) → Effect → Type 0
ByWord c tokens None x = ByOwner c tokens (owner_of c tokens) x
ByWord c tokens (Some arguments) x = DirectiveEffect c (generation_of arguments) x

abbrev ByEntry : Context → List Lexeme → Entry → Effect → Type 0
ByEntry c tokens nothing x = x ≡ leads_to c
ByEntry c tokens (origin_directive arguments) x = x ≡ effect_of (λ origin. leads_to (record c { origin = origin })) (origin_of c.origin arguments)
ByEntry c tokens (ttl_directive arguments) x = x ≡ effect_of (λ ttl. leads_to (record c { default_ttl = Some ttl })) (ttl_of arguments)
ByEntry c tokens (include_directive arguments) x = x ≡ effect_of includes_text (inclusion_of c.origin arguments)
ByEntry c tokens record_entry x = ByWord c tokens (generate_of c.types tokens) x

-- one effect

same_data_effect : {c : Context} {owner : DomainName} {f : Fields} {x y : Effect} → DataEffect c owner f x → DataEffect c owner f y → x ≡ y
same_data_effect {c} {owner} {f} (by_refusal {refusal = a} h) (by_refusal {refusal = b} k) =
    ap refuses (refused_same_in c.types c.origin f.record_type f.rdata a b h k)
same_data_effect {c} {owner} {f} (by_refusal {refusal = e} h) (by_data d parsed k) = absurd (not_refused_in c.types c.origin f.record_type f.rdata d e parsed h)
same_data_effect {c} {owner} {f} (by_data d parsed h) (by_refusal {refusal = e} k) = absurd (not_refused_in c.types c.origin f.record_type f.rdata d e parsed k)
same_data_effect {c} {owner} {f} (by_data a h is) (by_data b k so) =
    is ∙ ap (λ (d : RData). by_ttl c owner f d (ttl_for c f.ttl d)) (same_in c.types c.origin f.record_type f.rdata a b h k) ∙ sym so

same_by_fields : (c : Context) (owner : DomainName) (r : Result Fields EntryFault) (x y : Effect) → ByFields c owner r x → ByFields c owner r y → x ≡ y
same_by_fields c owner (Ok f) x y h k = same_data_effect h k
same_by_fields c owner (Err refusal) x y h k = h ∙ sym k

same_by_owner : (c : Context) (tokens : List Lexeme) (r : Result DomainName EntryFault) (x y : Effect) → ByOwner c tokens r x → ByOwner c tokens r y → x ≡ y
same_by_owner c tokens (Ok owner) x y h k = same_by_fields c owner (fields_in c.types (drop 1 tokens)) x y h k
same_by_owner c tokens (Err refusal) x y h k = h ∙ sym k

-- of records

with_owner : (c : Context) (tokens : List Lexeme) (owner : DomainName) (x : Effect) → owner_of c tokens ≡ Ok owner → ByFields c owner (fields_in c.types (drop 1 tokens)) x → ByOwner c tokens (owner_of c tokens) x
with_owner c tokens owner x e h = subst (λ (r : Result DomainName EntryFault). ByOwner c tokens r x) (sym e) h

with_fields : (c : Context) (tokens : List Lexeme) (owner : DomainName) (f : Fields) (x : Effect) → owner_of c tokens ≡ Ok owner → fields_in c.types (drop 1 tokens) ≡ Ok f → DataEffect c owner f x → ByOwner c tokens (owner_of c tokens) x
with_fields c tokens owner f x e g h = with_owner c tokens owner x e (subst (λ (r : Result Fields EntryFault). ByFields c owner r x) (sym g) h)

with_record : (c : Context) (tokens : List Lexeme) (stated : Option ℕ) (r : Record) (x : Effect) → ReadsRecord c tokens stated r → x ≡ adding c stated r → ByOwner c tokens (owner_of c tokens) x
with_record c tokens stated r x reads is =
    let f : Fields = reads.fields in
    let by_stated = ap (λ (o : Option ℕ). ttl_for c o r.rdata) reads.stated_is ∙ reads.ttl in
    let the_record = ap (λ (class : DNSClass). record r { dns_class = class }) reads.dns_class in
    with_fields c tokens r.name f x reads.owner reads.between (by_data r.rdata reads.rdata
    (is ∙ ap (λ (o : Option ℕ). adding c o r) (sym reads.stated_is)
    ∙ ap (adding c f.ttl) (sym the_record)
    ∙ ap (by_ttl c r.name f r.rdata) (sym by_stated)))

by_refused_record : {c : Context} {tokens : List Lexeme} {refusal : EntryFault} → RefusesRecord c tokens refusal → ByOwner c tokens (owner_of c tokens) (refuses refusal)
by_refused_record {c} {tokens} {refusal} (bad_owner e) = subst (λ (r : Result DomainName EntryFault). ByOwner c tokens r (refuses refusal)) (sym e) refl
by_refused_record {c} {tokens} {refusal} (bad_fields owner e g) =
    with_owner c tokens owner (refuses refusal) e (subst (λ (r : Result Fields EntryFault). ByFields c owner r (refuses refusal)) (sym g) refl)
by_refused_record {c} {tokens} {refusal} (bad_data owner f e g refused) = with_fields c tokens owner f (refuses refusal) e g (by_refusal refused)
by_refused_record {c} {tokens} (no_ttl owner f d e g parsed none) =
    with_fields c tokens owner f (refuses fault.NoTtl) e g (by_data d parsed (sym (ap (by_ttl c owner f d) none)))
by_refused_record {c} {tokens} (other_class stated r reads other) =
    with_record c tokens stated r (refuses fault.ClassMismatch) reads (sym (ap (by_class c stated r) other))

by_added_record : {c : Context} {tokens : List Lexeme} {next : Context} → AddsRecord c tokens next → ByOwner c tokens (owner_of c tokens) (leads_to next)
by_added_record {c} {tokens} {next} adds =
    with_record c tokens adds.stated adds.added (leads_to next) adds.reads (ap leads_to adds.after ∙ sym (ap (by_class c adds.stated adds.added) adds.class_fits))

-- of records that a directive makes

abbrev FirstEffect : Context → Reading → Result Context EntryFault → Type 0
FirstEffect c no_entry outcome = outcome ≡ Err fault.InvalidDirective
FirstEffect c (broken e) outcome = outcome ≡ Err fault.InvalidDirective
FirstEffect c (entry tokens next) outcome = ByOwner c tokens (owner_of c tokens) (effect_of leads_to outcome)

record FirstOpened (c : Context) (p : LexerState) (outcome : Result Context EntryFault) : Type 0 where
  reading : Reading
  is_read : IsReading p reading
  leads : FirstEffect c reading outcome

same_result : (a b : Result Context EntryFault) → effect_of leads_to a ≡ effect_of leads_to b → a ≡ b
same_result (Ok x) (Ok y) e = let same : x ≡ y = cc in ap (λ (z : Context). Ok z) same
same_result (Ok x) (Err f) e = absurd (cc)
same_result (Err f) (Ok y) e = absurd (cc)
same_result (Err f) (Err g) e = let same : f ≡ g = cc in ap (λ (z : EntryFault). Err z) same

open_first : {c : Context} {p : LexerState} {outcome : Result Context EntryFault} → AddsFirst c p outcome → FirstOpened c p outcome
open_first (generate.no_entry {end = end} last) = record { reading = no_entry; is_read = (end, last); leads = refl }
open_first (generate.bad_tokens {error = e} refused) = record { reading = broken e; is_read = refused; leads = refl }
open_first (generate.bad_record {next = next} {tokens = tokens} lexed refused) =
    record { reading = entry tokens next; is_read = lexed; leads = by_refused_record refused }
open_first (generate.one_record {next = next} {tokens = tokens} lexed adds) =
    record { reading = entry tokens next; is_read = lexed; leads = by_added_record adds }

same_first_effect : (c : Context) (r : Reading) (a b : Result Context EntryFault) → FirstEffect c r a → FirstEffect c r b → a ≡ b
same_first_effect c no_entry a b h k = h ∙ sym k
same_first_effect c (broken e) a b h k = h ∙ sym k
same_first_effect c (entry tokens next) a b h k =
    same_result a b (same_by_owner c tokens (owner_of c tokens) (effect_of leads_to a) (effect_of leads_to b) h k)

same_first : {c : Context} {p : LexerState} (a b : Result Context EntryFault) → AddsFirst c p a → AddsFirst c p b → a ≡ b
same_first {c} {p} a b h k =
    let x = open_first h in
    let y = open_first k in
    same_first_effect c y.reading a b (subst (λ (r : Reading). FirstEffect c r a) (same_reading p x.reading y.reading x.is_read y.is_read) x.leads) y.leads

same_line : {c : Context} {line : List ℕ} {a : Result Context EntryFault} (b : Result Context EntryFault) → AddsLine c line a → AddsLine c line b → a ≡ b
same_line b (generate.no_text other) (generate.no_text k) = refl
same_line b (generate.no_text other) (generate.of_text is first) = absurd (other is)
same_line b (generate.of_text is first) (generate.no_text other) = absurd (other is)
same_line b (generate.of_text {outcome = a} is first) (generate.of_text so second) = same_first a b first second

same_number : {c : Context} {template : List ℕ} {number : ℕ} {a : Result Context EntryFault} (b : Result Context EntryFault)
    → AddsNumber c template number a → AddsNumber c template number b → a ≡ b
same_number b (generate.bad_text {fault = f} e) (generate.bad_text {fault = g} k) =
    let same : f ≡ g = cc in ap (λ (z : GenerateFault). Err (fault.InvalidGenerate z)) same
same_number b (generate.bad_text e) (generate.of_line k line) = absurd (cc)
same_number b (generate.of_line e line) (generate.bad_text k) = absurd (cc)
same_number {c} b (generate.of_line {line = l} e first) (generate.of_line {line = m} k second) =
    let same : l ≡ m = cc in
    same_line b first (subst (λ (x : List ℕ). AddsLine c x b) (sym same) second)

same_each : {g : Generation} {place count : ℕ} {c : Context} {a : Result Context EntryFault} (b : Result Context EntryFault)
    → AddsEach g place count c a → AddsEach g place count c b → a ≡ b
same_each b generate.no_more generate.no_more = refl
same_each b (generate.bad_number h) (generate.bad_number k) = same_number b h k
same_each b (generate.bad_number h) (generate.one_more {after = x} k rest) = let e = same_number (Ok x) h k in absurd (cc)
same_each b (generate.one_more {after = x} h rest) (generate.bad_number {refusal = f} k) = let e = same_number (Err f) h k in absurd (cc)
same_each {g} {place} b (generate.one_more {count = n} {after = x} h rest) (generate.one_more {after = y} k more) =
    let e = same_number (Ok y) h k in
    let same : x ≡ y = cc in
    same_each b rest (subst (λ (z : Context). AddsEach g (place + 1) n z b) (sym same) more)

same_directive : {c : Context} {r : Result Generation EntryFault} {x y : Effect} → DirectiveEffect c r x → DirectiveEffect c r y → x ≡ y
same_directive (by_arguments h) (by_arguments k) = h ∙ sym k
same_directive (by_records a h is) (by_records b k so) = is ∙ ap (effect_of leads_to) (same_each b h k) ∙ sym so

same_by_word : (c : Context) (tokens : List Lexeme) (o : Option (List Lexeme)) (x y : Effect) → ByWord c tokens o x → ByWord c tokens o y → x ≡ y
same_by_word c tokens None x y h k = same_by_owner c tokens (owner_of c tokens) x y h k
same_by_word c tokens (Some arguments) x y h k = same_directive h k

same_by_entry : (c : Context) (tokens : List Lexeme) (e : Entry) (x y : Effect) → ByEntry c tokens e x → ByEntry c tokens e y → x ≡ y
same_by_entry c tokens record_entry x y h k = same_by_word c tokens (generate_of c.types tokens) x y h k
same_by_entry c tokens nothing x y h k = h ∙ sym k
same_by_entry c tokens (origin_directive arguments) x y h k = h ∙ sym k
same_by_entry c tokens (ttl_directive arguments) x y h k = h ∙ sym k
same_by_entry c tokens (include_directive arguments) x y h k = h ∙ sym k

-- of entries

at_entry : (c : Context) (tokens : List Lexeme) (e : Entry) (x : Effect) → entry_of tokens ≡ e → ByEntry c tokens e x → ByEntry c tokens (entry_of tokens) x
at_entry c tokens e x is h = subst (λ (f : Entry). ByEntry c tokens f x) (sym is) h

at_word : (c : Context) (tokens : List Lexeme) (o : Option (List Lexeme)) (x : Effect) → entry_of tokens ≡ record_entry → generate_of c.types tokens ≡ o
    → ByWord c tokens o x → ByEntry c tokens (entry_of tokens) x
at_word c tokens o x is word h = at_entry c tokens record_entry x is (subst (λ (p : Option (List Lexeme)). ByWord c tokens p x) (sym word) h)

by_generation : (c : Context) (arguments : List Lexeme) (r : Result Generation EntryFault) (x : Effect) → generation_of arguments ≡ r
    → DirectiveEffect c r x → DirectiveEffect c (generation_of arguments) x
by_generation c arguments r x e h = subst (λ (s : Result Generation EntryFault). DirectiveEffect c s x) (sym e) h

by_refused : {c : Context} {tokens : List Lexeme} {refusal : EntryFault} → RefusesEntry c tokens refusal → ByEntry c tokens (entry_of tokens) (refuses refusal)
by_refused {c} {tokens} {refusal} (bad_origin {arguments = arguments} is refused) =
    at_entry c tokens (origin_directive arguments) (refuses refusal) is (sym (ap (effect_of (λ origin. leads_to (record c { origin = origin }))) refused))
by_refused {c} {tokens} {refusal} (bad_ttl {arguments = arguments} is refused) =
    at_entry c tokens (ttl_directive arguments) (refuses refusal) is (sym (ap (effect_of (λ ttl. leads_to (record c { default_ttl = Some ttl }))) refused))
by_refused {c} {tokens} {refusal} (bad_include {arguments = arguments} is refused) =
    at_entry c tokens (include_directive arguments) (refuses refusal) is (sym (ap (effect_of includes_text) refused))
by_refused {c} {tokens} {refusal} (bad_directive {arguments = arguments} is word refused) =
    at_word c tokens (Some arguments) (refuses refusal) is word (by_generation c arguments (Err refusal) (refuses refusal) refused (by_arguments refl))
by_refused {c} {tokens} {refusal} (bad_generated {arguments = arguments} {g = g} is word reads made) =
    at_word c tokens (Some arguments) (refuses refusal) is word (by_generation c arguments (Ok g) (refuses refusal) reads (by_records (Err refusal) made refl))
by_refused {c} {tokens} {refusal} (bad_record is word refused) = at_word c tokens None (refuses refusal) is word (by_refused_record refused)

by_applied : {c : Context} {tokens : List Lexeme} {next : Context} → Applies c tokens next → ByEntry c tokens (entry_of tokens) (leads_to next)
by_applied {c} {tokens} (for_nothing is) = at_entry c tokens nothing (leads_to c) is refl
by_applied {c} {tokens} {next} (for_origin {arguments = arguments} is reads) =
    at_entry c tokens (origin_directive arguments) (leads_to next) is (sym (ap (effect_of (λ origin. leads_to (record c { origin = origin }))) reads))
by_applied {c} {tokens} {next} (for_ttl {arguments = arguments} is reads) =
    at_entry c tokens (ttl_directive arguments) (leads_to next) is (sym (ap (effect_of (λ ttl. leads_to (record c { default_ttl = Some ttl }))) reads))
by_applied {c} {tokens} {next} (for_generate {arguments = arguments} {g = g} is word reads made) =
    at_word c tokens (Some arguments) (leads_to next) is word (by_generation c arguments (Ok g) (leads_to next) reads (by_records (Ok next) made refl))
by_applied {c} {tokens} {next} (for_record is word adds) = at_word c tokens None (leads_to next) is word (by_added_record adds)

by_effect : (c : Context) (tokens : List Lexeme) (x : Effect) → HasEffect c tokens x → ByEntry c tokens (entry_of tokens) x
by_effect c tokens (refuses refusal) h = by_refused h
by_effect c tokens (leads_to next) h = by_applied h
by_effect c tokens (includes_text i) h =
    at_entry c tokens (include_directive h.arguments) (includes_text i) h.entry (sym (ap (effect_of includes_text) h.read))

same_effect : (c : Context) (tokens : List Lexeme) (x y : Effect) → HasEffect c tokens x → HasEffect c tokens y → x ≡ y
same_effect c tokens x y h k = same_by_entry c tokens (entry_of tokens) x y (by_effect c tokens x h) (by_effect c tokens y k)

-- ---- texts

module _ (includes : Includes) (depth : ℕ) (c : Context) (p : LexerState) where
  -- the outcome of a text from a state on, by what is read there

  abbrev AfterInner : LexerState → Result Context ZoneFileError → Result Context ZoneFileError → Type 0
  AfterInner next (Ok after) b = Parses includes depth (resumed c after) next b
  AfterInner next (Err e) b = b ≡ Err e

  abbrev ByText : LexerState → Inclusion → Option (List ℕ) → Result Context ZoneFileError → Type 0
  ByText next i None b = b ≡ Err (error.IncludeNotFound p.entry)
  ByText next i (Some text) b =
      (inner : Result Context ZoneFileError) × Parses includes (depth + 1) (included c i.origin) (start_in c.types text) inner × AfterInner next inner b

  abbrev ByEffect : LexerState → Effect → Result Context ZoneFileError → Type 0
  ByEffect next (refuses refusal) b = b ≡ Err (error.Entry p.entry refusal)
  ByEffect next (leads_to then) b = Parses includes depth then next b
  ByEffect next (includes_text i) b =
      ((max_includes ≤ depth) × (b ≡ Err (error.Entry p.entry fault.TooManyIncludes))) ⊎ ((depth < max_includes) × ByText next i (text_of includes i.name) b)

  abbrev ByReading : Reading → Result Context ZoneFileError → Type 0
  ByReading no_entry b = b ≡ Ok c
  ByReading (broken e) b = b ≡ Err (error.Lexer e)
  ByReading (entry tokens next) b = (x : Effect) × HasEffect c tokens x × ByEffect next x b

  record Opened (b : Result Context ZoneFileError) : Type 0 where
    reading : Reading
    is_read : IsReading p reading
    leads : ByReading reading b

  with_text : (next : LexerState) (i : Inclusion) (text : List ℕ) (b : Result Context ZoneFileError) → text_of includes i.name ≡ Some text → ByText next i (Some text) b → ByText next i (text_of includes i.name) b
  with_text next i text b e h = subst (λ (o : Option (List ℕ)). ByText next i o b) (sym e) h

  open_up : (b : Result Context ZoneFileError) → Parses includes depth c p b → Opened b
  open_up b (ended {end = end} last) = record { reading = no_entry; is_read = (end, last); leads = refl }
  open_up b (bad_text {error = e} refused) = record { reading = broken e; is_read = refused; leads = refl }
  open_up b (bad_entry {next = next} {tokens = tokens} {refusal = refusal} lexed refused) =
      record { reading = entry tokens next; is_read = lexed; leads = (refuses refusal, refused, refl) }
  open_up b (applied {then = then} {next = next} {tokens = tokens} lexed applies rest) =
      record { reading = entry tokens next; is_read = lexed; leads = (leads_to then, applies, rest) }
  open_up b (too_deep {next = next} {tokens = tokens} {i = i} lexed w deep) =
      record { reading = entry tokens next; is_read = lexed; leads = (includes_text i, w, inl (deep, refl)) }
  open_up b (not_found {next = next} {tokens = tokens} {i = i} lexed w within none) =
      record { reading = entry tokens next; is_read = lexed; leads = (includes_text i, w, inr (within, subst (λ (o : Option (List ℕ)). ByText next i o b) (sym none) refl)) }
  open_up b (bad_included {next = next} {tokens = tokens} {i = i} {text = text} {error = e} lexed w within found refused) =
      record { reading = entry tokens next; is_read = lexed; leads = (includes_text i, w, inr (within, with_text next i text b found (Err e, refused, refl))) }
  open_up b (past_included {after = after} {next = next} {tokens = tokens} {i = i} {text = text} lexed w within found inner rest) =
      record { reading = entry tokens next; is_read = lexed; leads = (includes_text i, w, inr (within, with_text next i text b found (Ok after, inner, rest))) }

  -- what another outcome of the same text is
  reading_leads : (r : Reading) (b : Result Context ZoneFileError) → IsReading p r → Parses includes depth c p b → ByReading r b
  reading_leads r b is other =
      let o = open_up b other in
      subst (λ (x : Reading). ByReading x b) (same_reading p o.reading r o.is_read is) o.leads

  effect_leads : (tokens : List Lexeme) (next : LexerState) (x : Effect) (b : Result Context ZoneFileError) → LexesEntry p tokens next → HasEffect c tokens x → Parses includes depth c p b → ByEffect next x b
  effect_leads tokens next x b lexed has other =
      let h = reading_leads (entry tokens next) b lexed other in
      subst (λ (y : Effect). ByEffect next y b) (same_effect c tokens h.0 x h.1 has) h.2

  too_deep_leads : (next : LexerState) (i : Inclusion) (b : Result Context ZoneFileError) → max_includes ≤ depth → ByEffect next (includes_text i) b → b ≡ Err (error.Entry p.entry fault.TooManyIncludes)
  too_deep_leads next i b deep (inl h) = h.1
  too_deep_leads next i b deep (inr h) = absurd (omega (arith, h.0))

  text_leads : (next : LexerState) (i : Inclusion) (o : Option (List ℕ)) (b : Result Context ZoneFileError) → depth < max_includes → text_of includes i.name ≡ o → ByEffect next (includes_text i) b → ByText next i o b
  text_leads next i o b within e (inl h) = absurd (omega (arith, h.0))
  text_leads next i o b within e (inr h) = subst (λ (found : Option (List ℕ)). ByText next i found b) e h.1

pub same_parse : {includes : Includes} {depth : ℕ} {c : Context} {p : LexerState} {a : Result Context ZoneFileError} (b : Result Context ZoneFileError) → Parses includes depth c p a → Parses includes depth c p b → a ≡ b
same_parse {includes} {depth} {c} {p} b (ended {end = end} last) other = sym (reading_leads includes depth c p no_entry b (end, last) other)
same_parse {includes} {depth} {c} {p} b (bad_text {error = e} refused) other = sym (reading_leads includes depth c p (broken e) b refused other)
same_parse {includes} {depth} {c} {p} b (bad_entry {next = next} {tokens = tokens} {refusal = refusal} lexed refused) other =
    sym (effect_leads includes depth c p tokens next (refuses refusal) b lexed refused other)
same_parse {includes} {depth} {c} {p} b (applied {then = then} {next = next} {tokens = tokens} lexed applies rest) other =
    same_parse b rest (effect_leads includes depth c p tokens next (leads_to then) b lexed applies other)
same_parse {includes} {depth} {c} {p} b (too_deep {next = next} {tokens = tokens} {i = i} lexed w deep) other =
    sym (too_deep_leads includes depth c p next i b deep (effect_leads includes depth c p tokens next (includes_text i) b lexed w other))
same_parse {includes} {depth} {c} {p} b (not_found {next = next} {tokens = tokens} {i = i} lexed w within none) other =
    sym (text_leads includes depth c p next i None b within none (effect_leads includes depth c p tokens next (includes_text i) b lexed w other))
same_parse {includes} {depth} {c} {p} b (bad_included {next = next} {tokens = tokens} {i = i} {text = text} {error = e} lexed w within found refused) other =
    let h = text_leads includes depth c p next i (Some text) b within found (effect_leads includes depth c p tokens next (includes_text i) b lexed w other) in
    sym (subst (λ (r : Result Context ZoneFileError). AfterInner includes depth c p next r b) (sym (same_parse h.0 refused h.1)) h.2)
same_parse {includes} {depth} {c} {p} b (past_included {after = after} {next = next} {tokens = tokens} {i = i} {text = text} lexed w within found inner rest) other =
    let h = text_leads includes depth c p next i (Some text) b within found (effect_leads includes depth c p tokens next (includes_text i) b lexed w other) in
    same_parse b rest (subst (λ (r : Result Context ZoneFileError). AfterInner includes depth c p next r b) (sym (same_parse h.0 inner h.1)) h.2)
