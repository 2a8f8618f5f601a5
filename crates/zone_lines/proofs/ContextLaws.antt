-- What entries add to a context.
use Rattle.std.proofs.Common.{◌≡◌, ℕ, true, List, [], ◌∷◌, Option, Some, None, Result, Ok, Err, refl, sym, ap, subst, ◌∙◌}
use Rattle.dns_text.specs.Lexer.{Lexeme, Blank, CharData, QuotedString, At, Include, Origin, Ttl, EOL}
use Rattle.dns_records.specs.Record.{Record}
use Rattle.dns_zone_file.specs.Context.{ReadsRecord, RefusesRecord, other_class}
use Rattle.dns_zone_file.specs.Entry.{origin_directive, ttl_directive, include_directive, record_entry, entry_of, origin_of, ttl_of, inclusion_of}
use Rattle.dns_zone_file.specs.Generate.{Generation, generate_of, generation_of}
use Rattle.dns_zone_file.specs.Parsing.{bad_origin, bad_ttl, bad_include, bad_directive, bad_record}
use Rattle.dns_zone_file.specs.RecordSets.{has_other_class}
use Rattle.dns_zone_file.specs.declared.context.Context.{Context}
use Rattle.dns_zone_file.specs.declared.error.EntryError.{EntryError}
use Rattle.dns_zone_file.specs.declared.error.EntryError.TheVariants as error
use Rattle.dns_zone_file.specs.declared.error.EntryFault.{EntryFault}
use Rattle.dns_zone_file.specs.declared.error.EntryFault.TheVariants as fault
use Rattle.dns_zone_file.specs.declared.types.Types.{Types}
use Rattle.dns_zone_file.specs.declared.types.Types.TheVariants.{Nine, All}
use Rattle.dns_zone_file.specs.internal.Error.{IsFault}
use Rattle.zone_lines.specs.Reading.{RefusesAlone, directive_of, directive_with}

-- a fault with a property leaves the context as it is
abbrev pub Keeps : (EntryFault → Type 0) → Context → Context → EntryError → Type 0
Keeps P c then e = IsFault (λ refusal. P refusal × (then ≡ c)) e

pub class_fault : (c then : Context) (tokens : List Lexeme) (stated : Option ℕ) (r : Record) (e : EntryError)
    → ReadsRecord c tokens stated r
    → IsFault (λ refusal. (refusal ≡ fault.ClassMismatch) × (has_other_class c.sets r ≡ true) × (then ≡ c)) e
    → Keeps (RefusesRecord c tokens) c then e
class_fault c then tokens stated r (error.Fault refusal) reads refused =
    (subst (RefusesRecord c tokens) (sym refused.0) (other_class stated r reads refused.1), refused.2)
class_fault c then tokens stated r error.Memory reads refused = tt

-- ---- entries

-- only a word begins a `$GENERATE`
no_word : (types : Types) (tokens : List Lexeme) → (entry_of tokens ≡ record_entry → ⊥) → generate_of types tokens ≡ None
no_word Nine tokens other = refl
no_word All [] other = refl
no_word All (CharData text ∷ tokens) other = absurd (other refl)
no_word All (Blank ∷ tokens) other = refl
no_word All (QuotedString text ∷ tokens) other = refl
no_word All (At ∷ tokens) other = refl
no_word All (Include ∷ tokens) other = refl
no_word All (Origin ∷ tokens) other = refl
no_word All (Ttl ∷ tokens) other = refl
no_word All (EOL ∷ tokens) other = refl

alone : (c : Context) (tokens : List Lexeme) → (entry_of tokens ≡ record_entry → ⊥) → directive_of c.types tokens ≡ None
alone c tokens other = ap directive_with (no_word c.types tokens other)

pub origin_fault : (c then : Context) (tokens arguments : List Lexeme) (e : EntryError) → origin_directive arguments ≡ entry_of tokens
    → then ≡ c → IsFault (λ refusal. origin_of c.origin arguments ≡ Err refusal) e → Keeps (RefusesAlone c tokens) c then e
origin_fault c then tokens arguments (error.Fault refusal) entry same refused =
    (record { refused = bad_origin (sym entry) refused; alone = alone c tokens (λ is. let no : origin_directive arguments ≡ record_entry = entry ∙ is in cc) }, same)
origin_fault c then tokens arguments error.Memory entry same refused = tt

pub ttl_fault : (c : Context) (tokens arguments : List Lexeme) (refusal : EntryFault) → ttl_directive arguments ≡ entry_of tokens
    → ttl_of arguments ≡ Err refusal → RefusesAlone c tokens refusal
ttl_fault c tokens arguments refusal entry refused =
    record { refused = bad_ttl (sym entry) refused; alone = alone c tokens (λ is. let no : ttl_directive arguments ≡ record_entry = entry ∙ is in cc) }

pub include_fault : (c then : Context) (tokens arguments : List Lexeme) (e : EntryError) → include_directive arguments ≡ entry_of tokens
    → then ≡ c → IsFault (λ refusal. inclusion_of c.origin arguments ≡ Err refusal) e → Keeps (RefusesAlone c tokens) c then e
include_fault c then tokens arguments (error.Fault refusal) entry same refused =
    (record { refused = bad_include (sym entry) refused; alone = alone c tokens (λ is. let no : include_directive arguments ≡ record_entry = entry ∙ is in cc) }, same)
include_fault c then tokens arguments error.Memory entry same refused = tt

-- a fault of an entry that is a record or a `$GENERATE`
abbrev pub KeepsIfRecord : Context → List Lexeme → Context → EntryError → Type 0
KeepsIfRecord c tokens then e = IsFault (λ refusal. entry_of tokens ≡ record_entry → RefusesAlone c tokens refusal × (then ≡ c)) e

pub entry_record_fault : (c then : Context) (tokens : List Lexeme) (e : EntryError) → record_entry ≡ entry_of tokens
    → KeepsIfRecord c tokens then e → Keeps (RefusesAlone c tokens) c then e
entry_record_fault c then tokens (error.Fault refusal) entry refused = refused (sym entry)
entry_record_fault c then tokens error.Memory entry refused = tt

-- ---- records

pub plain_fault : (c then : Context) (tokens : List Lexeme) (e : EntryError) → None ≡ generate_of c.types tokens
    → Keeps (RefusesRecord c tokens) c then e → KeepsIfRecord c tokens then e
plain_fault c then tokens (error.Fault refusal) word refused =
    λ is. (record { refused = bad_record is (sym word) refused.0; alone = ap directive_with (sym word) }, refused.1)
plain_fault c then tokens error.Memory word refused = tt

-- what the arguments of a `$GENERATE` are
no_directive : (types : Types) (tokens arguments : List Lexeme) (refusal : EntryFault) → Some arguments ≡ generate_of types tokens
    → generation_of arguments ≡ Err refusal → directive_of types tokens ≡ None
no_directive types tokens arguments refusal word refused =
    ap directive_with (sym word)
    ∙ ap (λ (r : Result Generation EntryFault). elim r [ Ok directive ↦ Some directive | Err fault ↦ None ]) refused

pub directive_is : (types : Types) (tokens arguments : List Lexeme) (directive : Generation) → Some arguments ≡ generate_of types tokens
    → generation_of arguments ≡ Ok directive → directive_of types tokens ≡ Some directive
directive_is types tokens arguments directive word reads =
    ap directive_with (sym word)
    ∙ ap (λ (r : Result Generation EntryFault). elim r [ Ok other ↦ Some other | Err fault ↦ None ]) reads

pub directive_fault : (c then : Context) (tokens arguments : List Lexeme) (e : EntryError) → Some arguments ≡ generate_of c.types tokens
    → then ≡ c → IsFault (λ refusal. generation_of arguments ≡ Err refusal) e → KeepsIfRecord c tokens then e
directive_fault c then tokens arguments (error.Fault refusal) word same refused =
    λ is. (record { refused = bad_directive is (sym word) refused; alone = no_directive c.types tokens arguments refusal word refused }, same)
directive_fault c then tokens arguments error.Memory word same refused = tt
