-- The text of a type is a word of zone files of all types, and denotes the type.
use Rattle.std.proofs.Common.{◌≡◌, ℕ, ◌<◌, ◌^◌, Bool, true, false, List, [], ◌∷◌, Option, Some, None, refl, ap, subst, ◌∙◌, arith}
use Rattle.std.specs.Prelude.{if◌then◌else◌}
use Rattle.std.specs.Fmt.{decimal}
use Rattle.dns_wire.specs.codes.CodeText.{or_else, type_text, type_of_text}
use Rattle.dns_wire.specs.codes.RecordType.{type_number, type_of}
use Rattle.dns_wire.specs.declared.codes.dns_class.DNSClass.{DNSClass}
use Rattle.dns_wire.specs.declared.codes.record_type.RecordType.{RecordType}
use Rattle.dns_wire.specs.declared.codes.record_type.RecordType.TheVariants as of
use Rattle.dns_text.specs.Lexer.{CharData}
use Rattle.dns_text.specs.Tokens.{IsDatum}
use Rattle.dns_text.specs.Ttl.{time}
use Rattle.dns_fields.proofs.DecimalLaws.{Spelled, spelled}
use Rattle.dns_formats.proofs.TypeLaws.{type_word, type_parses}
use Rattle.dns_data.proofs.PrintedLaws.{time_parses}
use Rattle.dns_zone_file.specs.Fields.{Field, ttl_field, class_field, type_field, begins_with_digit, class_in, ttl_or_bad, type_or_none, word_field}
use Rattle.dns_zone_file.specs.Types.{further_type, type_in}
use Rattle.dns_zone_file.specs.declared.types.Types.TheVariants.{All}

-- ---- types

-- the text of a type is neither a TTL nor a class
record IsNoOther (text : List ℕ) : Type 0 where
  digit : begins_with_digit text ≡ false
  class : class_in All text ≡ None

no_other : (k : RecordType) → IsNoOther (type_text k)
no_other of.A = record { digit = refl; class = refl }
no_other of.NS = record { digit = refl; class = refl }
no_other of.CNAME = record { digit = refl; class = refl }
no_other of.SOA = record { digit = refl; class = refl }
no_other of.NULL = record { digit = refl; class = refl }
no_other of.PTR = record { digit = refl; class = refl }
no_other of.HINFO = record { digit = refl; class = refl }
no_other of.MX = record { digit = refl; class = refl }
no_other of.TXT = record { digit = refl; class = refl }
no_other of.SIG = record { digit = refl; class = refl }
no_other of.KEY = record { digit = refl; class = refl }
no_other of.AAAA = record { digit = refl; class = refl }
no_other of.SRV = record { digit = refl; class = refl }
no_other of.NAPTR = record { digit = refl; class = refl }
no_other of.CERT = record { digit = refl; class = refl }
no_other of.DNAME = record { digit = refl; class = refl }
no_other of.OPT = record { digit = refl; class = refl }
no_other of.DS = record { digit = refl; class = refl }
no_other of.SSHFP = record { digit = refl; class = refl }
no_other of.RRSIG = record { digit = refl; class = refl }
no_other of.NSEC = record { digit = refl; class = refl }
no_other of.DNSKEY = record { digit = refl; class = refl }
no_other of.NSEC3 = record { digit = refl; class = refl }
no_other of.NSEC3PARAM = record { digit = refl; class = refl }
no_other of.TLSA = record { digit = refl; class = refl }
no_other of.SMIMEA = record { digit = refl; class = refl }
no_other of.CDS = record { digit = refl; class = refl }
no_other of.CDNSKEY = record { digit = refl; class = refl }
no_other of.OPENPGPKEY = record { digit = refl; class = refl }
no_other of.CSYNC = record { digit = refl; class = refl }
no_other of.SVCB = record { digit = refl; class = refl }
no_other of.HTTPS = record { digit = refl; class = refl }
no_other of.TSIG = record { digit = refl; class = refl }
no_other of.IXFR = record { digit = refl; class = refl }
no_other of.AXFR = record { digit = refl; class = refl }
no_other of.ANY = record { digit = refl; class = refl }
no_other of.CAA = record { digit = refl; class = refl }
no_other of.ZERO = record { digit = refl; class = refl }
no_other (of.Unknown m) = record { digit = refl; class = refl }

by_parts : (text : List ℕ) (k : RecordType) → IsNoOther text → type_of_text text ≡ Some k → word_field All text ≡ type_field k
by_parts text k is e =
    ap (λ (b : Bool). if b then ttl_or_bad (time text) else after (class_in All text)) is.digit
    ∙ ap after is.class ∙ ap (λ (o : Option RecordType). type_or_none (or_else o (further_type text))) e
  where
    after : Option DNSClass → Field
    after o = elim o [ Some class ↦ class_field class | None ↦ type_or_none (type_in All text) ]

-- the name of a type is a word of data, and the field of the type
pub record IsWordOf (k : RecordType) : Type 0 where
  pub datum : IsDatum (CharData (type_text k))
  pub field : word_field All (type_text k) ≡ type_field k

pub word_of : (k : RecordType) → type_number k < 2 ^ 16 → type_of (type_number k) ≡ k → IsWordOf k
word_of k fits named = record {
  datum = subst (λ (t : RecordType). IsDatum (CharData (type_text t))) named (type_word (type_number k) (omega (arith, fits))).datum;
  field = by_parts (type_text k) k (no_other k)
      (subst (λ (t : RecordType). type_of_text (type_text t) ≡ Some t) named (type_parses (type_number k) (omega (arith, fits))));
}

-- ---- TTLs

digit_first : (n : ℕ) (ds : List ℕ) → Spelled n ds → begins_with_digit ds ≡ true
digit_first n [] s = let some = s.some in absurd (omega arith)
digit_first n (d ∷ ds) s = s.digits.0

pub ttl_is : (n : ℕ) → n < 2 ^ 32 → word_field All (decimal n) ≡ ttl_field n
ttl_is n small =
    pick (begins_with_digit (decimal n)) (ttl_or_bad (time (decimal n))) _ (digit_first n (decimal n) (spelled n (omega (arith, small)))) ∙ ap ttl_or_bad (time_parses n small)
  where
    pick : (b : Bool) (x y : Field) → b ≡ true → (if b then x else y) ≡ x
    pick true x y e = refl
    pick false x y e = absurd (cc)
