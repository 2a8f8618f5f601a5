-- The text of a record type is a word, and is read as the type.
use Rattle.std.proofs.Common.{◌≡◌, ℕ, ◌<◌, ◌^◌, Bool, true, false, ◌||◌, ◌&&◌, List, [], ◌∷◌, ◌++◌, length, Option, Some, None, find, refl, sym, ap, ◌∙◌, arith}
use Rattle.std.specs.Prelude.{◌==◌, nat_le, nat_lt, if◌then◌else◌, codes}
use Rattle.std.specs.Fmt.{decimal}
use Rattle.std.specs.List.{AllByRecursion}
use Rattle.std.specs.Str.{str_eq_ignore_ascii_case}
use Rattle.std.proofs.lemmas.Bool.Decides.{nat_tests}
use Rattle.dns_wire.specs.codes.CodeText.{type_name, named_types, type_text, type_of_text, numbered_type, numbered_text, or_else}
use Rattle.dns_wire.specs.codes.Decimal.{is_digit, decimal_up_to}
use Rattle.dns_wire.specs.codes.RecordType.{type_number, type_of}
use Rattle.dns_wire.specs.declared.codes.record_type.RecordType.{RecordType}
use Rattle.dns_wire.specs.declared.codes.record_type.RecordType.TheVariants as of
use Rattle.dns_fields.specs.bitmaps.TypeWord.{name_among, other_types, type_of_word, name_or_text, word_of_type}
use Rattle.dns_fields.proofs.BitmapsWordLaws.{word_back}
use Rattle.dns_formats.specs.Value.{is_tag}
use Rattle.dns_fields.proofs.DecimalLaws.{spelled, decimal_parses}
use Rattle.dns_formats.proofs.WordLaws.{IsTame, tag_tame, IsPlainWord, tame_word, tag_word}

pub round_trips : (n : ℕ) → type_number (type_of n) ≡ n
round_trips n = grind (arith, nat_tests)

-- ---- words

digits_tame : (ds : List ℕ) → AllByRecursion (λ c. is_digit c ≡ true) ds → AllByRecursion IsTame ds
digits_tame [] all = tt
digits_tame (d ∷ ds) all = (tag_tame d (ap (λ (b : Bool). b || (nat_le 65 d && nat_le d 90 || nat_le 97 d && nat_le d 122)) all.0), digits_tame ds all.1)

numbered_word : (m : ℕ) → m < 2 ^ 64 → IsPlainWord (codes "TYPE" ++ decimal m)
numbered_word m small =
    tame_word (codes "TYPE" ++ decimal m) (omega arith) (tag_tame 84 refl, (tag_tame 89 refl, (tag_tame 80 refl, (tag_tame 69 refl, digits_tame (decimal m) (spelled m small).digits))))

word_of : (k : RecordType) → type_number k < 2 ^ 64 → IsPlainWord (type_text k)
word_of of.A small = tag_word (codes "A") refl
word_of of.NS small = tag_word (codes "NS") refl
word_of of.CNAME small = tag_word (codes "CNAME") refl
word_of of.SOA small = tag_word (codes "SOA") refl
word_of of.NULL small = tag_word (codes "NULL") refl
word_of of.PTR small = tag_word (codes "PTR") refl
word_of of.HINFO small = tag_word (codes "HINFO") refl
word_of of.MX small = tag_word (codes "MX") refl
word_of of.TXT small = tag_word (codes "TXT") refl
word_of of.SIG small = tag_word (codes "SIG") refl
word_of of.KEY small = tag_word (codes "KEY") refl
word_of of.AAAA small = tag_word (codes "AAAA") refl
word_of of.SRV small = tag_word (codes "SRV") refl
word_of of.NAPTR small = tag_word (codes "NAPTR") refl
word_of of.CERT small = tag_word (codes "CERT") refl
word_of of.DNAME small = tag_word (codes "DNAME") refl
word_of of.OPT small = tag_word (codes "OPT") refl
word_of of.DS small = tag_word (codes "DS") refl
word_of of.SSHFP small = tag_word (codes "SSHFP") refl
word_of of.RRSIG small = tag_word (codes "RRSIG") refl
word_of of.NSEC small = tag_word (codes "NSEC") refl
word_of of.DNSKEY small = tag_word (codes "DNSKEY") refl
word_of of.NSEC3 small = tag_word (codes "NSEC3") refl
word_of of.NSEC3PARAM small = tag_word (codes "NSEC3PARAM") refl
word_of of.TLSA small = tag_word (codes "TLSA") refl
word_of of.SMIMEA small = tag_word (codes "SMIMEA") refl
word_of of.CDS small = tag_word (codes "CDS") refl
word_of of.CDNSKEY small = tag_word (codes "CDNSKEY") refl
word_of of.OPENPGPKEY small = tag_word (codes "OPENPGPKEY") refl
word_of of.CSYNC small = tag_word (codes "CSYNC") refl
word_of of.SVCB small = tag_word (codes "SVCB") refl
word_of of.HTTPS small = tag_word (codes "HTTPS") refl
word_of of.TSIG small = tag_word (codes "TSIG") refl
word_of of.IXFR small = tag_word (codes "IXFR") refl
word_of of.AXFR small = tag_word (codes "AXFR") refl
word_of of.ANY small = tag_word (codes "ANY") refl
word_of of.CAA small = tag_word (codes "CAA") refl
word_of of.ZERO small = tag_word (codes "ZERO") refl
word_of (of.Unknown m) small = numbered_word m small

pub type_word : (n : ℕ) → n < 65536 → IsPlainWord (type_text (type_of n))
type_word n small = let same = round_trips n in word_of (type_of n) (omega (arith, same))

-- ---- parsing

no_name : (ds : List ℕ) → find (λ kind. str_eq_ignore_ascii_case (type_name kind) (codes "TYPE" ++ ds)) named_types ≡ None
no_name ds = refl

numbered : (ds : List ℕ) → numbered_text (codes "TYPE") (codes "TYPE" ++ ds) ≡ decimal_up_to 65535 ds
numbered ds = by (nat_lt (length (codes "TYPE" ++ ds)) 4) refl
  where
    by : (b : Bool) → nat_lt (length (codes "TYPE" ++ ds)) 4 ≡ b → (if b then None else decimal_up_to 65535 ds) ≡ decimal_up_to 65535 ds
    by true q = absurd (grind (arith, nat_tests))
    by false q = refl

unknown_parses : (m : ℕ) → m < 65536 → type_of_text (codes "TYPE" ++ decimal m) ≡ Some (type_of m)
unknown_parses m small =
    ap (λ (o : Option RecordType). or_else o (numbered_type (numbered_text (codes "TYPE") (codes "TYPE" ++ decimal m)))) (no_name (decimal m))
    ∙ ap numbered_type (numbered (decimal m) ∙ decimal_parses 65535 m (omega arith) (omega arith))

parses : (k : RecordType) → type_number k < 65536 → type_of (type_number k) ≡ k → type_of_text (type_text k) ≡ Some k
parses of.A small own = refl
parses of.NS small own = refl
parses of.CNAME small own = refl
parses of.SOA small own = refl
parses of.NULL small own = refl
parses of.PTR small own = refl
parses of.HINFO small own = refl
parses of.MX small own = refl
parses of.TXT small own = refl
parses of.SIG small own = refl
parses of.KEY small own = refl
parses of.AAAA small own = refl
parses of.SRV small own = refl
parses of.NAPTR small own = refl
parses of.CERT small own = refl
parses of.DNAME small own = refl
parses of.OPT small own = refl
parses of.DS small own = refl
parses of.SSHFP small own = refl
parses of.RRSIG small own = refl
parses of.NSEC small own = refl
parses of.DNSKEY small own = refl
parses of.NSEC3 small own = refl
parses of.NSEC3PARAM small own = refl
parses of.TLSA small own = refl
parses of.SMIMEA small own = refl
parses of.CDS small own = refl
parses of.CDNSKEY small own = refl
parses of.OPENPGPKEY small own = refl
parses of.CSYNC small own = refl
parses of.SVCB small own = refl
parses of.HTTPS small own = refl
parses of.TSIG small own = refl
parses of.IXFR small own = refl
parses of.AXFR small own = refl
parses of.ANY small own = refl
parses of.CAA small own = refl
parses of.ZERO small own = refl
parses (of.Unknown m) small own = unknown_parses m small ∙ ap (λ (k : RecordType). Some k) own

pub type_parses : (n : ℕ) → n < 65536 → type_of_text (type_text (type_of n)) ≡ Some (type_of n)
type_parses n small = let same = round_trips n in parses (type_of n) (omega (arith, same)) (ap type_of same)

-- ---- words

first_of : (a b : Bool) → (a && b) ≡ true → a ≡ true
first_of true b e = refl
first_of false b e = e

second_of : (a b : Bool) → (a && b) ≡ true → b ≡ true
second_of true b e = e
second_of false b e = absurd (cc)

abbrev are_tags : List (List ℕ × ℕ) → Bool
are_tags [] = true
are_tags (line ∷ lines) = is_tag line.0 && are_tags lines

tags : are_tags other_types ≡ true
tags = refl

name_tag : (lines : List (List ℕ × ℕ)) (number : ℕ) (name : List ℕ) → are_tags lines ≡ true → name_among lines number ≡ Some name → is_tag name ≡ true
name_tag [] number name e q = absurd (cc)
name_tag (line ∷ lines) number name e q = by (line.1 == number) q (λ r. name_tag lines number name (second_of (is_tag line.0) (are_tags lines) e) r)
  where
    same : ◌≡◌ {A = Option (List ℕ)} (Some line.0) (Some name) → line.0 ≡ name
    same r = cc

    by : (b : Bool) → (if b then Some line.0 else name_among lines number) ≡ Some name → (name_among lines number ≡ Some name → is_tag name ≡ true) → is_tag name ≡ true
    by true q rest = ap is_tag (sym (same q)) ∙ first_of (is_tag line.0) (are_tags lines) e
    by false q rest = rest q

-- the word for a type is a plain word
pub word_plain : (n : ℕ) → n < 65536 → IsPlainWord (word_of_type n)
word_plain n small = by (name_among other_types n) refl
  where
    by : (o : Option (List ℕ)) → name_among other_types n ≡ o → IsPlainWord (name_or_text o n)
    by None q = type_word n small
    by (Some name) q = tag_word name (name_tag other_types n name tags q)

-- and is read as the type
pub word_parses : (n : ℕ) → n < 65536 → type_of_word (word_of_type n) ≡ Some (type_of n)
word_parses n small = word_back n (type_parses n small)
