-- A request that meets the premises of the laws: an update of the zone `t.` that was signed with the key `k.`, by HMAC-MD5 of a secret of
-- four bytes, and is verified by the second of two keys 200 seconds later.
use Rattle.std.proofs.Common.{◌≡◌, ◌≢◌, ◌<◌, ◌^◌, ℕ, List, [], ◌∷◌, length, get_or, refl, ap, arith}
use Rattle.std.proofs.lemmas.List.Elements.{All-cons, All-from_recursion, All-nil}
use Rattle.std.specs.Global.{Global, Vec}
use denote.RawPtr.{null_ptr}
use Rattle.md5.specs.Md5.{block_words, rounds, compress, hash_after, digest_bytes, md5}
use Rattle.dns_tsig.specs.declared.hmac.algorithm.Algorithm.TheVariants.{Md5}
use Rattle.dns_wire.specs.Reading.{at_closing, at_label}
use Rattle.dns_tsig.specs.Found.{IsSignature}
use Rattle.dns_tsig.specs.Sign.{IsSigned}
use Rattle.dns_tsig.specs.TsigFields.{TsigFields}
use Rattle.dns_tsig.specs.Verify.{verdict_of}
use Rattle.dns_tsig.specs.declared.covered.Coverage.TheVariants.{Variables}
use Rattle.dns_tsig.specs.declared.found.Found.TheVariants as found
use Rattle.dns_tsig.specs.declared.found.Signature.{Signature}
use Rattle.dns_tsig.specs.declared.key.Key.{Key}
use Rattle.dns_tsig.specs.declared.verify.Verdict.TheVariants as verdicts
use Rattle.dns_tsig_laws.proofs.SameLaws.{same_signed}
use Rattle.dns_tsig_laws.proofs.VerifyingLaws.{request_verifies}
use Rattle.dns_tsig_laws.specs.Same.{DoFieldsFit, HasRecordAt, IsSameSigned}
use Rattle.dns_tsig_laws.specs.Whole.{HaveOtherNames, IsUsable, IsWholeUnsigned}

abbrev vec : Global → (items : List ℕ) → length items < 2 ^ 63 → Vec ℕ
vec alloc items short = record { ptr = null_ptr; len = length items; cap = length items; alloc = alloc; items = items; ok = (refl, omega arith); small = short }

abbrev pub key : Global → Key
key alloc = record { name = record { items = 1 ∷ 107 ∷ 0 ∷ [] }; algorithm = Md5; secret = vec alloc (1 ∷ 2 ∷ 3 ∷ 4 ∷ []) (omega arith); least_mac = 16 }

-- another key, the first of two
abbrev other_key : Global → Key
other_key alloc = record { name = record { items = 1 ∷ 106 ∷ 0 ∷ [] }; algorithm = Md5; secret = vec alloc (5 ∷ 6 ∷ []) (omega arith); least_mac = 16 }

abbrev request : List ℕ
request = 0 ∷ 7 ∷ 40 ∷ 0 ∷ 0 ∷ 1 ∷ 0 ∷ 0 ∷ 0 ∷ 0 ∷ 0 ∷ 0 ∷ 1 ∷ 116 ∷ 0 ∷ 0 ∷ 6 ∷ 0 ∷ 1 ∷ []

abbrev mac : List ℕ
mac = 38 ∷ 247 ∷ 174 ∷ 138 ∷ 102 ∷ 243 ∷ 195 ∷ 185 ∷ 5 ∷ 138 ∷ 40 ∷ 195 ∷ 40 ∷ 47 ∷ 20 ∷ 181 ∷ []

abbrev signed : List ℕ
signed = 0 ∷ 7 ∷ 40 ∷ 0 ∷ 0 ∷ 1 ∷ 0 ∷ 0 ∷ 0 ∷ 0 ∷ 0 ∷ 1 ∷ 1 ∷ 116 ∷ 0 ∷ 0 ∷ 6 ∷ 0 ∷ 1 ∷ 1 ∷ 107 ∷ 0 ∷ 0 ∷ 250 ∷ 0 ∷ 255 ∷ 0 ∷ 0 ∷ 0 ∷ 0 ∷ 0 ∷ 58 ∷ 8 ∷ 104 ∷ 109 ∷ 97 ∷ 99 ∷ 45 ∷ 109 ∷ 100 ∷ 53 ∷ 7 ∷ 115 ∷ 105 ∷ 103 ∷ 45 ∷ 97 ∷ 108 ∷ 103 ∷ 3 ∷ 114 ∷ 101 ∷ 103 ∷ 3 ∷ 105 ∷ 110 ∷ 116 ∷ 0 ∷ 0 ∷ 0 ∷ 0 ∷ 15 ∷ 66 ∷ 64 ∷ 1 ∷ 44 ∷ 0 ∷ 16 ∷ 38 ∷ 247 ∷ 174 ∷ 138 ∷ 102 ∷ 243 ∷ 195 ∷ 185 ∷ 5 ∷ 138 ∷ 40 ∷ 195 ∷ 40 ∷ 47 ∷ 20 ∷ 181 ∷ 0 ∷ 7 ∷ 0 ∷ 0 ∷ 0 ∷ 0 ∷ []

abbrev fields : TsigFields
fields = record { algorithm = 8 ∷ 104 ∷ 109 ∷ 97 ∷ 99 ∷ 45 ∷ 109 ∷ 100 ∷ 53 ∷ 7 ∷ 115 ∷ 105 ∷ 103 ∷ 45 ∷ 97 ∷ 108 ∷ 103 ∷ 3 ∷ 114 ∷ 101 ∷ 103 ∷ 3 ∷ 105 ∷ 110 ∷ 116 ∷ 0 ∷ []; time = 1000000; fudge = 300; mac = mac; original_id = 7; error = 0; other = [] }

abbrev signature : Signature
signature = record { place = 19; name = record { items = 1 ∷ 107 ∷ 0 ∷ [] }; tsig = fields }

usable : (alloc : Global) → IsUsable (key alloc)
usable alloc = record {
  labels = (107 ∷ []) ∷ [];
  are_labels = record { each = (record { some = omega arith; most = omega arith }, tt); fits = omega arith };
  name_is = refl;
  allows = omega arith;
}

named : (alloc : Global) → HaveOtherNames (other_key alloc ∷ []) (1 ∷ 107 ∷ 0 ∷ [])
named alloc = All-cons (λ k. k.name.items ≢ (1 ∷ 107 ∷ 0 ∷ [])) (other_key alloc) [] (λ e. let differ : 106 ≡ 107 = ap (λ (l : List ℕ). get_or l 1 0) e in absurd (omega arith)) (All-nil (λ k. k.name.items ≢ (1 ∷ 107 ∷ 0 ∷ [])))

whole : IsWholeUnsigned request
whole = record { bytes = All-from_recursion (λ byte. byte < 256) request (omega arith, (omega arith, (omega arith, (omega arith, (omega arith, (omega arith, (omega arith, (omega arith, (omega arith, (omega arith, (omega arith, (omega arith, (omega arith, (omega arith, (omega arith, (omega arith, (omega arith, (omega arith, (omega arith, tt))))))))))))))))))); header = omega arith; records = []; questions = refl; end = refl; room = omega arith }

is_signed : (alloc : Global) → IsSigned (key alloc) [] request Variables 1000000 300 0 [] mac signed
unfolding block_words rounds compress hash_after digest_bytes md5
is_signed alloc = record { code_is = refl; message_is = refl }

found_signature : IsSignature signed signature
found_signature = record {
  layout = refl;
  after_header = omega arith;
  within = omega arith;
  end = 22;
  owner = record { labels = (107 ∷ []) ∷ []; reads = at_label {label = 107 ∷ []} refl (omega arith) (at_closing refl); canonical = refl };
  fields = refl;
}

-- it is verified by the second key
pub verified : (alloc : Global) → verdict_of (other_key alloc ∷ key alloc ∷ []) signed (found.Signed signature) 1000200 ≡ verdicts.Verified 1
verified alloc = request_verifies (other_key alloc ∷ []) (key alloc) [] 1000000 1000200 (named alloc) (usable alloc) (omega arith) refl request mac signed whole (is_signed alloc) (found.Signed signature) found_signature

-- it is the same message as itself
pub same : (alloc : Global) → IsSameSigned signed 19 fields signed 19 fields
same alloc =
    let placed : HasRecordAt signed 19 = record { after_header = omega arith; within = omega arith; counted = omega arith; count_fits = omega arith } in
    let sized : DoFieldsFit fields = record { time = omega arith; fudge = omega arith; original_id = omega arith; error = omega arith } in
    same_signed (key alloc) [] signed signed 19 19 fields fields placed placed sized sized refl refl
