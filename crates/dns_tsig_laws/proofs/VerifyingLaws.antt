-- A request that was signed is verified.
use Rattle.std.proofs.Common.{◌≡◌, ◌≤◌, ◌<◌, ◌&&◌, ◌+◌, ◌-◌, ◌*◌, ◌/◌, ◌%◌, ◌^◌, Bool, true, false, cond, ℕ, zero, suc, List, [], ◌∷◌, ◌++◌, length, take, drop, get_or, Some, None, refl, sym, subst, ap, ◌∙◌, arith, length-append, ⊎_elim}
use Rattle.std.proofs.Math.Seq.{drop-append_seam, take-append_seam, take-length}
use Rattle.std.proofs.lemmas.Bool.{le-ltb}
use Rattle.std.proofs.lemmas.Bool.Decides.{nat_tests}
use Rattle.std.proofs.lemmas.List.{drop-drop}
use Rattle.std.proofs.lemmas.List.Elements.{All-head, All-tail}
use Rattle.std.proofs.lemmas.Nat.{be_bytes_2}
use Rattle.std.proofs.lemmas.Slice.Eq.{bytes_eq-Decides}
use Rattle.std.specs.Int.{w16, to_be_bytes}
use Rattle.std.specs.Prelude.{nat_le, nat_lt, ◌==◌, slice_range}
use Rattle.std.specs.Str.{bytes_eq}
use Rattle.md5.specs.Md5.{md5, digest_bytes as md5_bytes}
use Rattle.sha1.specs.Sha1.{sha1, digest_bytes as sha1_bytes}
use Rattle.sha2.specs.Sha256.{sha224, sha256, digest_bytes as sha256_bytes}
use Rattle.sha2.specs.Sha512.{sha384, sha512, digest_bytes as sha512_bytes}
use Rattle.dns_tsig.specs.hmac.Algorithm.{code_len, hash}
use Rattle.dns_tsig.specs.hmac.Hmac.{hmac}
use Rattle.dns_tsig.specs.declared.hmac.algorithm.Algorithm.{Algorithm}
use Rattle.dns_tsig.specs.declared.hmac.algorithm.Algorithm.TheVariants as algorithms
use Rattle.dns_wire.proofs.ReadingLaws.{reads_not_refused, reads_same}
use Rattle.dns_wire.specs.Name.{name_len}
use Rattle.dns_wire.specs.Reading.{ReadsName, RefusesName}
use Rattle.dns_tsig.specs.Covered.{covered, unsigned_message}
use Rattle.dns_tsig.specs.Found.{Finds, IsSignature, IsUnreadable}
use Rattle.dns_tsig.specs.Judge.{is_allowed_len, is_in_time, is_mac_of, judgement, received_text}
use Rattle.dns_tsig.specs.Key.{algorithm_name}
use Rattle.dns_tsig.specs.Layout.{body_layout, end_layout, fields_layout, layout_of, plain_layout}
use Rattle.dns_tsig.specs.Numbers.{number_at}
use Rattle.dns_tsig.specs.Record.{tsig_data, with_record}
use Rattle.dns_tsig.specs.Sign.{IsSigned}
use Rattle.dns_tsig.specs.Skip.{after_fields, after_name, after_questions, after_records, is_tsig}
use Rattle.dns_tsig.specs.Tsig.{tsig_head, tsig_of}
use Rattle.dns_tsig.specs.TsigFields.{TsigFields}
use Rattle.dns_tsig.specs.Verify.{by_key, is_algorithm, is_key_of, verdict_from, verdict_of}
use Rattle.dns_tsig.specs.WireName.{canonical_name}
use Rattle.dns_tsig.specs.declared.covered.Coverage.TheVariants.{Variables}
use Rattle.dns_tsig.specs.declared.found.Found.{Found}
use Rattle.dns_tsig.specs.declared.found.Found.TheVariants as found
use Rattle.dns_tsig.specs.declared.found.Signature.{Signature}
use Rattle.dns_tsig.specs.declared.judge.Judgement.TheVariants as judgements
use Rattle.dns_tsig.specs.declared.key.Key.{Key}
use Rattle.dns_tsig.specs.declared.layout.Layout.TheVariants as layouts
use Rattle.dns_tsig.specs.declared.verify.Verdict.TheVariants as verdicts
use Rattle.dns_tsig_laws.proofs.MoreLaws.{questions_more, records_more}
use Rattle.dns_tsig_laws.proofs.NameLaws.{canonical_length, canonical_lowered, lowered, name_reads, name_skipped}
use Rattle.dns_tsig_laws.proofs.RecordLaws.{AreFields, made, tsig_read}
use Rattle.dns_tsig_laws.specs.Whole.{HaveOtherNames, IsUsable, IsWholeUnsigned}

-- ---- codes

hash_length : (algorithm : Algorithm) (message : List ℕ) → length (hash algorithm message) ≡ code_len algorithm
unfolding md5 md5_bytes sha1 sha1_bytes sha224 sha256 sha256_bytes sha384 sha512 sha512_bytes
hash_length algorithms.Md5 message = refl
hash_length algorithms.Sha1 message = refl
hash_length algorithms.Sha224 message = refl
hash_length algorithms.Sha256 message = refl
hash_length algorithms.Sha384 message = refl
hash_length algorithms.Sha512 message = refl

whole_allowed : (algorithm : Algorithm) → is_allowed_len algorithm (code_len algorithm) ≡ true
whole_allowed algorithms.Md5 = refl
whole_allowed algorithms.Sha1 = refl
whole_allowed algorithms.Sha224 = refl
whole_allowed algorithms.Sha256 = refl
whole_allowed algorithms.Sha384 = refl
whole_allowed algorithms.Sha512 = refl

code_short : (algorithm : Algorithm) → code_len algorithm ≤ 64
code_short algorithms.Md5 = omega arith
code_short algorithms.Sha1 = omega arith
code_short algorithms.Sha224 = omega arith
code_short algorithms.Sha256 = omega arith
code_short algorithms.Sha384 = omega arith
code_short algorithms.Sha512 = omega arith

same_algorithm : (algorithm : Algorithm) → is_algorithm (algorithm_name algorithm) (algorithm_name algorithm) ≡ true
same_algorithm algorithms.Md5 = refl
same_algorithm algorithms.Sha1 = refl
same_algorithm algorithms.Sha224 = refl
same_algorithm algorithms.Sha256 = refl
same_algorithm algorithms.Sha384 = refl
same_algorithm algorithms.Sha512 = refl

same_bytes : (bytes : List ℕ) → bytes_eq bytes bytes ≡ true
same_bytes bytes = (bytes_eq-Decides bytes bytes).1 refl

-- ---- a message by its header

-- A message of at least twelve bytes.
record Headed (message : List ℕ) : Type 0 where
  a0 : ℕ
  a1 : ℕ
  a2 : ℕ
  a3 : ℕ
  a4 : ℕ
  a5 : ℕ
  a6 : ℕ
  a7 : ℕ
  a8 : ℕ
  a9 : ℕ
  a10 : ℕ
  a11 : ℕ
  body : List ℕ
  message_is : message ≡ a0 ∷ a1 ∷ a2 ∷ a3 ∷ a4 ∷ a5 ∷ a6 ∷ a7 ∷ a8 ∷ a9 ∷ a10 ∷ a11 ∷ body

headed : (message : List ℕ) → 12 ≤ length message → Headed message
headed (a0 ∷ a1 ∷ a2 ∷ a3 ∷ a4 ∷ a5 ∷ a6 ∷ a7 ∷ a8 ∷ a9 ∷ a10 ∷ a11 ∷ body) h = record { a0 = a0; a1 = a1; a2 = a2; a3 = a3; a4 = a4; a5 = a5; a6 = a6; a7 = a7; a8 = a8; a9 = a9; a10 = a10; a11 = a11; body = body; message_is = refl }
headed message h = absurd (omega arith)

-- ---- what is found

-- a message ends in one TSIG record, of which these are the labels and the fields
record Ends (message : List ℕ) (place : ℕ) (labels : List (List ℕ)) (tsig : TsigFields) : Type 0 where
  layout : layout_of message ≡ layouts.Signed place
  end : ℕ
  reads : ReadsName message place labels end
  fields : tsig_of (drop end message) ≡ Some tsig

-- what any search finds of it
record Agrees (message : List ℕ) (place : ℕ) (labels : List (List ℕ)) (tsig : TsigFields) (s : Signature) : Type 0 where
  place_is : s.place ≡ place
  name_is : s.name.items ≡ canonical_name labels
  tsig_is : s.tsig ≡ tsig

signature_agrees : (message : List ℕ) (place : ℕ) (labels : List (List ℕ)) (tsig : TsigFields) (s : Signature) → Ends message place labels tsig → IsSignature message s → Agrees message place labels tsig s
signature_agrees message place labels tsig s e i =
    let both : layouts.Signed s.place ≡ layouts.Signed place = sym i.layout ∙ e.layout in
    let place_is : s.place ≡ place = cc in
    let there : ReadsName message place i.owner.labels i.end = subst (λ (p : ℕ). ReadsName message p i.owner.labels i.end) place_is i.owner.reads in
    let same = reads_same there e.reads in
    let tsigs : Some s.tsig ≡ Some tsig = sym i.fields ∙ ap (λ (n : ℕ). tsig_of (drop n message)) same.1 ∙ e.fields in
    record { place_is = place_is; name_is = i.owner.canonical ∙ ap canonical_name same.0; tsig_is = cc }

not_unreadable : (message : List ℕ) (place : ℕ) (labels : List (List ℕ)) (tsig : TsigFields) → Ends message place labels tsig → IsUnreadable message → ⊥
not_unreadable message place labels tsig e u =
    let both : layouts.Signed u.place ≡ layouts.Signed place = sym u.layout ∙ e.layout in
    let place_is : u.place ≡ place = cc in
    ⊎_elim
    (λ none. reads_not_refused e.reads (subst (λ (p : ℕ). RefusesName message p none.fault) place_is none.refused))
    (λ none.
    let there : ReadsName message place none.owner.labels none.end = subst (λ (p : ℕ). ReadsName message p none.owner.labels none.end) place_is none.owner.reads in
    let same = reads_same there e.reads in
    let nothing : None ≡ Some tsig = sym none.refused ∙ ap (λ (n : ℕ). tsig_of (drop n message)) same.1 ∙ e.fields in
    absurd (cc))
    u.fault

-- keys with other names decide nothing
others_passed : (index : ℕ) (earlier keys : List Key) (message : List ℕ) (s : Signature) (now : ℕ) → HaveOtherNames earlier s.name.items
    → verdict_from index (earlier ++ keys) message s now ≡ verdict_from (index + length earlier) keys message s now
others_passed index [] keys message s now h = ap (λ (i : ℕ). verdict_from i keys message s now) (omega arith)
others_passed index (other ∷ earlier) keys message s now h =
    let name : bytes_eq other.name.items s.name.items ≡ false = differ other.name.items s.name.items (All-head (λ key. key.name.items ≡ s.name.items → ⊥) other earlier h) in
    let passed = others_passed (index + 1) earlier keys message s now (All-tail (λ key. key.name.items ≡ s.name.items → ⊥) other earlier h) in
    ap (λ (b : Bool). cond (b && is_algorithm (algorithm_name other.algorithm) s.tsig.algorithm) (by_key index (judgement other [] message s.place s.tsig Variables now)) (verdict_from (index + 1) (earlier ++ keys) message s now)) name
    ∙ passed ∙ ap (λ (i : ℕ). verdict_from i keys message s now) (omega arith)
  where
    differ : (a b : List ℕ) → (a ≡ b → ⊥) → bytes_eq a b ≡ false
    differ a b n = by (bytes_eq a b) refl
      where
        by : (r : Bool) → bytes_eq a b ≡ r → r ≡ false
        by true e = absurd (n ((bytes_eq-Decides a b).0 e))
        by false e = refl

-- the first key with the name has the algorithm, too, and the judgement by it is that of a verified request
first_key : (earlier : List Key) (key : Key) (others : List Key) (message : List ℕ) (now place : ℕ) (labels : List (List ℕ)) (tsig : TsigFields) (s : Signature) → HaveOtherNames earlier key.name.items → key.name.items ≡ canonical_name labels
    → is_algorithm (algorithm_name key.algorithm) tsig.algorithm ≡ true → judgement key [] message place tsig Variables now ≡ judgements.Verified → Agrees message place labels tsig s
    → verdict_of (earlier ++ key ∷ others) message (found.Signed s) now ≡ verdicts.Verified (length earlier)
first_key earlier key others message now place labels tsig s o n a j g =
    let same : s.name.items ≡ key.name.items = g.name_is ∙ sym n in
    let name : bytes_eq key.name.items s.name.items ≡ true = ap (bytes_eq key.name.items) same ∙ same_bytes key.name.items in
    let algorithm : is_algorithm (algorithm_name key.algorithm) s.tsig.algorithm ≡ true = ap (λ (t : TsigFields). is_algorithm (algorithm_name key.algorithm) t.algorithm) g.tsig_is ∙ a in
    let of_key : is_key_of key s ≡ true = ap (λ (b : Bool). b && is_algorithm (algorithm_name key.algorithm) s.tsig.algorithm) name ∙ algorithm in
    let judged : judgement key [] message s.place s.tsig Variables now ≡ judgements.Verified =
    ap (λ (p : ℕ). judgement key [] message p s.tsig Variables now) g.place_is ∙ ap (λ (t : TsigFields). judgement key [] message place t Variables now) g.tsig_is ∙ j in
    others_passed 0 earlier (key ∷ others) message s now (subst (HaveOtherNames earlier) (sym same) o)
    ∙ ap (λ (i : ℕ). verdict_from i (key ∷ others) message s now) (omega arith)
    ∙ ap (λ (b : Bool). cond b (by_key (length earlier) (judgement key [] message s.place s.tsig Variables now)) (verdict_from (length earlier + 1) others message s now)) of_key
    ∙ ap (by_key (length earlier)) judged

found_verified : (earlier : List Key) (key : Key) (others : List Key) (message : List ℕ) (now place : ℕ) (labels : List (List ℕ)) (tsig : TsigFields) → HaveOtherNames earlier key.name.items → Ends message place labels tsig
    → key.name.items ≡ canonical_name labels → is_algorithm (algorithm_name key.algorithm) tsig.algorithm ≡ true → judgement key [] message place tsig Variables now ≡ judgements.Verified
    → (f : Found) → Finds message f → verdict_of (earlier ++ key ∷ others) message f now ≡ verdicts.Verified (length earlier)
found_verified earlier key others message now place labels tsig o e n a j found.Unsigned finds = let l : layouts.Unsigned ≡ layouts.Signed place = sym finds ∙ e.layout in absurd (cc)
found_verified earlier key others message now place labels tsig o e n a j found.Malformed finds =
    ⊎_elim (λ m. let l : layouts.Malformed ≡ layouts.Signed place = sym m ∙ e.layout in absurd (cc)) (λ u. absurd (not_unreadable message place labels tsig e u)) finds
found_verified earlier key others message now place labels tsig o e n a j (found.Signed s) finds = first_key earlier key others message now place labels tsig s o n a j (signature_agrees message place labels tsig s e finds)

-- ---- the judgement

judged_verified : (key : Key) (message : List ℕ) (now place : ℕ) (tsig : TsigFields) → length tsig.mac ≡ code_len key.algorithm
    → tsig.mac ≡ hmac key.algorithm key.secret.items (received_text key [] message place tsig Variables) → is_in_time tsig.time tsig.fudge now ≡ true → key.least_mac ≤ code_len key.algorithm
    → judgement key [] message place tsig Variables now ≡ judgements.Verified
judged_verified key message now place tsig len mac time least =
    let allowed : is_allowed_len key.algorithm (length tsig.mac) ≡ true = ap (is_allowed_len key.algorithm) len ∙ whole_allowed key.algorithm in
    let code : List ℕ = hmac key.algorithm key.secret.items (received_text key [] message place tsig Variables) in
    let all : take (length tsig.mac) code ≡ tsig.mac = ap (take (length tsig.mac)) (sym mac) ∙ take-length tsig.mac in
    let right : is_mac_of code tsig.mac ≡ true = ap (λ (l : List ℕ). bytes_eq l tsig.mac) all ∙ same_bytes tsig.mac in
    let whole : nat_lt (length tsig.mac) key.least_mac ≡ false = le-ltb (length tsig.mac) key.least_mac (omega (arith, len, least)) in
    rw (allowed, right, time, whole)

-- ---- the signed message

-- the number of two bytes
number_bytes : (x y n : ℕ) → x < 256 → y < 256 → n ≡ 256 * x + y → to_be_bytes w16 n ≡ x ∷ y ∷ []
number_bytes x y n h k e = be_bytes_2 (x ∷ y ∷ []) n refl each (omega arith)
  where
    each : (i : ℕ) → get_or (x ∷ y ∷ []) i 0 < 256
    each zero = h
    each (suc zero) = k
    each (suc (suc i)) = omega arith

module _ (a0 a1 a2 a3 a4 a5 a6 a7 a8 a9 a10 a11 : ℕ) (body added : List ℕ) where
  abbrev plain : List ℕ
  plain = a0 ∷ a1 ∷ a2 ∷ a3 ∷ a4 ∷ a5 ∷ a6 ∷ a7 ∷ a8 ∷ a9 ∷ a10 ∷ a11 ∷ body

  -- ARCOUNT, of the plain message and of the one with a record
  abbrev total : ℕ
  total = 256 * a10 + a11

  abbrev longer : List ℕ
  longer = a0 ∷ a1 ∷ a2 ∷ a3 ∷ a4 ∷ a5 ∷ a6 ∷ a7 ∷ a8 ∷ a9 ∷ ((total + 1) / 256) ∷ ((total + 1) % 256) ∷ (body ++ added)

  longer_is : with_record plain added ≡ longer
  longer_is = refl

  longer_total : number_at longer 10 ≡ total + 1
  longer_total = omega arith

  place_there : drop (12 + length body) longer ≡ added
  place_there =
      let twelve : 12 + length body ≡ suc (suc (suc (suc (suc (suc (suc (suc (suc (suc (suc (suc (length body)))))))))))) = omega arith in
      ap (λ (n : ℕ). drop n longer) twelve ∙ drop-append_seam body added

  plain_again : a0 < 256 → a1 < 256 → a10 < 256 → a11 < 256 → unsigned_message longer (12 + length body) (256 * a0 + a1) ≡ plain
  plain_again h0 h1 h10 h11 =
      let id : to_be_bytes w16 (256 * a0 + a1) ≡ a0 ∷ a1 ∷ [] = number_bytes a0 a1 (256 * a0 + a1) h0 h1 refl in
      let less : number_at longer 10 - 1 ≡ total = omega (arith, longer_total) in
      let count : to_be_bytes w16 (number_at longer 10 - 1) ≡ a10 ∷ a11 ∷ [] = number_bytes a10 a11 (number_at longer 10 - 1) h10 h11 less in
      let short : 12 + length body - 12 ≡ length body = omega arith in
      let sections : slice_range longer 12 (12 + length body) ≡ body = ap (λ (n : ℕ). take n (body ++ added)) short ∙ take-append_seam body added in
      ap (λ (l : List ℕ). l ++ (slice_range longer 2 10 ++ (to_be_bytes w16 (number_at longer 10 - 1) ++ slice_range longer 12 (12 + length body)))) id
      ∙ ap (λ (l : List ℕ). a0 ∷ a1 ∷ (slice_range longer 2 10 ++ (l ++ slice_range longer 12 (12 + length body)))) count
      ∙ ap (λ (l : List ℕ). a0 ∷ a1 ∷ a2 ∷ a3 ∷ a4 ∷ a5 ∷ a6 ∷ a7 ∷ a8 ∷ a9 ∷ a10 ∷ a11 ∷ l) sections

  longer_layout : (records fields : List ℕ) → after_questions (256 * a4 + a5) body ≡ Some records → after_records (256 * a6 + a7 + (256 * a8 + a9) + total) records ≡ Some []
      → after_name added ≡ Some fields → is_tsig fields ≡ true → layout_of longer ≡ layouts.Signed (12 + length body)
  longer_layout records fields q r n t =
      let long : nat_lt (length longer) 12 ≡ false = le-ltb (length longer) 12 (omega arith) in
      let some : (number_at longer 10 == 0) ≡ false = grind (arith, nat_tests, longer_total) in
      let left : number_at longer 10 - 1 ≡ total = omega (arith, longer_total) in
      let last : length longer - 12 - length added ≡ length body = omega (arith, length-append body added) in
      ap (λ (b : Bool). cond b layouts.Malformed (body_layout longer (after_questions (256 * a4 + a5) (body ++ added)))) long
      ∙ ap (body_layout longer) (questions_more (256 * a4 + a5) body added records q)
      ∙ ap (λ (b : Bool). cond b (plain_layout (after_records (256 * a6 + a7 + (256 * a8 + a9)) (records ++ added))) (end_layout longer (after_records (256 * a6 + a7 + (256 * a8 + a9) + (number_at longer 10 - 1)) (records ++ added)))) some
      ∙ ap (λ (k : ℕ). end_layout longer (after_records (256 * a6 + a7 + (256 * a8 + a9) + k) (records ++ added))) left
      ∙ ap (end_layout longer) (records_more (256 * a6 + a7 + (256 * a8 + a9) + total) records added [] r)
      ∙ ap (fields_layout longer added) n
      ∙ ap (λ (b : Bool). cond b (layouts.Signed (12 + (length longer - 12 - length added))) (plain_layout (after_fields fields))) t
      ∙ ap (λ (k : ℕ). layouts.Signed (12 + k)) last

-- ---- the request

-- what is after the owner of the record of a request
abbrev fields_of_request : Key → ℕ → List ℕ → ℕ → List ℕ
fields_of_request key time code id =
    let content = tsig_data (algorithm_name key.algorithm) time 300 code id 0 [] in
    tsig_head ++ (to_be_bytes w16 (length content) ++ content)

module _ (earlier : List Key) (key : Key) (others : List Key) (time now : ℕ) (named : HaveOtherNames earlier key.name.items) (usable : IsUsable key) (fits : time < 2 ^ 48) (timely : is_in_time time 300 now ≡ true) where
  plain_verifies : (a0 a1 a2 a3 a4 a5 a6 a7 a8 a9 a10 a11 : ℕ) (body code signed : List ℕ) → IsWholeUnsigned (plain a0 a1 a2 a3 a4 a5 a6 a7 a8 a9 a10 a11 body [])
      → IsSigned key [] (plain a0 a1 a2 a3 a4 a5 a6 a7 a8 a9 a10 a11 body []) Variables time 300 0 [] code signed → (f : Found) → Finds signed f → verdict_of (earlier ++ key ∷ others) signed f now ≡ verdicts.Verified (length earlier)
  plain_verifies a0 a1 a2 a3 a4 a5 a6 a7 a8 a9 a10 a11 body code signed w s =
      let id : ℕ = 256 * a0 + a1 in
      let fields : List ℕ = fields_of_request key time code id in
      let added : List ℕ = key.name.items ++ fields in
      let message : List ℕ = longer a0 a1 a2 a3 a4 a5 a6 a7 a8 a9 a10 a11 body added in
      let place : ℕ = 12 + length body in
      let labels : List (List ℕ) = usable.labels in
      let len : length code ≡ code_len key.algorithm = ap length s.code_is ∙ hash_length key.algorithm _ in
      let h0 : a0 < 256 = w.bytes 0 0 (omega arith) in
      let h1 : a1 < 256 = w.bytes 1 0 (omega arith) in
      let h10 : a10 < 256 = w.bytes 10 0 (omega arith) in
      let h11 : a11 < 256 = w.bytes 11 0 (omega arith) in
      let owned : added ≡ canonical_name labels ++ fields = ap (λ (l : List ℕ). l ++ fields) usable.name_is in
      let skipped : after_name added ≡ Some fields = ap after_name owned ∙ name_skipped labels fields usable.are_labels.each in
      let two : nat_le 2 (length fields) ≡ true = grind (arith, nat_tests) in
      let signs : is_tsig fields ≡ true = ap (λ (b : Bool). b && number_at fields 0 == 250) two in
      let there : drop place message ≡ canonical_name labels ++ fields = place_there a0 a1 a2 a3 a4 a5 a6 a7 a8 a9 a10 a11 body added ∙ owned in
      let known : AreFields time 300 code id 0 [] = record { time_fits = fits; fudge_fits = omega arith; mac_fits = omega (arith, len, code_short key.algorithm); id_fits = omega arith; error_fits = omega arith; other_fits = omega arith } in
      let behind : drop (place + name_len labels) message ≡ fields =
      sym (drop-drop (name_len labels) place message)
      ∙ ap (drop (name_len labels)) there
      ∙ ap (λ (n : ℕ). drop n (canonical_name labels ++ fields)) (sym (canonical_length labels))
      ∙ drop-append_seam (canonical_name labels) fields in
      let tsig : TsigFields = made key.algorithm time 300 code id 0 [] in
      let ends : Ends message place (lowered labels) tsig = record {
        layout = longer_layout a0 a1 a2 a3 a4 a5 a6 a7 a8 a9 a10 a11 body added w.records fields w.questions w.end skipped signs;
        end = place + name_len labels;
        reads = name_reads labels message fields place place 255 usable.are_labels.each there usable.are_labels.fits;
        fields = ap tsig_of behind ∙ tsig_read key.algorithm time 300 code id 0 [] known;
      } in
      let again = plain_again a0 a1 a2 a3 a4 a5 a6 a7 a8 a9 a10 a11 body added h0 h1 h10 h11 in
      let mac : code ≡ hmac key.algorithm key.secret.items (received_text key [] message place tsig Variables) =
      s.code_is ∙ ap (λ (l : List ℕ). hmac key.algorithm key.secret.items (l ++ covered Variables key time 300 0 [])) (sym again) in
      let judged : judgement key [] message place tsig Variables now ≡ judgements.Verified = judged_verified key message now place tsig len mac timely usable.allows in
      subst (λ (bytes : List ℕ). (f : Found) → Finds bytes f → verdict_of (earlier ++ key ∷ others) bytes f now ≡ verdicts.Verified (length earlier)) (sym s.message_is)
      (found_verified earlier key others message now place (lowered labels) tsig named ends (usable.name_is ∙ sym (canonical_lowered labels)) (same_algorithm key.algorithm) judged)

  pub request_verifies : (request code signed : List ℕ) → IsWholeUnsigned request → IsSigned key [] request Variables time 300 0 [] code signed → (f : Found) → Finds signed f → verdict_of (earlier ++ key ∷ others) signed f now ≡ verdicts.Verified (length earlier)
  request_verifies request code signed w s =
      let h = headed request w.header in
      plain_verifies h.a0 h.a1 h.a2 h.a3 h.a4 h.a5 h.a6 h.a7 h.a8 h.a9 h.a10 h.a11 h.body code signed
      (subst IsWholeUnsigned h.message_is w)
      (subst (λ (m : List ℕ). IsSigned key [] m Variables time 300 0 [] code signed) h.message_is s)
