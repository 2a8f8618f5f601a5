-- A message under a limit, section by section.
use Rattle.std.proofs.Common.{◌≡◌, ℕ, ◌+◌, ◌<◌, ◌≤◌, ◌||◌, max, Bool, true, false, cond, ltb, List, [], ◌∷◌, ◌++◌, length, Option, Some, None, Ok, refl, sym, ap, subst, ◌∙◌, append_assoc, arith, length-append}
use Rattle.std.specs.Int.{w16, w32, to_be_bytes}
use Rattle.std.proofs.lemmas.Bool.{ltb-true, ltb-false}
use Rattle.dns_wire.specs.codes.RecordType.{type_number}
use Rattle.dns_wire.specs.codes.DNSClass.{class_number}
use Rattle.dns_wire.specs.Encoder.{EncoderState, IsAtEnd, CanRollBack, put_at}
use Rattle.dns_wire.specs.Encodable.{Piece, Plain, Domain, Position, position_of, name_form, piece_next, form, after, reach, append_pieces, AllBehind, AreWritable, Emits}
use Rattle.dns_wire.specs.Items.{fitting_prefix, all_pieces, fitting_items, fitting_pieces, append_fitting}
use Rattle.dns_wire.specs.internal.Sections.{fitting_form, position_behind}
use Rattle.dns_wire.proofs.PieceLaws.{after-place, form-append, position_of-append_pieces, append_pieces-end, append_pieces-append, can_roll_back-append, can_roll_back-trans}
use Rattle.dns_wire.proofs.ItemLaws.{append_pieces-behind, fitting_prefix-all, can_roll_back-fitting}
use Rattle.dns_wire.proofs.FillLaws.{put_in_front}
use Rattle.dns_wire.proofs.SectionLaws.{after-reach, BetweenSections, next_section, fitting_prefix-reach, fitting_prefix-whole, fitting_prefix-count, position_behind-within, position_behind-place, append_fitting-whole}
use Rattle.dns_data.specs.rdata.{data_type, data_pieces}
use Rattle.dns_records.specs.Record.{Record, data_len}
use Rattle.dns_messages.specs.declared.query.Query.{Query}
use Rattle.dns_messages.specs.declared.edns.Edns.{Edns}
use Rattle.dns_messages.specs.declared.message.Message.{Message}
use Rattle.dns_messages.specs.declared.emit.SectionCounts.{SectionCounts}
use Rattle.dns_messages.specs.declared.header.Header.{Header}
use Rattle.dns_messages.specs.declared.response_code.ResponseCode.{ResponseCode}
use Rattle.dns_messages.specs.Cut.{query_item, record_item, edns_item, listed, fitting_item, written_edns, header_end, queries_pieces, queries_end, answers_end, authorities_end, additionals_end, edns_end, remaining, is_shorter, is_cut, remaining_code, cut, twelve_zeros, front_reach, IsFresh}
use Rattle.dns_messages.specs.Emit.{answers_state, authorities_state, additionals_state, edns_state, signature_state, header_at, section_counts, SectionsAreWritable, some_is_cut, header_code}

-- ---- items that fit

module _ {X : Type 0} (pieces : X → Position → List Piece) where
  pub fitting-some : (limit : ℕ) (s : Position) (xs : List X) → length (fitting_prefix pieces limit s xs) < length xs → limit < reach s (all_pieces pieces s xs)
  fitting-some limit s xs lt = at (ltb limit (reach s (all_pieces pieces s xs))) refl
    where
      at : (b : Bool) → ltb limit (reach s (all_pieces pieces s xs)) ≡ b → limit < reach s (all_pieces pieces s xs)
      at true e = ltb-true _ _ e
      at false e = absurd (omega (arith, lt, ap length (fitting_prefix-reach pieces limit s xs (ltb-false _ _ e))))

  pub fitting-here : (limit : ℕ) (w : EncoderState) (bytes : List ℕ) (s : Position) (xs : List X) → BetweenSections limit w bytes s → fitting_items pieces w xs ≡ fitting_prefix pieces limit s xs
  fitting-here limit w bytes s xs b = ap (λ (t : Position). fitting_prefix pieces w.limit t xs) b.position_is ∙ ap (λ (n : ℕ). fitting_prefix pieces n s xs) b.limit_is

  pub writable-here : (limit : ℕ) (w : EncoderState) (bytes : List ℕ) (s : Position) (xs : List X) → BetweenSections limit w bytes s → AreWritable (fitting_pieces pieces w xs) → AreWritable (all_pieces pieces s (fitting_prefix pieces limit s xs))
  writable-here limit w bytes s xs b is =
      subst (λ (n : ℕ). AreWritable (all_pieces pieces s (fitting_prefix pieces n s xs))) b.limit_is (subst (λ (t : Position). AreWritable (all_pieces pieces t (fitting_prefix pieces w.limit t xs))) b.position_is is)

  pub fitting-one : (limit : ℕ) (s : Position) (found : Option X) → listed (fitting_item pieces limit s found) ≡ fitting_prefix pieces limit s (listed found)
  fitting-one limit s None = refl
  fitting-one limit s (Some x) = at (ltb limit (reach s (pieces x s)))
    where
      at : (b : Bool) → listed (cond b None (Some x)) ≡ cond b [] (x ∷ [])
      at true = refl
      at false = refl

-- ---- the bytes, section by section

abbrev pub bytes0 : List ℕ → Message → List ℕ
bytes0 head m = head ++ form header_end (queries_pieces m)

abbrev pub bytes1 : List ℕ → ℕ → Message → List ℕ
bytes1 head limit m = bytes0 head m ++ fitting_form record_item limit (queries_end m) m.answers

abbrev pub bytes2 : List ℕ → ℕ → Message → List ℕ
bytes2 head limit m = bytes1 head limit m ++ fitting_form record_item limit (answers_end limit m) m.authorities

abbrev pub bytes3 : List ℕ → ℕ → Message → List ℕ
bytes3 head limit m = bytes2 head limit m ++ fitting_form record_item limit (authorities_end limit m) m.additionals

abbrev pub bytes4 : List ℕ → ℕ → Message → List ℕ
bytes4 head limit m = bytes3 head limit m ++ fitting_form edns_item limit (additionals_end limit m) (listed (written_edns m))

abbrev pub bytes5 : List ℕ → ℕ → Message → List ℕ
bytes5 head limit m = bytes4 head limit m ++ fitting_form record_item limit (edns_end limit m) (listed m.signature)

-- all but the header
abbrev pub body : ℕ → Message → List ℕ
body limit m =
    form header_end (queries_pieces m)
    ++ (fitting_form record_item limit (queries_end m) m.answers
    ++ (fitting_form record_item limit (answers_end limit m) m.authorities
    ++ (fitting_form record_item limit (authorities_end limit m) m.additionals
    ++ (fitting_form edns_item limit (additionals_end limit m) (listed (written_edns m))
    ++ fitting_form record_item limit (edns_end limit m) (listed m.signature)))))

regroup : (h q a n d o g : List ℕ) → (((((h ++ q) ++ a) ++ n) ++ d) ++ o) ++ g ≡ h ++ (q ++ (a ++ (n ++ (d ++ (o ++ g)))))
regroup h q a n d o g =
    append_assoc ((((h ++ q) ++ a) ++ n) ++ d) o g ∙ append_assoc (((h ++ q) ++ a) ++ n) d (o ++ g) ∙ append_assoc ((h ++ q) ++ a) n (d ++ (o ++ g)) ∙ append_assoc (h ++ q) a (n ++ (d ++ (o ++ g)))
    ∙ append_assoc h q (a ++ (n ++ (d ++ (o ++ g))))

pub grouped : (head : List ℕ) (limit : ℕ) (m : Message) → bytes5 head limit m ≡ head ++ body limit m
grouped head limit m =
    regroup head (form header_end (queries_pieces m)) (fitting_form record_item limit (queries_end m) m.answers) (fitting_form record_item limit (answers_end limit m) m.authorities) (fitting_form record_item limit (authorities_end limit m) m.additionals)
    (fitting_form edns_item limit (additionals_end limit m) (listed (written_edns m))) (fitting_form record_item limit (edns_end limit m) (listed m.signature))

pub header_filled : (head : List ℕ) (limit : ℕ) (m : Message) → length head ≡ 12 → put_at 0 head (bytes5 twelve_zeros limit m) ≡ head ++ body limit m
header_filled head limit m len = ap (put_at 0 head) (grouped twelve_zeros limit m) ∙ put_in_front 0 [] twelve_zeros head (body limit m) refl (sym len)

-- ---- from a new encoder on

pub fresh-end : (w : EncoderState) → IsFresh w → IsAtEnd w
fresh-end w f = ap (λ (s : Position). s.place) f.position ∙ sym (ap (λ (b : List ℕ). length b) f.bytes)

pub fresh-behind : (w : EncoderState) → IsFresh w → AllBehind (position_of w)
fresh-behind w f = subst AllBehind (sym f.position) tt

pub front-between : (old w : EncoderState) (m : Message) → IsFresh old → w ≡ append_pieces old (Plain twelve_zeros ∷ queries_pieces m) → BetweenSections old.limit w (bytes0 twelve_zeros m) (queries_end m)
front-between old w m f is =
    let ps : List Piece = Plain twelve_zeros ∷ queries_pieces m in
    subst (λ (v : EncoderState). BetweenSections old.limit v (bytes0 twelve_zeros m) (queries_end m)) (sym is)
    (record {
      at_end = append_pieces-end old ps (fresh-end old f);
      behind = append_pieces-behind old ps (fresh-behind old f);
      limit_is = refl;
      bytes_are = ap (λ (b : List ℕ). b ++ form (position_of old) ps) f.bytes ∙ ap (λ (s : Position). form s ps) f.position;
      position_is = position_of-append_pieces old ps ∙ ap (λ (s : Position). after s ps) f.position;
    })

pub front-room : (old : EncoderState) (m : Message) → IsFresh old → reach (position_of old) (Plain twelve_zeros ∷ queries_pieces m) ≤ old.limit → front_reach m ≤ old.limit
front-room old m f room = subst (λ (s : Position). reach s (Plain twelve_zeros ∷ queries_pieces m) ≤ old.limit) f.position room

-- what is refused after pieces at the start can be rolled back to before them
pub fresh-back : (old mid new : EncoderState) (ps : List Piece) → IsFresh old → mid ≡ append_pieces old ps → CanRollBack mid new → CanRollBack old new
fresh-back old mid new ps f wrote back =
    can_roll_back-trans old (append_pieces old ps) new (omega (arith, after-place (position_of old) ps)) (can_roll_back-append old ps (fresh-end old f)) (subst (λ (w : EncoderState). CanRollBack w new) wrote back)

-- a place for the header, and then questions
module _ {w0 w1 : EncoderState} (f : IsFresh w0) (e : Emits w0 (Plain twelve_zeros ∷ []) (Ok tt) w1) (qs : List Query) where
  pub header_end-is : position_of w1 ≡ header_end
  header_end-is = ap position_of e.ok ∙ position_of-append_pieces w0 (Plain twelve_zeros ∷ []) ∙ ap (λ (s : Position). after s (Plain twelve_zeros ∷ [])) f.position

  pub front-end : IsAtEnd w1
  front-end = subst (λ (w : EncoderState). IsAtEnd w) (sym e.ok) (append_pieces-end w0 (Plain twelve_zeros ∷ []) (fresh-end w0 f))

  pub front-behind : AllBehind (position_of w1)
  front-behind = subst AllBehind (sym header_end-is) tt

  -- some questions do not fit
  pub front-back : (w2 : EncoderState) → w2 ≡ append_fitting query_item w1 qs → CanRollBack w0 w2
  front-back w2 wrote = fresh-back w0 w1 w2 (Plain twelve_zeros ∷ []) f e.ok (subst (λ (w : EncoderState). CanRollBack w1 w) (sym wrote) (can_roll_back-fitting query_item w1 qs front-end))

  front-limit : w1.limit ≡ w0.limit
  front-limit = ap (λ (w : EncoderState). w.limit) e.ok

  front-fitting : fitting_items query_item w1 qs ≡ fitting_prefix query_item w0.limit header_end qs
  front-fitting = ap (λ (s : Position). fitting_prefix query_item w1.limit s qs) header_end-is ∙ ap (λ (l : ℕ). fitting_prefix query_item l header_end qs) front-limit

  front-reached : reach (position_of w0) (Plain twelve_zeros ∷ all_pieces query_item header_end qs) ≡ max 12 (reach header_end (all_pieces query_item header_end qs))
  front-reached = ap (λ (s : Position). reach s (Plain twelve_zeros ∷ all_pieces query_item header_end qs)) f.position

  pub front-full : (n len : ℕ) → n ≡ length (fitting_items query_item w1 qs) → len ≡ length qs → n < len → w0.limit < reach (position_of w0) (Plain twelve_zeros ∷ all_pieces query_item header_end qs)
  front-full n len is len_is lt = omega (arith, fitting-some query_item w0.limit header_end qs (omega (arith, is, len_is, lt, ap length front-fitting)), front-reached)

  module _ (n len : ℕ) (is : n ≡ length (fitting_items query_item w1 qs)) (len_is : len ≡ length qs) (le : len ≤ n) where
    front-all : fitting_prefix query_item w0.limit header_end qs ≡ qs
    front-all = fitting_prefix-all query_item w0.limit header_end qs (omega (arith, is, len_is, le, ap length front-fitting))

    pub front-count : n ≡ length qs
    front-count = is ∙ ap length front-fitting ∙ ap length front-all

    front-start : reach (position_of w0) (Plain twelve_zeros ∷ []) ≤ w0.limit
    front-start = e.room

    pub front-fits : reach (position_of w0) (Plain twelve_zeros ∷ all_pieces query_item header_end qs) ≤ w0.limit
    front-fits =
        let zero : (position_of w0).place ≡ 0 = ap (λ (s : Position). s.place) f.position in
        omega (arith, fitting_prefix-whole query_item w0.limit header_end qs front-all, front-reached, front-start, zero)

    front-here : reach (position_of w1) (all_pieces query_item (position_of w1) qs) ≤ w1.limit
    front-here =
        let same : reach (position_of w1) (all_pieces query_item (position_of w1) qs) ≡ reach header_end (all_pieces query_item header_end qs) = ap (λ (s : Position). reach s (all_pieces query_item s qs)) header_end-is in
        omega (arith, same, front-limit, fitting_prefix-whole query_item w0.limit header_end qs front-all)

    pub front-wrote : (w2 : EncoderState) → w2 ≡ append_fitting query_item w1 qs → w2 ≡ append_pieces w0 (Plain twelve_zeros ∷ all_pieces query_item header_end qs)
    front-wrote w2 wrote =
        wrote ∙ append_fitting-whole query_item w1 qs front-here ∙ ap (λ (s : Position). append_pieces w1 (all_pieces query_item s qs)) header_end-is
        ∙ ap (λ (w : EncoderState). append_pieces w (all_pieces query_item header_end qs)) e.ok ∙ append_pieces-append w0 (Plain twelve_zeros ∷ []) (all_pieces query_item header_end qs)

    pub front-writable : AreWritable (fitting_pieces query_item w1 qs) → AreWritable (all_pieces query_item header_end qs)
    front-writable is-writable =
        subst (λ (ys : List Query). AreWritable (all_pieces query_item header_end ys)) front-all
        (subst (λ (l : ℕ). AreWritable (all_pieces query_item header_end (fitting_prefix query_item l header_end qs))) front-limit
        (subst (λ (s : Position). AreWritable (all_pieces query_item s (fitting_prefix query_item w1.limit s qs))) header_end-is is-writable))

-- ---- section by section

-- what fits is writable
pub record Writables (limit : ℕ) (m : Message) : Type 0 where
  pub answers : AreWritable (all_pieces record_item (queries_end m) (remaining limit m).answers)
  pub authorities : AreWritable (all_pieces record_item (answers_end limit m) (remaining limit m).authorities)
  pub additionals : AreWritable (all_pieces record_item (authorities_end limit m) (remaining limit m).additionals)
  pub edns : AreWritable (all_pieces edns_item (additionals_end limit m) (fitting_prefix edns_item limit (additionals_end limit m) (listed (written_edns m))))
  pub signature : AreWritable (all_pieces record_item (edns_end limit m) (fitting_prefix record_item limit (edns_end limit m) (listed m.signature)))

-- as many are written as remain
pub record Counts (limit : ℕ) (m : Message) (k : SectionCounts) : Type 0 where
  pub answers : k.answers.count ≡ length (remaining limit m).answers
  pub authorities : k.authorities.count ≡ length (remaining limit m).authorities
  pub additionals : k.additionals.count ≡ length (remaining limit m).additionals
  pub edns : k.edns.count ≡ length (listed (remaining limit m).edns)
  pub signature : k.signature.count ≡ length (listed (remaining limit m).signature)
  pub cut_is : some_is_cut k ≡ is_cut (remaining limit m) m

listed_len : (m : Message) → length (listed (written_edns m)) ≡ length (listed m.edns)
listed_len m = at m.edns
  where
    at : (found : Option Edns) → length (listed (written_edns (record m { edns = found }))) ≡ length (listed found)
    at None = refl
    at (Some e) = refl

or5-same : {a b c d e a' b' c' d' e' : Bool} → a ≡ a' → b ≡ b' → c ≡ c' → d ≡ d' → e ≡ e' → (a || (b || (c || (d || e)))) ≡ (a' || (b' || (c' || (d' || e'))))
or5-same p q r s t = rw (p, q, r, s, t) refl

module _ (limit : ℕ) (w : EncoderState) (m : Message) (b0 : BetweenSections limit w (bytes0 twelve_zeros m) (queries_end m)) where
  pub between1 : BetweenSections limit (answers_state w m) (bytes1 twelve_zeros limit m) (answers_end limit m)
  between1 = next_section record_item limit w (bytes0 twelve_zeros m) (queries_end m) m.answers b0

  pub between2 : BetweenSections limit (authorities_state w m) (bytes2 twelve_zeros limit m) (authorities_end limit m)
  between2 = next_section record_item limit (answers_state w m) (bytes1 twelve_zeros limit m) (answers_end limit m) m.authorities between1

  pub between3 : BetweenSections limit (additionals_state w m) (bytes3 twelve_zeros limit m) (additionals_end limit m)
  between3 = next_section record_item limit (authorities_state w m) (bytes2 twelve_zeros limit m) (authorities_end limit m) m.additionals between2

  pub between4 : BetweenSections limit (edns_state w m) (bytes4 twelve_zeros limit m) (edns_end limit m)
  between4 = next_section edns_item limit (additionals_state w m) (bytes3 twelve_zeros limit m) (additionals_end limit m) (listed (written_edns m)) between3

  pub between5 : BetweenSections limit (signature_state w m) (bytes5 twelve_zeros limit m) (position_behind record_item limit (edns_end limit m) (listed m.signature))
  between5 = next_section record_item limit (edns_state w m) (bytes4 twelve_zeros limit m) (edns_end limit m) (listed m.signature) between4

  fit1 : fitting_items record_item w m.answers ≡ (remaining limit m).answers
  fit1 = fitting-here record_item limit w (bytes0 twelve_zeros m) (queries_end m) m.answers b0

  fit2 : fitting_items record_item (answers_state w m) m.authorities ≡ (remaining limit m).authorities
  fit2 = fitting-here record_item limit (answers_state w m) (bytes1 twelve_zeros limit m) (answers_end limit m) m.authorities between1

  fit3 : fitting_items record_item (authorities_state w m) m.additionals ≡ (remaining limit m).additionals
  fit3 = fitting-here record_item limit (authorities_state w m) (bytes2 twelve_zeros limit m) (authorities_end limit m) m.additionals between2

  fit4 : fitting_items edns_item (additionals_state w m) (listed (written_edns m)) ≡ listed (remaining limit m).edns
  fit4 = fitting-here edns_item limit (additionals_state w m) (bytes3 twelve_zeros limit m) (additionals_end limit m) (listed (written_edns m)) between3 ∙ sym (fitting-one edns_item limit (additionals_end limit m) (written_edns m))

  fit5 : fitting_items record_item (edns_state w m) (listed m.signature) ≡ listed (remaining limit m).signature
  fit5 = fitting-here record_item limit (edns_state w m) (bytes4 twelve_zeros limit m) (edns_end limit m) (listed m.signature) between4 ∙ sym (fitting-one record_item limit (edns_end limit m) m.signature)

  pub counts : (k : SectionCounts) → k ≡ section_counts w m → Counts limit m k
  counts k is = subst (λ (j : SectionCounts). Counts limit m j) (sym is) (record {
    answers = ap length fit1;
    authorities = ap length fit2;
    additionals = ap length fit3;
    edns = ap length fit4;
    signature = ap length fit5;
    cut_is = or5-same (ap (λ (xs : List Record). is_shorter xs m.answers) fit1) (ap (λ (xs : List Record). is_shorter xs m.authorities) fit2) (ap (λ (xs : List Record). is_shorter xs m.additionals) fit3)
        (ap (λ (xs : List Edns). is_shorter xs (listed (written_edns m))) fit4 ∙ ap (λ (n : ℕ). ltb (length (listed (remaining limit m).edns)) n) (listed_len m)) (ap (λ (xs : List Record). is_shorter xs (listed m.signature)) fit5);
  })

  pub writables : SectionsAreWritable w m → Writables limit m
  writables n = record {
    answers = writable-here record_item limit w (bytes0 twelve_zeros m) (queries_end m) m.answers b0 n.answers;
    authorities = writable-here record_item limit (answers_state w m) (bytes1 twelve_zeros limit m) (answers_end limit m) m.authorities between1 n.authorities;
    additionals = writable-here record_item limit (authorities_state w m) (bytes2 twelve_zeros limit m) (authorities_end limit m) m.additionals between2 n.additionals;
    edns = writable-here edns_item limit (additionals_state w m) (bytes3 twelve_zeros limit m) (additionals_end limit m) (listed (written_edns m)) between3 n.edns;
    signature = writable-here record_item limit (edns_state w m) (bytes4 twelve_zeros limit m) (edns_end limit m) (listed m.signature) between4 n.signature;
  }

-- ---- the header

code-is : (found : Option Edns) (code : ResponseCode) → header_code (length (listed found)) code ≡ remaining_code found code
code-is None code = refl
code-is (Some e) code = refl

-- the header that is written is that of what remains
abbrev pub header_from : Message → ℕ → SectionCounts → Header
header_from m queries k = record {
  metadata = record m.metadata { truncation = m.metadata.truncation || some_is_cut k; response_code = header_code k.edns.count m.metadata.response_code };
  counts = record { queries = queries; answers = k.answers.count; authorities = k.authorities.count; additionals = k.additionals.count + (k.edns.count + k.signature.count) };
}

pub header-is : (limit : ℕ) (m : Message) (queries : ℕ) (k : SectionCounts) → queries ≡ length m.queries → Counts limit m k → header_from m queries k ≡ header_at limit m
header-is limit m queries k is n =
    ap (λ (b : Bool). record (header_from m queries k) { metadata = record m.metadata { truncation = m.metadata.truncation || b; response_code = header_code k.edns.count m.metadata.response_code } }) n.cut_is
    ∙ ap (λ (code : ResponseCode). record (header_from m queries k) { metadata = record (cut limit m).metadata { response_code = code } }) (ap (λ (e : ℕ). header_code e m.metadata.response_code) n.edns ∙ code-is (remaining limit m).edns m.metadata.response_code)
    ∙ counts-are
  where
    at : ℕ → ℕ → ℕ → ℕ → Header
    at q a n d = record { metadata = (cut limit m).metadata; counts = record { queries = q; answers = a; authorities = n; additionals = d } }

    counts-are : record (header_from m queries k) { metadata = (cut limit m).metadata } ≡ header_at limit m
    counts-are = four is n.answers n.authorities (last n.additionals n.edns n.signature)
      where
        four : {q q' a a' n n' d d' : ℕ} → q ≡ q' → a ≡ a' → n ≡ n' → d ≡ d' → at q a n d ≡ at q' a' n' d'
        four e f g h = rw (e, f, g, h) refl

        last : {d d' e e' s s' : ℕ} → d ≡ d' → e ≡ e' → s ≡ s' → d + (e + s) ≡ d' + (e' + s')
        last p q r = omega (arith, p, q, r)

-- ---- few enough to be counted in two bytes

question-some : (q : Query) (s : Position) → 1 ≤ length (form s (query_item q s))
question-some q s =
    let rest : List Piece = Plain (to_be_bytes w16 (type_number q.query_type)) ∷ Plain (to_be_bytes w16 (class_number q.query_class)) ∷ [] in
    let two : length (form (piece_next s (Domain q.name.labels)) rest) ≡ 4 = refl in
    omega (arith, two, length-append (name_form s q.name.labels) (form (piece_next s (Domain q.name.labels)) rest))

record-some : (r : Record) (s : Position) → 1 ≤ length (form s (record_item r s))
record-some r s =
    let next : Position = piece_next s (Domain r.name.labels) in
    let type_bytes : List ℕ = to_be_bytes w16 (type_number (data_type r.rdata)) in
    let rest : List Piece = Plain (to_be_bytes w16 (class_number r.dns_class)) ∷ Plain (to_be_bytes w32 r.ttl) ∷ Plain (to_be_bytes w16 (data_len s r)) ∷ data_pieces s.canonical r.rdata in
    let two : length type_bytes ≡ 2 = refl in
    omega (arith, two, length-append (name_form s r.name.labels) (form next (Plain type_bytes ∷ rest)), length-append type_bytes (form (piece_next next (Plain type_bytes)) rest))

questions-count : (s : Position) (qs : List Query) → length qs ≤ length (form s (all_pieces query_item s qs))
questions-count s [] = omega arith
questions-count s (q ∷ qs) =
    let ps : List Piece = query_item q s in
    let next : Position = after s ps in
    let rest : List Piece = all_pieces query_item next qs in
    omega (arith, questions-count next qs, question-some q s, ap length (form-append s ps rest), length-append (form s ps) (form next rest))

listed-most : {X : Type 0} (found : Option X) → length (listed found) ≤ 1
listed-most None = omega arith
listed-most (Some x) = omega arith

-- no section of what remains has more items than a count can say
pub record Few (limit : ℕ) (m : Message) : Type 0 where
  pub queries_place : (queries_end m).place ≤ limit
  pub queries : length m.queries ≤ limit
  pub answers : length (remaining limit m).answers ≤ limit
  pub authorities : length (remaining limit m).authorities ≤ limit
  pub last : length (remaining limit m).additionals + (length (listed (remaining limit m).edns) + length (listed (remaining limit m).signature)) ≤ limit
  pub answers_place : (answers_end limit m).place ≤ limit
  pub authorities_place : (authorities_end limit m).place ≤ limit
  pub additionals_place : (additionals_end limit m).place ≤ limit
  pub edns_place : (edns_end limit m).place ≤ limit
  pub end : (position_behind record_item limit (edns_end limit m) (listed m.signature)).place ≤ limit

pub few : (limit : ℕ) (m : Message) → front_reach m ≤ limit → Few limit m
few limit m room =
    let start : (queries_end m).place ≡ 12 + length (form header_end (queries_pieces m)) = after-place header_end (queries_pieces m) in
    let p0 : (queries_end m).place ≤ limit = omega (arith, after-reach header_end (queries_pieces m), room) in
    let p1 : (answers_end limit m).place ≤ limit = position_behind-within record_item limit (queries_end m) m.answers p0 in
    let p2 : (authorities_end limit m).place ≤ limit = position_behind-within record_item limit (answers_end limit m) m.authorities p1 in
    let p3 : (additionals_end limit m).place ≤ limit = position_behind-within record_item limit (authorities_end limit m) m.additionals p2 in
    let p4 : (edns_end limit m).place ≤ limit = position_behind-within edns_item limit (additionals_end limit m) (listed (written_edns m)) p3 in
    let g1 = position_behind-place record_item limit (queries_end m) m.answers in
    let g2 = position_behind-place record_item limit (answers_end limit m) m.authorities in
    let n1 = fitting_prefix-count record_item record-some limit (queries_end m) m.answers in
    let n2 = fitting_prefix-count record_item record-some limit (answers_end limit m) m.authorities in
    let n3 = fitting_prefix-count record_item record-some limit (authorities_end limit m) m.additionals in
    record {
      queries_place = p0;
      queries = omega (arith, start, p0, questions-count header_end m.queries);
      answers = omega (arith, n1, p1);
      authorities = omega (arith, n2, p2);
      last = omega (arith, n3, p3, start, g1, g2, listed-most (remaining limit m).edns, listed-most (remaining limit m).signature);
      answers_place = p1;
      authorities_place = p2;
      additionals_place = p3;
      edns_place = p4;
      end = position_behind-within record_item limit (edns_end limit m) (listed m.signature) p4;
    }

-- the bytes end within the limit
pub filled-within : (limit : ℕ) (w : EncoderState) (m : Message) (h : List ℕ) → BetweenSections limit w (bytes5 twelve_zeros limit m) (position_behind record_item limit (edns_end limit m) (listed m.signature)) → Few limit m → length h ≡ 12
    → length (h ++ body limit m) ≤ limit
filled-within limit w m h b f len =
    let grown : length (bytes5 twelve_zeros limit m) ≡ length (twelve_zeros ++ body limit m) = ap length (grouped twelve_zeros limit m) in
    let end : w.offset ≡ (position_behind record_item limit (edns_end limit m) (listed m.signature)).place = ap (λ (s : Position). s.place) b.position_is in
    omega (arith, grown, end, f.end, len, b.at_end, ap length b.bytes_are, length-append h (body limit m), length-append twelve_zeros (body limit m))

-- the names in what fits do not depend on the questions
pub sections-writable : (w : EncoderState) (m : Message) (qs : List Query) → SectionsAreWritable w (record m { queries = qs }) → SectionsAreWritable w m
sections-writable w m qs n = record { answers = n.answers; authorities = n.authorities; additionals = n.additionals; edns = n.edns; signature = n.signature }

-- a message is that of its parts
pub message-same : (m : Message) (qs : List Query) (rs ns ds : List Record) (e : Option Edns) (x : Option Record) → qs ≡ m.queries → rs ≡ m.answers → ns ≡ m.authorities → ds ≡ m.additionals → e ≡ m.edns → x ≡ m.signature
    → record m { queries = qs; answers = rs; authorities = ns; additionals = ds; edns = e; signature = x } ≡ m
message-same m qs rs ns ds e x q a n d o g =
    ap (λ (ys : List Query). record m { queries = ys; answers = rs; authorities = ns; additionals = ds; edns = e; signature = x }) q
    ∙ ap (λ (ys : List Record). record m { answers = ys; authorities = ns; additionals = ds; edns = e; signature = x }) a
    ∙ ap (λ (ys : List Record). record m { authorities = ys; additionals = ds; edns = e; signature = x }) n
    ∙ ap (λ (ys : List Record). record m { additionals = ys; edns = e; signature = x }) d
    ∙ ap (λ (y : Option Edns). record m { edns = y; signature = x }) o
    ∙ ap (λ (y : Option Record). record m { signature = y }) g
