-- Requests that are sent whole are not cut, and remain so under another id.
use Rattle.std.proofs.Common.{◌≡◌, ◌+◌, ◌≤◌, ◌<◌, ◌^◌, ℕ, List, [], ◌∷◌, ◌++◌, length, get_or, refl, sym, ap, subst, arith, length-append}
use Rattle.std.specs.Int.{w16, to_be_bytes}
use Rattle.dns_wire.specs.codes.DNSClass.{class_number}
use Rattle.dns_wire.specs.codes.RecordType.{type_number}
use Rattle.dns_wire.specs.Name.{name_len}
use Rattle.dns_wire.specs.Encodable.{Plain, Position, after, start_position}
use Rattle.dns_wire.specs.Items.{all_pieces}
use Rattle.dns_wire.specs.Writing.{whole_form}
use Rattle.dns_wire.proofs.NameLaws.{length-whole_form}
use Rattle.dns_wire.proofs.SectionLaws.{pieces_max_len, reach-most}
use Rattle.dns_messages.specs.declared.query.Query.{Query}
use Rattle.dns_messages.specs.declared.message.Message.{Message}
use Rattle.dns_messages.specs.Cut.{cut, front_reach, header_end, items_len, queries_pieces, query_item, twelve_zeros, uncompressed_len}
use Rattle.dns_messages.specs.Grammar.{ReadsMessage}
use Rattle.dns_messages.specs.Question.{question_pieces}
use Rattle.dns_messages.specs.Sound.{IsSound}
use Rattle.stub_link.specs.Request.{IsQuestion, IsWhole, with_id}

-- questions are longest without compression
queries-most : (s : Position) (qs : List Query) → pieces_max_len (all_pieces query_item s qs) ≡ items_len query_item qs
queries-most s [] = refl
queries-most s (q ∷ qs) =
    let fields : List ℕ = to_be_bytes w16 (type_number q.query_type) ++ (to_be_bytes w16 (class_number q.query_class) ++ []) in
    let first : pieces_max_len (all_pieces query_item s (q ∷ qs)) ≡ name_len q.name.labels + (2 + (2 + pieces_max_len (all_pieces query_item (after s (question_pieces q)) qs))) = refl in
    let whole : items_len query_item (q ∷ qs) ≡ length (whole_form q.name.labels ++ fields) + items_len query_item qs = refl in
    omega (arith, first, whole, queries-most (after s (question_pieces q)) qs, length-append (whole_form q.name.labels) fields, length-whole_form q.name.labels)

-- header and questions are within the limit
pub request-fits : (m : Message) → IsWhole m → front_reach m ≤ 65535
request-fits m w =
    omega (arith, reach-most start_position (Plain twelve_zeros ∷ queries_pieces m), queries-most header_end m.queries, w.fits)

-- a request decodes as itself, since nothing of it is cut
pub request-reads : (bytes : List ℕ) (m : Message) → IsWhole m
    → ((limit : ℕ) (n : Message) → IsSound n → uncompressed_len n ≤ limit → cut limit n ≡ n)
    → (IsSound m → ReadsMessage bytes (cut 65535 m)) → ReadsMessage bytes m
request-reads bytes m w uncut decodes = subst (ReadsMessage bytes) (uncut 65535 m w.sound w.fits) (decodes w.sound)

-- under another id, it still can be asked
pub asks-under : (id : ℕ) (m : Message) (q : Query) → id < 2 ^ 16 → IsQuestion m q → IsQuestion (with_id id m) q
asks-under id m q h a = record {
  whole = record {
    sound = record {
      metadata = record {
        id_fits = h;
        op_fits = a.whole.sound.metadata.op_fits;
        op_named = a.whole.sound.metadata.op_named;
        code_fits = a.whole.sound.metadata.code_fits;
        code_named = a.whole.sound.metadata.code_named;
      };
      queries = a.whole.sound.queries;
      answers = a.whole.sound.answers;
      authorities = a.whole.sound.authorities;
      additionals = a.whole.sound.additionals;
      edns = a.whole.sound.edns;
      extended = a.whole.sound.extended;
      signature = a.whole.sound.signature;
    };
    fits = a.whole.fits;
  };
  kind = a.kind;
  op_code = a.op_code;
  only = a.only;
}

-- a list with exactly one item
pub only-item : {A : Type 0} (xs : List A) (x : A) → 1 ≤ length xs → length xs < 2 → x ≡ get_or xs 0 x → xs ≡ x ∷ []
only-item [] x some few is = absurd (omega arith)
only-item (y ∷ []) x some few is = ap (λ z. z ∷ []) (sym is)
only-item (y ∷ z ∷ ys) x some few is = absurd (omega arith)
