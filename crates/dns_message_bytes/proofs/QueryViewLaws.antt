-- Questions, as they are read in place.
use Rattle.std.proofs.Common.{◌≡◌, ℕ, ◌+◌, ◌<◌, ◌≤◌, ◌^◌, true, List, [], ◌∷◌, ◌++◌, length, drop, refl, sym, ap, subst, ◌∙◌, arith, length-append, length-drop}
use Rattle.std.specs.Int.{w16, to_be_bytes}
use Rattle.dns_wire.specs.codes.RecordType.{type_number, type_of}
use Rattle.dns_wire.specs.codes.DNSClass.{class_number, class_of}
use Rattle.dns_wire.specs.Decoder.{Decoder, rest}
use Rattle.dns_wire.specs.Encodable.{Plain}
use Rattle.dns_wire.specs.Reading.{ReadsName}
use Rattle.dns_wire.specs.declared.error.DecodeError.TheVariants.{InsufficientBytes}
use Rattle.dns_messages.specs.declared.query.Query.{Query}
use Rattle.dns_messages.specs.Grammar.{ReadsQuestion, RefusesQuestion, short_question}
use Rattle.dns_message_bytes.specs.view.QueryView.{IsQueryOf}
use Rattle.dns_message_bytes.specs.declared.view.query_view.QueryView.{QueryView}
use Rattle.dns_message_bytes.proofs.ListLaws.{plain_then}

-- a question with these labels and numbers
abbrev query_with : List (List ℕ) → ℕ → ℕ → Query
query_with labels t k = record { name = record { is_fqdn = true; labels = labels }; query_type = type_of t; query_class = class_of k }

module _ (bytes : List ℕ) (place : ℕ) (labels : List (List ℕ)) (d1 : Decoder) (name : ReadsName bytes place labels d1.index) (same : d1.bytes ≡ bytes) where
  pub no_type : length (rest d1) < 2 → RefusesQuestion bytes place InsufficientBytes
  no_type few = short_question name (omega (arith, few, ap (λ (xs : List ℕ). length (drop d1.index xs)) same))

  pub no_class : (d2 : Decoder) (t : ℕ) → rest d1 ≡ to_be_bytes w16 t ++ rest d2 → length (rest d2) < 2 → RefusesQuestion bytes place InsufficientBytes
  no_class d2 t e few =
      short_question name (omega (arith, few, ap (λ (xs : List ℕ). length (drop d1.index xs)) same, ap (λ (xs : List ℕ). length xs) e, length-append (to_be_bytes w16 t) (rest d2)))

  pub question_found : (view : QueryView) (d2 d3 : Decoder) (t k : ℕ) → type_number (type_of t) ≡ t → class_number (class_of k) ≡ k → t < 2 ^ 16 → k < 2 ^ 16
      → rest d1 ≡ to_be_bytes w16 t ++ rest d2 → rest d2 ≡ to_be_bytes w16 k ++ rest d3 → d3.index ≡ d1.index + 2 + 2
      → IsQueryOf view (query_with labels t k) → (q : Query) × (ReadsQuestion bytes place q d3.index × IsQueryOf view q)
  question_found view d2 d3 t k type_round class_round type_fits class_fits e f ends is =
      let q = query_with labels t k in
      let at : drop d1.index bytes ≡ to_be_bytes w16 (type_number (type_of t)) ++ (to_be_bytes w16 (class_number (class_of k)) ++ rest d3) =
      ap (drop d1.index) (sym same) ∙ e ∙ ap (λ (n : ℕ). to_be_bytes w16 n ++ rest d2) (sym type_round)
      ∙ ap (λ (xs : List ℕ). to_be_bytes w16 (type_number (type_of t)) ++ xs) (f ∙ ap (λ (n : ℕ). to_be_bytes w16 n ++ rest d3) (sym class_round)) in
      let start : d1.index ≤ length bytes = omega (arith, ap (λ (xs : List ℕ). length xs) at, length-drop d1.index bytes) in (
        q,
        (
          record {
            sound = record {
              fqdn = refl;
              type_fits = subst (λ (n : ℕ). n < 2 ^ 16) (sym type_round) type_fits;
              type_named = ap type_of type_round;
              class_fits = subst (λ (n : ℕ). n < 2 ^ 16) (sym class_round) class_fits;
              class_named = ap class_of class_round;
            };
            there = (
              d1.index,
              name,
              plain_then bytes d1.index 2 (to_be_bytes w16 (type_number (type_of t))) _ (Plain (to_be_bytes w16 (class_number (class_of k))) ∷ []) d3.index refl start at (λ h1 w1.
                  plain_then bytes (d1.index + 2) 2 (to_be_bytes w16 (class_number (class_of k))) (rest d3) [] d3.index refl w1 h1 (λ h2 w2. sym ends)),
            );
          },
          is,
        ),
      )
