-- Names that are built octet by octet.
use Rattle.std.proofs.Common.{◌≡◌, ℕ, ◌+◌, ◌<◌, ◌≤◌, List, [], ◌∷◌, ◌++◌, length, take, drop, sym, ap, ◌∙◌, append_assoc, arith, length-take, length-drop, length-append}
use Rattle.std.proofs.lemmas.List.{take_all, drop_all}
use Rattle.std.specs.List.{insert}
use Rattle.dns_wire.specs.Name.{name_len, IsLabel}
use Rattle.dns_wire.specs.Writing.{labels_form}
use Rattle.dns_names.specs.internal.Name.{labels_in}
use Rattle.dns_names.specs.internal.Parse.{partial_name, IsPartial}
use Rattle.dns_names.proofs.BuildingLaws.{name_len-append}
use Rattle.dns_names.proofs.WireLaws.{len_is, is_wire, labels_are, form-push, are-append}

module _ (count : ℕ) (bytes : List ℕ) (start : ℕ) (p : IsPartial count bytes start) where
  abbrev front : List ℕ
  front = take start bytes

  abbrev labels : List (List ℕ)
  labels = labels_in count front

  abbrev label : List ℕ
  label = drop start bytes

  pub front_len : length front ≡ start
  front_len = omega (arith, length-take start bytes, p.within)

  pub label_len : start + length label ≡ length bytes
  label_len = omega (arith, length-drop start bytes, p.within)

  pub few_bytes : length bytes < 400
  few_bytes = omega (arith, p.short, front_len, len_is count front p.wire, p.wire.are.fits)

  -- the length of the encoded name, with the current label as its last
  pub partial_len : name_len labels + (length label + 1) ≡ length bytes + 2
  partial_len = omega (arith, len_is count front p.wire, front_len, label_len)

  module _ (new : List ℕ) (end : ℕ) (put : new ≡ insert bytes start (length label)) (all : end ≡ length new) where
    -- the length is put before the label
    form : take end new ≡ labels_form (labels ++ label ∷ [])
    form =
        take_all end new (omega (arith, all)) ∙ put ∙ ap (λ (xs : List ℕ). xs ++ (length label ∷ label)) p.wire.form
        ∙ sym (append_assoc (labels_form labels) (length label ∷ []) label) ∙ sym (form-push labels label)

    many : count + 1 ≡ length (labels ++ label ∷ [])
    many = omega (arith, p.wire.many, length-append labels (label ∷ []))

    -- the current label is completed
    pub completed : 0 < length label → name_len labels + (length label + 1) ≤ 255 → IsPartial (count + 1) new end
    completed some fits =
        let is_label : IsLabel label = record { some = some; most = omega (arith, p.short, label_len) } in
        record {
          wire = is_wire (count + 1) (take end new) (labels ++ label ∷ []) form many (are-append labels (label ∷ []) p.wire.are.each (is_label, tt) (omega (arith, name_len-append labels (label ∷ []), fits)));
          within = omega (arith, all);
          short = omega (arith, all);
        }

    pub completed_name : partial_name (count + 1) new end ≡ record { labels = labels ++ label ∷ []; label = [] }
    completed_name =
        ap (λ (ls : List (List ℕ)). record { labels = ls; label = drop end new }) (labels_are (count + 1) (take end new) (labels ++ label ∷ []) form many)
        ∙ ap (λ (octets : List ℕ). record { labels = labels ++ label ∷ []; label = octets }) (drop_all end new (omega (arith, all)))

  -- all bytes are those of labels, where the current label is empty
  pub all_front : label ≡ [] → bytes ≡ front
  all_front none = sym (take_all start bytes (omega (arith, ap (λ (xs : List ℕ). length xs) none, label_len)))
