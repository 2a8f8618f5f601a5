-- What pieces are at a place, and which names, types and classes, is known from the bytes there.
use Rattle.std.proofs.Common.{◌≡◌, ℕ, ◌<◌, ◌^◌, Bool, true, List, [], ◌∷◌, length, refl, sym, ap, subst, ◌∙◌}
use Rattle.std.specs.Int.{w16, to_be_bytes}
use Rattle.dns_wire.specs.declared.codes.record_type.RecordType.{RecordType}
use Rattle.dns_wire.specs.declared.codes.dns_class.DNSClass.{DNSClass}
use Rattle.dns_wire.specs.codes.RecordType.{type_number, type_of}
use Rattle.dns_wire.specs.codes.DNSClass.{class_number, class_of}
use Rattle.dns_wire.specs.internal.NumberLaws.{same_bytes, same_number_2}
use Rattle.dns_wire.specs.Encodable.{Piece, Plain, Domain, Whole, PiecesAt}
use Rattle.dns_wire.specs.declared.name_encoding.NameEncoding.TheVariants.{Uncompressed}
use Rattle.dns_wire.proofs.ReadingLaws.{reads_same}
use Rattle.dns_names.specs.Name.{DomainName}

-- ---- pieces

-- both are names, or both plain bytes of the same number
abbrev pub AreLike : List Piece → List Piece → Type 0
AreLike [] [] = Unit {0}
AreLike (Plain a ∷ ps) (Plain b ∷ qs) = (length a ≡ length b) × AreLike ps qs
AreLike (Domain a ∷ ps) (Domain b ∷ qs) = AreLike ps qs
AreLike ps qs = ⊥

pub pieces_same : (buffer : List ℕ) (place end end' : ℕ) (ps qs : List Piece) → AreLike ps qs
    → PiecesAt Uncompressed buffer place ps end → PiecesAt Uncompressed buffer place qs end' → (ps ≡ qs) × (end ≡ end')
pieces_same buffer place end end' [] [] like a b = (refl, sym a ∙ b)
pieces_same buffer place end end' (Plain x ∷ ps) (Plain y ∷ qs) like a b =
    let one = same_bytes buffer place x y a.0 b.0 like.0 a.1 b.1 in
    let more = pieces_same buffer a.0 end end' ps qs like.1 a.2 (subst (λ (n : ℕ). PiecesAt Uncompressed buffer n qs end') (sym one.1) b.2) in
    (ap (λ (xs : List ℕ). Plain xs ∷ ps) one.0 ∙ ap (λ (rs : List Piece). Plain y ∷ rs) more.0, more.1)
pieces_same buffer place end end' (Domain x ∷ ps) (Domain y ∷ qs) like a b =
    let one = reads_same a.1 b.1 in
    let more = pieces_same buffer a.0 end end' ps qs like a.2 (subst (λ (n : ℕ). PiecesAt Uncompressed buffer n qs end') (sym one.1) b.2) in
    (ap (λ (xs : List (List ℕ)). Domain xs ∷ ps) one.0 ∙ ap (λ (rs : List Piece). Domain y ∷ rs) more.0, more.1)
pieces_same buffer place end end' [] (q ∷ qs) like a b = absurd like
pieces_same buffer place end end' (Plain x ∷ ps) [] like a b = absurd like
pieces_same buffer place end end' (Domain x ∷ ps) [] like a b = absurd like
pieces_same buffer place end end' (Plain x ∷ ps) (Domain y ∷ qs) like a b = absurd like
pieces_same buffer place end end' (Domain x ∷ ps) (Plain y ∷ qs) like a b = absurd like
pieces_same buffer place end end' (Plain x ∷ ps) (Whole y ∷ qs) like a b = absurd like
pieces_same buffer place end end' (Domain x ∷ ps) (Whole y ∷ qs) like a b = absurd like
pieces_same buffer place end end' (Whole x ∷ ps) qs like a b = absurd like

-- ---- names, types, classes

pub same_domain : (a b : DomainName) → a.is_fqdn ≡ true → b.is_fqdn ≡ true → a.labels ≡ b.labels → a ≡ b
same_domain a b fqdn fqdn' e = ap (λ (ls : List (List ℕ)). record a { labels = ls }) e
    ∙ ap (λ (f : Bool). record b { is_fqdn = f }) (fqdn ∙ sym fqdn')

pub same_type : (a b : RecordType) → type_number a < 2 ^ 16 → type_number b < 2 ^ 16 → type_of (type_number a) ≡ a
    → type_of (type_number b) ≡ b → to_be_bytes w16 (type_number a) ≡ to_be_bytes w16 (type_number b) → a ≡ b
same_type a b fits fits' named named' e = sym named ∙ ap type_of (same_number_2 (type_number a) (type_number b) fits fits' e)
    ∙ named'

pub same_class : (a b : DNSClass) → class_number a < 2 ^ 16 → class_number b < 2 ^ 16 → class_of (class_number a) ≡ a
    → class_of (class_number b) ≡ b → to_be_bytes w16 (class_number a) ≡ to_be_bytes w16 (class_number b) → a ≡ b
same_class a b fits fits' named named' e = sym named
    ∙ ap class_of (same_number_2 (class_number a) (class_number b) fits fits' e) ∙ named'
