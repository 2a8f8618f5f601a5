-- Bytes decode to one header at most, and what decodes is not refused.
use Rattle.std.proofs.Common.{◌≡◌, ℕ, ◌<◌, ◌^◌, List, refl, sym, ap, ◌∙◌}
use Rattle.std.specs.Int.{w16, to_be_bytes}
use Rattle.dns_wire.specs.internal.NumberLaws.{same_bytes, same_number_2, not_short}
use Rattle.dns_wire.specs.declared.error.DecodeError.{DecodeError}
use Rattle.dns_messages.specs.declared.header.Metadata.{Metadata}
use Rattle.dns_messages.specs.declared.header.HeaderCounts.{HeaderCounts}
use Rattle.dns_messages.specs.declared.header.Header.{Header}
use Rattle.dns_messages.specs.Header.{metadata_of, header_layout, DecodesHeader, RefusesHeader}

-- twelve bytes give seven numbers
pub record SameHeader
    (id third fourth queries answers authorities additionals
    id' third' fourth' queries' answers' authorities' additionals' : ℕ) : Type 0 where
  pub ids : id ≡ id'
  pub thirds : third ≡ third'
  pub fourths : fourth ≡ fourth'
  pub queries_same : queries ≡ queries'
  pub answers_same : answers ≡ answers'
  pub authorities_same : authorities ≡ authorities'
  pub additionals_same : additionals ≡ additionals'

module _ (id third fourth queries answers authorities additionals
    id' third' fourth' queries' answers' authorities' additionals' : ℕ) where
  -- headers with the same bytes have the same numbers
  pub header_same : id < 2 ^ 16 → queries < 2 ^ 16 → answers < 2 ^ 16 → authorities < 2 ^ 16 → additionals < 2 ^ 16
      → id' < 2 ^ 16 → queries' < 2 ^ 16 → answers' < 2 ^ 16 → authorities' < 2 ^ 16 → additionals' < 2 ^ 16
      → header_layout id third fourth queries answers authorities additionals
      ≡ header_layout id' third' fourth' queries' answers' authorities' additionals'
      → SameHeader id third fourth queries answers authorities additionals
      id' third' fourth' queries' answers' authorities' additionals'
  header_same i q an au ad i' q' an' au' ad' e =
      let ids : to_be_bytes w16 id ≡ to_be_bytes w16 id' = cc in
      let queries_are : to_be_bytes w16 queries ≡ to_be_bytes w16 queries' = cc in
      let answers_are : to_be_bytes w16 answers ≡ to_be_bytes w16 answers' = cc in
      let authorities_are : to_be_bytes w16 authorities ≡ to_be_bytes w16 authorities' = cc in
      let additionals_are : to_be_bytes w16 additionals ≡ to_be_bytes w16 additionals' = cc in
      record {
        ids = same_number_2 id id' i i' ids;
        thirds = cc;
        fourths = cc;
        queries_same = same_number_2 queries queries' q q' queries_are;
        answers_same = same_number_2 answers answers' an an' answers_are;
        authorities_same = same_number_2 authorities authorities' au au' authorities_are;
        additionals_same = same_number_2 additionals additionals' ad ad' additionals_are;
      }

same_metadata : (a b : Metadata) (third fourth third' fourth' : ℕ) → a ≡ metadata_of a.id third fourth
    → b ≡ metadata_of b.id third' fourth' → a.id ≡ b.id → third ≡ third' → fourth ≡ fourth' → a ≡ b
same_metadata a b third fourth third' fourth' m m' ids thirds fourths =
    m ∙ ap (λ (n : ℕ). metadata_of n third fourth) ids ∙ ap (λ (n : ℕ). metadata_of b.id n fourth) thirds
    ∙ ap (λ (n : ℕ). metadata_of b.id third' n) fourths ∙ sym m'

same_counts : (a b : HeaderCounts) → a.queries ≡ b.queries → a.answers ≡ b.answers → a.authorities ≡ b.authorities
    → a.additionals ≡ b.additionals → a ≡ b
same_counts a b q an au ad =
    ap (λ (n : ℕ). record a { queries = n }) q
    ∙ ap (λ (n : ℕ). record a { queries = b.queries; answers = n }) an
    ∙ ap (λ (n : ℕ). record b { authorities = n; additionals = a.additionals }) au
    ∙ ap (λ (n : ℕ). record b { additionals = n }) ad

-- at most one header, and one end
pub header_unambiguous : (bytes : List ℕ) (place : ℕ) (a b : Header) (end end' : ℕ) → DecodesHeader bytes place a end
    → DecodesHeader bytes place b end' → (a ≡ b) × (end ≡ end')
header_unambiguous bytes place a b end end' r r' =
    let x : List ℕ = header_layout a.metadata.id r.third r.fourth a.counts.queries a.counts.answers a.counts.authorities
    a.counts.additionals in
    let y : List ℕ = header_layout b.metadata.id r'.third r'.fourth b.counts.queries b.counts.answers b.counts.authorities
    b.counts.additionals in
    let both = same_bytes bytes place x y end end' refl r.there r'.there in
    let f = r.counts_fit in
    let f' = r'.counts_fit in
    let s = header_same a.metadata.id r.third r.fourth a.counts.queries a.counts.answers a.counts.authorities
    a.counts.additionals b.metadata.id r'.third r'.fourth b.counts.queries b.counts.answers b.counts.authorities
    b.counts.additionals
    r.id_fits f.queries f.answers f.authorities f.additionals r'.id_fits f'.queries f'.answers f'.authorities f'.additionals
    both.0 in
    let metadata = same_metadata a.metadata b.metadata r.third r.fourth r'.third r'.fourth r.metadata r'.metadata s.ids
    s.thirds s.fourths in
    let counts = same_counts a.counts b.counts s.queries_same s.answers_same s.authorities_same s.additionals_same in (
      ap (λ (m : Metadata). record a { metadata = m }) metadata
          ∙ ap (λ (c : HeaderCounts). record b { counts = c }) counts,
      both.1,
    )

-- what decodes to a header is not refused
pub header_not_refused : (bytes : List ℕ) (place : ℕ) (h : Header) (end : ℕ) (error : DecodeError)
    → DecodesHeader bytes place h end → RefusesHeader bytes place error → ⊥
header_not_refused bytes place h end error r refused =
    not_short bytes place
    (header_layout h.metadata.id r.third r.fourth h.counts.queries h.counts.answers h.counts.authorities
    h.counts.additionals) end r.there refused.1
