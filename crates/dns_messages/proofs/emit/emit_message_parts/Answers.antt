use Rattle.std.proofs.Common.{◌≡◌, ◌≤◌, ◌<◌, ◌++◌, ◌∷◌, ◌∙◌, ℕ, List, [], refl, ap, subst, sym, arith, length}
use Rattle.dns_wire.specs.Encoder.{EncoderState, state_of, put_at}
use Rattle.dns_wire.specs.Place.{place_start}
use Rattle.dns_wire.specs.Encodable.{Plain}
use Rattle.dns_wire.proofs.SectionLaws.{BetweenSections}
use Rattle.dns_wire.proofs.StoredLaws.{on_err}
use Rattle.dns_messages.specs.declared.message.Message.{Message}
use Rattle.dns_messages.specs.declared.emit.SectionCounts.{SectionCounts}
use Rattle.dns_messages.specs.Cut.{header_of, cut, cut_form, front_reach, queries_pieces, queries_end, twelve_zeros}
use Rattle.dns_messages.specs.Header.{encoded_header}
use Rattle.dns_messages.specs.Emit.{message_of, header_at, section_counts, signature_state}
use Rattle.dns_messages.proofs.EmitLaws.{bytes0, body, few, Few, fresh-back, front-between, front-room, counts, Counts, header-is, between5, writables, sections-writable, header_filled, filled-within}
use Rattle.dns_messages.specs.Grammar.{ReadsMessage}
use Rattle.dns_messages.proofs.DecodeLaws.{decodes_again}
use Rattle.dns_messages.proofs.emit.emit_message_parts.Goals as goal
use Rattle.dns_messages.proofs.emit.emit_message_parts.Given.{Over}
use Rattle.dns_messages.proofs.emit.emit_message_parts.Goals.{In_ok-front}

abbrev the_message : (g : Over) → In_ok-front g → Message
the_message g c = message_of c.args.metadata.now (g.Q.EmitAndCount.items c.args.queries.now) (g.A.EmitAndCount.items c.args.answers.now) (g.N.EmitAndCount.items c.args.authorities.now) (g.D.EmitAndCount.items c.args.additionals.now) c.args.edns c.args.signature

begun : (g : Over) (c : In_ok-front g) → BetweenSections (state_of c.args.encoder.now).limit (state_of c.emit_front.new.encoder) (bytes0 twelve_zeros (the_message g c)) (queries_end (the_message g c))
begun g c = front-between (state_of c.args.encoder.now) (state_of c.emit_front.new.encoder) (the_message g c) c.requires.fresh c.in_ok-front.ensures.wrote

room : (g : Over) (c : In_ok-front g) → front_reach (the_message g c) ≤ (state_of c.args.encoder.now).limit
room g c = front-room (state_of c.args.encoder.now) (the_message g c) c.requires.fresh c.in_ok-front.ensures.room

small : (g : Over) (c : In_ok-front g) → (state_of c.args.encoder.now).limit ≤ 65535
small g c = omega (arith, c.args.encoder.now.small)

counted : (g : Over) (c : In_ok-front g) (k : SectionCounts) → k ≡ section_counts (state_of c.emit_front.new.encoder) (the_message g c) → Counts (state_of c.args.encoder.now).limit (the_message g c) k
counted g c k is = counts (state_of c.args.encoder.now).limit (state_of c.emit_front.new.encoder) (the_message g c) (begun g c) k is

fewer : (g : Over) (c : In_ok-front g) → Few (state_of c.args.encoder.now).limit (the_message g c)
fewer g c = few (state_of c.args.encoder.now).limit (the_message g c) (room g c)

pub emit_sections-requires-clause-at_end : goal.emit_sections-requires-clause-at_end
emit_sections-requires-clause-at_end g c = (begun g (goal.at.emit_sections-requires-clause-at_end g c).In_ok-front).at_end

pub emit_sections-requires-clause-behind : goal.emit_sections-requires-clause-behind
emit_sections-requires-clause-behind g c = (begun g (goal.at.emit_sections-requires-clause-behind g c).In_ok-front).behind

pub returns-in_err-counts-clause-back : goal.returns-in_err-counts-clause-back
returns-in_err-counts-clause-back g c =
    let m = the_message g (goal.at.returns-in_err-counts-clause-back g c).In_ok-front in
    on_err _ (fresh-back (state_of c.args.encoder.now) (state_of c.emit_front.new.encoder) (state_of c.emit_sections.new.encoder) (Plain twelve_zeros ∷ queries_pieces m) c.requires.fresh c.in_ok-front.ensures.wrote c.in_err-counts.ensures.back)

pub header-header-requires-clause-queries : goal.header-header-requires-clause-queries
header-header-requires-clause-queries g c =
    let at = (goal.at.header-header-requires-clause-queries g c).In_ok-front in
    omega (arith, (fewer g at).queries, small g at, c.in_ok-front.ensures.count)

pub header-header-requires-clause-answers : goal.header-header-requires-clause-answers
header-header-requires-clause-answers g c =
    let at = (goal.at.header-header-requires-clause-answers g c).In_ok-front in
    omega (arith, (fewer g at).answers, small g at, (counted g at c.in_ok-counts.counts c.in_ok-counts.ensures.count).answers)

pub header-header-requires-clause-authorities : goal.header-header-requires-clause-authorities
header-header-requires-clause-authorities g c =
    let at = (goal.at.header-header-requires-clause-authorities g c).In_ok-front in
    omega (arith, (fewer g at).authorities, small g at, (counted g at c.in_ok-counts.counts c.in_ok-counts.ensures.count).authorities)

pub header-header-requires-clause-additionals : goal.header-header-requires-clause-additionals
header-header-requires-clause-additionals g c =
    let at = (goal.at.header-header-requires-clause-additionals g c).In_ok-front in
    let n = counted g at c.in_ok-counts.counts c.in_ok-counts.ensures.count in
    omega (arith, (fewer g at).last, small g at, n.additionals, n.edns, n.signature)

pub returns-clause-header : goal.returns-clause-header
returns-clause-header g c =
    let at = (goal.at.returns-clause-header g c).In_ok-front in
    c.header-header.ensures ∙ header-is (state_of c.args.encoder.now).limit (the_message g at) c.in_ok-front.front.queries c.in_ok-counts.counts c.in_ok-front.ensures.count (counted g at c.in_ok-counts.counts c.in_ok-counts.ensures.count)

pub returns-clause-bytes : goal.returns-clause-bytes
returns-clause-bytes g c =
    let at = (goal.at.returns-clause-bytes g c).In_ok-front in
    let m = the_message g at in
    let limit : ℕ = (state_of c.args.encoder.now).limit in
    let w1 : EncoderState = state_of c.emit_front.new.encoder in
    let w5 : EncoderState = state_of c.emit_sections.new.encoder in
    let h : List ℕ = encoded_header c.header-header.result in
    let five = between5 limit w1 m (begun g at) in
    let wrote5 : w5 ≡ signature_state w1 m = c.in_ok-counts.ensures.wrote refl in
    let start : place_start c.in_ok-front.front.place ≡ 0 = c.in_ok-front.ensures.start in
    let same : c.header-header.result ≡ header_at limit m = c.header-header.ensures ∙ header-is limit m c.in_ok-front.front.queries c.in_ok-counts.counts c.in_ok-front.ensures.count (counted g at c.in_ok-counts.counts c.in_ok-counts.ensures.count) in
    let head : h ≡ header_of (cut limit m) = ap encoded_header same in
    ap (λ (w : EncoderState). w.bytes) c.in_ok-replace.ensures.ok ∙ ap (λ (place : ℕ). put_at place h w5.bytes) start ∙ ap (λ (w : EncoderState). put_at 0 h w.bytes) wrote5 ∙ ap (put_at 0 h) five.bytes_are ∙ header_filled h limit m refl ∙ ap (λ (b : List ℕ). b ++ body limit m) head

pub returns-clause-within : goal.returns-clause-within
returns-clause-within g c =
    let at = (goal.at.returns-clause-within g c).In_ok-front in
    let m = the_message g at in
    let limit : ℕ = (state_of c.args.encoder.now).limit in
    let w1 : EncoderState = state_of c.emit_front.new.encoder in
    let five = between5 limit w1 m (begun g at) in
    omega (arith, ap length (returns-clause-bytes g c), filled-within limit (signature_state w1 m) m (header_of (cut limit m)) five (fewer g at) refl)

pub returns-clause-decodes : goal.returns-clause-decodes
returns-clause-decodes g c =
    let at = (goal.at.returns-clause-decodes g c).In_ok-front in
    let m = the_message g at in
    let limit : ℕ = (state_of c.args.encoder.now).limit in
    let w1 : EncoderState = state_of c.emit_front.new.encoder in
    let fits : limit < 65536 = omega (arith, small g at) in
    let bytes : (state_of c.replace.new.encoder).bytes ≡ cut_form limit m = returns-clause-bytes g c in
    λ sound. subst (λ (b : List ℕ). ReadsMessage b (cut limit m)) (sym bytes) (decodes_again limit m fits (room g at) c.in_ok-front.ensures.writable (writables limit w1 m (begun g at) (sections-writable w1 m [] (c.in_ok-counts.ensures.writable refl))) sound)
