use Rattle.std.proofs.Common.{◌≡◌, ◌≢◌, ℕ, ◌+◌, ◌<◌, ◌^◌, List, length, drop, Some, None, refl, sym, ap, subst, ◌∙◌, arith}
use Rattle.std.proofs.lemmas.Result.{err_from_is_err_and}
use Rattle.dns_wire.specs.codes.RecordType.{type_number, type_of}
use Rattle.dns_wire.specs.Decoder.{Decoder}
use Rattle.dns_wire.specs.declared.error.DecodeError.{DecodeError}
use Rattle.dns_data.specs.declared.rdata.RData.{RData}
use Rattle.dns_data.specs.Field.{Kind}
use Rattle.dns_data.specs.Wire.{ValuesAt, RefusesFields, RefusesValues, refused_field}
use Rattle.dns_data.specs.rdata.{data_kinds, data_values, kinds_of_type}
use Rattle.dns_data.proofs.EarlyLaws.{that_error, no_error, read_there}
use Rattle.dns_data.proofs.LayoutLaws.{values_onward}
use Rattle.dns_data.proofs.DataLaws.{reads_data, wrong_end, reads_empty}
use Rattle.dns_data.proofs.rdata.RData.read.Goals as goal

-- the reader begins where the decoder is
reader_is : (old reader : Decoder) (start : ℕ) → reader ≡ record old { index = start } → start ≡ old.index → reader ≡ old
reader_is old reader start cloned here = cloned ∙ ap (λ (n : ℕ). record old { index = n }) here

values_there : (old reader : Decoder) (len end : ℕ) (d : RData) → reader ≡ old → ValuesAt reader.bytes (reader.index + len) (data_kinds d) reader.index (data_values d) end → ValuesAt old.bytes (old.index + len) (data_kinds d) old.index (data_values d) end
values_there old reader len end d same h = subst (λ (r : Decoder). ValuesAt r.bytes (r.index + len) (data_kinds d) r.index (data_values d) end) same h

refused_there : (old reader : Decoder) (len : ℕ) (kinds kinds' : List Kind) (error : DecodeError) → reader ≡ old → kinds ≡ kinds' → RefusesFields reader.bytes (reader.index + len) kinds reader.index error → RefusesValues old.bytes (old.index + len) kinds' old.index error
refused_there old reader len kinds kinds' error same same_kinds h =
    refused_field (subst (λ (ks : List Kind). RefusesFields old.bytes (old.index + len) ks old.index error) same_kinds (subst (λ (r : Decoder). RefusesFields r.bytes (r.index + len) kinds r.index error) same h))

pub returns-then-len-eq0-clause-read : goal.returns-then-len-eq0-clause-read
returns-then-len-eq0-clause-read c =
    let old = c.args.decoder.now in
    let t = c.args.record_type in
    let fits : type_number t < 2 ^ 16 = omega (arith, c.from.ensures, c.from.type_inv) in
    let none = reads_empty c.from-named_type.result t old.bytes old.index fits (c.type_number_round_trips.ensures (type_number t)) ((c.from-named_type.ensures ∙ ap type_of c.from.ensures)) in
    rw (c.empty.ensures, c.if-len-eq0.true) none

pub returns-in_err-rdata-clause-refused : goal.returns-in_err-rdata-clause-refused
returns-in_err-rdata-clause-refused c =
    let p = err_from_is_err_and c.from_residual.result c.from_residual.ensures.1 in
    let old = c.args.decoder.now in
    let some : 0 < c.args.len = omega (arith, c.if-len-eq0.false) in
    let reader = reader_is old c.clone-reader.result c.index-start.result c.clone-reader.ensures c.index-start.ensures.value in
    let named = c.from-named_type.ensures ∙ ap type_of c.from.ensures in
    rw (p.1, p.2) (λ other.
    (some, refused_there old c.clone-reader.result c.args.len (kinds_of_type c.from-named_type.result) (kinds_of_type (type_of (type_number c.args.record_type))) _ reader (ap kinds_of_type named) (c.in_err-rdata.ensures.refused other)))

pub overflow_sub-index : goal.overflow_sub-index
overflow_sub-index c =
    let old = c.args.decoder.now in
    omega (arith, values_onward old.bytes (old.index + c.args.len) (data_kinds c.in_ok-rdata.rdata) old.index (data_values c.in_ok-rdata.rdata) c.read_fields.new.decoder.index (values_there c.args.decoder.now c.clone-reader.result c.args.len c.read_fields.new.decoder.index c.in_ok-rdata.rdata (reader_is c.args.decoder.now c.clone-reader.result c.index-start.result c.clone-reader.ensures c.index-start.ensures.value) c.in_ok-rdata.ensures.read), c.index-start.ensures.value, c.index.ensures.value)

pub returns-then-index-start-clause-refused : goal.returns-then-index-start-clause-refused
returns-then-index-start-clause-refused c = λ other.
    let old = c.args.decoder.now in
    let end = c.read_fields.new.decoder.index in
    let some : 0 < c.args.len = omega (arith, c.if-len-eq0.false) in
    let kinds : data_kinds c.in_ok-rdata.rdata ≡ kinds_of_type (type_of (type_number c.args.record_type)) = c.in_ok-rdata.ensures.fields ∙ ap kinds_of_type ((c.from-named_type.ensures ∙ ap type_of c.from.ensures)) in
    let wrong : end ≢ old.index + c.args.len = λ e. c.if-index-start.true (omega (arith, e, c.index.ensures.value, c.index-start.ensures.value, c.from-2.ensures)) in
    (some, wrong_end old.bytes old.index c.args.len (kinds_of_type (type_of (type_number c.args.record_type))) c.in_ok-rdata.rdata end kinds (values_there c.args.decoder.now c.clone-reader.result c.args.len c.read_fields.new.decoder.index c.in_ok-rdata.rdata (reader_is c.args.decoder.now c.clone-reader.result c.index-start.result c.clone-reader.ensures c.index-start.ensures.value) c.in_ok-rdata.ensures.read) wrong)

pub returns-clause-read : goal.returns-clause-read
returns-clause-read c =
    let old = c.args.decoder.now in
    let t = c.args.record_type in
    let d = c.in_ok-rdata.rdata in
    let end = c.read_fields.new.decoder.index in
    let named = (c.from-named_type.ensures ∙ ap type_of c.from.ensures) in
    let there = values_there c.args.decoder.now c.clone-reader.result c.args.len c.read_fields.new.decoder.index c.in_ok-rdata.rdata (reader_is c.args.decoder.now c.clone-reader.result c.index-start.result c.clone-reader.ensures c.index-start.ensures.value) c.in_ok-rdata.ensures.read in
    let fits : type_number t < 2 ^ 16 = omega (arith, c.from.ensures, c.from.type_inv) in
    let some : 0 < c.args.len = omega (arith, c.if-len-eq0.false) in
    let all : end ≡ old.index + c.args.len = omega (arith, c.if-index-start.false, c.index.ensures.value, c.index-start.ensures.value, c.from-2.ensures, values_onward old.bytes (old.index + c.args.len) (data_kinds d) old.index (data_values d) end there) in
    reads_data old.bytes old.index c.args.len t d end fits (c.type_number_round_trips.ensures (type_number t)) (c.in_ok-rdata.ensures.of_type ∙ named) (c.in_ok-rdata.ensures.fields ∙ ap kinds_of_type named) some c.ranges.len.fits all there

pub returns-then-len-eq0-clause-fault : goal.returns-then-len-eq0-clause-fault
returns-then-len-eq0-clause-fault c = λ error refused. absurd (omega (arith, refused.0, c.if-len-eq0.true))

pub returns-then-len-eq0-clause-opaque : goal.returns-then-len-eq0-clause-opaque
returns-then-len-eq0-clause-opaque c = λ _ short. absurd (omega (arith, short, c.if-len-eq0.true))

pub returns-in_err-rdata-clause-fixed : goal.returns-in_err-rdata-clause-fixed
returns-in_err-rdata-clause-fixed c =
    let p = err_from_is_err_and c.from_residual.result c.from_residual.ensures.1 in
    let old = c.args.decoder.now in
    let reader = reader_is old c.clone-reader.result c.index-start.result c.clone-reader.ensures c.index-start.ensures.value in
    let named = c.from-named_type.ensures ∙ ap type_of c.from.ensures in
    let early = read_there old c.clone-reader.result c.args.len (kinds_of_type c.from-named_type.result) (kinds_of_type (type_of (type_number c.args.record_type))) _ reader (ap kinds_of_type named) c.in_err-rdata.ensures.early in
    rw (p.1, p.2) (λ fixed memory. early.fixed fixed (ap Some memory))

pub returns-in_err-rdata-clause-fault : goal.returns-in_err-rdata-clause-fault
returns-in_err-rdata-clause-fault c =
    let p = err_from_is_err_and c.from_residual.result c.from_residual.ensures.1 in
    let old = c.args.decoder.now in
    let reader = reader_is old c.clone-reader.result c.index-start.result c.clone-reader.ensures c.index-start.ensures.value in
    let named = c.from-named_type.ensures ∙ ap type_of c.from.ensures in
    let early = read_there old c.clone-reader.result c.args.len (kinds_of_type c.from-named_type.result) (kinds_of_type (type_of (type_number c.args.record_type))) _ reader (ap kinds_of_type named) c.in_err-rdata.ensures.early in
    rw (p.1, p.2) (λ error refused. that_error _ _ error refl (early.fault error refused.1))

pub returns-in_err-rdata-clause-opaque : goal.returns-in_err-rdata-clause-opaque
returns-in_err-rdata-clause-opaque c =
    let p = err_from_is_err_and c.from_residual.result c.from_residual.ensures.1 in
    let old = c.args.decoder.now in
    let reader = reader_is old c.clone-reader.result c.index-start.result c.clone-reader.ensures c.index-start.ensures.value in
    let named = c.from-named_type.ensures ∙ ap type_of c.from.ensures in
    rw (p.1, p.2) (λ opaque short.
    c.in_err-rdata.ensures.opaque (ap kinds_of_type named ∙ opaque) (subst (λ (d : Decoder). length (drop d.index d.bytes) < c.args.len) (sym reader) short))

-- data whose fields are read has no early fault
pub returns-then-index-start-clause-fault : goal.returns-then-index-start-clause-fault
returns-then-index-start-clause-fault c = λ error refused.
    let old = c.args.decoder.now in
    let reader = reader_is old c.clone-reader.result c.index-start.result c.clone-reader.ensures c.index-start.ensures.value in
    let named = c.from-named_type.ensures ∙ ap type_of c.from.ensures in
    let early = read_there old c.clone-reader.result c.args.len (kinds_of_type c.from-named_type.result) (kinds_of_type (type_of (type_number c.args.record_type))) None reader (ap kinds_of_type named) c.in_ok-rdata.ensures.early in
    let none = early.fault error refused.1 in
    absurd (cc none)

pub returns-then-index-start-clause-opaque : goal.returns-then-index-start-clause-opaque
returns-then-index-start-clause-opaque c = λ opaque short.
    let old = c.args.decoder.now in
    let reader = reader_is old c.clone-reader.result c.index-start.result c.clone-reader.ensures c.index-start.ensures.value in
    let named = c.from-named_type.ensures ∙ ap type_of c.from.ensures in
    absurd (no_error _ _ (c.in_ok-rdata.ensures.opaque (ap kinds_of_type named ∙ opaque) (subst (λ (d : Decoder). length (drop d.index d.bytes) < c.args.len) (sym reader) short)))

pub returns-clause-fault : goal.returns-clause-fault
returns-clause-fault c = λ error refused.
    let old = c.args.decoder.now in
    let reader = reader_is old c.clone-reader.result c.index-start.result c.clone-reader.ensures c.index-start.ensures.value in
    let named = c.from-named_type.ensures ∙ ap type_of c.from.ensures in
    let early = read_there old c.clone-reader.result c.args.len (kinds_of_type c.from-named_type.result) (kinds_of_type (type_of (type_number c.args.record_type))) None reader (ap kinds_of_type named) c.in_ok-rdata.ensures.early in
    let none = early.fault error refused.1 in
    absurd (cc none)

pub returns-clause-opaque : goal.returns-clause-opaque
returns-clause-opaque c = λ opaque short.
    let old = c.args.decoder.now in
    let reader = reader_is old c.clone-reader.result c.index-start.result c.clone-reader.ensures c.index-start.ensures.value in
    let named = c.from-named_type.ensures ∙ ap type_of c.from.ensures in
    absurd (no_error _ _ (c.in_ok-rdata.ensures.opaque (ap kinds_of_type named ∙ opaque) (subst (λ (d : Decoder). length (drop d.index d.bytes) < c.args.len) (sym reader) short)))
