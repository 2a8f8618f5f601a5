use Rattle.std.proofs.Common.{◌≡◌, ◌∙◌, ℕ, List, sym, ap, subst}
use Rattle.std.proofs.lemmas.Result.{err_from_is_err_and}
use Rattle.std.specs.Prelude.{Result, Ok, Err, IfOk, IfErr, ◌≢◌}
use Rattle.dns_wire.specs.declared.codes.record_type.RecordType.{RecordType}
use Rattle.dns_wire.specs.declared.error.DecodeError.{DecodeError}
use Rattle.dns_wire.specs.declared.error.DecodeError.TheVariants.{Memory}
use Rattle.dns_data.specs.rdata.{data_type, ReadsData}
use Rattle.dns_records.specs.declared.record_head.RecordHead.{RecordHead}
use Rattle.dns_records.specs.RecordHead.{ReadsHead}
use Rattle.dns_records.specs.Record.{Record, head_of, ReadsDataOf, RefusesDataOf, ReadsRecord, RefusesRecord, bad_head, bad_data}
use Rattle.dns_records.proofs.record.Record.read_on.Goals as goal

-- data after a head makes a record
record_read : (bytes : List ℕ) (place data_place end : ℕ) (h : RecordHead) (r : Record) → ReadsHead bytes place h data_place → ReadsDataOf bytes data_place h r end → ReadsRecord bytes place r end
record_read bytes place data_place end h r head d =
    let type_is : data_type r.rdata ≡ h.record_type = d.rdata.of_type ∙ head.type_named in
    let head_is : h ≡ head_of r h.len =
    sym (ap (λ (t : RecordType). record (head_of r h.len) { record_type = t }) type_is
    ∙ ap (λ (n : _). record h { name = n; dns_class = r.dns_class; ttl = r.ttl }) d.name
    ∙ ap (λ (k : _). record h { dns_class = k; ttl = r.ttl }) d.dns_class
    ∙ ap (λ (n : ℕ). record h { ttl = n }) d.ttl) in
    record {
      len = h.len;
      data_place = data_place;
      head = subst (λ (x : RecordHead). ReadsHead bytes place x data_place) head_is head;
      rdata = subst (λ (t : RecordType). ReadsData bytes data_place t h.len r.rdata) (sym type_is) d.rdata;
      ends = d.ends;
    }

pub returns-in_err-head-clause-refused : goal.returns-in_err-head-clause-refused
returns-in_err-head-clause-refused c =
    let p = err_from_is_err_and c.from_residual.result c.from_residual.ensures.1 in
    rw (p.1, p.2) (λ other. bad_head (c.in_err-head.ensures.refused other))

-- what holds of the error of the data holds of that of the record
refused : (result : Result Record DecodeError) (P Q : DecodeError → Type 0) → ((error : DecodeError) → P error → Q error) → IfErr result P → IfErr result Q
refused (Ok r) P Q f h = h
refused (Err error) P Q f h = f error h

pub returns-clause-refused : goal.returns-clause-refused
returns-clause-refused c =
    let d0 = c.args.decoder.now in
    let d1 = c.read.new.decoder in
    let h = c.in_ok-head.head in
    refused c.read_data.result (λ error. error ≢ Memory → RefusesDataOf d1.bytes d1.index h error) (λ error. error ≢ Memory → RefusesRecord d0.bytes d0.index error)
    (λ error refuses other. bad_data h c.in_ok-head.ensures.read (subst (λ (bs : List ℕ). RefusesDataOf bs d1.index h error) c.in_ok-head.ensures.bytes (refuses other)))
    c.read_data.ensures.refused

-- and so is what holds of the data
read : (result : Result Record DecodeError) (P Q : Record → Type 0) → ((r : Record) → P r → Q r) → IfOk result P → IfOk result Q
read (Ok r) P Q f h = f r h
read (Err error) P Q f h = h

pub returns-clause-read : goal.returns-clause-read
returns-clause-read c =
    let d0 = c.args.decoder.now in
    let d1 = c.read.new.decoder in
    let d2 = c.read_data.new.decoder in
    let h = c.in_ok-head.head in
    read c.read_data.result (λ r. ReadsDataOf d1.bytes d1.index h r d2.index) (λ r. ReadsRecord d0.bytes d0.index r d2.index)
    (λ r there. record_read d0.bytes d0.index d1.index d2.index h r c.in_ok-head.ensures.read (subst (λ (bs : List ℕ). ReadsDataOf bs d1.index h r d2.index) c.in_ok-head.ensures.bytes there))
    c.read_data.ensures.read
