use Rattle.std.proofs.Common.{◌≡◌, ◌≢◌, ◌∙◌, ℕ, List, None, IfOk, IfErr, sym, subst}
use Rattle.std.specs.Prelude.{Result, Ok, Err}
use Rattle.std.proofs.lemmas.Result.{err_from_is_err_and}
use Rattle.dns_wire.specs.declared.error.DecodeError.{DecodeError}
use Rattle.dns_wire.specs.declared.error.DecodeError.TheVariants.{Memory}
use Rattle.dns_records.specs.Record.{Record, ReadsDataOf, RefusesDataOf, ReadsRecord}
use Rattle.dns_messages.specs.Section.{head_fault, record_fault, RefusesNext, bad_record_head, out_of_place, bad_record_data}
use Rattle.dns_messages.proofs.PlacementLaws.{record_read, fault_after_head}
use Rattle.dns_messages.proofs.section.read_record.Goals as goal

pub returns-in_err-head-clause-refused : goal.returns-in_err-head-clause-refused
returns-in_err-head-clause-refused c =
    let p = err_from_is_err_and c.from_residual.result c.from_residual.ensures.1 in
    rw (p.1, p.2) (λ other. bad_record_head (c.in_err-head.ensures.refused other))

pub returns-in-Some-clause-refused : goal.returns-in-Some-clause-refused
returns-in-Some-clause-refused c = λ other. out_of_place c.in_ok-head.head c.in_ok-head.ensures.read (sym c.head_fault.ensures ∙ c.in-Some.is)

-- what holds of the error of the data holds of that of the record, and so for what is read
refused : (result : Result Record DecodeError) (P Q : DecodeError → Type 0) → ((error : DecodeError) → P error → Q error) → IfErr result P → IfErr result Q
refused (Ok r) P Q f h = h
refused (Err error) P Q f h = f error h

read : (result : Result Record DecodeError) (P Q : Record → Type 0) → ((r : Record) → P r → Q r) → IfOk result P → IfOk result Q
read (Ok r) P Q f h = f r h
read (Err error) P Q f h = h

pub returns-in-None-clause-read : goal.returns-in-None-clause-read
returns-in-None-clause-read c =
    let d0 = c.args.decoder.now in
    let d1 = c.read.new.decoder in
    let d2 = c.read_data.new.decoder in
    let h = c.in_ok-head.head in
    read c.read_data.result (λ r. ReadsDataOf d1.bytes d1.index h r d2.index) (λ r. ReadsRecord d0.bytes d0.index r d2.index)
    (λ r there. record_read d0.bytes d0.index d1.index d2.index h r c.in_ok-head.ensures.read (subst (λ (bs : List ℕ). ReadsDataOf bs d1.index h r d2.index) c.in_ok-head.ensures.bytes there))
    c.read_data.ensures.read

pub returns-in-None-clause-placed : goal.returns-in-None-clause-placed
returns-in-None-clause-placed c =
    let d0 = c.args.decoder.now in
    let d1 = c.read.new.decoder in
    let d2 = c.read_data.new.decoder in
    let h = c.in_ok-head.head in
    let none : head_fault c.args.setting h ≡ None = sym c.head_fault.ensures ∙ c.in-None.is in
    read c.read_data.result (λ r. ReadsDataOf d1.bytes d1.index h r d2.index) (λ r. record_fault c.args.setting r ≡ None)
    (λ r there. fault_after_head d0.bytes d0.index d1.index d2.index c.args.setting h r c.in_ok-head.ensures.read (subst (λ (bs : List ℕ). ReadsDataOf bs d1.index h r d2.index) c.in_ok-head.ensures.bytes there) ∙ none)
    c.read_data.ensures.read

pub returns-in-None-clause-refused : goal.returns-in-None-clause-refused
returns-in-None-clause-refused c =
    let d0 = c.args.decoder.now in
    let d1 = c.read.new.decoder in
    let h = c.in_ok-head.head in
    let none : head_fault c.args.setting h ≡ None = sym c.head_fault.ensures ∙ c.in-None.is in
    refused c.read_data.result (λ error. error ≢ Memory → RefusesDataOf d1.bytes d1.index h error) (λ error. error ≢ Memory → RefusesNext d0.bytes c.args.setting d0.index error)
    (λ error refuses other. bad_record_data h c.in_ok-head.ensures.read none (subst (λ (bs : List ℕ). RefusesDataOf bs d1.index h error) c.in_ok-head.ensures.bytes (refuses other)))
    c.read_data.ensures.refused
