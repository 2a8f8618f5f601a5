use Rattle.std.proofs.Common.{◌≡◌, refl, sym, ap}
use Rattle.std.proofs.lemmas.Result.{err_from_is_err_and}
use Rattle.std.specs.Prelude.{Result, Err}
use Rattle.dns_wire.specs.Decoder.{Decoder}
use Rattle.dns_data.proofs.EarlyLaws.{no_error}
use Rattle.dns_records.proofs.record_head.RecordHead.read_data.Goals as goal

pub returns-clause-read : goal.returns-clause-read
returns-clause-read c = record {
  name = refl;
  dns_class = refl;
  ttl = refl;
  rdata = c.in_ok-rdata.ensures.read;
  ends = sym (ap (λ (d : Decoder). d.index) c.in_ok-rdata.ensures.moved);
}

-- the error of the data is that of the record
same_error : {A B E : Type 0} (a : Result A E) (b : Result B E) (e error : E) → a ≡ Err e → b ≡ Err e → a ≡ Err error → b ≡ Err error
same_error a b e error f g h = cc

pub returns-in_err-rdata-clause-empty : goal.returns-in_err-rdata-clause-empty
returns-in_err-rdata-clause-empty c = λ none. let no = c.in_err-rdata.ensures.empty none in absurd (cc no)

pub returns-in_err-rdata-clause-fixed : goal.returns-in_err-rdata-clause-fixed
returns-in_err-rdata-clause-fixed c =
    let p = err_from_is_err_and c.from_residual.result c.from_residual.ensures.1 in
    rw (p.1, p.2) c.in_err-rdata.ensures.fixed

pub returns-in_err-rdata-clause-fault : goal.returns-in_err-rdata-clause-fault
returns-in_err-rdata-clause-fault c =
    let p = err_from_is_err_and c.from_residual.result c.from_residual.ensures.1 in
    rw (p.1, p.2) (λ error refused. same_error _ _ _ error refl refl (c.in_err-rdata.ensures.fault error refused))

pub returns-in_err-rdata-clause-opaque : goal.returns-in_err-rdata-clause-opaque
returns-in_err-rdata-clause-opaque c =
    let p = err_from_is_err_and c.from_residual.result c.from_residual.ensures.1 in
    rw (p.1, p.2) (λ opaque short. same_error _ _ _ _ refl refl (c.in_err-rdata.ensures.opaque opaque short))

pub returns-clause-fault : goal.returns-clause-fault
returns-clause-fault c = λ error refused. absurd (no_error _ error (c.in_ok-rdata.ensures.fault error refused))

pub returns-clause-opaque : goal.returns-clause-opaque
returns-clause-opaque c = λ opaque short. absurd (no_error _ _ (c.in_ok-rdata.ensures.opaque opaque short))
