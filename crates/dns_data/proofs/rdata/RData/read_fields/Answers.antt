use Rattle.std.proofs.Common.{◌≡◌, ◌+◌, ◌<◌, [], ◌∷◌, length, drop, None, Err, refl, sym, ap, arith}
use Rattle.std.proofs.lemmas.Result.{err_from_is_err_and}
use Rattle.dns_data.specs.Field.{Strings, Options, Opaque}
use Rattle.dns_data.specs.rdata.{kinds_of_type}
use Rattle.dns_data.proofs.RefusalLaws.{refused_here}
use Rattle.dns_data.proofs.EarlyLaws.{one_error, no_error, read_slow}
use Rattle.dns_data.proofs.TypeLaws.{opaque_kinds}
use Rattle.dns_data.proofs.rdata.RData.read_fields.Goals as goal

pub returns-in_err-rdata-in_default : goal.returns-in_err-rdata-in_default
returns-in_err-rdata-in_default c =
    let p = err_from_is_err_and c.from_residual-in_err-rdata-in_default.result c.from_residual-in_err-rdata-in_default.ensures.1 in
    let old = c.args.decoder.now in
    let d = c.in_default in
    let opaque : kinds_of_type c.args.record_type ≡ Opaque ∷ [] = opaque_kinds c.args.record_type d.not-A d.not-AAAA d.not-CNAME d.not-NS d.not-PTR d.not-MX d.not-SOA d.not-SRV d.not-TXT d.not-OPT in
    rw (p.1, p.2) (record {
      of_type = tt;
      fields = tt;
      read = tt;
      refused = λ other.
          let short = c.in_err-rdata-in_default.ensures.refused other in
          let less : old.index + length (drop old.index old.bytes) < old.index + c.args.len = omega (arith, short.1, c.from.ensures) in
          rw opaque (refused_here old.bytes (old.index + c.args.len) Opaque [] old.index _ (short.0, less));
      early = rw opaque (read_slow old.bytes (old.index + c.args.len) Opaque [] old.index _ refl);
      opaque = λ _ few. ap Err (one_error _ _ refl (c.in_err-rdata-in_default.ensures.short (omega (arith, few, c.from.ensures))));
      bytes = c.in_err-rdata-in_default.ensures.bytes;
    })

pub returns-in_ok-read-in-TXT-clause-early : goal.returns-in_ok-read-in-TXT-clause-early
returns-in_ok-read-in-TXT-clause-early c =
    let old = c.args.decoder.now in
    let kinds : kinds_of_type c.args.record_type ≡ Strings ∷ [] = ap kinds_of_type c.in-TXT.is in
    rw kinds (read_slow old.bytes (old.index + c.args.len) Strings [] old.index None refl)

pub returns-in_ok-read-in-OPT-clause-early : goal.returns-in_ok-read-in-OPT-clause-early
returns-in_ok-read-in-OPT-clause-early c =
    let old = c.args.decoder.now in
    let kinds : kinds_of_type c.args.record_type ≡ Options ∷ [] = ap kinds_of_type c.in-OPT.is in
    rw kinds (read_slow old.bytes (old.index + c.args.len) Options [] old.index None refl)

pub returns-in_ok-rdata-in_default : goal.returns-in_ok-rdata-in_default
returns-in_ok-rdata-in_default c =
    let old = c.args.decoder.now in
    let d = c.in_default in
    let taken = c.in_ok-rdata-in_default.ensures in
    let opaque : kinds_of_type c.args.record_type ≡ Opaque ∷ [] = opaque_kinds c.args.record_type d.not-A d.not-AAAA d.not-CNAME d.not-NS d.not-PTR d.not-MX d.not-SOA d.not-SRV d.not-TXT d.not-OPT in
    record {
      of_type = refl;
      fields = sym opaque;
      read = (c.read_octets.new.decoder.index, (taken.read, omega (arith, taken.read.ends, taken.len, c.from.ensures)), refl);
      refused = tt;
      early = rw opaque (read_slow old.bytes (old.index + c.args.len) Opaque [] old.index None refl);
      opaque = λ _ few. absurd (no_error _ _ (taken.short (omega (arith, few, c.from.ensures))));
      bytes = taken.bytes;
    }
