use Rattle.std.proofs.Common.{◌≡◌, ◌∙◌, ◌==◌, ◌+◌, ◌<◌, ◌≤◌, Bool, true, false, cond, ◌++◌, refl, sym, ap, arith, Some, None, Ok, Err}
use Rattle.std.proofs.lemmas.Bool.Decides.{nat_tests}
use Rattle.dns_wire.specs.Name.{name_len}
use Rattle.dns_names.specs.Build.{append_name}
use Rattle.dns_names.specs.Labels.{num_labels}
use Rattle.dns_names.specs.Name.{DomainName}
use Rattle.dns_names.specs.declared.error.ParseError.TheVariants.{DomainNameTooLong}
use Rattle.dns_names.proofs.BuildingLaws.{name_len-append, fits, overflows}
use Rattle.dns_zone_file.specs.Fields.{if_ok}
use Rattle.zone_lines.specs.warnings.Names.{doubled_origin}
use Rattle.zone_lines.proofs.warnings.names.doubled_origin.Goals as goal

abbrev twice : DomainName → DomainName
twice origin = record { is_fqdn = origin.is_fqdn; labels = origin.labels ++ origin.labels }

-- the origin twice is a name
made : (origin : DomainName) → name_len origin.labels + name_len origin.labels ≤ 256 → append_name origin origin ≡ Ok (twice origin)
made origin short = fits origin origin.labels (omega (arith, name_len-append origin.labels origin.labels, short))

-- it is not, if it is too long
too_long : (origin : DomainName) → 256 < name_len origin.labels + name_len origin.labels → None ≡ doubled_origin origin
too_long origin long = by (num_labels origin.labels == 0)
  where
    refused : append_name origin origin ≡ Err DomainNameTooLong
    refused = overflows origin origin.labels (omega (arith, name_len-append origin.labels origin.labels, long))

    by : (b : Bool) → None ≡ cond b None (if_ok (append_name origin origin))
    by true = refl
    by false = sym (ap if_ok refused)

has_double : (origin : DomainName) → 0 < num_labels origin.labels → name_len origin.labels + name_len origin.labels ≤ 256 → doubled_origin origin ≡ None → ⊥
has_double origin some short none =
    let other : (num_labels origin.labels == 0) ≡ false = grind (arith, nat_tests) in
    let is : doubled_origin origin ≡ Some (twice origin) = (λ i. cond (other i) None (if_ok (made origin short i))) in
    let never : None ≡ Some (twice origin) = sym none ∙ is in
    absurd (cc)

pub returns-then-encoded_len-clause-ok : goal.returns-then-encoded_len-clause-ok
returns-then-encoded_len-clause-ok c =
    too_long c.args.origin.now (omega (arith, c.encoded_len.ensures.value, c.encoded_len-2.ensures.value, c.if-encoded_len.true))

pub returns-in_err-clone-clause-none : goal.returns-in_err-clone-clause-none
returns-in_err-clone-clause-none c none =
    absurd (has_double c.args.origin.now (omega (arith, c.num_labels.ensures, c.if-num_labels-eq0.false))
    (omega (arith, c.encoded_len.ensures.value, c.encoded_len-2.ensures.value, c.if-encoded_len.false)) none)
