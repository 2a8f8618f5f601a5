-- The order of data is total, and agrees with their equality.
use Rattle.std.specs.Prelude.{◌≡◌, nat_eq}
use Rattle.std.proofs.Common.{refl, subst}
use Rattle.std.specs.declared.cmp.Ordering.{Ordering}
use Rattle.std.specs.declared.cmp.Ordering.TheVariants.{Less, Greater}
use Rattle.std.specs.Ordering.{nat_cmp, is_eq, ordering_then, as_partial_cmp}
use Rattle.std.specs.Cmp.{IsTotalOrder, IsPartialOrder, po, then_total, on_total, nat_cmp_total, bool_cmp_total, unsigned_ties, both_tied}
use Rattle.std.specs.Cmp.Derive.{by_total, of_values, Tied, tie, on_tied, then_tied}
use Rattle.std.specs.Cmp.Lexicographic.{slice_cmp, lists_total, lists_ties, nat_list_cmp_total, texts_ties}
use Rattle.std.specs.Net.Addr.{ipv4_octets, ipv6_segments}
use Rattle.std.specs.Str.{bytes_eq}
use Rattle.dns_wire.specs.codes.RecordType.{same_type, type_number}
use Rattle.dns_wire.specs.declared.codes.record_type.RecordType.{RecordType}
use Rattle.dns_names.specs.Compare.{name_cmp, same_name}
use Rattle.dns_names.specs.internal.Compare.{name_cmp-total, names_agree}
use Rattle.dns_data.specs.Field.{option_cmp}
use Rattle.dns_data.specs.contracts.rdata.RData.{enum}
use Rattle.dns_data.specs.declared.rdata.RData.{RData}
use Rattle.dns_data.specs.declared.rdata.RData.TheVariants as of
use Rattle.dns_data.specs.declared.rdata.mx.MX.{MX}
use Rattle.dns_data.specs.declared.rdata.soa.SOA.{SOA}
use Rattle.dns_data.specs.declared.rdata.srv.SRV.{SRV}
use Rattle.dns_data.specs.internal.Order.{option_cmp-total, options_tie}
use Rattle.dns_data.specs.rdata.{same_data}
use Rattle.dns_data.specs.rdata.Order.{type_cmp, mx_cmp, soa_cmp, srv_cmp, data_cmp}

-- ---- total

pub type_cmp-total : IsTotalOrder type_cmp
type_cmp-total = on_total type_number nat_cmp_total

mx_cmp-total : IsTotalOrder mx_cmp
mx_cmp-total = then_total (on_total (λ (x : MX). x.preference) nat_cmp_total) (on_total (λ (x : MX). x.exchange) name_cmp-total)

srv_cmp-total : IsTotalOrder srv_cmp
srv_cmp-total =
    then_total (on_total (λ (x : SRV). x.priority) nat_cmp_total)
    (then_total (on_total (λ (x : SRV). x.weight) nat_cmp_total)
    (then_total (on_total (λ (x : SRV). x.port) nat_cmp_total) (on_total (λ (x : SRV). x.target) name_cmp-total)))

soa_cmp-total : IsTotalOrder soa_cmp
soa_cmp-total =
    then_total (on_total (λ (x : SOA). x.mname) name_cmp-total)
    (then_total (on_total (λ (x : SOA). x.rname) name_cmp-total)
    (then_total (on_total (λ (x : SOA). x.serial) nat_cmp_total)
    (then_total (on_total (λ (x : SOA). x.refresh) nat_cmp_total)
    (then_total (on_total (λ (x : SOA). x.retry) nat_cmp_total)
    (then_total (on_total (λ (x : SOA). x.expire) nat_cmp_total) (on_total (λ (x : SOA). x.minimum) nat_cmp_total))))))

-- by the first field
module _ {F G : Type 0} where
  first : {R : F → F → Ordering} → IsTotalOrder R → IsTotalOrder (λ (x y : F × G). R x.0 y.0)
  first o = on_total (λ (x : F × G). x.0) o

-- `data_cmp` as a derive builds it
abbrev derived_cmp : RData → RData → Ordering
derived_cmp = of_values enum Less Greater (
  λ x y. slice_cmp nat_cmp (ipv4_octets x.0.0) (ipv4_octets y.0.0),
  (
    λ x y. slice_cmp nat_cmp (ipv6_segments x.0.0) (ipv6_segments y.0.0),
    (
      λ x y. name_cmp x.0.0 y.0.0,
      (
        λ x y. name_cmp x.0.0 y.0.0,
        (
          λ x y. name_cmp x.0.0 y.0.0,
          (
            λ x y. mx_cmp x.0 y.0,
            (
              λ x y. soa_cmp x.0 y.0,
              (
                λ x y. srv_cmp x.0 y.0,
                (
                  λ x y. slice_cmp (slice_cmp nat_cmp) x.0 y.0,
                  (
                    λ x y. slice_cmp option_cmp x.0 y.0,
                    (
                      λ x y. type_cmp x.0 y.0,
                      (
                        λ x y. ordering_then (type_cmp x.0 y.0) (slice_cmp nat_cmp x.1.0 y.1.0),
                        tt,
                      ),
                    ),
                  ),
                ),
              ),
            ),
          ),
        ),
      ),
    ),
  ),
)

derived_cmp-total : IsTotalOrder derived_cmp
derived_cmp-total = by_total enum _ (
  on_total (λ x. ipv4_octets x.0.0) nat_list_cmp_total,
  (
    on_total (λ x. ipv6_segments x.0.0) nat_list_cmp_total,
    (
      on_total (λ x. x.0.0) name_cmp-total,
      (
        on_total (λ x. x.0.0) name_cmp-total,
        (
          on_total (λ x. x.0.0) name_cmp-total,
          (
            first mx_cmp-total,
            (
              first soa_cmp-total,
              (
                first srv_cmp-total,
                (
                  first (lists_total nat_list_cmp_total),
                  (
                    first (lists_total option_cmp-total),
                    (
                      first type_cmp-total,
                      (
                        then_total (first type_cmp-total) (on_total (λ x. x.1.0) nat_list_cmp_total),
                        tt,
                      ),
                    ),
                  ),
                ),
              ),
            ),
          ),
        ),
      ),
    ),
  ),
)

derived : (x y : RData) → derived_cmp x y ≡ data_cmp x y
derived (of.A x) (of.A y) = refl
derived x (of.A y) = refl
derived x y = refl

-- the order of data is total
pub data_cmp-total : IsTotalOrder data_cmp
data_cmp-total = subst IsTotalOrder (λ i x y. derived x y i) derived_cmp-total

-- ---- equal means the same

type_tie : (t u : RecordType) → same_type t u ≡ is_eq (type_cmp t u)
type_tie t u = unsigned_ties (type_number t) (type_number u)

numbers : Tied nat_eq nat_cmp
numbers = tie nat_cmp unsigned_ties

names : Tied same_name name_cmp
names = tie name_cmp names_agree

-- data compare as equal where they are equal
pub data_tie : (x y : RData) → same_data x y ≡ is_eq (data_cmp x y)
data_tie (of.A x) (of.A y) = texts_ties (ipv4_octets x.0) (ipv4_octets y.0)
data_tie (of.AAAA x) (of.AAAA y) = texts_ties (ipv6_segments x.0) (ipv6_segments y.0)
data_tie (of.CNAME x) (of.CNAME y) = names_agree x.0 y.0
data_tie (of.NS x) (of.NS y) = names_agree x.0 y.0
data_tie (of.PTR x) (of.PTR y) = names_agree x.0 y.0
data_tie (of.MX x) (of.MX y) = (then_tied (on_tied (λ (r : MX). r.preference) numbers) (on_tied (λ (r : MX). r.exchange) names)).ties x y
data_tie (of.SOA x) (of.SOA y) =
    (then_tied (on_tied (λ (r : SOA). r.mname) names)
    (then_tied (on_tied (λ (r : SOA). r.rname) names)
    (then_tied (on_tied (λ (r : SOA). r.serial) numbers)
    (then_tied (on_tied (λ (r : SOA). r.refresh) numbers)
    (then_tied (on_tied (λ (r : SOA). r.retry) numbers)
    (then_tied (on_tied (λ (r : SOA). r.expire) numbers) (on_tied (λ (r : SOA). r.minimum) numbers))))))).ties x y
data_tie (of.SRV x) (of.SRV y) =
    (then_tied (on_tied (λ (r : SRV). r.priority) numbers)
    (then_tied (on_tied (λ (r : SRV). r.weight) numbers)
    (then_tied (on_tied (λ (r : SRV). r.port) numbers) (on_tied (λ (r : SRV). r.target) names)))).ties x y
data_tie (of.TXT x) (of.TXT y) = lists_ties (slice_cmp nat_cmp) texts_ties x y
data_tie (of.OPT x) (of.OPT y) = lists_ties option_cmp options_tie x y
data_tie (of.Update0 t) (of.Update0 u) = type_tie t u
data_tie (of.Unknown t x) (of.Unknown u y) =
    both_tied (same_type t u) (bytes_eq x y) (type_cmp t u) (slice_cmp nat_cmp x y) (type_tie t u) (texts_ties x y)
data_tie x y = refl

-- the order of data agrees with their equality
pub data_cmp-partial : IsPartialOrder same_data (as_partial_cmp data_cmp)
data_cmp-partial = po data_cmp-total data_tie
