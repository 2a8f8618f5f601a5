-- The order of options is total, and agrees with their equality.
use Rattle.std.specs.Prelude.{◌≡◌, nat_eq}
use Rattle.std.specs.Ordering.{nat_cmp, is_eq}
use Rattle.std.specs.Cmp.{IsTotalOrder, then_total, on_total, nat_cmp_total, unsigned_ties, both_tied}
use Rattle.std.specs.Cmp.Lexicographic.{slice_cmp, nat_list_cmp_total, texts_ties}
use Rattle.std.specs.Str.{bytes_eq}
use Rattle.dns_data.specs.Field.{OptionValue, same_option, option_cmp}

pub option_cmp-total : IsTotalOrder option_cmp
option_cmp-total = then_total (on_total (λ (o : OptionValue). o.code) nat_cmp_total) (on_total (λ (o : OptionValue). o.bytes) nat_list_cmp_total)

pub options_tie : (x y : OptionValue) → same_option x y ≡ is_eq (option_cmp x y)
options_tie x y =
    both_tied (nat_eq x.code y.code) (bytes_eq x.bytes y.bytes) (nat_cmp x.code y.code) (slice_cmp nat_cmp x.bytes y.bytes)
    (unsigned_ties x.code y.code) (texts_ties x.bytes y.bytes)
