-- What is between the owner of a record and its data (RFC 1035 section 4.1.3).
use Rattle.std.specs.Prelude.{◌<◌, ◌^◌, ◌++◌, ℕ, List}
use Rattle.std.specs.Int.{w16, w32, to_be_bytes}
use Rattle.dns_message_bytes.specs.declared.view.record_view.Fields.{Fields}

-- type, class, TTL and the length of the data, and what follows
abbrev pub fields_form : Fields → List ℕ → List ℕ
fields_form f more =
    to_be_bytes w16 f.record_type ++ (to_be_bytes w16 f.class
    ++ (to_be_bytes w32 f.ttl ++ (to_be_bytes w16 f.len ++ more)))

-- each fits its bytes
pub record FitFields (f : Fields) : Type 0 where
  pub type_fits : f.record_type < 2 ^ 16
  pub class_fits : f.class < 2 ^ 16
  pub ttl_fits : f.ttl < 2 ^ 32
  pub len_fits : f.len < 2 ^ 16
