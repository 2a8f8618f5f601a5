-- Fields that are refused, after others that were read.
use Rattle.std.proofs.Common.{◌≡◌, ℕ, List, ◌∷◌, subst}
use Rattle.dns_wire.specs.Decoder.{Decoder}
use Rattle.dns_wire.specs.declared.error.DecodeError.{DecodeError}
use Rattle.dns_data.specs.Field.{Kind, ValueOf}
use Rattle.dns_data.specs.Wire.{ValueAt, RefusesValue, RefusesFields, refused_value, past_value}

pub refused_here : (bytes : List ℕ) (data_end : ℕ) (kind : Kind) (kinds : List Kind) (place : ℕ) (error : DecodeError) → RefusesValue bytes data_end kind place error → RefusesFields bytes data_end (kind ∷ kinds) place error
refused_here bytes data_end kind kinds place error r = refused_value r

pub refused_past : (old new : Decoder) (data_end : ℕ) (kind : Kind) (kinds : List Kind) (error : DecodeError) (value : ValueOf kind) → ValueAt old.bytes data_end kind old.index value new.index → new.bytes ≡ old.bytes → RefusesFields new.bytes data_end kinds new.index error
    → RefusesFields old.bytes data_end (kind ∷ kinds) old.index error
refused_past old new data_end kind kinds error value there same r = past_value value there (subst (λ (xs : List ℕ). RefusesFields xs data_end kinds new.index error) same r)
