-- How names in record data are encoded (RFC 3597 section 4, RFC 4034 section 6.2).
use Rattle.std.specs.Prelude.{Bool, true, false}
use Rattle.dns_wire.specs.declared.name_encoding.NameEncoding.{NameEncoding}
use Rattle.dns_wire.specs.declared.name_encoding.NameEncoding.TheVariants.{Uncompressed, UncompressedLowercase}
use Rattle.dns_wire.specs.declared.name_encoding.RDataEncoding.{RDataEncoding}
use Rattle.dns_wire.specs.declared.name_encoding.RDataEncoding.TheVariants.{StandardRecord, Canonical, Other}

-- the encoding of names in record data: by its kind, whether it has its canonical form, and the encoding around it
abbrev pub rdata_mode : RDataEncoding → Bool → NameEncoding → NameEncoding
rdata_mode StandardRecord false around = around
rdata_mode StandardRecord true around = UncompressedLowercase
rdata_mode Canonical true around = UncompressedLowercase
rdata_mode Canonical false around = Uncompressed
rdata_mode Other canonical around = Uncompressed
