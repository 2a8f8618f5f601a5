-- Records as JSON objects (RFC 8259 section 4).
use Rattle.std.specs.Prelude.{List, [], ◌∷◌, ◌++◌, ℕ, codes, flat_map}
use Rattle.std.specs.Fmt.{decimal}
use Rattle.dns_data.specs.rdata.{data_type}
use Rattle.dns_log.specs.Json.{json_text}
use Rattle.dns_records.specs.Record.{Record}
use Rattle.dns_zone_file.specs.declared.types.Types.TheVariants.{All}
use Rattle.dns_zone_file.specs.record_texts.RecordText.{data_as_read, owner_text, type_as_read}

-- the owner of a record, its TTL and its class
abbrev pub json_owner : Record → List ℕ
json_owner r = codes "{\"name\":" ++ (json_text (owner_text r.name) ++ (codes ",\"ttl\":" ++ (decimal r.ttl ++ codes ",\"class\":\"IN\"")))

-- the type of a record, and its data
abbrev pub json_data : Record → List ℕ
json_data r =
    codes ",\"type\":" ++ (json_text (type_as_read All (data_type r.rdata)) ++ (codes ",\"data\":" ++ (json_text (data_as_read All r.rdata) ++ codes "}")))

-- a record
abbrev pub json_record : Record → List ℕ
json_record r = json_owner r ++ json_data r

-- a record after another
abbrev pub other_record : Record → List ℕ
other_record r = codes "," ++ json_record r

-- records, with commas between them (RFC 8259 section 5)
abbrev pub json_records : List Record → List ℕ
json_records [] = []
json_records (r ∷ records) = json_record r ++ flat_map other_record records
