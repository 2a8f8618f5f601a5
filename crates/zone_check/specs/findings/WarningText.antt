-- The sentences of warnings.
use Rattle.std.specs.Prelude.{codes, unwrap_or, Option, Some, None}
use Rattle.zone_check.specs.findings.Finding.{Sentences}
use Rattle.zone_lines.specs.declared.warnings.kind.WarningKind.{WarningKind}
use Rattle.zone_lines.specs.declared.warnings.kind.WarningKind.TheVariants as about

-- the sentences of a warning about the origin of a zone, or about a record and others of its owner
abbrev pub set_sentences : WarningKind → Option Sentences
set_sentences about.RootZone = Some (record {
  reason = codes "a zone whose origin is the root";
  hint = codes "write $ORIGIN and the zone's origin above it, or pass --origin";
})
set_sentences about.NoOrigin = Some (record {
  reason = codes "no $ORIGIN, and no origin given: the root completed a name without a dot at its end";
  hint = codes "write $ORIGIN and the zone's origin above it, pass --origin, or write a dot at the end of each name";
})
set_sentences about.NoServer = Some (record {
  reason = codes "no NS record at the zone's origin";
  hint = codes "write @ NS ns and an address record of ns";
})
set_sentences about.AliasBesideData = Some (record {
  reason = codes "an alias (CNAME) beside other records of its owner";
  hint =
      codes "remove the alias or the other records, and at the origin always the alias: many servers answer with the alias alone";
})
set_sentences about.SecondRecord = Some (record {
  reason = codes "a second CNAME or SOA record of its owner: the last CNAME is kept, or the SOA with the greater serial";
  hint = codes "remove one of them";
})
set_sentences about.DuplicateRecord = Some (record {
  reason = codes "a record that is dropped: one above has its owner, type and data";
  hint = codes "remove one of them";
})
set_sentences about.OtherTtl = Some (record {
  reason = codes "another TTL than the records above of this owner and type";
  hint = codes "write the same TTL for all records of a set";
})
set_sentences about.HighTtl = Some (record {
  reason = codes "a TTL above 2147483647, which resolvers take as 0";
  hint = codes "write at most 2147483647 seconds";
})
set_sentences other = None

-- the sentences of a warning about a server, a wildcard or a delegation
abbrev pub server_sentences : WarningKind → Option Sentences
server_sentences about.AddressName = Some (record {
  reason = codes "an address where a name belongs";
  hint = codes "write the name of the host, and its address in an A record";
})
server_sentences about.NoAddress = Some (record {
  reason = codes "a server in this zone that has no A or AAAA record";
  hint = codes "write an address record of the server's name, which must not be an alias, or a dot after a name outside the zone";
})
server_sentences about.Wildcard = Some (record {
  reason = codes "a wildcard, which stub and nameserver --plain do not expand";
  hint = codes "write a record for each name that is to be found";
})
server_sentences about.Delegation = Some (record {
  reason = codes "a delegation, which stub and nameserver --plain do not follow: they answer for names below from this file alone";
  hint = codes "write the records of the names below it into this file";
})
server_sentences about.WildcardCut = Some (record {
  reason = codes "a delegation at a wildcard, which servers treat in different ways";
  hint = codes "write the NS records of each name that is to be delegated";
})
server_sentences about.NoGlue = Some (record {
  reason = codes "a delegation to a server at or below it that has no A or AAAA record here: resolvers do not find it";
  hint = codes "write an address record of the server's name, or a dot after a name outside the zone";
})
server_sentences about.Occluded = Some (record {
  reason = codes "a record below a delegation, which is never an answer";
  hint = codes "remove it, or the NS records above it; only addresses of name servers belong there";
})
server_sentences about.SignerWithoutCut = Some (record {
  reason = codes "a DS record where nothing is delegated";
  hint = codes "write the NS records of its owner, or remove it: the DS records of this zone are in the one above it";
})
server_sentences other = None

-- the sentences of a warning about the content of a record; the last kind is a name that lacks its dot
abbrev pub text_sentences : WarningKind → Sentences
text_sentences about.WrongDigest = record {
  reason = codes "a digest of another length than its type has";
  hint =
      codes "write all digits of the digest, or the number of its type: SHA-1 has 20 bytes, SHA-256 32, SHA-384 48, SHA-512 64";
}
text_sentences about.ExpiredSignature = record {
  reason = codes "a signature that has expired";
  hint = codes "sign the zone again";
}
text_sentences about.SecondSpf = record {
  reason = codes "a second SPF policy of its owner, with which neither counts";
  hint = codes "write one TXT record with v=spf1";
}
text_sentences about.SecondDmarc = record {
  reason = codes "a second DMARC policy of its owner, with which neither counts";
  hint = codes "write one TXT record with v=DMARC1";
}
text_sentences about.CutText = record {
  reason = codes "a ; directly after a word, which ends the text there";
  hint = codes "write the text in quotes, as \"v=DKIM1; k=rsa\"";
}
text_sentences about.OpenString = record {
  reason = codes "a quoted string that goes on over the end of its line";
  hint = codes "write \" where it ends: each line up to the next \" is part of it";
}
text_sentences other = record {
  reason = codes "a name that ends in the origin twice";
  hint = codes "write a dot at the end of the name, or leave the origin out of it";
}

-- the sentences of each kind of warning
abbrev pub warning_sentences : WarningKind → Sentences
warning_sentences kind = unwrap_or (set_sentences kind) (unwrap_or (server_sentences kind) (text_sentences kind))
