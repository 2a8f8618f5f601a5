use Rattle.std.proofs.Common.{◌≡◌, ◌+◌, true, Bool, List, ℕ, ap, sym, subst, ◌∙◌}
use Rattle.dns_wire.specs.Decoder.{Decoder}
use Rattle.dns_wire.specs.Name.{name_len}
use Rattle.dns_wire.specs.Reading.{ReadsName}
use Rattle.dns_names.specs.Name.{DomainName}
use Rattle.dns_message_bytes.proofs.PlainNameLaws.{whole_decodes}
use Rattle.dns_message_bytes.proofs.view.plain_name.PlainName.to_name.Goals as goal

same_name : (a b : DomainName) → a.is_fqdn ≡ true → b.is_fqdn ≡ true → a.labels ≡ b.labels → a ≡ b
same_name a b fqdn fqdn' e = ap (λ (ls : List (List ℕ)). record a { labels = ls }) e ∙ ap (λ (f : Bool). record b { is_fqdn = f }) (fqdn ∙ sym fqdn')

at_start : (d : Decoder) (bytes : List ℕ) (labels : List (List ℕ)) → d ≡ record { bytes = bytes; index = 0 } → ReadsName bytes 0 labels (0 + name_len labels) → ReadsName d.bytes d.index labels (0 + name_len labels)
at_start d bytes labels is reads = subst (λ (e : Decoder). ReadsName e.bytes e.index labels (0 + name_len labels)) (sym is) reads

pub returns-in-Ok-clause-ok : goal.returns-in-Ok-clause-ok
returns-in-Ok-clause-ok c =
    let labels = c.args.self.now.labels in
    let reads = at_start c.new.result c.as_wire-bytes.result.now labels c.new.ensures (whole_decodes labels c.as_wire-bytes.result.now c.as_wire-bytes.ensures.value c.as_wire-bytes.ensures.labels) in
    same_name c.in-Ok.name c.args.self.now c.in-Ok.ensures.fqdn c.as_wire-bytes.ensures.fqdn (c.in-Ok.ensures.only labels (0 + name_len labels) reads).0

pub returns-in-Err-clause-inline : goal.returns-in-Err-clause-inline
returns-in-Err-clause-inline c =
    let labels = c.args.self.now.labels in
    let reads = at_start c.new.result c.as_wire-bytes.result.now labels c.new.ensures (whole_decodes labels c.as_wire-bytes.result.now c.as_wire-bytes.ensures.value c.as_wire-bytes.ensures.labels) in
    λ inline. c.in-Err.ensures.inline labels (0 + name_len labels) reads inline
