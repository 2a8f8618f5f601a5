use Rattle.std.proofs.Common.{◌≡◌, ◌∙◌, [], ◌∷◌, Bool, cond, ap, sym, List, ℕ}
use Rattle.std.specs.List.{fold, flat_map}
use Rattle.std.specs.Str.{str_to_ascii_lowercase}
use Rattle.std.specs.Hash as fed
use Rattle.dns_names.specs.Compare.{lower}
use Rattle.dns_names.specs.LabelCompare.{label_writes}
use Rattle.dns_names.proofs.HashLaws.{name-writes}
use Rattle.dns_message_bytes.proofs.view.plain_name.compare.PlainNameHash.hash.Goals as goal

pub returns : goal.returns
returns g c =
    let labels = c.args.self.now.labels in
    let writes : flat_map fed.u8 (str_to_ascii_lowercase c.label_bytes.result.now) ≡ flat_map label_writes (lower labels) =
    ap (λ (xs : List ℕ). flat_map fed.u8 (str_to_ascii_lowercase xs)) c.label_bytes.ensures.form ∙ name-writes labels c.label_bytes.ensures.labels.each in
    c.hash_bytes.ensures ∙ ap (λ (ws : fed.HashWrites). fold g.H.Hasher.write c.hash.new.state ws) writes
    ∙ ap (λ (s : _). fold g.H.Hasher.write s (flat_map label_writes (lower labels))) c.hash.ensures
    ∙ ap (λ (b : Bool). fold g.H.Hasher.write (g.H.Hasher.write c.args.state.now (cond b 1 0 ∷ [])) (flat_map label_writes (lower labels))) (sym c.label_bytes.ensures.fqdn)
