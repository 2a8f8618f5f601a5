use Rattle.std.proofs.Common.{◌≡◌, string_bytes, ap, ◌∙◌, ◌++◌, List, ℕ}
use Rattle.dns_names.specs.Print.{text_of_name}
use Rattle.dns_names.proofs.RoundTrip.{printed_is_read}
use Rattle.dns_names.proofs.name.Name.to_ascii.Goals as goal

pub returns-clause-read : goal.returns-clause-read
returns-clause-read c =
    let printed : string_bytes c.push_name.new.text ≡ text_of_name c.args.self.now =
    c.in_ok-push_name.ensures.text ∙ ap (λ (l : List ℕ). l ++ text_of_name c.args.self.now) c.in_ok-text.ensures.bytes in
    rw printed (printed_is_read c.args.self.now c.encoded_len.ensures.labels c.in_ok-push_name.ensures.octets)
