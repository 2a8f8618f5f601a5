use Rattle.std.proofs.Common.{ℕ, List, None, Some, subst}
use Rattle.std.specs.Char.{is_not_whitespace}
use Rattle.std.specs.Str.{NoCharPasses}
use Rattle.std.specs.Str.Iter.{split_whitespace_rest, split_whitespace_steps}
use Rattle.dns_text.specs.Address.{IsTextOf}
use Rattle.stub_hosts.proofs.WordsLaws.{word_from_step, no_words}
use Rattle.stub_hosts.proofs.FileLaws.{no_line, no_address, an_address, some_names}
use Rattle.stub_hosts.proofs.hosts.Hosts.read_words.Goals as goal

pub returns-in_default-clause-inserts : goal.returns-in_default-clause-inserts
returns-in_default-clause-inserts c =
    let step = subst (λ item. split_whitespace_steps c.split_whitespace-words.result item c.next.new.self) c.in_default.is c.next.ensures.steps in
    let blank : NoCharPasses is_not_whitespace c.args.text.now = subst (NoCharPasses is_not_whitespace) c.split_whitespace-words.ensures.rest step.1 in
    no_line c.args.text.now c.args.now c.args.self.now (no_words c.args.text.now c.utf8.text blank)

pub read_names-requires-clause-utf8 : goal.read_names-requires-clause-utf8
read_names-requires-clause-utf8 c =
    (word_from_step c.args.text.now _ c.in-Some.first.now (split_whitespace_rest c.next.new.self) c.utf8.text c.split_whitespace-words.ensures.rest c.in-Some.ensures.steps).utf8

pub returns-in-Some-parse_ip-clause-inserts : goal.returns-in-Some-parse_ip-clause-inserts
returns-in-Some-parse_ip-clause-inserts c =
    let address = c.in-Some-parse_ip.address in
    let one = word_from_step c.args.text.now _ c.in-Some.first.now (split_whitespace_rest c.next.new.self) c.utf8.text c.split_whitespace-words.ensures.rest c.in-Some.ensures.steps in
    let is : IsTextOf c.in-Some.first.now (Some address) = subst (λ (w : List ℕ). IsTextOf w (Some address)) c.as_bytes.ensures.value c.in-Some-parse_ip.ensures in
    an_address c.args.text.now c.in-Some.first.now (split_whitespace_rest c.next.new.self) address c.args.now c.args.self.now c.read_names.new.self c.read_names.result one is c.read_names.ensures.inserts

pub returns-in-None-clause-inserts : goal.returns-in-None-clause-inserts
returns-in-None-clause-inserts c =
    let one = word_from_step c.args.text.now _ c.in-Some.first.now (split_whitespace_rest c.next.new.self) c.utf8.text c.split_whitespace-words.ensures.rest c.in-Some.ensures.steps in
    let is : IsTextOf c.in-Some.first.now None = subst (λ (w : List ℕ). IsTextOf w None) c.as_bytes.ensures.value c.in-None.ensures in
    no_address c.args.text.now c.in-Some.first.now (split_whitespace_rest c.next.new.self) c.args.now c.args.self.now one is

pub returns-in-Some-parse_ip-clause-decided : goal.returns-in-Some-parse_ip-clause-decided
returns-in-Some-parse_ip-clause-decided c =
    let address = c.in-Some-parse_ip.address in
    let one = word_from_step c.args.text.now _ c.in-Some.first.now (split_whitespace_rest c.next.new.self) c.utf8.text c.split_whitespace-words.ensures.rest c.in-Some.ensures.steps in
    let is : IsTextOf c.in-Some.first.now (Some address) = subst (λ (w : List ℕ). IsTextOf w (Some address)) c.as_bytes.ensures.value c.in-Some-parse_ip.ensures in
    some_names c.args.text.now c.in-Some.first.now (split_whitespace_rest c.next.new.self) address c.read_names.result one is c.read_names.ensures.decided
