use Rattle.std.specs.Str.Iter.{split_whitespace_rest}
use Rattle.stub_hosts.proofs.FileLaws.{NamesBefore}
use Rattle.stub_hosts.proofs.hosts.Hosts.read_names.Given as goal

abbrev pub invariant-loop-word : goal.invariant-loop-word
invariant-loop-word l = NamesBefore l.address l.now l.fn.self l.self (split_whitespace_rest l.fn.names) (split_whitespace_rest l.word-iterator)
