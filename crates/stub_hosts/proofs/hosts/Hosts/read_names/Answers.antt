use Rattle.std.proofs.Common.{refl, ap}
use Rattle.std.proofs.lemmas.Result.{err_from_is_err_and}
use Rattle.std.specs.Str.Iter.{split_whitespace_rest}
use Rattle.stub_hosts.proofs.WordsLaws.{word_from_step, no_words}
use Rattle.stub_hosts.proofs.FileLaws.{names_begin, names_next, names_end, names_some}
use Rattle.stub_hosts.proofs.hosts.Hosts.read_names.Goals as goal

pub loop-word-init : goal.loop-word-init
loop-word-init c =
    names_begin c.args.address c.args.now c.args.self.now (split_whitespace_rest c.args.names) _ c.requires.utf8
    (ap split_whitespace_rest c.into_iter-word-iterator.ensures.into_iter_gives)

pub loop-word-preserved : goal.loop-word-preserved
loop-word-preserved c =
    let before = c.loop-word.invariant in
    names_next before _ c.in-Some.word.now _ (word_from_step _ _ c.in-Some.word.now _ before.utf8 refl c.in-Some.ensures.steps) c.in_ok-read_name.ensures.ok

pub returns-in_err-read_name-clause-decided : goal.returns-in_err-read_name-clause-decided
returns-in_err-read_name-clause-decided c =
    let p = err_from_is_err_and c.from_residual.result c.from_residual.ensures.1 in
    let before = c.loop-word.invariant in
    rw (p.1) (names_some before c.in-Some.word.now _ (word_from_step _ _ c.in-Some.word.now _ before.utf8 refl c.in-Some.ensures.steps))

pub returns-clause-inserts : goal.returns-clause-inserts
returns-clause-inserts c =
    let before = c.loop-word.invariant in
    names_end before (no_words _ before.utf8 c.in-None.ensures.steps.1)
