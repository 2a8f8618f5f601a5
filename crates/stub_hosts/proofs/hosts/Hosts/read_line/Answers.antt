use Rattle.std.proofs.Common.{◌≡◌, ℕ, List, Result, Ok, Err, ap, ◌∙◌, subst}
use Rattle.std.proofs.lemmas.Result.{err_from_is_err_and}
use Rattle.std.specs.declared.alloc.AllocError.{AllocError}
use Rattle.stub_hosts.specs.Hosts.{HostsContent}
use Rattle.stub_hosts.specs.HostsFile.{without_comment, words, AreHostsOfWords, AreHostsOfLine, HaveNames}
use Rattle.stub_hosts.specs.internal.HostsFile.{InsertsHosts}
use Rattle.stub_hosts.proofs.FileLaws.{line_ok, line_memory, other_bytes}
use Rattle.stub_hosts.proofs.hosts.Hosts.read_line.Goals as goal

-- the words before the comment are the line's
of_line : (line text bare : List ℕ) (now : ℕ) (old new : HostsContent) (result : Result (Unit {0}) AllocError) → text ≡ line → bare ≡ without_comment text
    → InsertsHosts (AreHostsOfWords (words bare)) now old new result → InsertsHosts (AreHostsOfLine line) now old new result
of_line line text bare now old new result same cut inserts =
    subst (λ (bs : List ℕ). InsertsHosts (AreHostsOfWords (words bs)) now old new result) (cut ∙ ap (λ (bs : List ℕ). without_comment bs) same) inserts

pub returns-in_err-read_words-in-Ok : goal.returns-in_err-read_words-in-Ok
returns-in_err-read_words-in-Ok c =
    let p = err_from_is_err_and c.from_residual.result c.from_residual.ensures.1 in
    let error = c.in_err-read_words-in-Ok.field-0.0 in
    rw (p.1, p.2) (line_memory c.args.line.now c.args.now c.args.self.now c.read_words.new.self error c.in-Ok.ensures.cases.1
    (of_line c.args.line.now c.in-Ok.text.now c.without_comment.result.now c.args.now c.args.self.now c.read_words.new.self (Err error)
    c.in-Ok.ensures.cases.0 c.without_comment.ensures c.in_err-read_words-in-Ok.ensures.inserts)
    (subst (λ (bs : List ℕ). HaveNames (words bs))
    (c.without_comment.ensures ∙ ap (λ (bs : List ℕ). without_comment bs) c.in-Ok.ensures.cases.0) c.in_err-read_words-in-Ok.ensures.decided))

pub returns-in_ok-read_words-in-Ok : goal.returns-in_ok-read_words-in-Ok
returns-in_ok-read_words-in-Ok c =
    line_ok c.args.line.now c.args.now c.args.self.now c.read_words.new.self c.in-Ok.ensures.cases.1
    (of_line c.args.line.now c.in-Ok.text.now c.without_comment.result.now c.args.now c.args.self.now c.read_words.new.self (Ok tt)
    c.in-Ok.ensures.cases.0 c.without_comment.ensures c.in_ok-read_words-in-Ok.ensures.inserts)

pub returns-in-Err : goal.returns-in-Err
returns-in-Err c = other_bytes c.args.line.now c.args.now c.args.self.now c.in-Err.ensures.cases.0
