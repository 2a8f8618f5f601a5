use Rattle.std.proofs.Common.{Ok, subst, ap, Bool}
use Rattle.std.proofs.lemmas.Result.{err_from_is_err_and}
use Rattle.std.specs.Prelude.{Err}
use Rattle.dns_text.specs.declared.error.LexerError.{LexerError}
use Rattle.dns_zone_file.specs.declared.error.ZoneFileError.TheVariants as error
use Rattle.dns_zone_file.specs.Entry.{at_fault}
use Rattle.dns_zone_file.specs.Parsing.{ZoneFile, start_in, bad_text, ended}
use Rattle.dns_zone_file.specs.internal.Parsing.{HasNoToken}
use Rattle.dns_zone_file.proofs.FirstLaws.{fault_is_no_end, token_is_no_end, end_is_no_fault, token_is_no_fault, one_fault, of_text}
use Rattle.dns_zone_file.proofs.parser.Parser.parse.Goals as goal

pub returns-in_err-is_empty-clause-refused : goal.returns-in_err-is_empty-clause-refused
returns-in_err-is_empty-clause-refused c =
    let p = err_from_is_err_and c.from_residual.result c.from_residual.ensures.1 in
    let text = ap (λ (file : ZoneFile). file.text) c.self.view_is in
    let types = ap (λ (file : ZoneFile). file.types) c.self.view_is in
    rw (p.1, p.2) (λ _. bad_text (at_fault (of_text _ _ _ _ types text c.in_err-is_empty.ensures.1)))

pub returns-in_err-is_empty-clause-ended : goal.returns-in_err-is_empty-clause-ended
returns-in_err-is_empty-clause-ended c = λ end next.
    let text = ap (λ (file : ZoneFile). file.text) c.self.view_is in
    let types = ap (λ (file : ZoneFile). file.types) c.self.view_is in
    absurd (fault_is_no_end _ _ end _ (of_text _ _ _ _ types text c.in_err-is_empty.ensures.1) next)

pub returns-in_err-is_empty-clause-fault : goal.returns-in_err-is_empty-clause-fault
returns-in_err-is_empty-clause-fault c =
    let p = err_from_is_err_and c.from_residual.result c.from_residual.ensures.1 in
    let text = ap (λ (file : ZoneFile). file.text) c.self.view_is in
    let types = ap (λ (file : ZoneFile). file.types) c.self.view_is in
    rw (p.1, p.2) (λ fault end next.
    ap (λ (e : LexerError). Err (error.Lexer e)) (one_fault _ _ end _ fault (of_text _ _ _ _ types text c.in_err-is_empty.ensures.1) next))

pub returns-then-is_empty-clause-ok : goal.returns-then-is_empty-clause-ok
returns-then-is_empty-clause-ok c =
    let none = subst (λ (b : Bool). HasNoToken (start_in c.self.inside.types c.self.inside.text.now) (Ok b)) c.if-is_empty.true c.in_ok-is_empty.ensures in
    let text = ap (λ (file : ZoneFile). file.text) c.self.view_is in
    let types = ap (λ (file : ZoneFile). file.types) c.self.view_is in
    let origin = ap (λ (file : ZoneFile). file.origin) c.self.view_is in
    record {
      context = _;
      parses = ended (of_text _ _ _ _ types text none.1);
      records_are = cc (c.zone_records.ensures, c.new-context.ensures, c.start_origin-origin.ensures, origin, types);
    }

pub returns-then-is_empty-clause-fault : goal.returns-then-is_empty-clause-fault
returns-then-is_empty-clause-fault c = λ fault end next.
    let none = subst (λ (b : Bool). HasNoToken (start_in c.self.inside.types c.self.inside.text.now) (Ok b)) c.if-is_empty.true c.in_ok-is_empty.ensures in
    let text = ap (λ (file : ZoneFile). file.text) c.self.view_is in
    let types = ap (λ (file : ZoneFile). file.types) c.self.view_is in
    absurd (end_is_no_fault _ _ end fault (of_text _ _ _ _ types text none.1) next)

pub returns-in_err-parse_text-clause-ended : goal.returns-in_err-parse_text-clause-ended
returns-in_err-parse_text-clause-ended c = λ end next.
    let some = subst (λ (b : Bool). HasNoToken (start_in c.self.inside.types c.self.inside.text.now) (Ok b)) c.if-is_empty.false c.in_ok-is_empty.ensures in
    let text = ap (λ (file : ZoneFile). file.text) c.self.view_is in
    let types = ap (λ (file : ZoneFile). file.types) c.self.view_is in
    absurd (token_is_no_end _ _ end some.0 (of_text _ _ _ _ types text some.1.1) next)

pub returns-in_err-parse_text-clause-fault : goal.returns-in_err-parse_text-clause-fault
returns-in_err-parse_text-clause-fault c = λ fault end next.
    let some = subst (λ (b : Bool). HasNoToken (start_in c.self.inside.types c.self.inside.text.now) (Ok b)) c.if-is_empty.false c.in_ok-is_empty.ensures in
    let text = ap (λ (file : ZoneFile). file.text) c.self.view_is in
    let types = ap (λ (file : ZoneFile). file.types) c.self.view_is in
    absurd (token_is_no_fault _ _ end some.0 fault (of_text _ _ _ _ types text some.1.1) next)

pub returns-clause-fault : goal.returns-clause-fault
returns-clause-fault c = λ fault end next.
    let some = subst (λ (b : Bool). HasNoToken (start_in c.self.inside.types c.self.inside.text.now) (Ok b)) c.if-is_empty.false c.in_ok-is_empty.ensures in
    let text = ap (λ (file : ZoneFile). file.text) c.self.view_is in
    let types = ap (λ (file : ZoneFile). file.types) c.self.view_is in
    absurd (token_is_no_fault _ _ end some.0 fault (of_text _ _ _ _ types text some.1.1) next)
