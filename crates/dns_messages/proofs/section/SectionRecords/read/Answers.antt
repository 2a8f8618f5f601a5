use Rattle.std.proofs.Common.{◌≡◌, ◌==◌, ◌+◌, ◌-◌, ℕ, Bool, List, None, refl, sym, ap, subst, ◌∙◌, arith}
use Rattle.std.specs.Option.{is_some}
use Rattle.std.proofs.lemmas.Result.{err_from_is_err_and}
use Rattle.dns_records.specs.Record.{ReadsRecord}
use Rattle.dns_messages.specs.declared.op_code.OpCode.{OpCode}
use Rattle.dns_messages.specs.declared.section.SectionRecords.{SectionRecords}
use Rattle.dns_messages.specs.Section.{Setting, SectionKind, setting_of, record_fault, RefusesNext}
use Rattle.dns_messages.specs.Grammar.{kind_of}
use Rattle.dns_messages.specs.Sound.{is_update_code}
use Rattle.dns_messages.proofs.SectionLaws.{ReadsFront, front_next, front_refused}
use Rattle.dns_messages.proofs.section.SectionRecords.read.Goals as goal

-- the setting of the next record
setting_made : (op : OpCode) (u a e o : Bool) (left : ℕ) → u ≡ is_update_code op → e ≡ o → record { is_update = u; is_additional = a; has_edns = e; is_last = left == 1 } ≡ setting_of (kind_of op a) o left
setting_made op u a e o left update edns =
    ap (λ (b : Bool). record (setting_of (kind_of op a) o left) { is_update = b; has_edns = e }) update ∙ ap (λ (b : Bool). setting_of (kind_of op a) b left) edns

pub returns-in_err-next-clause-refused : goal.returns-in_err-next-clause-refused
returns-in_err-next-clause-refused c =
    let p = err_from_is_err_and c.from_residual.result c.from_residual.ensures.1 in
    let inv = c.loop-nth.invariant in
    let old = c.args.decoder.now in
    let now = c.loop-nth.decoder in
    let s : SectionRecords = c.loop-nth.self in
    let kind : SectionKind = kind_of c.args.op_code c.args.is_additional in
    let left : ℕ = c.args.count - c.loop-nth.nth in
    let made = setting_made c.args.op_code c.is_update-is_update.result c.args.is_additional c.is_some.result (is_some s.edns) left c.is_update-is_update.ensures c.is_some.ensures in
    let setting : Setting = record { is_update = c.is_update-is_update.result; is_additional = c.args.is_additional; has_edns = c.is_some.result; is_last = left == 1 } in
    rw (p.1, p.2) (λ other. front_refused old.bytes kind old.index c.args.count c.loop-nth.nth s now.index c.in_err-next.field-0.0 inv.front c.loop-nth-test.true
    (subst (λ (x : Setting). RefusesNext old.bytes x now.index c.in_err-next.field-0.0) made (subst (λ (bs : List ℕ). RefusesNext bs setting now.index c.in_err-next.field-0.0) inv.same_bytes (c.in_err-next.ensures.refused other))))

pub loop-nth-preserved : goal.loop-nth-preserved
loop-nth-preserved c =
    let inv = c.loop-nth.invariant in
    let old = c.args.decoder.now in
    let now = c.loop-nth.decoder in
    let new = c.read_record.new.decoder in
    let s : SectionRecords = c.loop-nth.self in
    let kind : SectionKind = kind_of c.args.op_code c.args.is_additional in
    let left : ℕ = c.args.count - c.loop-nth.nth in
    let next = c.in_ok-next.next in
    let made = setting_made c.args.op_code c.is_update-is_update.result c.args.is_additional c.is_some.result (is_some s.edns) left c.is_update-is_update.ensures c.is_some.ensures in
    let here : ReadsRecord old.bytes now.index next new.index = subst (λ (bs : List ℕ). ReadsRecord bs now.index next new.index) inv.same_bytes c.in_ok-next.ensures.read in
    let placed : record_fault (setting_of kind (is_some s.edns) left) next ≡ None = subst (λ (x : Setting). record_fault x next ≡ None) made c.in_ok-next.ensures.placed in
    record {
      front = subst (λ (x : SectionRecords). ReadsFront old.bytes kind old.index c.args.count (c.loop-nth.nth + 1) x new.index) (sym c.in_ok-push.ensures)
          (front_next old.bytes kind old.index c.args.count c.loop-nth.nth s now.index next new.index inv.front c.loop-nth-test.true here placed);
      same_bytes = c.in_ok-next.ensures.bytes ∙ inv.same_bytes;
      untouched = λ start. absurd (omega (arith, start));
    }

pub returns-in_err-next-clause-decided : goal.returns-in_err-next-clause-decided
returns-in_err-next-clause-decided c = λ none. absurd (omega (arith, c.loop-nth-test.true, none))

pub returns-in_err-push-clause-decided : goal.returns-in_err-push-clause-decided
returns-in_err-push-clause-decided c = λ none. absurd (omega (arith, c.loop-nth-test.true, none))

pub returns-clause-decided : goal.returns-clause-decided
returns-clause-decided c = λ none. (refl, c.loop-nth.invariant.untouched (omega (arith, none)))
