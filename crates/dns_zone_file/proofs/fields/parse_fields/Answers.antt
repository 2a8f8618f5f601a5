use Rattle.std.proofs.Common.{◌+◌, ◌∙◌, sym, ap, map, drop, ℕ, Option, Some}
use Rattle.dns_wire.specs.declared.codes.dns_class.DNSClass.{DNSClass}
use Rattle.dns_text.specs.Token.{lexeme}
use Rattle.dns_text.specs.declared.token.Token.TheVariants.{Blank}
use Rattle.dns_zone_file.specs.Fields.{ttl_field, bad_ttl, class_field, type_field, no_field, fields_from}
use Rattle.dns_zone_file.proofs.FieldsLaws.{at_field, second_ttl, first_ttl, second_class, first_class}
use Rattle.dns_zone_file.proofs.fields.parse_fields.Goals as goal
use Rattle.dns_zone_file.proofs.fields.parse_fields.Goals.{in-Ttl-2, in-Class-2}

pub returns-in-Ttl-clause-refused : goal.returns-in-Ttl-clause-refused
returns-in-Ttl-clause-refused c =
    sym c.loop-i.invariant
    ∙ at_field c.args.types c.loop-i.ttl c.loop-i.dns_class c.args.tokens.now c.loop-i.i Blank (ttl_field c.in-Ttl.field-0) c.loop-i-test.true c.in-Ttl.ensures
    ∙ second_ttl c.args.types c.loop-i.ttl c.loop-i.dns_class c.in-Ttl.field-0 (drop (c.loop-i.i + 1) (map lexeme c.args.tokens.now)) (sym c.if-is_some.ensures)

pub returns-in-Class-clause-refused : goal.returns-in-Class-clause-refused
returns-in-Class-clause-refused c =
    sym c.loop-i.invariant
    ∙ at_field c.args.types c.loop-i.ttl c.loop-i.dns_class c.args.tokens.now c.loop-i.i Blank (class_field c.in-Class.field-0) c.loop-i-test.true c.in-Class.ensures
    ∙ second_class c.args.types c.loop-i.ttl c.loop-i.dns_class c.in-Class.field-0 (drop (c.loop-i.i + 1) (map lexeme c.args.tokens.now)) (sym c.if-is_some-2.ensures)

pub returns-in-InvalidTtl-clause-refused : goal.returns-in-InvalidTtl-clause-refused
returns-in-InvalidTtl-clause-refused c =
    sym c.loop-i.invariant ∙ at_field c.args.types c.loop-i.ttl c.loop-i.dns_class c.args.tokens.now c.loop-i.i Blank bad_ttl c.loop-i-test.true c.in-InvalidTtl.ensures

pub returns-in-Unknown-clause-refused : goal.returns-in-Unknown-clause-refused
returns-in-Unknown-clause-refused c =
    sym c.loop-i.invariant ∙ at_field c.args.types c.loop-i.ttl c.loop-i.dns_class c.args.tokens.now c.loop-i.i Blank no_field c.loop-i-test.true c.in-Unknown.ensures

pub returns-in-RecordType-clause-ok : goal.returns-in-RecordType-clause-ok
returns-in-RecordType-clause-ok c =
    sym c.loop-i.invariant
    ∙ at_field c.args.types c.loop-i.ttl c.loop-i.dns_class c.args.tokens.now c.loop-i.i Blank (type_field c.in-RecordType.record_type) c.loop-i-test.true c.in-RecordType.ensures

pub loop-i-preserved : goal.loop-i-preserved
loop-i-preserved c = elim c.match-field_of.branch [
  | in-Ttl-2 w ↦
      ap (λ (ttl : Option ℕ). fields_from c.args.types ttl c.match-field_of.dns_class (drop (c.loop-i.i + 1) (map lexeme c.args.tokens.now))) w.ttl-is
      ∙ ap (λ (class : Option DNSClass). fields_from c.args.types (Some w.in-Ttl.field-0) class (drop (c.loop-i.i + 1) (map lexeme c.args.tokens.now))) w.dns_class-is
      ∙ sym (first_ttl c.args.types c.loop-i.ttl c.loop-i.dns_class w.in-Ttl.field-0 (drop (c.loop-i.i + 1) (map lexeme c.args.tokens.now)) (sym w.if-is_some.ensures))
      ∙ sym (at_field c.args.types c.loop-i.ttl c.loop-i.dns_class c.args.tokens.now c.loop-i.i Blank (ttl_field w.in-Ttl.field-0) c.loop-i-test.true w.in-Ttl.ensures)
      ∙ c.loop-i.invariant
  | in-Class-2 w ↦
      ap (λ (ttl : Option ℕ). fields_from c.args.types ttl c.match-field_of.dns_class (drop (c.loop-i.i + 1) (map lexeme c.args.tokens.now))) w.ttl-is
      ∙ ap (λ (class : Option DNSClass). fields_from c.args.types c.loop-i.ttl class (drop (c.loop-i.i + 1) (map lexeme c.args.tokens.now))) w.dns_class-is
      ∙ sym (first_class c.args.types c.loop-i.ttl c.loop-i.dns_class w.in-Class.field-0 (drop (c.loop-i.i + 1) (map lexeme c.args.tokens.now)) (sym w.if-is_some-2.ensures))
      ∙ sym (at_field c.args.types c.loop-i.ttl c.loop-i.dns_class c.args.tokens.now c.loop-i.i Blank (class_field w.in-Class.field-0) c.loop-i-test.true w.in-Class.ensures)
      ∙ c.loop-i.invariant
]
