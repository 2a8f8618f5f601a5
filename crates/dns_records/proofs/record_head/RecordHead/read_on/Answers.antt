use Rattle.std.proofs.Common.{◌≡◌, ◌+◌, ◌<◌, ◌^◌, ◌≤◌, ◌∙◌, ℕ, true, List, length, drop, ap, sym, refl, subst, arith, length-drop}
use Rattle.std.specs.Int.{w16, w32, to_be_bytes}
use Rattle.dns_wire.specs.codes.RecordType.{type_number, type_of}
use Rattle.dns_wire.specs.declared.codes.record_type.RecordType.{RecordType}
use Rattle.dns_wire.specs.declared.codes.dns_class.DNSClass.{DNSClass}
use Rattle.dns_wire.specs.Decodable.{BytesAt}
use Rattle.dns_wire.specs.Reading.{ReadsName}
use Rattle.dns_names.specs.Name.{DomainName}
use Rattle.dns_records.specs.RecordHead.{ReadsHead, class_for}
use Rattle.std.proofs.lemmas.Result.{err_from_is_err_and}
use Rattle.dns_records.specs.RecordHead.{bad_owner, short_head}
use Rattle.dns_records.proofs.record_head.RecordHead.read_on.Goals as goal

-- behind what was read, too few bytes are left
short : (bytes here : List ℕ) (place behind taken few : ℕ) → here ≡ bytes → place + taken ≡ behind → length (drop behind here) < few → taken + few ≤ 10 → length (drop place bytes) < 10
short bytes here place behind taken few same ends less most =
    omega (arith, ap (λ (xs : List ℕ). length (drop behind xs)) same, ends, less, most, length-drop place bytes, length-drop behind bytes)

pub returns-in_err-name-clause-refused : goal.returns-in_err-name-clause-refused
returns-in_err-name-clause-refused c =
    let p = err_from_is_err_and c.from_residual.result c.from_residual.ensures.1 in
    rw (p.1, p.2) (λ other. bad_owner (c.in_err-name.ensures.refused other))

pub returns-in_err-read-clause-refused : goal.returns-in_err-read-clause-refused
returns-in_err-read-clause-refused c =
    let p = err_from_is_err_and c.from_residual-in_err-read.result c.from_residual-in_err-read.ensures.1 in
    rw (p.1, p.2) (λ other.
    let few = c.in_err-read.ensures.refused other in
    let d0 = c.args.decoder.now in
    let d1 = c.read.new.decoder in
    let ends : d1.index + 0 ≡ d1.index = omega arith in
    rw few.0 (short_head c.in_ok-name.ensures.read (short d0.bytes d1.bytes d1.index d1.index 0 2 c.in_ok-name.ensures.bytes ends few.1 (omega arith))))

pub returns-in_err-read-2-clause-refused : goal.returns-in_err-read-2-clause-refused
returns-in_err-read-2-clause-refused c =
    let p = err_from_is_err_and c.from_residual-in_err-read-2.result c.from_residual-in_err-read-2.ensures.1 in
    rw (p.1, p.2) (λ other.
    let few = c.in_err-read-2.ensures.refused other in
    let same = c.in_ok-read.ensures.bytes ∙ c.in_ok-name.ensures.bytes in
    let d0 = c.args.decoder.now in
    let d1 = c.read.new.decoder in
    let d2 = c.read-2.new.decoder in
    rw few.0 (short_head c.in_ok-name.ensures.read (short d0.bytes d2.bytes d1.index d2.index 2 2 same c.in_ok-read.ensures.read.0.ends few.1 (omega arith))))

pub returns-in_err-ttl-clause-refused : goal.returns-in_err-ttl-clause-refused
returns-in_err-ttl-clause-refused c =
    let p = err_from_is_err_and c.from_residual-in_err-ttl.result c.from_residual-in_err-ttl.ensures.1 in
    rw (p.1, p.2) (λ other.
    let few = c.in_err-ttl.ensures.refused other in
    let same = c.in_ok-read-2.ensures.bytes ∙ c.in_ok-read.ensures.bytes ∙ c.in_ok-name.ensures.bytes in
    let d0 = c.args.decoder.now in
    let d1 = c.read.new.decoder in
    let d3 = c.read-3.new.decoder in
    let ends : d1.index + 4 ≡ d3.index = omega (arith, c.in_ok-read.ensures.read.0.ends, c.in_ok-read-2.ensures.read.0.ends) in
    rw few.0 (short_head c.in_ok-name.ensures.read (short d0.bytes d3.bytes d1.index d3.index 4 4 same ends few.1 (omega arith))))

pub returns-in_err-len-clause-refused : goal.returns-in_err-len-clause-refused
returns-in_err-len-clause-refused c =
    let p = err_from_is_err_and c.from_residual-in_err-len.result c.from_residual-in_err-len.ensures.1 in
    rw (p.1, p.2) (λ other.
    let few = c.in_err-len.ensures.refused other in
    let same = c.in_ok-ttl.ensures.bytes ∙ c.in_ok-read-2.ensures.bytes ∙ c.in_ok-read.ensures.bytes ∙ c.in_ok-name.ensures.bytes in
    let d0 = c.args.decoder.now in
    let d1 = c.read.new.decoder in
    let d4 = c.read-4.new.decoder in
    let ends : d1.index + 8 ≡ d4.index = omega (arith, c.in_ok-read.ensures.read.0.ends, c.in_ok-read-2.ensures.read.0.ends, c.in_ok-ttl.ensures.read.0.ends) in
    rw few.0 (short_head c.in_ok-name.ensures.read (short d0.bytes d4.bytes d1.index d4.index 8 2 same ends few.1 (omega arith))))

-- what was read, one after another, is a head
head_read : ((number : ℕ) → type_number (type_of number) ≡ number) → (bytes : List ℕ) (place p1 p2 p3 p4 end : ℕ) (name : DomainName) (kind class ttl len : ℕ) (t : RecordType) (k : DNSClass)
    → name.is_fqdn ≡ true → ReadsName bytes place name.labels p1 → t ≡ type_of kind → k ≡ class_for t class
    → BytesAt bytes p1 (to_be_bytes w16 kind) p2 × (kind < 2 ^ 16) → BytesAt bytes p2 (to_be_bytes w16 class) p3 × (class < 2 ^ 16)
    → BytesAt bytes p3 (to_be_bytes w32 ttl) p4 × (ttl < 2 ^ 32) → BytesAt bytes p4 (to_be_bytes w16 len) end × (len < 2 ^ 16)
    → ReadsHead bytes place (record { name = name; record_type = t; dns_class = k; ttl = ttl; len = len }) end
head_read law bytes place p1 p2 p3 p4 end name kind class ttl len t k fqdn owner type_is class_is b1 b2 b3 b4 =
    let number : type_number t ≡ kind = ap type_number type_is ∙ law kind in
    record {
      fqdn = fqdn;
      type_fits = subst (λ (n : ℕ). n < 2 ^ 16) (sym number) b1.1;
      type_named = ap type_of number ∙ sym type_is;
      class = class;
      class_fits = b2.1;
      class_named = class_is;
      ttl_fits = b3.1;
      len_fits = b4.1;
      there = (p1, owner, (p2, subst (λ (n : ℕ). BytesAt bytes p1 (to_be_bytes w16 n) p2) (sym number) b1.0, (p3, b2.0, (p4, b3.0, (end, b4.0, refl)))));
    }

pub returns-clause-read : goal.returns-clause-read
returns-clause-read c =
    let d0 = c.args.decoder.now in
    let d1 = c.read.new.decoder in
    let d2 = c.read-2.new.decoder in
    let d3 = c.read-3.new.decoder in
    let d4 = c.read-4.new.decoder in
    let d5 = c.read-5.new.decoder in
    let e1 = c.in_ok-name.ensures.bytes in
    let e2 = c.in_ok-read.ensures.bytes ∙ e1 in
    let e3 = c.in_ok-read-2.ensures.bytes ∙ e2 in
    let e4 = c.in_ok-ttl.ensures.bytes ∙ e3 in
    let numbers : List ℕ → ℕ → ℕ → ℕ → Type 0 = λ bs place n end. BytesAt bs place (to_be_bytes w16 n) end × (n < 2 ^ 16) in
    head_read c.type_number_round_trips.ensures d0.bytes d0.index d1.index d2.index d3.index d4.index d5.index c.in_ok-name.name
    c.in_ok-read.field-0 c.in_ok-read-2.field-0 c.in_ok-ttl.ttl c.in_ok-len.len c.from-record_type.result c.class_of_type-dns_class.result
    c.in_ok-name.ensures.fqdn c.in_ok-name.ensures.read c.from-record_type.ensures c.class_of_type-dns_class.ensures
    (subst (λ (bs : List ℕ). numbers bs d1.index c.in_ok-read.field-0 d2.index) e1 c.in_ok-read.ensures.read)
    (subst (λ (bs : List ℕ). numbers bs d2.index c.in_ok-read-2.field-0 d3.index) e2 c.in_ok-read-2.ensures.read)
    (subst (λ (bs : List ℕ). BytesAt bs d3.index (to_be_bytes w32 c.in_ok-ttl.ttl) d4.index × (c.in_ok-ttl.ttl < 2 ^ 32)) e3 c.in_ok-ttl.ensures.read)
    (subst (λ (bs : List ℕ). numbers bs d4.index c.in_ok-len.len d5.index) e4 c.in_ok-len.ensures.read)
