use Rattle.std.proofs.Common.{◌≡◌, ℕ, ◌-◌, List, true, false, length, take, drop, nat_lt, ap, sym, ◌∙◌, arith, length-drop}
use Rattle.std.specs.Str.{str_eq_ignore_ascii_case}
use Rattle.std.proofs.lemmas.List.{take_all}
use Rattle.dns_wire.specs.codes.Decimal.{decimal_up_to}
use Rattle.dns_wire.proofs.codes.code_text.parse_numbered.Goals as goal

pub returns-then-is_same_word : goal.returns-then-is_same_word
returns-then-is_same_word c =
    let longer : nat_lt (length c.args.text.now) (length c.args.word.now) ≡ false = let test = c.if-text-word.false in grind arith in
    let same : str_eq_ignore_ascii_case (take (length c.args.word.now) c.args.text.now) c.args.word.now ≡ true = sym c.is_same_word.ensures ∙ c.if-is_same_word.true in
    let rest : List ℕ = drop (length c.args.word.now) c.args.text.now in
    let behind : take (length c.args.text.now - length c.args.word.now) rest ≡ rest = take_all _ rest (omega (arith, length-drop (length c.args.word.now) c.args.text.now)) in
    rw (longer, same) (c.number_of.ensures ∙ ap (decimal_up_to 65535) behind)
