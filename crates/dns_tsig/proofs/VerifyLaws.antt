-- The key that decides.
use Rattle.std.proofs.Common.{◌≡◌, ℕ, ◌+◌, ◌≤◌, Bool, true, cond, List, [], ◌∷◌, length, get_or, sym, ap, ◌∙◌, arith}
use Rattle.dns_tsig.specs.Judge.{judgement}
use Rattle.dns_tsig.specs.Verify.{by_key, is_key_of, verdict_from}
use Rattle.dns_tsig.specs.declared.key.Key.{Key}
use Rattle.dns_tsig.specs.declared.covered.Coverage.TheVariants.{Variables}
use Rattle.dns_tsig.specs.declared.found.Signature.{Signature}

-- the first key decides, if it has the name and the algorithm of the record
pub key_found : (index : ℕ) (keys : List Key) (key : Key) (request : List ℕ) (signature : Signature) (now : ℕ) → 1 ≤ length keys
    → key ≡ get_or keys 0 key → is_key_of key signature ≡ true
    → verdict_from index keys request signature now ≡ by_key index (judgement key [] request signature.place signature.tsig Variables now)
key_found index [] key request signature now some first e = absurd (omega (arith, some))
key_found index (k ∷ ks) key request signature now some first e =
    ap (λ (b : Bool). cond b (by_key index (judgement k [] request signature.place signature.tsig Variables now)) (verdict_from (index + 1) ks request signature now))
    (ap (λ (x : Key). is_key_of x signature) (sym first) ∙ e)
    ∙ ap (λ (x : Key). by_key index (judgement x [] request signature.place signature.tsig Variables now)) (sym first)
