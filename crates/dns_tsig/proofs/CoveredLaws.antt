-- Bytes that are authenticated one after another.
use Rattle.std.proofs.Common.{◌≡◌, ◌↔◌, ℕ, ◌++◌, Bool, List, [], IsTrue, sym, subst, append-nil, append_assoc}
use Rattle.std.specs.Str.{bytes_eq}
use Rattle.std.proofs.lemmas.Bool.Decides.{same_from_decides}
use Rattle.std.proofs.lemmas.Slice.Eq.{bytes_eq-Decides}
use Rattle.dns_tsig.specs.declared.hmac.hmac.Hmac.{Hmac}
use Rattle.dns_tsig.specs.hmac.Hmac.{Keyed}
use Rattle.dns_tsig.specs.Covered.{Adds}

-- nothing is added
pub adds_none : (state : Hmac) → Adds state state []
adds_none state = λ algorithm secret text held. subst (Keyed state algorithm secret) (sym (append-nil text)) held

-- bytes are added after others
pub adds_two : (old mid new : Hmac) (x y : List ℕ) → Adds old mid x → Adds mid new y → Adds old new (x ++ y)
adds_two old mid new x y first second = λ algorithm secret text held.
    subst (Keyed new algorithm secret) (append_assoc text x y) (second algorithm secret (text ++ x) (first algorithm secret text held))

-- a test that is true exactly of equal bytes
pub same_test : (b : Bool) (cut xs ys : List ℕ) → cut ≡ xs → IsTrue b ↔ (cut ≡ ys) → b ≡ bytes_eq xs ys
same_test b cut xs ys e test =
    same_from_decides b (bytes_eq xs ys) (subst (λ (l : List ℕ). IsTrue b ↔ (l ≡ ys)) e test) (bytes_eq-Decides xs ys)
