-- The replies of a script, line by line.
use Rattle.std.proofs.Common.{◌≡◌, ◌<◌, ◌≤◌, ◌+◌, ◌++◌, ℕ, zero, suc, List, [], ◌∷◌, length, map, drop, get_or, Option, Some, None, Result, Ok, Err, Bor, refl, ap, ◌∙◌, sym, subst, add-one, append_assoc, drop-cons, append-nil, arith}
use Rattle.dns_zone_file.specs.declared.types.Types.{Types}
use Rattle.stub_script.specs.ReplyLine.{ReplyContent}
use Rattle.stub_script.specs.ReplyLines.{AreReplies, IsReplyLine, at_fault, no_line, past_other, past_reply, transport_of, with_reply}
use Rattle.stub_script.specs.declared.reply_line.ReplyTransport.{ReplyTransport}
use Rattle.stub_script.specs.declared.script_text.ScriptFault.{ScriptFault}
use Rattle.stub_script.specs.declared.script_text.ScriptFault.TheVariants.{Line}

-- replies in front of those that are still to be read
abbrev pub in_front : List ReplyContent → Result (List ReplyContent) ScriptFault → Result (List ReplyContent) ScriptFault
in_front front (Ok replies) = Ok (front ++ replies)
in_front front (Err fault) = Err fault

abbrev pub texts : List (Bor (List ℕ)) → List (List ℕ)
texts = map (λ line. line.now)

-- what is read from the line at a place on
abbrev pub Rest : Types → List (Bor (List ℕ)) → ℕ → Result (List ReplyContent) ScriptFault → Type 0
Rest types all i found = AreReplies types (i + 1) (texts (drop i all)) found

-- whatever the rest leads to, the whole leads to, with these replies in front
abbrev pub LeadsOn : Types → List (Bor (List ℕ)) → ℕ → List ReplyContent → Type 0
LeadsOn types all i front = (found : Result (List ReplyContent) ScriptFault) → Rest types all i found → Rest types all 0 (in_front front found)

texts_at : (all : List (Bor (List ℕ))) (i : ℕ) (d : Bor (List ℕ)) → i < length all
    → texts (drop i all) ≡ (get_or all i d).now ∷ texts (drop (i + 1) all)
texts_at all i d lt =
    let back : drop i all ≡ get_or all i d ∷ drop (i + 1) all = rw (add-one, drop-cons all i d lt) refl in
    ap texts back

-- nothing was read so far
pub leads_from_start : (types : Types) (all : List (Bor (List ℕ))) → LeadsOn types all 0 []
leads_from_start types all (Ok replies) rest = rest
leads_from_start types all (Err fault) rest = rest

in_front_more : (front : List ReplyContent) (reply : ReplyContent) (rest : Result (List ReplyContent) ScriptFault)
    → in_front front (with_reply reply rest) ≡ in_front (front ++ reply ∷ []) rest
in_front_more front reply (Ok replies) = ap Ok (rw append_assoc refl)
in_front_more front reply (Err fault) = refl

-- the line at a place has this text
module _ (types : Types) (all : List (Bor (List ℕ))) (i : ℕ) (d : Bor (List ℕ)) (front : List ReplyContent) (within : i < length all)
    (text : List ℕ) (same : text ≡ (get_or all i d).now) (leads : LeadsOn types all i front) where
  at_line : (found : Result (List ReplyContent) ScriptFault) → AreReplies types (i + 1) (text ∷ texts (drop (i + 1) all)) found
      → Rest types all 0 (in_front front found)
  at_line found are =
      leads found (subst (λ (ts : List (List ℕ)). AreReplies types (i + 1) ts found)
      (ap (λ (t : List ℕ). t ∷ texts (drop (i + 1) all)) same ∙ sym (texts_at all i d within)) are)

  -- it gives no reply
  pub past_other_line : transport_of text ≡ None → LeadsOn types all (i + 1) front
  past_other_line other found rest = at_line found (past_other other rest)

  -- it gives one
  pub past_one_reply : (transport : ReplyTransport) (reply : ReplyContent) → transport_of text ≡ Some transport
      → IsReplyLine types (i + 1) transport text (Some reply) → LeadsOn types all (i + 1) (front ++ reply ∷ [])
  past_one_reply transport reply is read found rest =
      subst (λ (r : Result (List ReplyContent) ScriptFault). Rest types all 0 r) (in_front_more front reply found)
      (at_line (with_reply reply found) (past_reply reply found is read rest))

  -- it cannot be read
  pub ends_at_fault : (transport : ReplyTransport) → transport_of text ≡ Some transport
      → IsReplyLine types (i + 1) transport text None → Rest types all 0 (Err (Line (i + 1)))
  ends_at_fault transport is read = at_line (Err (Line (i + 1))) (at_fault is read)

drop_all : {A : Type 0} (xs : List A) (i : ℕ) → length xs ≤ i → drop i xs ≡ []
drop_all [] zero few = refl
drop_all [] (suc i) few = refl
drop_all (x ∷ xs) zero few = absurd (omega arith)
drop_all (x ∷ xs) (suc i) few = let less : length xs ≤ i = omega arith in drop_all xs i less

-- all lines were read
pub ends_at_end : (types : Types) (all : List (Bor (List ℕ))) (i : ℕ) (front : List ReplyContent) → length all ≤ i
    → LeadsOn types all i front → Rest types all 0 (Ok front)
ends_at_end types all i front len leads =
    let none : texts (drop i all) ≡ [] = ap texts (drop_all all i len) in
    let whole : Rest types all 0 (Ok (front ++ [])) =
    leads (Ok []) (subst (λ (ts : List (List ℕ)). AreReplies types (i + 1) ts (Ok [])) (sym none) no_line) in
    subst (λ (replies : List ReplyContent). Rest types all 0 (Ok replies)) (append-nil front) whole

pub mapped_more : {A B : Type 0} (f : A → B) (xs : List A) (x : A) → map f (xs ++ x ∷ []) ≡ map f xs ++ f x ∷ []
mapped_more f [] x = refl
mapped_more {A} {B} f (y ∷ ys) x = ap (λ (zs : List B). f y ∷ zs) (mapped_more f ys x)
