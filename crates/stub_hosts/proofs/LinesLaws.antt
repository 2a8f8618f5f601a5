-- What reading the lines of a hosts file inserts.
use Rattle.std.proofs.Common.{◌≡◌, ℕ, suc, List, [], ◌∷◌, ◌++◌, length, drop, Option, Some, Result, Ok, Err, refl, ap, sym, ◌∙◌, subst, append_assoc, append-nil, drop-cons}
use Rattle.std.specs.Prelude.{map}
use Rattle.std.specs.Iterator.{Yields}
use Rattle.std.proofs.lemmas.Iterator.{YieldsList}
use Rattle.std.proofs.lemmas.Iterator.Consumers.{YieldsList-so_far, YieldsList-turn}
use Rattle.std.proofs.lemmas.List.{take-append-drop}
use Rattle.stub_hosts.specs.Hosts.{HostsContent, with_hosts}
use Rattle.stub_hosts.specs.HostsFile.{Host, ReadsLine, ReadsLines, at_end, at_line, at_fault}
use Rattle.stub_hosts.specs.declared.hosts.file.HostsFault.{HostsFault}
use Rattle.stub_hosts.proofs.FileLaws.{with_hosts-append}

-- what is left of a list that an iterator yields, from the item that comes next
pub next_left : {S A B : Type 0} {steps : S → Option A → S → Type 0} {v : A → B} {s : S} {all : List B} (e : YieldsList steps v s all) (xs : List A) (t : S) (y : Yields steps s xs t)
    → (r : Option A) (u : S) (x : A) → r ≡ Some x → steps t r u → (rest : List B) × (all ≡ map v xs ++ v x ∷ rest)
next_left {v = v} {all = all} e xs t y r u x is step =
    let turn = YieldsList-turn e xs t y r u x is step in (
      drop (suc (length xs)) all,
      sym (take-append-drop (length xs) all) ∙ (ap (λ front. front ++ drop (length xs) all) (sym (YieldsList-so_far e xs t y))
          ∙ ap (λ left. map v xs ++ left) (drop-cons all (length xs) (v x) turn.0 ∙ ap (λ b. b ∷ drop (suc (length xs)) all) (sym turn.1))),
    )

-- ---- lines

-- the hosts of the lines so far are inserted
pub record LinesBefore (now : ℕ) (old new : HostsContent) (seen : List (List ℕ)) : Type 0 where
  pub done : List Host
  pub inserted : new ≡ with_hosts now old done
  pub reads : (rest : List (List ℕ)) (more : List Host) (outcome : Result (Unit {0}) HostsFault)
      → ReadsLines rest more outcome → ReadsLines (seen ++ rest) (done ++ more) outcome

pub lines_begin : (now : ℕ) (old : HostsContent) → LinesBefore now old old []
lines_begin now old = record { done = []; inserted = refl; reads = λ rest more outcome r. r }

module _ {now : ℕ} {old cur : HostsContent} {seen : List (List ℕ)} (before : LinesBefore now old cur seen) where
  joined_hosts : (new : HostsContent) (hosts : List Host) → new ≡ with_hosts now cur hosts → new ≡ with_hosts now old (before.done ++ hosts)
  joined_hosts new hosts is = is ∙ (ap (λ (h : HostsContent). with_hosts now h hosts) before.inserted ∙ sym (with_hosts-append now old before.done hosts))

  pub lines_next : (new : HostsContent) (line : List ℕ) → (hosts : List Host) × ReadsLine line hosts (Ok tt) × (new ≡ with_hosts now cur hosts) → LinesBefore now old new (seen ++ line ∷ [])
  lines_next new line read = record {
    done = before.done ++ read.0;
    inserted = joined_hosts new read.0 read.2;
    reads = λ rest more outcome r.
        subst (λ lines. ReadsLines lines ((before.done ++ read.0) ++ more) outcome) (sym (append_assoc seen (line ∷ []) rest))
        (subst (λ hosts. ReadsLines (seen ++ line ∷ rest) hosts outcome) (sym (append_assoc before.done read.0 more))
        (before.reads (line ∷ rest) (read.0 ++ more) outcome (at_line read.0 more read.1 r)));
  }

  pub lines_stop : (new : HostsContent) (all : List (List ℕ)) (line : List ℕ) (fault : HostsFault) → (rest : List (List ℕ)) × (all ≡ seen ++ line ∷ rest)
      → (hosts : List Host) × ReadsLine line hosts (Err fault) × (new ≡ with_hosts now cur hosts)
      → (hosts : List Host) × ReadsLines all hosts (Err fault) × (new ≡ with_hosts now old hosts)
  lines_stop new all line fault left read = (
    before.done ++ read.0,
    subst (λ lines. ReadsLines lines (before.done ++ read.0) (Err fault)) (sym left.1) (before.reads (line ∷ left.0) read.0 (Err fault) (at_fault read.1)),
    joined_hosts new read.0 read.2,
  )

  pub lines_end : (all : List (List ℕ)) → all ≡ seen → (hosts : List Host) × ReadsLines all hosts (Ok tt) × (cur ≡ with_hosts now old hosts)
  lines_end all is = (
    before.done ++ [],
    subst (λ lines. ReadsLines lines (before.done ++ []) (Ok tt)) (append-nil seen ∙ sym is) (before.reads [] [] (Ok tt) at_end),
    before.inserted ∙ ap (with_hosts now old) (sym (append-nil before.done)),
  )
