-- Parts of texts, and their words.
use Rattle.std.proofs.Common.{◌≡◌, ℕ, List, [], ◌++◌, ◌<◌, length, get_or, take, drop, Bor, Option, Some, None, sym, ap, subst, ◌∙◌, append_assoc, append-nil}
use Rattle.std.specs.Prelude.{IfSome, option_copied, slice_get}
use Rattle.std.proofs.lemmas.List.{take-append-drop}
use Rattle.std.proofs.lemmas.Option.{slice_get_read}
use Rattle.std.specs.Str.Iter.{HasSubslice}
use Rattle.std.specs.Str.Lines.{lines}
use Rattle.zone_check.specs.findings.Finding.{Said, Sentences, finding_text, line_text}
use Rattle.zone_check.specs.Fault.{fault_said}
use Rattle.zone_check.specs.ScriptText.{IsLineReport, is_mark_reason, is_marked}
use Rattle.zone_check.specs.declared.findings.format.ReportFormat.{ReportFormat}
use Rattle.zone_check.specs.ScriptLine.{IsWordOf}

pub part_whole : (text : List ℕ) → HasSubslice text text
part_whole text = ([], [], sym (append-nil text))

pub part_front : (text front rest : List ℕ) (i : ℕ) → front ≡ take i text → rest ≡ drop i text → HasSubslice text front
part_front text front rest i front_is rest_is = ([], rest, sym (ap (λ (l : List ℕ). l ++ rest) front_is ∙ ap (λ (l : List ℕ). take i text ++ l) rest_is ∙ take-append-drop i text))

pub part_rest : (text front rest : List ℕ) (i : ℕ) → front ≡ take i text → rest ≡ drop i text → HasSubslice text rest
part_rest text front rest i front_is rest_is =
    (front, [], sym (ap (λ (l : List ℕ). front ++ l) (append-nil rest) ∙ ap (λ (l : List ℕ). l ++ rest) front_is ∙ ap (λ (l : List ℕ). take i text ++ l) rest_is ∙ take-append-drop i text))

-- a part of a part is one of the whole
pub part_of_part : (whole part piece : List ℕ) → HasSubslice whole part → HasSubslice part piece → HasSubslice whole piece
part_of_part whole part piece (a, b, e) (c, d, f) =
    (a ++ c, d ++ b, e ∙ ap (λ (l : List ℕ). a ++ (l ++ b)) f ∙ simp append_assoc)

-- and so is a word
pub word_of_part : (whole part word : List ℕ) → HasSubslice whole part → IsWordOf part word → IsWordOf whole word
word_of_part whole part word in_whole is = (is.0, is.1, part_of_part whole part word in_whole is.2)

-- one of the words of a text
pub word_got : (text : List ℕ) (words given : List (Bor (List ℕ))) (i : ℕ) (word : Bor (List ℕ))
    → ((k : ℕ) → IfSome (slice_get words k) (λ w. IsWordOf text w.now)) → given ≡ words → i < length given → word ≡ get_or given i word
    → IsWordOf text word.now
word_got text words given i word all same within is =
    subst (λ (o : Option (Bor (List ℕ))). IfSome o (λ w. IsWordOf text w.now))
    (slice_get_read words (length given) i word (ap (λ (l : List (Bor (List ℕ))). length l) same) within (is ∙ ap (λ (l : List (Bor (List ℕ))). get_or l i word) same))
    (all i)

-- a fact of what a reference points to, if there is one
pub word_shown : (word : Option (Bor (List ℕ))) (P : List ℕ → Type 0) → IfSome word (λ w. P w.now) → IfSome (option_copied word) P
word_shown (Some w) P holds = holds
word_shown None P holds = holds

pub line_reported : (format : ReportFormat) (file text : List ℕ) (line : ℕ) (shown : List ℕ) (word : Option (Bor (List ℕ))) (advice : Sentences)
    (start report : List ℕ) (before after : List (List ℕ)) (said : Said) → before ≡ lines text → after ≡ lines text
    → shown ≡ line_text before (Some line) → start ≡ [] → said ≡ fault_said 0 (Some line) (option_copied word) advice
    → IfSome word (λ w. IsWordOf shown w.now) → is_mark_reason advice.reason ≡ is_marked line shown → report ≡ start ++ finding_text format file after said → IsLineReport format file text line report
line_reported format file text line shown word advice start report before after said before_is after_is shown_is none said_is holds marked pushed = record {
  word = option_copied word;
  advice = advice;
  word_of_line =
      word_shown word (IsWordOf (line_text (lines text) (Some line)))
      (subst (λ (l : List ℕ). IfSome word (λ w. IsWordOf l w.now)) (shown_is ∙ ap (λ (l : List (List ℕ)). line_text l (Some line)) before_is) holds);
  mark_is = marked ∙ ap (is_marked line) (shown_is ∙ ap (λ (l : List (List ℕ)). line_text l (Some line)) before_is);
  report_is =
      pushed ∙ ap (λ (l : List ℕ). l ++ finding_text format file after said) none
      ∙ ap (λ (l : List (List ℕ)). finding_text format file l said) after_is
      ∙ ap (λ (s : Said). finding_text format file (lines text) s) said_is;
}
