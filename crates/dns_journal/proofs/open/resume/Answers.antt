use Rattle.std.proofs.Common.{◌≡◌, ◌≤◌, ◌+◌, ◌-◌, ℕ, List, [], length, take, drop, ap, refl, arith, ◌∙◌}
use Rattle.std.proofs.lemmas.List.{take_all, length-drop}
use Rattle.dns_journal.specs.format.Format.{digest_in, key_in}
use Rattle.std.proofs.lemmas.Bool.Decides.{nat_tests}
use Rattle.dns_journal.proofs.OpeningLaws.{nothing, nothing_cut, cut_done, cut_torn, cut_lost, position_is}
use Rattle.dns_journal.proofs.open.resume.Goals as goal

within : (len end size : ℕ) → len + end ≡ size → end ≤ size
within len end size sum = omega (arith, sum)

place : (len end size : ℕ) → len + end ≡ size → len ≡ size - end
place len end size sum = omega (arith, sum)

digest_of : {digest : List ℕ} (content head : List ℕ) → content ≡ head → digest ≡ take 32 content → digest ≡ digest_in head
digest_of content head same is = is ∙ ap (λ (l : List ℕ). take 32 l) same

key_of : {key : List ℕ} (content head : List ℕ) (m : ℕ) → content ≡ head → length content ≡ 48 → m ≡ length content - 32 → key ≡ take m (drop 32 content) → key ≡ key_in head
key_of content head m same len all is = is ∙ take_all m (drop 32 content) (omega (arith, all, length-drop 32 content)) ∙ ap (λ (l : List ℕ). drop 32 l) same

pub returns-then-is_empty-clause-resumes : goal.returns-then-is_empty-clause-resumes
returns-then-is_empty-clause-resumes g c =
    let size : length c.args.content.now.end.now ≡ 0 = grind (arith, nat_tests, c.if-is_empty.ensures) in
    let none : c.args.content.now.end.now ≡ [] = nothing c.args.content.now.end.now size in
    record {
      events = [];
      led = refl;
      holds = λ text bytes head payloads journal sum. nothing_cut c.an_end_may_be_cut_short.ensures c.a_journal_without_its_end_is_whole.ensures text bytes head c.args.content.now.end.now payloads journal
          (within _ _ _ sum) none;
    }

pub returns-then-is_empty-clause-position : goal.returns-then-is_empty-clause-position
returns-then-is_empty-clause-position g c bytes head payloads journal sum same link_is =
    position_is c.an_end_may_be_cut_short.ensures c.a_journal_without_its_end_is_whole.ensures [] bytes head c.args.content.now.end.now payloads journal
    (within _ _ _ sum) _ (place _ _ _ sum) (digest_of _ _ same c.digest_array.ensures) (key_of _ _ _ same c.requires refl c.key_array.ensures) link_is

pub returns-in-Ready-clause-position : goal.returns-in-Ready-clause-position
returns-in-Ready-clause-position g c bytes head payloads journal sum same link_is =
    position_is c.an_end_may_be_cut_short.ensures c.a_journal_without_its_end_is_whole.ensures [] bytes head c.args.content.now.end.now payloads journal
    (within _ _ _ sum) _ (place _ _ _ sum) (digest_of _ _ same c.digest_array.ensures) (key_of _ _ _ same c.requires refl c.key_array.ensures) link_is

pub returns-in-Ready-clause-resumes : goal.returns-in-Ready-clause-resumes
returns-in-Ready-clause-resumes g c =
    record {
      events = c.in-Ready.ensures.events;
      led = c.in-Ready.ensures.led;
      holds = λ text bytes head payloads journal sum. cut_done c.an_end_may_be_cut_short.ensures c.a_journal_without_its_end_is_whole.ensures text bytes head c.args.content.now.end.now payloads journal
          (within _ _ _ sum) c.in-Ready.ensures.events _ (place _ _ _ sum) c.in-Ready.ensures.holds;
    }

pub returns-in-Torn-clause-resumes : goal.returns-in-Torn-clause-resumes
returns-in-Torn-clause-resumes g c =
    record {
      events = c.in-Torn.ensures.events;
      led = c.in-Torn.ensures.led;
      holds = λ text bytes head payloads journal sum. cut_torn c.an_end_may_be_cut_short.ensures c.a_journal_without_its_end_is_whole.ensures text bytes head c.args.content.now.end.now payloads journal
          (within _ _ _ sum) c.in-Torn.ensures.events _ (place _ _ _ sum) c.in-Torn.ensures.holds;
    }

pub returns-in-Lost-clause-resumes : goal.returns-in-Lost-clause-resumes
returns-in-Lost-clause-resumes g c =
    record {
      events = c.in-Lost.ensures.events;
      led = c.in-Lost.ensures.led;
      holds = λ text bytes head payloads journal sum. cut_lost c.an_end_may_be_cut_short.ensures c.a_journal_without_its_end_is_whole.ensures text bytes head c.args.content.now.end.now payloads journal
          (within _ _ _ sum) c.in-Lost.ensures.events _ (place _ _ _ sum) c.in-Lost.ensures.holds;
    }
