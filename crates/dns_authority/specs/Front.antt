-- The first records of an answer, where not all of them are needed.
use Rattle.std.specs.Prelude.{◌-◌, ℕ, length, take}
use Rattle.dns_authority.specs.declared.answer.AuthorityAnswer.{AuthorityAnswer}
use Rattle.dns_authority.specs.declared.step.Step.{Step}
use Rattle.dns_authority.specs.declared.step.Step.TheVariants.{End, Links}

-- an answer with so many of its records at most: those of the answer section come first
abbrev pub first_records : ℕ → AuthorityAnswer → AuthorityAnswer
first_records most a = record a { answers = take most a.answers; authorities = take (most - length a.answers) a.authorities }

-- an answer with so many records of each of its sections at most
abbrev pub answer_front : ℕ → AuthorityAnswer → AuthorityAnswer
answer_front most a = record a { answers = take most a.answers; authorities = take most a.authorities }

-- a step with so many records of each section of its answer at most
abbrev pub step_front : ℕ → Step → Step
step_front most (End a) = End (answer_front most a)
step_front most (Links records next) = Links records next
