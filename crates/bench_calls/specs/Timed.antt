-- What the timed calls give.
--   if_passed o k         k where the outcome is passed, else 0
--   held_rank s           the rank that stages found, 0 where one of them refused
--   timed_rank text       the rank of a text's plan by reading and factoring, 0 where one of them refuses
--   timed_words text h b  the line of the words that give slot values, for a buffer of b bytes; nothing where these are too few, or the values more than 2,049
use Rattle.std.specs.Prelude.{ℕ, cond, List, [], ltb, length}
use Rattle.limits.specs.Limits.{print_room, starts_length}
use Rattle.refusals.specs.Refusals.{◌▷◌}
use Rattle.refusals.specs.Outcome.{Outcome}
use Rattle.refusals.specs.Outcome.{Passed, Refused}
use Rattle.stages.specs.Results.{Stages}
use Rattle.stages.specs.Stages.{reading, factored_of}
use Rattle.ask_words.specs.Solving.{words_of}

-- ---- reading and factoring

abbrev pub if_passed : Outcome → ℕ → ℕ
if_passed Passed k = k
if_passed (Refused number detail) k = 0

unfoldable pub held_rank : Stages → ℕ
held_rank s = if_passed (s.reading.outcome ▷ s.factored.outcome) s.factored.rank

unfoldable pub timed_rank : List ℕ → ℕ
timed_rank text =
    let x = reading text in
    let f = factored_of x in
    if_passed (x.result.outcome ▷ f.outcome) f.rank

-- ---- the words

unfoldable pub timed_words : (text h : List ℕ) → ℕ → List ℕ
timed_words text h b = cond (ltb b print_room) [] (cond (ltb starts_length (length h)) [] (words_of text h))
