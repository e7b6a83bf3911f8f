-- The text of a plan with the owners of its words.
--   owner_fields vs           the fields of the owners vs, each a number
--   owners_text vs            the line of the owners vs, with its line feed: `owners 1 1 2 2 0`
--   StatesOwners m foot vs   what follows a plan of m words says that vs are their owners: it is their line, or nothing, where each word belongs to
--                            customer 1; a byte for each word
--   StatesText room text     the text states a plan that lists with room for so many entries can hold, and the owners of its words
use Rattle.std.specs.Prelude.{ℕ, ◌≤◌, ◌≡◌, ◌⊎◌, true, List, [], ◌∷◌, ◌++◌, length, replicate}
use Rattle.limits.specs.Limits.{largest_text}
use Rattle.text_fields.specs.Decimal.{decimal}
use Rattle.text_judge.specs.declared.judge.Sizes.{Sizes}
use Rattle.text_plan.specs.Stating.{StatedEntry, Plan, plan_text}
use Rattle.text_owners.specs.Owners.{all_bytes}

unfoldable pub owner_fields : List ℕ → List ℕ
owner_fields [] = 10 ∷ []
owner_fields (v ∷ vs) = (32 ∷ decimal v) ++ owner_fields vs

unfoldable pub owners_text : List ℕ → List ℕ
owners_text vs = (111 ∷ 119 ∷ 110 ∷ 101 ∷ 114 ∷ 115 ∷ []) ++ owner_fields vs

pub record StatesOwners (m : ℕ) (foot vs : List ℕ) : Type 0 where
  pub long : length vs ≡ m
  pub bytes : all_bytes vs ≡ true
  pub said : ((foot ≡ []) × (vs ≡ replicate m 1)) ⊎ (foot ≡ owners_text vs)

pub record StatesText (room : ℕ) (text : List ℕ) : Type 0 where
  pub sizes : Sizes
  pub triples : List StatedEntry
  pub plan : Plan room sizes triples
  pub foot : List ℕ
  pub owners : List ℕ
  pub owners-stated : StatesOwners sizes.m foot owners
  pub text-is : text ≡ plan_text sizes triples ++ foot
  pub short : length text ≤ largest_text
