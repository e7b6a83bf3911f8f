-- The table of numbers, for the faults that code names.
--   number f    document 01's number of a fault
use Rattle.std.specs.Prelude.{ℕ}
use Rattle.refusals.specs.declared.Fault.{Fault}
use Rattle.refusals.specs.declared.Fault.TheVariants.{BadModulus, OverLimit, Malformed, OutsidePlan, RepeatedPlace, ValueOutOfRange, StorageTooShort, BadPlan, WrongLength, BadHeader, NoPermutation, RankTooLarge, BadFactors, ProductDiffers, QuestionTooLarge, OwnerTooLarge}
use Rattle.refusals.specs.Table.{bad_modulus, over_limit, malformed, outside_plan, repeated_place, value_out_of_range, storage_too_short, bad_plan, wrong_length, bad_header, no_permutation, rank_too_large, bad_factors, product_differs, question_too_large, owner_too_large}

abbrev pub number : Fault → ℕ
number BadModulus = bad_modulus
number OverLimit = over_limit
number Malformed = malformed
number OutsidePlan = outside_plan
number RepeatedPlace = repeated_place
number ValueOutOfRange = value_out_of_range
number StorageTooShort = storage_too_short
number BadPlan = bad_plan
number WrongLength = wrong_length
number BadHeader = bad_header
number NoPermutation = no_permutation
number RankTooLarge = rank_too_large
number BadFactors = bad_factors
number ProductDiffers = product_differs
number QuestionTooLarge = question_too_large
number OwnerTooLarge = owner_too_large
