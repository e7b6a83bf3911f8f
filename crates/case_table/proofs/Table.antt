-- The joint table of the proved cases of document 01 ("Report and cases"), those of plan D as slip 9 works them anew, of the owners that may follow it (slip 4) and of
-- questions that add up (slip 14), of slot values (slip 6) and of the settings that fit (slip 7), each by computing the definitions that the contracts cite. D's pairs, factors and rooms are computed beside the rule, in
-- elimination's Example.
use Prim.Native.Nat.{ℕ}
use mathlib.Core.Path.{◌≡◌, refl}
use mathlib.Core.List.{List, [], ◌∷◌, ◌++◌, flatten}
use mathlib.Core.Option.{none, some}
use lib.ListN.{take}
use Rattle.lists.specs.Filled.{zeros}
use Rattle.lists.specs.Tabulate.{tabulate}
use Rattle.lists.specs.Tests.{all, first, among}
use Rattle.refusals.specs.Outcome.{Outcome}
use Rattle.refusals.specs.Outcome.{Passed, Refused}
use Rattle.algebra.specs.Sum.{sum, dot, δ, place}
use Rattle.algebra.specs.Prime.{Prime}
use Rattle.algebra.specs.Matrix.{vector}
use Rattle.algebra.specs.Rank.{Rank}
use Rattle.algebra.specs.Reduction.{reduced, multiples}
use Rattle.algebra.specs.Mixed.{mixed_list}
use Rattle.residue.specs.Inverse.{inv_mod, inverse_below}
use Rattle.residue.specs.Primality.{is_prime, divided_below}
use Rattle.residue.specs.Range.{is_modulus}
use Rattle.residue.proofs.Primes.{true-prime}
use Rattle.sparse.specs.Words.{words}
use Rattle.sparse.specs.Matrix.{matrix}
use Rattle.sparse.specs.Form.{starts_from, starts_ok, rises_from, rows_from, values_ok, well_formed}
use Rattle.sparse.specs.Row.{weigh}
use Rattle.sparse.specs.Dense.{columns_from, nonzeros, starts_after, all_columns, all_values, compress}
use Rattle.pluq.specs.Order.{below, distinct, permutation}
use Rattle.pluq.specs.Shape.{lower_row, lower, upper_row, upper}
use Rattle.pluq.specs.Judge.{agrees, product_outcome, judge_factors, judge}
use Rattle.row_space.specs.Substitution.{back_l, back_u}
use Rattle.row_space.specs.Solve.{lowest_of, solve}
use Rattle.row_space.specs.declared.Verdict.TheVariants.{Open, Closed}
use Rattle.row_space.specs.Kernel.{free_columns, setting, kernel_basis}
use Rattle.column_space.specs.Substitution.{forward, settle}
use Rattle.column_space.specs.Slots.{values, gap, position, lowest_gap, setting_of, left_kernel, solve_slots}
use Rattle.column_space.specs.declared.SlotVerdict.TheVariants.{Solved, Contradiction}
use Rattle.elimination.specs.Structural.{leads, prefer, chosen, leading}
use Rattle.elimination.specs.Chains.{chain, closes}
use Rattle.elimination.specs.Selection.{pair_at, lower_pair as lower_of, without, unfit, extended, extended_to, free, lowest, ordered, selected, structural}
use Rattle.elimination.specs.Pivots.{columns_of, uppers_of, multiples_by, with_pivot, with_dependent, placed_row, turn, turns}
use Rattle.lists.specs.Rest.{rest}
use Rattle.elimination.specs.Factoring.{schedule, rows_of, lowers_of, factored, factor_from, factor}
use Rattle.elimination.proofs.Theorem.{factor-rank}
use Rattle.elimination.proofs.Example.{room_d, D-pairs as pairs-computed, D-factors as factors-computed, D-rooms as rooms-computed}
use Rattle.certificate.specs.Layout.{bytes, mark, version, factor_numbers, numbers_of, certificate_of}
use Rattle.certificate.specs.Reading.{places_of, field, set_in, set_of_certificate, begins, length_ok, sizes_ok, header_ok}
use Rattle.limits.specs.Limits.{work_length}
use Rattle.call_plan.specs.Tests.{plan_lengths, set_lengths, limits_ok, plan_outcome}
use Rattle.call_check.specs.Calls.{certificate_outcome, check_certificate_of}
use Rattle.text_fields.specs.Pieces.{pieces}
use Rattle.text_fields.specs.Number.{digits_from, number_in}
use Rattle.text_owners.specs.Owners.{is_owners_word, fields_in, field_numbers, owners_line, all_bytes, not_read, owned, owners_in}
use Rattle.case_table.specs.Plans.{none as silent, blank, ones, D, set_d, earlier_d, thrice, falling, single, backward}

-- the certificate of D's set, with l for L[3][3] and u for U[0][0], checked with a working row of its length
abbrev pub certificate_d : ℕ → ℕ → Outcome
certificate_d l u = check_certificate_of 7 5 5 D (certificate_of 7 5 5 (set_d l u)) work_length

abbrev pub bytes_d : List ℕ
bytes_d = certificate_of 7 5 5 (set_d 3 1)

pub record Table : Type 0 where
  -- n = m = 0
  pub empty-rank : Rank 7 0 0 (matrix silent) 0
  pub empty-open : (solve 7 0 0 (factor 7 0 0 silent) (vector [])).verdict ≡ Open
  -- n = 0, m = 1
  pub silent-closed : (solve 7 0 1 (factor 7 0 1 silent) (vector (1 ∷ []))).verdict ≡ Closed
  pub silent-z : (solve 7 0 1 (factor 7 0 1 silent) (vector (1 ∷ []))).z ≡ 1 ∷ []
  -- two by two with no entries; two rows of three ones modulo 2
  pub blank-rank : Rank 7 2 2 (matrix blank) 0
  pub ones-rank : Rank 2 2 3 (matrix ones) 1
  -- plan D: the structural pivots; R, C, U, L and the rank
  pub D-pairs : structural D 5 5 ≡ pair_at 0 0 ∷ pair_at 3 2 ∷ pair_at 1 1 ∷ pair_at 4 4 ∷ []
  pub D-factors : factor 7 5 5 D ≡ set_d 3 1
  pub D-rank : Rank 7 5 5 (matrix D) 4
  pub D-passes : certificate_d 3 1 ≡ Passed
  -- D with room for so many entries of L and of U: 6 and 7 suffice; else refusal 7 at the row given
  pub D-room : room_d 6 7 ≡ none
  pub D-room-for-L : room_d 4 7 ≡ some 2
  pub D-room-for-U : room_d 6 6 ≡ some 4
  -- D's certificate one byte short, and one byte long
  pub D-short : check_certificate_of 7 5 5 D (take 216 bytes_d) work_length ≡ Refused 10 0
  pub D-long : check_certificate_of 7 5 5 D (bytes_d ++ 0 ∷ []) work_length ≡ Refused 10 0
  -- D's edited certificates: L[3][3] = 4, and U[0][0] = 2
  pub D-product : certificate_d 4 1 ≡ Refused 14 3
  pub D-shape : certificate_d 3 2 ≡ Refused 13 0
  -- the set that was made before slip 9
  pub D-earlier : check_certificate_of 7 5 5 D (certificate_of 7 5 5 earlier_d) work_length ≡ Passed
  -- D's questions
  pub D-word : solve 7 5 5 (set_d 3 1) (vector (0 ∷ 0 ∷ 0 ∷ 0 ∷ 1 ∷ [])) ≡ record { verdict = Open; x = 0 ∷ 0 ∷ 0 ∷ 0 ∷ 5 ∷ []; z = 0 ∷ 0 ∷ 0 ∷ 0 ∷ 0 ∷ [] }
  pub D-sum : solve 7 5 5 (set_d 3 1) (vector (0 ∷ 0 ∷ 1 ∷ 6 ∷ 0 ∷ [])) ≡ record { verdict = Open; x = 0 ∷ 6 ∷ 0 ∷ 3 ∷ 0 ∷ []; z = 0 ∷ 0 ∷ 0 ∷ 0 ∷ 0 ∷ [] }
  pub D-hidden : solve 7 5 5 (set_d 3 1) (vector (1 ∷ 0 ∷ 0 ∷ 0 ∷ 0 ∷ [])) ≡ record { verdict = Closed; x = 0 ∷ 0 ∷ 0 ∷ 0 ∷ 0 ∷ []; z = 3 ∷ 2 ∷ 1 ∷ 1 ∷ 0 ∷ [] }
  -- questions that add up: two closed ones to the open one above, and 3 times the open word with 2 times that open one
  pub D-third : solve 7 5 5 (set_d 3 1) (vector (0 ∷ 0 ∷ 1 ∷ 0 ∷ 0 ∷ [])) ≡ record { verdict = Closed; x = 0 ∷ 0 ∷ 0 ∷ 0 ∷ 0 ∷ []; z = 3 ∷ 2 ∷ 1 ∷ 1 ∷ 0 ∷ [] }
  pub D-fourth : solve 7 5 5 (set_d 3 1) (vector (0 ∷ 0 ∷ 0 ∷ 6 ∷ 0 ∷ [])) ≡ record { verdict = Closed; x = 0 ∷ 0 ∷ 0 ∷ 0 ∷ 0 ∷ []; z = 3 ∷ 2 ∷ 1 ∷ 1 ∷ 0 ∷ [] }
  pub D-pair : mixed_list 5 7 1 1 (0 ∷ 0 ∷ 1 ∷ 0 ∷ 0 ∷ []) (0 ∷ 0 ∷ 0 ∷ 6 ∷ 0 ∷ []) ≡ 0 ∷ 0 ∷ 1 ∷ 6 ∷ 0 ∷ []
  pub D-pair-opens : solve 7 5 5 (set_d 3 1) (vector (mixed_list 5 7 1 1 (0 ∷ 0 ∷ 1 ∷ 0 ∷ 0 ∷ []) (0 ∷ 0 ∷ 0 ∷ 6 ∷ 0 ∷ [])))
      ≡ record { verdict = Open; x = 0 ∷ 6 ∷ 0 ∷ 3 ∷ 0 ∷ []; z = 0 ∷ 0 ∷ 0 ∷ 0 ∷ 0 ∷ [] }
  pub D-mixed : solve 7 5 5 (set_d 3 1) (vector (mixed_list 5 7 3 2 (0 ∷ 0 ∷ 0 ∷ 0 ∷ 1 ∷ []) (0 ∷ 0 ∷ 1 ∷ 6 ∷ 0 ∷ [])))
      ≡ record { verdict = Open; x = 0 ∷ 5 ∷ 0 ∷ 6 ∷ 1 ∷ []; z = 0 ∷ 0 ∷ 0 ∷ 0 ∷ 0 ∷ [] }
  pub D-mixed-x : mixed_list 5 7 3 2 (0 ∷ 0 ∷ 0 ∷ 0 ∷ 5 ∷ []) (0 ∷ 6 ∷ 0 ∷ 3 ∷ 0 ∷ []) ≡ 0 ∷ 5 ∷ 0 ∷ 6 ∷ 1 ∷ []
  -- D's slot values: those of a setting, and those with 5 for 4 in the third slot, which is 2 times the first and the second added up
  pub D-words : solve_slots 7 5 5 (set_d 3 1) (vector (1 ∷ 2 ∷ 4 ∷ 3 ∷ 5 ∷ [])) ≡ record { verdict = Solved; s = 4 ∷ 3 ∷ 0 ∷ 0 ∷ 4 ∷ []; w = 0 ∷ 0 ∷ 0 ∷ 0 ∷ 0 ∷ [] }
  pub D-contradiction : solve_slots 7 5 5 (set_d 3 1) (vector (1 ∷ 2 ∷ 5 ∷ 3 ∷ 5 ∷ [])) ≡ record { verdict = Contradiction; s = 0 ∷ 0 ∷ 0 ∷ 0 ∷ 0 ∷ []; w = 5 ∷ 6 ∷ 1 ∷ 0 ∷ 0 ∷ [] }
  -- no slots; no words, where h is 0 and 2; three slots of one word in the order 0, 2, 1, of which two contradict the first: the lowest-numbered counts, not the
  -- first of the order
  pub silent-words : solve_slots 7 0 1 (factor 7 0 1 silent) (vector []) ≡ record { verdict = Solved; s = 0 ∷ []; w = [] }
  pub wordless : solve_slots 7 2 0 (factor 7 2 0 blank) (vector (0 ∷ 2 ∷ [])) ≡ record { verdict = Contradiction; s = []; w = 0 ∷ 1 ∷ [] }
  pub falling-passes : judge 7 3 1 thrice falling ≡ Passed
  pub lowest-slot : solve_slots 7 3 1 falling (vector (1 ∷ 2 ∷ 3 ∷ [])) ≡ record { verdict = Contradiction; s = 0 ∷ []; w = 6 ∷ 1 ∷ 0 ∷ [] }
  -- the settings of the free columns: of D; of one slot, 0 2 1, also by a set whose free columns fall; of no slots and two words; of no words, and where every word
  -- is a pivot
  pub D-settings : kernel_basis 7 5 (set_d 3 1) ≡ 3 ∷ 2 ∷ 1 ∷ 1 ∷ 0 ∷ []
  pub single-settings : kernel_basis 7 3 (factor 7 1 3 single) ≡ 1 ∷ 0 ∷ 0 ∷ 0 ∷ 3 ∷ 1 ∷ []
  pub backward-passes : judge 7 1 3 single backward ≡ Passed
  pub backward-settings : kernel_basis 7 3 backward ≡ 1 ∷ 0 ∷ 0 ∷ 0 ∷ 3 ∷ 1 ∷ []
  pub silent-settings : kernel_basis 7 2 (factor 7 0 2 silent) ≡ 1 ∷ 0 ∷ 0 ∷ 1 ∷ []
  pub empty-settings : kernel_basis 7 0 (factor 7 0 0 silent) ≡ []
  pub full-settings : kernel_basis 7 1 falling ≡ []
  -- what may follow D's text, from line 15 on: nothing; `owners 1 1 2 2 0`; 256 among them, and a malformed number after it; no words and the bare word `owners`
  pub D-unowned : owners_in 5 15 (pieces 10 []) ≡ owned (1 ∷ 1 ∷ 1 ∷ 1 ∷ 1 ∷ [])
  pub D-owners : owners_in 5 15 (pieces 10 (111 ∷ 119 ∷ 110 ∷ 101 ∷ 114 ∷ 115 ∷ 32 ∷ 49 ∷ 32 ∷ 49 ∷ 32 ∷ 50 ∷ 32 ∷ 50 ∷ 32 ∷ 48 ∷ 10 ∷ [])) ≡ owned (1 ∷ 1 ∷ 2 ∷ 2 ∷ 0 ∷ [])
  pub D-owner-256 : owners_in 5 15 (pieces 10 (111 ∷ 119 ∷ 110 ∷ 101 ∷ 114 ∷ 115 ∷ 32 ∷ 50 ∷ 53 ∷ 54 ∷ 32 ∷ 49 ∷ 32 ∷ 50 ∷ 32 ∷ 50 ∷ 32 ∷ 48 ∷ 10 ∷ [])) ≡ not_read 16 15
  pub D-owner-malformed : owners_in 5 15 (pieces 10 (111 ∷ 119 ∷ 110 ∷ 101 ∷ 114 ∷ 115 ∷ 32 ∷ 50 ∷ 53 ∷ 54 ∷ 32 ∷ 49 ∷ 32 ∷ 50 ∷ 32 ∷ 50 ∷ 32 ∷ 48 ∷ 49 ∷ 10 ∷ [])) ≡ not_read 3 15
  pub no-owners : owners_in 0 4 (pieces 10 (111 ∷ 119 ∷ 110 ∷ 101 ∷ 114 ∷ 115 ∷ 10 ∷ [])) ≡ owned []

-- the primes of the cases, by the test
seven : Prime 7
unfolding is_prime divided_below
seven = true-prime 7 refl

two : Prime 2
unfolding is_prime divided_below
two = true-prime 2 refl

pub table : Table
unfolding zeros tabulate all first sum dot δ place reduced inv_mod inverse_below starts_from starts_ok rises_from rows_from values_ok well_formed weigh columns_from nonzeros starts_after all_columns all_values compress among below distinct permutation lower_row lower upper_row upper agrees product_outcome judge_factors judge back_l back_u lowest solve leads prefer chosen leading chain closes lower_of without unfit extended extended_to free lowest_of ordered selected structural columns_of uppers_of multiples_by multiples with_pivot with_dependent placed_row turn turns rest schedule rows_of lowers_of factored factor_from factor words bytes mark version factor_numbers numbers_of certificate_of places_of field set_in set_of_certificate begins length_ok sizes_ok header_ok is_prime divided_below is_modulus plan_lengths set_lengths limits_ok plan_outcome certificate_outcome check_certificate_of pieces number_in digits_from forward settle values gap position lowest_gap setting_of left_kernel solve_slots free_columns setting kernel_basis flatten is_owners_word fields_in field_numbers owners_line all_bytes owners_in
table =
    record {
      empty-rank = factor-rank 7 0 0 silent seven refl refl;
      empty-open = refl;
      silent-closed = refl;
      silent-z = refl;
      blank-rank = factor-rank 7 2 2 blank seven refl refl;
      ones-rank = factor-rank 2 2 3 ones two refl refl;
      D-pairs = pairs-computed;
      D-factors = factors-computed;
      D-rank = factor-rank 7 5 5 D seven refl refl;
      D-passes = refl;
      D-room = rooms-computed.0;
      D-room-for-L = rooms-computed.1;
      D-room-for-U = rooms-computed.2;
      D-short = refl;
      D-long = refl;
      D-product = refl;
      D-shape = refl;
      D-earlier = refl;
      D-word = refl;
      D-sum = refl;
      D-hidden = refl;
      D-unowned = refl;
      D-owners = refl;
      D-owner-256 = refl;
      D-owner-malformed = refl;
      no-owners = refl;
      D-third = refl;
      D-fourth = refl;
      D-pair = refl;
      D-pair-opens = refl;
      D-mixed = refl;
      D-mixed-x = refl;
      D-words = refl;
      D-contradiction = refl;
      silent-words = refl;
      wordless = refl;
      falling-passes = refl;
      lowest-slot = refl;
      D-settings = refl;
      single-settings = refl;
      backward-passes = refl;
      backward-settings = refl;
      silent-settings = refl;
      empty-settings = refl;
      full-settings = refl;
    }
