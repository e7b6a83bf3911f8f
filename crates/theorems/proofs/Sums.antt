-- Questions that add up (document 02, slip 14). Three calls with owners ask y, y' and a y + b y' modulo p of one plan and of one set or certificate that passes, whoever made
-- it; c, c' and d are these calls, what they were lent, returned and left. All three must ask the same set: x depends on its pivot rows.
--   stored-sum, bytes-sum                 where the first two are not refused, the third is not; both open: open, with a x + b x' modulo p; one open and the other closed,
--                                         whose factor is not 0 modulo p: closed, with the z of the closed one (`SumRight`)
--   stored-sum-closed, bytes-sum-closed   the plain sum y + y' of an open and a closed question, whichever comes first: closed, with the z of the closed one (`SumClosed`)
-- That two closed questions may add up to an open one: `D-third`, `D-fourth` and `D-pair-opens` of the joint table (`case_table/proofs/Table`).
use Prim.Native.Nat.{ℕ}
use mathlib.Core.Path.{◌≡◌}
use mathlib.Core.List.{List}
use Rattle.algebra.specs.Mixed.{mixed_list}
use Rattle.sparse.specs.Matrix.{Compressed}
use Rattle.sparse.specs.Set.{Set}
use Rattle.call_answer.specs.Calls.{answer_factors_of, answer_certificate_of}
use Rattle.call_answer.specs.Sums.{Called, AnswersTo, LentFits, SumRight, SumClosed}
use Rattle.call_answer.proofs.Sums as sums
use Rattle.call_owned.specs.Owned.{owned_answer}
use Rattle.call_owned.proofs.Sums.{owned-sum, owned-sum-closed}

-- ---- from stored factors

module _ (p n m : ℕ) (A : Compressed) (s : Set) (y y' : List ℕ) (k k' k'' : ℕ) (c c' d : Called) where
  -- the contract of a call with owners
  abbrev Stored : ℕ → List ℕ → Called → Type 0
  Stored j q e = AnswersTo (λ x z w. owned_answer j m (answer_factors_of p n m A s q x z w)) e

  pub stored-sum : (a b : ℕ) → Stored k y c → Stored k' y' c' → Stored k'' (mixed_list m p a b y y') d → k'' ≡ m → LentFits n m d → SumRight p n m a b c c' d
  stored-sum a b call call' call'' count fits =
      owned-sum m (answer_factors_of p n m A s y) (answer_factors_of p n m A s y') (answer_factors_of p n m A s (mixed_list m p a b y y')) k k' k'' c c' d call call' call'' count p n a b
      (λ f f' f''. sums.stored-sum p n m A s a b y y' c c' d f f' f'' fits)

  pub stored-sum-closed : Stored k y c → Stored k' y' c' → Stored k'' (mixed_list m p 1 1 y y') d → k'' ≡ m → LentFits n m d → SumClosed n c c' d
  stored-sum-closed call call' call'' count fits =
      owned-sum-closed m (answer_factors_of p n m A s y) (answer_factors_of p n m A s y') (answer_factors_of p n m A s (mixed_list m p 1 1 y y')) k k' k'' c c' d call call' call'' count n
      (λ f f' f''. sums.stored-sum-closed p n m A s y y' c c' d f f' f'' fits)

-- ---- from a certificate

module _ (p n m : ℕ) (A : Compressed) (cert y y' : List ℕ) (k k' k'' : ℕ) (c c' d : Called) where
  abbrev Bytes : ℕ → List ℕ → Called → Type 0
  Bytes j q e = AnswersTo (λ x z w. owned_answer j m (answer_certificate_of p n m A cert q x z w)) e

  pub bytes-sum : (a b : ℕ) → Bytes k y c → Bytes k' y' c' → Bytes k'' (mixed_list m p a b y y') d → k'' ≡ m → LentFits n m d → SumRight p n m a b c c' d
  bytes-sum a b call call' call'' count fits =
      owned-sum m (answer_certificate_of p n m A cert y) (answer_certificate_of p n m A cert y') (answer_certificate_of p n m A cert (mixed_list m p a b y y')) k k' k'' c c' d call call' call'' count p n a b
      (λ f f' f''. sums.bytes-sum p n m A cert a b y y' c c' d f f' f'' fits)

  pub bytes-sum-closed : Bytes k y c → Bytes k' y' c' → Bytes k'' (mixed_list m p 1 1 y y') d → k'' ≡ m → LentFits n m d → SumClosed n c c' d
  bytes-sum-closed call call' call'' count fits =
      owned-sum-closed m (answer_certificate_of p n m A cert y) (answer_certificate_of p n m A cert y') (answer_certificate_of p n m A cert (mixed_list m p 1 1 y y')) k k' k'' c c' d call call' call'' count n
      (λ f f' f''. sums.bytes-sum-closed p n m A cert y y' c c' d f f' f'' fits)
