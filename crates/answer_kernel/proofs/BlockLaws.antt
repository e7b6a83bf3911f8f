-- The setting of one column in its block: nothing where the column is a pivot column, else m cells from the place `at` on.
use mathlib.Core.Path.{◌≡◌, refl, sym, ap, ◌∙◌}
use mathlib.Core.Bool.{Bool, true, false, cond}
use mathlib.Core.List.{List, [], ◌∷◌, ◌++◌, flatten, append_assoc, append-nil}
use Prim.Native.Nat.{ℕ, ◌+◌, ◌-◌, ◌≤◌, ◌<◌}
use native.Mathlib.Omega.{arith}
use lib.ListN.{length, get_or, take, drop, length-drop}
use lib.Seq.{sets-eq, length-take-le, drop-drop}
use Rattle.lists.specs.Stored.{Stored}
use Rattle.lists.specs.Tests.{among}
use Rattle.lists.proofs.Stored.{stored-none, stored-as}
use Rattle.algebra.specs.Sum.{δ}
use Rattle.algebra.specs.Matrix.{vector}
use Rattle.sparse.specs.Matrix.{Compressed, matrix}
use Rattle.row_space.specs.Substitution.{through_u}
use Rattle.answer_question.specs.Needs.{ClosedReady}
use Rattle.answer_kernel.specs.Filling.{Marked, column_settings, block_of}
use Rattle.answer_kernel.specs.Needs.{BlockReady}
use Rattle.answer_kernel.proofs.SettingLaws.{setting-length}

-- ---- a part of a list that is lent and comes back

-- the part of m cells from the place `at` on
pub part_length : (b : List ℕ) (at e m : ℕ) → e ≡ at + m → at + m ≤ length b → length (take (e - at) (drop at b)) ≡ m
part_length b at e m q h = length-take-le (e - at) (drop at b) (omega (arith, length-drop at b)) ∙ omega arith

pub part-back : (b : List ℕ) (at k e : ℕ) (z : List ℕ) → k ≡ at + length z → e ≡ at + length z → k ≤ length b → Stored b (take at b ++ (z ++ drop (k - at) (drop at b))) at e z
part-back b at k e z q next h =
    record {
      now-is =
          sym (append_assoc (take at b) z (drop (k - at) (drop at b)))
          ∙ ap (λ (l : List ℕ). take at b ++ z ++ l) (drop-drop (k - at) at b ∙ ap (λ (i : ℕ). drop i b) (let s : at + (k - at) ≡ at + length z = omega arith in s))
          ∙ sym (sets-eq z b at (omega arith));
      next-is = next;
    }

-- ---- the block of a column

module _ (p m r : ℕ) (C : List ℕ) (U : Compressed) (c : ℕ) where
  block_none : among c (take r C) ≡ true → [] ≡ block_of p m r C U c
  unfolding block_of column_settings flatten
  block_none e = ap (λ (b : Bool). column_settings p m r (vector C) (matrix U) (cond b [] (c ∷ []))) (sym e)

  block_one : among c (take r C) ≡ false → through_u p m r (vector C) (matrix U) (δ c) ≡ block_of p m r C U c
  unfolding block_of column_settings flatten
  block_one e =
      sym (append-nil (through_u p m r (vector C) (matrix U) (δ c)))
      ∙ ap (λ (b : Bool). column_settings p m r (vector C) (matrix U) (cond b [] (c ∷ []))) (sym e)

-- a column is marked exactly if it is a pivot column
module _ (xs w : List ℕ) (s : Marked xs w) (c : ℕ) (h : c < length w) where
  pub pivot-marked : ¬ (get_or w c 0 ≡ 0) → among c xs ≡ true
  pivot-marked n = go (among c xs) refl
    where
      go : (b : Bool) → among c xs ≡ b → among c xs ≡ true
      go true e = e
      go false e = absurd (n (s.others c h e))

  pub free-unmarked : get_or w c 0 ≡ 0 → among c xs ≡ false
  free-unmarked z = go (among c xs) refl
    where
      go : (b : Bool) → among c xs ≡ b → among c xs ≡ false
      go true e = absurd (s.pivots c h e z)
      go false e = e

-- ---- the two ways through the code

module _ (p r c at : ℕ) (U : Compressed) (C b w : List ℕ) (d : BlockReady p r c at U C b w) where
  pub block-marked : ¬ (get_or w c 0 ≡ 0) → Stored b b at at (block_of p (length w) r C U c)
  block-marked n = stored-as (block_none p (length w) r C U c (pivot-marked (take r C) w d.marked c d.inside n)) stored-none

  pub block-ready : (z : List ℕ) → length z ≡ length w → ClosedReady p r c U C z
  block-ready z long =
      record {
        prime = d.prime;
        formed = rw long d.formed;
        rows = d.rows;
        order = d.order;
        places = rw long d.places;
        inside = rw long d.inside;
      }

  -- the part up to k comes back filled, and e is the place after it
  pub block-free : (k e n : ℕ) (z : List ℕ) → get_or w c 0 ≡ 0 → k ≡ at + length w → e ≡ at + length w → n ≡ length w → z ≡ through_u p n r (vector C) (matrix U) (δ c)
      → Stored b (take at b ++ (z ++ drop (k - at) (drop at b))) at e (block_of p (length w) r C U c)
  block-free k e n z none q next long filled =
      stored-as
      (same ∙ block_one p (length w) r C U c (free-unmarked (take r C) w d.marked c d.inside none))
      (part-back b at k e z (omega (arith, cells)) (omega (arith, cells)) (omega (arith, d.room none)))
    where
      same : z ≡ through_u p (length w) r (vector C) (matrix U) (δ c)
      same = filled ∙ ap (λ (m : ℕ). through_u p m r (vector C) (matrix U) (δ c)) long

      cells : length z ≡ length w
      cells = ap length same ∙ setting-length p (length w) r (vector C) (matrix U) (δ c)
