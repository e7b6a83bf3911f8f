-- Lists of blocks: f x for each x of a list, one after another.
--   blocks-length    as many cells as all blocks have
--   blocks_at        cell j of block l
--   blocks-below     every number is below b
--   blocks-same      the same blocks make the same list
use mathlib.Core.Path.{◌≡◌, refl, ap, ap₂, ◌∙◌}
use mathlib.Core.List.{List, [], ◌∷◌, ◌++◌, map, flatten}
use Prim.Native.Nat.{ℕ, zero, suc, ◌+◌, ◌*◌, ◌<◌}
use native.Mathlib.Omega.{arith}
use lib.ListN.{length, get_or, length-append, get_or-append}
use lib.Seq.{get_or-append-add}
use Rattle.sparse.specs.Row.{Below}
use Rattle.sparse.proofs.Bounds.{below_none, below-append}

module _ (m : ℕ) (f : ℕ → List ℕ) (long : (x : ℕ) → length (f x) ≡ m) where
  pub blocks-length : (xs : List ℕ) → length (flatten (map f xs)) ≡ m * length xs
  unfolding flatten
  blocks-length [] = omega arith
  blocks-length (x ∷ xs) = omega (arith, length-append (f x) (flatten (map f xs)), long x, blocks-length xs)

  pub blocks_at : (xs : List ℕ) (l j : ℕ) → l < length xs → j < m → get_or (flatten (map f xs)) (l * m + j) 0 ≡ get_or (f (get_or xs l 0)) j 0
  unfolding flatten
  blocks_at [] l j h g = absurd (omega arith)
  blocks_at (x ∷ xs) zero j h g =
      ap (λ (i : ℕ). get_or (f x ++ flatten (map f xs)) i 0) (let q : 0 * m + j ≡ j = omega arith in q)
      ∙ get_or-append (f x) (flatten (map f xs)) 0 j (omega (arith, long x))
  blocks_at (x ∷ xs) (suc l) j h g =
      ap (λ (i : ℕ). get_or (f x ++ flatten (map f xs)) i 0) (let q : suc l * m + j ≡ length (f x) + (l * m + j) = omega (arith, long x) in q)
      ∙ get_or-append-add (f x) (flatten (map f xs)) (l * m + j) 0
      ∙ blocks_at xs l j (omega arith) g

pub blocks-below : (b : ℕ) (f : ℕ → List ℕ) → ((x : ℕ) → Below b (f x)) → (xs : List ℕ) → Below b (flatten (map f xs))
unfolding flatten
blocks-below b f h [] = below_none b
blocks-below b f h (x ∷ xs) = below-append b (f x) (flatten (map f xs)) (h x) (blocks-below b f h xs)

pub blocks-same : (f g : ℕ → List ℕ) (xs : List ℕ) → ((l : ℕ) → l < length xs → f (get_or xs l 0) ≡ g (get_or xs l 0)) → flatten (map f xs) ≡ flatten (map g xs)
unfolding flatten
blocks-same f g [] h = refl
blocks-same f g (x ∷ xs) h =
    ap₂ {C = List ℕ} (λ (b c : List ℕ). b ++ c) (h 0 (omega arith)) (blocks-same f g xs (λ l k. h (suc l) (omega arith)))
