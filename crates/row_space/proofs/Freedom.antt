-- Every setting that fits (document 02, slip 7), from EVERY set that passes, whoever made it.
-- A is a stored n by m matrix (document 01's plan), p a prime, s a set with n rows in R and m columns in C that the judge passes.
--   setting-length    a setting has m cells
--   setting-below     all are residues
--   free-count        there are m - r free columns
--   free-inside       each is a column
--   free-rising       they rise
--   free-exactly      a column is free exactly if it is no pivot column
--   basis-length      the basis has m cells for each free column
--   basis-residues    all of them residues
--   basis-block       block l gives every slot 0, is 1 at free column l and 0 at the other free ones
--   block-only        no other list of m cells does
--   alike-exactly     settings a and b, of any numbers, give the same slots exactly if a is b and a combination of the blocks, modulo p
--   shift_is          that combination is a less b at the free columns, modulo p
--   one_shift         so there is only one
--   settings-agree    sets that pass and have the same free columns have the same basis, whatever order C has them in
use mathlib.Core.Path.{◌≡◌, sym, ap, subst, ◌∙◌}
use mathlib.Core.Logic.{◌↔◌}
use mathlib.Core.Bool.{true}
use mathlib.Core.List.{List, map, flatten}
use Prim.Native.Nat.{ℕ, ◌+◌, ◌-◌, ◌*◌, ◌≤◌, ◌<◌}
use native.Mathlib.Omega.{arith}
use lib.ListN.{length, get_or}
use lib.Seq.{ext_get_or}
use Rattle.refusals.specs.Outcome.{Passed}
use Rattle.lists.specs.Tests.{among}
use Rattle.lists.proofs.Tabulate.{length-tabulate, tabulate-at}
use Rattle.algebra.specs.Congruence.{◌≈⟨◌⟩◌}
use Rattle.algebra.specs.Sum.{δ}
use Rattle.algebra.specs.Prime.{Prime}
use Rattle.algebra.specs.Matrix.{Vector, vector}
use Rattle.algebra.specs.Factors.{Factors}
use Rattle.algebra.specs.Answer.{ClosedAnswer}
use Rattle.algebra.proofs.Kernel.{KernelBasis, factors-basis}
use Rattle.algebra.proofs.Unique.{closed-unique}
use Rattle.algebra.proofs.Shifts.{alike-shifted, shifted-alike, shift-free, shift-only}
use Rattle.sparse.specs.Row.{Below}
use Rattle.sparse.specs.Matrix.{Compressed, matrix}
use Rattle.sparse.specs.Set.{Set}
use Rattle.pluq.specs.Judge.{judge}
use Rattle.row_space.specs.Substitution.{back_u}
use Rattle.row_space.specs.Kernel.{free_columns, setting, kernel_basis, GiveAlike, Shifted}
use Rattle.row_space.proofs.Substitutions.{δ-small, back_u-small}
use Rattle.row_space.proofs.ClosedAnswers.{Free, unit-kernel, closed-cells, closed-moved}
use Rattle.row_space.proofs.Blocks.{blocks-length, blocks_at, blocks-below, blocks-same}
use Rattle.row_space.proofs.FreeColumns as free
use Rattle.row_space.proofs.Theorems.{product}

pub setting-length : (p m : ℕ) (s : Set) (c : ℕ) → length (setting p m s c) ≡ m
unfolding setting
setting-length p m s c = length-tabulate m (back_u p m (vector s.C) (matrix s.U) s.r (δ c))

pub setting-below : (p : ℕ) → 2 ≤ p → (m : ℕ) (s : Set) (c : ℕ) → Below p (setting p m s c)
unfolding setting
setting-below p two m s c i h =
    let z = back_u p m (vector s.C) (matrix s.U) s.r (δ c) in
    rw (tabulate-at m z i (omega (arith, length-tabulate m z))) (back_u-small p m (vector s.C) (matrix s.U) s.r (δ c) (omega arith) (δ-small p two c) i)

module _ {p : ℕ} (prime : Prime p) (n m : ℕ) (A : Compressed) (s : Set) (long-R : length s.R ≡ n) (long-C : length s.C ≡ m) (ok : judge p n m A s ≡ Passed) where
  factors : Factors p n m s.r (matrix A) (vector s.R) (vector s.C) (matrix s.L) (matrix s.U)
  factors = product prime n m A s long-R long-C ok

  -- ---- the free columns

  pub free-count : length (free_columns m s) ≡ m - s.r
  free-count = free.count m s long-C factors.rank-columns factors.columns

  pub free-inside : (l : ℕ) → l < m - s.r → get_or (free_columns m s) l 0 < m
  free-inside = free.inside m s long-C factors.rank-columns factors.columns

  pub free-rising : (a b : ℕ) → a < b → b < m - s.r → get_or (free_columns m s) a 0 < get_or (free_columns m s) b 0
  free-rising = free.rising m s long-C factors.rank-columns factors.columns

  pub free-exactly : (c : ℕ) → c < m → (among c (free_columns m s) ≡ true) ↔ ((l : ℕ) → l < s.r → ¬ (vector s.C l ≡ c))
  free-exactly = free.exactly m s long-C factors.rank-columns factors.columns

  free-at : (l : ℕ) → l < m - s.r → Free s.r (vector s.C) (get_or (free_columns m s) l 0)
  free-at = free.at m s long-C factors.rank-columns factors.columns

  -- ---- the basis

  pub basis-length : length (kernel_basis p m s) ≡ m * (m - s.r)
  unfolding kernel_basis
  basis-length = blocks-length m (setting p m s) (setting-length p m s) (free_columns m s) ∙ ap (λ (d : ℕ). m * d) free-count

  pub basis-residues : Below p (kernel_basis p m s)
  unfolding kernel_basis
  basis-residues = blocks-below p (setting p m s) (setting-below p prime.two m s) (free_columns m s)

  setting-is : (c : ℕ) → c < m → Free s.r (vector s.C) c → ClosedAnswer p n m s.r (matrix A) (vector s.C) c (vector (setting p m s c))
  unfolding setting
  setting-is c h g =
      closed-cells factors.columns h (tabulate-at m (back_u p m (vector s.C) (matrix s.U) s.r (δ c))) (unit-kernel prime factors c g)

  pub basis-block : (l : ℕ) → l < m - s.r
      → ClosedAnswer p n m s.r (matrix A) (vector s.C) (get_or (free_columns m s) l 0) (λ j. get_or (kernel_basis p m s) (l * m + j) 0)
  unfolding kernel_basis
  basis-block l h =
      closed-cells factors.columns (free-inside l h)
      (λ j g. blocks_at m (setting p m s) (setting-length p m s) (free_columns m s) l j (omega (arith, free-count)) g)
      (setting-is (get_or (free_columns m s) l 0) (free-inside l h) (free-at l h))

  pub block-only : (l : ℕ) → l < m - s.r → (z : List ℕ) → length z ≡ m
      → ClosedAnswer p n m s.r (matrix A) (vector s.C) (get_or (free_columns m s) l 0) (vector z)
      → (j : ℕ) → j < m → get_or z j 0 ≡ get_or (kernel_basis p m s) (l * m + j) 0
  block-only l h z long a j g =
      closed-unique prime factors (get_or (free_columns m s) l 0) (vector z) (λ j. get_or (kernel_basis p m s) (l * m + j) 0) a (basis-block l h) j g

  -- ---- the same factors with the free columns in order, and so a basis of the kernel

  abbrev C' : Vector
  C' = free.orderly m s long-C factors.rank-columns factors.columns

  C'-pivot : (l : ℕ) → l < s.r → C' l ≡ vector s.C l
  C'-pivot = free.orderly-pivot m s long-C factors.rank-columns factors.columns

  C'-free : (l : ℕ) → C' (s.r + l) ≡ get_or (free_columns m s) l 0
  C'-free = free.orderly-free m s long-C factors.rank-columns factors.columns

  reordered : Factors p n m s.r (matrix A) (vector s.R) C' (matrix s.L) (matrix s.U)
  reordered =
      record {
        rows = factors.rows;
        columns = free.orderly-order m s long-C factors.rank-columns factors.columns;
        rank-rows = factors.rank-rows;
        rank-columns = factors.rank-columns;
        L-above = factors.L-above;
        L-diagonal = factors.L-diagonal;
        U-left = λ k j h g. rw (C'-pivot j (omega arith)) (factors.U-left k j h g);
        U-unit = λ k h. rw (C'-pivot k h) (factors.U-unit k h);
        product = factors.product;
      }

  same-free : (c : ℕ) → c < m → Free s.r (vector s.C) c ↔ Free s.r C' c
  same-free c h = (λ g l k e. g l k (sym (C'-pivot l k) ∙ e), λ g l k e. g l k (C'-pivot l k ∙ e))

  pub basis : KernelBasis p n m (matrix A) (m - s.r) (λ l. get_or (free_columns m s) l 0) (λ l j. get_or (kernel_basis p m s) (l * m + j) 0)
  basis =
      subst (λ (F : ℕ → ℕ). KernelBasis p n m (matrix A) (m - s.r) F (λ l j. get_or (kernel_basis p m s) (l * m + j) 0)) (λ t l. C'-free l t)
      (factors-basis prime reordered (λ l j. get_or (kernel_basis p m s) (l * m + j) 0)
      (λ l h. rw (C'-free l) (closed-moved factors.columns reordered.columns factors.rank-columns (free-inside l h) same-free (basis-block l h))))

  -- ---- settings that give the same slots

  pub alike-exactly : (a b : Vector) → GiveAlike p n m (matrix A) a b ↔ ((c : Vector) × Shifted p m (m - s.r) (kernel_basis p m s) c a b)
  unfolding GiveAlike Shifted
  alike-exactly a b = (alike-shifted basis a b, λ e. shifted-alike basis a b e.0 e.1)

  pub shift_is : (a b c : Vector) → Shifted p m (m - s.r) (kernel_basis p m s) c a b
      → (l : ℕ) → l < m - s.r → c l + b (get_or (free_columns m s) l 0) ≈⟨ p ⟩ a (get_or (free_columns m s) l 0)
  unfolding Shifted
  shift_is a b c shifted = shift-free basis a b c shifted

  pub one_shift : (a b c c' : Vector) → Shifted p m (m - s.r) (kernel_basis p m s) c a b → Shifted p m (m - s.r) (kernel_basis p m s) c' a b
      → (l : ℕ) → l < m - s.r → c l ≈⟨ p ⟩ c' l
  unfolding Shifted
  one_shift a b c c' shifted shifted' = shift-only basis a b c c' shifted shifted'

pub settings-agree : {p : ℕ} → Prime p → (n m : ℕ) (A : Compressed) (s s' : Set)
    → length s.R ≡ n → length s.C ≡ m → judge p n m A s ≡ Passed
    → length s'.R ≡ n → length s'.C ≡ m → judge p n m A s' ≡ Passed
    → free_columns m s ≡ free_columns m s' → kernel_basis p m s ≡ kernel_basis p m s'
unfolding kernel_basis
settings-agree {p} prime n m A s s' lR lC ok lR' lC' ok' e =
    blocks-same (setting p m s) (setting p m s') (free_columns m s) (λ l h. same (get_or (free_columns m s) l 0) (inside l h) (at l h))
    ∙ ap (λ (xs : List ℕ). flatten (map (setting p m s') xs)) e
  where
    f : Factors p n m s.r (matrix A) (vector s.R) (vector s.C) (matrix s.L) (matrix s.U)
    f = factors prime n m A s lR lC ok

    f' : Factors p n m s'.r (matrix A) (vector s'.R) (vector s'.C) (matrix s'.L) (matrix s'.U)
    f' = factors prime n m A s' lR' lC' ok'

    inside : (l : ℕ) → l < length (free_columns m s) → get_or (free_columns m s) l 0 < m
    inside l h = free-inside prime n m A s lR lC ok l (omega (arith, free-count prime n m A s lR lC ok))

    at : (l : ℕ) → l < length (free_columns m s) → Free s.r (vector s.C) (get_or (free_columns m s) l 0)
    at l h = free-at prime n m A s lR lC ok l (omega (arith, free-count prime n m A s lR lC ok))

    both : (c : ℕ) → c < m → Free s'.r (vector s'.C) c ↔ Free s.r (vector s.C) c
    both c h =
        let a = free-exactly prime n m A s lR lC ok c h in
        let b = free-exactly prime n m A s' lR' lC' ok' c h in
        let q : among c (free_columns m s) ≡ among c (free_columns m s') = ap (among c) e in
        (λ g. a.0 (q ∙ b.1 g), λ g. b.0 (sym q ∙ a.1 g))

    same : (c : ℕ) → c < m → Free s.r (vector s.C) c → setting p m s c ≡ setting p m s' c
    same c h g =
        ext_get_or 0 (setting p m s c) (setting p m s' c) (setting-length p m s c ∙ sym (setting-length p m s' c))
        (λ j k. closed-unique prime f c (vector (setting p m s c)) (vector (setting p m s' c))
        (setting-is prime n m A s lR lC ok c h g)
        (closed-moved f'.columns f.columns f.rank-columns h both (setting-is prime n m A s' lR' lC' ok' c h ((both c h).1 g)))
        j (omega (arith, setting-length p m s c)))
