-- The loops that mark blocks, one turn at a time.
use mathlib.Core.Path.{◌≡◌, sym, ap, ◌∙◌}
use mathlib.Core.Bool.{Bool, cond}
use mathlib.Core.List.{List}
use Prim.Native.Nat.{ℕ, ◌+◌, ◌<◌}
use native.Mathlib.Decide.{ℕ_discrete}
use native.Mathlib.Omega.{arith}
use lib.ListN.{length, get_or, set, length-set}
use borrow.Author.Tests.{eq-eqb, ne_eqb}
use lib.Seq.{get_or-set_same, get_or-set_other}
use Rattle.factor_touch.specs.Touched.{cell_block, free_block}

-- ---- the block of a column that is no pivot, and of one that is

module _ (place : List ℕ) (j : ℕ) where
  pub free-here : get_or place j 0 ≡ 2048 → free_block place j ≡ cell_block j
  unfolding free_block
  free-here e = ap (λ (t : Bool). cond t (cell_block j) 128) (eq-eqb (get_or place j 0) 2048 e)

  pub free-shared : ¬ (get_or place j 0 ≡ 2048) → free_block place j ≡ 128
  unfolding free_block
  free-shared e = ap (λ (t : Bool). cond t (cell_block j) 128) (ne_eqb (get_or place j 0) 2048 e)

  pub free-inside : j < 2048 → free_block place j < 129
  free-inside h = go (ℕ_discrete (get_or place j 0) 2048)
    where
      go : Dec (get_or place j 0 ≡ 2048) → free_block place j < 129
      go (yes e) = omega (arith, free-here e)
      go (no e) = omega (arith, free-shared e)

-- ---- marks are set

-- a mark is set, and none is taken away
module _ (marks : List ℕ) (b : ℕ) (h : b < length marks) where
  pub mark_set : (b' : ℕ) → b' ≡ b → ¬ (get_or (set marks b 1) b' 0 ≡ 0)
  mark_set b' e z = absurd (omega (arith, sym (get_or-set_same marks b 1 0 h) ∙ ap (λ (k : ℕ). get_or (set marks b 1) k 0) (sym e) ∙ z))

  pub mark-kept : (b' : ℕ) → get_or (set marks b 1) b' 0 ≡ 0 → get_or marks b' 0 ≡ 0
  mark-kept b' z = go (ℕ_discrete b' b)
    where
      go : Dec (b' ≡ b) → get_or marks b' 0 ≡ 0
      go (yes e) = absurd (mark_set b' e z)
      go (no e) = sym (get_or-set_other marks b b' 1 0 e) ∙ z

-- `block s` is the block that turn s marks
module _ (block : ℕ → ℕ) (marks₀ : List ℕ) where
  pub record Marking (marks : List ℕ) (t : ℕ) : Type 0 where
    pub long : length marks ≡ length marks₀
    pub passed : (s : ℕ) → s < t → ¬ (get_or marks (block s) 0 ≡ 0)
    pub kept : (b : ℕ) → get_or marks b 0 ≡ 0 → get_or marks₀ b 0 ≡ 0

  pub marking-turn : (marks : List ℕ) (t b : ℕ) → b ≡ block t → b < length marks → Marking marks t → Marking (set marks b 1) (t + 1)
  marking-turn marks t b e h m =
      record {
        long = length-set marks b 1 ∙ m.long;
        passed = λ s g. go s g (ℕ_discrete s t);
        kept = λ b' z. m.kept b' (mark-kept marks b h b' z);
      }
    where
      go : (s : ℕ) → s < t + 1 → Dec (s ≡ t) → ¬ (get_or (set marks b 1) (block s) 0 ≡ 0)
      go s g (yes q) = mark_set marks b h (block s) (ap block q ∙ sym e)
      go s g (no q) = λ z. m.passed s (omega arith) (mark-kept marks b h (block s) z)
