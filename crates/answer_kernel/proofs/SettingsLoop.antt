-- The loop over the columns: the settings of the free columns below c are stored, one after another.
use mathlib.Core.Path.{◌≡◌, sym, ap, ◌∙◌}
use mathlib.Core.Bool.{cond}
use mathlib.Core.List.{List, [], ◌∷◌, flatten}
use Prim.Native.Nat.{ℕ, ◌+◌, ◌-◌, ◌*◌, ◌≤◌, ◌<◌}
use native.Mathlib.Omega.{arith}
use lib.ListN.{length, get_or, take}
use Rattle.lists.specs.Rest.{rest}
use Rattle.lists.specs.Stored.{Stored}
use Rattle.lists.specs.Tests.{among}
use Rattle.lists.proofs.Stored.{stored-none, stored-as, stored-then, stored-to-end, stored-length}
use Rattle.algebra.specs.Matrix.{vector}
use Rattle.sparse.specs.Matrix.{Compressed, matrix}
use Rattle.answer_kernel.specs.Filling.{column_settings, free_settings, block_of}
use Rattle.answer_kernel.specs.Needs.{BlockReady, SettingsReady}
use Rattle.answer_kernel.proofs.SettingLaws.{settings-append, settings-length, rest-step, rest_more}
use Rattle.answer_kernel.proofs.BlockLaws.{free-unmarked}

pub record Filling (p m r : ℕ) (C : List ℕ) (U : Compressed) (b₀ b : List ℕ) (at c : ℕ) : Type 0 where
  pub within : c ≤ m
  pub stored : Stored b₀ b 0 at (column_settings p m r (vector C) (matrix U) (rest (take r C) c))

pub filling-starts : (p m r : ℕ) (C : List ℕ) (U : Compressed) (b : List ℕ) → Filling p m r C U b b 0 0
unfolding column_settings rest flatten
filling-starts p m r C U b = record { within = omega arith; stored = stored-none }

-- one block more, where there are more blocks
block-fits : (m a n : ℕ) → a < n → m * a + m ≤ m * n
block-fits m a n h = go (n - (a + 1)) (omega arith)
  where
    go : (d : ℕ) → n ≡ a + 1 + d → m * a + m ≤ m * n
    go d e = omega (arith, ap (λ (k : ℕ). m * k) e)

module _ (p m r : ℕ) (C : List ℕ) (U : Compressed) (b₀ b : List ℕ) (at c : ℕ) (s : Filling p m r C U b₀ b at c) where
  pub filling-at : at ≡ m * length (rest (take r C) c)
  filling-at = omega (arith, s.stored.next-is, settings-length p m r (vector C) (matrix U) (rest (take r C) c))

  pub filling-turn : (b₁ : List ℕ) (e : ℕ) → c < m → Stored b b₁ at e (block_of p m r C U c) → Filling p m r C U b₀ b₁ e (c + 1)
  unfolding block_of
  filling-turn b₁ e h t =
      record {
        within = omega arith;
        stored =
            stored-as
            (sym (settings-append p m r (vector C) (matrix U) (rest (take r C) c) (cond (among c (take r C)) [] (c ∷ [])))
            ∙ ap (column_settings p m r (vector C) (matrix U)) (sym (rest-step (take r C) c)))
            (stored-then s.stored t);
      }

module _ (p r : ℕ) (U : Compressed) (C b₀ w : List ℕ) (d : SettingsReady p r U C b₀ w) (b : List ℕ) (at c : ℕ) (s : Filling p (length w) r C U b₀ b at c) where
  -- a free column below m has room for its block: it is one of the columns that are counted
  filling-room : c < length w → get_or w c 0 ≡ 0 → at + length w ≤ length b
  filling-room h none =
      omega (
        arith,
        filling-at p (length w) r C U b₀ b at c s,
        d.room,
        stored-length s.stored,
        block-fits (length w) (length (rest (take r C) c)) (length (rest (take r C) (length w)))
            (rest_more (take r C) c (length w) h (free-unmarked (take r C) w d.marked c h none)),
      )

  pub filling-ready : c < length w → BlockReady p r c at U C b w
  filling-ready h =
      record {
        prime = d.prime;
        formed = d.formed;
        rows = d.rows;
        order = d.order;
        places = d.places;
        inside = h;
        room = filling-room h;
        marked = d.marked;
      }

  pub filling-ends : length w ≤ c → b ≡ free_settings p (length w) r C U
  unfolding free_settings
  filling-ends h = stored-to-end all (stored-as (ap (λ (n : ℕ). column_settings p (length w) r (vector C) (matrix U) (rest (take r C) n)) last) s.stored)
    where
      last : c ≡ length w
      last = omega (arith, s.within)

      all : 0 + length (column_settings p (length w) r (vector C) (matrix U) (rest (take r C) (length w))) ≡ length b₀
      all = omega (arith, settings-length p (length w) r (vector C) (matrix U) (rest (take r C) (length w)), d.room)
