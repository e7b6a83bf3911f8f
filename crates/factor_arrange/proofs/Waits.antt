-- The pairs that wait, as the cells name them: by rising row, so no row comes twice, and one less where a cell is cleared.
--   in-waiting, waiting-in      a pair waits exactly if its row's cell names its column
--   waiting-apart               no row comes twice
--   waiting-short               there is at most one pair a row
--   waiting-more, waiting-same  one cell more
--   waiting-without             a cell that is cleared
use Prim.Native.Nat.{ℕ, zero, suc, ◌+◌, ◌≤◌, ◌<◌}
use mathlib.Core.Path.{◌≡◌, refl, sym, ap, ap₂, ◌∙◌, subst}
use mathlib.Core.Bool.{Bool, true, false, cond}
use mathlib.Core.Logic.{◌⊎◌, inl, inr}
use mathlib.Core.List.{List, [], ◌∷◌, ◌++◌, append-nil}
use native.Mathlib.Decide.{ℕ_discrete}
use native.Mathlib.Numerals.{add-one}
use native.Mathlib.Omega.{arith}
use lib.Dec.{eqb}
use lib.ListN.{length, get_or, set, length-append, length-set}
use lib.Seq.{get_or-set_same, get_or-set_other}
use borrow.Author.Tests.{eq-eqb, ne_eqb}
use Rattle.elimination.specs.Structural.{Pair}
use Rattle.lists.specs.Members.{Member}
use Rattle.elimination.specs.Selection.{pair_at, without, Apart}
use Rattle.elimination.proofs.Members.{in-snoc, in-front, in-last, apart_snoc}
use Rattle.factor_arrange.specs.Waiting.{pair_named, waiting_to, waiting}

module _ (v : List ℕ) where
  -- ---- one cell more

  pub waiting-more : (k c : ℕ) → get_or v k 0 ≡ suc c → waiting_to v (k + 1) ≡ waiting_to v k ++ (pair_at k c ∷ [])
  unfolding waiting_to
  waiting-more k c e = ap (waiting_to v) (add-one k) ∙ ap (λ (x : ℕ). waiting_to v k ++ pair_named k x) e

  pub waiting-same : (k : ℕ) → get_or v k 0 ≡ 0 → waiting_to v (k + 1) ≡ waiting_to v k
  unfolding waiting_to
  waiting-same k e = ap (waiting_to v) (add-one k) ∙ ap (λ (x : ℕ). waiting_to v k ++ pair_named k x) e ∙ append-nil (waiting_to v k)

  -- what holds of none, and of one cell more, holds of all
  each : (P : ℕ → List Pair → Type 0) → P 0 [] → ((i : ℕ) (ws : List Pair) → get_or v i 0 ≡ 0 → P i ws → P (suc i) ws)
      → ((i c : ℕ) → get_or v i 0 ≡ suc c → P i (waiting_to v i) → P (suc i) (waiting_to v i ++ (pair_at i c ∷ []))) → (k : ℕ) → P k (waiting_to v k)
  unfolding waiting_to
  each P none same more zero = none
  each P none same more (suc i) = go (get_or v i 0) refl (each P none same more i)
    where
      go : (x : ℕ) → get_or v i 0 ≡ x → P i (waiting_to v i) → P (suc i) (waiting_to v i ++ pair_named i x)
      go zero e ih = subst (P (suc i)) (sym (append-nil (waiting_to v i))) (same i (waiting_to v i) e ih)
      go (suc c) e ih = more i c e ih

  -- ---- which pairs wait

  pub in-waiting : (k : ℕ) (b : Pair) → Member b (waiting_to v k) → (get_or v b.row 0 ≡ suc b.column) × (b.row < k)
  in-waiting k b =
      each (λ k ws. Member b ws → (get_or v b.row 0 ≡ suc b.column) × (b.row < k)) (λ m. absurd m) (λ i ws e ih m. let r = ih m in (r.0, omega (arith, r.1)))
      (λ i c e ih m. go i c e ih (in-snoc (waiting_to v i) (pair_at i c) b m)) k
    where
      go : (i c : ℕ) → get_or v i 0 ≡ suc c → (Member b (waiting_to v i) → (get_or v b.row 0 ≡ suc b.column) × (b.row < i)) → Member b (waiting_to v i) ⊎ (b ≡ pair_at i c)
          → (get_or v b.row 0 ≡ suc b.column) × (b.row < suc i)
      go i c e ih (inl m) = let r = ih m in (r.0, omega (arith, r.1))
      go i c e ih (inr s) =
          (ap (λ (x : Pair). get_or v x.row 0) s ∙ e ∙ ap (λ (x : Pair). suc x.column) (sym s), omega (arith, ap (λ (x : Pair). x.row) s))

  pub waiting-in : (k i c : ℕ) → i < k → get_or v i 0 ≡ suc c → Member (pair_at i c) (waiting_to v k)
  unfolding waiting_to
  waiting-in zero i c h e = absurd (omega arith)
  waiting-in (suc k) i c h e = go (ℕ_discrete i k) (λ l. waiting-in k i c l e)
    where
      go : Dec (i ≡ k) → (i < k → Member (pair_at i c) (waiting_to v k)) → Member (pair_at i c) (waiting_to v k ++ pair_named k (get_or v k 0))
      go (yes s) ih =
          subst (λ (j : ℕ). Member (pair_at i c) (waiting_to v j ++ pair_named j (get_or v j 0))) s
          (subst (λ (x : ℕ). Member (pair_at i c) (waiting_to v i ++ pair_named i x)) (sym e) (in-last (waiting_to v i) (pair_at i c)))
      go (no s) ih = in-front (waiting_to v k) (pair_named k (get_or v k 0)) (pair_at i c) (ih (omega arith))

  pub waiting-apart : (k : ℕ) → Apart (waiting_to v k)
  unfolding Apart
  waiting-apart = each (λ k ws. Apart ws) tt (λ i ws e h. h) (λ i c e h. apart_snoc (waiting_to v i) (pair_at i c) h (λ b m s. absurd (omega (arith, (in-waiting i b m).1))))

  pub waiting-short : (k : ℕ) → length (waiting_to v k) ≤ k
  waiting-short = each (λ k ws. length ws ≤ k) (omega arith) (λ i ws e h. omega arith) (λ i c e h. omega (arith, length-append (waiting_to v i) (pair_at i c ∷ [])))

-- ---- a cell that is cleared

without-append : (k : ℕ) (ps qs : List Pair) → without k (ps ++ qs) ≡ without k ps ++ without k qs
unfolding without
without-append k [] qs = refl
without-append k (p ∷ ps) qs = go (eqb p.row k) (without-append k ps qs)
  where
    go : (t : Bool) → without k (ps ++ qs) ≡ without k ps ++ without k qs → cond t (without k (ps ++ qs)) (p ∷ without k (ps ++ qs)) ≡ cond t (without k ps) (p ∷ without k ps) ++ without k qs
    go true ih = ih
    go false ih = ap (λ (l : List Pair). p ∷ l) ih

without-own : (k x : ℕ) → without k (pair_named k x) ≡ []
unfolding without
without-own k zero = refl
without-own k (suc c) = ap (λ (t : Bool). cond t [] (pair_at k c ∷ [])) (eq-eqb k k refl)

without_other : (k i x : ℕ) → ¬ (i ≡ k) → without k (pair_named i x) ≡ pair_named i x
unfolding without
without_other k i zero h = refl
without_other k i (suc c) h = ap (λ (t : Bool). cond t [] (pair_at i c ∷ [])) (ne_eqb i k h)

without-to : (v : List ℕ) (k j : ℕ) → k < length v → waiting_to (set v k 0) j ≡ without k (waiting_to v j)
unfolding waiting_to without
without-to v k zero h = refl
without-to v k (suc i) h =
    ap₂ (λ (ps qs : List Pair). ps ++ qs) (without-to v k i h) (cell (ℕ_discrete i k)) ∙ sym (without-append k (waiting_to v i) (pair_named i (get_or v i 0)))
  where
    cell : Dec (i ≡ k) → pair_named i (get_or (set v k 0) i 0) ≡ without k (pair_named i (get_or v i 0))
    cell (yes e) =
        ap (pair_named i) (ap (λ (j : ℕ). get_or (set v k 0) j 0) e ∙ get_or-set_same v k 0 0 h)
        ∙ sym (ap (λ (j : ℕ). without k (pair_named j (get_or v i 0))) e ∙ without-own k (get_or v i 0))
    cell (no d) = ap (pair_named i) (get_or-set_other v k i 0 0 d) ∙ sym (without_other k i (get_or v i 0) d)

pub waiting-without : (v : List ℕ) (k : ℕ) → k < length v → waiting (set v k 0) ≡ without k (waiting v)
waiting-without v k h = ap (waiting_to (set v k 0)) (length-set v k 0) ∙ without-to v k (length v) h
