-- Rows of U with their pivot columns, and combinations of them, each as a list that grows by one.
use mathlib.Core.Path.{◌≡◌, refl, sym, ap, ◌∙◌}
use mathlib.Core.List.{List, [], ◌∷◌, ◌++◌}
use Prim.Native.Nat.{ℕ, ◌+◌, ◌*◌, ◌%◌, ◌<◌}
use native.Mathlib.Nat.{mod-lt, mod-eq_of_lt, zero-mod, mul-zero, mul_comm}
use native.Mathlib.Decide.{dec_lt}
use native.Mathlib.Omega.{arith}
use lib.ListN.{length, get_or, get_or-append, get_or-eq_default}
use lib.Seq.{get_or-append_seam, get_or_at}
use Rattle.lists.specs.Tabulate.{tabulate}
use Rattle.lists.proofs.Tabulate.{length-tabulate, tabulate-at}
use Rattle.algebra.specs.Congruence.{◌≈⟨◌⟩◌}
use Rattle.algebra.specs.Sum.{dot}
use Rattle.algebra.specs.Prime.{Prime}
use Rattle.algebra.specs.Matrix.{Vector, Distinct, vector}
use Rattle.algebra.proofs.Congruence.{exact, ◌⊙◌, ◌⊗◌, same_refl, same-mod}
use Rattle.algebra.proofs.Dot.{dot-suc, dot-eq}
use Rattle.residue.specs.Inverse.{inv_mod}
use Rattle.residue.proofs.Inverse.{Inverse, inv_mod-inverse}
use Rattle.elimination.specs.Invariant.{cells, UpperRow, Echelon}
use Rattle.algebra.proofs.Listed.{snoc-length, snoc-each}

-- ---- the rows of U

module _ (p m : ℕ) where
  upper-more : (cs : List ℕ) (c k : ℕ) (u : List ℕ) → k < length cs → UpperRow p m cs k u → UpperRow p m (cs ++ (c ∷ [])) k u
  upper-more cs c k u h r =
      record {
        wide = r.wide;
        residues = r.residues;
        inside = omega (arith, r.inside, get_or-append cs (c ∷ []) 0 k h);
        left = λ j l. ap (λ (t : ℕ). get_or u t 0) (get_or-append cs (c ∷ []) 0 j (omega arith)) ∙ r.left j l;
        unit = ap (λ (t : ℕ). get_or u t 0) (get_or-append cs (c ∷ []) 0 k h) ∙ r.unit;
      }

  pub echelon-more : (cs : List ℕ) (us : List (List ℕ)) (c : ℕ) (u : List ℕ) → Echelon p m cs us → UpperRow p m (cs ++ (c ∷ [])) (length us) u
      → Echelon p m (cs ++ (c ∷ [])) (us ++ (u ∷ []))
  echelon-more cs us c u e last =
      record {
        as_many = omega (arith, snoc-length us u, snoc-length cs c, e.as_many);
        rows = snoc-each [] us u (UpperRow p m (cs ++ (c ∷ []))) (λ k h. upper-more cs c k (get_or us k []) (omega (arith, e.as_many)) (e.rows k h)) last;
      }

  -- no pivot column comes twice
  pub echelon-distinct : (cs : List ℕ) (us : List (List ℕ)) → Echelon p m cs us → Distinct (length cs) m (vector cs)
  echelon-distinct cs us e = record { below = λ k h. (e.rows k (omega (arith, e.as_many))).inside; apart = apart }
    where
      never : (j k : ℕ) → j < k → k < length cs → get_or cs j 0 ≡ get_or cs k 0 → ⊥
      never j k l h q =
          let r = e.rows k (omega (arith, e.as_many)) in
          omega (arith, r.unit, r.left j l, ap (λ (t : ℕ). get_or (get_or us k []) t 0) q)

      apart : (a b : ℕ) → a < length cs → b < length cs → get_or cs a 0 ≡ get_or cs b 0 → a ≡ b
      apart a b h g q = go (dec_lt a b) (dec_lt b a)
        where
          go : Dec (a < b) → Dec (b < a) → a ≡ b
          go (yes l) t = absurd (never a b l g q)
          go (no l) (yes r) = absurd (never b a r h (sym q))
          go (no l) (no r) = omega arith

-- w divided by its value at c, where it is not 0
module _ {p : ℕ} (prime : Prime p) (m : ℕ) (w : Vector) (small : (j : ℕ) → j < m → w j < p) (c : ℕ) (inside : c < m) (here : ¬ (w c ≡ 0)) where
  abbrev scaled : List ℕ
  scaled = tabulate m (λ j. inv_mod p (w c) * w j % p)

  inverse : Inverse p (w c) (inv_mod p (w c))
  inverse = inv_mod-inverse (record { prime = prime; nonzero = omega arith; below = small c inside })

  pub scaled_at : (j : ℕ) → j < m → get_or scaled j 0 ≡ inv_mod p (w c) * w j % p
  scaled_at j h = tabulate-at m (λ j. inv_mod p (w c) * w j % p) j h

  pub scaled-zero : (j : ℕ) → j < m → w j ≡ 0 → get_or scaled j 0 ≡ 0
  scaled-zero j h z = scaled_at j h ∙ ap (λ (x : ℕ). inv_mod p (w c) * x % p) z ∙ ap (λ (x : ℕ). x % p) (mul-zero (inv_mod p (w c))) ∙ zero-mod p

  pub scaled-one : get_or scaled c 0 ≡ 1
  scaled-one =
      scaled_at c inside ∙ ap (λ (x : ℕ). x % p) (mul_comm (inv_mod p (w c)) (w c)) ∙ inverse.product.same ∙ mod-eq_of_lt prime.two

  scaled-residue : (j : ℕ) → get_or scaled j 0 < p
  scaled-residue j = go (dec_lt j m)
    where
      go : Dec (j < m) → get_or scaled j 0 < p
      go (yes h) = rw (scaled_at j h) (mod-lt (inv_mod p (w c) * w j) (omega (arith, prime.two)))
      go (no h) = omega (arith, prime.two, get_or-eq_default scaled 0 {n = j} (omega (arith, length-tabulate m (λ j. inv_mod p (w c) * w j % p))))

  -- times that value it is w again
  pub scaled-back : (j : ℕ) → j < m → w c * get_or scaled j 0 ≈⟨ p ⟩ w j
  scaled-back j h =
      exact (ap (λ (x : ℕ). w c * x) (scaled_at j h))
      ⊙ same_refl (w c) ⊗ same-mod (inv_mod p (w c) * w j)
      ⊙ exact (omega arith)
      ⊙ inverse.product ⊗ same_refl (w j)
      ⊙ exact (omega arith)

  -- it is the next row of U, where w is 0 at the pivot columns
  pub scaled-row : (cs : List ℕ) (k : ℕ) → length cs ≡ k → ((j : ℕ) → j < k → get_or cs j 0 < m) → ((j : ℕ) → j < k → w (get_or cs j 0) ≡ 0)
      → UpperRow p m (cs ++ (c ∷ [])) k scaled
  scaled-row cs k long before clear =
      record {
        wide = length-tabulate m (λ j. inv_mod p (w c) * w j % p);
        residues = scaled-residue;
        inside = omega (arith, inside, last);
        left = λ j l. ap (λ (t : ℕ). get_or scaled t 0) (get_or-append cs (c ∷ []) 0 j (omega arith)) ∙ scaled-zero (get_or cs j 0) (before j l) (clear j l);
        unit = ap (λ (t : ℕ). get_or scaled t 0) last ∙ scaled-one;
      }
    where
      last : get_or (cs ++ (c ∷ [])) k 0 ≡ c
      last = get_or_at cs c [] 0 k long

-- ---- combinations of the rows of U

-- one row more
pub combination-more : (ls : List ℕ) (us : List (List ℕ)) (u : List ℕ) (j : ℕ)
    → dot (length (us ++ (u ∷ []))) (vector ls) (λ k. cells (us ++ (u ∷ [])) k j)
    ≡ dot (length us) (vector ls) (λ k. cells us k j) + get_or ls (length us) 0 * get_or u j 0
combination-more ls us u j =
    ap (λ (n : ℕ). dot n (vector ls) (λ k. cells (us ++ (u ∷ [])) k j)) (snoc-length us u)
    ∙ dot-suc (length us) (vector ls) (λ k. cells (us ++ (u ∷ [])) k j)
    ∙ (λ t. dot-eq (length us) {u = vector ls} {v = λ k. cells (us ++ (u ∷ [])) k j} {v' = λ k. cells us k j} (λ k h. refl) (λ k h. ap (λ (r : List ℕ). get_or r j 0) (get_or-append us (u ∷ []) [] k h)) t
    + get_or ls (length us) 0 * get_or (get_or-append_seam us u [] [] t) j 0)

-- and one multiple more
pub combination-last : (ls : List ℕ) (v : ℕ) (us : List (List ℕ)) (u : List ℕ) (j : ℕ) → length ls ≡ length us
    → dot (length (us ++ (u ∷ []))) (vector (ls ++ (v ∷ []))) (λ k. cells (us ++ (u ∷ [])) k j)
    ≡ dot (length us) (vector ls) (λ k. cells us k j) + v * get_or u j 0
combination-last ls v us u j long =
    combination-more (ls ++ (v ∷ [])) us u j
    ∙ (λ t. dot-eq (length us) {u = vector (ls ++ (v ∷ []))} {u' = vector ls} {v = λ k. cells us k j} (λ k h. get_or-append ls (v ∷ []) 0 k (omega arith)) (λ k h. refl) t
    + get_or_at ls v [] 0 (length us) long t * get_or u j 0)
