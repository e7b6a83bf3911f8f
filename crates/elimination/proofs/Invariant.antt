-- Each turn keeps what holds of the pivots and the dependent rows found so far.
use mathlib.Core.Path.{◌≡◌, refl, sym, ap, ◌∙◌, subst, subst₂}
use mathlib.Core.List.{List, [], ◌∷◌, ◌++◌}
use Prim.Native.Nat.{ℕ, ◌+◌, ◌*◌, ◌%◌, ◌<◌}
use native.Mathlib.Decide.{dec_lt}
use native.Mathlib.Omega.{arith}
use lib.ListN.{length, get_or, length-map, get_or-eq_default}
use lib.Seq.{get_or_at}
use Rattle.lists.specs.Tabulate.{tabulate}
use Rattle.algebra.specs.Congruence.{◌≈⟨◌⟩◌}
use Rattle.algebra.specs.Sum.{dot}
use Rattle.algebra.specs.Prime.{Prime}
use Rattle.algebra.specs.Matrix.{Vector, Matrix, vector}
use Rattle.algebra.proofs.Congruence.{exact, turn, ◌⊙◌, ◌⊕◌, same_refl}
use Rattle.residue.specs.Inverse.{inv_mod}
use Rattle.elimination.specs.Pivots.{Pivot, Found, columns_of, uppers_of, upper_of, rank_of, with_pivot, with_dependent}
use Rattle.elimination.specs.Factoring.{nothing}
use Rattle.elimination.specs.Invariant.{no_pivot, no_dependent, Echelon, Lower, PivotRow, Invariant}
use Rattle.algebra.proofs.Listed.{snoc-length, snoc-each, map-append}
use Rattle.elimination.proofs.Echelon.{echelon-more, scaled-row, scaled-back, combination-more, combination-last}

-- ---- what was found, as lists

pub columns-many : (f : Found) → length (columns_of f) ≡ rank_of f
unfolding columns_of
columns-many f = length-map f.pivots (λ q. q.column)

pub uppers-many : (f : Found) → length (uppers_of f) ≡ rank_of f
unfolding uppers_of
uppers-many f = length-map f.pivots (λ q. q.upper)

module _ (p n m : ℕ) (A : Matrix) where
  pub nothing-holds : Invariant p n m A nothing
  unfolding columns_of uppers_of
  nothing-holds =
      record {
        echelon = record { as_many = refl; rows = λ k h. absurd (omega arith) };
        pivot-rows = λ k h. absurd (omega arith);
        dependent-rows = λ k h. absurd (omega arith);
      }

  -- one row of U more
  lower-more : (us : List (List ℕ)) (u : List ℕ) (i : ℕ) (ls : List ℕ) → Lower p n m A us i ls → Lower p n m A (us ++ (u ∷ [])) i ls
  lower-more us u i ls h =
      record {
        row = h.row;
        narrow = omega (arith, h.narrow, snoc-length us u);
        residues = h.residues;
        product = λ j l. h.product j l ⊙ exact (omega (arith, combination-more ls us u j, ap (λ (x : ℕ). x * get_or u j 0) (get_or-eq_default ls 0 h.narrow)));
      }

  row_more : (us : List (List ℕ)) (u : List ℕ) (k : ℕ) (q : Pivot) → PivotRow p n m A us k q → PivotRow p n m A (us ++ (u ∷ [])) k q
  row_more us u k q h = record { long = h.long; diagonal = h.diagonal; combines = lower-more us u q.row q.lower h.combines }

  -- w is what remains of row i when multiples ls of the rows of U are taken away
  pub record Remainder (f : Found) (i : ℕ) (ls : List ℕ) (w : Vector) : Type 0 where
    pub row : i < n
    pub long : length ls ≡ length (uppers_of f)
    pub residues : (k : ℕ) → get_or ls k 0 < p
    pub small : (j : ℕ) → j < m → w j < p
    pub clear : (k : ℕ) → k < length (uppers_of f) → w (get_or (columns_of f) k 0) ≡ 0
    pub split : (j : ℕ) → j < m → A i j ≈⟨ p ⟩ w j + dot (length (uppers_of f)) (vector ls) (λ k. upper_of f k j)

  -- nothing remains: the row is dependent
  pub dependent-holds : (f : Found) (i : ℕ) (ls : List ℕ) (w : Vector) → Invariant p n m A f → Remainder f i ls w → ((j : ℕ) → j < m → w j ≡ 0) → Invariant p n m A (with_dependent f i ls)
  unfolding with_dependent columns_of uppers_of
  dependent-holds f i ls w v h z =
      record {
        echelon = v.echelon;
        pivot-rows = v.pivot-rows;
        dependent-rows = snoc-each no_dependent f.dependents (record { row = i; lower = ls }) (λ k d. Lower p n m A (uppers_of f) d.row d.lower) v.dependent-rows last;
      }
    where
      last : Lower p n m A (uppers_of f) i ls
      last =
          record {
            row = h.row;
            narrow = omega (arith, h.long);
            residues = h.residues;
            product = λ j l. h.split j l ⊙ exact (omega (arith, z j l));
          }

  module _ (prime : Prime p) (f : Found) (i c : ℕ) (ls : List ℕ) (w : Vector) (v : Invariant p n m A f) (h : Remainder f i ls w) (inside : c < m) (here : ¬ (w c ≡ 0)) where
    -- the row of U, and the pivot
    abbrev u : List ℕ
    u = tabulate m (λ j. inv_mod p (w c) * w j % p)

    abbrev q : Pivot
    q = record { row = i; column = c; lower = ls ++ (w c ∷ []); upper = u }

    columns-more : columns_of (with_pivot p m f i c ls w) ≡ columns_of f ++ (c ∷ [])
    unfolding with_pivot columns_of
    columns-more = map-append (λ x. x.column) f.pivots _

    uppers-more : uppers_of (with_pivot p m f i c ls w) ≡ uppers_of f ++ (u ∷ [])
    unfolding with_pivot uppers_of
    uppers-more = map-append (λ x. x.upper) f.pivots (q ∷ [])

    echelon-after : Echelon p m (columns_of f ++ (c ∷ [])) (uppers_of f ++ (u ∷ []))
    echelon-after =
        echelon-more p m (columns_of f) (uppers_of f) c u v.echelon
        (scaled-row prime m w h.small c inside here (columns_of f) (length (uppers_of f)) (sym v.echelon.as_many) (λ j l. (v.echelon.rows j l).inside) h.clear)

    lower-after : Lower p n m A (uppers_of f ++ (u ∷ [])) i (ls ++ (w c ∷ []))
    lower-after =
        record {
          row = h.row;
          narrow = omega (arith, h.long, snoc-length ls (w c), snoc-length (uppers_of f) u);
          residues = λ k. small-more k (dec_lt k (length (ls ++ (w c ∷ []))));
          product = λ j l.
              h.split j l
              ⊙ turn (scaled-back prime m w h.small c inside here j l) ⊕ same_refl (dot (length (uppers_of f)) (vector ls) (λ k. upper_of f k j))
              ⊙ exact (omega (arith, combination-last ls (w c) (uppers_of f) u j h.long));
        }
      where
        small-more : (k : ℕ) → Dec (k < length (ls ++ (w c ∷ []))) → get_or (ls ++ (w c ∷ [])) k 0 < p
        small-more k (yes b) = snoc-each 0 ls (w c) (λ k x. x < p) (λ k b. h.residues k) (h.small c inside) k b
        small-more k (no b) = omega (arith, get_or-eq_default (ls ++ (w c ∷ [])) 0 {n = k} (omega arith), prime.two)

    pivot-after : PivotRow p n m A (uppers_of f ++ (u ∷ [])) (rank_of f) q
    pivot-after =
        record {
          long = omega (arith, snoc-length ls (w c), h.long, uppers-many f);
          diagonal = λ e. here (sym (get_or_at ls (w c) [] 0 (rank_of f) (h.long ∙ uppers-many f)) ∙ e);
          combines = lower-after;
        }

    -- something remains at column c: the row is a pivot row
    pub pivot-holds : Invariant p n m A (with_pivot p m f i c ls w)
    unfolding with_pivot
    pivot-holds =
        record {
          echelon = subst₂ (Echelon p m) (sym columns-more) (sym uppers-more) echelon-after;
          pivot-rows = subst (λ (us : List (List ℕ)). (k : ℕ) → k < rank_of (with_pivot p m f i c ls w) → PivotRow p n m A us k (get_or (with_pivot p m f i c ls w).pivots k no_pivot)) (sym uppers-more)
              (snoc-each no_pivot f.pivots q (PivotRow p n m A (uppers_of f ++ (u ∷ []))) (λ k b. row_more (uppers_of f) u k (get_or f.pivots k no_pivot) (v.pivot-rows k b)) pivot-after);
          dependent-rows = λ k b. subst (λ (us : List (List ℕ)). Lower p n m A us (get_or f.dependents k no_dependent).row (get_or f.dependents k no_dependent).lower) (sym uppers-more)
              (lower-more (uppers_of f) u (get_or f.dependents k no_dependent).row (get_or f.dependents k no_dependent).lower (v.dependent-rows k b));
        }
