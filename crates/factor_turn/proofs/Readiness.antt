-- Where the lists hold what was found, the next row can be taken, by either way.
use mathlib.Core.Path.{◌≡◌, refl, sym, ap, ◌∙◌, subst₂}
use mathlib.Core.Bool.{Bool, true, false}
use mathlib.Core.List.{List}
use Prim.Native.Nat.{ℕ, ◌*◌, ◌≤◌, ◌<◌}
use native.Mathlib.Nat.{mul-le-mul_left}
use native.Mathlib.Omega.{arith}
use lib.ListN.{length, get_or, take}
use lib.Seq.{length-take-le, get_or-take}
use Rattle.lists.proofs.Filled.{zeros-at}
use Rattle.sparse.specs.Row.{Below}
use Rattle.sparse.specs.Matrix.{Compressed, matrix}
use Rattle.sparse.specs.Set.{storage_of}
use Rattle.sparse.specs.Dense.{compress}
use Rattle.sparse.proofs.DenseLaws.{compress-matrix, compress-lengths}
use Rattle.sparse.proofs.DenseForm.{compress-form}
use Rattle.sparse.proofs.Rows.{form-below}
use Rattle.factor_reduce.specs.Needs.{EchelonReady}
use Rattle.elimination.specs.Pivots.{Found, columns_of, uppers_of, rank_of, turn}
use Rattle.elimination.specs.Invariant.{Invariant, Echelon}
use Rattle.elimination.proofs.Invariant.{uppers-many}
use Rattle.elimination.proofs.Echelon.{echelon-distinct}
use Rattle.elimination.proofs.Turns.{other-holds, pair-holds}
use Rattle.factor_row.specs.Gathering.{cut}
use Rattle.factor_row.specs.Entries.{entry_lists_of}
use Rattle.factor_row.specs.Needs.{GatherReadyFrom, ListsReady, PairReady, OtherReady}
use Rattle.factor_row.proofs.Storage.{holds-cut}
use Rattle.factor_turn.specs.declared.turn.Progress.{Progress}
use Rattle.factor_turn.specs.State.{State, turn_of}
use Rattle.factor_turn.specs.Needs.{Lent, PairAt, TurnReady}
use Rattle.factor_turn.proofs.Steps.{entries-values, pivots-less}
use Rattle.factor_turn.proofs.Sizes.{rank_most}

-- ---- rows of U can be taken away from the working row

module _ (p m : ℕ) (cs : List ℕ) (us : List (List ℕ)) (v : Echelon p m cs us) (two : 2 ≤ p) (w : List ℕ) (wide : length w ≡ m) (below : Below (p * p) w) where
  upper-ready : EchelonReady p (length cs) cs (compress us) w
  upper-ready =
      record {
        positive = omega arith;
        formed = rw wide (compress-form p m us (record {
          narrow = λ k h. omega (arith, (v.rows k h).wide);
          residues = λ k j h. (v.rows k h).residues j;
        }));
        many = omega (arith, (compress-lengths us).starts-are, v.as_many);
        order = omega arith;
        columns = rw wide (echelon-distinct p m cs us v);
        unit = λ k h. compress-matrix us k (get_or cs k 0) ∙ (v.rows k (omega (arith, v.as_many))).unit;
        left = λ k j l h. compress-matrix us k (get_or cs j 0) ∙ (v.rows k (omega (arith, v.as_many))).left j l;
        below = below;
      }

-- the lists cut to their lengths are those of the rows found
pub cut-found : (f : Found) (R C : List ℕ) (L U : Compressed) (r at l total d : ℕ) → State f R C L U r at l total d → cut r at U.starts U.cols U.vals ≡ compress (uppers_of f)
cut-found f R C L U r at l total d s = holds-cut (uppers_of f) at U s.upper r at (s.rank ∙ sym (uppers-many f)) (s.U-entries ∙ entries-values (uppers_of f))

-- ---- a row can be reduced by them

module _ (p : ℕ) (A : Compressed) (R C : List ℕ) (L U : Compressed) (w : List ℕ) (lent : Lent p A (storage_of R C L U w)) where
  cells-below : Below (p * p) w
  cells-below j b =
      omega (arith, ap (λ (l : List ℕ). get_or l j 0) lent.clear, zeros-at (length w) j, lent.prime.two, mul-le-mul_left {m = 1} {n = p} p (omega (arith, lent.prime.two)))

  -- where the lists, cut to their lengths, are those of the rows us of U, and C begins with their pivot columns
  module _ (cs : List ℕ) (us : List (List ℕ)) (v : Echelon p (length w) cs us) (r at : ℕ) (ec : take r C ≡ cs) (eu : cut r at U.starts U.cols U.vals ≡ compress us) (inside : r ≤ length C) where
    cut-ready : EchelonReady p (length (take r C)) (take r C) (cut r at U.starts U.cols U.vals) w
    cut-ready = subst₂ (λ (c : List ℕ) (u : Compressed). EchelonReady p (length c) c u w) (sym ec) (sym eu) (upper-ready p (length w) cs us v lent.prime.two w refl cells-below)

    pub rows-ready : r < length R → at ≤ length U.cols → (i place limit : ℕ) (lc lv : List ℕ) → i < length R → length lc ≡ length lv → place ≤ limit → limit ≤ length lc
        → GatherReadyFrom p i r at place limit A C U.starts U.cols U.vals w lc lv
    rows-ready more U-room i place limit lc lv row paired low room =
        record {
          rank = inside;
          starts = omega (arith, lent.U-starts);
          entries = (U-room, omega (arith, lent.U-paired));
          row = record {
            row = record {
              row = record { formed = lent.formed; inside = omega (arith, lent.rows); clear = lent.clear };
              upper = cut-ready;
            };
            narrow = omega (arith, length-take-le r C inside, lent.n-narrow);
            paired = paired;
            place = low;
            room = room;
          };
        }

  -- by the rows found
  module _ (r at l total d : ℕ) (f : Found) (v : Invariant p (length R) (length w) (matrix A) f) (s : State f R C L U r at l total d) where
    pub rank-fits : r ≤ length C
    rank-fits = omega (arith, s.rank, rank_most p (length R) (length w) (matrix A) f v, lent.columns)

    pub gather-ready : r < length R → at ≤ length U.cols → (i place limit : ℕ) (lc lv : List ℕ) → i < length R → length lc ≡ length lv → place ≤ limit → limit ≤ length lc
        → GatherReadyFrom p i r at place limit A C U.starts U.cols U.vals w lc lv
    gather-ready = rows-ready (columns_of f) (uppers_of f) v.echelon r at s.columns (cut-found f R C L U r at l total d s) rank-fits

-- ---- the turn

module _ (p i : ℕ) (paired : Bool) (A : Compressed) (R C : List ℕ) (L U : Compressed) (w : List ℕ) (from : Progress) (h : TurnReady p i paired A (storage_of R C L U w) from) where
  pub lists-ready : ListsReady (length w) from.r from.at from.l from.total (entry_lists_of L.cols L.vals U.cols U.vals)
  lists-ready =
      record {
        narrow = h.lent.m-narrow;
        rank = omega (arith, h.more, h.lent.n-narrow);
        L-paired = h.lent.L-paired;
        U-paired = h.lent.U-paired;
        L-place = omega (arith, h.state.pivot-entries, h.state.L-entries, pivots-less h.f);
        L-room = h.L-room;
        U-room = h.U-room;
      }

  pub pair-ready : paired ≡ true → (c : ℕ) → c ≡ get_or C from.r 0 → PairReady p i c from.r from.at from.l from.total A w (entry_lists_of L.cols L.vals U.cols U.vals)
  pair-ready e c ec =
      record {
        prime = h.lent.prime;
        row = record { formed = h.lent.formed; inside = omega (arith, h.row, h.lent.rows); clear = h.lent.clear };
        column = rw ec (h.pair e).column;
        here = rw ec (h.pair e).here;
        lists = lists-ready;
      }

  pub other-ready : OtherReady p i from.r from.at from.l from.total A C U.starts w (entry_lists_of L.cols L.vals U.cols U.vals)
  other-ready =
      record {
        prime = h.lent.prime;
        row = gather-ready p A R C L U w h.lent from.r from.at from.l from.total from.d h.f h.holds h.state (omega (arith, h.more)) h.U-room i from.l from.total L.cols L.vals h.row h.lent.L-paired lists-ready.L-place h.L-room;
        lists = lists-ready;
      }

  -- and what it finds has the invariant
  pub turn_holds : Invariant p (length R) (length w) (matrix A) (turn p (length w) (matrix A) h.f (turn_of paired i (get_or C from.r 0)))
  turn_holds = go paired (λ e. h.pair e)
    where
      small : (i j : ℕ) → i < length R → j < length w → matrix A i j < p
      small i j a b = form-below p (length w) A.starts A.cols A.vals h.lent.formed i j (omega (arith, h.lent.prime.two))

      earlier : (k : ℕ) → k < rank_of h.f → get_or C k 0 ≡ get_or (columns_of h.f) k 0
      earlier k b = sym (get_or-take from.r C k 0 (omega (arith, h.state.rank))) ∙ ap (λ (l : List ℕ). get_or l k 0) h.state.columns

      go : (b : Bool) → (b ≡ true → PairAt (length w) (matrix A) i from.r C) → Invariant p (length R) (length w) (matrix A) (turn p (length w) (matrix A) h.f (turn_of b i (get_or C from.r 0)))
      go true q =
          pair-holds p (length R) (length w) (matrix A) h.lent.prime small h.f h.holds (record { row = i; column = get_or C from.r 0 }) h.row (q refl).column (q refl).here
          (λ k b. ap (matrix A i) (sym (earlier k b)) ∙ (q refl).before k (omega (arith, h.state.rank)))
      go false q = other-holds p (length R) (length w) (matrix A) h.lent.prime small h.f h.holds i h.row
