-- The rows that have no structural pivot as a loop over their turns: what holds before row k, that each turn keeps it, and what it comes to.
-- `Kept` is what a loop knows besides of what is found.
use mathlib.Core.Path.{◌≡◌, refl, sym, ap, ◌∙◌, subst}
use mathlib.Core.Bool.{true, false, not, true≢false}
use mathlib.Core.List.{List, [], ◌∷◌, map}
use mathlib.Core.Option.{some}
use Prim.Native.Nat.{ℕ, zero, suc, ◌+◌, ◌-◌, ◌≤◌, ◌<◌}
use native.Mathlib.Nat.{add-zero}
use native.Mathlib.Omega.{arith}
use lib.ListN.{length, get_or, take, drop, length-drop, length-map}
use lib.Seq.{get_or-take, get_or-drop, drop-drop, take_all, take_at}
use Rattle.lists.specs.Filled.{zeros}
use Rattle.algebra.specs.Matrix.{Matrix, Distinct, vector}
use Rattle.sparse.specs.Matrix.{Compressed, matrix}
use Rattle.sparse.specs.Set.{storage_of}
use Rattle.elimination.specs.Pivots.{Found, Turn, columns_of, uppers_of, rank_of, reduced_by, multiples_by, with_dependent, other, turn}
use Rattle.elimination.specs.Factoring.{entries, lowers_of, first_over}
use Rattle.elimination.specs.Invariant.{Invariant}
use Rattle.elimination.proofs.Echelon.{echelon-distinct}
use Rattle.elimination.proofs.Turns.{other-either}
use Rattle.factor_turn.specs.declared.turn.Progress.{Progress}
use Rattle.factor_turn.specs.State.{State, AfterTurn}
use Rattle.factor_turn.specs.Turning.{TurnLeaves}
use Rattle.factor_turn.specs.Needs.{TurnReady}
use Rattle.factor_turn.specs.Others.{RowsFrom, TurnsLeave, RowsTaken, RestReady}
use Rattle.factor_turn.proofs.Steps.{rank-more, columns-more}
use Rattle.factor_turn.proofs.Sizes.{rank_most}
use Rattle.factor_turn.proofs.Readiness.{turn_holds}
use Rattle.factor_turn.proofs.Schedules.{Remaining, remaining-starts, remaining-turn, remaining-over, remaining-none, others-drop}
use Rattle.factor_turn.proofs.PivotPass.{rows-turn, room, SameLengths, same-lent}

-- ---- the turns of other rows

others-end : (os : List ℕ) (k : ℕ) → length os ≤ k → drop k (map other os) ≡ []
others-end [] zero h = refl
others-end [] (suc k) h = refl
others-end (x ∷ os) zero h = absurd (omega arith)
others-end (x ∷ os) (suc k) h = others-end os k (omega arith)

-- ---- the pivot columns

columns-many : (f : Found) → length (columns_of f) ≡ rank_of f
unfolding columns_of
columns-many f = length-map f.pivots (λ q. q.column)

dependent-front : (f : Found) (i : ℕ) (cs : List ℕ) → (rank_of f ≤ rank_of (with_dependent f i cs)) × (take (rank_of f) (columns_of (with_dependent f i cs)) ≡ columns_of f)
unfolding with_dependent columns_of
dependent-front f i cs = (omega arith, take_all (rank_of f) (columns_of f) (omega (arith, columns-many f)))

-- a turn finds one pivot at most
rank-other : (p m : ℕ) (A : Matrix) (f : Found) (i : ℕ) → rank_of (turn p m A f (other i)) ≤ suc (rank_of f)
unfolding with_dependent
rank-other p m A f i =
    other-either p m A f i (λ g. rank_of g ≤ suc (rank_of f)) (omega arith) (λ c. omega (arith, rank-more p m f i c (multiples_by p f (A i)) (reduced_by p f (rank_of f) (A i))))

-- those that the lists hold are apart
pub state-distinct : (p n m : ℕ) (A : Matrix) (f : Found) (R C : List ℕ) (L U : Compressed) (r at l total d : ℕ) → Invariant p n m A f → State f R C L U r at l total d → Distinct r m (vector C)
state-distinct p n m A f R C L U r at l total d v s =
    record { below = λ a h. subst (λ (c : ℕ). c < m) (cell a h) (apart.below a (inside a h)); apart = λ a b h g e. apart.apart a b (inside a h) (inside b g) (cell a h ∙ e ∙ sym (cell b g)) }
  where
    apart : Distinct (length (columns_of f)) m (vector (columns_of f))
    apart = echelon-distinct p m (columns_of f) (uppers_of f) v.echelon

    inside : (a : ℕ) → a < r → a < length (columns_of f)
    inside a h = omega (arith, s.rank, columns-many f)

    cell : (a : ℕ) → a < r → get_or (columns_of f) a 0 ≡ get_or C a 0
    cell a h = ap (λ (l : List ℕ). get_or l a 0) (sym s.columns) ∙ get_or-take r C a 0 h

-- a turn adds one at most, at the end
pub record ColumnsGrown (r r' m : ℕ) (C C' : List ℕ) : Type 0 where
  pub low : r ≤ r'
  pub high : r' ≤ r + 1
  pub most : r' ≤ m
  pub front : (k : ℕ) → k < r → get_or C' k 0 ≡ get_or C k 0
  pub distinct : Distinct r' m (vector C')

module _ (p n m : ℕ) (A : Compressed) (f : Found) (i : ℕ) (R C R' C' : List ℕ) (L U L' U' : Compressed) (from to : Progress) where
  abbrev next : Found
  next = turn p m (matrix A) f (other i)

  columns-front : (rank_of f ≤ rank_of next) × (take (rank_of f) (columns_of next) ≡ columns_of f)
  columns-front =
      other-either p m (matrix A) f i (λ g. (rank_of f ≤ rank_of g) × (take (rank_of f) (columns_of g) ≡ columns_of f)) dependent
      (λ c. (
        omega (arith, rank-more p m f i c (multiples_by p f (matrix A i)) (reduced_by p f (rank_of f) (matrix A i))),
        ap (take (rank_of f)) (columns-more p m f i c (multiples_by p f (matrix A i)) (reduced_by p f (rank_of f) (matrix A i))) ∙ take_at (columns_of f) (c ∷ []) (rank_of f) (columns-many f),
      ))
    where
      dependent : (rank_of f ≤ rank_of (with_dependent f i (multiples_by p f (matrix A i)))) × (take (rank_of f) (columns_of (with_dependent f i (multiples_by p f (matrix A i)))) ≡ columns_of f)
      dependent = dependent-front f i (multiples_by p f (matrix A i))

  pub grown : State f R C L U from.r from.at from.l from.total from.d → State next R' C' L' U' to.r to.at to.l to.total to.d → Invariant p n m (matrix A) next
      → ColumnsGrown from.r to.r m C C'
  grown a b v =
      record {
        low = omega (arith, a.rank, b.rank, columns-front.0);
        high = omega (arith, a.rank, b.rank, rank-other p m (matrix A) f i);
        most = omega (arith, b.rank, rank_most p n m (matrix A) next v);
        front = front;
        distinct = state-distinct p n m (matrix A) next R' C' L' U' to.r to.at to.l to.total to.d v b;
      }
    where
      front : (k : ℕ) → k < from.r → get_or C' k 0 ≡ get_or C k 0
      front k h =
          sym (get_or-take to.r C' k 0 (omega (arith, a.rank, b.rank, columns-front.0)))
          ∙ ap (λ (l : List ℕ). get_or l k 0) b.columns
          ∙ sym (get_or-take (rank_of f) (columns_of next) k 0 (omega (arith, a.rank)))
          ∙ ap (λ (l : List ℕ). get_or l k 0) (columns-front.1 ∙ sym a.columns)
          ∙ get_or-take from.r C k 0 h

-- ---- before row k

module _ (p s : ℕ) (A : Compressed) (R₀ C₀ : List ℕ) (L₀ U₀ : Compressed) (w₀ : List ℕ) (from₀ : Progress) where
  abbrev n : ℕ
  n = length R₀

  abbrev m : ℕ
  m = length w₀

  abbrev roomL : ℕ
  roomL = length L₀.cols

  abbrev roomU : ℕ
  roomU = length U₀.cols

  abbrev all : List Turn
  all = map other (drop s R₀)

  abbrev pub From : Found → Type 0
  From f₀ = RowsFrom p A (storage_of R₀ C₀ L₀ U₀ w₀) from₀ f₀

  -- what is found by then, from f₀, is held by the lists
  pub record Reached (Kept : Found → Type 0) (f₀ : Found) (R C : List ℕ) (L U : Compressed) (k : ℕ) (from : Progress) : Type 0 where
    pub f : Found
    pub holds : Invariant p n m (matrix A) f
    pub state : State f R C L U from.r from.at from.l from.total from.d
    pub kept : Kept f
    pub left : Remaining p m (matrix A) roomL roomU f₀ all f (drop (k - s) all)

  pub record Going (Kept : Found → Type 0) (R C : List ℕ) (L U : Compressed) (w : List ℕ) (k : ℕ) (from : Progress) : Type 0 where
    pub low : s ≤ k
    pub inside : k ≤ n
    pub same : SameLengths R₀ C₀ L₀ U₀ w₀ R C L U w
    pub clear : w ≡ zeros (length w)
    pub going : from.over ≡ false
    pub rows : from.r + from.d ≤ k
    pub L-room : from.total ≤ roomL
    pub U-room : from.at ≤ roomU
    pub ahead : drop k R ≡ drop k R₀
    pub each : (f₀ : Found) → From f₀ → Reached Kept f₀ R C L U k from

  module _ (h : RestReady p s A (storage_of R₀ C₀ L₀ U₀ w₀) from₀) where
    -- ---- at the start

    pub going-starts : (Kept : Found → Type 0) → ((f₀ : Found) → From f₀ → Kept f₀) → Going Kept R₀ C₀ L₀ U₀ w₀ s from₀
    going-starts Kept kept =
        record {
          low = omega arith;
          inside = h.rows_inside;
          same = record { R-long = refl; C-long = refl; ls-long = refl; lc-long = refl; lv-long = refl; us-long = refl; uc-long = refl; uv-long = refl; w-long = refl };
          clear = h.lent.clear;
          going = h.going;
          rows = omega (arith, h.rank, h.alone);
          L-room = h.L-room;
          U-room = h.U-room;
          ahead = refl;
          each = λ f₀ g. record {
            f = f₀;
            holds = g.holds;
            state = g.state;
            kept = kept f₀ g;
            left = rw (let q : s - s ≡ 0 = omega arith in q) (remaining-starts p m (matrix A) roomL roomU f₀ all);
          };
        }

    -- ---- a turn

    module _ (Kept : Found → Type 0) (R C : List ℕ) (L U : Compressed) (w : List ℕ) (k : ℕ) (from : Progress) (t : Going Kept R C L U w k from) where
      module _ (b : k < n) where
        -- the row is still that of the first list
        pub row_is : get_or R k 0 ≡ get_or R₀ k 0
        row_is =
            ap (λ (j : ℕ). get_or R j 0) (sym (add-zero k))
            ∙ sym (get_or-drop k R 0 0)
            ∙ ap (λ (x : List ℕ). get_or x 0 0) t.ahead
            ∙ get_or-drop k R₀ 0 0
            ∙ ap (λ (j : ℕ). get_or R₀ j 0) (add-zero k)

        unfoldable pub turn-ready : (f₀ : Found) → From f₀ → TurnReady p (get_or R k 0) false A (storage_of R C L U w) from
        turn-ready f₀ g =
            let x = t.each f₀ g in
            record {
              lent = same-lent p A R₀ C₀ L₀ U₀ w₀ R C L U w t.same t.clear h.lent;
              row = omega (arith, row_is, h.below k t.low b, t.same.R-long);
              more = omega (arith, t.rows, t.same.R-long);
              L-room = omega (arith, t.L-room, t.same.lc-long);
              U-room = omega (arith, t.U-room, t.same.uc-long);
              f = x.f;
              holds = rw (t.same.R-long, t.same.w-long) x.holds;
              state = x.state;
              pair = λ e. absurd (true≢false (sym e));
            }

        abbrev pub going-ready : TurnReady p (get_or R k 0) false A (storage_of R C L U w) from
        going-ready = turn-ready h.f h.held

        -- it is the next turn
        next-turn : drop (k - s) all ≡ other (get_or R k 0) ∷ drop (k + 1 - s) all
        next-turn =
            others-drop (drop s R₀) (k - s) (omega (arith, length-drop s R₀, t.low))
            ∙ (λ j. other (here j) ∷ drop (more j) all)
          where
            here : get_or (drop s R₀) (k - s) 0 ≡ get_or R k 0
            here = get_or-drop s R₀ (k - s) 0 ∙ ap (λ (j : ℕ). get_or R₀ j 0) (let q : s + (k - s) ≡ k = omega (arith, t.low) in q) ∙ sym row_is

            more : suc (k - s) ≡ k + 1 - s
            more = omega (arith, t.low)

        module _ (R' C' : List ℕ) (L' U' : Compressed) (w' : List ℕ) (to : Progress) (d : TurnLeaves p (get_or R k 0) false A (storage_of R C L U w) (storage_of R' C' L' U' w') from to) where
          -- ---- of one f₀

          module _ (f₀ : Found) (g : From f₀) where
            abbrev pub before : Reached Kept f₀ R C L U k from
            before = t.each f₀ g

            abbrev pub found : Found
            found = turn p m (matrix A) before.f (other (get_or R k 0))

            pub turned : AfterTurn found m roomL roomU (storage_of R' C' L' U' w') to
            turned = rw (t.same.w-long, t.same.lc-long, t.same.uc-long) at (d.turned before.f before.state)

            over-at : to.over ≡ true → first_over p m (matrix A) roomL roomU f₀ all ≡ some (get_or R k 0)
            over-at e =
                remaining-over p m (matrix A) roomL roomU f₀ all before.f (drop (k - s) all) before.left (other (get_or R k 0)) (drop (k + 1 - s) all) next-turn (turned.fit ∙ ap not e)

            holds_after : Invariant p n m (matrix A) found
            unfolding turn-ready
            holds_after = rw (t.same.R-long, t.same.w-long) at (turn_holds p (get_or R k 0) false A R C L U w from (turn-ready f₀ g))

            reached-turn : to.over ≡ false → (Kept' : Found → Type 0) → Kept' found → Reached Kept' f₀ R' C' L' U' (k + 1) to
            reached-turn e Kept' kept =
                record {
                  f = found;
                  holds = holds_after;
                  state = turned.state e;
                  kept = kept;
                  left = remaining-turn p m (matrix A) roomL roomU f₀ all before.f (drop (k - s) all) before.left (other (get_or R k 0)) (drop (k + 1 - s) all) next-turn (turned.fit ∙ ap not e);
                }

          -- ---- of the loop

          pub going-over : to.over ≡ true → RowsTaken p s A (storage_of R₀ C₀ L₀ U₀ w₀) (storage_of R' C' L' U' w') from₀ (record { stop = get_or R k 0; progress = to })
          going-over e =
              record {
                found = λ f₀ g. record {
                  stopped = λ z. over-at f₀ g e;
                  fitted = λ z. absurd (true≢false (sym e ∙ z));
                  state = λ z. absurd (true≢false (sym e ∙ z));
                };
                clear = λ z. absurd (true≢false (sym e ∙ z));
              }

          -- the pivot columns before are as they were
          pub columns-grown : to.over ≡ false → ColumnsGrown from.r to.r m C C'
          columns-grown e =
              grown p (length R₀) m A (before h.f h.held).f (get_or R k 0) R C R' C' L U L' U' from to (before h.f h.held).state ((turned h.f h.held).state e) (holds_after h.f h.held)

          module _ (e : to.over ≡ false) (same' : SameLengths R₀ C₀ L₀ U₀ w₀ R' C' L' U' w') where
            abbrev then : AfterTurn (found h.f h.held) m roomL roomU (storage_of R' C' L' U' w') to
            then = turned h.f h.held

            abbrev fitting : (entries (lowers_of (found h.f h.held)) ≤ roomL) × (entries (uppers_of (found h.f h.held)) ≤ roomU)
            fitting = room roomL roomU (found h.f h.held) (then.fit ∙ ap not e)

            later : drop (k + 1) R' ≡ drop (k + 1) R₀
            later =
                further R' ∙ ap (drop (k - from.r)) d.ahead ∙ sym (further R)
                ∙ sym (drop-drop 1 k R) ∙ ap (drop 1) t.ahead ∙ drop-drop 1 k R₀
              where
                further : (x : List ℕ) → drop (k + 1) x ≡ drop (k - from.r) (drop (from.r + 1) x)
                further x = ap (λ (j : ℕ). drop j x) (let q : k + 1 ≡ from.r + 1 + (k - from.r) = omega (arith, t.rows) in q) ∙ sym (drop-drop (k - from.r) (from.r + 1) x)

            pub going-turn : (Kept' : Found → Type 0) → ((f₀ : Found) (g : From f₀) → Kept' (found f₀ g)) → Going Kept' R' C' L' U' w' (k + 1) to
            going-turn Kept' kept =
                record {
                  low = omega (arith, t.low);
                  inside = omega arith;
                  same = same';
                  clear = then.clear e ∙ ap zeros (sym same'.w-long);
                  going = e;
                  rows = omega (arith, (then.state e).rank, (then.state e).dependents, t.rows, (before h.f h.held).state.rank, (before h.f h.held).state.dependents, rows-turn p m (matrix A) (before h.f h.held).f false (get_or R k 0) 0);
                  L-room = omega (arith, (then.state e).L-entries, fitting.0);
                  U-room = omega (arith, (then.state e).U-entries, fitting.1);
                  ahead = later;
                  each = λ f₀ g. reached-turn f₀ g e Kept' (kept f₀ g);
                }

      -- ---- at the end

      ends-leave : n ≤ k → (stop : ℕ) (f₀ : Found) → From f₀ → TurnsLeave p m (matrix A) roomL roomU f₀ all (storage_of R C L U w) (record { stop = stop; progress = from })
      ends-leave b stop f₀ g =
          let x = t.each f₀ g in
          let q = remaining-none p m (matrix A) roomL roomU f₀ all x.f (drop (k - s) all) x.left (others-end (drop s R₀) (k - s) (omega (arith, length-drop s R₀))) in
          record {
            stopped = λ e. absurd (true≢false (sym e ∙ t.going));
            fitted = λ e. q.1;
            state = λ e. rw q.0 x.state;
          }

      pub going-ends : n ≤ k → (stop : ℕ) → RowsTaken p s A (storage_of R₀ C₀ L₀ U₀ w₀) (storage_of R C L U w) from₀ (record { stop = stop; progress = from })
      going-ends b stop = record { found = ends-leave b stop; clear = λ e. t.clear ∙ ap zeros t.same.w-long }
