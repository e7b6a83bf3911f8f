-- A row that waits no more: the degrees of the pivots to which it leads fall by one, column after column.
--   lowered-ready         where the degree of a waiting row falls, and the row is marked if none leads to it, the marks are right again
--   Releasing k A w ..    where the loop of `release` stands: the first t columns of row k are passed
use Prim.Native.Nat.{ℕ, suc, ◌+◌, ◌-◌, ◌≤◌, ◌<◌}
use mathlib.Core.Path.{◌≡◌, refl, sym, ap, ◌∙◌, subst}
use mathlib.Core.Bool.{Bool}
use mathlib.Core.List.{List}
use native.Mathlib.Decide.{ℕ_discrete}
use native.Mathlib.Omega.{arith}
use lib.ListN.{length, get_or, set, length-set}
use lib.Seq.{get_or-set_same, get_or-set_other}
use Rattle.sparse.specs.Matrix.{Compressed, matrix, row_of}
use Rattle.elimination.specs.Structural.{Pair}
use Rattle.elimination.specs.Selection.{nonzero, pair_at, leads_to, degree}
use Rattle.elimination.proofs.Steps.{degree-without}
use Rattle.factor_names.proofs.RowEntries.{row_has}
use Rattle.factor_arrange.specs.Waiting.{waiting, Ready}
use Rattle.factor_arrange.specs.Needs.{DegreeFallsReady, Lowered, ReleaseReady, Released}
use Rattle.factor_arrange.proofs.Cells.{named, set-cells}
use Rattle.factor_arrange.proofs.Waits.{waiting-in, waiting-apart, waiting-without}
use Rattle.factor_arrange.proofs.Counting.{leads-other, named-row, Passed, passed-starts, passed-new, passed_over, passed-turn, passed-ends}

-- ---- one degree falls

module _ (q low : ℕ) (d s d' s' : List ℕ) (r : ℕ) (h : DegreeFallsReady q d s) (l : Lowered q low d s d' s' r) where
  less-here : get_or d q 0 ≡ 1 + get_or d' q 0
  less-here = omega (arith, ap (λ (x : List ℕ). get_or x q 0) l.less ∙ get_or-set_same d q (get_or d q 0 - 1) 0 h.counted, h.led)

  less_other : (i : ℕ) → ¬ (i ≡ q) → get_or d' i 0 ≡ get_or d i 0
  less_other i n = ap (λ (x : List ℕ). get_or x i 0) l.less ∙ get_or-set_other d q i (get_or d q 0 - 1) 0 n

  -- marks of other rows are as they were
  mark-other : (i : ℕ) → ¬ (i ≡ q) → get_or s' i 0 ≡ get_or s i 0
  mark-other i n = go (ℕ_discrete (get_or d q 0) 1)
    where
      go : Dec (get_or d q 0 ≡ 1) → get_or s' i 0 ≡ get_or s i 0
      go (yes e) = ap (λ (x : List ℕ). get_or x i 0) (l.freed e).0 ∙ get_or-set_other s q i 1 0 n
      go (no e) = ap (λ (x : List ℕ). get_or x i 0) (l.still e)

  marks-long : length s' ≡ length s
  marks-long = go (ℕ_discrete (get_or d q 0) 1)
    where
      go : Dec (get_or d q 0 ≡ 1) → length s' ≡ length s
      go (yes e) = ap length (l.freed e).0 ∙ length-set s q 1
      go (no e) = ap length (l.still e)

  lowered-ready : (v : List ℕ) → ¬ (get_or v q 0 ≡ 0) → Ready v d s → Ready v d' s'
  lowered-ready v waits m = record { right = λ i. right i (ℕ_discrete i q); all = λ i. all i (ℕ_discrete i q) }
    where
      right : (i : ℕ) → Dec (i ≡ q) → ¬ (get_or s' i 0 ≡ 0) → (¬ (get_or v i 0 ≡ 0)) × (get_or d' i 0 ≡ 0)
      right i (no n) f = let o = m.right i (λ z. f (mark-other i n ∙ z)) in (o.0, less_other i n ∙ o.1)
      right i (yes e) f = subst (λ (j : ℕ). (¬ (get_or v j 0 ≡ 0)) × (get_or d' j 0 ≡ 0)) (sym e) (waits, here (ℕ_discrete (get_or d q 0) 1))
        where
          here : Dec (get_or d q 0 ≡ 1) → get_or d' q 0 ≡ 0
          here (yes o) = omega (arith, less-here)
          here (no o) = absurd (h.led (m.right q (λ z. f (ap (λ (j : ℕ). get_or s' j 0) e ∙ ap (λ (x : List ℕ). get_or x q 0) (l.still o) ∙ z))).1)

      all : (i : ℕ) → Dec (i ≡ q) → ¬ (get_or v i 0 ≡ 0) → get_or d' i 0 ≡ 0 → ¬ (get_or s' i 0 ≡ 0)
      all i (no n) a b z = m.all i a (sym (less_other i n) ∙ b) (sym (mark-other i n) ∙ z)
      all i (yes e) a b z =
          let one : get_or d q 0 ≡ 1 = omega (arith, less-here, ap (λ (j : ℕ). get_or d' j 0) e) in
          absurd (omega (arith, ap (λ (j : ℕ). get_or s' j 0) e, ap (λ (x : List ℕ). get_or x q 0) (l.freed one).0 ∙ get_or-set_same s q 1 0 h.marked))

  -- a row below r that is marked was marked before
  lowered-low : (s₀ : List ℕ) → ((i : ℕ) → i < low → ¬ (get_or s i 0 ≡ 0) → ¬ (get_or s₀ i 0 ≡ 0)) → (i : ℕ) → i < r → ¬ (get_or s' i 0 ≡ 0) → ¬ (get_or s₀ i 0 ≡ 0)
  lowered-low s₀ f i b n = f i (omega (arith, l.least)) (λ z. n (same (ℕ_discrete (get_or d q 0) 1) ∙ z))
    where
      same : Dec (get_or d q 0 ≡ 1) → get_or s' i 0 ≡ get_or s i 0
      same (yes e) = mark-other i (λ y. absurd (omega (arith, (l.freed e).1)))
      same (no e) = ap (λ (x : List ℕ). get_or x i 0) (l.still e)

-- ---- the loop: v names what waits now, d₀ and s₀ are the degrees and the marks before the first column

pub record Releasing (k : ℕ) (A : Compressed) (w v d₀ s₀ d s : List ℕ) (low t : ℕ) : Type 0 where
  pub passed : Passed (nonzero (matrix A)) k w (row_of A.starts k A.cols) t d d₀
  pub degrees-long : length d ≡ length d₀
  pub ready-long : length s ≡ length s₀
  pub gone : (c i : ℕ) → get_or w c 0 ≡ suc i → get_or v i 0 ≡ 0 → get_or d i 0 ≡ 0
  pub marked : Ready v d s
  pub low-right : (i : ℕ) → i < low → ¬ (get_or s i 0 ≡ 0) → ¬ (get_or s₀ i 0 ≡ 0)
  pub least : low ≤ k

module _ (p n k : ℕ) (A : Compressed) (w v₀ v d₀ s₀ : List ℕ) (r : ReleaseReady p n k A w v₀ v d₀ s₀) where
  abbrev has : ℕ → ℕ → Bool
  has = nonzero (matrix A)

  -- row k waits, and none leads to it
  waits : (¬ (get_or v k 0 ≡ 0)) × (get_or d₀ k 0 ≡ 0)
  waits = r.stage.marked.right k r.is-ready

  inside : k < length v
  inside = omega (arith, r.row, r.stage.v-long)

  pub releasing-starts : Releasing k A w (set v k 0) d₀ (set s₀ k 0) d₀ (set s₀ k 0) k 0
  releasing-starts =
      record {
        passed = passed-starts has k w (row_of A.starts k A.cols) d₀;
        degrees-long = refl;
        ready-long = refl;
        gone = λ c i e. set-cells (λ i x. get_or w c 0 ≡ suc i → x ≡ 0 → get_or d₀ i 0 ≡ 0) v k 0 inside (λ e z. waits.1) (λ j n e. r.stage.gone c j e) i e;
        marked =
            record {
              right =
                  set-cells (λ i x. ¬ (x ≡ 0) → (¬ (get_or (set v k 0) i 0 ≡ 0)) × (get_or d₀ i 0 ≡ 0)) s₀ k 0 (omega (arith, r.row, r.stage.ready-long)) (λ f. absurd (f refl))
                  (λ j n f. let o = r.stage.marked.right j f in ((λ z. o.0 (sym (get_or-set_other v k j 0 0 n) ∙ z)), o.1));
              all =
                  set-cells (λ i x. ¬ (x ≡ 0) → get_or d₀ i 0 ≡ 0 → ¬ (get_or (set s₀ k 0) i 0 ≡ 0)) v k 0 inside (λ f. absurd (f refl))
                  (λ j n f e z. r.stage.marked.all j f e (sym (get_or-set_other s₀ k j 0 0 n) ∙ z));
            };
        low-right = λ i b f. f;
        least = omega arith;
      }

  -- what a selected pair has of its degree once row k waits no more
  degree-released : (c i : ℕ) → get_or w c 0 ≡ suc i → get_or d₀ i 0 ≡ leads_to has k (pair_at i c) + degree has (waiting (set v k 0)) (pair_at i c)
  degree-released c i e =
      let o = named (get_or v k 0) waits.0 in
      r.stage.counted.cells c i e
      ∙ sym (degree-without has (waiting v) (pair_at k o.0) (pair_at i c) (waiting-apart v (length v)) (waiting-in v (length v) k o.0 inside o.1))
      ∙ ap (λ (ws : List Pair). leads_to has k (pair_at i c) + degree has ws (pair_at i c)) (sym (waiting-without v k inside))

  module _ (t x : ℕ) (turn : t < length (row_of A.starts k A.cols)) (at : x ≡ get_or (row_of A.starts k A.cols) t 0) (d s : List ℕ) (low : ℕ)
      (h : Releasing k A w (set v k 0) d₀ (set s₀ k 0) d s low t) where
    pub releasing-over : ((i : ℕ) → get_or w x 0 ≡ suc i → i ≡ k) → Releasing k A w (set v k 0) d₀ (set s₀ k 0) d s low (t + 1)
    releasing-over own =
        record {
          passed = passed_over p n A w v₀ r.stage.sized r.stage.named k t x turn at d d₀ h.passed own;
          degrees-long = h.degrees-long;
          ready-long = h.ready-long;
          gone = h.gone;
          marked = h.marked;
          low-right = h.low-right;
          least = h.least;
        }

    module _ (q : ℕ) (e : get_or w x 0 ≡ suc q) (other : ¬ (q ≡ k)) where
      -- row k leads to row q
      led : ¬ (get_or d q 0 ≡ 0)
      led z =
          absurd (omega (
            arith,
            passed-new p n A w v₀ r.stage.sized r.stage.named k t x turn at d d₀ h.passed q e,
            degree-released x q e,
            leads-other has k (pair_at q x) (λ y. other (sym y)) (ap (has k) at ∙ row_has p n (length w) A r.stage.sized k t turn),
          ))

      pub releasing-ready : DegreeFallsReady q d s
      releasing-ready =
          let row = named-row p n A w v₀ r.stage.sized r.stage.named x q e in
          record {
            counted = omega (arith, row, h.degrees-long, r.stage.degrees-long);
            marked = omega (arith, row, h.ready-long, length-set s₀ k 0, r.stage.ready-long);
            led = led;
          }

      pub releasing-turn : (d' s' : List ℕ) (low' : ℕ) → Lowered q low d s d' s' low' → Releasing k A w (set v k 0) d₀ (set s₀ k 0) d' s' low' (t + 1)
      releasing-turn d' s' low' l =
          record {
            passed =
                passed-turn p n A w v₀ r.stage.sized r.stage.named k t x turn at d d₀ h.passed q e other d' d₀
                (passed-new p n A w v₀ r.stage.sized r.stage.named k t x turn at d d₀ h.passed q e ∙ less-here q low d s d' s' low' releasing-ready l)
                (λ i f. (less_other q low d s d' s' low' releasing-ready l i f, refl));
            degrees-long = ap length l.less ∙ length-set d q (get_or d q 0 - 1) ∙ h.degrees-long;
            ready-long = marks-long q low d s d' s' low' releasing-ready l ∙ h.ready-long;
            gone = λ c i f z. gone c i f z (ℕ_discrete i q);
            marked = lowered-ready q low d s d' s' low' releasing-ready l (set v k 0) waiting-still h.marked;
            low-right = lowered-low q low d s d' s' low' releasing-ready l (set s₀ k 0) h.low-right;
            least = omega (arith, l.least, h.least);
          }
        where
          waiting-still : ¬ (get_or (set v k 0) q 0 ≡ 0)
          waiting-still z = led (h.gone x q e z)

          gone : (c i : ℕ) → get_or w c 0 ≡ suc i → get_or (set v k 0) i 0 ≡ 0 → Dec (i ≡ q) → get_or d' i 0 ≡ 0
          gone c i f z (yes y) = absurd (waiting-still (ap (λ (j : ℕ). get_or (set v k 0) j 0) (sym y) ∙ z))
          gone c i f z (no y) = less_other q low d s d' s' low' releasing-ready l i y ∙ h.gone c i f z

  pub releasing-ends : (t : ℕ) (d s : List ℕ) (low : ℕ) → length (row_of A.starts k A.cols) ≤ t → Releasing k A w (set v k 0) d₀ (set s₀ k 0) d s low t → Released p n k A w v₀ v s₀ d s low
  releasing-ends t d s low l h =
      record {
        stage =
            record {
              sized = r.stage.sized;
              named = r.stage.named;
              v-long = length-set v k 0 ∙ r.stage.v-long;
              degrees-long = h.degrees-long ∙ r.stage.degrees-long;
              ready-long = h.ready-long ∙ length-set s₀ k 0 ∙ r.stage.ready-long;
              part = set-cells (λ i x. ¬ (x ≡ 0) → x ≡ get_or v₀ i 0) v k 0 inside (λ f. absurd (f refl)) (λ j f. r.stage.part j);
              gone = h.gone;
              counted = record { cells = λ c i e. omega (arith, degree-released c i e, passed-ends p n A w v₀ r.stage.sized r.stage.named k t d d₀ l h.passed c i e) };
              marked = h.marked;
            };
        low = λ i b f. before i (h.low-right i b f);
        inside = h.least;
      }
    where
      before : (i : ℕ) → ¬ (get_or (set s₀ k 0) i 0 ≡ 0) → ¬ (get_or s₀ i 0 ≡ 0)
      before = set-cells (λ i x. ¬ (x ≡ 0) → ¬ (get_or s₀ i 0 ≡ 0)) s₀ k 0 (omega (arith, r.row, r.stage.ready-long)) (λ f. absurd (f refl)) (λ j f g. g)
