-- The tests of shape by stored entries are the tests by cells.
use mathlib.Core.Path.{◌≡◌, refl, sym, ap, ◌∙◌}
use mathlib.Core.Logic.{◌≢◌}
use mathlib.Core.Bool.{Bool, true, false, not, ◌&&◌, ◌||◌, true≢false}
use mathlib.Core.List.{List, [], ◌∷◌}
use Prim.Native.Nat.{ℕ, zero, suc, ◌+◌, ◌-◌, ◌≤◌, ◌<◌}
use native.Mathlib.Omega.{arith}
use native.Mathlib.Decide.{ℕ_discrete, dec_lt}
use lib.Dec.{leb, ltb, eqb}
use lib.ListN.{length, get_or, set, length-set}
use lib.Seq.{slice, get_or-set_same, get_or-set_other, length-slice, slice_empty}
use borrow.Author.Tests.{lt-leb, le-leb, eqb-true, eqb-false, eq-eqb, ne_eqb, lt-ltb, le-ltb, not-false}
use Rattle.lists.specs.Filled.{zeros}
use Rattle.lists.specs.Tests.{all}
use Rattle.lists.proofs.Bools.{and_both, and_left, and_right, or_right}
use Rattle.lists.proofs.Filled.{zeros-at}
use Rattle.lists.proofs.Steps.{slice-step, get_d-slice}
use Rattle.lists.proofs.Tests.{all_pass, all-fail}
use Rattle.algebra.specs.Matrix.{Vector, Matrix}
use Rattle.sparse.specs.Form.{well_formed}
use Rattle.sparse.specs.Matrix.{row_of}
use Rattle.sparse.specs.Row.{Row, entry}
use Rattle.sparse.proofs.Entries.{entry_at, entry_absent, rises-at, values-at, rises-apart}
use Rattle.sparse.proofs.Rows.{form-starts, form-row}
use Rattle.pluq.specs.Shape.{lower_row, upper_row}
use Rattle.check_shape.specs.Needs.{clean}

-- ---- a row of L

lower-yes : (r : ℕ) (row : Vector) (k : ℕ) → (row k ≡ 0 → ⊥) → ((l : ℕ) → l < r → k < l → row l ≡ 0) → lower_row r row k ≡ true
unfolding lower_row
lower-yes r row k h g =
    and_both (not (eqb (row k) 0)) (all r (λ l. leb l k || eqb (row l) 0)) (ap not (ne_eqb (row k) 0 h))
    (all_pass r (λ l. leb l k || eqb (row l) 0) (λ l b. cell l b (dec_lt k l)))
  where
    cell : (l : ℕ) → l < r → Dec (k < l) → (leb l k || eqb (row l) 0) ≡ true
    cell l b (yes d) = or_right (leb l k) (eq-eqb (row l) 0 (g l b d))
    cell l b (no d) = ap (λ (t : Bool). t || eqb (row l) 0) (le-leb l k (omega arith))

lower-diagonal : (r : ℕ) (row : Vector) (k : ℕ) → row k ≡ 0 → lower_row r row k ≡ false
unfolding lower_row
lower-diagonal r row k h = ap (λ (b : Bool). not b && all r (λ l. leb l k || eqb (row l) 0)) (eq-eqb (row k) 0 h)

and_none : (a : Bool) → (a && false) ≡ false
and_none true = refl
and_none false = refl

lower-above : (r : ℕ) (row : Vector) (k l : ℕ) → l < r → k < l → (row l ≡ 0 → ⊥) → lower_row r row k ≡ false
unfolding lower_row
lower-above r row k l h g e =
    ap (λ (b : Bool). not (eqb (row k) 0) && b)
    (all-fail r (λ l. leb l k || eqb (row l) 0) l h ((λ j. lt-leb l k g j || eqb (row l) 0) ∙ ne_eqb (row l) 0 e))
    ∙ and_none (not (eqb (row k) 0))

abbrev last_of : List ℕ → ℕ
last_of cols = get_or cols (length cols - 1) 0

-- the last column decides
pub lower_last : (p r : ℕ) (cols vals : List ℕ) (k : ℕ) → Row p r cols vals → (ltb 0 (length cols) && eqb (get_or cols (length cols - 1) 0) k) ≡ lower_row r (entry cols vals) k
lower_last p r cols vals k row = go (dec_lt 0 (length cols))
  where
    most : (t : ℕ) → t < length cols → get_or cols t 0 ≤ last_of cols
    most t h = elim (ℕ_discrete t (length cols - 1)) [
      | yes e ↦ rw e (omega arith)
      | no e ↦ omega (arith, rises-apart r 0 cols t (length cols - 1) row.rising (omega arith) (omega arith))
    ]

    past : (l : ℕ) → last_of cols < l → entry cols vals l ≡ 0
    past l h = entry_absent cols vals l (λ t g e. omega (arith, most t g))

    full : 0 < length cols → entry cols vals (last_of cols) ≡ 0 → ⊥
    full h e =
        let q = entry_at r 0 cols vals row.rising (length cols - 1) (omega arith) (omega (arith, row.paired)) in
        let v = (values-at p vals row.nonzero (length cols - 1) (omega (arith, row.paired))).0 in
        omega (arith, q, v, e)

    here : 0 < length cols → Dec (last_of cols ≡ k) → Dec (last_of cols < k) → eqb (last_of cols) k ≡ lower_row r (entry cols vals) k
    here h (yes e) d = eq-eqb (last_of cols) k e ∙ sym (lower-yes r (entry cols vals) k (λ z. full h (ap (entry cols vals) e ∙ z)) (λ l g b. past l (omega arith)))
    here h (no e) (yes d) = ne_eqb (last_of cols) k e ∙ sym (lower-diagonal r (entry cols vals) k (past k d))
    here h (no e) (no d) =
        ne_eqb (last_of cols) k e ∙ sym (lower-above r (entry cols vals) k (last_of cols) (rises-at r 0 cols row.rising (length cols - 1) (omega arith)).1 (omega arith) (full h))

    go : Dec (0 < length cols) → (ltb 0 (length cols) && eqb (get_or cols (length cols - 1) 0) k) ≡ lower_row r (entry cols vals) k
    go (yes h) = ap (λ (b : Bool). b && eqb (last_of cols) k) (lt-ltb 0 (length cols) h) ∙ here h (ℕ_discrete (last_of cols) k) (dec_lt (last_of cols) k)
    go (no h) =
        ap (λ (b : Bool). b && eqb (last_of cols) k) (le-ltb 0 (length cols) (omega arith))
        ∙ sym (lower-diagonal r (entry cols vals) k (entry_absent cols vals k (λ t g. absurd (omega arith))))

-- ---- a row of U

pub record Marks (C : Vector) (k : ℕ) (w : List ℕ) : Type 0 where
  pub each : (j : ℕ) → j < k → get_or w (C j) 0 ≡ 0 → ⊥
  pub only : (c : ℕ) → (get_or w c 0 ≡ 0 → ⊥) → (j : ℕ) × (j < k) × (C j ≡ c)

pub marks-none : (C : Vector) (w : List ℕ) → w ≡ zeros (length w) → Marks C 0 w
marks-none C w z =
    record {
      each = λ j h. absurd (omega arith);
      only = λ c h. absurd (h (ap (λ (l : List ℕ). get_or l c 0) z ∙ zeros-at (length w) c));
    }

pub marks-turn : (C : Vector) (k : ℕ) (w : List ℕ) (c : ℕ) → c ≡ C k → c < length w → Marks C k w → Marks C (k + 1) (set w c 1)
marks-turn C k w c e b s =
    record {
      each = λ j h z. each j h (ℕ_discrete (C j) c) z;
      only = λ d h. only d h (ℕ_discrete d c);
    }
  where
    each : (j : ℕ) → j < k + 1 → Dec (C j ≡ c) → get_or (set w c 1) (C j) 0 ≡ 0 → ⊥
    each j h (yes q) z = let o : get_or (set w c 1) (C j) 0 ≡ 1 = ap (λ (i : ℕ). get_or (set w c 1) i 0) q ∙ get_or-set_same w c 1 0 b in omega arith
    each j h (no q) z = other (ℕ_discrete j k)
      where
        other : Dec (j ≡ k) → ⊥
        other (yes d) = q (ap C d ∙ sym e)
        other (no d) = s.each j (omega arith) (sym (get_or-set_other w c (C j) 1 0 q) ∙ z)

    only : (d : ℕ) → (get_or (set w c 1) d 0 ≡ 0 → ⊥) → Dec (d ≡ c) → (j : ℕ) × (j < k + 1) × (C j ≡ d)
    only d h (yes q) = (k, omega arith, sym e ∙ sym q)
    only d h (no q) = let o = s.only d (λ z. h (get_or-set_other w c d 1 0 q ∙ z)) in (o.0, omega (arith, o.1), o.2)

clean_at : (w cols : List ℕ) → clean w cols ≡ true → (t : ℕ) → t < length cols → get_or w (get_or cols t 0) 0 ≡ 0
unfolding clean
clean_at w [] h t g = absurd (omega arith)
clean_at w (c ∷ cs) h zero g = eqb-true (get_or w c 0) 0 (and_left (eqb (get_or w c 0) 0) (clean w cs) h)
clean_at w (c ∷ cs) h (suc t) g = clean_at w cs (and_right (eqb (get_or w c 0) 0) (clean w cs) h) t (omega arith)

dirty-at : (w cols : List ℕ) → clean w cols ≡ false → (t : ℕ) × (t < length cols) × (get_or w (get_or cols t 0) 0 ≡ 0 → ⊥)
unfolding clean
dirty-at w [] h = absurd (true≢false h)
dirty-at w (c ∷ cs) h = go (eqb (get_or w c 0) 0) refl h (dirty-at w cs)
  where
    go : (b : Bool) → eqb (get_or w c 0) 0 ≡ b → (b && clean w cs) ≡ false → (clean w cs ≡ false → (t : ℕ) × (t < length cs) × (get_or w (get_or cs t 0) 0 ≡ 0 → ⊥))
        → (t : ℕ) × (t < suc (length cs)) × (get_or w (get_or (c ∷ cs) t 0) 0 ≡ 0 → ⊥)
    go true e q ih = let r = ih q in (suc r.0, omega (arith, r.1), r.2)
    go false e q ih = (0, omega arith, eqb-false (get_or w c 0) 0 e)

and-swap : (a b : Bool) → (a && b) ≡ (b && a)
and-swap true true = refl
and-swap true false = refl
and-swap false true = refl
and-swap false false = refl

pub upper-marked : (p width : ℕ) (cols vals : List ℕ) (C : Vector) (k j : ℕ) (w : List ℕ) → Row p width cols vals → Marks C k w → j ≡ C k
    → (clean w cols && eqb (entry cols vals j) 1) ≡ upper_row C (entry cols vals) k
unfolding upper_row
upper-marked p width cols vals C k j w row s e =
    and-swap (clean w cols) (eqb (entry cols vals j) 1)
    ∙ (λ i. eqb (entry cols vals (e i)) 1 && go (clean w cols) refl i)
  where
    go : (b : Bool) → clean w cols ≡ b → b ≡ all k (λ j. eqb (entry cols vals (C j)) 0)
    go true q =
        sym (all_pass k (λ j. eqb (entry cols vals (C j)) 0)
        (λ j h. eq-eqb (entry cols vals (C j)) 0 (entry_absent cols vals (C j) (λ t g d. s.each j h (ap (λ (i : ℕ). get_or w i 0) (sym d) ∙ clean_at w cols q t g)))))
    go false q =
        let d = dirty-at w cols q in
        let o = s.only (get_or cols d.0 0) d.2 in
        sym (all-fail k (λ j. eqb (entry cols vals (C j)) 0) o.0 o.1
        (ne_eqb (entry cols vals (C o.0)) 0
        (λ z. let v = (values-at p vals row.nonzero d.0 (omega (arith, d.1, row.paired))).0 in
        let f = sym (entry_at width 0 cols vals row.rising d.0 d.1 (omega (arith, d.1, row.paired))) ∙ ap (entry cols vals) (sym o.2) ∙ z in
        omega (arith, v, f))))

-- ---- rows as parts

pub last-part : (a e : ℕ) (l : List ℕ) (k : ℕ) → a ≤ e → e ≤ length l
    → (ltb a e && eqb (get_or l (e - 1) 0) k) ≡ (ltb 0 (length (slice a e l)) && eqb (get_or (slice a e l) (length (slice a e l) - 1) 0) k)
last-part a e l k h g = ap (λ (n : ℕ). (ltb 0 n && eqb (get_or (slice a e l) (n - 1) 0) k)) (sym (length-slice a e l g)) ∙⁻ go (dec_lt a e)
  where
    infixr 30 ◌∙⁻◌
    ◌∙⁻◌ : {A : Type 0} {x y z : A} → y ≡ z → x ≡ y → x ≡ z
    q ∙⁻ p = p ∙ q

    go : Dec (a < e) → (ltb a e && eqb (get_or l (e - 1) 0) k) ≡ (ltb 0 (e - a) && eqb (get_or (slice a e l) (e - a - 1) 0) k)
    go (yes b) =
        let q : a + (e - a - 1) ≡ e - 1 = omega arith in
        (λ i. lt-ltb a e b i && eqb (get_or l (e - 1) 0) k)
        ∙ ap (λ (x : ℕ). eqb x k) (sym (get_d-slice a e l (e - a - 1) (omega arith) ∙ ap (λ (t : ℕ). get_or l t 0) q))
        ∙ sym (λ i. lt-ltb 0 (e - a) (let z : 0 < e - a = omega arith in z) i && eqb (get_or (slice a e l) (e - a - 1) 0) k)
    go (no b) =
        (λ i. le-ltb a e (let z : e ≤ a = omega arith in z) i && eqb (get_or l (e - 1) 0) k)
        ∙ sym (λ i. le-ltb 0 (e - a) (let z : e - a ≤ 0 = omega arith in z) i && eqb (get_or (slice a e l) (e - a - 1) 0) k)

-- the columns of a part, one by one
pub clean-dirty : (w l : List ℕ) (i e c : ℕ) → i < e → e ≤ length l → c ≡ get_or l i 0 → (get_or w c 0 ≡ 0 → ⊥) → clean w (slice i e l) ≡ false
unfolding clean
clean-dirty w l i e c h k q n = ap (clean w) (slice-step l i e c h k q) ∙ ap (λ (b : Bool). b && clean w (slice (i + 1) e l)) (ne_eqb (get_or w c 0) 0 n)

pub clean-on : (w l : List ℕ) (i e c : ℕ) → i < e → e ≤ length l → c ≡ get_or l i 0 → get_or w c 0 ≡ 0 → clean w (slice i e l) ≡ clean w (slice (i + 1) e l)
unfolding clean
clean-on w l i e c h k q n = ap (clean w) (slice-step l i e c h k q) ∙ ap (λ (b : Bool). b && clean w (slice (i + 1) e l)) (eq-eqb (get_or w c 0) 0 n)

pub clean_end : (w l : List ℕ) (i e : ℕ) → i ≤ e → e ≤ i → clean w (slice i e l) ≡ true
unfolding clean
clean_end w l i e h k = ap (λ (n : ℕ). clean w (slice n e l)) (let q : i ≡ e = omega arith in q) ∙ ap (clean w) (slice_empty e l)

-- the value at a column of a part
pub entry_found : (p width a e : ℕ) (cols vals : List ℕ) (t j : ℕ) → Row p width (slice a e cols) (slice a e vals) → a ≤ t → t < e → e ≤ length cols → j ≡ get_or cols t 0
    → get_or vals t 0 ≡ entry (slice a e cols) (slice a e vals) j
entry_found p width a e cols vals t j row h g b q =
    let z : a + (t - a) ≡ t = omega arith in
    sym (ap (entry (slice a e cols) (slice a e vals)) (q ∙ sym (get_d-slice a e cols (t - a) (omega arith) ∙ ap (λ (i : ℕ). get_or cols i 0) z))
    ∙ entry_at width 0 (slice a e cols) (slice a e vals) row.rising (t - a) (omega (arith, length-slice a e cols b)) (omega (arith, length-slice a e cols b, row.paired))
    ∙ get_d-slice a e vals (t - a) (omega arith) ∙ ap (λ (i : ℕ). get_or vals i 0) z)

pub entry-none : (a e : ℕ) (cols vals : List ℕ) (j : ℕ) → e ≤ length cols → ((t : ℕ) → a ≤ t → t < e → get_or cols t 0 ≢ j) → 0 ≡ entry (slice a e cols) (slice a e vals) j
entry-none a e cols vals j b h =
    sym (entry_absent (slice a e cols) (slice a e vals) j
    (λ t g q. h (a + t) (omega arith) (omega (arith, length-slice a e cols b)) (sym (get_d-slice a e cols t (omega (arith, length-slice a e cols b))) ∙ q)))

-- row k of L, by its last column
pub lower-by-last : (p r : ℕ) (ss cols vals : List ℕ) (k a e : ℕ) → well_formed p r ss cols vals ≡ true → k + 1 < length ss → a ≡ get_or ss k 0 → e ≡ get_or ss (k + 1) 0
    → (ltb a e && eqb (get_or cols (e - 1) 0) k) ≡ lower_row r (entry (row_of ss k cols) (row_of ss k vals)) k
lower-by-last p r ss cols vals k a e f h qa qe =
    let s = form-starts p r ss cols vals f k h in
    (λ i. ltb (qa i) (qe i) && eqb (get_or cols (qe i - 1) 0) k)
    ∙ last-part (get_or ss k 0) (get_or ss (k + 1) 0) cols k s.0 s.1
    ∙ lower_last p r (row_of ss k cols) (row_of ss k vals) k (form-row p r ss cols vals f k)

-- what holds below k and at k holds below k + 1
pub one_more : (P : ℕ → Type 0) (k : ℕ) → P k → ((i : ℕ) → i < k → P i) → (i : ℕ) → i < k + 1 → P i
one_more P k here before i h = go (ℕ_discrete i k)
  where
    go : Dec (i ≡ k) → P i
    go (yes e) = rw e here
    go (no e) = before i (omega arith)

-- the columns of row k, by place
pub stored-column : (p width : ℕ) (ss cols vals : List ℕ) (k t : ℕ) → well_formed p width ss cols vals ≡ true → k + 1 < length ss
    → get_or ss k 0 ≤ t → t < get_or ss (k + 1) 0 → get_or cols t 0 < width
stored-column p width ss cols vals k t f h a e =
    let s = form-starts p width ss cols vals f k h in
    let z : get_or ss k 0 + (t - get_or ss k 0) ≡ t = omega arith in
    let b = (rises-at width 0 (row_of ss k cols) (form-row p width ss cols vals f k).rising (t - get_or ss k 0) (omega (arith, length-slice (get_or ss k 0) (get_or ss (k + 1) 0) cols s.1))).1 in
    omega (arith, b, get_d-slice (get_or ss k 0) (get_or ss (k + 1) 0) cols (t - get_or ss k 0) (omega arith) ∙ ap (λ (i : ℕ). get_or cols i 0) z)

pub marks-next : (C : Vector) (k : ℕ) (w w' : List ℕ) (c : ℕ) → w' ≡ w → c ≡ C k → c < length w → Marks C k w → Marks C (k + 1) (set w' c 1)
marks-next C k w w' c q e b s = rw q (marks-turn C k w c e b s)

-- where the loop over the rows of U stands
pub record Unit (r : ℕ) (C : Vector) (U : Matrix) (w₀ w : List ℕ) (k : ℕ) : Type 0 where
  pub long : length w ≡ length w₀
  pub marks : Marks C k w
  pub passed : (i : ℕ) → i < k → upper_row C (U i) i ≡ true

pub row_at : (p width : ℕ) (ss cols vals : List ℕ) (k a e : ℕ) → well_formed p width ss cols vals ≡ true → a ≡ get_or ss k 0 → e ≡ get_or ss (k + 1) 0
    → Row p width (slice a e cols) (slice a e vals)
row_at p width ss cols vals k a e f qa qe = rw (qa, qe) (form-row p width ss cols vals f k)

pub unit-turn : (r : ℕ) (C : Vector) (U : Matrix) (w₀ w w' : List ℕ) (k c : ℕ) (b : Bool) → k < r → w' ≡ w → c ≡ C k → c < length w → b ≡ upper_row C (U k) k → not b ≡ false
    → Unit r C U w₀ w k → Unit r C U w₀ (set w' c 1) (k + 1)
unit-turn r C U w₀ w w' k c b h q e l t n s =
    record {
      long = length-set w' c 1 ∙ ap length q ∙ s.long;
      marks = marks-next C k w w' c q e l s.marks;
      passed = one_more (λ i. upper_row C (U i) i ≡ true) k (sym t ∙ not-false b n) s.passed;
    }
