-- Laws of sparse rows: sums over their entries, and the entry at a column.
use mathlib.Core.Path.{◌≡◌, refl, sym, ap, ◌∙◌}
use mathlib.Core.Bool.{true, ◌&&◌}
use mathlib.Core.List.{List, [], ◌∷◌}
use Prim.Native.Nat.{ℕ, zero, suc, ◌+◌, ◌*◌, ◌≤◌, ◌<◌}
use native.Mathlib.Omega.{arith}
use native.Mathlib.Decide.{ℕ_discrete}
use lib.Dec.{leb, ltb}
use lib.ListN.{length, get_or, drop, drop_of_length-le}
use borrow.Author.Tests.{leb-true, ltb-true}
use Rattle.lists.proofs.Bools.{and_left, and_right}
use Rattle.lists.proofs.Steps.{drop-step}
use Rattle.algebra.specs.Sum.{dot, δ}
use Rattle.algebra.proofs.Dot.{dot-add, dot-scale, dot-zero, dot-δ, δ-same, δ-other}
use Rattle.sparse.specs.Form.{rises_from, values_ok}
use Rattle.sparse.specs.Row.{weigh, entry, Below, Row}

-- ---- sums over the entries

pub weigh-scale : (c : ℕ) (cols vals : List ℕ) (f : ℕ → ℕ) → weigh cols vals (λ k. c * f k) ≡ c * weigh cols vals f
unfolding weigh
weigh-scale c [] vals f = omega arith
weigh-scale c (k ∷ ks) [] f = omega arith
weigh-scale c (k ∷ ks) (v ∷ vs) f = omega (arith, weigh-scale c ks vs f)

pub weigh-ext : (cols vals : List ℕ) (f g : ℕ → ℕ) → ((t : ℕ) → t < length cols → f (get_or cols t 0) ≡ g (get_or cols t 0)) → weigh cols vals f ≡ weigh cols vals g
unfolding weigh
weigh-ext [] vals f g h = refl
weigh-ext (k ∷ ks) [] f g h = refl
weigh-ext (k ∷ ks) (v ∷ vs) f g h =
    omega (arith, ap (λ (z : ℕ). v * z) (h 0 (omega arith)), weigh-ext ks vs f g (λ t b. h (suc t) (omega arith)))

-- the sum over a row's entries is the product of the whole row
pub weigh-dot : (r : ℕ) (cols vals : List ℕ) (f : ℕ → ℕ) → Below r cols → weigh cols vals f ≡ dot r (entry cols vals) f
unfolding weigh
weigh-dot r [] vals f h = sym (dot-zero r f)
weigh-dot r (c ∷ cs) [] f h = sym (dot-zero r f)
weigh-dot r (c ∷ cs) (v ∷ vs) f h =
    sym (dot-add r (λ j. v * δ c j) (entry cs vs) f
    ∙ omega (arith, dot-scale r v (δ c) f, ap (λ (z : ℕ). v * z) (dot-δ r c f (h 0 (omega arith))), weigh-dot r cs vs f (λ i g. h (suc i) (omega arith))))

pub weigh-step : (cols vals : List ℕ) (t k v : ℕ) (f : ℕ → ℕ) → t < length cols → t < length vals → k ≡ get_or cols t 0 → v ≡ get_or vals t 0
    → weigh (drop t cols) (drop t vals) f ≡ v * f k + weigh (drop (t + 1) cols) (drop (t + 1) vals) f
unfolding weigh
weigh-step cols vals t k v f h g ek ev = λ j. weigh (drop-step cols t k h ek j) (drop-step vals t v g ev j) f

pub weigh-end : (cols vals : List ℕ) (t : ℕ) (f : ℕ → ℕ) → length cols ≤ t → weigh (drop t cols) (drop t vals) f ≡ 0
unfolding weigh
weigh-end cols vals t f h = ap (λ (l : List ℕ). weigh l (drop t vals) f) (drop_of_length-le cols h)

-- ---- the columns and values of a row, by place

pub rises-at : (width low : ℕ) (cols : List ℕ) → rises_from width low cols ≡ true → (t : ℕ) → t < length cols → (low ≤ get_or cols t 0) × (get_or cols t 0 < width)
unfolding rises_from
rises-at width low [] h t g = absurd (omega arith)
rises-at width low (c ∷ cs) h zero g =
    let b = and_left (leb low c && ltb c width) (rises_from width (c + 1) cs) h in
    (leb-true low c (and_left (leb low c) (ltb c width) b), ltb-true c width (and_right (leb low c) (ltb c width) b))
rises-at width low (c ∷ cs) h (suc t) g =
    let b = and_left (leb low c && ltb c width) (rises_from width (c + 1) cs) h in
    let le = leb-true low c (and_left (leb low c) (ltb c width) b) in
    let i = rises-at width (c + 1) cs (and_right (leb low c && ltb c width) (rises_from width (c + 1) cs) h) t (omega arith) in
    (omega (arith, i.0), i.1)

pub values-at : (p : ℕ) (vals : List ℕ) → values_ok p vals ≡ true → (t : ℕ) → t < length vals → (0 < get_or vals t 0) × (get_or vals t 0 < p)
unfolding values_ok
values-at p [] h t g = absurd (omega arith)
values-at p (v ∷ vs) h zero g =
    let b = and_left (ltb 0 v && ltb v p) (values_ok p vs) h in
    (ltb-true 0 v (and_left (ltb 0 v) (ltb v p) b), ltb-true v p (and_right (ltb 0 v) (ltb v p) b))
values-at p (v ∷ vs) h (suc t) g = values-at p vs (and_right (ltb 0 v && ltb v p) (values_ok p vs) h) t (omega arith)

pub rises-apart : (width low : ℕ) (cols : List ℕ) (t u : ℕ) → rises_from width low cols ≡ true → t < u → u < length cols → get_or cols t 0 < get_or cols u 0
unfolding rises_from
rises-apart width low [] t u h b g = absurd (omega arith)
rises-apart width low (c ∷ cs) t zero h b g = absurd (omega arith)
rises-apart width low (c ∷ cs) zero (suc u) h b g =
    omega (arith, (rises-at width (c + 1) cs (and_right (leb low c && ltb c width) (rises_from width (c + 1) cs) h) u (omega arith)).0)
rises-apart width low (c ∷ cs) (suc t) (suc u) h b g =
    rises-apart width (c + 1) cs t u (and_right (leb low c && ltb c width) (rises_from width (c + 1) cs) h) (omega arith) (omega arith)

pub row-columns : (p width : ℕ) (cols vals : List ℕ) → Row p width cols vals → Below width cols
row-columns p width cols vals r t h = (rises-at width 0 cols r.rising t h).1

pub row-values : (p width : ℕ) (cols vals : List ℕ) → Row p width cols vals → Below p vals
row-values p width cols vals r t h = (values-at p vals r.nonzero t h).1

-- ---- the entry at a column

-- left of the first column there is nothing
pub entry-low : (width low j : ℕ) (cols vals : List ℕ) → rises_from width low cols ≡ true → j < low → entry cols vals j ≡ 0
unfolding rises_from weigh
entry-low width low j [] vals h g = refl
entry-low width low j (c ∷ cs) [] h g = refl
entry-low width low j (c ∷ cs) (v ∷ vs) h g =
    let le : low ≤ c = leb-true low c (and_left (leb low c) (ltb c width) (and_left (leb low c && ltb c width) (rises_from width (c + 1) cs) h)) in
    omega (arith, ap (λ (z : ℕ). v * z) (δ-other c j (λ e. omega arith)), entry-low width (c + 1) j cs vs (and_right (leb low c && ltb c width) (rises_from width (c + 1) cs) h) (omega arith))

-- at a stored column, its value
pub entry_at : (width low : ℕ) (cols vals : List ℕ) → rises_from width low cols ≡ true → (t : ℕ) → t < length cols → t < length vals → entry cols vals (get_or cols t 0) ≡ get_or vals t 0
unfolding rises_from weigh
entry_at width low [] vals h t g k = absurd (omega arith)
entry_at width low (c ∷ cs) [] h t g k = absurd (omega arith)
entry_at width low (c ∷ cs) (v ∷ vs) h zero g k =
    omega (arith, ap (λ (z : ℕ). v * z) (δ-same c), entry-low width (c + 1) c cs vs (and_right (leb low c && ltb c width) (rises_from width (c + 1) cs) h) (omega arith))
entry_at width low (c ∷ cs) (v ∷ vs) h (suc t) g k =
    let rest = and_right (leb low c && ltb c width) (rises_from width (c + 1) cs) h in
    let b = rises-at width (c + 1) cs rest t (omega arith) in
    omega (arith, ap (λ (z : ℕ). v * z) (δ-other c (get_or cs t 0) (λ e. omega (arith, b.0))), entry_at width (c + 1) cs vs rest t (omega arith) (omega arith))

-- where the column is not stored, 0
pub entry_absent : (cols vals : List ℕ) (j : ℕ) → ((t : ℕ) → t < length cols → get_or cols t 0 ≡ j → ⊥) → entry cols vals j ≡ 0
unfolding weigh
entry_absent [] vals j h = refl
entry_absent (c ∷ cs) [] j h = refl
entry_absent (c ∷ cs) (v ∷ vs) j h =
    omega (arith, ap (λ (z : ℕ). v * z) (δ-other c j (h 0 (omega arith))), entry_absent cs vs j (λ t g. h (suc t) (omega arith)))

-- an entry is a residue
pub entry-below : (p width low j : ℕ) (cols vals : List ℕ) → 0 < p → rises_from width low cols ≡ true → values_ok p vals ≡ true → entry cols vals j < p
unfolding rises_from weigh values_ok
entry-below p width low j [] vals pos h g = pos
entry-below p width low j (c ∷ cs) [] pos h g = pos
entry-below p width low j (c ∷ cs) (v ∷ vs) pos h g =
    go (ℕ_discrete c j) (entry-below p width (c + 1) j cs vs pos rest (and_right (ltb 0 v && ltb v p) (values_ok p vs) g))
  where
    rest : rises_from width (c + 1) cs ≡ true
    rest = and_right (leb low c && ltb c width) (rises_from width (c + 1) cs) h

    small : v < p
    small = ltb-true v p (and_right (ltb 0 v) (ltb v p) (and_left (ltb 0 v && ltb v p) (values_ok p vs) g))

    go : Dec (c ≡ j) → entry cs vs j < p → v * δ c j + entry cs vs j < p
    go (yes e) later =
        omega (arith, small, ap (λ (z : ℕ). v * z) (ap (δ c) (sym e) ∙ δ-same c), entry-low width (c + 1) j cs vs rest (omega arith))
    go (no e) later = omega (arith, ap (λ (z : ℕ). v * z) (δ-other c j e))
