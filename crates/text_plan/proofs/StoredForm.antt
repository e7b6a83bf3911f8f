-- The stored form, one entry more at a time.
use mathlib.Core.Path.{◌≡◌, refl, sym, ap, ◌∙◌}
use mathlib.Core.List.{List, [], ◌∷◌, ◌++◌, map}
use mathlib.Core.Bool.{cond}
use Prim.Native.Nat.{ℕ, suc, ◌+◌, ◌-◌, ◌≤◌, ◌<◌}
use native.Mathlib.Nat.{le_refl}
use native.Mathlib.Numerals.{add-one}
use native.Mathlib.Omega.{arith}
use lib.ListN.{length, set, replicate, length-append, length-map}
use lib.Seq.{set-append_seam, append_snoc}
use lib.Dec.{leb}
use borrow.Author.Tests.{le-leb, lt-leb}
use Rattle.lists.specs.Filled.{zeros, filled}
use Rattle.lists.specs.Tabulate.{tabulate}
use Rattle.lists.proofs.Filled.{filled_none, length-filled}
use Rattle.lists.proofs.Tabulate.{length-tabulate, tabulate-more, tabulate-ext}
use Rattle.limits.specs.Limits.{starts_length}
use Rattle.text_opening.specs.Reading.{Entry}
use Rattle.text_plan.specs.Stored.{count_to, starts_of, columns_stored, values_of, RowsWithin}

-- ---- a list that is filled, one element more or another last element
filled_more : (n : ℕ) (l : List ℕ) (x : ℕ) → length l < n → set (filled n l) (length l) x ≡ filled n (l ++ (x ∷ []))
unfolding filled zeros
filled_more n l x h =
    let r : ℕ = n - suc (length l) in
    let more : n - length l ≡ suc r = omega arith in
    let less : n - length (l ++ (x ∷ [])) ≡ r = omega (arith, length-append l (x ∷ [])) in
    rw (more, less) (set-append_seam l 0 (replicate r 0) x ∙ sym (append_snoc l x (replicate r 0)))

filled-last : (n : ℕ) (l : List ℕ) (x y : ℕ) → set (filled n (l ++ (x ∷ []))) (length l) y ≡ filled n (l ++ (y ∷ []))
unfolding filled zeros
filled-last n l x y =
    let same : n - length (l ++ (x ∷ [])) ≡ n - length (l ++ (y ∷ [])) = omega (arith, length-append l (x ∷ []), length-append l (y ∷ [])) in
    rw same (ap (λ (r : List ℕ). set r (length l) y) (append_snoc l x rest) ∙ set-append_seam l x rest y ∙ sym (append_snoc l y rest))
  where
    rest : List ℕ
    rest = replicate (n - length (l ++ (y ∷ []))) 0

-- ---- columns and values
map_more : (f : Entry → ℕ) (es : List Entry) (t : Entry) → map f (es ++ (t ∷ [])) ≡ map f es ++ (f t ∷ [])
map_more f [] t = refl
map_more f (e ∷ es) t = ap (λ (r : List ℕ). f e ∷ r) (map_more f es t)

list-more : (f : Entry → ℕ) (room : ℕ) (es : List Entry) (t : Entry) → length es < room → set (filled room (map f es)) (length es) (f t) ≡ filled room (map f (es ++ (t ∷ [])))
list-more f room es t h =
    ap (λ (k : ℕ). set (filled room (map f es)) k (f t)) (sym (length-map es f))
    ∙ filled_more room (map f es) (f t) (rw (length-map es f) h)
    ∙ sym (ap (filled room) (map_more f es t))

pub columns-more : (room : ℕ) (es : List Entry) (t : Entry) → length es < room → set (columns_stored room es) (length es) (t.column - 1) ≡ columns_stored room (es ++ (t ∷ []))
unfolding columns_stored
columns-more room es t h = list-more (λ x. x.column - 1) room es t h

pub values-more : (room : ℕ) (es : List Entry) (t : Entry) → length es < room → set (values_of room es) (length es) t.value ≡ values_of room (es ++ (t ∷ []))
unfolding values_of
values-more room es t h = list-more (λ x. x.value) room es t h

-- ---- row starts
pub count-all : (n k : ℕ) (es : List Entry) → RowsWithin n es → n ≤ k → count_to k es ≡ length es
unfolding RowsWithin count_to
count-all n k [] r h = refl
count-all n k (t ∷ ts) r h = rw (le-leb t.row k (omega (arith, r))) (ap (λ (x : ℕ). x + 1) (count-all n k ts r.2 h) ∙ add-one (length ts))

count-more : (k : ℕ) (es : List Entry) (t : Entry) → k < t.row → count_to k (es ++ (t ∷ [])) ≡ count_to k es
unfolding count_to
count-more k [] t h = rw (lt-leb t.row k h)
count-more k (e ∷ es) t h = ap (λ (x : ℕ). cond (leb e.row k) (x + 1) x) (count-more k es t h)

pub starts_none : starts_of 0 [] ≡ zeros starts_length
unfolding starts_of tabulate count_to filled zeros
starts_none = refl

starts-split : (n : ℕ) (es : List Entry) → starts_of n es ≡ filled starts_length (tabulate n (λ k. count_to k es) ++ (count_to n es ∷ []))
unfolding starts_of
starts-split n es = ap (filled starts_length) (ap (λ (k : ℕ). tabulate k (λ k. count_to k es)) (add-one n) ∙ tabulate-more n (λ k. count_to k es))

pub starts-length : (n : ℕ) (es : List Entry) → n < starts_length → length (starts_of n es) ≡ starts_length
unfolding starts_of
starts-length n es h = length-filled starts_length (tabulate (n + 1) (λ k. count_to k es)) (omega (arith, length-tabulate (n + 1) (λ k. count_to k es)))

-- one row more without entries
pub starts-extend : (from k count : ℕ) (es : List Entry) → RowsWithin from es → from ≤ k → k + 1 < starts_length → count ≡ length es → set (starts_of k es) (k + 1) count ≡ starts_of (k + 1) es
unfolding starts_of
starts-extend from k count es r h l e =
    ap (λ (n : ℕ). set (filled starts_length (tabulate (k + 1) f)) n count) (sym (length-tabulate (k + 1) f))
    ∙ filled_more starts_length (tabulate (k + 1) f) count (omega (arith, length-tabulate (k + 1) f))
    ∙ ap (λ (x : ℕ). filled starts_length (tabulate (k + 1) f ++ (x ∷ []))) (e ∙ sym (count-all from (k + 1) es r (omega arith)))
    ∙ sym (starts-split (k + 1) es)
  where
    f : ℕ → ℕ
    f x = count_to x es

rows_append : (n : ℕ) (es : List Entry) (t : Entry) → RowsWithin n es → 1 ≤ t.row → t.row ≤ n → RowsWithin n (es ++ (t ∷ []))
unfolding RowsWithin
rows_append n [] t r a b = (a, b, tt)
rows_append n (e ∷ es) t r a b = (r.0, r.1, rows_append n es t r.2 a b)

pub rows_more : (es : List Entry) (t : Entry) → RowsWithin t.row es → 1 ≤ t.row → RowsWithin t.row (es ++ (t ∷ []))
rows_more es t r a = rows_append t.row es t r a (le_refl t.row)

pub rows-wider : (n k : ℕ) (es : List Entry) → n ≤ k → RowsWithin n es → RowsWithin k es
unfolding RowsWithin
rows-wider n k [] h r = tt
rows-wider n k (e ∷ es) h r = (r.0, omega (arith, r), rows-wider n k es h r.2)

-- one entry more in the last row
pub starts_more : (es : List Entry) (t : Entry) → RowsWithin t.row es → 1 ≤ t.row → set (starts_of t.row es) t.row (length es + 1) ≡ starts_of t.row (es ++ (t ∷ []))
starts_more es t r a =
    ap (λ (l : List ℕ). set l t.row (length es + 1)) (starts-split t.row es)
    ∙ ap (λ (k : ℕ). set (filled starts_length (before ++ (count_to t.row es ∷ []))) k (length es + 1)) (sym (length-tabulate t.row (λ k. count_to k es)))
    ∙ filled-last starts_length before (count_to t.row es) (length es + 1)
    ∙ (λ k. filled starts_length (same k ++ (sym all k ∷ [])))
    ∙ sym (starts-split t.row (es ++ (t ∷ [])))
  where
    before : List ℕ
    before = tabulate t.row (λ k. count_to k es)

    same : before ≡ tabulate t.row (λ k. count_to k (es ++ (t ∷ [])))
    same = tabulate-ext t.row (λ k. count_to k es) (λ k. count_to k (es ++ (t ∷ []))) (λ k h. sym (count-more k es t h))

    all : count_to t.row (es ++ (t ∷ [])) ≡ length es + 1
    all = count-all t.row t.row (es ++ (t ∷ [])) (rows_more es t r a) (le_refl t.row) ∙ length-append es (t ∷ [])

-- ---- lengths, and lists that hold nothing
pub columns-length : (room : ℕ) (es : List Entry) → length es ≤ room → length (columns_stored room es) ≡ room
unfolding columns_stored
columns-length room es h = length-filled room (map (λ (t : Entry). t.column - 1) es) (rw (length-map es (λ (t : Entry). t.column - 1)) h)

pub values_length : (room : ℕ) (es : List Entry) → length es ≤ room → length (values_of room es) ≡ room
unfolding values_of
values_length room es h = length-filled room (map (λ (t : Entry). t.value) es) (rw (length-map es (λ (t : Entry). t.value)) h)

pub columns-none : (room : ℕ) → columns_stored room [] ≡ zeros room
unfolding columns_stored
columns-none room = filled_none room

pub values-none : (room : ℕ) → values_of room [] ≡ zeros room
unfolding values_of
values-none room = filled_none room
