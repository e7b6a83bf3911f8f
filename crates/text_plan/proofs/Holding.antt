-- The lists that hold the triples collected, after one triple more: `held_more`.
use mathlib.Core.Path.{◌≡◌, sym, ap, ◌∙◌}
use mathlib.Core.List.{List, [], ◌∷◌}
use Prim.Native.Nat.{ℕ, ◌<◌}
use native.Mathlib.Omega.{arith}
use lib.ListN.{length, set}
use lib.Seq.{get_or-set_same, get_or-set_other}
use Rattle.text_opening.specs.Reading.{Entry}
use Rattle.text_plan.specs.Collect.{triple_of, triple_in, ByNumber}

held_same : (E F : ℕ → Entry) (ts : List Entry) → ((x : ℕ) → x < length ts → F x ≡ E x) → ByNumber E ts → ByNumber F ts
held_same E F [] f h = tt
held_same E F (t ∷ ts) f h = (f (length ts) (omega arith) ∙ h.0, held_same E F ts (λ x l. f x (omega arith)) h.1)

pub held_more : (rows columns values : List ℕ) (ts : List Entry) (at i j v : ℕ) → at ≡ length ts → at < length rows → at < length columns → at < length values → ByNumber (triple_in rows columns values) ts
    → ByNumber (triple_in (set rows at i) (set columns at j) (set values at v)) (triple_of i j v ∷ ts)
held_more rows columns values ts at i j v e a b c h = (own, held_same (triple_in rows columns values) F ts others h)
  where
    F : ℕ → Entry
    F = triple_in (set rows at i) (set columns at j) (set values at v)

    own : F (length ts) ≡ triple_of i j v
    own = ap F (sym e) ∙ (λ k. triple_of (get_or-set_same rows at i 0 a k) (get_or-set_same columns at j 0 b k) (get_or-set_same values at v 0 c k))

    others : (x : ℕ) → x < length ts → F x ≡ triple_in rows columns values x
    others x l =
        let n : x ≡ at → ⊥ = λ q. omega arith in
        (λ k. triple_of (get_or-set_other rows at x i 0 n k) (get_or-set_other columns at x j 0 n k) (get_or-set_other values at x v 0 n k))
