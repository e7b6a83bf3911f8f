-- Laws of the 32-bit numbers that bytes hold.
use mathlib.Core.Path.{◌≡◌, refl, sym, ap, ◌∙◌}
use mathlib.Core.List.{List, [], ◌∷◌, ◌++◌, append-nil}
use Prim.Native.Nat.{ℕ, zero, suc, ◌+◌, ◌*◌, ◌-◌, ◌/◌, ◌≤◌, ◌<◌}
use native.Mathlib.Omega.{arith}
use lib.ListN.{length, get_or, length-append, get_or-append}
use lib.Seq.{get_or-append-add}
use Rattle.sparse.specs.Words.{le32, words, view}

pub length-words : (b : List ℕ) → length (words b) ≡ length b / 4
unfolding words
length-words [] = refl
length-words (a ∷ []) = refl
length-words (a ∷ b ∷ []) = refl
length-words (a ∷ b ∷ c ∷ []) = refl
length-words (a ∷ b ∷ c ∷ d ∷ r) = let h : length (words r) ≡ length r / 4 = length-words r in omega arith

past : (a b c d : ℕ) (r : List ℕ) (i j : ℕ) → i ≡ suc (suc (suc (suc j))) → get_or (a ∷ b ∷ c ∷ d ∷ r) i 0 ≡ get_or r j 0
past a b c d r i j e = ap (λ (n : ℕ). get_or (a ∷ b ∷ c ∷ d ∷ r) n 0) e

pub le32-ap : {a b c d a' b' c' d' : ℕ} → a ≡ a' → b ≡ b' → c ≡ c' → d ≡ d' → le32 a b c d ≡ le32 a' b' c' d'
le32-ap p q r s = λ i. le32 (p i) (q i) (r i) (s i)

pub get_d_words : (s : List ℕ) (k : ℕ) → 4 * k + 4 ≤ length s
    → get_or (words s) k 0 ≡ le32 (get_or s (4 * k) 0) (get_or s (4 * k + 1) 0) (get_or s (4 * k + 2) 0) (get_or s (4 * k + 3) 0)
unfolding words
get_d_words [] k h = absurd (omega arith)
get_d_words (a ∷ []) k h = absurd (omega arith)
get_d_words (a ∷ b ∷ []) k h = absurd (omega arith)
get_d_words (a ∷ b ∷ c ∷ []) k h = absurd (omega arith)
get_d_words (a ∷ b ∷ c ∷ d ∷ r) zero h = refl
get_d_words (a ∷ b ∷ c ∷ d ∷ r) (suc k) h =
    get_d_words r k (omega arith)
    ∙ sym (le32-ap (past a b c d r (4 * suc k) (4 * k) (omega arith)) (past a b c d r (4 * suc k + 1) (4 * k + 1) (omega arith))
    (past a b c d r (4 * suc k + 2) (4 * k + 2) (omega arith)) (past a b c d r (4 * suc k + 3) (4 * k + 3) (omega arith)))

-- a stored list without bytes is the list itself
pub view-list : (l : List ℕ) → view l [] ≡ l
unfolding view words
view-list l = append-nil l

pub view-stored : (l b : List ℕ) → length b ≡ 0 → view l b ≡ l
view-stored l [] e = view-list l
view-stored l (x ∷ b) e = absurd (omega arith)

-- and where there are only bytes, it is the numbers that they hold
pub view-bytes : (l b : List ℕ) → length l ≡ 0 → view l b ≡ words b
unfolding view
view-bytes [] b e = refl
view-bytes (x ∷ l) b e = absurd (omega arith)

pub length-view : (l b : List ℕ) → length (view l b) ≡ length l + length b / 4
unfolding view
length-view l b = length-append l (words b) ∙ ap (λ (n : ℕ). length l + n) (length-words b)

pub view_first : (l b : List ℕ) (i : ℕ) → i < length l → get_or (view l b) i 0 ≡ get_or l i 0
unfolding view
view_first l b i h = get_or-append l (words b) 0 i h

pub view-second : (l b : List ℕ) (i : ℕ) → length l ≤ i → get_or (view l b) i 0 ≡ get_or (words b) (i - length l) 0
unfolding view
view-second l b i h =
    ap (λ (n : ℕ). get_or (l ++ words b) n 0) (let e : i ≡ length l + (i - length l) = omega arith in e)
    ∙ get_or-append-add l (words b) (i - length l) 0
