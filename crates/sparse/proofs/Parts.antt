-- A part of the list meant by a stored list and certificate bytes is the list meant by a part of each.
use mathlib.Core.Path.{◌≡◌, refl, sym, ap, ◌∙◌}
use mathlib.Core.List.{List, [], ◌∷◌, ◌++◌}
use Prim.Native.Nat.{ℕ, zero, suc, ◌-◌, ◌*◌, min}
use native.Mathlib.Omega.{arith}
use native.Mathlib.Nat.{zero-min, min-zero, suc-min-suc, zero-sub}
use lib.ListN.{length, take, drop}
use lib.Seq.{slice}
use Rattle.lists.proofs.Steps.{drop-take}
use Rattle.sparse.specs.Words.{view, words, le32}

-- k₁ of l from d₁ on, then k₂ of w from d₂ on
abbrev glue : List ℕ → ℕ → ℕ → List ℕ → ℕ → ℕ → List ℕ
glue l k₁ d₁ w k₂ d₂ = take k₁ (drop d₁ l) ++ take k₂ (drop d₂ w)

glue-ap : (l w : List ℕ) (k₁ d₁ k₂ d₂ k₁' d₁' k₂' d₂' : ℕ) → k₁ ≡ k₁' → d₁ ≡ d₁' → k₂ ≡ k₂' → d₂ ≡ d₂' → glue l k₁ d₁ w k₂ d₂ ≡ glue l k₁' d₁' w k₂' d₂'
glue-ap l w k₁ d₁ k₂ d₂ k₁' d₁' k₂' d₂' p q r s = λ j. glue l (p j) (q j) w (r j) (s j)

-- a part of two lists joined, from the parts of each; a₁ and e₁ are a and e, at most the first list's length
abbrev parts : List ℕ → List ℕ → ℕ → ℕ → ℕ → ℕ → List ℕ
parts l w a e a₁ e₁ = glue l (e₁ - a₁) a₁ w (e - e₁ - (a - a₁)) (a - a₁)

-- with the two places as variables
module _ (l w : List ℕ) (x : ℕ) where
  cut-first : (e m : ℕ) → take e (l ++ w) ≡ parts l w 0 e 0 m → x ∷ take e (l ++ w) ≡ parts (x ∷ l) w 0 (suc e) 0 (suc m)
  cut-first e m h =
      ap (λ (t : List ℕ). x ∷ t) (h ∙ glue-ap l w (m - 0) 0 (e - m - (0 - 0)) (0 - 0) m 0 (e - m) 0 (omega arith) refl (omega arith) refl)
      ∙ glue-ap (x ∷ l) w (suc m) 0 (e - m) 0 (suc m - 0) 0 (suc e - suc m - (0 - 0)) (0 - 0) (omega arith) refl (omega arith) refl

  cut_later : (a e a₁ m : ℕ) → parts l w a e a₁ m ≡ parts (x ∷ l) w (suc a) (suc e) (suc a₁) (suc m)
  cut_later a e a₁ m = glue-ap (x ∷ l) w (m - a₁) (suc a₁) (e - m - (a - a₁)) (a - a₁) (suc m - suc a₁) (suc a₁) (suc e - suc m - (suc a - suc a₁)) (suc a - suc a₁) (omega arith) refl (omega arith) (omega arith)

cut : (l w : List ℕ) (a e : ℕ) → slice a e (l ++ w) ≡ parts l w a e (min a (length l)) (min e (length l))
cut [] w a e =
    drop-take a e w
    ∙ glue-ap [] w 0 0 (e - a) a (0 - 0) 0 (e - 0 - (a - 0)) (a - 0) refl refl (omega arith) (omega arith)
    ∙ (λ j. parts [] w a e (sym (min-zero a) j) (sym (min-zero e) j))
cut (x ∷ l) w zero zero = λ j. parts (x ∷ l) w 0 0 (sym (zero-min (suc (length l))) j) (sym (zero-min (suc (length l))) j)
cut (x ∷ l) w zero (suc e) =
    cut-first l w x e (min e (length l)) (cut l w zero e ∙ (λ j. parts l w 0 e (zero-min (length l) j) (min e (length l))))
    ∙ (λ j. parts (x ∷ l) w 0 (suc e) (sym (zero-min (suc (length l))) j) (sym (suc-min-suc e (length l)) j))
cut (x ∷ l) w (suc a) zero = let a₁ = min (suc a) (suc (length l)) in
    glue-ap (x ∷ l) w 0 a₁ 0 (suc a - a₁) (0 - a₁) a₁ (0 - 0 - (suc a - a₁)) (suc a - a₁) (omega arith) refl (sym (zero-sub (suc a - a₁))) refl
    ∙ (λ j. parts (x ∷ l) w (suc a) 0 a₁ (sym (zero-min (suc (length l))) j))
cut (x ∷ l) w (suc a) (suc e) =
    cut l w a e
    ∙ cut_later l w x a e (min a (length l)) (min e (length l))
    ∙ (λ j. parts (x ∷ l) w (suc a) (suc e) (sym (suc-min-suc a (length l)) j) (sym (suc-min-suc e (length l)) j))

words-drop : (d : ℕ) (s : List ℕ) → words (drop (4 * d) s) ≡ drop d (words s)
unfolding words
words-drop zero s = refl
words-drop (suc d) s = ap (λ (k : ℕ). words (drop k s)) (let q : 4 * suc d ≡ suc (suc (suc (suc (4 * d)))) = omega arith in q) ∙ go s (λ t. words-drop d t)
  where
    go : (s : List ℕ) → ((t : List ℕ) → words (drop (4 * d) t) ≡ drop d (words t)) → words (drop (suc (suc (suc (suc (4 * d))))) s) ≡ drop (suc d) (words s)
    go [] ih = refl
    go (a ∷ []) ih = refl
    go (a ∷ b ∷ []) ih = refl
    go (a ∷ b ∷ c ∷ []) ih = refl
    go (a ∷ b ∷ c ∷ e ∷ r) ih = ih r

words_take : (k : ℕ) (s : List ℕ) → words (take (4 * k) s) ≡ take k (words s)
unfolding words
words_take zero s = refl
words_take (suc k) s = ap (λ (n : ℕ). words (take n s)) (let q : 4 * suc k ≡ suc (suc (suc (suc (4 * k)))) = omega arith in q) ∙ go s (λ t. words_take k t)
  where
    go : (s : List ℕ) → ((t : List ℕ) → words (take (4 * k) t) ≡ take k (words t)) → words (take (suc (suc (suc (suc (4 * k))))) s) ≡ take (suc k) (words s)
    go [] ih = refl
    go (a ∷ []) ih = refl
    go (a ∷ b ∷ []) ih = refl
    go (a ∷ b ∷ c ∷ []) ih = refl
    go (a ∷ b ∷ c ∷ e ∷ r) ih = ap (λ (t : List ℕ). le32 a b c e ∷ t) (ih r)

-- what a row's two parts mean: a₁, e₁ at most the stored list's length, the bytes from 4 (a - a₁) up to 4 (e - e₁)
pub view-cut : (l b : List ℕ) (a e a₁ e₁ : ℕ) → a₁ ≡ min a (length l) → e₁ ≡ min e (length l)
    → view (take (e₁ - a₁) (drop a₁ l)) (take (4 * (e - e₁) - 4 * (a - a₁)) (drop (4 * (a - a₁)) b)) ≡ slice a e (view l b)
unfolding view
view-cut l b a e a₁ e₁ p q =
    ap (λ (k : ℕ). take (e₁ - a₁) (drop a₁ l) ++ words (take k (drop (4 * (a - a₁)) b))) (let h : 4 * (e - e₁) - 4 * (a - a₁) ≡ 4 * (e - e₁ - (a - a₁)) = omega arith in h)
    ∙ ap (λ (t : List ℕ). take (e₁ - a₁) (drop a₁ l) ++ t) (words_take (e - e₁ - (a - a₁)) (drop (4 * (a - a₁)) b) ∙ ap (take (e - e₁ - (a - a₁))) (words-drop (a - a₁) b))
    ∙ (λ j. parts l (words b) a e (p j) (q j))
    ∙ sym (cut l (words b) a e)
