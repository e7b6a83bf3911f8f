-- The entries that are stored of triples: those that are not 0, in their order.
use mathlib.Core.Path.{◌≡◌, refl, sym, ap, ◌∙◌}
use mathlib.Core.List.{List, [], ◌∷◌, ◌++◌, append-nil, append_assoc, reverse, reverse_aux}
use mathlib.Core.Bool.{Bool, true, false, cond}
use Prim.Native.Nat.{ℕ, ◌-◌, ◌%◌, ◌<◌}
use native.Mathlib.Nat.{mod-lt}
use native.Mathlib.Omega.{arith}
use lib.Dec.{eqb}
use borrow.Author.Tests.{eqb-true, eqb-false}
use Rattle.text_fields.specs.Number.{is_negative, magnitude}
use Rattle.residue.specs.Signed.{signed_residue}
use Rattle.residue.proofs.Signed.{residue-value}
use Rattle.grouping.proofs.Every.{All, Pairwise, all_append, all_map, pairwise_append}
use Rattle.text_opening.specs.Reading.{Entry, kept}
use Rattle.text_plan.specs.Stating.{StatedEntry, entry_of}
use Rattle.text_plan.proofs.Storing.{kept-zero, kept_more}

unfoldable pub nonzero : List Entry → List Entry
nonzero [] = []
nonzero (t ∷ ts) = cond (eqb t.value 0) (nonzero ts) (t ∷ nonzero ts)

kept_back : (xs seen : List Entry) → kept (reverse_aux xs seen) ≡ kept seen ++ nonzero xs
unfolding nonzero
kept_back [] seen = sym (append-nil (kept seen))
kept_back (x ∷ xs) seen = kept_back xs (x ∷ seen) ∙ go (eqb x.value 0) refl
  where
    go : (t : Bool) → eqb x.value 0 ≡ t → kept (x ∷ seen) ++ nonzero xs ≡ kept seen ++ cond t (nonzero xs) (x ∷ nonzero xs)
    go true e = ap (λ (l : List Entry). l ++ nonzero xs) (kept-zero x seen (eqb-true x.value 0 e))
    go false e = ap (λ (l : List Entry). l ++ nonzero xs) (kept_more x seen (eqb-false x.value 0 e)) ∙ append_assoc (kept seen) (x ∷ []) (nonzero xs)

pub kept-stated : (xs : List Entry) → kept (reverse xs) ≡ nonzero xs
unfolding kept
kept-stated xs = kept_back xs []

signed_below : (p : ℕ) (b : Bool) (n : ℕ) → 0 < p → signed_residue p b n < p
signed_below p false n h = mod-lt n h
signed_below p true n h = mod-lt (p - n % p) h

pub value-below : (p : ℕ) (t : StatedEntry) → 0 < p → (entry_of p t).value < p
value-below p t h = rw (residue-value p (is_negative t.value) (magnitude t.value)) (signed_below p (is_negative t.value) (magnitude t.value) h)

pub kept-all : (P : Entry → Type 0) (seen : List Entry) → All P seen → All P (kept seen)
unfolding kept
kept-all P [] a = tt
kept-all P (t ∷ ts) a = go (eqb t.value 0) (kept-all P ts a.1)
  where
    go : (x : Bool) → All P (kept ts) → All P (cond x (kept ts) (kept ts ++ (t ∷ [])))
    go true h = h
    go false h = all_append P (kept ts) (t ∷ []) h (a.0, tt)

pub kept-some : (seen : List Entry) → All (λ t. 0 < t.value) (kept seen)
unfolding kept
kept-some [] = tt
kept-some (t ∷ ts) = go (eqb t.value 0) refl (kept-some ts)
  where
    go : (x : Bool) → eqb t.value 0 ≡ x → All (λ t. 0 < t.value) (kept ts) → All (λ t. 0 < t.value) (cond x (kept ts) (kept ts ++ (t ∷ [])))
    go true e h = h
    go false e h = all_append (λ t. 0 < t.value) (kept ts) (t ∷ []) h (omega (arith, eqb-false t.value 0 e), tt)

-- every triple to each that was seen later: the latest stands first
abbrev pub Earlier : (Entry → Entry → Type 0) → List Entry → Type 0
Earlier P [] = Unit {0}
Earlier P (t ∷ ts) = All (λ x. P x t) ts × Earlier P ts

pub kept-pairwise : (P : Entry → Entry → Type 0) (seen : List Entry) → Earlier P seen → Pairwise P (kept seen)
unfolding kept
kept-pairwise P [] a = tt
kept-pairwise P (t ∷ ts) a = go (eqb t.value 0) (kept-pairwise P ts a.1)
  where
    one : All (λ x. All (P x) (t ∷ [])) (kept ts)
    one = all_map (λ x. P x t) (λ x. All (P x) (t ∷ [])) (λ x h. (h, tt)) (kept ts) (kept-all (λ x. P x t) ts a.0)

    go : (x : Bool) → Pairwise P (kept ts) → Pairwise P (cond x (kept ts) (kept ts ++ (t ∷ [])))
    go true h = h
    go false h = pairwise_append P (kept ts) (t ∷ []) h (tt, tt) one
