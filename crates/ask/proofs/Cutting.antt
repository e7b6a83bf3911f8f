-- A text cut into values.
use mathlib.Core.Path.{◌≡◌, refl, sym, ap, ◌∙◌, subst}
use mathlib.Core.Bool.{Bool, true, false, cond}
use mathlib.Core.List.{List, [], ◌∷◌, ◌++◌, append-nil, append_assoc}
use Prim.Native.Nat.{ℕ, zero, suc, ◌-◌, ◌≤◌, ◌<◌}
use native.Mathlib.Omega.{arith}
use lib.ListN.{length, take}
use borrow.Author.Tests.{eq-eqb, ne_eqb}
use Rattle.std.specs.Prelude.{map}
use Rattle.std.specs.List.{slice_split, onto_first}
use Rattle.std.proofs.lemmas.List.{map-append}
use Rattle.text_fields.specs.Number.{number_in}
use Rattle.ask.specs.Values.{value_read, is_separator, values_from, question_in, Added}
use Rattle.ask.proofs.Kept.{none-added, cut-front}

-- ---- the fields

abbrev pub field_value : List ℕ → ℕ
field_value f = value_read (number_in f)

-- parts, the first of which goes on after f
begun : List ℕ → List (List ℕ) → List (List ℕ)
begun f [] = f ∷ []
begun f (part ∷ parts) = (f ++ part) ∷ parts

begun-none : (p : ℕ → Bool) (l : List ℕ) → begun [] (slice_split p l) ≡ slice_split p l
unfolding begun
begun-none p [] = refl
begun-none p (b ∷ bs) = go (p b) (slice_split p bs)
  where
    go : (t : Bool) (parts : List (List ℕ)) → begun [] (cond t ([] ∷ parts) (onto_first b parts)) ≡ cond t ([] ∷ parts) (onto_first b parts)
    go true parts = refl
    go false [] = refl
    go false (part ∷ parts) = refl

begun-longer : (f : List ℕ) (b : ℕ) (parts : List (List ℕ)) → begun (f ++ b ∷ []) parts ≡ begun f (onto_first b parts)
unfolding begun
begun-longer f b [] = refl
begun-longer f b (part ∷ parts) = ap (λ (x : List ℕ). x ∷ parts) (append_assoc f (b ∷ []) part)

values-from-split : (f l : List ℕ) → values_from f l ≡ map field_value (begun f (slice_split is_separator l))
unfolding values_from begun
values-from-split f [] = ap (λ (x : List ℕ). field_value x ∷ []) (sym (append-nil f))
values-from-split f (b ∷ bs) = go (is_separator b) (values-from-split [] bs) (values-from-split (f ++ b ∷ []) bs)
  where
    go : (t : Bool) → values_from [] bs ≡ map field_value (begun [] (slice_split is_separator bs)) → values_from (f ++ b ∷ []) bs ≡ map field_value (begun (f ++ b ∷ []) (slice_split is_separator bs))
        → cond t (field_value f ∷ values_from [] bs) (values_from (f ++ b ∷ []) bs) ≡ map field_value (begun f (cond t ([] ∷ slice_split is_separator bs) (onto_first b (slice_split is_separator bs))))
    go true next longer =
        ap (λ (x : List ℕ). field_value f ∷ x) (next ∙ ap (map field_value) (begun-none is_separator bs))
        ∙ ap (λ (x : List ℕ). field_value x ∷ map field_value (slice_split is_separator bs)) (sym (append-nil f))
    go false next longer = longer ∙ ap (map field_value) (begun-longer f b (slice_split is_separator bs))

pub values-split : (l : List ℕ) → values_from [] l ≡ map field_value (slice_split is_separator l)
values-split l = values-from-split [] l ∙ ap (map field_value) (begun-none is_separator l)

-- ---- the loop over the fields

-- the values of the fields so far are kept, as many as there is room for
pub record Going (y₀ y : List ℕ) (k : ℕ) (fields : List (List ℕ)) : Type 0 where
  pub inside : k ≤ length y
  pub long : length y ≡ length y₀
  pub kept : take k y ≡ take (length y₀) (map field_value fields)

pub going-starts : (y : List ℕ) → Going y y 0 []
going-starts y = record { inside = omega arith; long = refl; kept = sym (take-nil (length y)) }
  where
    take-nil : (n : ℕ) → take {A = ℕ} n [] ≡ []
    take-nil zero = refl
    take-nil (suc n) = refl

pub going-turn : (y₀ y : List ℕ) (k : ℕ) (fields : List (List ℕ)) (f y' : List ℕ) (k' v : ℕ) → Going y₀ y k fields → length y' ≡ length y → v ≡ field_value f → Added y k y' k' (v ∷ []) → Going y₀ y' k' (fields ++ f ∷ [])
going-turn y₀ y k fields f y' k' v g long e a =
    record {
      inside = a.inside;
      long = long ∙ g.long;
      kept =
          a.values
          ∙ (λ j. take (g.long j) (g.kept j ++ (e j ∷ [])))
          ∙ cut-front (length y₀) (map field_value fields) (field_value f ∷ [])
          ∙ ap (take (length y₀)) (sym (map-append field_value fields (f ∷ [])));
    }

pub going-ends : (l y₀ y : List ℕ) (k : ℕ) (fields : List (List ℕ)) → fields ≡ slice_split is_separator l → Going y₀ y k fields → Added y₀ 0 y k (values_from [] l)
going-ends l y₀ y k fields e g =
    record { inside = g.inside; values = g.kept ∙ ap (take (length y₀)) (ap (map field_value) e ∙ sym (values-split l)) }

-- ---- the whole

pub no-question : (l : List ℕ) → length l < 2 → (y : List ℕ) → Added y 0 y 0 (question_in l)
unfolding question_in
no-question l h y =
    subst (Added y 0 y 0) (ap (λ (t : Bool). cond t [] (values_from [] (take (length l - 1) l))) (sym (eq-eqb (length l - 1) 0 (omega arith)))) (none-added y 0 (omega arith))

pub the-question : (l : List ℕ) → 2 ≤ length l → (y y' : List ℕ) (r : ℕ) → Added y 0 y' r (values_from [] (take (length l - 1) l)) → Added y 0 y' r (question_in l)
unfolding question_in
the-question l h y y' r a =
    let some : length l - 1 ≡ 0 → ⊥ = λ e. omega arith in
    subst (Added y 0 y' r) (ap (λ (t : Bool). cond t [] (values_from [] (take (length l - 1) l))) (sym (ne_eqb (length l - 1) 0 some))) a
