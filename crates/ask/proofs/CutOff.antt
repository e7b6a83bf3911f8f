-- An input that was cut off: one law for each way out of the refusal, and its line feeds.
use mathlib.Core.Path.{◌≡◌, refl, sym, ap, ◌∙◌, subst}
use mathlib.Core.Bool.{Bool, cond}
use mathlib.Core.List.{List, [], ◌∷◌}
use Prim.Native.Nat.{ℕ, zero, suc, ◌+◌}
use native.Mathlib.Omega.{arith}
use lib.Dec.{eqb}
use lib.ListN.{length, get_or}
use Rattle.lists.specs.Tests.{count}
use Rattle.std.specs.List.{count_by}
use Rattle.std.proofs.lemmas.List.Sums.{sum_by-cons}
use Rattle.refusals.specs.Table.{malformed}
use Rattle.refusals.specs.Outcome.{Outcome}
use Rattle.refusals.specs.Outcome.{Passed, Refused}
use Rattle.byte_buffer.specs.Fills.{Fills}
use Rattle.print_text.specs.Printed.{printed}
use Rattle.print_text.specs.Report.{refusal_text}
use Rattle.stages.specs.Stages.{reading}
use Rattle.ask.specs.Cut.{last_line_number, cut_line}

-- ---- the refusal

module _ (plan : List ℕ) (k : ℕ) (o : Outcome) (e : o ≡ (reading plan).result.outcome) (b₀ b : List ℕ) (size : ℕ) where
  pub refused-before : (c d : ℕ) → o ≡ Refused c d → Fills b₀ b size (refusal_text c d) → Fills b₀ b size (cut_line plan k)
  unfolding cut_line
  refused-before c d h f = subst (Fills b₀ b size) (ap (λ (x : Outcome). printed x (refusal_text malformed k)) (sym h ∙ e)) f

  pub refused-there : o ≡ Passed → Fills b₀ b size (refusal_text malformed k) → Fills b₀ b size (cut_line plan k)
  unfolding cut_line
  refused-there h f = subst (Fills b₀ b size) (ap (λ (x : Outcome). printed x (refusal_text malformed k)) (sym h ∙ e)) f

-- ---- the line feeds

count-front : (n : ℕ) (t : ℕ → Bool) → count (suc n) t ≡ cond (t 0) 1 0 + count n (λ i. t (suc i))
unfolding count
count-front zero t = omega arith
count-front (suc n) t = omega (arith, count-front n t)

pub feeds-counted : (l : List ℕ) → count_by (λ b. eqb b 10) l + 1 ≡ last_line_number l
unfolding last_line_number count
feeds-counted l = ap (λ (n : ℕ). n + 1) (go l)
  where
    go : (l : List ℕ) → count_by (λ b. eqb b 10) l ≡ count (length l) (λ j. eqb (get_or l j 0) 10)
    go [] = refl
    go (b ∷ bs) = sum_by-cons (λ x. cond (eqb x 10) 1 0) b bs ∙ ap (λ (n : ℕ). cond (eqb b 10) 1 0 + n) (go bs) ∙ sym (count-front (length bs) (λ j. eqb (get_or (b ∷ bs) j 0) 10))
