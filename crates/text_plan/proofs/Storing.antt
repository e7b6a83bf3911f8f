-- The lists before the first triple, and after one more: a value of 0 changes only the row that is reached.
use mathlib.Core.Path.{◌≡◌, refl, sym, ap, ◌∙◌, subst}
use mathlib.Core.List.{List, [], ◌∷◌, ◌++◌}
use Prim.Native.Nat.{ℕ, ◌+◌, ◌-◌, ◌≤◌, ◌<◌}
use native.Mathlib.Omega.{arith}
use lib.ListN.{length, set, length-append}
use borrow.Author.Tests.{eq-eqb, ne_eqb}
use Rattle.text_opening.specs.Reading.{Entry, kept}
use Rattle.text_plan.specs.Stored.{starts_of, RowsWithin, EntriesStored}
use Rattle.text_plan.specs.Needs.{NothingStored}
use Rattle.text_plan.proofs.StoredForm.{starts_none, columns-none, values-none, rows-wider, rows_more, starts_more, columns-more, values-more}

-- lists that are all zero hold nothing
pub cleared-stores-none : (st co va : List ℕ) → NothingStored st co va → EntriesStored 0 (length co) [] 0 st co va
unfolding RowsWithin
cleared-stores-none st co va h =
    record {
      rows = tt;
      number = refl;
      starts-are = h.starts-zero ∙ sym starts_none;
      columns-are = h.columns-zero ∙ sym (columns-none (length co));
      values-are = h.values-zero ∙ sym (values-none (length co));
    }

pub kept-zero : (t : Entry) (seen : List Entry) → t.value ≡ 0 → kept (t ∷ seen) ≡ kept seen
unfolding kept
kept-zero t seen z = rw (eq-eqb t.value 0 z)

pub kept_more : (t : Entry) (seen : List Entry) → (t.value ≡ 0 → ⊥) → kept (t ∷ seen) ≡ kept seen ++ (t ∷ [])
unfolding kept
kept_more t seen z = rw (ne_eqb t.value 0 z)

module _ {row room count : ℕ} (seen : List Entry) {st co va : List ℕ} (h : EntriesStored row room (kept seen) count st co va) (t : Entry) (later : row ≤ t.row) {st' : List ℕ} (extended : st' ≡ starts_of t.row (kept seen)) where
  reached : RowsWithin t.row (kept seen)
  reached = rows-wider row t.row (kept seen) later h.rows

  pub stored-zero : t.value ≡ 0 → EntriesStored t.row room (kept (t ∷ seen)) count st' co va
  stored-zero z =
      subst (λ (es : List Entry). EntriesStored t.row room es count st' co va) (sym (kept-zero t seen z))
      (record { rows = reached; number = h.number; starts-are = extended; columns-are = h.columns-are; values-are = h.values-are })

  pub stored_more : (t.value ≡ 0 → ⊥) → 1 ≤ t.row → count < room → (at : ℕ) → at ≡ count
      → EntriesStored t.row room (kept (t ∷ seen)) (count + 1) (set st' t.row (count + 1)) (set co at (t.column - 1)) (set va at t.value)
  stored_more z one space at e =
      subst (λ (es : List Entry). EntriesStored t.row room es (count + 1) (set st' t.row (count + 1)) (set co at (t.column - 1)) (set va at t.value)) (sym (kept_more t seen z))
      (record {
        rows = rows_more (kept seen) t reached one;
        number = ap (λ (k : ℕ). k + 1) h.number ∙ sym (length-append (kept seen) (t ∷ []));
        starts-are = (λ k. set (extended k) t.row (h.number k + 1)) ∙ starts_more (kept seen) t reached one;
        columns-are = (λ k. set (h.columns-are k) ((e ∙ h.number) k) (t.column - 1)) ∙ columns-more room (kept seen) t (omega (arith, h.number));
        values-are = (λ k. set (h.values-are k) ((e ∙ h.number) k) t.value) ∙ values-more room (kept seen) t (omega (arith, h.number));
      })
