-- What is left in the buffer of the words: one law for each way out.
use mathlib.Core.Path.{◌≡◌, refl, sym, ap, ◌∙◌, subst}
use mathlib.Core.Bool.{Bool, cond}
use mathlib.Core.List.{List, []}
use Prim.Native.Nat.{ℕ, ◌≤◌, ◌<◌}
use lib.Dec.{ltb}
use lib.ListN.{length}
use borrow.Author.Tests.{lt-ltb, le-ltb}
use Rattle.lists.specs.Filled.{zeros}
use Rattle.lists.proofs.Filled.{filled_none}
use Rattle.byte_buffer.specs.Fills.{Fills}
use Rattle.ask_words.specs.Solving.{words_of, TellsWords}
use Rattle.limits.specs.Limits.{print_room, starts_length}
use Rattle.bench_calls.specs.Timed.{timed_words}

module _ (text b₀ b h : List ℕ) where
  abbrev fills : ℕ → List ℕ → Type 0
  fills size ys = Fills b₀ b size ys

  -- the line, by the two tests
  line : Bool → Bool → List ℕ
  line short many = cond short [] (cond many [] (words_of text h))

  abbrev many : Bool
  many = ltb starts_length (length h)

  pub too_short : length b₀ < print_room → b ≡ zeros (length b₀) → fills 0 (timed_words text h (length b₀))
  unfolding timed_words line
  too_short g z =
      subst (fills 0) (ap (λ (t : Bool). line t many) (sym (lt-ltb (length b₀) print_room g)))
      (record { size_is = refl; buffer-is = z ∙ sym (filled_none (length b₀)) })

  pub too_many : print_room ≤ length b₀ → starts_length < length h → b ≡ zeros (length b₀) → fills 0 (timed_words text h (length b₀))
  unfolding timed_words line
  too_many g more z =
      subst (fills 0) (λ i. line (sym (le-ltb (length b₀) print_room g) i) (sym (lt-ltb starts_length (length h) more) i))
      (record { size_is = refl; buffer-is = z ∙ sym (filled_none (length b₀)) })

  pub written : print_room ≤ length b₀ → length h ≤ starts_length → (size : ℕ) (w₀ w : List ℕ) → TellsWords text h size b₀ b w₀ w → fills size (timed_words text h (length b₀))
  unfolding timed_words line
  written g few size w₀ w r =
      subst (fills size) (λ i. line (sym (le-ltb (length b₀) print_room g) i) (sym (le-ltb starts_length (length h) few) i)) r.answer
