-- Where a chain of steps, or a loop, that stores a text stands: storing the runs that remain from the place reached on makes the buffer
-- what storing the whole text makes it.
use mathlib.Core.Path.{◌≡◌, refl, sym, ap, subst, ◌∙◌}
use mathlib.Core.List.{List, [], ◌∷◌, ◌++◌, flatten, append_assoc, append-nil}
use Prim.Native.Nat.{ℕ, ◌+◌, ◌≤◌, ◌<◌}
use native.Mathlib.Omega.{arith}
use native.Mathlib.Nat.{add-zero}
use lib.ListN.{length, length-append}
use lib.Seq.{sets}
use Rattle.lists.proofs.Steps.{sets-append}
use Rattle.lists.specs.Stored.{Stored}
use Rattle.lists.proofs.Stored.{stored-length}

pub record Remains (b₀ : List ℕ) (from : ℕ) (text b : List ℕ) (at : ℕ) (runs : List (List ℕ)) : Type 0 where
  pub long : length b ≡ length b₀
  pub ending : at + length (flatten runs) ≡ from + length text
  pub room : at + length (flatten runs) ≤ length b
  pub lands : sets b at (flatten runs) ≡ sets b₀ from text

module _ (b₀ : List ℕ) (from : ℕ) where
  pub remains-all : (runs : List (List ℕ)) → from + length (flatten runs) ≤ length b₀ → Remains b₀ from (flatten runs) b₀ from runs
  remains-all runs h = record { long = refl; ending = refl; room = h; lands = refl }

  pub remains-one : (text : List ℕ) → from + length text ≤ length b₀ → Remains b₀ from text b₀ from (text ∷ [])
  unfolding flatten
  remains-one text h = subst (λ (t : List ℕ). Remains b₀ from t b₀ from (text ∷ [])) (append-nil text)
      (remains-all (text ∷ []) (subst (λ (t : List ℕ). from + length t ≤ length b₀) (sym (append-nil text)) h))

module _ {b₀ : List ℕ} {from : ℕ} {text b : List ℕ} {at : ℕ} where
  -- room for the next run
  pub room_for : {xs : List ℕ} {runs : List (List ℕ)} → Remains b₀ from text b at (xs ∷ runs) → at + length xs ≤ length b
  unfolding flatten
  room_for {xs} {runs} g = omega (arith, length-append xs (flatten runs), g.room)

  -- the next run is stored
  pub remains-after : {xs : List ℕ} {runs : List (List ℕ)} {b' : List ℕ} {next : ℕ} → Remains b₀ from text b at (xs ∷ runs) → Stored b b' at next xs → Remains b₀ from text b' next runs
  unfolding flatten
  remains-after {xs} {runs} {b'} {next} g s = record {
    long = stored-length s ∙ g.long;
    ending = omega (arith, length-append xs (flatten runs), s.next-is, g.ending);
    room = omega (arith, length-append xs (flatten runs), s.next-is, g.room, stored-length s);
    lands = (λ j. sets (s.now-is j) (s.next-is j) (flatten runs)) ∙ sym (sets-append b at xs (flatten runs)) ∙ g.lands;
  }

  -- a run in two parts
  pub remains-parts : (xs ys : List ℕ) {zs : List ℕ} {runs : List (List ℕ)} → zs ≡ xs ++ ys → Remains b₀ from text b at (zs ∷ runs) → Remains b₀ from text b at (xs ∷ ys ∷ runs)
  unfolding flatten
  remains-parts xs ys {zs} {runs} e g = let same : zs ++ flatten runs ≡ xs ++ (ys ++ flatten runs) = ap (λ (l : List ℕ). l ++ flatten runs) e ∙ append_assoc xs ys (flatten runs) in record {
    long = g.long;
    ending = ap (λ (l : List ℕ). at + length l) (sym same) ∙ g.ending;
    room = subst (λ (l : List ℕ). at + length l ≤ length b) same g.room;
    lands = ap (λ (l : List ℕ). sets b at l) (sym same) ∙ g.lands;
  }

  -- nothing remains
  pub stored-all : Remains b₀ from text b at [] → Stored b₀ b from at text
  unfolding flatten
  stored-all g = record { now-is = g.lands; next-is = sym (add-zero at) ∙ g.ending }

  pub stored-end : {xs : List ℕ} → xs ≡ [] → Remains b₀ from text b at (xs ∷ []) → Stored b₀ b from at text
  unfolding flatten
  stored-end {xs} e g = record {
    now-is = ap (λ (l : List ℕ). sets b at (l ++ [])) (sym e) ∙ g.lands;
    next-is = sym (add-zero at) ∙ ap (λ (l : List ℕ). at + length (l ++ [])) (sym e) ∙ g.ending;
  }

-- ---- a loop of n turns, where `rest i` remains before turn i

pub record Turns (n : ℕ) (rest : ℕ → List ℕ) (b₀ : List ℕ) (from : ℕ) (b : List ℕ) (at i : ℕ) : Type 0 where
  pub within : i ≤ n
  pub remains : Remains b₀ from (rest 0) b at (rest i ∷ [])

pub turns-start : (n : ℕ) (rest : ℕ → List ℕ) (b₀ : List ℕ) (from : ℕ) → from + length (rest 0) ≤ length b₀ → Turns n rest b₀ from b₀ from 0
turns-start n rest b₀ from h = record { within = omega arith; remains = remains-one b₀ from (rest 0) h }

module _ {n : ℕ} {rest : ℕ → List ℕ} {b₀ : List ℕ} {from : ℕ} {b : List ℕ} {at i : ℕ} (g : Turns n rest b₀ from b at i) where
  turn-parts : (run : List ℕ) → rest i ≡ run ++ rest (i + 1) → Remains b₀ from (rest 0) b at (run ∷ rest (i + 1) ∷ [])
  turn-parts run e = remains-parts run (rest (i + 1)) e g.remains

  -- room for the run of a turn
  pub turn-room : (run : List ℕ) → rest i ≡ run ++ rest (i + 1) → at + length run ≤ length b
  turn-room run e = room_for (turn-parts run e)

  -- a turn
  pub turns-after : {run b' : List ℕ} {next : ℕ} → i < n → rest i ≡ run ++ rest (i + 1) → Stored b b' at next run → Turns n rest b₀ from b' next (i + 1)
  turns-after {run} h e s = record { within = omega arith; remains = remains-after (turn-parts run e) s }

  -- the loop's end
  pub turns-end : rest i ≡ [] → Stored b₀ b from at (rest 0)
  turns-end e = stored-end e g.remains
