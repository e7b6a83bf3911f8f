-- The loop that puts the values of a row into the cells of its copy.
use mathlib.Core.Path.{◌≡◌, refl, sym, ap, ◌∙◌}
use mathlib.Core.List.{List}
use Prim.Native.Nat.{ℕ, ◌+◌, ◌-◌, ◌*◌, ◌≤◌, ◌<◌}
use native.Mathlib.Decide.{ℕ_discrete}
use native.Mathlib.Omega.{arith}
use lib.ListN.{length, get_or, set, drop, length-set}
use lib.Seq.{get_or-set_same, get_or-set_other}
use Rattle.algebra.specs.Sum.{δ}
use Rattle.algebra.proofs.Dot.{δ-same, δ-other}
use Rattle.sparse.specs.Row.{entry}
use Rattle.sparse.proofs.Entries.{weigh-step, weigh-end, entry_at}
use Rattle.factor_copies.specs.Spreading.{ClearFrom, SpreadReady, Spread}

module _ (low at : ℕ) (cols vals copies₀ : List ℕ) where
  pub record SpreadTo (copies : List ℕ) (t : ℕ) : Type 0 where
    pub long : length copies ≡ length copies₀
    pub front : (i : ℕ) → i < at → get_or copies i 0 ≡ get_or copies₀ i 0
    pub rest : ClearFrom at copies₀ → (s : ℕ) → get_or copies (at + s) 0 + entry (drop t cols) (drop t vals) (low + s) ≡ entry cols vals (low + s)

  pub spread-ends : (copies : List ℕ) (t : ℕ) → length cols ≤ t → SpreadTo copies t → Spread low at cols vals copies₀ copies
  spread-ends copies t h g =
      record { long = g.long; front = g.front; cells = λ clear s. omega (arith, g.rest clear s, weigh-end cols vals t (λ k. δ k (low + s)) h) }

  -- the entry v at column c is the next one
  module _ (ready : SpreadReady low at cols vals copies₀) (copies : List ℕ) (t c v : ℕ) (h : t < length cols) (ec : c ≡ get_or cols t 0) (ev : v ≡ get_or vals t 0) (g : SpreadTo copies t) where
    paired : t < length vals
    paired = omega (arith, ready.paired)

    spread-low : low ≤ c
    spread-low = omega (arith, ready.first t h)

    spread-room : at + (c - low) < length copies
    spread-room = omega (arith, g.long, ready.room t h)

    step : (j : ℕ) → entry (drop t cols) (drop t vals) j ≡ v * δ c j + entry (drop (t + 1) cols) (drop (t + 1) vals) j
    step j = weigh-step cols vals t c v (λ i. δ i j) h paired ec ev

    here : entry cols vals c ≡ v
    here = ap (entry cols vals) ec ∙ entry_at ready.width 0 cols vals ready.rising t h paired ∙ sym ev

    pub spread-turn : SpreadTo (set copies (at + (c - low)) v) (t + 1)
    spread-turn =
        record {
          long = length-set copies (at + (c - low)) v ∙ g.long;
          front = λ i b. get_or-set_other copies (at + (c - low)) i v 0 (λ (q : i ≡ at + (c - low)). omega arith) ∙ g.front i b;
          rest = λ clear s. cell clear s (ℕ_discrete s (c - low));
        }
      where
        -- column c, at place d of the copy
        same : ClearFrom at copies₀ → (d : ℕ) → low + d ≡ c → get_or (set copies (at + d) v) (at + d) 0 + entry (drop (t + 1) cols) (drop (t + 1) vals) (low + d) ≡ entry cols vals (low + d)
        same clear d e =
            rw e (omega (
              arith,
              get_or-set_same copies (at + d) v 0 (omega (arith, spread-room)),
              ap (λ (x : ℕ). get_or copies (at + d) 0 + entry (drop t cols) (drop t vals) x) (sym e) ∙ g.rest clear d ∙ ap (entry cols vals) e,
              step c,
              ap (λ (x : ℕ). v * x) (δ-same c),
              here,
            ))

        cell : ClearFrom at copies₀ → (s : ℕ) → Dec (s ≡ c - low) → get_or (set copies (at + (c - low)) v) (at + s) 0 + entry (drop (t + 1) cols) (drop (t + 1) vals) (low + s) ≡ entry cols vals (low + s)
        cell clear s (yes q) = rw q (same clear (c - low) (omega (arith, spread-low)))
        cell clear s (no q) =
            omega (
              arith,
              get_or-set_other copies (at + (c - low)) (at + s) v 0 (λ (e : at + s ≡ at + (c - low)). q (omega arith)),
              g.rest clear s,
              step (low + s),
              ap (λ (x : ℕ). v * x) (δ-other c (low + s) (λ (e : c ≡ low + s). q (omega arith))),
            )
