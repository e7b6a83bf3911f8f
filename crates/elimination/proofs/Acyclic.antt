-- Ranked pairs have no cycle: no chain from a pivot's row through the others comes back to its column.
use Prim.Native.Nat.{ℕ, ◌<◌}
use mathlib.Core.Path.{◌≡◌, refl, sym, ◌∙◌, subst}
use mathlib.Core.Bool.{Bool, true, false}
use mathlib.Core.List.{List}
use native.Mathlib.Omega.{arith}
use lib.Dec.{eqb}
use borrow.Author.Tests.{eqb-true, eqb-false}
use Rattle.elimination.specs.Structural.{Pair}
use Rattle.lists.specs.Members.{Member}
use Rattle.elimination.specs.Chains.{Path, one, more, Back}
use Rattle.elimination.specs.Selection.{without, Apart}
use Rattle.elimination.proofs.Members.{apart-same}
use Rattle.elimination.proofs.Ordering.{without_in, Ranked}

module _ (has : ℕ → ℕ → Bool) (rank : Pair → ℕ) (ps : List Pair) (apart : Apart ps) (ranked : Ranked has rank ps) (q : Pair) (chosen : Member q ps) where
  abbrev others : List Pair
  others = without q.row ps

  -- the rank rises along a chain to q
  chain-rises : (b : Pair) (i c : ℕ) → Member b others → b.row ≡ i → q.column ≡ c → Path has others i c → rank b < rank q
  chain-rises b i c m s t (one e) =
      let o = without_in q.row ps b m in
      ranked b q o.0 chosen o.1 ((λ k. has (s k) (t k)) ∙ e)
  chain-rises b i c m s t (more d l e w) = go (eqb b.row d.row) refl (chain-rises d d.row c l refl t w)
    where
      go : (u : Bool) → eqb b.row d.row ≡ u → rank d < rank q → rank b < rank q
      go true f ih = subst (λ (x : Pair). rank x < rank q) (sym (apart-same ps apart b d (without_in q.row ps b m).0 (without_in q.row ps d l).0 (eqb-true b.row d.row f))) ih
      go false f ih = omega (arith, ranked b d (without_in q.row ps b m).0 (without_in q.row ps d l).0 (eqb-false b.row d.row f) ((λ k. has (s k) d.column) ∙ e))

  pub no-cycle : ¬ Back has others q.row q.column
  no-cycle r =
      let o = without_in q.row ps r.by r.chosen in
      absurd (omega (arith, ranked q r.by chosen o.0 (λ e. o.1 (sym e)) r.leads, chain-rises r.by r.by.row q.column r.chosen refl refl r.onward))
