-- The first rows of those that the lists hold.
use mathlib.Core.Path.{◌≡◌, sym, ap, ◌∙◌, subst}
use mathlib.Core.List.{List, [], ◌∷◌, ◌++◌, append-nil, append_assoc}
use Prim.Native.Nat.{ℕ, ◌+◌, ◌≤◌, ◌<◌}
use native.Mathlib.Omega.{arith}
use lib.ListN.{length, get_or, take, drop, length-append, take-append-drop}
use lib.Seq.{append_snoc, length-take-le, get_or-take, take-take, take_at}
use Rattle.sparse.specs.Matrix.{Compressed, compressed}
use Rattle.sparse.specs.Dense.{compress}
use Rattle.sparse.proofs.DenseLaws.{compress-append, compress-lengths}
use Rattle.elimination.specs.Factoring.{entries}
use Rattle.elimination.specs.Invariant.{Echelon}
use Rattle.factor_row.specs.Gathering.{cut}
use Rattle.factor_row.specs.Storage.{Holds}
use Rattle.factor_turn.proofs.Steps.{entries-values}

-- ---- their lists are the fronts of the lists of all

-- a list that goes on after xs
record Longer (xs l : List ℕ) : Type 0 where
  after : List ℕ
  split : l ≡ xs ++ after

longer-none : (xs : List ℕ) → Longer xs xs
longer-none xs = record { after = []; split = sym (append-nil xs) }

longer-more : (xs ys l k : List ℕ) → k ≡ xs ++ ys → Longer k l → Longer xs l
longer-more xs ys l k e h = record { after = ys ++ h.after; split = h.split ∙ ap (λ (z : List ℕ). z ++ h.after) e ∙ append_assoc xs ys h.after }

longer-front : (xs l h : List ℕ) (n : ℕ) → Longer xs l → take (length l) h ≡ l → length xs ≡ n → take n h ≡ xs
longer-front xs l h n g e en =
    sym (take-take n (length l) h (omega (arith, ap length g.split, length-append xs g.after)))
    ∙ ap (take n) (e ∙ g.split)
    ∙ take_at xs g.after n en

record Fronts (rows all : List (List ℕ)) : Type 0 where
  starts : Longer (compress rows).starts (compress all).starts
  columns : Longer (compress rows).cols (compress all).cols
  values : Longer (compress rows).vals (compress all).vals

fronts : (rows more : List (List ℕ)) → Fronts rows (rows ++ more)
fronts rows [] = rw append-nil (record { starts = longer-none _; columns = longer-none _; values = longer-none _ })
fronts rows (row ∷ more) =
    let a = compress-append rows row in
    let h : Fronts (rows ++ (row ∷ [])) (rows ++ row ∷ more) = subst (Fronts (rows ++ (row ∷ []))) (append_snoc rows row more) (fronts (rows ++ (row ∷ [])) more) in
    record {
      starts = longer-more _ _ _ _ a.starts h.starts;
      columns = longer-more _ _ _ _ a.cols h.columns;
      values = longer-more _ _ _ _ a.vals h.values;
    }

-- the lists that hold all, cut to the first rows
module _ (all : List (List ℕ)) (b : ℕ) (h : Compressed) (held : Holds all b h) (s first : ℕ) (many : s ≤ length all) (ef : first ≡ entries (take s all)) where
  pub cut-first : cut s first h.starts h.cols h.vals ≡ compress (take s all)
  unfolding compress
  cut-first t = compressed (starts t) (columns t) (values t)
    where
      front : Fronts (take s all) all
      front = subst (Fronts (take s all)) (take-append-drop s all) (fronts (take s all) (drop s all))

      end : first ≡ length (compress (take s all)).vals
      end = ef ∙ entries-values (take s all)

      starts : take (s + 1) h.starts ≡ (compress (take s all)).starts
      starts = longer-front _ _ h.starts (s + 1) front.starts held.starts.front (omega (arith, (compress-lengths (take s all)).starts-are, length-take-le s all many))

      columns : take first h.cols ≡ (compress (take s all)).cols
      columns = longer-front _ _ h.cols first front.columns held.columns.front ((compress-lengths (take s all)).paired ∙ sym end)

      values : take first h.vals ≡ (compress (take s all)).vals
      values = longer-front _ _ h.vals first front.values held.values.front (sym end)

-- ---- they are rows of U with their pivot columns

pub echelon-first : (p m : ℕ) (cs : List ℕ) (us : List (List ℕ)) (s : ℕ) → s ≤ length us → Echelon p m cs us → Echelon p m (take s cs) (take s us)
echelon-first p m cs us s h e =
    record {
      as_many = omega (arith, length-take-le s us h, length-take-le s cs (omega (arith, e.as_many)));
      rows = λ k l. let b : k < s = omega (arith, length-take-le s us h) in let r = e.rows k (omega arith) in
          rw (get_or-take s us k [] b) (record {
            wide = r.wide;
            residues = r.residues;
            inside = rw (get_or-take s cs k 0 b) r.inside;
            left = λ j g. ap (λ (t : ℕ). get_or (get_or us k []) t 0) (get_or-take s cs j 0 (omega arith)) ∙ r.left j g;
            unit = ap (λ (t : ℕ). get_or (get_or us k []) t 0) (get_or-take s cs k 0 b) ∙ r.unit;
          });
    }
