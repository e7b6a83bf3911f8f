-- The pairs in order, one after another.
--   filled_next         one cell more of an output
--   selected-waiting    at first all selected pairs wait, so what is ordered are the structural pivots
--   ready-least         the lowest ready row is the lowest-numbered free row of those that wait
--   none-ready          where no row is ready nothing more comes
--   Listing p n A ..    where the loop of `list_pairs` stands: `at` pairs are listed, the others come from what waits, and k is the lowest ready row
use Prim.Native.Nat.{ℕ, suc, ◌+◌, ◌-◌, ◌≤◌, ◌<◌}
use mathlib.Core.Path.{◌≡◌, sym, ap, ap₂, ◌∙◌, subst}
use mathlib.Core.Bool.{Bool, true}
use mathlib.Core.List.{List, [], ◌∷◌, ◌++◌}
use native.Mathlib.Decide.{ℕ_discrete, dec_lt}
use native.Mathlib.Nat.{add-zero}
use native.Mathlib.Numerals.{add-one}
use native.Mathlib.Omega.{arith}
use lib.ListN.{length, get_or, take, drop, set, length-drop, length-map, get_or-map}
use lib.Seq.{take_all, take-suc, length-take-le, append_snoc, set_at, get_or-drop, drop-drop}
use borrow.Author.Tests.{eqb-true, eq-eqb}
use Rattle.lists.specs.Filled.{zeros, filled}
use Rattle.lists.proofs.Filled.{length-zeros, filled_none, length-filled}
use Rattle.sparse.specs.Matrix.{Compressed, matrix}
use Rattle.sparse.specs.Scan.{NextNonzero}
use Rattle.elimination.specs.Structural.{Pair}
use Rattle.elimination.specs.Pairs.{pair_rows, pair_columns}
use Rattle.lists.specs.Members.{Member}
use Rattle.elimination.specs.Selection.{nonzero, pair_at, without, free, ordered, degree, selected, structural}
use Rattle.elimination.proofs.Pairs.{no_pair}
use Rattle.elimination.proofs.Ordering.{Least, without-one}
use Rattle.elimination.proofs.Steps.{free-degree, ordered_step, ordered-none, ordered_same}
use Rattle.elimination.proofs.Selected.{selected-sound, structural-pairs, pairs-short}
use Rattle.factor_arrange.specs.Waiting.{waiting, DegreesCounted, Ready}
use Rattle.factor_arrange.specs.Needs.{Arranged, MarkReady, Stage, Released, ListReady, OrderReady}
use Rattle.factor_arrange.proofs.Cells.{cell-inside, named}
use Rattle.factor_arrange.proofs.Waits.{in-waiting, waiting-in, waiting-apart, waiting-without}
use Rattle.factor_arrange.proofs.Counting.{named-there, named_back}

-- ---- one cell more of an output

pub filled_next : (n at : ℕ) (xs : List ℕ) → at < length xs → length xs ≤ n → set (filled n (take at xs)) at (get_or xs at 0) ≡ filled n (take (at + 1) xs)
unfolding filled zeros
filled_next n at xs h g =
    ap (λ (k : ℕ). set (take at xs ++ zeros k) at (get_or xs at 0)) (let e : n - length (take at xs) ≡ suc (n - (at + 1)) = omega (arith, long) in e)
    ∙ set_at (take at xs) 0 (zeros (n - (at + 1))) (get_or xs at 0) at long
    ∙ sym (append_snoc (take at xs) (get_or xs at 0) (zeros (n - (at + 1))))
    ∙ ap₂ (λ (l : List ℕ) (k : ℕ). l ++ zeros k) (sym taken) (let e : n - (at + 1) ≡ n - length (take (at + 1) xs) = omega (arith, length-take-le (at + 1) xs (omega arith)) in e)
  where
    taken : take (at + 1) xs ≡ take at xs ++ (get_or xs at 0 ∷ [])
    taken = ap (λ (k : ℕ). take k xs) (add-one at) ∙ take-suc xs at 0 h

    long : length (take at xs) ≡ at
    long = length-take-le at xs (omega arith)

module _ (p n : ℕ) (A : Compressed) (w v₀ v d s : List ℕ) (g : Stage p n A w v₀ v d s) where
  abbrev has : ℕ → ℕ → Bool
  has = nonzero (matrix A)

  -- ---- what waits, by its cells

  cell-column : (b : Pair) → Member b (waiting v) → get_or w b.column 0 ≡ suc b.row
  cell-column b m =
      let e = (in-waiting v (length v) b m).0 in
      named_back p n A w v₀ g.sized g.named b.row b.column (sym (g.part b.row (λ z. absurd (omega (arith, e)))) ∙ e)

  cell-degree : (b : Pair) → Member b (waiting v) → get_or d b.row 0 ≡ degree has (waiting v) b
  cell-degree b m = g.counted.cells b.column b.row (cell-column b m)

  free-ready : (b : Pair) → Member b (waiting v) → free has (waiting v) b ≡ true → ¬ (get_or s b.row 0 ≡ 0)
  free-ready b m f =
      g.marked.all b.row (λ z. absurd (omega (arith, (in-waiting v (length v) b m).0)))
      (cell-degree b m ∙ eqb-true (degree has (waiting v) b) 0 (sym (free-degree has (waiting v) b) ∙ f))

  module _ (k : ℕ) (t : NextNonzero s 0 k) where
    ready-from : (i : ℕ) → ¬ (get_or s i 0 ≡ 0) → k ≤ i
    ready-from i f = go (dec_lt i k)
      where
        go : Dec (i < k) → k ≤ i
        go (yes l) = absurd (f (t.none i (omega arith) l))
        go (no l) = omega arith

    -- the row that is ready, with its column
    module _ (h : k < length s) where
      pub waits : (c : ℕ) × (get_or v k 0 ≡ suc c)
      waits = named (get_or v k 0) (g.marked.right k (t.one h)).0

      pub ready-least : Least has (waiting v) (waiting v) (pair_at k waits.0)
      ready-least =
          record {
            inside = here;
            is_free =
                free-degree has (waiting v) (pair_at k waits.0)
                ∙ eq-eqb (degree has (waiting v) (pair_at k waits.0)) 0 (sym (cell-degree (pair_at k waits.0) here) ∙ (g.marked.right k (t.one h)).1);
            least = λ b m f. ready-from b.row (free-ready b m f);
          }
        where
          here : Member (pair_at k waits.0) (waiting v)
          here = waiting-in v (length v) k waits.0 (omega (arith, g.v-long, g.ready-long)) waits.1

    pub none-ready : length s ≤ k → ordered has (length (waiting v)) (waiting v) ≡ []
    none-ready h = ordered-none has (length (waiting v)) (waiting v) never
      where
        never : (a : Pair) → Least has (waiting v) (waiting v) a → ⊥
        never a l = let f = free-ready a l.inside l.is_free in absurd (omega (arith, ready-from a.row f, cell-inside s a.row f))

-- ---- at first all selected pairs wait

selected-waiting : (p n : ℕ) (A : Compressed) (w v d s : List ℕ) → Stage p n A w v v d s
    → structural A n (length w) ≡ ordered (nonzero (matrix A)) (length (waiting v)) (waiting v)
unfolding selected structural
selected-waiting p n A w v d s g =
    let f = selected-sound p n (length w) A g.sized.formed g.sized.rows in
    ordered_same (nonzero (matrix A)) f.rank (selected A n (length w)) (waiting v) f.apart (waiting-apart v (length v)) f.rising
    (λ b m. let e = g.named.by_row.all b m in waiting-in v (length v) b.row b.column (cell-inside v b.row (λ z. absurd (omega (arith, e)))) e)
    (λ b m. g.named.by_row.right b.row b.column (in-waiting v (length v) b m).0)

-- ---- the loop

pub record Listing (p n : ℕ) (A : Compressed) (w v₀ v d s R C : List ℕ) (at k : ℕ) : Type 0 where
  pub stage : Stage p n A w v₀ v d s
  pub remains : drop at (structural A n (length w)) ≡ ordered (nonzero (matrix A)) (length (waiting v)) (waiting v)
  pub placed : at ≤ length (structural A n (length w))
  pub rows : R ≡ filled n (take at (pair_rows (structural A n (length w))))
  pub columns : C ≡ filled (length w) (take at (pair_columns (structural A n (length w))))
  pub next : NextNonzero s 0 k

module _ (p n : ℕ) (A : Compressed) (w v₀ v d s R C : List ℕ) where
  abbrev pairs : List Pair
  pairs = structural A n (length w)

  pub listing-starts : (k : ℕ) → ListReady p n A w v₀ v d s R C → NextNonzero s 0 k → Listing p n A w v₀ v d s R C 0 k
  listing-starts k r t =
      record {
        stage = r.stage;
        remains = selected-waiting p n A w v d s (subst (λ (u : List ℕ). Stage p n A w u v d s) (sym r.same) r.stage);
        placed = omega arith;
        rows = r.R-clear ∙ sym (filled_none n);
        columns = r.C-clear ∙ sym (filled_none (length w));
        next = t;
      }

  module _ (at k : ℕ) (h : Listing p n A w v₀ v d s R C at k) where
    -- there are at most as many as rows, and as columns
    short : (length pairs ≤ n) × (length pairs ≤ length w)
    short = pairs-short n (length w) (matrix A) pairs (structural-pairs p n (length w) A h.stage.sized.formed h.stage.sized.rows)

    rows-many : length (pair_rows pairs) ≡ length pairs
    rows-many = length-map pairs (λ q. q.row)

    columns-many : length (pair_columns pairs) ≡ length pairs
    columns-many = length-map pairs (λ q. q.column)

    pub listing-rows : length R ≡ n
    listing-rows = ap length h.rows ∙ length-filled n (take at (pair_rows pairs)) (omega (arith, length-take-le at (pair_rows pairs) (omega (arith, h.placed, rows-many)), h.placed, short.0))

    pub listing-columns : length C ≡ length w
    listing-columns =
        ap length h.columns ∙ length-filled (length w) (take at (pair_columns pairs)) (omega (arith, length-take-le at (pair_columns pairs) (omega (arith, h.placed, columns-many)), h.placed, short.1))

    -- ---- a turn

    module _ (more : ¬ (k ≡ length s)) where
      i : k < length s
      i = omega (arith, h.next.inside)

      -- the column of row k
      abbrev listing-column : (c : ℕ) × (get_or v k 0 ≡ suc c)
      listing-column = waits p n A w v₀ v d s h.stage k h.next i

      inside : k < length v
      inside = omega (arith, h.stage.v-long, h.stage.ready-long)

      -- what comes next is row k with its column
      comes : drop at pairs ≡ pair_at k listing-column.0 ∷ ordered (nonzero (matrix A)) (length (waiting (set v k 0))) (waiting (set v k 0))
      comes =
          let l = ready-least p n A w v₀ v d s h.stage k h.next i in
          let apart = waiting-apart v (length v) in
          let a = pair_at k listing-column.0 in
          h.remains
          ∙ ap (λ (j : ℕ). ordered (nonzero (matrix A)) j (waiting v)) (sym (without-one (waiting v) a apart l.inside))
          ∙ ordered_step (nonzero (matrix A)) (length (without k (waiting v))) (waiting v) a apart l
          ∙ ap (λ (ws : List Pair). a ∷ ordered (nonzero (matrix A)) (length ws) ws) (sym (waiting-without v k inside))

      -- there is room for it
      pub listing-room : at < length pairs
      listing-room = omega (arith, ap length comes, length-drop at pairs)

      pub listing-fits : (at < length R) × (at < length C) × (at < 2048)
      listing-fits = (omega (arith, listing-rows, listing-room, short.0), omega (arith, listing-columns, listing-room, short.1), omega (arith, listing-room, short.0, h.stage.sized.n-small))

      pair-here : get_or pairs at no_pair ≡ pair_at k listing-column.0
      pair-here = ap (λ (j : ℕ). get_or pairs j no_pair) (sym (add-zero at)) ∙ sym (get_or-drop at pairs 0 no_pair) ∙ ap (λ (l : List Pair). get_or l 0 no_pair) comes

      pub listing-turn : (d' s' : List ℕ) (r k' : ℕ) → Released p (length s) k A w v₀ v s d' s' r → NextNonzero s' r k'
          → Listing p n A w v₀ (set v k 0) d' s' (set R at k) (set C at (get_or v k 0 - 1)) (at + 1) k'
      listing-turn d' s' r k' o t =
          record {
            stage = subst (λ (j : ℕ). Stage p j A w v₀ (set v k 0) d' s') h.stage.ready-long o.stage;
            remains = sym (drop-drop 1 at pairs) ∙ ap (drop 1) comes;
            placed = omega (arith, listing-room);
            rows =
                (λ y. set (h.rows y) at (sym row_here y))
                ∙ filled_next n at (pair_rows pairs) (omega (arith, rows-many, listing-room)) (omega (arith, rows-many, short.0));
            columns =
                (λ y. set (h.columns y) at (sym column-here y))
                ∙ filled_next (length w) at (pair_columns pairs) (omega (arith, columns-many, listing-room)) (omega (arith, columns-many, short.1));
            next = record { least = omega arith; inside = t.inside; none = λ i a b. below i b (dec_lt i r); one = t.one };
          }
        where
          row_here : get_or (pair_rows pairs) at 0 ≡ k
          row_here = get_or-map (λ q. q.row) pairs at no_pair ∙ ap (λ (q : Pair). q.row) pair-here

          column-here : get_or (pair_columns pairs) at 0 ≡ get_or v k 0 - 1
          column-here = get_or-map (λ q. q.column) pairs at no_pair ∙ omega (arith, ap (λ (q : Pair). q.column) pair-here, listing-column.1)

          below : (i : ℕ) → i < k' → Dec (i < r) → get_or s' i 0 ≡ 0
          below i b (yes l) = go (ℕ_discrete (get_or s' i 0) 0)
            where
              go : Dec (get_or s' i 0 ≡ 0) → get_or s' i 0 ≡ 0
              go (yes z) = z
              go (no f) = absurd (o.low i l f (h.next.none i (omega arith) (omega (arith, o.inside))))
          below i b (no l) = t.none i (omega arith) b

    -- all are listed
    listing-all : at ≡ length pairs → Arranged n (length w) A at R C
    listing-all all =
        record {
          count = all;
          rows = h.rows ∙ ap (filled n) (take_all at (pair_rows pairs) (omega (arith, rows-many, all)));
          columns = h.columns ∙ ap (filled (length w)) (take_all at (pair_columns pairs) (omega (arith, columns-many, all)));
        }

    -- they are where no row is ready, and where there are as many as rows
    pub listing-ends : length s ≤ k → Arranged n (length w) A at R C
    listing-ends i = listing-all (omega (arith, ap length (h.remains ∙ none-ready p n A w v₀ v d s h.stage k h.next i), length-drop at pairs, h.placed))

    pub listing-full : n ≤ at → (r : ℕ) → at ≡ r → Arranged n (length w) A r R C
    listing-full f r e = subst (λ (j : ℕ). Arranged n (length w) A j R C) e (listing-all (omega (arith, short.0, h.placed)))

-- ---- what the listing starts from

module _ (p n : ℕ) (A : Compressed) (w v waits₀ degrees₀ ready₀ R C : List ℕ) (o : OrderReady p n A w v waits₀ degrees₀ ready₀ R C) where
  ready-rows : (ready : List ℕ) → length ready ≡ length ready₀ → length ready ≡ n
  ready-rows ready marks = marks ∙ ap length o.ready-clear ∙ length-zeros n

  pub order-arranged : (ready : List ℕ) → length ready ≡ length ready₀ → (s : ℕ) (R' C' : List ℕ) → Arranged (length ready) (length w) A s R' C' → Arranged n (length w) A s R' C'
  order-arranged ready marks s R' C' h = subst (λ (j : ℕ). Arranged j (length w) A s R' C') (ready-rows ready marks) h

  module _ (degrees : List ℕ) (long : length degrees ≡ length degrees₀) where
    degrees-rows : length degrees ≡ n
    degrees-rows = long ∙ ap length o.degrees-clear ∙ length-zeros n

    pub order-mark : MarkReady v degrees ready₀
    order-mark = record { degrees-long = degrees-rows ∙ sym o.pairs.named.rows_long; clear = o.ready-clear ∙ ap zeros (sym o.pairs.named.rows_long) }

    module _ (ready : List ℕ) (marks : length ready ≡ length ready₀) where
      -- all selected pairs wait
      pub order-list : (waits : List ℕ) → waits ≡ v → DegreesCounted A w (waiting v) degrees → Ready v degrees ready → ListReady p (length ready) A w v waits degrees ready R C
      order-list waits same counted marked = subst (λ (j : ℕ). ListReady p j A w v waits degrees ready R C) (sym (ready-rows ready marks)) whole
        where
          whole : ListReady p n A w v waits degrees ready R C
          whole =
              record {
                stage =
                    record {
                      sized = o.pairs.sized;
                      named = o.pairs.named;
                      v-long = ap length same ∙ o.pairs.named.rows_long;
                      degrees-long = degrees-rows;
                      ready-long = ready-rows ready marks;
                      part = λ i f. ap (λ (u : List ℕ). get_or u i 0) same;
                      gone = λ c i e z. absurd (omega (arith, named-there p n A w v o.pairs.sized o.pairs.named c i e, ap (λ (u : List ℕ). get_or u i 0) same));
                      counted = subst (λ (u : List ℕ). DegreesCounted A w (waiting u) degrees) (sym same) counted;
                      marked = subst (λ (u : List ℕ). Ready u degrees ready) (sym same) marked;
                    };
                same = same;
                R-clear = o.pairs.R-clear;
                C-clear = o.pairs.C-clear;
              }
