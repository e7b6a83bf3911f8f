-- The order of the triples does not matter: what is stored depends only on which they are, `placed_alike`; so does what reading leaves, `order-free`.
use mathlib.Core.Path.{◌≡◌, refl, sym, ap, ◌∙◌, subst}
use mathlib.Core.Logic.{◌⊎◌, inl, inr, ◌↔◌}
use mathlib.Core.Bool.{Bool, true, false, cond}
use mathlib.Core.List.{List, [], ◌∷◌, ◌++◌, map, reverse_aux}
use Prim.Native.Nat.{ℕ, ◌+◌}
use lib.Dec.{eqb}
use Rattle.grouping.specs.Grouping.{picked, grouped}
use Rattle.lists.specs.Members.{Member}
use Rattle.grouping.proofs.Every.{All, Pairwise, picked_all, picked-key, picked-pairwise}
use Rattle.grouping.proofs.Groups.{picked-grouped, grouped-same}
use Rattle.grouping.proofs.Stable.{all-member, member-left, member_right, member-split, member-picked, picked-member}
use Rattle.text_judge.specs.declared.judge.Sizes.{Sizes}
use Rattle.text_opening.specs.Reading.{Entry, kept, placed, read_of}
use Rattle.text_plan.specs.Stating.{StatedEntry, plan_text, entry_of, entries_of, Plan}
use Rattle.text_plan.specs.Call.{answer_by, read_answer_of}
use Rattle.text_plan.proofs.Printed.{reads-stated}
use Rattle.text_plan.proofs.Scattered.{row_of, column_of, Differ, Scattered, plan-scattered, kept-differ}

-- each of xs is one of ys
abbrev pub Alike : List Entry → List Entry → Type 0
Alike xs ys = (t : Entry) → Member t xs → Member t ys

-- ---- what stands at one place: at most one
abbrev cell : ℕ → ℕ → List Entry → List Entry
cell a b xs = picked column_of b (picked row_of a xs)

module _ (a b : ℕ) where
  cell-rows : (xs : List Entry) → All (λ t. t.row ≡ a) (cell a b xs)
  cell-rows xs = picked_all column_of (λ t. t.row ≡ a) b (picked row_of a xs) (picked-key row_of a xs)

  cell-columns : (xs : List Entry) → All (λ t. t.column ≡ b) (cell a b xs)
  cell-columns xs = picked-key column_of b (picked row_of a xs)

  cell-alike : (xs ys : List Entry) → Alike xs ys → Alike (cell a b xs) (cell a b ys)
  cell-alike xs ys h t m =
      let r = all-member (λ t. t.row ≡ a) t (cell a b xs) (cell-rows xs) m in
      let c = all-member (λ t. t.column ≡ b) t (cell a b xs) (cell-columns xs) m in
      member-picked column_of b t (picked row_of a ys)
      (member-picked row_of a t ys (h t (picked-member row_of a t xs (picked-member column_of b t (picked row_of a xs) m))) r) c

  cell-one : (xs : List Entry) (x y : Entry) → Member x (cell a b xs) → Member y (cell a b xs) → Differ x y → ⊥
  cell-one xs x y m k d =
      d (all-member (λ t. t.row ≡ a) x (cell a b xs) (cell-rows xs) m ∙ sym (all-member (λ t. t.row ≡ a) y (cell a b xs) (cell-rows xs) k))
      (all-member (λ t. t.column ≡ b) x (cell a b xs) (cell-columns xs) m ∙ sym (all-member (λ t. t.column ≡ b) y (cell a b xs) (cell-columns xs) k))

  cell-differ : (xs : List Entry) → Pairwise Differ xs → Pairwise Differ (cell a b xs)
  cell-differ xs p = picked-pairwise column_of Differ b (picked row_of a xs) (picked-pairwise row_of Differ a xs p)

-- lists of at most one member each, with the same members
singles : (xs ys : List Entry) → Pairwise Differ xs → Pairwise Differ ys → ((x y : Entry) → Member x xs → Member y xs → Differ x y → ⊥) → ((x y : Entry) → Member x ys → Member y ys → Differ x y → ⊥)
    → Alike xs ys → Alike ys xs → xs ≡ ys
singles [] [] p q f g a b = refl
singles [] (y ∷ ys) p q f g a b = absurd (b y (inl refl))
singles (x ∷ []) [] p q f g a b = absurd (a x (inl refl))
singles (x ∷ x' ∷ xs) ys p q f g a b = absurd (f x x' (inl refl) (inr (inl refl)) p.0.0)
singles (x ∷ []) (y ∷ y' ∷ ys) p q f g a b = absurd (g y y' (inl refl) (inr (inl refl)) q.0.0)
singles (x ∷ []) (y ∷ []) p q f g a b = elim (a x (inl refl)) [ inl e ↦ ap (λ (z : Entry). z ∷ []) e | inr m ↦ absurd m ]

sorted-alike : (n m : ℕ) (xs ys : List Entry) → Pairwise Differ xs → Pairwise Differ ys → Alike xs ys → Alike ys xs → grouped row_of n (grouped column_of m xs) ≡ grouped row_of n (grouped column_of m ys)
sorted-alike n m xs ys p q f g =
    grouped-same row_of n (grouped column_of m xs) (grouped column_of m ys)
    (λ a. picked-grouped row_of column_of a m xs ∙ grouped-same column_of m (picked row_of a xs) (picked row_of a ys) (cells a) ∙ sym (picked-grouped row_of column_of a m ys))
  where
    cells : (a b : ℕ) → cell a b xs ≡ cell a b ys
    cells a b = singles (cell a b xs) (cell a b ys) (cell-differ a b xs p) (cell-differ a b ys q) (cell-one a b xs) (cell-one a b ys) (cell-alike a b xs ys f) (cell-alike a b ys xs g)

-- ---- the triples that are not 0
kept_from : (t : Entry) (seen : List Entry) → Member t (kept seen) → Member t seen × (eqb t.value 0 ≡ false)
unfolding kept
kept_from t [] m = elim m [ ]
kept_from t (x ∷ xs) m = go (eqb x.value 0) refl m (kept_from t xs)
  where
    go : (z : Bool) → eqb x.value 0 ≡ z → Member t (cond z (kept xs) (kept xs ++ (x ∷ []))) → (Member t (kept xs) → Member t xs × (eqb t.value 0 ≡ false)) → ((t ≡ x) ⊎ Member t xs) × (eqb t.value 0 ≡ false)
    go true e k ih = let h = ih k in (inr h.0, h.1)
    go false e k ih = elim (member-split t (kept xs) (x ∷ []) k) [ inl a ↦ (let h = ih a in (inr h.0, h.1)) | inr b ↦ last_one b ]
      where
        last_one : Member t (x ∷ []) → ((t ≡ x) ⊎ Member t xs) × (eqb t.value 0 ≡ false)
        last_one (inl q) = (inl q, ap (λ (u : Entry). eqb u.value 0) q ∙ e)
        last_one (inr k) = elim k [ ]

kept_there : (t : Entry) (seen : List Entry) → Member t seen → eqb t.value 0 ≡ false → Member t (kept seen)
unfolding kept
kept_there t [] m h = elim m [ ]
kept_there t (x ∷ xs) (inl e) h =
    let f : eqb x.value 0 ≡ false = ap (λ (u : Entry). eqb u.value 0) (sym e) ∙ h in
    rw f (member_right t (kept xs) (x ∷ []) (inl e))
kept_there t (x ∷ xs) (inr m) h = go (eqb x.value 0) (kept_there t xs m h)
  where
    go : (z : Bool) → Member t (kept xs) → Member t (cond z (kept xs) (kept xs ++ (x ∷ [])))
    go true k = k
    go false k = member-left t (kept xs) (x ∷ []) k

kept-alike : (xs ys : List Entry) → Alike xs ys → Alike (kept xs) (kept ys)
kept-alike xs ys f t m = let h = kept_from t xs m in kept_there t ys (f t h.0) h.1

-- What is stored does not depend on the order of the triples.
pub placed_alike : (s : Sizes) (xs ys : List Entry) → Scattered s xs → Scattered s ys → Alike xs ys → Alike ys xs → placed s xs ≡ placed s ys
unfolding placed
placed_alike s xs ys p q f g = sorted-alike (s.n + 1) (s.m + 1) (kept xs) (kept ys) (kept-differ s xs p) (kept-differ s ys q) (kept-alike xs ys f) (kept-alike ys xs g)

-- ---- the stated triples
module _ (p : ℕ) where
  entries-keep : (ts : List StatedEntry) (seen : List Entry) (e : Entry) → Member e seen → Member e (reverse_aux (map (entry_of p) ts) seen)
  entries-keep [] seen e m = m
  entries-keep (t ∷ ts) seen e m = entries-keep ts (entry_of p t ∷ seen) e (inr m)

  entries-there : (ts : List StatedEntry) (seen : List Entry) (t : StatedEntry) → Member t ts → Member (entry_of p t) (reverse_aux (map (entry_of p) ts) seen)
  entries-there [] seen t m = elim m [ ]
  entries-there (u ∷ us) seen t (inl e) = entries-keep us (entry_of p u ∷ seen) (entry_of p t) (inl (ap (entry_of p) e))
  entries-there (u ∷ us) seen t (inr m) = entries-there us (entry_of p u ∷ seen) t m

  -- e is the entry of one of the triples ts
  record From (ts : List StatedEntry) (e : Entry) : Type 0 where
    source : StatedEntry
    stated : Member source ts
    is : e ≡ entry_of p source

  entries_from : (ts : List StatedEntry) (seen : List Entry) (e : Entry) → Member e (reverse_aux (map (entry_of p) ts) seen) → From ts e ⊎ Member e seen
  entries_from [] seen e m = inr m
  entries_from (t ∷ ts) seen e m = go (entries_from ts (entry_of p t ∷ seen) e m)
    where
      go : From ts e ⊎ Member e (entry_of p t ∷ seen) → From (t ∷ ts) e ⊎ Member e seen
      go (inl f) = inl (record { source = f.source; stated = inr f.stated; is = f.is })
      go (inr (inl q)) = inl (record { source = t; stated = inl refl; is = q })
      go (inr (inr k)) = inr k

  entries-alike : (ts us : List StatedEntry) → ((t : StatedEntry) → Member t ts → Member t us) → Alike (entries_of p ts) (entries_of p us)
  entries-alike ts us f e m = go (entries_from ts [] e m)
    where
      go : From ts e ⊎ Member e [] → Member e (entries_of p us)
      go (inl h) = subst (λ (x : Entry). Member x (entries_of p us)) (sym h.is) (entries-there us [] h.source (f h.source h.stated))
      go (inr k) = absurd k

-- Two texts that state the same triples, in any order, leave the same.
pub order-free : (room : ℕ) (s : Sizes) (ts us : List StatedEntry) → Plan room s ts → Plan room s us → ((t : StatedEntry) → Member t ts ↔ Member t us)
    → read_answer_of room (read_of room (plan_text s ts)) ≡ read_answer_of room (read_of room (plan_text s us))
unfolding answer_by
order-free room s ts us g h f =
    let p = s.modulus.p in
    let same = placed_alike s (entries_of p ts) (entries_of p us) (plan-scattered room s ts g) (plan-scattered room s us h) (entries-alike p ts us (λ t. (f t).0)) (entries-alike p us ts (λ t. (f t).1)) in
    ap (read_answer_of room) (reads-stated room s ts g) ∙ rw same refl ∙ sym (ap (read_answer_of room) (reads-stated room s us h))
