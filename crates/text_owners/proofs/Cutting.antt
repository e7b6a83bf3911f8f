-- A text that states a plan is cut where that plan's text ends, whatever follows it: no line before its last is `0 0 0`.
--   plan-cut, foot-line      the place where the plan's text ends, and the number of the line there
--   plan-part, foot-part     the two parts of the text are the plan's text and what follows it
use mathlib.Core.Path.{◌≡◌, refl, sym, ap, ◌∙◌}
use mathlib.Core.List.{List, [], ◌∷◌, ◌++◌, append_assoc, append-nil}
use mathlib.Core.Bool.{Bool, true, false, ◌&&◌, and-false}
use Prim.Native.Nat.{ℕ, ◌+◌, ◌^◌, ◌≤◌, ◌<◌}
use native.Mathlib.Omega.{arith}
use lib.ListN.{length, get_or, length-append}
use lib.Seq.{take_at, drop_at, get_or_at}
use lib.Dec.{eqb}
use borrow.Author.Tests.{ne_eqb, eqb-true, le-ltb}
use Rattle.limits.specs.Limits.{largest_size, largest_text}
use Rattle.text_opening.proofs.Moduli.{modulus-fits, modulus-two}
use Rattle.text_fields.specs.Pieces.{Pieces, more, pieces, joined}
use Rattle.text_fields.specs.Decimal.{decimal_in, decimal, signed_text}
use Rattle.text_fields.proofs.Canonical.{head-append, head_of}
use Rattle.text_fields.proofs.Joins.{Free, free-decimal, pieces-line}
use Rattle.text_judge.specs.declared.judge.Sizes.{Sizes}
use Rattle.text_judge.proofs.Verdicts.{within-bounds}
use Rattle.text_opening.specs.Reading.{Entry}
use Rattle.text_plan.specs.Stating.{StatedEntry, triple_text, sizes_text, last_line, triple_lines, plan_text, Stands, StandApart, Plan}
use Rattle.text_plan.proofs.Printed.{free-triple, free-sizes}
use Rattle.text_owners.specs.Ending.{is_last_line, end_in, lines_in, plan_end, plan_part, foot_part, foot_line}

-- ---- the lines of a plan's text with something after it

abbrev lines_then : List StatedEntry → Pieces → Pieces
lines_then [] rest = more last_line rest
lines_then (t ∷ ts) rest = more (triple_text t) (lines_then ts rest)

line-then : (l r foot : List ℕ) → Free 10 l → pieces 10 ((l ++ 10 ∷ r) ++ foot) ≡ more l (pieces 10 (r ++ foot))
line-then l r foot h = ap (pieces 10) (append_assoc l (10 ∷ r) foot) ∙ pieces-line 10 l (r ++ foot) h

lines_then_lem : (ts : List StatedEntry) (foot : List ℕ) → pieces 10 (joined 10 (triple_lines ts) ++ foot) ≡ lines_then ts (pieces 10 foot)
unfolding triple_lines joined
lines_then_lem [] foot = line-then last_line [] foot (free-triple _)
lines_then_lem (t ∷ ts) foot = line-then (triple_text t) (joined 10 (triple_lines ts)) foot (free-triple t) ∙ ap (more (triple_text t)) (lines_then_lem ts foot)

text-then : (s : Sizes) (ts : List StatedEntry) (foot : List ℕ)
    → pieces 10 (plan_text s ts ++ foot) ≡ more (decimal s.modulus.p) (more (sizes_text s) (lines_then ts (pieces 10 foot)))
unfolding plan_text joined
text-then s ts foot =
    line-then (decimal s.modulus.p) (sizes_text s ++ 10 ∷ joined 10 (triple_lines ts)) foot (free-decimal 10 s.modulus.p (omega arith))
    ∙ ap (more (decimal s.modulus.p)) (line-then (sizes_text s) (joined 10 (triple_lines ts)) foot (free-sizes s) ∙ ap (more (sizes_text s)) (lines_then_lem ts foot))

-- ---- which of them is `0 0 0`

last-is : is_last_line last_line ≡ true
unfolding is_last_line triple_text joined signed_text decimal decimal_in
last-is = refl

-- a line that starts with a digit that is not `0`
above-not : (l : List ℕ) → 48 < get_or l 0 0 → is_last_line l ≡ false
unfolding is_last_line
above-not l h = rw (ne_eqb (get_or l 0 0) 48 (λ e. omega arith), and-false)

-- a line that ends in `M`
ending-not : (l : List ℕ) → is_last_line (l ++ (77 ∷ [])) ≡ false
unfolding is_last_line
ending-not l = go (eqb (length (l ++ (77 ∷ []))) 5) refl
  where
    byte : ℕ → ℕ
    byte i = get_or (l ++ (77 ∷ [])) i 0

    go : (t : Bool) → eqb (length (l ++ (77 ∷ []))) 5 ≡ t → (t && (eqb (byte 0) 48 && (eqb (byte 1) 32 && (eqb (byte 2) 48 && (eqb (byte 3) 32 && eqb (byte 4) 48))))) ≡ false
    go false e = refl
    go true e =
        let long : length l ≡ 4 = omega (arith, eqb-true (length (l ++ (77 ∷ []))) 5 e, length-append l (77 ∷ [])) in
        let other : eqb (byte 4) 48 ≡ false = ne_eqb (byte 4) 48 (λ q. omega (arith, get_or_at l 77 [] 0 4 long)) in
        rw other (simp and-false)

decimal-not : (n : ℕ) (r : List ℕ) → 0 < n → n < 10 ^ 10 → is_last_line (decimal n ++ r) ≡ false
unfolding decimal
decimal-not n r z h = above-not (decimal n ++ r) (head-append (decimal n) r (head_of 9 n z h))

sizes-not : (s : Sizes) → is_last_line (sizes_text s) ≡ false
unfolding sizes_text joined
sizes-not s =
    let rest : List ℕ = decimal s.m ++ (32 ∷ []) in
    let same : sizes_text s ≡ (decimal s.n ++ 32 ∷ rest) ++ (77 ∷ []) = simp append_assoc in
    ap is_last_line same ∙ ending-not (decimal s.n ++ 32 ∷ rest)

triple-not : (s : Sizes) (seen : List Entry) (t : StatedEntry) → s.n ≤ largest_size → Stands s seen t → is_last_line (triple_text t) ≡ false
unfolding triple_text joined
triple-not s seen t few h = let inside = within-bounds t.row s.n h.row_inside in decimal-not t.row _ inside.0 (omega arith)

-- ---- the place after it

end_on : (l : List ℕ) (t : Pieces) (r : List ℕ) → is_last_line l ≡ false → end_in t ≡ length r → end_in (more l t) ≡ length (l ++ 10 ∷ r)
unfolding end_in
end_on l t r other e = rw other (omega (arith, e, length-append l (10 ∷ r)))

end-here : (t : Pieces) → end_in (more last_line t) ≡ length (last_line ++ (10 ∷ []))
unfolding end_in
end-here t = rw last-is (omega (arith, length-append last_line (10 ∷ [])))

lines-on : (l : List ℕ) (t : Pieces) (k : ℕ) → is_last_line l ≡ false → lines_in t ≡ k → lines_in (more l t) ≡ k + 1
unfolding lines_in
lines-on l t k other e = rw other (omega (arith, e))

lines-here : (t : Pieces) → lines_in (more last_line t) ≡ 1
unfolding lines_in
lines-here t = rw last-is

module _ (s : Sizes) (few : s.n ≤ largest_size) (rest : Pieces) where
  triples-end : (ts : List StatedEntry) (seen : List Entry) → StandApart s seen ts → end_in (lines_then ts rest) ≡ length (joined 10 (triple_lines ts))
  unfolding triple_lines joined
  triples-end [] seen h = end-here rest
  triples-end (t ∷ ts) seen h = end_on (triple_text t) (lines_then ts rest) (joined 10 (triple_lines ts)) (triple-not s seen t few h.0) (triples-end ts _ h.1)

  triples-lines : (ts : List StatedEntry) (seen : List Entry) → StandApart s seen ts → lines_in (lines_then ts rest) ≡ length ts + 1
  triples-lines [] seen h = lines-here rest
  triples-lines (t ∷ ts) seen h = lines-on (triple_text t) (lines_then ts rest) (length ts + 1) (triple-not s seen t few h.0) (triples-lines ts _ h.1) ∙ omega arith

-- ---- of a text that states a plan, with something after it

module _ (room : ℕ) (s : Sizes) (ts : List StatedEntry) (foot : List ℕ) (h : Plan room s ts) (short : length (plan_text s ts ++ foot) ≤ largest_text) where
  modulus-not : is_last_line (decimal s.modulus.p) ≡ false
  modulus-not =
      let p = s.modulus.p in
      ap is_last_line (sym (append-nil (decimal p))) ∙ decimal-not p [] (omega (arith, modulus-two p h.modulus)) (omega (arith, modulus-fits p h.modulus))

  pub plan-cut : plan_end (plan_text s ts ++ foot) ≡ length (plan_text s ts)
  unfolding plan_end plan_text joined
  plan-cut =
      rw (le-ltb largest_text (length (plan_text s ts ++ foot)) short)
      (ap end_in (text-then s ts foot)
      ∙ end_on (decimal s.modulus.p) _ (sizes_text s ++ 10 ∷ joined 10 (triple_lines ts)) modulus-not
      (end_on (sizes_text s) _ (joined 10 (triple_lines ts)) (sizes-not s) (triples-end s h.rows (pieces 10 foot) ts [] h.apart)))

  pub foot-line : foot_line (plan_text s ts ++ foot) ≡ length ts + 4
  unfolding foot_line
  foot-line =
      let lines = lines-on (decimal s.modulus.p) _ (length ts + 1 + 1) modulus-not (lines-on (sizes_text s) _ (length ts + 1) (sizes-not s) (triples-lines s h.rows (pieces 10 foot) ts [] h.apart)) in
      rw (le-ltb largest_text (length (plan_text s ts ++ foot)) short) (omega (arith, ap lines_in (text-then s ts foot) ∙ lines))

  pub plan-part : plan_part (plan_text s ts ++ foot) ≡ plan_text s ts
  plan-part = take_at (plan_text s ts) foot _ (sym plan-cut)

  pub foot-part : foot_part (plan_text s ts ++ foot) ≡ foot
  foot-part = drop_at (plan_text s ts) foot _ (sym plan-cut)
