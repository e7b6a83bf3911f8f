-- The line of one column, from C and U in their lists.
--   closed-ready ..              the line of a column that is free
--   pivot-line, column-line      the line of a column, by its mark
use mathlib.Core.Path.{◌≡◌, sym, ap, subst, ◌∙◌}
use mathlib.Core.Bool.{Bool, true, false, cond}
use mathlib.Core.List.{List, [], ◌++◌}
use Prim.Native.Nat.{ℕ, ◌+◌, ◌≤◌}
use native.Mathlib.Omega.{arith}
use lib.ListN.{length, get_or, take, drop, length-append}
use lib.Seq.{length-take-le, take_at}
use Rattle.lists.specs.Filled.{zeros}
use Rattle.lists.specs.Tests.{among}
use Rattle.lists.proofs.Filled.{filled_none}
use Rattle.algebra.specs.Sum.{δ}
use Rattle.algebra.specs.Matrix.{vector}
use Rattle.sparse.specs.Words.{view}
use Rattle.sparse.specs.Matrix.{Compressed, compressed, viewed, matrix}
use Rattle.sparse.specs.Set.{Set}
use Rattle.sparse.proofs.WordLaws.{view-list}
use Rattle.row_space.specs.Substitution.{through_u}
use Rattle.row_space.specs.Kernel.{setting}
use Rattle.answer_question.specs.Needs.{ClosedReady}
use Rattle.answer_kernel.specs.Filling.{Marked}
use Rattle.answer_kernel.proofs.BlockLaws.{pivot-marked, free-unmarked}
use Rattle.limits.specs.Limits.{largest_size}
use Rattle.byte_buffer.specs.Fills.{Fills}
use Rattle.print_text.specs.Settings.{setting_line}
use Rattle.print_text.proofs.Room.{setting-room}
use Rattle.ask_settings.specs.declared.Begun.{Begun}
use Rattle.ask_settings.specs.Settings.{setting_line_at}
use Rattle.ask_settings.specs.Held.{held_upper}
use Rattle.ask_settings.specs.Needs.{FreeLineReady, ColumnLineReady}

-- ---- a column that is free

module _ (g : Begun) (C : List ℕ) (U : Compressed) (c : ℕ) (out : List ℕ) (d : FreeLineReady g C U c out) where
  abbrev m : ℕ
  m = g.columns

  abbrev s : Set
  s = held_upper g C U

  pub C-part : length (take m C) ≡ m
  C-part = length-take-le m C d.C-fits

  pub starts-part : length (take (g.rank + 1) U.starts) ≡ g.rank + 1
  starts-part = length-take-le (g.rank + 1) U.starts (omega (arith, d.U-starts))

  pub cols-part : length (take g.upper U.cols) ≡ g.upper
  cols-part = length-take-le g.upper U.cols d.U-columns

  pub vals-part : length (take g.upper U.vals) ≡ g.upper
  vals-part = length-take-le g.upper U.vals d.U-values

  -- the setting is filled into the first m cells of z
  module _ (z : List ℕ) (long : length z ≡ largest_size) where
    pub z-part : length (take m z) ≡ m
    z-part = length-take-le m z (omega (arith, d.few))

    pub closed-ready : ClosedReady g.p g.rank c s.U s.C (take m z)
    closed-ready =
        let k = d.ready in
        record {
          prime = k.prime;
          formed = rw z-part k.formed;
          rows = k.rows;
          order = k.order;
          places = rw z-part k.places;
          inside = rw z-part d.inside;
        }

    module _ (part : List ℕ) (same : length part ≡ length (take m z)) where
      z-cut : take m (part ++ drop m z) ≡ part
      z-cut = take_at part (drop m z) m (same ∙ z-part)

      pub z-again : length (take m (part ++ drop m z)) ≡ m
      z-again = ap length z-cut ∙ same ∙ z-part

      pub z-holds : m ≤ length (part ++ drop m z)
      z-holds = omega (arith, length-append part (drop m z), same, z-part)

      pub line-fits : length (setting_line (take m (part ++ drop m z))) ≤ length out
      line-fits = setting-room (take m (part ++ drop m z)) out (omega (arith, z-again, d.few)) d.room

      pub line-written : (size : ℕ) (b : List ℕ) → part ≡ through_u g.p (length (take m z)) g.rank (vector s.C) (matrix s.U) (δ c)
          → Fills out b size (setting_line (take m (part ++ drop m z))) → Fills out b size (setting_line (setting g.p m s c))
      unfolding setting
      line-written size b e f =
          subst (λ (zs : List ℕ). Fills out b size (setting_line zs)) (z-cut ∙ e ∙ ap (λ (k : ℕ). through_u g.p k g.rank (vector s.C) (matrix s.U) (δ c)) z-part) f

-- ---- a column, by its mark

module _ (p m : ℕ) (s : Set) (c : ℕ) where
  pub line-none : among c (take s.r s.C) ≡ true → [] ≡ setting_line_at p m s c
  unfolding setting_line_at
  line-none e = ap (λ (b : Bool). cond b [] (setting_line (setting p m s c))) (sym e)

  pub line-one : among c (take s.r s.C) ≡ false → setting_line (setting p m s c) ≡ setting_line_at p m s c
  unfolding setting_line_at
  line-one e = ap (λ (b : Bool). cond b [] (setting_line (setting p m s c))) (sym e)

module _ (g : Begun) (C : List ℕ) (U : Compressed) (w : List ℕ) (c : ℕ) (out : List ℕ) (d : ColumnLineReady g C U w c out) where
  pub free-ready : FreeLineReady g C U c out
  free-ready =
      let h = d.held in
      record {
        C-fits = h.C-fits;
        U-starts = omega (arith, h.U-starts);
        U-columns = h.U-columns;
        U-values = h.U-values;
        few = h.few;
        ready = h.ready (omega (arith, d.inside));
        inside = d.inside;
        room = d.room;
      }

  pub marked : Marked (take g.rank (take g.columns C)) w
  marked = d.held.marked (omega (arith, d.inside))

  pub pivot-line : ¬ (get_or w c 0 ≡ 0) → (b : List ℕ) → b ≡ zeros (length out) → Fills out b 0 (setting_line_at g.p g.columns (held_upper g C U) c)
  pivot-line n b e =
      subst (Fills out b 0)
      (line-none g.p g.columns (held_upper g C U) c (pivot-marked (take g.rank (take g.columns C)) w marked c (omega (arith, d.inside, d.held.wide)) n))
      (record { size_is = omega arith; buffer-is = e ∙ sym (filled_none (length out)) })

  pub column-line : get_or w c 0 ≡ 0 → (size : ℕ) (b : List ℕ) → Fills out b size (setting_line (setting g.p g.columns (held_upper g C U) c))
      → Fills out b size (setting_line_at g.p g.columns (held_upper g C U) c)
  column-line z size b f =
      subst (Fills out b size)
      (line-one g.p g.columns (held_upper g C U) c (free-unmarked (take g.rank (take g.columns C)) w marked c (omega (arith, d.inside, d.held.wide)) z)) f
