-- From the stages that a text came to, to the first line and what the others are made from.
--   staged_ready    what the first line needs
--   begins          the first line is the text's, and with the lines of the columns it is what is printed for the text
use mathlib.Core.Path.{◌≡◌, refl, sym, ap, subst, ◌∙◌}
use mathlib.Core.List.{List, ◌++◌, append-nil}
use Prim.Native.Nat.{ℕ, ◌-◌, ◌≤◌, ◌<◌}
use native.Mathlib.Omega.{arith}
use lib.ListN.{length, take}
use lib.Seq.{length-take-le}
use Rattle.lists.specs.Filled.{zeros}
use Rattle.refusals.specs.Outcome.{Outcome}
use Rattle.refusals.specs.Outcome.{Passed, Refused}
use Rattle.sparse.specs.Matrix.{Compressed}
use Rattle.sparse.specs.Set.{Storage}
use Rattle.answer_kernel.specs.Filling.{Marked}
use Rattle.answer_kernel.specs.Needs.{MarksReady}
use Rattle.limits.specs.Limits.{largest_size, work_length, print_room}
use Rattle.byte_buffer.specs.Fills.{Fills}
use Rattle.print_text.specs.Settings.{free_line}
use Rattle.stages.specs.Stages.{reading, set_factored}
use Rattle.stages.specs.Lists.{Largest}
use Rattle.stages.specs.Staged.{held_set, Staged}
use Rattle.stages.specs.Meaning.{factors_of}
use Rattle.stages.specs.Results.{Stages}
use Rattle.ask_lib.specs.Held.{stages_refusal, staged_then}
use Rattle.ask_lib.proofs.Following.{refused-line, passed-line, work-length, text-line}
use Rattle.ask_settings.specs.declared.Begun.{Begun}
use Rattle.ask_settings.specs.Settings.{setting_line_at, setting_lines, settings_text, settings_read_of, settings_of, first_line_of}
use Rattle.ask_settings.specs.Held.{held_upper, KernelReady, SettingsHeld, begun_of, BegunFrom, BeginsSettings}
use Rattle.ask_settings.specs.Needs.{BeginStagedReady}
use Rattle.ask_settings.proofs.Lines.{line-upper, lines-upper}
use Rattle.ask_settings.proofs.Checking.{done, held-set, held-ready}

module _ (text : List ℕ) (s : Stages) (A : Compressed) (w₀ : List ℕ) (h : Storage) (staged : Staged text s A w₀ h) (C-length : length h.C ≡ largest_size) where
  abbrev p : ℕ
  p = s.reading.p

  abbrev m : ℕ
  m = s.reading.m

  abbrev r : ℕ
  r = s.factored.rank

  -- ---- what the first line needs

  module _ (passed : stages_refusal s ≡ Passed) where
    C-fits : m ≤ length h.C
    C-fits = (staged.factors (done text s A w₀ h staged passed)).fits.C-fits

    C-part : length (take m h.C) ≡ m
    C-part = length-take-le m h.C C-fits

    kernel : KernelReady p m (held_set s h)
    kernel = held-ready text s A w₀ h staged passed

    marks : length w₀ ≡ work_length → MarksReady r (take m h.C) h.work
    marks long =
        let wide = work-length text s A w₀ h staged in
        record {
          order = kernel.order;
          places = λ i g. let q = kernel.places i g in omega (arith, q, C-fits, C-length, wide, long);
          clear = staged.cleared ∙ ap zeros (sym wide);
        }

  pub staged_ready : (out : List ℕ) → print_room ≤ length out → length w₀ ≡ work_length → BeginStagedReady s h.C out h.work
  staged_ready out room long =
      record {
        countable = record { detail-small = λ read. (staged.factors read).detail-small };
        room = room;
        C-fits = C-fits;
        rank-small = λ q. omega (arith, (kernel q).order, C-part q);
        marks = λ q. marks q long;
      }

  -- ---- what is printed

  first-line : staged_then s (free_line (m - r)) ≡ first_line_of text
  unfolding first_line_of
  first-line =
      text-line text s A w₀ h staged (free_line (m - r)) (λ f. free_line ((reading text).result.m - f.rank))
      (λ read made t. free_line ((staged.reading-is t).m - (staged.factors read).rank_is t))

  all_lines : staged_then s (settings_text p m (held_set s h)) ≡ settings_of text
  unfolding settings_of settings_read_of
  all_lines =
      text-line text s A w₀ h staged (settings_text p m (held_set s h)) (λ f. settings_text (reading text).result.p (reading text).result.m (set_factored f))
      (λ read made t. settings_text (staged.reading-is t).p (staged.reading-is t).m ((staged.factors read).set_is made t))

  abbrev Whole : Begun → Type 0
  Whole g = settings_of text ≡ first_line_of text ++ setting_lines g.p g.columns (held_upper g h.C h.U) g.columns

  whole : (o : Outcome) → stages_refusal s ≡ o → (size : ℕ) → Whole (begun_of o s size)
  unfolding setting_lines settings_text
  whole Passed q size =
      sym all_lines
      ∙ sym (passed-line s (stages_refusal s) refl (settings_text p m (held_set s h)) q)
      ∙ (λ t. (passed-line s (stages_refusal s) refl (free_line (m - r)) q ∙ first-line) t ++ lines-upper p m (held_set s h) m t)
  whole (Refused k e) q size =
      sym all_lines
      ∙ sym (refused-line s (stages_refusal s) refl (settings_text p m (held_set s h)) k e q)
      ∙ refused-line s (stages_refusal s) refl (free_line (m - r)) k e q
      ∙ first-line
      ∙ sym (append-nil (first_line_of text))

  abbrev Columns : Begun → Type 0
  Columns g = (c : ℕ) → c < g.columns
      → setting_line_at g.p g.columns (held_upper g h.C h.U) c ≡ setting_line_at (reading text).result.p (reading text).result.m (factors_of (reading text)) c

  columns : (o : Outcome) → stages_refusal s ≡ o → (size : ℕ) → Columns (begun_of o s size)
  columns Passed q size c inside =
      sym (line-upper p m (held_set s h) c) ∙ (λ t. setting_line_at (staged.reading-is t).p (staged.reading-is t).m (held-set text s A w₀ h staged q t) c)
  columns (Refused k e) q size c inside = absurd (omega arith)

  -- ---- what the lines of the columns are made from

  module _ (U-lists : Largest h.U) (w : List ℕ) (wide : length w ≡ work_length) where
    held : (o : Outcome) → stages_refusal s ≡ o → (size : ℕ) → (stages_refusal s ≡ Passed → Marked (take r (take m h.C)) w) → SettingsHeld (begun_of o s size) h.C h.U w
    held Passed q size marked =
        let f = (staged.factors (done text s A w₀ h staged q)).fits in
        let k = kernel q in
        record {
          C-fits = f.C-fits;
          U-starts = f.U-starts;
          U-columns = f.U-columns;
          U-values = f.U-values;
          few = omega (arith, f.C-fits, C-length);
          wide = omega (arith, f.C-fits, C-length, wide);
          ready = λ some. record { prime = k.prime; formed = k.formed; rows = k.rows; order = k.order; places = k.places };
          marked = λ some. marked q;
        }
    held (Refused k e) q size marked =
        record {
          C-fits = omega arith;
          U-starts = omega (arith, U-lists.starts-length);
          U-columns = omega arith;
          U-values = omega arith;
          few = omega arith;
          wide = omega arith;
          ready = λ some. absurd (omega arith);
          marked = λ some. absurd (omega arith);
        }

    pub begins : (g : Begun) (b₀ b : List ℕ) → BegunFrom s g h.C b₀ b w → BeginsSettings text g h.C h.U w b₀ b
    begins g b₀ b f =
        record {
          first = subst (Fills b₀ b g.size) first-line f.line;
          whole = subst Whole (sym f.begun-is) (whole (stages_refusal s) refl g.size);
          lines_are = subst Columns (sym f.begun-is) (columns (stages_refusal s) refl g.size);
          held = subst (λ (k : Begun). SettingsHeld k h.C h.U w) (sym f.begun-is) (held (stages_refusal s) refl g.size f.marked);
        }
