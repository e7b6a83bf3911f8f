-- What printing the lines of the columns starts from.
--   LinesReady g C U w out    what the first line left in lists, and a buffer that holds any line
use Rattle.std.specs.Prelude.{ℕ, ◌≤◌, List, length}
use Rattle.sparse.specs.Matrix.{Compressed}
use Rattle.limits.specs.Limits.{print_room}
use Rattle.ask_settings.specs.Held.{SettingsHeld}
use Rattle.ask_settings.specs.declared.Begun.{Begun}

pub record LinesReady (g : Begun) (C : List ℕ) (U : Compressed) (w out : List ℕ) : Type 0 where
  pub held : SettingsHeld g C U w
  pub room : print_room ≤ length out
