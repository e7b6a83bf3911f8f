-- The engine's own set: what factoring returned with 0, in the lengths that the check takes.
--   rows_in k h        the lists of k rows, cut to their lengths
--   own_set n m r h    n cells of R and m of C; L with n + 1 starts and U with r + 1; columns and values as many as the last start says
use Rattle.std.specs.Prelude.{ℕ, ◌+◌, get_or, take}
use Rattle.sparse.specs.Matrix.{Compressed, compressed}
use Rattle.sparse.specs.Set.{Set, set_of, Storage}

abbrev pub rows_in : ℕ → Compressed → Compressed
rows_in k h = compressed (take (k + 1) h.starts) (take (get_or h.starts k 0) h.cols) (take (get_or h.starts k 0) h.vals)

abbrev pub own_set : (n m r : ℕ) → Storage → Set
own_set n m r h = set_of r (take n h.R) (take m h.C) (rows_in n h.L) (rows_in r h.U)
