-- A matrix stored by compressed rows: the plan, L and U alike.
--   row_of starts k xs      the part of the list xs that belongs to row k
--   Compressed             row starts, columns and values: what a value of the type `Compressed` is in a contract
--   compressed, viewed     the same from three lists, and from three pairs of a list and bytes
--   matrix h               the matrix that the lists hold; an entry that is not stored is 0
--   form p width h         the lists are well formed
use Rattle.std.specs.Prelude.{ℕ, ◌+◌, Bool, List, get_or}
use Rattle.std.proofs.Math.Seq.{slice}
use Rattle.algebra.specs.Matrix.{Matrix}
use Rattle.sparse.specs.Words.{view}
use Rattle.sparse.specs.Form.{well_formed}
use Rattle.sparse.specs.Row.{entry}
use Rattle.sparse.specs.declared.stored

abbrev pub row_of : List ℕ → ℕ → List ℕ → List ℕ
row_of starts k xs = slice (get_or starts k 0) (get_or starts (k + 1) 0) xs

abbrev pub Compressed : Type 0
Compressed = stored.Compressed.Compressed

abbrev pub compressed : List ℕ → List ℕ → List ℕ → Compressed
compressed starts cols vals = record { starts = starts; cols = cols; vals = vals }

abbrev pub viewed : List ℕ → List ℕ → List ℕ → List ℕ → List ℕ → List ℕ → Compressed
viewed ss sb cols cb vals vb = compressed (view ss sb) (view cols cb) (view vals vb)

abbrev pub matrix : Compressed → Matrix
matrix h i j = entry (row_of h.starts i h.cols) (row_of h.starts i h.vals) j

abbrev pub form : ℕ → ℕ → Compressed → Bool
form p width h = well_formed p width h.starts h.cols h.vals
