-- The rows of a well-formed matrix start and end within its lists.
use Rattle.std.proofs.Common.{ℕ, ◌+◌, ◌<◌, ◌≡◌, true, length, arith}
use Rattle.sparse.specs.Matrix.{Compressed, form}
use Rattle.sparse.specs.Part.{HasRow}
use Rattle.sparse.proofs.Rows.{form-starts, form-paired}

pub has-row : (p width k : ℕ) (h : Compressed) → form p width h ≡ true → k + 1 < length h.starts → HasRow k h
has-row p width k h f i =
    let b = form-starts p width h.starts h.cols h.vals f k i in
    let e = form-paired p width h.starts h.cols h.vals f in
    record { inside = i; ordered = b.0; columns = b.1; values = omega (arith, b.1, e) }
