-- A sparse row that is read and copied in its stored form, without the working row.
--   LookupReady cols vals         what looking a column up needs: the columns rise below some width, as many as values
--   CopyReady p c at ..           what copying a sparse row times c to place `at` of two lists needs: they have room for it
--   Copied p c at rc rv ..        its columns, and its values times c modulo p, stand at place `at`; `next` is the place after them
use Rattle.std.specs.Prelude.{ℕ, ◌+◌, ◌≤◌, ◌<◌, ◌≡◌, true, List, length}
use Rattle.std.proofs.lemmas.List.Edits.{sets}
use Rattle.sparse.specs.Form.{rises_from}
use Rattle.sparse.specs.Row.{Below}
use Rattle.sparse.specs.Dense.{scaled}

pub record LookupReady (cols vals : List ℕ) : Type 0 where
  pub width : ℕ
  pub rising : rises_from width 0 cols ≡ true
  pub paired : length cols ≡ length vals

pub record CopyReady (p c at : ℕ) (rc rv cols vals : List ℕ) : Type 0 where
  pub residue : c < p
  pub below : Below p rv
  pub paired : length rc ≡ length rv
  pub fits : at + length rc ≤ length cols
  pub lists : length cols ≡ length vals

pub record Copied (p c at : ℕ) (rc rv cols₀ vals₀ cols vals : List ℕ) (next : ℕ) : Type 0 where
  pub place : next ≡ at + length rc
  pub columns : cols ≡ sets cols₀ at rc
  pub values : vals ≡ sets vals₀ at (scaled p c rv)
