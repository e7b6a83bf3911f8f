-- How many settings there are (document 02, slip 8: even odds). A setting is document 01's word: a list of m residues, one for each word.
--   Count P k                            the lists with P are k: they can be numbered 0 to k - 1, none twice and none left out
--   SettingFor p n m A h s               s is a setting that gives the slots h: m residues, and A s = h
--   SettingForValue p n m A h y v s      and gives the question y the value v: y s = v
--   settings_for p m r                    how many settings give h, if any does
--   settings_per_value p m r               how many of them give a closed question one and the same value, whichever
use Rattle.std.specs.Prelude.{◌≡◌, List, ℕ, ◌-◌, ◌^◌, ◌<◌, length}
use Rattle.algebra.specs.Congruence.{◌≈⟨◌⟩◌}
use Rattle.algebra.specs.Sum.{dot}
use Rattle.algebra.specs.Matrix.{Vector, Matrix, vector}
use Rattle.algebra.specs.ColumnSpace.{GivesSlots}

pub record Count (P : List ℕ → Type 0) (k : ℕ) : Type 0 where
  pub nth : ℕ → List ℕ
  pub each : (a : ℕ) → a < k → P (nth a)
  pub apart : (a b : ℕ) → a < k → b < k → nth a ≡ nth b → a ≡ b
  pub all : (s : List ℕ) → P s → (a : ℕ) × (a < k) × (nth a ≡ s)

pub record SettingFor (p n m : ℕ) (A : Matrix) (h : Vector) (s : List ℕ) : Type 0 where
  pub long : length s ≡ m
  pub residues : (j : ℕ) → j < m → vector s j < p
  pub gives : GivesSlots p n m A h (vector s)

pub record SettingForValue (p n m : ℕ) (A : Matrix) (h y : Vector) (v : ℕ) (s : List ℕ) : Type 0 where
  pub setting : SettingFor p n m A h s
  pub value : dot m y (vector s) ≈⟨ p ⟩ v

unfoldable pub settings_for : (p m r : ℕ) → ℕ
settings_for p m r = p ^ (m - r)

unfoldable pub settings_per_value : (p m r : ℕ) → ℕ
settings_per_value p m r = p ^ (m - r - 1)
