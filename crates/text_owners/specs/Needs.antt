-- What reading the owners starts from, and what it comes to.
--   FootReady text from m owners     the place of the line that follows the plan, and 2,048 bytes for the owners of m words, all zero
--   OwnersLineReady l m owners       the line l itself, and the same bytes
--   PutsOwner word v bytes r ..      what storing one owner v returns and leaves, where `bytes` says whether all before it are bytes: the same with v
--   StoredBytes b vs r owners        what the line of the numbers vs comes to, where b says whether each is a byte
--   LineOwns o r owners              what reading the line returns and leaves, where its numbers are o
--   Owns f r owners                  what reading all that follows the plan returns and leaves, where it is read as f
use Rattle.std.specs.Prelude.{ℕ, ◌+◌, ◌≤◌, ◌≡◌, Bool, true, false, ◌&&◌, List, leb, length, set}
use Rattle.std.specs.Prelude.{Option, Some, None, Result, Ok, Err}
use Rattle.lists.specs.Filled.{zeros, filled}
use Rattle.limits.specs.Limits.{largest_size, largest_text}
use Rattle.refusals.specs.Outcome.{Outcome}
use Rattle.refusals.specs.Outcome.{Passed, Refused}
use Rattle.text_lines.specs.declared.Place.{Place}
use Rattle.text_owners.specs.Owners.{all_bytes, OwnersRead, not_read, owned}
use Rattle.text_owners.specs.Call.{owners_length}
use Rattle.refusals.specs.declared.Fault.{Fault}
use Rattle.refusals.specs.declared.Fault.TheVariants.{Malformed, OwnerTooLarge}

pub record FootReady (text : List ℕ) (from : Place) (m : ℕ) (owners : List ℕ) : Type 0 where
  pub place : from.at ≤ length text
  pub numbered : from.line ≤ from.at + 1
  pub short : length text ≤ largest_text
  pub few : m ≤ largest_size
  pub cleared : owners ≡ zeros owners_length

pub record OwnersLineReady (l : List ℕ) (m : ℕ) (owners : List ℕ) : Type 0 where
  pub short : length l ≤ largest_text
  pub few : m ≤ largest_size
  pub cleared : owners ≡ zeros owners_length

pub record PutsOwner (word v : ℕ) (bytes r : Bool) (owners owners' : List ℕ) : Type 0 where
  pub bytes-are : r ≡ (leb v 255 && bytes)
  pub stored : leb v 255 ≡ true → owners' ≡ set owners word v

abbrev pub StoredBytes : Bool → List ℕ → Result (Unit {0}) Fault → List ℕ → Type 0
StoredBytes true vs r owners = (r ≡ Ok tt) × (owners ≡ filled owners_length vs)
StoredBytes false vs r owners = r ≡ Err OwnerTooLarge

abbrev pub LineOwns : Option (List ℕ) → Result (Unit {0}) Fault → List ℕ → Type 0
LineOwns None r owners = r ≡ Err Malformed
LineOwns (Some vs) r owners = StoredBytes (all_bytes vs) vs r owners

abbrev pub Owns : OwnersRead → Outcome → List ℕ → Type 0
Owns (not_read number detail) r owners = r ≡ Refused number detail
Owns (owned vs) r owners = (r ≡ Passed) × (owners ≡ filled owners_length vs)
