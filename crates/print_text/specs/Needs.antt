-- What the lines of a report need: columns within document 01's limit of 2,048 words, so that their numbers are 32-bit, an owner
-- for each of them, and room.
--   LineFits j text out at         the line `text` of one column, from a place on
--   LinesFit owners cells out at   the lines of all columns, from a place on
--   TotalsFit cells out at         the line of the totals, from a place on
--   Printable s owners cells out   a whole report
use Rattle.std.specs.Prelude.{ℕ, ◌+◌, ◌≤◌, ◌<◌, ◌≡◌, List, length}
use Rattle.limits.specs.Limits.{largest_size}
use Rattle.print_text.specs.declared.lines.Summary.{Summary}
use Rattle.print_text.specs.Lines.{open_lines, totals_line}
use Rattle.print_text.specs.Report.{report_text}

pub record LineFits (j : ℕ) (text out : List ℕ) (at : ℕ) : Type 0 where
  pub column : j < largest_size
  pub room : at + length text ≤ length out

pub record LinesFit (owners cells out : List ℕ) (at : ℕ) : Type 0 where
  pub columns : length cells ≤ largest_size
  pub owned : length owners ≡ length cells
  pub room : at + length (open_lines 0 owners cells) ≤ length out

pub record TotalsFit (cells out : List ℕ) (at : ℕ) : Type 0 where
  pub columns : length cells ≤ largest_size
  pub room : at + length (totals_line cells) ≤ length out

pub record Printable (s : Summary) (owners cells out : List ℕ) : Type 0 where
  pub columns : length cells ≤ largest_size
  pub owned : length owners ≡ length cells
  pub room : length (report_text s owners cells) ≤ length out
