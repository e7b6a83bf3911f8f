-- The limits of document 01, each named once.
--   largest_size       n and m are at most 2,048
--   largest_entries    a plan has at most 16,384 entries
--   largest_text       a plan text has at most 65,536 bytes
--   starts_length      reading is lent 2,049 starts: one for each row and one more
--   work_length        a working row has 2,048 cells
--   print_room         a buffer of 65,536 bytes holds whatever is printed
use Rattle.std.specs.Prelude.{ℕ}

abbrev pub largest_size : ℕ
largest_size = 2048

abbrev pub largest_entries : ℕ
largest_entries = 16384

abbrev pub largest_text : ℕ
largest_text = 65536

abbrev pub starts_length : ℕ
starts_length = 2049

abbrev pub work_length : ℕ
work_length = 2048

abbrev pub print_room : ℕ
print_room = 65536
