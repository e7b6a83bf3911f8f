-- `plq_time_words` meets its contract. Assumes nothing.
use Rattle.bench_calls.proofs.Written.{too_short, too_many, written}
use Rattle.bench_calls.proofs.plq_time_words.Goals as goal

pub returns-then-out-lt-PRINT_ROOM : goal.returns-then-out-lt-PRINT_ROOM
returns-then-out-lt-PRINT_ROOM c = too_short _ _ _ _ c.if-out-lt-PRINT_ROOM.true c.clear_bytes.ensures

pub returns-then-h-gt-START_CELLS : goal.returns-then-h-gt-START_CELLS
returns-then-h-gt-START_CELLS c = too_many _ _ _ _ c.if-out-lt-PRINT_ROOM.false c.if-h-gt-START_CELLS.true c.clear_bytes-then-h-gt-START_CELLS.ensures

pub returns : goal.returns
returns c =
    written _ _ _ _ c.if-out-lt-PRINT_ROOM.false c.if-h-gt-START_CELLS.false _ _ _
    c.words.ensures
