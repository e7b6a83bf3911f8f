-- `spaces_of` meets its contract: each piece that is cut off ends before the line does. Assumes nothing.
use Prim.Native.Nat.{◌+◌, ◌≤◌}
use native.Mathlib.Omega.{arith}
use lib.ListN.{length}
use Rattle.text_judge.proofs.Cutting.{no-space, first-inside, one-space, second-inside, third-end, more-spaces, two-spaces}
use Rattle.text_judge.proofs.header.spaces_of.Goals as goal

pub returns-then-first-line : goal.returns-then-first-line
returns-then-first-line c = record { fields = no-space _ _ c.piece-a.ensures c.if-first-line.true; inside = tt }

pub piece-b-requires : goal.piece-b-requires
piece-b-requires c =
    let first : length c.piece-a.result.now + 1 ≤ length c.args.line.now = first-inside _ _ c.piece-a.ensures c.if-first-line.false in
    first

pub returns-then-second-line : goal.returns-then-second-line
returns-then-second-line c =
    let first : length c.piece-a.result.now + 1 ≤ length c.args.line.now = first-inside _ _ c.piece-a.ensures c.if-first-line.false in
    record { fields = one-space _ _ c.piece-a.ensures _ (first) c.piece-b.ensures c.if-second-line.true; inside = tt }

pub overflow_add-second-3 : goal.overflow_add-second-3
overflow_add-second-3 c =
    let first : length c.piece-a.result.now + 1 ≤ length c.args.line.now = first-inside _ _ c.piece-a.ensures c.if-first-line.false in
    let second : length c.piece-a.result.now + 1 + length c.piece-b.result.now + 1 ≤ length c.args.line.now = second-inside _ _ c.piece-a.ensures _ (first) c.piece-b.ensures c.if-second-line.false in
    omega (arith, second, c.well_formed)

pub piece-c-requires : goal.piece-c-requires
piece-c-requires c =
    let first : length c.piece-a.result.now + 1 ≤ length c.args.line.now = first-inside _ _ c.piece-a.ensures c.if-first-line.false in
    let second : length c.piece-a.result.now + 1 + length c.piece-b.result.now + 1 ≤ length c.args.line.now = second-inside _ _ c.piece-a.ensures _ (first) c.piece-b.ensures c.if-second-line.false in
    second

pub overflow_add-second-4 : goal.overflow_add-second-4
overflow_add-second-4 c =
    let first : length c.piece-a.result.now + 1 ≤ length c.args.line.now = first-inside _ _ c.piece-a.ensures c.if-first-line.false in
    let second : length c.piece-a.result.now + 1 + length c.piece-b.result.now + 1 ≤ length c.args.line.now = second-inside _ _ c.piece-a.ensures _ (first) c.piece-b.ensures c.if-second-line.false in
    omega (arith, second, c.well_formed)

pub overflow_add-second-5 : goal.overflow_add-second-5
overflow_add-second-5 c =
    let first : length c.piece-a.result.now + 1 ≤ length c.args.line.now = first-inside _ _ c.piece-a.ensures c.if-first-line.false in
    let second : length c.piece-a.result.now + 1 + length c.piece-b.result.now + 1 ≤ length c.args.line.now = second-inside _ _ c.piece-a.ensures _ (first) c.piece-b.ensures c.if-second-line.false in
    let third : length c.piece-a.result.now + 1 + length c.piece-b.result.now + 1 + length c.piece-c.result.now ≤ length c.args.line.now = third-end _ _ c.piece-a.ensures _ (first) c.piece-b.ensures _ (second) c.piece-c.ensures in
    omega (arith, third, c.well_formed)

pub returns-then-second-c : goal.returns-then-second-c
returns-then-second-c c =
    let first : length c.piece-a.result.now + 1 ≤ length c.args.line.now = first-inside _ _ c.piece-a.ensures c.if-first-line.false in
    let second : length c.piece-a.result.now + 1 + length c.piece-b.result.now + 1 ≤ length c.args.line.now = second-inside _ _ c.piece-a.ensures _ (first) c.piece-b.ensures c.if-second-line.false in
    record {
      fields = more-spaces _ _ c.piece-a.ensures _ (first) c.piece-b.ensures _ (second) c.piece-c.ensures c.if-second-c.true;
      inside = tt;
    }

pub returns : goal.returns
returns c =
    let first : length c.piece-a.result.now + 1 ≤ length c.args.line.now = first-inside _ _ c.piece-a.ensures c.if-first-line.false in
    let second : length c.piece-a.result.now + 1 + length c.piece-b.result.now + 1 ≤ length c.args.line.now = second-inside _ _ c.piece-a.ensures _ (first) c.piece-b.ensures c.if-second-line.false in
    record {
      fields = two-spaces _ _ c.piece-a.ensures _ (first) c.piece-b.ensures _ (second) c.piece-c.ensures c.if-second-c.false;
      inside = (omega arith, omega (arith, second));
    }
