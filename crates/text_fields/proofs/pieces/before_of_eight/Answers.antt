-- `before_of_eight` meets its contract: each byte that is not the separator is one more that is passed. Assumes nothing.
use native.Mathlib.Omega.{arith}
use Rattle.text_fields.proofs.Eights.{Past, past_first, past_more, eight-first, eight-at, eight-none}
use Rattle.text_fields.proofs.pieces.before_of_eight.Goals as goal

pub returns-then-text-j : goal.returns-then-text-j
returns-then-text-j c = eight-first _ _ _ (omega arith) c.if-text-j.true

pub returns-then-text-j-2 : goal.returns-then-text-j-2
returns-then-text-j-2 c =
    let none_1 : Past c.args.separator c.args.text.now c.args.j 1 = past_first _ _ _ (omega arith) c.if-text-j.false in
    eight-at _ _ _ 1 (omega arith) none_1 (omega arith) c.if-text-j-2.true

pub returns-then-text-j-3 : goal.returns-then-text-j-3
returns-then-text-j-3 c =
    let none_1 : Past c.args.separator c.args.text.now c.args.j 1 = past_first _ _ _ (omega arith) c.if-text-j.false in
    let none_2 : Past c.args.separator c.args.text.now c.args.j 2 = past_more _ _ _ 1 none_1 (omega arith) c.if-text-j-2.false in
    eight-at _ _ _ 2 (omega arith) none_2 (omega arith) c.if-text-j-3.true

pub returns-then-text-j-4 : goal.returns-then-text-j-4
returns-then-text-j-4 c =
    let none_1 : Past c.args.separator c.args.text.now c.args.j 1 = past_first _ _ _ (omega arith) c.if-text-j.false in
    let none_2 : Past c.args.separator c.args.text.now c.args.j 2 = past_more _ _ _ 1 none_1 (omega arith) c.if-text-j-2.false in
    let none_3 : Past c.args.separator c.args.text.now c.args.j 3 = past_more _ _ _ 2 none_2 (omega arith) c.if-text-j-3.false in
    eight-at _ _ _ 3 (omega arith) none_3 (omega arith) c.if-text-j-4.true

pub returns-then-text-j-5 : goal.returns-then-text-j-5
returns-then-text-j-5 c =
    let none_1 : Past c.args.separator c.args.text.now c.args.j 1 = past_first _ _ _ (omega arith) c.if-text-j.false in
    let none_2 : Past c.args.separator c.args.text.now c.args.j 2 = past_more _ _ _ 1 none_1 (omega arith) c.if-text-j-2.false in
    let none_3 : Past c.args.separator c.args.text.now c.args.j 3 = past_more _ _ _ 2 none_2 (omega arith) c.if-text-j-3.false in
    let none_4 : Past c.args.separator c.args.text.now c.args.j 4 = past_more _ _ _ 3 none_3 (omega arith) c.if-text-j-4.false in
    eight-at _ _ _ 4 (omega arith) none_4 (omega arith) c.if-text-j-5.true

pub returns-then-text-j-6 : goal.returns-then-text-j-6
returns-then-text-j-6 c =
    let none_1 : Past c.args.separator c.args.text.now c.args.j 1 = past_first _ _ _ (omega arith) c.if-text-j.false in
    let none_2 : Past c.args.separator c.args.text.now c.args.j 2 = past_more _ _ _ 1 none_1 (omega arith) c.if-text-j-2.false in
    let none_3 : Past c.args.separator c.args.text.now c.args.j 3 = past_more _ _ _ 2 none_2 (omega arith) c.if-text-j-3.false in
    let none_4 : Past c.args.separator c.args.text.now c.args.j 4 = past_more _ _ _ 3 none_3 (omega arith) c.if-text-j-4.false in
    let none_5 : Past c.args.separator c.args.text.now c.args.j 5 = past_more _ _ _ 4 none_4 (omega arith) c.if-text-j-5.false in
    eight-at _ _ _ 5 (omega arith) none_5 (omega arith) c.if-text-j-6.true

pub returns-then-text-j-7 : goal.returns-then-text-j-7
returns-then-text-j-7 c =
    let none_1 : Past c.args.separator c.args.text.now c.args.j 1 = past_first _ _ _ (omega arith) c.if-text-j.false in
    let none_2 : Past c.args.separator c.args.text.now c.args.j 2 = past_more _ _ _ 1 none_1 (omega arith) c.if-text-j-2.false in
    let none_3 : Past c.args.separator c.args.text.now c.args.j 3 = past_more _ _ _ 2 none_2 (omega arith) c.if-text-j-3.false in
    let none_4 : Past c.args.separator c.args.text.now c.args.j 4 = past_more _ _ _ 3 none_3 (omega arith) c.if-text-j-4.false in
    let none_5 : Past c.args.separator c.args.text.now c.args.j 5 = past_more _ _ _ 4 none_4 (omega arith) c.if-text-j-5.false in
    let none_6 : Past c.args.separator c.args.text.now c.args.j 6 = past_more _ _ _ 5 none_5 (omega arith) c.if-text-j-6.false in
    eight-at _ _ _ 6 (omega arith) none_6 (omega arith) c.if-text-j-7.true

pub returns-then-text-j-8 : goal.returns-then-text-j-8
returns-then-text-j-8 c =
    let none_1 : Past c.args.separator c.args.text.now c.args.j 1 = past_first _ _ _ (omega arith) c.if-text-j.false in
    let none_2 : Past c.args.separator c.args.text.now c.args.j 2 = past_more _ _ _ 1 none_1 (omega arith) c.if-text-j-2.false in
    let none_3 : Past c.args.separator c.args.text.now c.args.j 3 = past_more _ _ _ 2 none_2 (omega arith) c.if-text-j-3.false in
    let none_4 : Past c.args.separator c.args.text.now c.args.j 4 = past_more _ _ _ 3 none_3 (omega arith) c.if-text-j-4.false in
    let none_5 : Past c.args.separator c.args.text.now c.args.j 5 = past_more _ _ _ 4 none_4 (omega arith) c.if-text-j-5.false in
    let none_6 : Past c.args.separator c.args.text.now c.args.j 6 = past_more _ _ _ 5 none_5 (omega arith) c.if-text-j-6.false in
    let none_7 : Past c.args.separator c.args.text.now c.args.j 7 = past_more _ _ _ 6 none_6 (omega arith) c.if-text-j-7.false in
    eight-at _ _ _ 7 (omega arith) none_7 (omega arith) c.if-text-j-8.true

pub returns : goal.returns
returns c =
    let none_1 : Past c.args.separator c.args.text.now c.args.j 1 = past_first _ _ _ (omega arith) c.if-text-j.false in
    let none_2 : Past c.args.separator c.args.text.now c.args.j 2 = past_more _ _ _ 1 none_1 (omega arith) c.if-text-j-2.false in
    let none_3 : Past c.args.separator c.args.text.now c.args.j 3 = past_more _ _ _ 2 none_2 (omega arith) c.if-text-j-3.false in
    let none_4 : Past c.args.separator c.args.text.now c.args.j 4 = past_more _ _ _ 3 none_3 (omega arith) c.if-text-j-4.false in
    let none_5 : Past c.args.separator c.args.text.now c.args.j 5 = past_more _ _ _ 4 none_4 (omega arith) c.if-text-j-5.false in
    let none_6 : Past c.args.separator c.args.text.now c.args.j 6 = past_more _ _ _ 5 none_5 (omega arith) c.if-text-j-6.false in
    let none_7 : Past c.args.separator c.args.text.now c.args.j 7 = past_more _ _ _ 6 none_6 (omega arith) c.if-text-j-7.false in
    let none_8 : Past c.args.separator c.args.text.now c.args.j 8 = past_more _ _ _ 7 none_7 (omega arith) c.if-text-j-8.false in
    eight-none _ _ _ none_8
