-- `answer_text` meets its contract: with no certificate from the engine's own factors, else from the certificate.
use native.Mathlib.Omega.{arith}
use Rattle.std.proofs.Common.{sym}
use borrow.Author.Tests.{eqb-true, eqb-false}
use Rattle.answer_lib.proofs.Answered.{without-bytes}
use Rattle.answer_lib.proofs.answer_text.Goals as goal

pub answer_certified-requires : goal.answer_certified-requires
answer_certified-requires c = let some = eqb-false _ 0 (sym c.if-is_empty.ensures) in record { bytes = omega (arith, some); work-length = c.requires }

pub returns-then-is_empty : goal.returns-then-is_empty
returns-then-is_empty c = without-bytes _ _ _ _ _ _ _ _ _ _ (eqb-true _ 0 (sym c.if-is_empty.ensures)) c.answer_own.ensures
