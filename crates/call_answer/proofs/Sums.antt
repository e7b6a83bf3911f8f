-- Questions that add up (document 02, slip 14), as the calls answer them: what two calls returned and left, and what the call with a y + b y' then returns and
-- leaves. All three ask one plan, and one set or one certificate, whoever made it: x depends on the set's pivot rows.
--   stored-sum, bytes-sum                  `SumRight`, for all a and b
--   stored-sum-closed, bytes-sum-closed    `SumClosed`, where a and b are 1: the slip's sum
use mathlib.Core.Path.{◌≡◌, sym, ap, ap₂, ◌∙◌}
use mathlib.Core.List.{List}
use Prim.Native.Nat.{ℕ}
use native.Mathlib.Omega.{arith}
use lib.ListN.{length}
use Rattle.lists.specs.Filled.{zeros}
use Rattle.algebra.specs.Congruence.{◌≈⟨◌⟩◌}
use Rattle.algebra.specs.Matrix.{vector}
use Rattle.algebra.specs.Mixed.{mixed_list}
use Rattle.algebra.proofs.Inverse.{one_not_zero}
use Rattle.algebra.proofs.Mixed.{mixed-length, mixed-small}
use Rattle.sparse.specs.Matrix.{Compressed}
use Rattle.sparse.specs.Set.{Set}
use Rattle.row_space.specs.Solve.{Solved, solve}
use Rattle.row_space.proofs.Theorems.{closed-answer}
use Rattle.row_space.proofs.Sums as sums
use Rattle.certificate.specs.Reading.{set_of_certificate}
use Rattle.call_answer.specs.Calls.{answer_number, answer_of, Given, answer_factors_of, answer_certificate_of}
use Rattle.call_answer.specs.Meaning.{Askable}
use Rattle.call_answer.specs.Sums.{Called, AnswersTo, LentFits, Returns, SumRight, SumClosed}
use Rattle.call_answer.specs.Answer.{Answer}
use Rattle.call_answer.proofs.Theorems.{SolvedFrom, stored-answered, stored-solved, bytes-answered, bytes-solved}

-- ---- the calls of one kind, with one plan and one set: g y is what is given for the question y

record Kind (p n m : ℕ) (A : Compressed) (s : Set) (g : List ℕ → ℕ → ℕ → ℕ → Given) : Type 0 where
  -- a call that is not refused gives what `solve` gives
  solved : (y : List ℕ) (c : Called) → AnswersTo (g y) c → answer_number c.answer ≡ 0 → SolvedFrom p n m A s y c.answer c.x c.z
  -- and then no call with m residues is refused
  again : (y y' : List ℕ) (c d : Called) → AnswersTo (g y) c → answer_number c.answer ≡ 0
      → AnswersTo (g y') d → LentFits n m d → Askable p n m y' (length d.x₀) (length d.z₀) → answer_number d.answer ≡ 0

stored : (p n m : ℕ) (A : Compressed) (s : Set) → Kind p n m A s (answer_factors_of p n m A s)
stored p n m A s =
    record {
      solved = λ y c. stored-solved p n m A s y c.answer c.x₀ c.x c.z₀ c.z c.w₀ c.w;
      again = λ y y' c d call done call' fits ask.
          let h = ((stored-answered p n m A s y c.answer c.x₀ c.x c.z₀ c.z c.w₀ c.w call).0 done).0 in
          (stored-answered p n m A s y' d.answer d.x₀ d.x d.z₀ d.z d.w₀ d.w call').1
          (record { plan = h.plan; sized = h.sized; work = fits.work; passes = h.passes }, ask);
    }

bytes : (p n m : ℕ) (A : Compressed) (cert : List ℕ) → Kind p n m A (set_of_certificate n m cert) (answer_certificate_of p n m A cert)
bytes p n m A cert =
    record {
      solved = λ y c. bytes-solved p n m A cert y c.answer c.x₀ c.x c.z₀ c.z c.w₀ c.w;
      again = λ y y' c d call done call' fits ask.
          let h = ((bytes-answered p n m A cert y c.answer c.x₀ c.x c.z₀ c.z c.w₀ c.w call).0 done).0 in
          (bytes-answered p n m A cert y' d.answer d.x₀ d.x d.z₀ d.z d.w₀ d.w call').1
          (record { plan = h.plan; work = fits.work; layout = h.layout; passes = h.passes }, ask);
    }

-- ---- the sum, for calls of either kind

-- the call d with a question that is answered as the closed question v is
answered-as : {p n m : ℕ} {A : Compressed} {s : Set} (q v : List ℕ) (d c : Called)
    → SolvedFrom p n m A s q d.answer d.x d.z → SolvedFrom p n m A s v c.answer c.x c.z
    → c.answer ≡ Answer.Closed → solve p n m s (vector q) ≡ solve p n m s (vector v) → Returns d Answer.Closed (zeros n) c.z
answered-as {p} {n} {m} {A} {s} q v d c k h e same =
    let none = (closed-answer h.prime n m A s h.sized.row-order h.sized.column-order h.judged v h.residues (h.closed e)).2 in
    record {
      answer = k.answer ∙ ap (λ (t : Solved). answer_of t.verdict) same ∙ sym h.answer ∙ e;
      x-is = k.x-is ∙ ap (λ (t : Solved). t.x) same ∙ none;
      z-is = k.z-is ∙ ap (λ (t : Solved). t.z) same ∙ sym h.z-is;
    }

module _ {p n m : ℕ} {A : Compressed} {s : Set} {g : List ℕ → ℕ → ℕ → ℕ → Given} (kind : Kind p n m A s g) (a b : ℕ) (y y' : List ℕ) (c c' d : Called)
    (call : AnswersTo (g y) c) (call' : AnswersTo (g y') c') (sum : AnswersTo (g (mixed_list m p a b y y')) d) (fits : LentFits n m d) where
  abbrev q : List ℕ
  q = mixed_list m p a b y y'

  answered : answer_number c.answer ≡ 0 → answer_number d.answer ≡ 0
  answered done =
      let h = kind.solved y c call done in
      kind.again y q c d call done sum fits
      (record {
        values = mixed-length m p a b y y';
        rows = fits.rows;
        columns = fits.columns;
        residues = λ j k. mixed-small m p a b y y' (omega (arith, h.prime.two)) j (omega (arith, mixed-length m p a b y y'));
      })

  module _ (done : answer_number c.answer ≡ 0) (done' : answer_number c'.answer ≡ 0) where
    h : SolvedFrom p n m A s y c.answer c.x c.z
    h = kind.solved y c call done

    h' : SolvedFrom p n m A s y' c'.answer c'.x c'.z
    h' = kind.solved y' c' call' done'

    k : SolvedFrom p n m A s q d.answer d.x d.z
    k = kind.solved q d sum (answered done)

    opens : c.answer ≡ Answer.Open → c'.answer ≡ Answer.Open → Returns d Answer.Open (mixed_list n p a b c.x c'.x) (zeros m)
    opens e e' =
        let whole =
        sums.open-sum h.prime n m A s h.sized.row-order h.sized.column-order h.judged y y' h.residues h'.residues a b
        (h.opened e) (h'.opened e')
        in
        record {
          answer = k.answer ∙ ap (λ (t : Solved). answer_of t.verdict) whole;
          x-is = k.x-is ∙ ap (λ (t : Solved). t.x) whole ∙ ap₂ (mixed_list n p a b) (sym h.x-is) (sym h'.x-is);
          z-is = k.z-is ∙ ap (λ (t : Solved). t.z) whole;
        }

    closes : c.answer ≡ Answer.Open → c'.answer ≡ Answer.Closed → ¬ (b ≈⟨ p ⟩ 0) → Returns d Answer.Closed (zeros n) c'.z
    closes e e' other =
        answered-as q y' d c' k h' e'
        (sums.closed-sum h.prime n m A s h.sized.row-order h.sized.column-order h.judged y y' h.residues h'.residues a b
        (h.opened e) (h'.closed e') other)

    closes-left : c.answer ≡ Answer.Closed → c'.answer ≡ Answer.Open → ¬ (a ≈⟨ p ⟩ 0) → Returns d Answer.Closed (zeros n) c.z
    closes-left e e' other =
        answered-as q y d c k h e
        (sums.closed-sum-left h.prime n m A s h.sized.row-order h.sized.column-order h.judged y y' h.residues h'.residues a b
        (h.closed e) (h'.opened e') other)

  sum-right : SumRight p n m a b c c' d
  sum-right =
      record {
        answered = λ done done'. answered done;
        open-sum = λ e e'. opens (ap answer_number e) (ap answer_number e') e e';
        closed-sum = λ e e'. closes (ap answer_number e) (ap answer_number e') e e';
        closed-sum-left = λ e e'. closes-left (ap answer_number e) (ap answer_number e') e e';
      }

sum-closed : {p n m : ℕ} {A : Compressed} {s : Set} {g : List ℕ → ℕ → ℕ → ℕ → Given} → Kind p n m A s g → (y y' : List ℕ) (c c' d : Called)
    → AnswersTo (g y) c → AnswersTo (g y') c' → AnswersTo (g (mixed_list m p 1 1 y y')) d → LentFits n m d → SumClosed n c c' d
sum-closed kind y y' c c' d call call' sum fits =
    let right = sum-right kind 1 1 y y' c c' d call call' sum fits in
    record {
      second-closed = λ e e'. right.closed-sum e e' (one_not_zero (kind.solved y c call (ap answer_number e)).prime);
      first-closed = λ e e'. right.closed-sum-left e e' (one_not_zero (kind.solved y c call (ap answer_number e)).prime);
    }

-- ---- from stored factors

pub stored-sum : (p n m : ℕ) (A : Compressed) (s : Set) (a b : ℕ) (y y' : List ℕ) (c c' d : Called)
    → AnswersTo (answer_factors_of p n m A s y) c → AnswersTo (answer_factors_of p n m A s y') c'
    → AnswersTo (answer_factors_of p n m A s (mixed_list m p a b y y')) d → LentFits n m d → SumRight p n m a b c c' d
stored-sum p n m A s = sum-right (stored p n m A s)

pub stored-sum-closed : (p n m : ℕ) (A : Compressed) (s : Set) (y y' : List ℕ) (c c' d : Called)
    → AnswersTo (answer_factors_of p n m A s y) c → AnswersTo (answer_factors_of p n m A s y') c'
    → AnswersTo (answer_factors_of p n m A s (mixed_list m p 1 1 y y')) d → LentFits n m d → SumClosed n c c' d
stored-sum-closed p n m A s = sum-closed (stored p n m A s)

-- ---- from a certificate

pub bytes-sum : (p n m : ℕ) (A : Compressed) (cert : List ℕ) (a b : ℕ) (y y' : List ℕ) (c c' d : Called)
    → AnswersTo (answer_certificate_of p n m A cert y) c → AnswersTo (answer_certificate_of p n m A cert y') c'
    → AnswersTo (answer_certificate_of p n m A cert (mixed_list m p a b y y')) d → LentFits n m d → SumRight p n m a b c c' d
bytes-sum p n m A cert = sum-right (bytes p n m A cert)

pub bytes-sum-closed : (p n m : ℕ) (A : Compressed) (cert : List ℕ) (y y' : List ℕ) (c c' d : Called)
    → AnswersTo (answer_certificate_of p n m A cert y) c → AnswersTo (answer_certificate_of p n m A cert y') c'
    → AnswersTo (answer_certificate_of p n m A cert (mixed_list m p 1 1 y y')) d → LentFits n m d → SumClosed n c c' d
bytes-sum-closed p n m A cert = sum-closed (bytes p n m A cert)
