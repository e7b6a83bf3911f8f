-- Calls with questions that add up (document 02, slip 14): y, y' and a y + b y', asked of one plan and of one set or certificate.
--   Called                     a call with a question, as its caller sees it: what was lent, what was returned, and what was left
--   AnswersTo g c              the contract of such a call (`Answers`), where g makes what is given from the lengths of the lent lists
--   LentFits n m c             the lent lists have their lengths: n cells for x, m for z, and work_length for the working row
--   Returns c v xs zs          it returned v, and left xs in x and zs in z
--   SumRight p n m a b c c' d  what the calls c and c' with y and y' say of the call d with a y + b y', modulo p:
--     answered                 where neither is refused, d is not refused
--     open-sum                 both open: d is open, with a x + b x', modulo p, and z is all zero
--     closed-sum               y open and y' closed, b not 0 modulo p: d is closed, x is all zero, and z is that of y'
--     closed-sum-left          y closed and y' open, a not 0 modulo p: d is closed, x is all zero, and z is that of y
--   SumClosed n c c' d         one open, the other closed: the call d with y + y' is closed with the z of the closed one, whichever comes first
use Rattle.std.specs.Prelude.{ℕ, ◌≡◌, List, length}
use Rattle.lists.specs.Filled.{zeros}
use Rattle.algebra.specs.Congruence.{◌≈⟨◌⟩◌}
use Rattle.algebra.specs.Mixed.{mixed_list}
use Rattle.limits.specs.Limits.{work_length}
use Rattle.call_answer.specs.Calls.{answer_number, Given, Answers}
use Rattle.call_answer.specs.Answer.{Answer}

pub record Called : Type 0 where
  pub x₀ : List ℕ
  pub z₀ : List ℕ
  pub w₀ : List ℕ
  pub answer : Answer
  pub x : List ℕ
  pub z : List ℕ
  pub w : List ℕ

abbrev pub AnswersTo : (ℕ → ℕ → ℕ → Given) → Called → Type 0
AnswersTo g c = Answers (g (length c.x₀) (length c.z₀) (length c.w₀)) c.answer c.x₀ c.x c.z₀ c.z c.w₀ c.w

pub record LentFits (n m : ℕ) (c : Called) : Type 0 where
  pub rows : length c.x₀ ≡ n
  pub columns : length c.z₀ ≡ m
  pub work : length c.w₀ ≡ work_length

pub record Returns (c : Called) (v : Answer) (xs zs : List ℕ) : Type 0 where
  pub answer : c.answer ≡ v
  pub x-is : c.x ≡ xs
  pub z-is : c.z ≡ zs

pub record SumRight (p n m a b : ℕ) (c c' d : Called) : Type 0 where
  pub answered : answer_number c.answer ≡ 0 → answer_number c'.answer ≡ 0 → answer_number d.answer ≡ 0
  pub open-sum : c.answer ≡ Answer.Open → c'.answer ≡ Answer.Open → Returns d Answer.Open (mixed_list n p a b c.x c'.x) (zeros m)
  pub closed-sum : c.answer ≡ Answer.Open → c'.answer ≡ Answer.Closed → ¬ (b ≈⟨ p ⟩ 0) → Returns d Answer.Closed (zeros n) c'.z
  pub closed-sum-left : c.answer ≡ Answer.Closed → c'.answer ≡ Answer.Open → ¬ (a ≈⟨ p ⟩ 0) → Returns d Answer.Closed (zeros n) c.z

pub record SumClosed (n : ℕ) (c c' d : Called) : Type 0 where
  pub second-closed : c.answer ≡ Answer.Open → c'.answer ≡ Answer.Closed → Returns d Answer.Closed (zeros n) c'.z
  pub first-closed : c.answer ≡ Answer.Closed → c'.answer ≡ Answer.Open → Returns d Answer.Closed (zeros n) c.z
