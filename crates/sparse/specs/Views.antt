-- Lent lists in contracts: what a list, a stored matrix or a set is when a call begins and when it ends.
--   LentList                                    a list of numbers behind a `&mut`, at entry and at exit, as an `ensures` knows it
--   before x, after x                           what is behind it when the call begins, and when it ends
--   stored_at s c v                             the stored matrix (document 01's plan, L or U) in three lists as they are handed
--   stored_before, stored_after                 the same when the call begins, and when it ends
--   view_at, view_before                        the list meant by a pair of a list and bytes
--   viewed_at, viewed_before                    the stored matrix in three such pairs
--   set_at, set_before                          the set of factors in eight lists, with its rank
--   viewed_set_at, viewed_set_before            the set in eight such pairs
--   vector_before, matrix_before                a pair as a vector, and three pairs as a matrix
--   storage_at, storage_before, storage_after   the lists that factoring fills
--   set_in f                                    the set of factors that a value of the type `Factors` holds
-- A contract passes these what is behind each list: x.now of a `&`, x.old and x.new of a `&mut`.
use Rattle.std.specs.Prelude.{ℕ, List}
use denote.MutBor.{MutBor}
use denote.Triple.Both.{Both}
use Rattle.sparse.specs.Words.{view}
use Rattle.algebra.specs.Matrix.{Vector, Matrix, vector}
use Rattle.sparse.specs.Matrix.{Compressed, compressed, matrix}
use Rattle.sparse.specs.Set.{Set, set_of, Storage, storage_of}
use Rattle.sparse.specs.declared.set.Factors.{Factors}

abbrev pub LentList : Type 0
LentList = Both (MutBor (List ℕ)) (MutBor (List ℕ))

abbrev pub before : {X Y : Type 0} → Both (MutBor X) Y → X
before x = x.entry.now

abbrev pub after : {X Y : Type 0} → Both Y (MutBor X) → X
after x = x.exit.now

abbrev pub stored_at : List ℕ → List ℕ → List ℕ → Compressed
stored_at s c v = compressed s c v

abbrev pub stored_before : List ℕ → List ℕ → List ℕ → Compressed
stored_before s c v = compressed s c v

abbrev pub stored_after : List ℕ → List ℕ → List ℕ → Compressed
stored_after s c v = compressed s c v

abbrev pub view_at : List ℕ → List ℕ → List ℕ
view_at l b = view l b

abbrev pub view_before : List ℕ → List ℕ → List ℕ
view_before l b = view l b

abbrev pub viewed_at : List ℕ → List ℕ → List ℕ → List ℕ → List ℕ → List ℕ → Compressed
viewed_at s sb c cb v vb = compressed (view_at s sb) (view_at c cb) (view_at v vb)

abbrev pub viewed_before : List ℕ → List ℕ → List ℕ → List ℕ → List ℕ → List ℕ → Compressed
viewed_before s sb c cb v vb = compressed (view_before s sb) (view_before c cb) (view_before v vb)

abbrev pub set_at : ℕ → (ro co ls lc lv us uc uv : List ℕ) → Set
set_at r ro co ls lc lv us uc uv = set_of r ro co (stored_at ls lc lv) (stored_at us uc uv)

abbrev pub set_before : ℕ → (ro co ls lc lv us uc uv : List ℕ) → Set
set_before r ro co ls lc lv us uc uv = set_of r ro co (stored_before ls lc lv) (stored_before us uc uv)

abbrev pub viewed_set_at : ℕ → (ro rob co cob ls lsb lc lcb lv lvb us usb uc ucb uv uvb : List ℕ) → Set
viewed_set_at r ro rob co cob ls lsb lc lcb lv lvb us usb uc ucb uv uvb =
    set_of r (view_at ro rob) (view_at co cob) (viewed_at ls lsb lc lcb lv lvb) (viewed_at us usb uc ucb uv uvb)

abbrev pub viewed_set_before : ℕ → (ro rob co cob ls lsb lc lcb lv lvb us usb uc ucb uv uvb : List ℕ) → Set
viewed_set_before r ro rob co cob ls lsb lc lcb lv lvb us usb uc ucb uv uvb =
    set_of r (view_before ro rob) (view_before co cob) (viewed_before ls lsb lc lcb lv lvb) (viewed_before us usb uc ucb uv uvb)

abbrev pub vector_before : List ℕ → List ℕ → Vector
vector_before l b = vector (view_before l b)

abbrev pub matrix_before : List ℕ → List ℕ → List ℕ → List ℕ → List ℕ → List ℕ → Matrix
matrix_before s sb c cb v vb = matrix (viewed_before s sb c cb v vb)

abbrev pub storage_at : (ro co ls lc lv us uc uv work : List ℕ) → Storage
storage_at ro co ls lc lv us uc uv work = storage_of ro co (stored_at ls lc lv) (stored_at us uc uv) work

abbrev pub storage_before : (ro co ls lc lv us uc uv work : List ℕ) → Storage
storage_before ro co ls lc lv us uc uv work = storage_of ro co (stored_before ls lc lv) (stored_before us uc uv) work

abbrev pub storage_after : (ro co ls lc lv us uc uv work : List ℕ) → Storage
storage_after ro co ls lc lv us uc uv work = storage_of ro co (stored_after ls lc lv) (stored_after us uc uv) work

abbrev pub set_in : Factors → Set
set_in f = set_of f.r f.ro f.co f.l f.u
