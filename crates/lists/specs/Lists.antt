-- Plain definitions on lists and numbers that the specifications of every layer share. Tests are Bools, so that they compute.
-- Assumes nothing.
use Rattle.std.specs.Prelude.{Bool, true, false, cond, ◌||◌, ◌&&◌, not, List, [], ◌∷◌, ◌++◌, ℕ, zero, suc, ◌+◌, ◌-◌, ◌/◌, ◌<◌, eqb, ltb, leb, length, take, drop}

module _ {A : Type 0} where
  -- `x` in front of `xs` where the test passed, else `xs` alone.
  abbrev pub cons_if : Bool → A → List A → List A
  cons_if true x xs = x ∷ xs
  cons_if false x xs = xs

  -- The elements of a list that pass the test, in their order.
  abbrev pub keep : (A → Bool) → List A → List A
  keep f [] = []
  keep f (x ∷ xs) = cons_if (f x) x (keep f xs)

  -- Every element passes the test.
  abbrev pub every : (A → Bool) → List A → Bool
  every f [] = true
  every f (x ∷ xs) = f x && every f xs

  -- Some element passes the test.
  abbrev pub some : (A → Bool) → List A → Bool
  some f [] = false
  some f (x ∷ xs) = f x || some f xs

  -- Every element has the property, as a pair of proofs for each.
  abbrev pub All : (A → Type 0) → List A → Type 0
  All P [] = Unit {0}
  All P (x ∷ xs) = P x × All P xs

  -- Every element stands in the relation to all that come after it.
  abbrev pub Pairwise : (A → A → Type 0) → List A → Type 0
  Pairwise R [] = Unit {0}
  Pairwise R (x ∷ xs) = All (R x) xs × Pairwise R xs

  -- `x` before the first element that it goes before, at the end where it goes before none.
  abbrev pub insert_by : (A → A → Bool) → A → List A → List A
  insert_by before x [] = x ∷ []
  insert_by before x (y ∷ ys) = cond (before x y) (x ∷ y ∷ ys) (y ∷ insert_by before x ys)

  -- The list in the order `before`: one element after the other put in its place.
  abbrev pub sort_by : (A → A → Bool) → List A → List A
  sort_by before [] = []
  sort_by before (x ∷ xs) = insert_by before x (sort_by before xs)

  -- `x` in front of the first run where it is like that run's first, else as a run by itself.
  abbrev pub join_run : (A → A → Bool) → A → List (List A) → List (List A)
  join_run alike x [] = (x ∷ []) ∷ []
  join_run alike x ([] ∷ more) = (x ∷ []) ∷ more
  join_run alike x ((y ∷ run) ∷ more) = cond (alike x y) ((x ∷ y ∷ run) ∷ more) ((x ∷ []) ∷ (y ∷ run) ∷ more)

  -- The list in its maximal runs of neighbours that are alike.
  abbrev pub runs : (A → A → Bool) → List A → List (List A)
  runs alike [] = []
  runs alike (x ∷ xs) = join_run alike x (runs alike xs)

  -- The list with the elements from index `at` on replaced by those of `new`.
  unfoldable pub overwrite : List A → ℕ → List A → List A
  overwrite old at new = take at old ++ (new ++ drop (at + length new) old)

-- The number is not zero.
abbrev pub nonzero : ℕ → Bool
nonzero n = not (eqb n 0)

-- "from low to high, both included"
unfoldable pub lies : ℕ → ℕ → ℕ → Bool
lies low high n = leb low n && leb n high

-- `a` over `b`, rounded up, for a `b` that is not zero.
unfoldable pub rounded_up : ℕ → ℕ → ℕ
rounded_up a b = (a + (b - 1)) / b

-- `x` is one of the numbers of the list.
abbrev pub member : ℕ → List ℕ → Bool
member x [] = false
member x (y ∷ ys) = eqb x y || member x ys

-- The two lists are equal.
abbrev pub same : List ℕ → List ℕ → Bool
same [] [] = true
same [] (y ∷ ys) = false
same (x ∷ xs) [] = false
same (x ∷ xs) (y ∷ ys) = eqb x y && same xs ys

-- The different numbers of a list, each once.
abbrev pub distinct : List ℕ → List ℕ
distinct [] = []
distinct (x ∷ xs) = cons_if (not (member x xs)) x (distinct xs)

-- The first number that passes the test; `none` where none does.
abbrev pub first : ℕ → (ℕ → Bool) → List ℕ → ℕ
first none f [] = none
first none f (x ∷ xs) = cond (f x) x (first none f xs)

-- The last number of the list; zero where it has none.
abbrev pub last : List ℕ → ℕ
last [] = 0
last (x ∷ []) = x
last (x ∷ y ∷ ys) = last (y ∷ ys)

-- The largest number up to `bound` that passes the test; zero where none above it does.
abbrev pub largest : (ℕ → Bool) → ℕ → ℕ
largest f zero = 0
largest f (suc bound) =
    let below = largest f bound in
    cond (f (suc bound)) (suc bound) below

-- `from`, `from + 1`, .., as many numbers as `many`.
abbrev pub up_from : ℕ → ℕ → List ℕ
up_from start zero = []
up_from start (suc many) = start ∷ up_from (suc start) many

-- `n`, `n − 1`, .., 1.
abbrev pub falling_from : ℕ → List ℕ
falling_from zero = []
falling_from (suc n) = suc n ∷ falling_from n

-- The list rises strictly: each number is below all that come after it.
abbrev pub Rising : List ℕ → Type 0
Rising xs = Pairwise ◌<◌ xs

-- Each number is less than the next.
abbrev pub rises_b : List ℕ → Bool
rises_b [] = true
rises_b (x ∷ []) = true
rises_b (x ∷ y ∷ ys) = ltb x y && rises_b (y ∷ ys)
