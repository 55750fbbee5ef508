-- Where a key stands, or would stand, in a rising list, and a list with an element more or less at an index. Assumes nothing.
use Rattle.std.specs.Prelude.{List, ◌∷◌, ◌++◌, ℕ, suc, ltb, length, take, drop}
use Rattle.lists.specs.Lists.{keep}

-- The index of a key in a rising list: how many keys are below it.
unfoldable pub index_of : ℕ → List ℕ → ℕ
index_of key keys = length (keep (λ k. ltb k key) keys)

module _ {A : Type 0} where
  -- The list with an element more at an index, or without the one there.
  unfoldable pub put_at : ℕ → A → List A → List A
  put_at at x xs = take at xs ++ x ∷ drop at xs

  unfoldable pub remove_at : ℕ → List A → List A
  remove_at at xs = take at xs ++ drop (suc at) xs
