-- The treap of a set of keys, over any priority function `p`. A set of keys is the list of its keys, rising.
-- Assumes nothing.
use Rattle.std.specs.Prelude.{Bool, cond, ◌||◌, ◌&&◌, List, [], ◌∷◌, ◌++◌, ℕ, zero, suc, eqb, ltb, length}
use Rattle.lists.specs.Lists.{keep, every, first}

-- A binary tree of keys.
pub data Tree : Type 0 where
  leaf : Tree
  node : Tree → ℕ → Tree → Tree

-- The keys of a tree in order: those of the left subtree, the root's, those of the right subtree.
abbrev pub keys : Tree → List ℕ
keys leaf = []
keys (node l k r) = keys l ++ k ∷ keys r

-- The key at the root; zero, no key, where there is none.
abbrev pub root_key : Tree → ℕ
root_key leaf = 0
root_key (node l k r) = k

-- The subtrees left and right of the root; none where there is no root.
abbrev pub left_of : Tree → Tree
left_of leaf = leaf
left_of (node l k r) = l

abbrev pub right_of : Tree → Tree
right_of leaf = leaf
right_of (node l k r) = r

-- The subtree of `v`, found from the root down by comparing keys; none where `v` is not in the tree.
abbrev pub subtree : ℕ → Tree → Tree
subtree v leaf = leaf
subtree v (node l k r) =
    let in_left = subtree v l in
    let in_right = subtree v r in
    cond (eqb v k) (node l k r) (cond (ltb v k) in_left in_right)

-- The keys that a search for `v` compares on its way down from the root: up to `v`, or to where `v` would hang.
-- Of a key of the tree these are its ancestors, itself the last.
abbrev pub path : ℕ → Tree → List ℕ
path v leaf = []
path v (node l k r) =
    let in_left = path v l in
    let in_right = path v r in
    k ∷ cond (eqb v k) [] (cond (ltb v k) in_left in_right)

module _ (p : ℕ → ℕ) where
  -- "Key a outranks b when P(a) > P(b), or when these are equal and a < b."
  unfoldable pub outranks : ℕ → ℕ → Bool
  outranks a b = ltb (p b) (p a) || (eqb (p a) (p b) && ltb a b)

  -- `k` outranks the rest of `ks`.
  unfoldable pub outranks_rest : List ℕ → ℕ → Bool
  outranks_rest ks k = every (λ x. eqb x k || outranks k x) ks

  -- "The root is the key that outranks the rest"; zero where there is no key.
  unfoldable pub top : List ℕ → ℕ
  top ks = first 0 (outranks_rest ks) ks

  -- "The root is the key that outranks the rest; the lesser keys and the greater keys, as parts of the rising list,
  -- form its left and right subtrees by the same rule." The rule is applied at most `depth` keys deep.
  abbrev pub treap_to : ℕ → List ℕ → Tree
  treap_to zero ks = leaf
  treap_to (suc depth) [] = leaf
  treap_to (suc depth) (k ∷ ks) =
      let root = top (k ∷ ks) in
      node (treap_to depth (keep (λ x. ltb x root) (k ∷ ks))) root (treap_to depth (keep (λ x. ltb root x) (k ∷ ks)))

  -- No branch is deeper than there are keys.
  unfoldable pub treap : List ℕ → Tree
  treap ks = treap_to (length ks) ks

  -- A key's links, "Links are keys": the roots of the subtrees left and right of it; zero where there is none.
  unfoldable pub left_link : List ℕ → ℕ → ℕ
  left_link ks v = root_key (left_of (subtree v (treap ks)))

  unfoldable pub right_link : List ℕ → ℕ → ℕ
  right_link ks v = root_key (right_of (subtree v (treap ks)))
