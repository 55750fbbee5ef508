-- One column of links, left or right: it splits at the root of a part, and when the root's link and the part on one side of it
-- are written, what is left to write is the part on the other side. Assumes nothing.
use mathlib.Core.List.{List, [], ◌∷◌, ◌++◌}
use mathlib.Core.Path.{◌≡◌, refl, sym, ap, ◌∙◌}
use Prim.Native.Nat.{ℕ, suc, ◌-◌, ◌<◌, ◌≤◌}
use native.Mathlib.Omega.{arith}
use lib.ListN.{length, get_or, set, length-set}
use Rattle.lists.specs.Lists.{overwrite}
use Rattle.lists.proofs.Overwrite.{overwrite_left_first, overwrite_right_first, overwrite_none, overwrite-length}
use Rattle.treap_links.proofs.Untouched.{SameIn, rest_after, rest_before}

-- With the part from a up to b still to be written, the column becomes the final one. `links` are the links of any part.
pub record Becomes (links : ℕ → ℕ → List ℕ) (lo hi : ℕ) (old column : List ℕ) (a b : ℕ) : Type 0 where
  pub same : length column ≡ length old
  pub rest : overwrite column a (links a b) ≡ overwrite old lo (links lo hi)

-- a part has as many links as indices
module _ (links : ℕ → ℕ → List ℕ) (size : (a b : ℕ) → length (links a b) ≡ b - a) where
  module _ (lo hi : ℕ) (old : List ℕ) where
    pub becomes_start : Becomes links lo hi old old lo hi
    becomes_start = record { same = refl; rest = refl }

    -- nothing left to write
    pub becomes_end : {column : List ℕ} {a b : ℕ} → Becomes links lo hi old column a b → b ≤ a → column ≡ overwrite old lo (links lo hi)
    becomes_end {column} {a} {b} state h = sym (overwrite_none column a) ∙ ap (overwrite column a) (sym (go (links a b) (let e = size a b in omega arith))) ∙ state.rest
      where
        go : (xs : List ℕ) → length xs ≡ 0 → xs ≡ []
        go [] e = refl
        go (x ∷ xs) e = absurd (omega arith)

    -- ---- a turn: the root's link, of index i, and one part are written
    module _ (column : List ℕ) (a i b link : ℕ) (state : Becomes links lo hi old column a b) (splits : links a b ≡ links a i ++ link ∷ links (suc i) b)
        (from : a ≤ i) (upto : i < b) (room : b ≤ length old) (next : List ℕ) where
      long : b ≤ length column
      long = let e = state.same in omega arith

      pub before_written : next ≡ overwrite (set column i link) a (links a i) → Becomes links lo hi old next (suc i) b × SameIn (suc i) b next column
      before_written e =
          let l = long in
          let n = size a i in
          let m = size (suc i) b in (
            record {
              same = ap length e ∙ overwrite-length (set column i link) a (links a i) (omega (arith, length-set column i link)) ∙ length-set column i link ∙ state.same;
              rest =
                  ap (λ (xs : List ℕ). overwrite xs (suc i) (links (suc i) b)) e
                  ∙ overwrite_left_first column (links a i) link (links (suc i) b) a i (omega arith) (omega arith) ∙ ap (overwrite column a) (sym splits) ∙ state.rest;
            },
            λ x h k. ap (λ (xs : List ℕ). get_or xs x 0) e ∙ rest_after column (links a i) i link a b (omega arith) (omega arith) x h k,
          )

      pub after_written : next ≡ overwrite (set column i link) (suc i) (links (suc i) b) → Becomes links lo hi old next a i × SameIn a i next column
      after_written e =
          let l = long in
          let n = size a i in
          let m = size (suc i) b in (
            record {
              same = ap length e ∙ overwrite-length (set column i link) (suc i) (links (suc i) b) (omega (arith, length-set column i link)) ∙ length-set column i link ∙ state.same;
              rest =
                  ap (λ (xs : List ℕ). overwrite xs a (links a i)) e
                  ∙ overwrite_right_first column (links a i) link (links (suc i) b) a i (omega arith) (omega arith) ∙ ap (overwrite column a) (sym splits) ∙ state.rest;
            },
            λ x h k. ap (λ (xs : List ℕ). get_or xs x 0) e ∙ rest_before column (links (suc i) b) i link a (omega arith) x h k,
          )
