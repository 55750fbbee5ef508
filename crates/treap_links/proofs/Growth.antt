-- The links of a part of the positions: those of the part before its root, the root's own, those of the part after. A turn of
-- `grow` keeps what the column is to become. Assumes nothing.
use mathlib.Core.List.{List, ◌∷◌, ◌++◌, map}
use mathlib.Core.Path.{◌≡◌, refl, sym, ap, ap₂, ◌∙◌, subst}
use Prim.Native.Nat.{ℕ, zero, suc, ◌-◌, ◌<◌, ◌≤◌}
use native.Mathlib.Omega.{arith}
use lib.ListN.{length, set, drop, length-map}
use Rattle.lists.specs.Lists.{overwrite, up_from, Rising}
use Rattle.treap.specs.Treap.{Tree, root_key, left_of, right_of, top, treap, left_link, right_link}
use Rattle.treap.specs.Treap.Tree.{node}
use Rattle.treap_structure.proofs.Columns.{flat, left_column_lem, right_column_lem}
use Rattle.treap_structure.proofs.Split.{Tops, top_tops, treap_split, root_is_top}
use Rattle.treap_columns.specs.Positions.{positions, weight_at}
use Rattle.treap_columns.specs.Columns.{left_column, right_column}
use Rattle.treap_links.specs.Links.{between, left_links, right_links}
use Rattle.treap_links.specs.Nearest.{Nearest}
use Rattle.treap_links.proofs.Segments.{between_length, between_rising, between_split, top_between}
use Rattle.treap_links.proofs.Untouched.{overwrite_again, nearest_kept}
use Rattle.treap_links.proofs.OneColumn.{Becomes, becomes_end, before_written, after_written}

module _ (ws : List ℕ) where
  -- the treap of a part at the position of its root
  part_split : (a i b : ℕ) → a ≤ i → i < b → suc i ≡ top (weight_at ws) (between a b)
      → treap (weight_at ws) (between a b) ≡ node (treap (weight_at ws) (between a i)) (suc i) (treap (weight_at ws) (between (suc i) b))
  part_split a i b h k e =
      let q = weight_at ws in
      let s = between_split a i b h k in
      ap (treap q) s
      ∙ treap_split q (between a i) (suc i) (between (suc i) b) (subst Rising s (between_rising a b))
      (subst (Tops q (suc i)) s (subst (λ (m : ℕ). Tops q m (between a b)) (sym e) (top_tops q (between a b))))

  -- a column that lists f of each subtree of a part, at the root
  column_split : (links : ℕ → ℕ → List ℕ) (f : Tree → ℕ) → ((a b : ℕ) → links a b ≡ flat f (treap (weight_at ws) (between a b)))
      → (a i b : ℕ) → a ≤ i → i < b → suc i ≡ top (weight_at ws) (between a b)
      → links a b ≡ links a i ++ f (node (treap (weight_at ws) (between a i)) (suc i) (treap (weight_at ws) (between (suc i) b))) ∷ links (suc i) b
  column_split links f lists a i b h k e =
      let link = f (node (treap (weight_at ws) (between a i)) (suc i) (treap (weight_at ws) (between (suc i) b))) in
      lists a b ∙ ap (flat f) (part_split a i b h k e) ∙ ap₂ (λ (xs ys : List ℕ). xs ++ link ∷ ys) (sym (lists a i)) (sym (lists (suc i) b))

  left_split : (a i b : ℕ) → a ≤ i → i < b → suc i ≡ top (weight_at ws) (between a b)
      → left_links ws a b ≡ left_links ws a i ++ top (weight_at ws) (between a i) ∷ left_links ws (suc i) b
  unfolding left_links
  left_split a i b h k e =
      column_split (left_links ws) (λ s. root_key (left_of s)) (λ c d. left_column_lem (weight_at ws) (between c d) (between_rising c d)) a i b h k e
      ∙ ap (λ (m : ℕ). left_links ws a i ++ m ∷ left_links ws (suc i) b) (root_is_top (weight_at ws) (between a i) (between_rising a i))

  right_split : (a i b : ℕ) → a ≤ i → i < b → suc i ≡ top (weight_at ws) (between a b)
      → right_links ws a b ≡ right_links ws a i ++ top (weight_at ws) (between (suc i) b) ∷ right_links ws (suc i) b
  unfolding right_links
  right_split a i b h k e =
      column_split (right_links ws) (λ s. root_key (right_of s)) (λ c d. right_column_lem (weight_at ws) (between c d) (between_rising c d)) a i b h k e
      ∙ ap (λ (m : ℕ). right_links ws a i ++ m ∷ right_links ws (suc i) b) (root_is_top (weight_at ws) (between (suc i) b) (between_rising (suc i) b))

  left_length : (a b : ℕ) → length (left_links ws a b) ≡ b - a
  unfolding left_links
  left_length a b = length-map (between a b) (left_link (weight_at ws) (between a b)) ∙ between_length a b

  right_length : (a b : ℕ) → length (right_links ws a b) ≡ b - a
  unfolding right_links
  right_length a b = length-map (between a b) (right_link (weight_at ws) (between a b)) ∙ between_length a b

  -- ---- the loop's invariant: with the part from a up to b still to be written, the columns become the final ones
  pub record Grown (lo hi : ℕ) (left₀ right₀ left right : List ℕ) (a b at : ℕ) : Type 0 where
    pub from : lo ≤ a
    pub upto : b ≤ hi
    pub part : a ≤ b
    pub root : at ≡ top (weight_at ws) (between a b)
    pub lefts : Becomes (left_links ws) lo hi left₀ left a b
    pub rights : Becomes (right_links ws) lo hi right₀ right a b
    pub near : Nearest ws (length ws) a b left right

  module _ (lo hi : ℕ) (left₀ right₀ : List ℕ) where
    -- the root of a part that is not empty
    pub root_index : {left right : List ℕ} {a b at : ℕ} → Grown lo hi left₀ right₀ left right a b at → a < b → (a < at) × (at ≤ b)
    root_index {a = a} {b = b} g h =
        let t = top_between (weight_at ws) a b h in
        let e = g.root in
        omega arith

    pub grown_end : {left right : List ℕ} {a b at : ℕ} → Grown lo hi left₀ right₀ left right a b at → b ≤ a
        → (left ≡ overwrite left₀ lo (left_links ws lo hi)) × (right ≡ overwrite right₀ lo (right_links ws lo hi))
    grown_end g h = (becomes_end (left_links ws) left_length lo hi left₀ g.lefts h, becomes_end (right_links ws) right_length lo hi right₀ g.rights h)

    -- ---- a turn, at the root's index: the links are the tops of the parts, and one part is done
    module _ (left right : List ℕ) (a b i : ℕ) (g : Grown lo hi left₀ right₀ left right a b (suc i)) (some : a < b) (hl : hi ≤ length left₀) (hr : hi ≤ length right₀)
        (left' right' : List ℕ) where
      inside : (a ≤ i) × (i < b)
      inside = let t = root_index g some in omega arith

      grown_left : left' ≡ overwrite (set left i (top (weight_at ws) (between a i))) a (left_links ws a i)
          → right' ≡ overwrite (set right i (top (weight_at ws) (between (suc i) b))) a (right_links ws a i) → Grown lo hi left₀ right₀ left' right' (suc i) b (top (weight_at ws) (between (suc i) b))
      grown_left e f =
          let q = inside in
          let u = g.upto in
          let w = g.from in
          let l = before_written (left_links ws) left_length lo hi left₀ left a i b (top (weight_at ws) (between a i)) g.lefts (left_split a i b q.0 q.1 g.root) q.0 q.1 (omega arith) left' e in
          let r = before_written (right_links ws) right_length lo hi right₀ right a i b (top (weight_at ws) (between (suc i) b)) g.rights (right_split a i b q.0 q.1 g.root) q.0 q.1 (omega arith) right' f in
          record {
            from = omega arith;
            upto = u;
            part = q.1;
            root = refl;
            lefts = l.0;
            rights = r.0;
            near = nearest_kept ws (length ws) a b left right g.near (suc i) b (omega arith) (omega arith) left' right' l.1 r.1;
          }

      grown_right : left' ≡ overwrite (set left i (top (weight_at ws) (between a i))) (suc i) (left_links ws (suc i) b)
          → right' ≡ overwrite (set right i (top (weight_at ws) (between (suc i) b))) (suc i) (right_links ws (suc i) b) → Grown lo hi left₀ right₀ left' right' a i (top (weight_at ws) (between a i))
      grown_right e f =
          let q = inside in
          let u = g.upto in
          let l = after_written (left_links ws) left_length lo hi left₀ left a i b (top (weight_at ws) (between a i)) g.lefts (left_split a i b q.0 q.1 g.root) q.0 q.1 (omega arith) left' e in
          let r = after_written (right_links ws) right_length lo hi right₀ right a i b (top (weight_at ws) (between (suc i) b)) g.rights (right_split a i b q.0 q.1 g.root) q.0 q.1 (omega arith) right' f in
          record {
            from = g.from;
            upto = omega arith;
            part = q.0;
            root = refl;
            lefts = l.0;
            rights = r.0;
            near = nearest_kept ws (length ws) a b left right g.near a i (omega arith) (omega arith) left' right' l.1 r.1;
          }

    -- ---- a turn as the code makes it: the root's index is `at - 1`, its links are the tops that the search found
    module _ (left right : List ℕ) (a b : ℕ) (hl : hi ≤ length left₀) (hr : hi ≤ length right₀) (ll rr : ℕ) (left' right' : List ℕ) where
      pub turned_left : (at : ℕ) → Grown lo hi left₀ right₀ left right a b at → a < b → ll ≡ top (weight_at ws) (between a (at - 1)) → rr ≡ top (weight_at ws) (between at b)
          → left' ≡ overwrite (set left (at - 1) ll) a (left_links ws a (at - 1)) → right' ≡ overwrite (set right (at - 1) rr) a (right_links ws a (at - 1))
          → Grown lo hi left₀ right₀ left' right' at b rr
      turned_left zero g some el er e f = let h = root_index g some in absurd (omega arith)
      turned_left (suc i) g some el er e f =
          let back : suc i - 1 ≡ i = omega arith in
          subst (Grown lo hi left₀ right₀ left' right' (suc i) b) (sym er)
          (grown_left left right a b i g some hl hr left' right'
          (e ∙ ap₂ (λ (j m : ℕ). overwrite (set left j m) a (left_links ws a j)) back (el ∙ ap (λ (j : ℕ). top (weight_at ws) (between a j)) back))
          (f ∙ ap₂ (λ (j m : ℕ). overwrite (set right j m) a (right_links ws a j)) back er))

      pub turned_right : (at : ℕ) → Grown lo hi left₀ right₀ left right a b at → a < b → ll ≡ top (weight_at ws) (between a (at - 1)) → rr ≡ top (weight_at ws) (between at b)
          → left' ≡ overwrite (set left (at - 1) ll) at (left_links ws at b) → right' ≡ overwrite (set right (at - 1) rr) at (right_links ws at b)
          → Grown lo hi left₀ right₀ left' right' a (at - 1) ll
      turned_right zero g some el er e f = let h = root_index g some in absurd (omega arith)
      turned_right (suc i) g some el er e f =
          let back : suc i - 1 ≡ i = omega arith in
          let here : ll ≡ top (weight_at ws) (between a i) = el ∙ ap (λ (j : ℕ). top (weight_at ws) (between a j)) back in
          subst (λ (j : ℕ). Grown lo hi left₀ right₀ left' right' a j ll) (sym back)
          (subst (Grown lo hi left₀ right₀ left' right' a i) (sym here)
          (grown_right left right a b i g some hl hr left' right'
          (e ∙ ap₂ (λ (j m : ℕ). overwrite (set left j m) (suc i) (left_links ws (suc i) b)) back here)
          (f ∙ ap₂ (λ (j m : ℕ). overwrite (set right j m) (suc i) (right_links ws (suc i) b)) back er)))

  -- ---- the whole list
  pub all_positions : (n : ℕ) → between 0 n ≡ positions n
  all_positions n =
      let whole : n - 0 ≡ n = omega arith in
      ap (up_from 1) whole

  module _ (column old entry : List ℕ) (same : drop (length ws) old ≡ drop (length ws) entry) where
    pub whole_left : column ≡ overwrite old 0 (left_links ws 0 (length ws)) → column ≡ overwrite entry 0 (left_column ws (length ws))
    unfolding left_links
    whole_left e =
        e ∙ overwrite_again old entry (left_links ws 0 (length ws)) (length ws) (omega (arith, left_length 0 (length ws))) same
        ∙ ap (λ (xs : List ℕ). overwrite entry 0 (map (left_link (weight_at ws) xs) xs)) (all_positions (length ws))

    pub whole_right : column ≡ overwrite old 0 (right_links ws 0 (length ws)) → column ≡ overwrite entry 0 (right_column ws (length ws))
    unfolding right_links
    whole_right e =
        e ∙ overwrite_again old entry (right_links ws 0 (length ws)) (length ws) (omega (arith, right_length 0 (length ws))) same
        ∙ ap (λ (xs : List ℕ). overwrite entry 0 (map (right_link (weight_at ws) xs) xs)) (all_positions (length ws))
