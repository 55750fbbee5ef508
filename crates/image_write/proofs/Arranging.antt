-- What is arranged can be written: links and leaders are positions, ranks are small, and the indices in the image's order are
-- indices of keys. Assumes keys that a table can be made of.
use mathlib.Core.List.{List, ◌++◌, map}
use mathlib.Core.Path.{◌≡◌, sym, ap, ap₂, ◌∙◌, subst, subst₂}
use Prim.Native.Nat.{ℕ, suc, ◌<◌, ◌≤◌}
use native.Mathlib.Omega.{arith}
use lib.ListN.{length, get_or, take, drop, length-map}
use Rattle.lists.specs.Lists.{All, up_from, overwrite}
use Rattle.lists.proofs.Start.{starts_and, starts_with}
use Rattle.lists.proofs.UpFrom.{up_from-length}
use Rattle.priority.specs.Priority.{priority_with}
use Rattle.sorting.specs.ByWeight.{by_weight}
use Rattle.sorting.proofs.ByWeight.{by_weight-length, by_weight_within}
use Rattle.treap.specs.Treap.{top, left_link, right_link}
use Rattle.treap.specs.Levels
use Rattle.treap_structure.proofs.Bounds.{rank_at_most}
use Rattle.treap_columns.specs.declared.Columns.{Columns}
use Rattle.treap_columns.specs.Positions.{positions, weight_at}
use Rattle.treap_columns.specs.Columns.{left_column, right_column, rank_column, count_column, leader_column}
use Rattle.treap_columns.proofs.Filled.{column_length, column_at}
use Rattle.table_encode.proofs.Fresh.{Right}
use Rattle.table_prepare.specs.Prepared.{Keys, Filled}
use Rattle.table_prepare.proofs.Preparing.{room, root_low, left_low_lem, right_low_lem, leader_low, many_weights}
use Rattle.image_blocks.specs.Naming.{block_weight, block_weights, Ranked}
use Rattle.image_parts.specs.Parts.{Listed}
use Rattle.image_write.specs.Arranged.{Arranged}

pub weights_length : (root : ℕ) (rank leader : List ℕ) (n : ℕ) → length (block_weights root rank leader n) ≡ n
unfolding block_weights
weights_length root rank leader n = length-map (up_from 0 n) (block_weight root rank leader) ∙ up_from-length 0 n

module _ (order salt : ℕ) (ks : List ℕ) (right_keys : Keys order ks) (c : Columns) (filled : Filled order (map (priority_with salt) ks) c) where
  abbrev ws : List ℕ
  ws = map (priority_with salt) ks

  abbrev m : ℕ
  m = length ws

  as_many : m ≡ length ks
  as_many = length-map ks (priority_with salt)

  long : (column : List ℕ) (g : ℕ → ℕ) → take m column ≡ map g (positions m) → length ks ≤ length column
  long column g e = let h = room column (map g (positions m)) m e (column_length g m) in omega (arith, as_many)

  low : (column : List ℕ) (g : ℕ → ℕ) → take m column ≡ map g (positions m) → ((i : ℕ) → i < m → g (suc i) ≤ m) → (i : ℕ) → i < length ks → get_or column i 0 ≤ length ks
  low column g e bound i h =
      let here : i < m = omega (arith, as_many) in
      omega (arith, column_at g m column e i here, bound i here, as_many)

  pub ranked : (root : ℕ) → root ≡ top (weight_at ws) (positions (length ks)) → Ranked (length ks) root c.rank c.leader
  ranked root e =
      let ranks = Levels.rank order (weight_at ws) (positions m) in
      let leaders = Levels.leader order (weight_at ws) (positions m) in
      record {
        few = right_keys.few;
        root_within = omega (arith, root_low (weight_at ws) (length ks));
        rank_long = long c.rank ranks filled.ranks;
        leader_long = long c.leader leaders filled.leaders;
        rank_low = low c.rank ranks filled.ranks (λ i h. omega (arith, rank_at_most order (weight_at ws) (positions m) (suc i), up_from-length 1 m));
        leader_low = low c.leader leaders filled.leaders (leader_low ws order right_keys.wide);
      }

  pub listed : (tags : List ℕ) → length tags ≡ length ks → Listed ks tags c
  listed tags same =
      let lefts = left_link (weight_at ws) (positions m) in
      let rights = right_link (weight_at ws) (positions m) in
      record {
        tags_many = same;
        left_long = long c.left lefts filled.lefts;
        right_long = long c.right rights filled.rights;
        rank_long = long c.rank (Levels.rank order (weight_at ws) (positions m)) filled.ranks;
        count_long = long c.count (Levels.count order (weight_at ws) (positions m)) filled.counts;
        left_within = low c.left lefts filled.lefts (left_low_lem ws);
        right_within = low c.right rights filled.rights (right_low_lem ws);
      }

  -- the columns, with the number of keys for that of the weights
  pub columns_right : Right order salt ks c
  columns_right =
      record {
        lefts = over c.left (left_column ws) filled.lefts;
        rights = over c.right (right_column ws) filled.rights;
        leaders = over c.leader (leader_column order ws) filled.leaders;
        ranks = over c.rank (rank_column order ws) filled.ranks;
        counts = over c.count (count_column order ws) filled.counts;
      }
    where
      over : (column : List ℕ) (g : ℕ → List ℕ) → take m column ≡ g m → take (length ks) column ≡ g (length ks)
      over column g e = subst (λ (k : ℕ). take k column ≡ g k) as_many e

-- ---- what the parts yield together
module _ (order salt : ℕ) (ks weights : List ℕ) (weights_are : take (length ks) weights ≡ map (priority_with salt) ks) where
  pub filled_from : (c : Columns) → Filled order (take (length ks) weights) c → Filled order (map (priority_with salt) ks) c
  filled_from c f = subst (λ (w : List ℕ). Filled order w c) weights_are f

  pub root_from : (root : ℕ) → root ≡ top (weight_at (take (length ks) weights)) (positions (length (take (length ks) weights)))
      → root ≡ top (weight_at (map (priority_with salt) ks)) (positions (length ks))
  root_from root r = r ∙ ap₂ (λ (w : List ℕ) (n : ℕ). top (weight_at w) (positions n)) weights_are (many_weights salt ks weights weights_are)

pub arranged_from : (order salt : ℕ) (ks : List ℕ) (c : Columns) (root : ℕ)
    → root ≡ top (weight_at (map (priority_with salt) ks)) (positions (length ks))
    → Filled order (map (priority_with salt) ks) c
    → (weights before sorted other : List ℕ)
    → weights ≡ overwrite before 0 (block_weights root c.rank c.leader (length ks))
    → sorted ≡ by_weight (take (length ks) weights) ++ drop (length ks) other
    → Arranged order salt ks weights sorted c root
arranged_from order salt ks c root r f weights before sorted other w s =
    let n = length ks in
    let weighed : take n weights ≡ block_weights root c.rank c.leader n = starts_with weights before (block_weights root c.rank c.leader n) n w (weights_length root c.rank c.leader n) in
    record {
      root_is = r;
      filled = f;
      weighed = weighed;
      in_order =
          starts_and sorted other (by_weight (take n weights)) n s (by_weight-length (take n weights) ∙ ap length weighed ∙ weights_length root c.rank c.leader n)
          ∙ ap by_weight weighed;
    }

-- ---- the indices in the image's order are as many as the keys, and indices of keys
module _ (order salt : ℕ) (ks weights sorted : List ℕ) (c : Columns) (root : ℕ) (made : Arranged order salt ks weights sorted c root) where
  pub as_many_weights : length (take (length ks) weights) ≡ length ks
  as_many_weights = ap length made.weighed ∙ weights_length root c.rank c.leader (length ks)

  pub as_many_sorted : length (take (length ks) sorted) ≡ length ks
  as_many_sorted = ap length made.in_order ∙ by_weight-length (block_weights root c.rank c.leader (length ks)) ∙ weights_length root c.rank c.leader (length ks)

  pub sorted_within : All (λ i. i < length ks) (take (length ks) sorted)
  sorted_within =
      subst₂ (λ (n : ℕ) (xs : List ℕ). All (λ i. i < n) xs) (weights_length root c.rank c.leader (length ks)) (sym made.in_order) (by_weight_within (block_weights root c.rank c.leader (length ks)))
