-- What is prepared can be written, its words are the fresh table, and its columns the numbers of the keys. Assumes an order of at least 2.
use mathlib.Core.List.{List, map}
use mathlib.Core.Path.{◌≡◌, sym, ap, ap₂, ◌∙◌, subst}
use Prim.Native.Nat.{ℕ, suc, ◌<◌, ◌≤◌}
use native.Mathlib.Omega.{arith}
use lib.ListN.{length, get_or, take, length-map}
use Rattle.lists.specs.Lists.{All, Rising}
use Rattle.lists.proofs.UpFrom.{up_from_rising}
use Rattle.priority.specs.Priority.{priority_with}
use Rattle.treap.specs.Treap.{left_link, right_link}
use Rattle.treap.specs.Levels
use Rattle.treap.specs.Levels.{leader}
use Rattle.treap_structure.proofs.Relabel.{renamed_ranks, renamed_counts, renamed_leader}
use Rattle.treap_columns.specs.Positions.{positions, weight_at}
use Rattle.treap_columns.specs.Columns.{left_column, right_column, rank_column, count_column, leader_column}
use Rattle.treap_columns.proofs.Filled.{column_at}
use Rattle.table.specs.Tags.{tagged, Beside}
use Rattle.table.specs.Table.{fresh}
use Rattle.treap_columns.specs.declared.Columns.{Columns}
use Rattle.table_encode.specs.Encode.{key_at, Linked, words_of}
use Rattle.table_encode.proofs.Fresh
use Rattle.table_encode.proofs.Fresh.{Right, numbered, slots_within, words_are_fresh}
use Rattle.table_encode.proofs.Renaming.{key_at_suc, keys_rename}
use Rattle.table_encode.proofs.Standings.{StandingsOf}
use Rattle.table_prepare.specs.Prepared.{Prepared}
use Rattle.table_prepare.proofs.Preparing.{left_low_lem, right_low_lem, leader_low, root_low}

module _ (order salt : ℕ) (wide : 2 ≤ order) (ks : List ℕ) (columns : Columns) (slots : List ℕ) (root : ℕ) (made : Prepared order salt ks columns slots root) where
  as_many : length (map (priority_with salt) ks) ≡ length ks
  as_many = length-map ks (priority_with salt)

  -- the columns of the weights, with the number of keys for that of the weights
  over : (column : List ℕ) (g : ℕ → List ℕ) → take (length (map (priority_with salt) ks)) column ≡ g (length (map (priority_with salt) ks)) → take (length ks) column ≡ g (length ks)
  over column g e = subst (λ (m : ℕ). take m column ≡ g m) as_many e

  pub right_columns : Right order salt ks columns
  right_columns =
      record {
        lefts = over columns.left (left_column (map (priority_with salt) ks)) made.filled.lefts;
        rights = over columns.right (right_column (map (priority_with salt) ks)) made.filled.rights;
        leaders = over columns.leader (leader_column order (map (priority_with salt) ks)) made.filled.leaders;
        ranks = over columns.rank (rank_column order (map (priority_with salt) ks)) made.filled.ranks;
        counts = over columns.count (count_column order (map (priority_with salt) ks)) made.filled.counts;
      }

  low : (column : List ℕ) (g : ℕ → ℕ → ℕ) → take (length ks) column ≡ map (g (length ks)) (positions (length ks))
      → ((i : ℕ) → i < length (map (priority_with salt) ks) → g (length (map (priority_with salt) ks)) (suc i) ≤ length (map (priority_with salt) ks)) → (i : ℕ) → i < length ks → get_or column i 0 ≤ length ks
  low column g e bound i h =
      subst (λ (x : ℕ). x ≤ length ks) (sym (column_at (g (length ks)) (length ks) column e i h))
      (subst (λ (m : ℕ). g m (suc i) ≤ m) as_many (bound i (omega (arith, as_many))))

  pub linked : Linked ks columns
  linked =
      let ws = map (priority_with salt) ks in
      record {
        left_long = made.left_room;
        right_long = made.right_room;
        leader_long = made.leader_room;
        rank_long = made.rank_room;
        count_long = made.count_room;
        left_within = low columns.left (λ m. left_link (weight_at ws) (positions m)) right_columns.lefts (left_low_lem ws);
        right_within = low columns.right (λ m. right_link (weight_at ws) (positions m)) right_columns.rights (right_low_lem ws);
        leader_within = low columns.leader (λ m. leader order (weight_at ws) (positions m)) right_columns.leaders (leader_low ws order wide);
      }

  pub root_within : root ≤ length ks
  root_within = subst (λ (r : ℕ). r ≤ length ks) (sym made.root_is) (root_low (weight_at (map (priority_with salt) ks)) (length ks))

  pub slots_low : Rising ks → All (λ k. 1 ≤ k) ks → All (λ i. i ≤ length ks) slots
  slots_low rising some = subst (All (λ i. i ≤ length ks)) (sym made.placed) (slots_within order salt wide ks rising some columns right_columns (length slots))

  pub prepared_words : Rising ks → All (λ k. 1 ≤ k) ks → (tags : List ℕ) → Beside ks tags
      → words_of order salt ks tags root columns slots ≡ fresh (length slots) (tagged order salt ks tags)
  prepared_words rising some tags beside =
      ap₂ (λ (r : ℕ) (s : List ℕ). words_of order salt ks tags r columns s) made.root_is made.placed
      ∙ words_are_fresh order salt wide ks rising some columns right_columns tags beside (length slots)

  -- the numbers of each key, by its index
  pub standings : Rising ks → All (λ k. 1 ≤ k) ks → StandingsOf order salt ks columns
  standings rising some =
      let q = weight_at (map (priority_with salt) ks) in
      let rename = keys_rename (priority_with salt) ks rising in
      let rise = up_from_rising 1 (length ks) in
      record {
        rank_long = made.rank_room;
        count_long = made.count_room;
        leader_long = made.leader_room;
        rank_is = λ i h.
            sym (numbered order salt wide ks rising some columns right_columns (Levels.rank order) columns.rank (renamed_ranks (key_at ks) (priority_with salt) q (positions (length ks)) rename rise order wide) right_columns.ranks i h)
            ∙ ap (Levels.rank order (priority_with salt) ks) (key_at_suc ks i);
        count_is = λ i h.
            sym (numbered order salt wide ks rising some columns right_columns (Levels.count order) columns.count (renamed_counts (key_at ks) (priority_with salt) q (positions (length ks)) rename rise order wide) right_columns.counts i h)
            ∙ ap (Levels.count order (priority_with salt) ks) (key_at_suc ks i);
        leader_within = linked.leader_within;
        leader_is = λ i h.
            sym (Fresh.linked order salt wide ks rising some columns right_columns (leader order) columns.leader (renamed_leader (key_at ks) (priority_with salt) q (positions (length ks)) rename rise order wide) right_columns.leaders i h)
            ∙ ap (leader order (priority_with salt) ks) (key_at_suc ks i);
      }
