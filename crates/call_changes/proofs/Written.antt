-- What a table that was just written shows. Assumes valid contents and at least one slot.
use mathlib.Core.Bool.{true}
use mathlib.Core.List.{List}
use mathlib.Core.Path.{◌≡◌, sym, ap, ◌∙◌, subst}
use Prim.Native.Nat.{ℕ, ◌≤◌}
use Rattle.treap.specs.Levels.{rank}
use Rattle.table.specs.Contents.{Contents, Valid, keys_in, priority_in}
use Rattle.table.specs.Table.{fresh, contents_of}
use Rattle.table.specs.Sound.{sound_with}
use Rattle.table.proofs.Reading.{contents_of_fresh}
use Rattle.table.proofs.Soundness.{fresh_passes}
use Rattle.call_meaning.specs.Calls.{rank_in}

module _ (many : ℕ) (c : Contents) (some : 1 ≤ many) (valid : Valid many c) (words : List ℕ) (written : words ≡ fresh many c) where
  pub sound_again : sound_with many words ≡ true
  sound_again = subst (λ (ws : List ℕ). sound_with many ws ≡ true) (sym written) (fresh_passes many c some valid)

  pub shows : contents_of many words ≡ c
  shows = ap (contents_of many) written ∙ contents_of_fresh many c some valid

-- a rank read where the table shows this
pub ranked : (n : ℕ) (shown c : Contents) (key : ℕ) → n ≡ rank shown.order (priority_in shown) (keys_in shown) key → shown ≡ c → n ≡ rank_in c key
unfolding rank_in
ranked n shown c key e f = e ∙ ap (λ (d : Contents). rank d.order (priority_in d) (keys_in d) key) f
