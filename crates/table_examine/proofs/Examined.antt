-- What a call has after it examined a table and found it sound: the table's keys, rising, at the start of its list, and the tags of their
-- measures at the start of another. Assumes nothing.
use mathlib.Core.Bool.{true}
use mathlib.Core.List.{List}
use mathlib.Core.Path.{◌≡◌, sym, ap, ◌∙◌, subst}
use Prim.Native.Nat.{ℕ, ◌≤◌}
use native.Mathlib.Omega.{arith}
use lib.ListN.{length, get_or, take}
use Rattle.lists.specs.Lists.{overwrite, rises_b, lies}
use Rattle.lists.proofs.Tests.{and_left, and_right}
use Rattle.lists.proofs.Overwrite.{overwrite-length}
use Rattle.lists.proofs.Start.{starts_with}
use Rattle.table.specs.Layout.{most_slots, least_order, greatest_order, order_word}
use Rattle.table.specs.Contents.{table_order, keys_in}
use Rattle.table.specs.Tags.{tags_in}
use Rattle.table.specs.Table.{contents_of}
use Rattle.table.specs.Sound.{sound_with}
use Rattle.table.proofs.Soundness.{shown_fit}
use Rattle.table.proofs.Tagged.{tags_many}
use Rattle.table_examine.specs.Examine.{verdict_of}
use Rattle.std.specs.Prelude.{Option, Some}
use Rattle.table_prepare.specs.Prepared.{Keys}
use Rattle.table_examine.proofs.Verdicts.{told_true, told_size, can_be_compared}

-- A list that was lent begins with what was to be shown, `n` numbers.
pub record Begins (shown lent list : List ℕ) (n : ℕ) : Type 0 where
  pub holds : list ≡ overwrite lent 0 shown
  pub taken : take n list ≡ shown
  pub long : length list ≡ length lent

begins : (shown lent list : List ℕ) (n : ℕ) → list ≡ overwrite lent 0 shown → n ≡ length shown → length shown ≤ length lent → Begins shown lent list n
begins shown lent list n e size room =
    record { holds = e; taken = starts_with list lent shown n e (sym size); long = ap length e ∙ overwrite-length lent 0 shown (omega arith) }

-- A sound table of `many` slots, its `n` keys at the start of one list, the tags of their measures at the start of another.
pub record Examined (many : ℕ) (words lent keys space tags : List ℕ) (n : ℕ) : Type 0 where
  pub sound : sound_with many words ≡ true
  pub size : n ≡ length (keys_in (contents_of many words))
  pub most : n ≤ many
  pub keys_there : Begins (keys_in (contents_of many words)) lent keys n
  pub tags_there : Begins (tags_in (contents_of many words)) space tags n

pub examined : (many : ℕ) (words lent keys space tags : List ℕ) (n : ℕ) (v : Option ℕ) → v ≡ verdict_of many words → v ≡ Some n
    → (sound_with many words ≡ true → keys ≡ overwrite lent 0 (keys_in (contents_of many words)))
    → (sound_with many words ≡ true → tags ≡ overwrite space 0 (tags_in (contents_of many words))) → many ≤ length lent → many ≤ length space
    → Examined many words lent keys space tags n
examined many words lent keys space tags n v is says written tagged room more =
    let c = contents_of many words in
    let told = sym is ∙ says in
    let sound = told_true many words n told in
    let size = told_size many words n told in
    let few = shown_fit many words in
    let as_many = tags_many c.entries in
    record {
      sound = sound;
      size = size;
      most = omega arith;
      keys_there = begins (keys_in c) lent keys n (written sound) size (omega arith);
      tags_there = begins (tags_in c) space tags n (tagged sound) (omega (arith, size, as_many)) (omega (arith, as_many));
    }

-- and they can be written again
pub examined_writable : (many : ℕ) (words lent keys space tags : List ℕ) (n : ℕ) → many ≤ most_slots → Examined many words lent keys space tags n
    → Keys (get_or words order_word 0) (take n keys)
unfolding sound_with contents_of table_order
examined_writable many words lent keys space tags n most e =
    let rest = and_right (lies least_order greatest_order (get_or words order_word 0)) _ e.sound in
    subst (Keys (get_or words order_word 0)) (sym e.keys_there.taken)
    (can_be_compared many words most (and_left (lies least_order greatest_order (get_or words order_word 0)) _ e.sound) (and_left (rises_b (keys_in (contents_of many words))) _ rest))
