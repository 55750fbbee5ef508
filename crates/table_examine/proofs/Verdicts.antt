-- What the tests of examining say of the verdict. Assumes nothing.
use mathlib.Core.Bool.{Bool, true, false, cond}
use mathlib.Core.List.{List}
use mathlib.Core.Path.{◌≡◌, refl, sym, ap, ◌∙◌, subst}
use Prim.Native.Nat.{ℕ, ◌≤◌}
use native.Mathlib.Omega.{arith}
use lib.ListN.{length, get_or, take}
use Rattle.lists.specs.Lists.{All, lies, rises_b, same, overwrite}
use Rattle.lists.proofs.Keep.{every_when}
use Rattle.lists.proofs.Rising.{rises_says}
use Rattle.lists.proofs.Start.{starts_with}
use Rattle.lists.proofs.Tests.{same_test}
use Rattle.lists.proofs.Membership.{same_when}
use Rattle.table.specs.Layout.{most_slots, least_order, greatest_order, order_word, salt_word}
use Rattle.table.specs.Contents.{Entry, Contents, keys_in, table_order, right_measure}
use Rattle.table.specs.Tags.{tags_in, tagged}
use Rattle.table.specs.Table.{fresh, contents_of}
use Rattle.table.specs.Sound.{sound_with}
use Rattle.table.proofs.Soundness.{shown_fit, shown_nonzero, sound_exactly}
use Rattle.table.proofs.Tagged.{tagged_is}
use Rattle.table_decode.specs.Decode.{contents_read}
use Rattle.table_prepare.specs.Prepared.{Keys}
use Rattle.table_prepare.proofs.Writable.{writable}
use Rattle.std.specs.Bool.{then_some}
use Rattle.std.specs.Prelude.{Option, Some, None}
use Rattle.table_examine.specs.Examine.{verdict_of}
use Rattle.table_examine.proofs.Measured.{read_right, sound_read, exact_read}
use Rattle.table_examine.proofs.KeysRead.{keys_shown}

abbrev says : Option ℕ → Bool
says (Some n) = true
says None = false

abbrev size_in : Option ℕ → ℕ
size_in (Some n) = n
size_in None = 0

says_cond : (b : Bool) (n : ℕ) → says (cond b (Some n) None) ≡ b
says_cond true n = refl
says_cond false n = refl

module _ (many : ℕ) (words : List ℕ) where
  -- an order that no table has
  pub order_wrong : lies least_order greatest_order (get_or words order_word 0) ≡ false → sound_with many words ≡ false
  unfolding sound_with contents_of table_order
  order_wrong e = rw e

  -- the other tests, once the order is one
  pub keys_do_not_rise : lies least_order greatest_order (get_or words order_word 0) ≡ true → rises_b (keys_in (contents_of many words)) ≡ false
      → sound_with many words ≡ false
  unfolding sound_with contents_of table_order
  keys_do_not_rise right e = rw (right, e)

  passes : lies least_order greatest_order (get_or words order_word 0) ≡ true → rises_b (keys_in (contents_of many words)) ≡ true
      → All (λ e. right_measure e ≡ true) (contents_of many words).entries → same words (fresh many (contents_of many words)) ≡ true → sound_with many words ≡ true
  unfolding sound_with contents_of table_order
  passes right e measures t = rw (right, e, every_when right_measure (contents_of many words).entries measures, t)

  -- the table is sound exactly where its words are those of what is read of it
  pub decided : lies least_order greatest_order (get_or words order_word 0) ≡ true → rises_b (keys_in (contents_of many words)) ≡ true
      → sound_with many words ≡ same words (fresh many (contents_read many words))
  decided right e =
      same_test (sound_with many words) (same words (fresh many (contents_read many words)))
      (λ t. same_when words (fresh many (contents_read many words)) (sound_exactly many words t ∙ ap (fresh many) (sym (sound_read many words t))))
      (λ t.
      let shown = exact_read many words t in
      passes right e (subst (λ (c : Contents). All (λ f. right_measure f ≡ true) c.entries) shown (read_right many words))
      (ap (λ (c : Contents). same words (fresh many c)) (sym shown) ∙ t))

  pub unsound : sound_with many words ≡ false → None ≡ verdict_of many words
  unfolding verdict_of
  unsound e = rw e

  pub sound : (n : ℕ) → sound_with many words ≡ true → n ≡ length (keys_in (contents_of many words)) → Some n ≡ verdict_of many words
  unfolding verdict_of
  sound n e h = rw (e, h)

  -- the verdict, from what comparing the words tells
  pub verdict_is : (b : Bool) (n : ℕ) → sound_with many words ≡ b → n ≡ length (keys_in (contents_of many words)) → then_some b n ≡ verdict_of many words
  verdict_is true n e h = sound n e h
  verdict_is false n e h = unsound e

  verdict_says : sound_with many words ≡ says (verdict_of many words)
  unfolding verdict_of
  verdict_says = sym (says_cond (sound_with many words) (length (keys_in (contents_of many words))))

  -- what a verdict says
  pub told_true : (n : ℕ) → verdict_of many words ≡ Some n → sound_with many words ≡ true
  told_true n v = verdict_says ∙ ap says v

  pub told_false : verdict_of many words ≡ None → sound_with many words ≡ false
  told_false v = verdict_says ∙ ap says v

  pub told_size : (n : ℕ) → verdict_of many words ≡ Some n → n ≡ length (keys_in (contents_of many words))
  told_size n v = sym (ap size_in (sound (length (keys_in (contents_of many words))) (told_true n v) refl ∙ v))

  -- ---- the keys that are read, as the comparison takes them
  pub keys_read : (lent keys : List ℕ) (n : ℕ) → keys ≡ overwrite lent 0 (keys_in (contents_of many words)) → n ≡ length (keys_in (contents_of many words)) → take n keys ≡ keys_in (contents_of many words)
  keys_read lent keys n e h = starts_with keys lent (keys_in (contents_of many words)) n e (sym h)

  pub can_be_compared : many ≤ most_slots → lies least_order greatest_order (get_or words order_word 0) ≡ true
      → rises_b (keys_in (contents_of many words)) ≡ true → Keys (get_or words order_word 0) (keys_in (contents_of many words))
  can_be_compared few right e =
      writable (get_or words order_word 0) (keys_in (contents_of many words)) right (rises_says (keys_in (contents_of many words)) e) (shown_nonzero many words)
      (omega (arith, shown_fit many words))

  pub compared : (keys tags : List ℕ) → keys ≡ keys_in (contents_of many words) → tags ≡ tags_in (contents_read many words)
      → same words (fresh many (tagged (get_or words order_word 0) (get_or words salt_word 0) keys tags)) ≡ same words (fresh many (contents_read many words))
  unfolding contents_read
  compared keys tags e f =
      ap (λ (es : List Entry). same words (fresh many (record { order = get_or words order_word 0; salt = get_or words salt_word 0; entries = es })))
      (tagged_is (contents_read many words).entries (read_right many words) (e ∙ sym (keys_shown many words)) f)
