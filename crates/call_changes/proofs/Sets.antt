-- What a table may hold, with a key more and with a key less, is again what a table may hold. Assumes nothing.
use mathlib.Core.Bool.{true, false, not}
use mathlib.Core.List.Permᴰ
use mathlib.Core.List.{List, [], ◌∷◌}
use mathlib.Core.Logic.{◌≢◌}
use mathlib.Core.Path.{◌≡◌, sym, ap, ◌∙◌, subst}
use Prim.Native.Nat.{ℕ, suc, ◌<◌}
use native.Mathlib.Omega.{arith}
use lib.Dec.{eqb, ltb}
use lib.ListN.{length}
use borrow.Author.Tests.{ltb-true, ltb-false, eqb-false}
use Rattle.lists.specs.Lists.{All, Rising, member, insert_by}
use Rattle.lists.proofs.Tests.{by_test, or_true_left, or_false_left, or_false_right}
use Rattle.lists.proofs.Keep.{all_map, all_keep, length-keep}
use Rattle.lists.proofs.Membership.{eqb_same}
use Rattle.lists.proofs.Pairwise.{pairwise_keep}
use Rattle.lists.proofs.Sorting.{all_permuted, length_permuted, insert_by_permutes}
use Rattle.measure.specs.Measure.{is_measure}
use Rattle.table.specs.Contents.{Entry, Contents, entry_keys, keys_in, key_below, IsKey, Valid, right_measure}
use Rattle.call_sets.specs.Sets.{joined, without}
use Rattle.call_sets.proofs.Members.{joined_keys, joined_members, joined_right, without_keys, left_right}

-- ---- a key more
-- in a rising list
pub inserted_rising : (key : ℕ) (ks : List ℕ) → Rising ks → member key ks ≡ false → Rising (insert_by ltb key ks)
inserted_rising key [] rising absent = (tt, tt)
inserted_rising key (k ∷ ks) rising absent =
    by_test (ltb key k)
    (λ e.
    let less = ltb-true key k e in
    rw e ((less, all_map (λ x. k < x) (λ x. key < x) (λ x (h : k < x). omega arith) ks rising.0), rising))
    (λ e.
    let apart : key ≢ k = eqb-false key k (or_false_left (eqb key k) (member key ks) absent) in
    let more : k < key = omega (arith, ltb-false key k e) in
    rw e
    (all_permuted (λ x. k < x) (Permᴰ.symm (insert_by_permutes ltb key ks)) (more, rising.0), inserted_rising key ks rising.1 (or_false_right (eqb key k) (member key ks) absent)))

module _ (entry : Entry) where
  pub joined_length : (es : List Entry) → length (joined entry es) ≡ suc (length es)
  unfolding joined
  joined_length es = length_permuted (insert_by_permutes key_below entry es)

  pub joined_member : (es : List Entry) → member entry.key (entry_keys (joined entry es)) ≡ true
  joined_member es = joined_members entry entry.key es ∙ or_true_left (eqb entry.key entry.key) _ (eqb_same entry.key)

  pub joined_valid : (many : ℕ) (c : Contents) → Valid many c → IsKey entry.key → is_measure entry.measure ≡ true → member entry.key (keys_in c) ≡ false
      → length (keys_in c) < many → Valid many (record { order = c.order; salt = c.salt; entries = joined entry c.entries })
  joined_valid many c valid right measured absent room =
      record {
        order_right = valid.order_right;
        salt_right = valid.salt_right;
        keys_right = subst (All IsKey) (sym (joined_keys entry c.entries))
            (all_permuted IsKey (Permᴰ.symm (insert_by_permutes ltb entry.key (keys_in c))) (right, valid.keys_right));
        keys_rise = subst Rising (sym (joined_keys entry c.entries)) (inserted_rising entry.key (keys_in c) valid.keys_rise absent);
        keys_fit = omega (arith, ap length (joined_keys entry c.entries), length_permuted (insert_by_permutes ltb entry.key (keys_in c)));
        measures_right = joined_right (λ e. right_measure e ≡ true) entry c.entries measured valid.measures_right;
      }

-- ---- a key less
module _ (key : ℕ) where
  pub without_valid : (many : ℕ) (c : Contents) → Valid many c → Valid many (record { order = c.order; salt = c.salt; entries = without key c.entries })
  without_valid many c valid =
      record {
        order_right = valid.order_right;
        salt_right = valid.salt_right;
        keys_right = subst (All IsKey) (sym (without_keys key c.entries)) (all_keep IsKey (λ k. not (eqb k key)) (keys_in c) valid.keys_right);
        keys_rise = subst Rising (sym (without_keys key c.entries)) (pairwise_keep ◌<◌ (λ k. not (eqb k key)) (keys_in c) valid.keys_rise);
        keys_fit = omega (arith, valid.keys_fit, ap length (without_keys key c.entries), length-keep (λ k. not (eqb k key)) (keys_in c));
        measures_right = left_right (λ e. right_measure e ≡ true) key c.entries valid.measures_right;
      }
