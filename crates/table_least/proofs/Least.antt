-- The least key of a range, found slot by slot. Assumes nothing.
use mathlib.Core.Bool.{Bool, true, false, cond, ◌&&◌, ◌||◌, not}
use mathlib.Core.List.{List, [], ◌∷◌, ◌++◌, map, map-append, append-nil}
use mathlib.Core.Logic.{◌≢◌, ◌⊎◌, ⊎_elim}
use mathlib.Core.Path.{◌≡◌, refl, sym, ap, ◌∙◌, subst}
use Prim.Native.Nat.{ℕ, suc, min, ◌+◌, ◌<◌, ◌≤◌}
use native.Mathlib.Nat.{zero-add}
use native.Mathlib.Omega.{arith}
use lib.Dec.{eqb, ltb}
use borrow.Author.Tests.{eq-eqb, ne_eqb, lt-ltb, le-ltb, eqb-true, eqb-false, ltb-true, ltb-false}
use Rattle.std.specs.Prelude.{Option, Some, None}
use Rattle.lists.specs.Lists.{All, Pairwise, cons_if, first, keep, insert_by, sort_by, up_from, lies, nonzero}
use Rattle.lists.proofs.Tests.{by_test, or_true_left, or_true_right}
use Rattle.lists.proofs.Keep.{keep_append}
use Rattle.lists.proofs.Membership.{first_found}
use Rattle.lists.proofs.Sorted.{sorted_ordered, sorted_more}
use Rattle.lists.proofs.UpFrom.{up_from_end}
use Rattle.table.specs.Layout.{key_in}
use Rattle.table.specs.Table.{contents_of}
use Rattle.table.proofs.Words.{slot_keys, held_keys}
use Rattle.table.proofs.Soundness.{shown_held, shown_nonzero}
use Rattle.table.specs.Contents.{keys_in}
use Rattle.table_least.specs.LeastKey.{least_within, lesser, IsOrZero}

-- ---- a key put in its place among others
-- what the first that passes becomes
module _ (f : ℕ → Bool) (key : ℕ) where
  choose : Bool → ℕ → ℕ
  choose passes m = cond (passes && (eqb m 0 || ltb key m)) key m

  first_put : (ys : List ℕ) → Pairwise ◌≤◌ ys → All (λ y. 1 ≤ y) ys → first 0 f (insert_by ltb key ys) ≡ choose (f key) (first 0 f ys)
  unfolding choose
  first_put [] sorted some = by_test (f key) (λ e. rw e) (λ e. rw e)
  first_put (y ∷ ys) sorted some =
      by_test (ltb key y)
      (λ less.
      rw less
      (by_test (f key)
      (λ e. rw e (ap (λ b. cond b key (first 0 f (y ∷ ys))) (sym (chosen less (first 0 f (y ∷ ys)) refl))))
      (λ e. rw e refl)))
      (λ more.
      rw more
      (by_test (f y)
      (λ e. rw (e, ne_eqb y 0 (λ q. omega (arith, some.0)), more) (by_test (f key) (λ t. rw t) (λ t. rw t)))
      (λ e. rw e (first_put ys sorted.1 some.1))))
    where
      chosen : ltb key y ≡ true → (m : ℕ) → first 0 f (y ∷ ys) ≡ m → (eqb m 0 || ltb key m) ≡ true
      chosen less m e =
          by_test (eqb m 0) (λ t. or_true_left (eqb m 0) (ltb key m) t)
          (λ t.
          let found : first 0 f (y ∷ ys) ≢ 0 = λ q. eqb-false m 0 t (sym e ∙ q) in
          let above = (first_found 0 f (λ z. y ≤ z) (y ∷ ys) ((omega arith), sorted.0) found).1 in
          or_true_right (eqb m 0) (ltb key m) (lt-ltb key m (omega (arith, e, ltb-true key y less))))

-- ---- the keys of a slot more
module _ (words : List ℕ) (slot : ℕ) where
  slot_more : slot_keys (suc slot) words ≡ slot_keys slot words ++ (key_in words slot ∷ [])
  unfolding slot_keys
  slot_more = ap (map (key_in words)) (up_from_end 0 slot) ∙ map-append (key_in words) (up_from 0 slot) ((0 + slot) ∷ []) ∙ ap (λ (s : ℕ). map (key_in words) (up_from 0 slot) ++ (key_in words s ∷ [])) (zero-add slot)

  held_more : keep nonzero (slot_keys (suc slot) words) ≡ keep nonzero (slot_keys slot words) ++ keep nonzero (key_in words slot ∷ [])
  held_more = ap (keep nonzero) slot_more ∙ keep_append nonzero (slot_keys slot words) (key_in words slot ∷ [])

  shown_same : key_in words slot ≡ 0 → keys_in (contents_of (suc slot) words) ≡ keys_in (contents_of slot words)
  unfolding held_keys
  shown_same e =
      shown_held (suc slot) words
      ∙ ap (sort_by ltb)
      (held_more
      ∙ ap (λ (k : ℕ). keep nonzero (slot_keys slot words) ++ keep nonzero (k ∷ [])) e
      ∙ append-nil (keep nonzero (slot_keys slot words)))
      ∙ sym (shown_held slot words)

  shown_more : key_in words slot ≢ 0 → keys_in (contents_of (suc slot) words) ≡ insert_by ltb (key_in words slot) (keys_in (contents_of slot words))
  unfolding held_keys
  shown_more d =
      shown_held (suc slot) words
      ∙ ap (sort_by ltb)
      (held_more
      ∙ ap (λ b. keep nonzero (slot_keys slot words) ++ cons_if (not b) (key_in words slot) []) (ne_eqb (key_in words slot) 0 d))
      ∙ sorted_more (keep nonzero (slot_keys slot words)) (key_in words slot)
      ∙ ap (insert_by ltb (key_in words slot)) (sym (shown_held slot words))

  shown_sorted : Pairwise ◌≤◌ (keys_in (contents_of slot words))
  unfolding held_keys
  shown_sorted = subst (Pairwise ◌≤◌) (sym (shown_held slot words)) (sorted_ordered (keep nonzero (slot_keys slot words)))

  -- the least key of a slot more
  pub least_more : (low high : ℕ) → least_within low high (keys_in (contents_of (suc slot) words)) ≡ lesser low high (least_within low high (keys_in (contents_of slot words))) (key_in words slot)
  unfolding least_within lesser choose
  least_more low high =
      by_test (eqb (key_in words slot) 0)
      (λ e. rw e (ap (first 0 (lies low high)) (shown_same (eqb-true (key_in words slot) 0 e))))
      (λ e.
      rw e
      (ap (first 0 (lies low high)) (shown_more (eqb-false (key_in words slot) 0 e))
      ∙ first_put (lies low high) (key_in words slot) (keys_in (contents_of slot words)) shown_sorted (shown_nonzero slot words)))

pub least_none : (words : List ℕ) (low high : ℕ) → 0 ≡ least_within low high (keys_in (contents_of 0 words))
unfolding least_within held_keys slot_keys
least_none words low high = ap (first 0 (lies low high)) (sym (shown_held 0 words))

-- ---- the lesser of two, test by test
module _ (low high n key : ℕ) where
  no_key : key ≡ 0 → n ≡ lesser low high n key
  unfolding lesser
  no_key e = rw (eq-eqb key 0 e) refl

  outside : lies low high key ≡ false → n ≡ lesser low high n key
  unfolding lesser
  outside e = by_test (nonzero key) (λ t. rw (t, e) refl) (λ t. rw t refl)

  pub left_out : (least : Option ℕ) → (key ≡ 0) ⊎ (lies low high key ≡ false) → IsOrZero least n → IsOrZero least (lesser low high n key)
  left_out least out told = subst (IsOrZero least) (⊎_elim no_key outside out) told

  module _ (some : key ≢ 0) (within : lies low high key ≡ true) where
    first_one : n ≡ 0 → key ≡ lesser low high n key
    unfolding lesser
    first_one e = rw (ne_eqb key 0 some, within, eq-eqb n 0 e) refl

    less_one : key < n → key ≡ lesser low high n key
    unfolding lesser
    less_one h = rw (ne_eqb key 0 some, within, or_true_right (eqb n 0) (ltb key n) (lt-ltb key n h)) refl

    no_less : n ≢ 0 → n ≤ key → n ≡ lesser low high n key
    unfolding lesser
    no_less d h = rw (ne_eqb key 0 some, within, ne_eqb n 0 d, le-ltb key n h) refl

    pub first_found_key : (least : Option ℕ) → least ≡ None → IsOrZero least n → IsOrZero (Some key) (lesser low high n key)
    first_found_key least e told =
        let none : n ≡ 0 = subst (λ (o : Option ℕ). IsOrZero o n) e told in
        (first_one none, omega arith)

    pub lesser_found : (least : Option ℕ) (other now : ℕ) → least ≡ Some other → now ≡ min other key → IsOrZero least n → IsOrZero (Some now) (lesser low high n key)
    lesser_found least other now e f told =
        let (same, some-other) = subst (λ (o : Option ℕ). IsOrZero o n) e told in
        by_test (ltb key n)
        (λ t. let h = ltb-true key n t in (omega (arith, same, f, less_one h), omega (arith, same, f)))
        (λ t. let h = ltb-false key n t in (omega (arith, same, f, no_less (omega (arith, same, some-other)) h), omega (arith, same, f, some-other)))
