-- Among more than a·b keys there are a + 1 of which each outranks the greater ones among them, or b + 1 of which each outranks the lesser ones
-- (Erdős and Szekeres): so there are chains whatever the priorities. Assumes rising keys.
use mathlib.Core.Bool.{Bool, true, ◌&&◌, not}
use mathlib.Core.List.{List, [], ◌∷◌}
use mathlib.Core.Logic.{◌⊎◌, inl, inr, ⊎_elim}
use mathlib.Core.Path.{◌≡◌, refl, sym, ap, ◌∙◌, subst}
use Prim.Native.Nat.{ℕ, zero, suc, ◌*◌, ◌<◌, ◌≤◌}
use native.Mathlib.Nat.{suc-mul}
use native.Mathlib.Omega.{arith}
use lib.Dec.{ltb}
use lib.ListN.{length, take, drop, take-append-drop}
use lib.Seq.{length-take-le}
use borrow.Author.Tests.{ltb-true, ltb-false, lt-ltb}
use Rattle.lists.specs.Lists.{keep, some, member, All, Pairwise, Rising}
use Rattle.lists.proofs.Tests.{by_test, true_or_false, and_both, and_left, and_right}
use Rattle.lists.proofs.Keep.{all_map, all_both, all_keep, kept_pass, all_append_left, length-keep-not}
use Rattle.lists.proofs.Membership.{a_member, all_of_members, member-keep, some_when, some_says}
use Rattle.lists.proofs.Pairwise.{pairwise_append_left, pairwise_keep, pairwise_map}
use Rattle.treap.specs.Treap.{outranks}
use Rattle.treap_structure.proofs.Outranking.{outranks_trans, outranks_total}
use Rattle.treap_ceilings.proofs.Unbranched.{Falls, Climbs}

-- So many of the keys, each in the relation to all that come after it.
pub record Chosen (R : ℕ → ℕ → Type 0) (ks : List ℕ) (n : ℕ) : Type 0 where
  pub part : List ℕ
  pub from : All (λ x. member x ks ≡ true) part
  pub rise : Rising part
  pub related : Pairwise R part
  pub many : length part ≡ n

from_whole : (f : ℕ → Bool) (ks xs : List ℕ) → All (λ x. member x (keep f ks) ≡ true) xs → All (λ x. member x ks ≡ true) xs
from_whole f ks xs a =
    all_map (λ x. member x (keep f ks) ≡ true) (λ x. member x ks ≡ true) (λ x m. and_right (f x) (member x ks) (sym (member-keep f x ks) ∙ m)) xs a

module _ (R : ℕ → ℕ → Type 0) where
  -- what is chosen of a part is chosen of the whole
  of_whole : (f : ℕ → Bool) (ks : List ℕ) (n : ℕ) → Chosen R (keep f ks) n → Chosen R ks n
  of_whole f ks n c =
      record { part = c.part; from = from_whole f ks c.part c.from; rise = c.rise; related = c.related; many = c.many }

  -- the first ones of a list
  first_ones : (xs : List ℕ) (n : ℕ) → Rising xs → Pairwise R xs → n ≤ length xs → Chosen R xs n
  first_ones xs n rising related h =
      let whole = take-append-drop n xs in
      record {
        part = take n xs;
        from =
            all_append_left (λ x. member x xs ≡ true) (take n xs) (drop n xs)
            (subst (All (λ x. member x xs ≡ true)) (sym whole) (all_of_members (λ x. member x xs ≡ true) xs (λ x m. m)));
        rise = pairwise_append_left ◌<◌ (take n xs) (drop n xs) (subst Rising (sym whole) rising);
        related = pairwise_append_left R (take n xs) (drop n xs) (subst (Pairwise R) (sym whole) related);
        many = length-take-le n xs h;
      }

module _ (p : ℕ → ℕ) where
  -- Some lesser key of the list outranks it.
  surpassed : List ℕ → ℕ → Bool
  surpassed ks x = some (λ y. ltb y x && outranks p y x) ks

  -- ---- among the keys that no lesser one outranks each outranks the lesser ones
  free_apart : (ks : List ℕ) (x y : ℕ) → member x ks ≡ true → not (surpassed ks y) ≡ true → x < y → Climbs p x y
  unfolding surpassed
  free_apart ks x y m free h =
      by_test (outranks p x y)
      (λ e.
      let leads = some_when (λ z. ltb z y && outranks p z y) ks x m (and_both (ltb x y) (outranks p x y) (lt-ltb x y h) e) in
      absurd (true_or_false (not (surpassed ks y)) free (rw leads refl)))
      (λ e. outranks_total p x y (λ q. omega arith) e)

  free_outranked : (ks : List ℕ) → Rising ks → Pairwise (Climbs p) (keep (λ x. not (surpassed ks x)) ks)
  free_outranked ks rising =
      let f : ℕ → Bool = λ x. not (surpassed ks x) in
      pairwise_map (λ x. (f x ≡ true) × (member x ks ≡ true)) ◌<◌ (Climbs p) (λ x y a b h. free_apart ks x y a.1 b.0 h) (keep f ks)
      (all_both (λ x. f x ≡ true) (λ x. member x ks ≡ true) (keep f ks) (kept_pass f ks) (all_keep (λ x. member x ks ≡ true) f ks (all_of_members (λ x. member x ks ≡ true) ks (λ x m. m))))
      (pairwise_keep ◌<◌ f ks rising)

  -- ---- in front of keys that are surpassed comes one more
  before : (ks : List ℕ) (n : ℕ) → Chosen (Falls p) (keep (surpassed ks) ks) (suc n) → Chosen (Falls p) ks (suc (suc n))
  unfolding surpassed
  before ks n c = go c.part c.from c.rise c.related c.many
    where
      go : (xs : List ℕ) → All (λ x. member x (keep (surpassed ks) ks) ≡ true) xs → Rising xs → Pairwise (Falls p) xs → length xs ≡ suc n
          → Chosen (Falls p) ks (suc (suc n))
      go [] from rise related e = absurd (omega arith)
      go (k ∷ xs) from rise related e =
          let (y, m, q) = some_says (λ z. ltb z k && outranks p z k) ks (and_left (surpassed ks k) (member k ks) (sym (member-keep (surpassed ks) k ks) ∙ from.0)) in
          let lower = ltb-true y k (and_left (ltb y k) (outranks p y k) q) in
          let over = and_right (ltb y k) (outranks p y k) q in
          record {
            part = y ∷ k ∷ xs;
            from = (m, from_whole (surpassed ks) ks (k ∷ xs) from);
            rise = ((lower, all_map (λ x. k < x) (λ x. y < x) (λ x h. omega arith) xs rise.0), rise);
            related = ((over, all_map (Falls p k) (Falls p y) (λ x h. outranks_trans p y k x over h) xs related.0), related);
            many = ap suc e;
          }

  -- ---- one of the two is found
  pub some_chosen : (a b : ℕ) (ks : List ℕ) → Rising ks → a * b < length ks → Chosen (Falls p) ks (suc a) ⊎ Chosen (Climbs p) ks (suc b)
  some_chosen zero b ks rising h =
      let (x, m) = a_member ks (omega arith) in
      inl (record { part = x ∷ []; from = (m, tt); rise = (tt, tt); related = (tt, tt); many = refl })
  some_chosen (suc a) b ks rising h =
      let f : ℕ → Bool = λ x. not (surpassed ks x) in
      let both = length-keep-not (surpassed ks) ks in
      by_test (ltb b (length (keep f ks)))
      (λ e. inr (of_whole (Climbs p) f ks (suc b) (first_ones (Climbs p) (keep f ks) (suc b) (pairwise_keep ◌<◌ f ks rising) (free_outranked ks rising) (ltb-true b (length (keep f ks)) e))))
      (λ e.
      let few = ltb-false b (length (keep f ks)) e in
      ⊎_elim
      (λ c. inl (before ks a c))
      (λ c. inr (of_whole (Climbs p) (surpassed ks) ks (suc b) c))
      (some_chosen a b (keep (surpassed ks) ks) (pairwise_keep ◌<◌ (surpassed ks) ks rising) (omega (arith, suc-mul a b))))
