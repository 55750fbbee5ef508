-- What the tests of a lookup say of its reply. Assumes nothing.
use mathlib.Core.Bool.{true, false}
use mathlib.Core.List.{List, [], ◌∷◌, ◌++◌}
use mathlib.Core.Logic.{◌≢◌}
use mathlib.Core.Path.{◌≡◌, refl, sym, ap, ◌∙◌}
use Prim.Native.Nat.{ℕ}
use lib.Dec.{eqb}
use lib.ListN.{length}
use borrow.Author.Tests.{eq-eqb, ne_eqb}
use Rattle.std.specs.Prelude.{Result, Ok, Err, None}
use Rattle.lists.specs.Lists.{member}
use Rattle.lists.proofs.Tests.{by_test}
use Rattle.treap.specs.Blocks.{blocks_met}
use Rattle.table.specs.Contents.{Contents, keys_in, priority_in, measure_in}
use Rattle.table.specs.Table.{contents_of}
use Rattle.table.proofs.Entries.{not_found}
use Rattle.table_limits.specs.Lengths.{slots_for}
use Rattle.table_judge.specs.Judge.{is_sound}
use Rattle.table_descend.specs.Lookup.{standing_of, looked_up}
use Rattle.table_descend.specs.declared.Looked.{Looked}
use Rattle.call_replies.specs.Replies.{Reply, looked_up_of, correction_of}
use Rattle.call_replies.specs.declared.Refusal.{Refusal}
use Rattle.call_replies.specs.declared.Refusal.TheVariants.{WrongLength, ZeroKey, NotSound}
use Rattle.call_meaning.specs.Reasons.{wrong_length, zero_key, not_sound, shown}
use Rattle.call_meaning.specs.Calls.{rank_in, standing_in, lookup_refusal, lookup_reply, lookup_correction}

-- What an accepted lookup gives.
abbrev accepts : Contents → ℕ → Reply
accepts c key =
    record { refusal = 0; numbers = standing_in c key ++ (blocks_met c.order (priority_in c) (keys_in c) key ∷ (measure_in c.entries key).length ∷ []) }

answer_is : (c : Contents) (key : ℕ) → looked_up_of (Ok (looked_up c key)) ≡ accepts c key
unfolding looked_up standing_of standing_in rank_in
answer_is c key = by_test (member key (keys_in c)) (λ e. rw e) (λ e. rw (e, not_found c.entries key e))

correction_is : (c : Contents) (key : ℕ) → correction_of (Ok (looked_up c key)) ≡ (measure_in c.entries key).correction
unfolding looked_up standing_of
correction_is c key = by_test (member key (keys_in c)) (λ e. rw e) (λ e. rw (e, not_found c.entries key e))

-- a way down that finds no standing has the answer of an absent key
pub absent_is : (found : Looked) → found.standing ≡ None → record { standing = None; blocks = found.blocks } ≡ found
absent_is found e i = record { standing = sym e i; blocks = found.blocks }

module _ (words : List ℕ) (key : ℕ) where
  -- What a lookup that answers so meets.
  abbrev pub Meets : Result Looked Refusal → Type 0
  Meets answer = record {
    reply_value : looked_up_of answer ≡ lookup_reply words key;
    correction_value : correction_of answer ≡ lookup_correction words key;
  }

  pub refused_length : slots_for (length words) ≡ 0 → Meets (Err WrongLength)
  unfolding lookup_reply lookup_correction lookup_refusal wrong_length
  refused_length e = record { reply_value = rw e; correction_value = rw e }

  module _ (some : slots_for (length words) ≢ 0) where
    slots_right : eqb (slots_for (length words)) 0 ≡ false
    slots_right = ne_eqb (slots_for (length words)) 0 some

    pub refused_zero : key ≡ 0 → Meets (Err ZeroKey)
    unfolding lookup_reply lookup_correction lookup_refusal wrong_length zero_key
    refused_zero e =
        let zero = eq-eqb key 0 e in
        record { reply_value = rw (slots_right, zero); correction_value = rw (slots_right, zero) }

    module _ (positive : key ≢ 0) where
      pub refused_table : is_sound words ≡ false → Meets (Err NotSound)
      unfolding lookup_reply lookup_correction lookup_refusal wrong_length zero_key not_sound
      refused_table e =
          let some_key = ne_eqb key 0 positive in
          record { reply_value = rw (slots_right, some_key, e); correction_value = rw (slots_right, some_key, e) }

      pub accepted : is_sound words ≡ true → (many : ℕ) → many ≡ slots_for (length words) → (found : Looked) → found ≡ looked_up (contents_of many words) key
          → Meets (Ok found)
      unfolding lookup_reply lookup_correction lookup_refusal wrong_length zero_key not_sound shown
      accepted sound many here found e =
          let some_key = ne_eqb key 0 positive in
          record {
            reply_value =
                ap (λ (l : Looked). looked_up_of (Ok l)) e
                ∙ answer_is (contents_of many words) key
                ∙ ap (λ (n : ℕ). accepts (contents_of n words) key) here
                ∙ sym (rw (slots_right, some_key, sound) refl);
            correction_value =
                ap (λ (l : Looked). correction_of (Ok l)) e
                ∙ correction_is (contents_of many words) key
                ∙ ap (λ (n : ℕ). (measure_in (contents_of n words).entries key).correction) here
                ∙ sym (rw (slots_right, some_key, sound) refl);
          }
