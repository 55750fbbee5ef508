-- What the programs print, test by test, and what they have read where nothing is refused. Assumes nothing.
use Rattle.std.specs.Prelude.{Result, Ok, Err, OnOk}
use mathlib.Core.Bool.{true, false, cond, not}
use mathlib.Core.List.{List, [], ◌∷◌}
use mathlib.Core.Logic.{◌≢◌}
use mathlib.Core.Path.{◌≡◌, refl, sym, ap, ap₂, ◌∙◌}
use Prim.Native.Nat.{ℕ, ◌<◌, ◌≤◌}
use native.Mathlib.Omega.{arith}
use lib.Dec.{eqb, ltb}
use lib.ListN.{length, get_or}
use borrow.Author.Tests.{eq-eqb, ne_eqb, lt-ltb, le-ltb, ltb-false, not-true}
use mir.Syntax.{w8}
use mir.Val.{Fits}
use Rattle.lists.specs.Lists.{All, overwrite}
use Rattle.lists.proofs.Keep.{all_of_indices}
use Rattle.lists.proofs.Tests.{by_test, and_left}
use Rattle.table.specs.Contents.{keys_in}
use Rattle.table.specs.Layout.{table_words}
use Rattle.table.specs.Table.{fresh}
use Rattle.table_limits.specs.Lengths.{slots_for}
use Rattle.table_judge.specs.Judge.{is_sound}
use Rattle.image.specs.Layout.{IsByte}
use Rattle.image.specs.Image.{read_image, is_image}
use Rattle.image.proofs.Judging.{is_image_says}
use Rattle.text.specs.Ascii.{ascii}
use Rattle.text.specs.Written.{Written}
use Rattle.text_pages.specs.Pages.{pages_of}
use Rattle.text_pages.specs.Claims.{pages_bytes}
use Rattle.text_pages.proofs.Counting.{pages_reach}
use Rattle.text_pages.proofs.Claims.{pages_length}
use Rattle.call_replies.specs.Replies.{Reply, unless_refused, done_of, sized_of}
use Rattle.call_replies.specs.declared.Refusal.{Refusal}
use Rattle.call_replies.proofs.Refusals.{numbered}
use Rattle.call_meaning.specs.Reasons.{wrong_length, not_an_image, not_sound, too_many_keys, output_too_short, shown}
use Rattle.call_meaning.specs.Calls.{rewritten, read_refusal, read_reply, read_after, text_refusal, text_reply, text_output}
use Rattle.call_meaning.proofs.Judged.{slots_here}
use Rattle.call_meaning.proofs.Shows.{Shows, shows}
use Rattle.call_pages.specs.Paged.{pages_refusal, pages_reply, pages_output}
use Rattle.image_programs.specs.declared.Kind.{Kind}
use Rattle.image_programs.specs.Printed.{program_slots, program_bytes, program_room, program_refusal, refused_text, text_as, printed, ReadInto}

-- reading into a table of so many slots is refused so
pub refusal_is : (words bytes : List ℕ) → length words ≡ table_words program_slots → read_refusal words bytes ≡ program_refusal bytes
unfolding read_refusal program_refusal wrong_length too_many_keys
refusal_is words bytes long = rw (slots_here words program_slots (omega arith) (omega arith) long) refl

pub reply_refusal : (words bytes : List ℕ) (r : Reply) → length words ≡ table_words program_slots → r ≡ read_reply words bytes → r.refusal ≡ program_refusal bytes
unfolding read_reply
reply_refusal words bytes r long e = ap (λ (s : Reply). s.refusal) e ∙ refusal_is words bytes long

module _ (kind : Kind) (bytes : List ℕ) where
  pub too_long : program_bytes < length bytes → ascii "too long\n" ≡ printed kind bytes
  unfolding printed
  too_long h = rw (lt-ltb program_bytes (length bytes) h) refl

  module _ (short : length bytes ≤ program_bytes) where
    pub refused : program_refusal bytes ≢ 0 → refused_text (program_refusal bytes) ≡ printed kind bytes
    unfolding printed
    refused d = rw (le-ltb program_bytes (length bytes) short, ne_eqb (program_refusal bytes) 0 d) refl

    pub accepted : program_refusal bytes ≡ 0 → text_as kind bytes ≡ printed kind bytes
    unfolding printed
    accepted e = rw (le-ltb program_bytes (length bytes) short, eq-eqb (program_refusal bytes) 0 e) refl

-- ---- what is not refused
module _ (bytes : List ℕ) (none : program_refusal bytes ≡ 0) where
  -- is an image
  one : is_image bytes ≡ true
  unfolding program_refusal not_an_image
  one =
      by_test (is_image bytes) (λ t. t)
      (λ t.
      let six : 6 ≡ 0 = sym (ap (λ b. cond (not b) 6 (cond (ltb program_slots (length (keys_in (read_image bytes)))) 10 0)) t) ∙ none in
      absurd (omega arith))

  -- of no more keys than slots
  few : length (keys_in (read_image bytes)) ≤ program_slots
  unfolding program_refusal not_an_image
  few =
      by_test (ltb program_slots (length (keys_in (read_image bytes))))
      (λ t.
      let ten : 10 ≡ 0 = sym (ap₂ (λ b d. cond (not b) 6 (cond d 10 0)) one t) ∙ none in
      absurd (omega arith))
      (λ t. ltb-false program_slots (length (keys_in (read_image bytes))) t)

  -- and is read
  read_into : (words after : List ℕ) → All IsByte bytes → length words ≡ table_words program_slots → length bytes ≤ program_bytes
      → after ≡ read_after words bytes → ReadInto after bytes
  unfolding read_after rewritten
  read_into words after are-bytes long short e =
      let valid = (is_image_says bytes one are-bytes).0 in
      let slots = slots_here words program_slots (omega arith) (omega arith) long in
      record {
        short = short;
        image = one;
        valid = record { order_right = valid.order_right; salt_right = valid.salt_right; keys_right = valid.keys_right; keys_rise = valid.keys_rise; keys_fit = few; measures_right = valid.measures_right };
        table =
            e
            ∙ ap (λ (number : ℕ). unless_refused number (fresh (slots_for (length words)) (read_image bytes)) words) (refusal_is words bytes long ∙ none)
            ∙ ap (λ (many : ℕ). fresh many (read_image bytes)) slots;
      }

-- an answer without a refusal says that it is read
pub read_when : (bytes : List ℕ) → ((i : ℕ) → Fits w8 (get_or bytes i 0)) → (words after : List ℕ) → length words ≡ table_words program_slots → length bytes ≤ program_bytes
    → after ≡ read_after words bytes → (answer : Result Unit Refusal) → (done_of answer).refusal ≡ program_refusal bytes → OnOk answer (ReadInto after bytes)
read_when bytes lent words after long short e (Ok done) says = read_into bytes (sym says) words after (all_of_indices IsByte bytes 0 (λ i h. omega (arith, lent i))) long short e
read_when bytes lent words after long short e (Err r) says = tt

-- ---- the pages of the table that was read
module _ {words bytes : List ℕ} (read : ReadInto words bytes) where
  table_shows : Shows program_slots words (read_image bytes)
  table_shows = shows program_slots words (read_image bytes) (omega arith) (omega arith) read.valid read.table

  pub table_sound : is_sound words ≡ true
  table_sound = table_shows.sound

  pub pages_read : pages_of (shown words) ≡ pages_of (read_image bytes)
  pages_read = ap pages_of table_shows.holds

  pub pages_fit : length (pages_of (shown words)) ≤ program_room
  unfolding pages_bytes
  pages_fit =
      let few = read.valid.keys_fit in
      omega (
        arith,
        ap length pages_read,
        pages_length (read_image bytes) (omega arith) read.valid.measures_right,
        pages_reach (length (keys_in (read_image bytes))),
      )

-- the pages of a sound table are printed where there is room for them
module _ (words output : List ℕ) (sound : is_sound words ≡ true) (fits : length (pages_of (shown words)) ≤ length output) where
  right_long : eqb (slots_for (length words)) 0 ≡ false
  unfolding is_sound
  right_long = not-true (eqb (slots_for (length words)) 0) (and_left (not (eqb (slots_for (length words)) 0)) _ sound)

  printing_accepted : pages_refusal words output ≡ 0
  unfolding text_refusal wrong_length not_sound output_too_short
  printing_accepted = rw (right_long, sound, le-ltb (length output) (length (pages_of (shown words))) fits)

  -- so that the call gives how long they are
  pub pages_given : (answer : Result ℕ Refusal) → sized_of answer ≡ pages_reply words output → answer ≡ Ok (length (pages_of (shown words)))
  unfolding text_reply
  pages_given (Ok n) says =
      ap Ok (ap (λ (r : Reply). get_or r.numbers 0 0) says ∙ ap (λ (k : ℕ). get_or (unless_refused k (length (pages_of (shown words)) ∷ []) (0 ∷ [])) 0 0) printing_accepted)
  pages_given (Err r) says = let zero = ap (λ (s : Reply). s.refusal) says ∙ printing_accepted in absurd (omega (arith, numbered r, zero))

  pub pages_written : (after : List ℕ) → after ≡ pages_output words output → Written output 0 (pages_of (shown words)) after (length (pages_of (shown words)))
  unfolding text_output
  pages_written after e =
      record { holds = e ∙ ap (λ (k : ℕ). unless_refused k (overwrite output 0 (pages_of (shown words))) output) printing_accepted; ends = omega arith }
