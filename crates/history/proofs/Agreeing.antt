-- Two books, tables or images agree when the others do. Assumes valid contents.
use mathlib.Core.Bool.{true}
use mathlib.Core.List.{List, map}
use mathlib.Core.Path.{◌≡◌, refl, sym, ap, ◌∙◌, subst}
use Prim.Native.Nat.{ℕ, ◌≤◌}
use native.Mathlib.Omega.{arith}
use lib.ListN.{length}
use borrow.Author.Tests.{ltb-false, le-ltb}
use Rattle.lists.specs.Lists.{member}
use Rattle.lists.proofs.Keep.{all_always, map_same}
use Rattle.lists.proofs.Membership.{all_of_members}
use Rattle.lists.proofs.Rising.{rising_unique}
use Rattle.lists.proofs.Start.{starts_with}
use Rattle.table.specs.Layout.{most_slots}
use Rattle.table.specs.Contents.{Contents, Valid, keys_in}
use Rattle.table.proofs.Entries.{entry_at, entries_by_keys}
use Rattle.image.specs.Image.{image_of}
use Rattle.image.proofs.Reading.{image_unique}
use Rattle.call_meaning.specs.Reasons.{output_too_short, shown}
use Rattle.call_meaning.specs.Calls.{write_refusal, text_reply, text_output}
use Rattle.history.specs.Call.{writing}
use Rattle.history.specs.Book.{reasons, refusal_by}
use Rattle.history.specs.Theorems.{Agree, AgreeAsLists, WritingAccepted, written_image, ImageWritten, ImagesAgree}
use Rattle.call_replies.proofs.Refusals.{none_applies}
use Rattle.call_meaning.proofs.Shows.{sound_shows}
use Rattle.history.proofs.Refused.{writing_refused}

-- ---- order, salt and set
pub same_agree : (c d : Contents) → c ≡ d → Agree c d
same_agree c d e = subst (Agree c) e (refl, refl, (λ key. refl), λ key. refl)

-- entries are told by their keys and the measures of these
same_found : (c d : Contents) → Agree c d → (keys : List ℕ) → map (entry_at c.entries) keys ≡ map (entry_at d.entries) keys
same_found c d agree keys =
    let same : (key : ℕ) → entry_at c.entries key ≡ entry_at d.entries key = λ key. ap (λ m. record { key = key; measure = m }) (agree.3 key) in
    map_same (entry_at c.entries) (entry_at d.entries) keys (all_always (λ key. entry_at c.entries key ≡ entry_at d.entries key) same keys)

pub agree_same : (many several : ℕ) (c d : Contents) → Valid many c → Valid several d → Agree c d → c ≡ d
agree_same many several c d valid right agree =
    let same_keys : keys_in c ≡ keys_in d =
    rising_unique (keys_in c) (keys_in d) valid.keys_rise right.keys_rise
    (all_of_members (λ key. member key (keys_in d) ≡ true) (keys_in c) (λ key m. sym (agree.2 key) ∙ m))
    (all_of_members (λ key. member key (keys_in c) ≡ true) (keys_in d) (λ key m. agree.2 key ∙ m))
    in
    let same_entries : c.entries ≡ d.entries =
    sym (entries_by_keys c.entries valid.keys_rise)
    ∙ same_found c d agree (keys_in c)
    ∙ ap (map (entry_at d.entries)) same_keys
    ∙ entries_by_keys d.entries right.keys_rise
    in
    λ i. record { order = agree.0 i; salt = agree.1 i; entries = same_entries i }

pub agree_as_lists : AgreeAsLists
agree_as_lists many several c d valid right = (
  λ agree. let same = agree_same many several c d valid right agree in (agree.0, agree.1, ap (λ (b : Contents). b.entries) same),
  λ same. same_agree c d (λ i. record { order = same.0 i; salt = same.1 i; entries = same.2 i }),
)

-- ---- images
-- contents of a table may stand in an image
within_most : (many : ℕ) (c : Contents) → many ≤ most_slots → Valid many c → Valid most_slots c
within_most many c most valid =
    record {
      order_right = valid.order_right;
      salt_right = valid.salt_right;
      keys_right = valid.keys_right;
      keys_rise = valid.keys_rise;
      keys_fit = omega (arith, valid.keys_fit);
      measures_right = valid.measures_right;
    }

shown_written : (words lent : List ℕ) → write_refusal words lent ≡ 0 → written_image words lent ≡ image_of (shown words)
unfolding text_reply text_output
shown_written words lent e = rw e (starts_with _ lent (image_of (shown words)) (length (image_of (shown words))) refl refl)

pub writing_accepted : WritingAccepted
unfolding refusal_by output_too_short
writing_accepted words lent sound =
    let table = sound_shows words sound in
    let long = length (image_of sound.contents) in
    let refused = writing_refused sound.many words sound.contents table lent in (
      λ e. ltb-false (length lent) long (none_applies (reasons sound.many (writing lent) sound.contents) (omega arith) (sym refused ∙ e)).0,
      λ (room : long ≤ length lent). refused ∙ rw (le-ltb (length lent) long room),
    )

pub image_written : ImageWritten
image_written words lent sound e = shown_written words lent e ∙ ap image_of (sound_shows words sound).holds

pub images_agree : ImagesAgree
images_agree words others lent room sound right accepted e = (
  λ same.
      same_agree sound.contents right.contents
      (image_unique sound.contents right.contents
      (within_most sound.many sound.contents sound.most sound.valid)
      (within_most right.many right.contents right.most right.valid)
      (sym (image_written words lent sound accepted) ∙ same ∙ image_written others room right e)),
  λ agree.
      image_written words lent sound accepted
      ∙ ap image_of (agree_same sound.many right.many sound.contents right.contents sound.valid right.valid agree)
      ∙ sym (image_written others room right e),
)
