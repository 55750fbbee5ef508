-- What is noted in the book has the members and the measures that the documents name, and reading an image takes up what it was written
-- from. Assumes nothing.
use mathlib.Core.Bool.{false, cond, not, ◌&&◌}
use mathlib.Core.List.{List}
use mathlib.Core.Path.{◌≡◌, sym, ap, ◌∙◌, refl}
use Prim.Native.Nat.{ℕ, ◌<◌}
use lib.Dec.{eqb}
use lib.IntN.{ℤ, pos}
use lib.ListN.{length, get_or}
use borrow.Author.Tests.{eqb-true, eq-eqb}
use Rattle.lists.specs.Lists.{Rising, member}
use Rattle.lists.proofs.Tests.{by_test, same_test}
use Rattle.measure.specs.Measure.{Measure, unmeasured, measures_beside}
use Rattle.measure.proofs.Beside.{beside_at}
use Rattle.table.specs.Contents.{Contents, keys_in, measure_in}
use Rattle.table.proofs.Entries.{with_keys, found_beside, not_found}
use Rattle.image.proofs.Reading.{read_of_image}
use Rattle.image.proofs.Judging.{is_image_says, image_passes}
use Rattle.call_sets.proofs.Members.{joined_members, left_members, joined_measure, left_measure}
use Rattle.history.specs.Book.{listed, with_key, without_key}
use Rattle.history.specs.Theorems.{BookRules}

-- which of two keys is named first does not matter
either_way_equal : (key other : ℕ) → eqb key other ≡ eqb other key
either_way_equal key other =
    same_test (eqb key other) (eqb other key)
    (λ e. eq-eqb other key (sym (eqb-true key other e)))
    (λ e. eq-eqb key other (sym (eqb-true other key e)))

beside_listed : (order salt : ℕ) (list lengths : List ℕ) (corrections : List ℤ) → Rising list → length lengths ≡ length list
    → length corrections ≡ length list → (i : ℕ) → i < length list
    → measure_in (listed order salt list lengths corrections).entries (get_or list i 0) ≡ record { length = get_or lengths i 0; correction = get_or corrections i (pos 0) }
beside_listed order salt list lengths corrections rise long wide i h =
    found_beside list (measures_beside lengths corrections) i rise h ∙ beside_at lengths corrections (wide ∙ sym long) i

joins_measured : (key other : ℕ) (measure : Measure) (book : Contents) → member key (keys_in book) ≡ false
    → measure_in (with_key key measure book).entries other ≡ cond (eqb other key) measure (measure_in book.entries other)
joins_measured key other measure book absent =
    joined_measure (record { key = key; measure = measure }) other book.entries absent
    ∙ ap (λ b. cond b measure (measure_in book.entries other)) (either_way_equal key other)

leaves_measured : (key other : ℕ) (book : Contents)
    → measure_in (without_key key book).entries other ≡ cond (eqb other key) unmeasured (measure_in book.entries other)
leaves_measured key other book =
    by_test (eqb other key)
    (λ e.
    let gone : member other (keys_in (without_key key book)) ≡ false =
    left_members key other book.entries ∙ ap (λ b. not b && member other (keys_in book)) e
    in
    rw e (not_found (without_key key book).entries other gone))
    (λ e. rw e (left_measure key other book.entries e))

pub book_rules : BookRules
book_rules =
    record {
      lists = λ order salt list lengths corrections. with_keys list (measures_beside lengths corrections);
      lists_measures = beside_listed;
      joins = λ key other measure book. joined_members (record { key = key; measure = measure }) other book.entries;
      joins_measures = joins_measured;
      leaves = λ key other book. left_members key other book.entries;
      joins_keeps = λ key measure book. (refl, refl);
      leaves_keeps = λ key book. (refl, refl);
      leaves_measures = leaves_measured;
      reads = λ bytes lent passed. is_image_says bytes passed lent;
      read_back = λ c valid. (image_passes c valid, read_of_image c valid);
    }
