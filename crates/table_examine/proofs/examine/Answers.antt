-- `table_examine::examine` meets its contract. Assumes nothing.
use mathlib.Core.Bool.{true, false}
use mathlib.Core.List.{List}
use mathlib.Core.Path.{◌≡◌, sym, ap, ◌∙◌, subst}
use Prim.Native.Nat.{ℕ, ◌≤◌}
use native.Mathlib.Omega.{arith}
use lib.ListN.{length, get_or, take}
use lib.Seq.{length-take-le}
use Rattle.lists.specs.Lists.{All, lies, overwrite, rises_b, same}
use Rattle.lists.proofs.Start.{starts_with}
use Rattle.lists.proofs.Tests.{true_or_false}
use Rattle.table.specs.Layout.{least_order, greatest_order, order_word, salt_word}
use Rattle.table.specs.Contents.{Entry, Contents, table_order, keys_in, right_measure}
use Rattle.table.specs.Tags.{entry_tags, tags_in, tagged, Beside}
use Rattle.table.specs.Table.{fresh, contents_of}
use Rattle.table.specs.Sound.{sound_with}
use Rattle.table.proofs.Soundness.{shown_fit}
use Rattle.table.proofs.Tagged.{tags_many, beside_of}
use Rattle.treap_columns.specs.declared.Columns.{Columns}
use Rattle.table_prepare.specs.Prepared.{Keys}
use Rattle.table_prepare.proofs.Preparing.{room}
use Rattle.table_encode.specs.Encode.{words_of, Linked}
use Rattle.table_encode.proofs.Linking.{linked, root_within, slots_low, prepared_words}
use Rattle.table_decode.specs.Decode.{contents_read}
use Rattle.table_examine.proofs.Measured.{read_right, sound_read}
use Rattle.table_examine.proofs.KeysRead.{keys_shown}
use Rattle.table_examine.proofs.Verdicts.{order_wrong, keys_do_not_rise, decided, unsound, verdict_is, keys_read, can_be_compared, compared}
use Rattle.table_examine.proofs.examine.Goals as goal
use Rattle.table_examine.proofs.examine.Goals.{After-prepare-root, After-read_keys-n, Else-not-rises, Then-not-is_order, Then-not-rises}

-- ---- what is known once the keys are read: the order is one that a table may have, and the list begins with the keys that the table shows
abbrev slots-in : After-read_keys-n → ℕ
slots-in p = p.args.many

abbrev words-in : After-read_keys-n → List ℕ
words-in p = p.args.table.now

abbrev list-in : After-read_keys-n → List ℕ
list-in p = p.read_keys-n.new.keys

abbrev tags-in : After-read_keys-n → List ℕ
tags-in p = p.read_keys-n.new.tags

right : (p : After-read_keys-n) → lies least_order greatest_order (get_or (words-in p) order_word 0) ≡ true
unfolding table_order
right p = let order = p.is_order in sym order.ensures ∙ p.if-not-is_order.false

read : (p : After-read_keys-n) → take p.read_keys-n.result (list-in p) ≡ keys_in (contents_of (slots-in p) (words-in p))
read p = keys_read (slots-in p) (words-in p) p.args.keys.now (list-in p) p.read_keys-n.result p.read_keys-n.ensures.keys_after p.read_keys-n.ensures.value

few : (p : After-read_keys-n) → p.read_keys-n.result ≤ slots-in p
few p = omega (arith, p.read_keys-n.ensures.value, shown_fit (slots-in p) (words-in p))

fits : (p : After-read_keys-n) → p.read_keys-n.result ≤ length (list-in p)
fits p = room (list-in p) (keys_in (contents_of (slots-in p) (words-in p))) p.read_keys-n.result (read p) (sym p.read_keys-n.ensures.value)

-- ---- and once they are known to rise
all-rise : (q : Else-not-rises) → rises_b (keys_in (contents_of (slots-in (goal.at.Else-not-rises q).After-read_keys-n) (words-in (goal.at.Else-not-rises q).After-read_keys-n))) ≡ true
all-rise q = ap rises_b (sym (read (goal.at.Else-not-rises q).After-read_keys-n)) ∙ sym q.rises.ensures ∙ q.if-not-rises.false

-- The set that is read.
abbrev entries-in : After-read_keys-n → List Entry
entries-in p = (contents_read (slots-in p) (words-in p)).entries

right-in : (p : After-read_keys-n) → All (λ e. right_measure e ≡ true) (entries-in p)
right-in p = read_right (slots-in p) (words-in p)

tags_long : (p : After-read_keys-n) → length (entry_tags (entries-in p)) ≡ p.read_keys-n.result
tags_long p =
    tags_many (entries-in p)
    ∙ ap length (keys_shown (slots-in p) (words-in p))
    ∙ sym p.read_keys-n.ensures.value

tags-read : (q : Else-not-rises) → take q.read_keys-n.result (tags-in (goal.at.Else-not-rises q).After-read_keys-n) ≡ entry_tags (entries-in (goal.at.Else-not-rises q).After-read_keys-n)
tags-read q =
    starts_with (tags-in (goal.at.Else-not-rises q).After-read_keys-n) q.args.tags.now (entry_tags (entries-in (goal.at.Else-not-rises q).After-read_keys-n)) q.read_keys-n.result (q.read_keys-n.ensures.tags_after (all-rise q)) (tags_long (goal.at.Else-not-rises q).After-read_keys-n)

tags_fit : (q : Else-not-rises) → q.read_keys-n.result ≤ length (tags-in (goal.at.Else-not-rises q).After-read_keys-n)
tags_fit q = room (tags-in (goal.at.Else-not-rises q).After-read_keys-n) (entry_tags (entries-in (goal.at.Else-not-rises q).After-read_keys-n)) q.read_keys-n.result (tags-read q) (tags_long (goal.at.Else-not-rises q).After-read_keys-n)

beside : (q : Else-not-rises) →
    Beside (take q.read_keys-n.result (list-in (goal.at.Else-not-rises q).After-read_keys-n)) (take q.read_keys-n.result (tags-in (goal.at.Else-not-rises q).After-read_keys-n))
beside q =
    beside_of (entries-in (goal.at.Else-not-rises q).After-read_keys-n) (right-in (goal.at.Else-not-rises q).After-read_keys-n) (read (goal.at.Else-not-rises q).After-read_keys-n ∙ sym (keys_shown (slots-in (goal.at.Else-not-rises q).After-read_keys-n) (words-in (goal.at.Else-not-rises q).After-read_keys-n))) (tags-read q)

comparable : (q : Else-not-rises) → Keys (get_or (words-in (goal.at.Else-not-rises q).After-read_keys-n) order_word 0) (take q.read_keys-n.result (list-in (goal.at.Else-not-rises q).After-read_keys-n))
comparable q =
    subst (Keys (get_or (words-in (goal.at.Else-not-rises q).After-read_keys-n) order_word 0)) (sym (read (goal.at.Else-not-rises q).After-read_keys-n)) (can_be_compared (slots-in (goal.at.Else-not-rises q).After-read_keys-n) (words-in (goal.at.Else-not-rises q).After-read_keys-n) q.requires.1 (right (goal.at.Else-not-rises q).After-read_keys-n) (all-rise q))

-- ---- and once all is prepared: the words that the table is compared with are those of its contents
compares : (m : After-prepare-root) (lent : Columns) → lent ≡ m.prepare-root.new.self.columns →
    let p = (goal.at.After-prepare-root m).After-read_keys-n in
    sound_with (slots-in p) (words-in p)
    ≡ same (words-in p) (words_of (get_or (words-in p) order_word 0) (get_or (words-in p) salt_word 0) (take m.read_keys-n.result (list-in p)) (take m.read_keys-n.result (tags-in p)) m.prepare-root.result lent (take (slots-in p) m.prepare-root.new.self.slots))
compares m lent lent_is =
    let p = (goal.at.After-prepare-root m).After-read_keys-n in
    let q = (goal.at.After-prepare-root m).Else-not-rises in
    let tags = take m.read_keys-n.result (tags-in p) in
    let shown : Contents = tagged (get_or (words-in p) order_word 0) (get_or (words-in p) salt_word 0) (take m.read_keys-n.result (list-in p)) tags in
    let keys = comparable q in
    decided (slots-in p) (words-in p) (right p) (all-rise q)
    ∙ sym (compared (slots-in p) (words-in p) (take m.read_keys-n.result (list-in p)) tags (read p) (tags-read q))
    ∙ ap (λ (k : ℕ). same (words-in p) (fresh k shown)) (sym m.prepare-root.ensures.slots_len)
    ∙ ap (same (words-in p)) (sym (prepared_words (get_or (words-in p) order_word 0) (get_or (words-in p) salt_word 0) (comparable q).wide (take m.read_keys-n.result (list-in p)) m.prepare-root.new.self.columns (take (slots-in p) m.prepare-root.new.self.slots) m.prepare-root.result m.prepare-root.ensures.prepared keys.rising keys.some tags (beside q)))
    ∙ ap (λ (columns : Columns). same (words-in p) (words_of (get_or (words-in p) order_word 0) (get_or (words-in p) salt_word 0) (take m.read_keys-n.result (list-in p)) tags m.prepare-root.result columns (take (slots-in p) m.prepare-root.new.self.slots))) (sym lent_is)

-- ---- the refusals
not_sound : (many : ℕ) (words : List ℕ) → sound_with many words ≡ false → {A : Type 0} → sound_with many words ≡ true → A
not_sound many words e t = absurd (true_or_false (sound_with many words) t e)

wrong_order : (t : Then-not-is_order) → sound_with t.args.many t.args.table.now ≡ false
unfolding table_order
wrong_order t = let order = t.is_order in order_wrong t.args.many t.args.table.now (sym order.ensures ∙ t.if-not-is_order.true)

not_rising : (t : Then-not-rises) → let p = (goal.at.Then-not-rises t).After-read_keys-n in sound_with (slots-in p) (words-in p) ≡ false
not_rising t =
    let p = (goal.at.Then-not-rises t).After-read_keys-n in
    keys_do_not_rise (slots-in p) (words-in p) (right p) (ap rises_b (sym (read p)) ∙ sym t.rises.ensures ∙ t.if-not-rises.true)

pub returns-then-not-is_order-clause-keys_after : goal.returns-then-not-is_order-clause-keys_after
returns-then-not-is_order-clause-keys_after c = not_sound c.args.many c.args.table.now (wrong_order (goal.at.returns-then-not-is_order-clause-keys_after c).Then-not-is_order)

pub returns-then-not-is_order-clause-tags_after : goal.returns-then-not-is_order-clause-tags_after
returns-then-not-is_order-clause-tags_after c = not_sound c.args.many c.args.table.now (wrong_order (goal.at.returns-then-not-is_order-clause-tags_after c).Then-not-is_order)

pub returns-then-not-is_order-clause-value : goal.returns-then-not-is_order-clause-value
returns-then-not-is_order-clause-value c = unsound c.args.many c.args.table.now (wrong_order (goal.at.returns-then-not-is_order-clause-value c).Then-not-is_order)

pub rises-requires : goal.rises-requires
rises-requires c = fits (goal.at.rises-requires c).After-read_keys-n

pub returns-then-not-rises-clause-tags_after : goal.returns-then-not-rises-clause-tags_after
returns-then-not-rises-clause-tags_after c = not_sound c.args.many c.args.table.now (not_rising (goal.at.returns-then-not-rises-clause-tags_after c).Then-not-rises)

pub returns-then-not-rises-clause-value : goal.returns-then-not-rises-clause-value
returns-then-not-rises-clause-value c = unsound c.args.many c.args.table.now (not_rising (goal.at.returns-then-not-rises-clause-value c).Then-not-rises)

pub slice_bounds-prepare-end : goal.slice_bounds-prepare-end
slice_bounds-prepare-end c = fits (goal.at.slice_bounds-prepare-end c).After-read_keys-n

pub slice_bounds-prepare-end-2 : goal.slice_bounds-prepare-end-2
slice_bounds-prepare-end-2 c = sym (length-take-le c.read_keys-n.result (list-in (goal.at.slice_bounds-prepare-end-2 c).After-read_keys-n) (fits (goal.at.slice_bounds-prepare-end-2 c).After-read_keys-n))

pub prepare-root-requires-clause-keys : goal.prepare-root-requires-clause-keys
prepare-root-requires-clause-keys c = comparable (goal.at.prepare-root-requires-clause-keys c).Else-not-rises

pub prepare-root-requires-clause-many_in_range : goal.prepare-root-requires-clause-many_in_range
prepare-root-requires-clause-many_in_range c =
    let p = (goal.at.prepare-root-requires-clause-many_in_range c).After-read_keys-n in
    let n = length-take-le c.read_keys-n.result (list-in p) (fits p) in
    let pre = c.requires in (pre.0, pre.1, omega (arith, few p))

pub slice_bounds-matches-end : goal.slice_bounds-matches-end
slice_bounds-matches-end c = fits (goal.at.slice_bounds-matches-end c).After-read_keys-n

pub slice_bounds-matches-end-2 : goal.slice_bounds-matches-end-2
slice_bounds-matches-end-2 c =
    let p = (goal.at.slice_bounds-matches-end-2 c).After-read_keys-n in
    sym (length-take-le c.read_keys-n.result (list-in p) (fits p))

pub slice_bounds-matches-end-3 : goal.slice_bounds-matches-end-3
slice_bounds-matches-end-3 c = tags_fit (goal.at.slice_bounds-matches-end-3 c).Else-not-rises

pub slice_bounds-matches-end-4 : goal.slice_bounds-matches-end-4
slice_bounds-matches-end-4 c =
    let at = goal.at.slice_bounds-matches-end-4 c in
    sym (length-take-le c.read_keys-n.result (tags-in at.After-read_keys-n) (tags_fit at.Else-not-rises))

pub matches-same-requires-clause-linked : goal.matches-same-requires-clause-linked
matches-same-requires-clause-linked c =
    let keys = comparable (goal.at.matches-same-requires-clause-linked c).Else-not-rises in
    subst (Linked _) (sym c.lent.ensures) (linked _ _ keys.wide _ _ _ _ c.prepare-root.ensures.prepared)

pub matches-same-requires-clause-root_in_bounds : goal.matches-same-requires-clause-root_in_bounds
matches-same-requires-clause-root_in_bounds c =
    let q = (goal.at.matches-same-requires-clause-root_in_bounds c).Else-not-rises in
    let keys = comparable q in
    let made = c.prepare-root.ensures.prepared in (
      root_within _ _ keys.wide _ _ _ _ made,
      slots_low _ _ keys.wide _ _ _ _ made keys.rising keys.some,
      omega (arith, (beside q).as_many),
    )

pub returns-clause-tags_after : goal.returns-clause-tags_after
returns-clause-tags_after c =
    let at = goal.at.returns-clause-tags_after c in
    let p = at.After-read_keys-n in
    λ t. c.read_keys-n.ensures.tags_after (all-rise at.Else-not-rises) ∙ ap (λ (c : Contents). overwrite p.args.tags.now 0 (tags_in c)) (sound_read (slots-in p) (words-in p) t)

pub returns-clause-value : goal.returns-clause-value
returns-clause-value c =
    let at = goal.at.returns-clause-value c in
    let p = at.After-read_keys-n in
    let same = c.matches-same in
    c.then_some.ensures
    ∙ verdict_is (slots-in p) (words-in p) same.result c.read_keys-n.result (compares at.After-prepare-root _ c.lent.ensures ∙ sym same.ensures) c.read_keys-n.ensures.value
