-- `measure::put_tags` meets its contract. Assumes nothing.
use Rattle.std.proofs.Common.{ℕ, ◌≡◌, List, get_or, set, take, sym, ap, ap₂, ◌∙◌, add-one, arith, rules, pos, w32}
use lib.IntN.{ℤ}
use mir.Val.{SFits, to_z, of_z}
use mir.ValLaws.{to_z-of_z}
use Rattle.lists.specs.Lists.{overwrite}
use Rattle.lists.proofs.Overwrite.{overwrite_none}
use Rattle.measure.specs.Measure.{is_measure}
use Rattle.measure.specs.Tag.{tag_of}
use Rattle.measure.proofs.Beside.{tags_beside, entry_right, tagged_next, tagged_all}
use Rattle.measure.proofs.put_tags.Goals as goal

-- the correction, read back
same : (zs : List ℤ) (i : ℕ) → SFits w32 (get_or zs i (pos 0)) → to_z w32 (of_z w32 (get_or zs i (pos 0))) ≡ get_or zs i (pos 0)
same zs i fits = to_z-of_z w32 (get_or zs i (pos 0)) fits

pub loop-i-init : goal.loop-i-init
loop-i-init c = sym (overwrite_none c.args.tags.now 0)

pub tag_of-requires : goal.tag_of-requires
tag_of-requires c =
    ap (λ (z : ℤ). is_measure (record { length = get_or c.args.lengths.now c.loop-i.i 0; correction = z })) (same c.args.corrections.now c.loop-i.i (search rules))
    ∙ entry_right c.args.lengths.now c.args.corrections.now c.requires.sizes_match.0 c.requires.all_measures c.loop-i.i c.loop-i-test.true

pub loop-i-preserved : goal.loop-i-preserved
loop-i-preserved c =
    let at = c.loop-i.i in
    let lengths = c.args.lengths.now in
    let corrections = c.args.corrections.now in
    let before = c.args.tags.now in
    let sizes = c.requires.sizes_match in
    let result =
    c.tag_of.ensures ∙ ap (λ (z : ℤ). tag_of (record { length = get_or lengths at 0; correction = z })) (same corrections at (search rules))
    in
    ap₂ (λ (xs : List ℕ) (x : ℕ). set xs at x) c.loop-i.invariant result
    ∙ tagged_next lengths corrections sizes.0 before sizes.1 at c.loop-i-test.true
    ∙ ap (λ (n : ℕ). overwrite before 0 (take n (tags_beside lengths corrections))) (sym (add-one at))

pub returns : goal.returns
returns c =
    c.loop-i.invariant
    ∙ tagged_all c.args.lengths.now c.args.corrections.now c.requires.sizes_match.0 c.args.tags.now c.requires.sizes_match.1 c.loop-i.i (omega arith)
