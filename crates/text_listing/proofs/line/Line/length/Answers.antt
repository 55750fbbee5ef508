-- `text_listing::line::Line::length` meets its contract. Assumes nothing.
use mathlib.Core.Path.{sym, ap, ◌∙◌}
use native.Mathlib.Omega.{arith}
use borrow.Author.Rules.{rules}
use lib.ListN.{length}
use Rattle.text_lines.proofs.Lengths.{header_line_most, block_line_most, key_line_most}
use Rattle.text_listing.specs.Lines.{text_of}
use Rattle.text_listing.proofs.line.Line.length.Goals as goal

pub returns-in-Header-clause-value : goal.returns-in-Header-clause-value
returns-in-Header-clause-value c = c.header_length.ensures ∙ ap (λ l. length (text_of l)) (sym c.in-Header.is)

pub returns-in-Header-clause-upper_bound : goal.returns-in-Header-clause-upper_bound
returns-in-Header-clause-upper_bound c =
    let l = c.in-Header in
    rw l.is (omega (arith, c.header_length.ensures, header_line_most l.order l.keys l.blocks l.fill l.root (search rules) (search rules) (search rules) (search rules)))

pub returns-in-Block-clause-value : goal.returns-in-Block-clause-value
returns-in-Block-clause-value c = c.block_length.ensures ∙ ap (λ l. length (text_of l)) (sym c.in-Block.is)

pub returns-in-Block-clause-upper_bound : goal.returns-in-Block-clause-upper_bound
returns-in-Block-clause-upper_bound c =
    let l = c.in-Block in
    rw l.is (omega (arith, c.block_length.ensures, block_line_most l.leader l.level l.keys (search rules) (search rules)))

pub returns-in-Key-clause-value : goal.returns-in-Key-clause-value
returns-in-Key-clause-value c = c.key_length.ensures ∙ ap (λ l. length (text_of l)) (sym c.in-Key.is)

pub returns-in-Key-clause-upper_bound : goal.returns-in-Key-clause-upper_bound
returns-in-Key-clause-upper_bound c =
    let l = c.in-Key in
    rw l.is (omega (arith, c.key_length.ensures, key_line_most l.key l.rank l.count (search rules) (search rules)))
