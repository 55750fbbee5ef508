-- `text_listing::line::Line::put` meets its contract. Assumes nothing.
use mathlib.Core.Path.{◌≡◌, subst}
use Prim.Native.Nat.{◌+◌, ◌≤◌}
use lib.ListN.{length}
use Rattle.text_listing.specs.declared.line.Line.{Line}
use Rattle.text_listing.specs.Lines.{text_of}
use Rattle.text_listing.proofs.line.Line.put.Goals as goal
use Rattle.text_listing.proofs.line.Line.put.Goals.{Start}

-- there is room for the text of the line that it is
room : (start : Start) (line : Line) → start.args.self ≡ line → start.args.at + length (text_of line) ≤ length start.args.output.now
room start line is = subst (λ (l : Line). start.args.at + length (text_of l) ≤ length start.args.output.now) is start.requires

pub put_header_line-requires : goal.put_header_line-requires
put_header_line-requires c = room (goal.at.put_header_line-requires c).Start _ c.in-Header.is

pub put_block_line-requires : goal.put_block_line-requires
put_block_line-requires c = room (goal.at.put_block_line-requires c).Start _ c.in-Block.is

pub put_key_line-requires : goal.put_key_line-requires
put_key_line-requires c = room (goal.at.put_key_line-requires c).Start _ c.in-Key.is

pub returns-in-Header : goal.returns-in-Header
returns-in-Header c = rw c.in-Header.is c.put_header_line.ensures

pub returns-in-Block : goal.returns-in-Block
returns-in-Block c = rw c.in-Block.is c.put_block_line.ensures

pub returns-in-Key : goal.returns-in-Key
returns-in-Key c = rw c.in-Key.is c.put_key_line.ensures
