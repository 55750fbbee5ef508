-- `text_listing::records::Records::new` meets its contract. Assumes nothing.
use mathlib.Core.Path.{◌≡◌}
use lib.ListN.{length, take, drop}
use Prim.Native.Nat.{◌-◌}
use Rattle.image.specs.Image.{header_span}
use Rattle.image_collect.proofs.Passing.{from_header}
use Rattle.text_listing.proofs.Walking.{header_shows, header_there, header_passed}
use Rattle.text_listing.proofs.records.Records.new.Goals as goal
use Rattle.text_listing.proofs.records.Records.new.Goals.{After-header_span-start}

handed_on : (c : After-header_span-start) →
    let image = c.args.image.now in
    take (length image - c.header_span-start.result) (drop c.header_span-start.result image) ≡ drop (header_span image) image
handed_on c = from_header c.args.image.now c.header_span-start.result c.header_span-start.ensures

pub returns-clause-shows : goal.returns-clause-shows
returns-clause-shows c = header_shows _ _ (handed_on (goal.at.returns-clause-shows c).After-header_span-start) _ c.get.ensures

pub returns-clause-there : goal.returns-clause-there
returns-clause-there c = header_there _ _ (handed_on (goal.at.returns-clause-there c).After-header_span-start) c.requires _ c.get.ensures

pub returns-clause-passes : goal.returns-clause-passes
returns-clause-passes c = header_passed _ _ (handed_on (goal.at.returns-clause-passes c).After-header_span-start) c.requires
