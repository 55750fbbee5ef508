-- `image_recognize::recognize_with` meets its contract: there is room for the keys in each list of that many. Assumes nothing.
use mathlib.Core.Path.{sym, subst}
use lib.ListN.{length, length-replicate}
use Rattle.image_collect.specs.Reading.{RoomFor}
use Rattle.image_recognize.proofs.recognize_with.Goals as goal

pub recognize_within-requires-clause-room_for : goal.recognize_within-requires-clause-room_for
recognize_within-requires-clause-room_for g c =
    let room = subst (RoomFor (length c.args.image.now)) (sym (length-replicate g.row.KEYS 0)) c.requires.room_for.0 in (room, room, room)
