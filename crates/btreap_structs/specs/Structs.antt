-- The structs of `include/btreap.h` as the replies and places of document 01. Assumes nothing.
use Rattle.std.specs.Prelude.{Bool, not, cond, [], ◌∷◌, ℕ, eqb}
use Rattle.call_replies.specs.Replies.{Reply}
use Rattle.call_step.specs.Steps.{place_of}
use Rattle.call_step.specs.declared.Place.{Place}
use Rattle.btreap_structs.specs.declared.RankedReply.{RankedReply}
use Rattle.btreap_structs.specs.declared.FoundReply.{FoundReply}
use Rattle.btreap_structs.specs.declared.SizedReply.{SizedReply}
use Rattle.btreap_structs.specs.declared.SteppedReply.{SteppedReply}
use Rattle.btreap_structs.specs.declared.PointedReply.{PointedReply}

-- "`refusal` is 0 when the call was accepted; all other numbers of a reply are 0 when it was refused": each struct is the refusal and the
-- other numbers of a reply. A lookup's correction and the rest of a size, which have signs, are equated by themselves. A step's place (next,
-- high, done) is no part of its reply, and comes back as it was passed.
abbrev pub ranked : RankedReply → Reply
ranked r = record { refusal = r.refusal; numbers = r.rank ∷ [] }

abbrev pub found : FoundReply → Reply
found r = record { refusal = r.refusal; numbers = r.held ∷ r.rank ∷ r.count ∷ r.leader ∷ r.blocks ∷ r.length ∷ [] }

-- The reply of a lookup that found no key, or was refused.
abbrev pub none_found : ℕ → ℕ → Reply
none_found refusal blocks = record { refusal = refusal; numbers = 0 ∷ 0 ∷ 0 ∷ 0 ∷ blocks ∷ 0 ∷ [] }

abbrev pub sized : SizedReply → Reply
sized r = record { refusal = r.refusal; numbers = r.size ∷ [] }

abbrev pub stepped : SteppedReply → Reply
stepped r = record { refusal = r.refusal; numbers = r.found ∷ r.key ∷ [] }

abbrev pub pointed : PointedReply → Reply
pointed r = record { refusal = r.refusal; numbers = r.measured ∷ r.half_points ∷ [] }

-- The reply for a measure that has no size, or was refused.
abbrev pub no_points : ℕ → Reply
no_points refusal = record { refusal = refusal; numbers = 0 ∷ 0 ∷ [] }

-- "`done` counts as set when it is not 0."
abbrev pub is_set : ℕ → Bool
is_set done = not (eqb done 0)

-- The place that the three numbers are.
abbrev pub place_given : ℕ → ℕ → ℕ → Place
place_given next high done = place_of next high (is_set done)

-- The mark after a step that was handed the first: 0 for a place that goes on; a mark that was set stays "as passed", and else is 1.
unfoldable pub mark_after : ℕ → Bool → ℕ
mark_after before done = cond done (cond (is_set before) before 1) 0
