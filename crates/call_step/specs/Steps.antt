-- What a step replies and where it leaves its place, and what steps in a row reply. Assumes nothing.
use Rattle.std.specs.Prelude.{Bool, true, false, cond, List, [], ◌∷◌, ◌++◌, map, ℕ, zero, suc, ◌+◌, ◌-◌, ◌^◌, eqb, take, replicate, Option, Some, None, Result, Ok, Err}
use Rattle.table.specs.Contents.{keys_in}
use Rattle.table_least.specs.LeastKey.{least_within}
use Rattle.call_replies.specs.Replies.{Reply, first_that_applies, unless_refused}
use Rattle.call_replies.specs.declared.Refusal.{Refusal}
use Rattle.call_meaning.specs.Reasons.{wrong_length, not_sound, shown}
use Rattle.call_step.specs.declared.Place.{Place}

-- "A key is a 64-bit unsigned number, 1 to 2^64 − 1": the last of them.
abbrev pub greatest_key : ℕ
greatest_key = 2 ^ 64 - 1

-- "The place is one small record, next, high and a done mark".
abbrev pub place_of : ℕ → ℕ → Bool → Place
place_of next high done = record { next = next; high = high; done = done }

-- The place from which a range is read.
abbrev pub place_from : ℕ → ℕ → Place
place_from low high = place_of low high false

-- "The place for the whole library and the spent place have fixed names: next 0, high 2^64 − 1, not done; and next 0, high 0, done."
abbrev pub whole_place : Place
whole_place = place_of 0 greatest_key false

abbrev pub spent_place : Place
spent_place = place_of 0 0 true

-- "A refusal returns its number, all other numbers zero".
abbrev pub refused_reply : ℕ → Reply
refused_reply number = record { refusal = number; numbers = 0 ∷ 0 ∷ [] }

-- "The step yields the least held key": one, and the key.
abbrev pub key_reply : ℕ → Reply
key_reply key = record { refusal = 0; numbers = 1 ∷ key ∷ [] }

-- It "answers end": two zeros.
abbrev pub end_reply : Reply
end_reply = record { refusal = 0; numbers = 0 ∷ 0 ∷ [] }

-- "A step 1, 7."
unfoldable pub step_refusal : List ℕ → ℕ
step_refusal words = first_that_applies (wrong_length words ∷ not_sound words ∷ [])

-- "the least held key from next to high"; zero where there is none.
unfoldable pub sought : List ℕ → Place → ℕ
sought words place = least_within place.next place.high (keys_in (shown words))

-- The reply of a step that found this key; "if there is none it .. answers end".
unfoldable pub yielded : ℕ → Reply
yielded key = cond (eqb key 0) end_reply (key_reply key)

-- It "sets done".
abbrev pub finished : Place → Place
finished place = place_of place.next place.high true

-- It "sets next to it plus one; after key 2^64 − 1 it sets done instead and keeps next."
unfoldable pub passed : ℕ → Place → Place
passed key place = cond (eqb key greatest_key) (finished place) (place_of (key + 1) place.high place.done)

-- The place after this key was found; "if there is none it sets done".
unfoldable pub moved : ℕ → Place → Place
moved key place = cond (eqb key 0) (finished place) (passed key place)

-- The place after a step that answered so: past the key; done at the end; and as it was after a refusal.
abbrev pub place_after : Result (Option ℕ) Refusal → Place → Place
place_after (Ok (Some key)) place = passed key place
place_after (Ok None) place = finished place
place_after (Err r) place = place

-- "If not done, the step yields the least held key from next to high ... If done, it answers end".
unfoldable pub step_reply : List ℕ → Place → Reply
step_reply words place =
    unless_refused (step_refusal words) (cond place.done end_reply (yielded (sought words place))) (refused_reply (step_refusal words))

-- "Each step moves it on ... If done, it .. changes nothing", and a refusal "changes no lent memory, the place included".
unfoldable pub step_place : List ℕ → Place → Place
step_place words place = unless_refused (step_refusal words) (cond place.done place (moved (sought words place) place)) place

-- The replies of so many steps in a row over the same words, each from the place that the one before left.
abbrev pub steps_from : List ℕ → ℕ → Place → List Reply
steps_from words zero place = []
steps_from words (suc n) place = step_reply words place ∷ steps_from words n (step_place words place)

-- "A range may also be had key by key": the first so many replies, when each key of a list is yielded and then end for ever.
unfoldable pub keys_then_end : List ℕ → ℕ → List Reply
keys_then_end keys n = take n (map key_reply keys ++ replicate n end_reply)
