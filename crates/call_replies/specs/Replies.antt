-- What a call replies, as document 01 counts it: the number of a refusal and the other numbers. Assumes nothing.
use Rattle.std.specs.Prelude.{Bool, cond, List, [], ◌∷◌, ℕ, zero, suc, ℤ, pos, Option, Some, None, Result, Ok, Err}
use Rattle.paris_points.specs.declared.Size.{Size}
use Rattle.table_descend.specs.declared.Standing.{Standing}
use Rattle.table_descend.specs.declared.Looked.{Looked}
use Rattle.call_replies.specs.declared.Refusal.{Refusal}
use Rattle.call_replies.specs.declared.Refusal.TheVariants.{WrongLength, WrongOrder, ZeroKey, LowAboveHigh, NotRising, NotAnImage, NotSound, KeyHeld, KeyAbsent, TooManyKeys, OutputTooShort, WrongMeasure}

-- "A refusal returns its number, all other numbers zero": the number, zero when the call is accepted, and the others.
pub record Reply : Type 0 where
  pub refusal : ℕ
  pub numbers : List ℕ

-- "Turned down because of the input" and "because of the state", 1 to 11 (01); "12 for a measure outside these rules, missing or left over"
-- (02, N4).
abbrev pub number_of : Refusal → ℕ
number_of WrongLength = 1
number_of WrongOrder = 2
number_of ZeroKey = 3
number_of LowAboveHigh = 4
number_of NotRising = 5
number_of NotAnImage = 6
number_of NotSound = 7
number_of KeyHeld = 8
number_of KeyAbsent = 9
number_of TooManyKeys = 10
number_of OutputTooShort = 11
number_of WrongMeasure = 12

-- A reason for a refusal: its number, and whether it applies.
pub record Reason : Type 0 where
  pub number : ℕ
  pub applies : Bool

-- "The lowest number that applies is returned"; 12 is "checked straight after 5, on insert after 3" (02, N4): the reasons stand in the order in
-- which they are checked, and the number is that of the first that applies; zero where none does.
abbrev pub first_that_applies : List Reason → ℕ
first_that_applies [] = 0
first_that_applies (r ∷ rs) = cond r.applies r.number (first_that_applies rs)

-- "A call for which no number is named gives none when accepted": set-up, load, build and the reader.
abbrev pub done_of : Result Unit Refusal → Reply
done_of (Ok done) = record { refusal = 0; numbers = [] }
done_of (Err r) = record { refusal = number_of r; numbers = [] }

-- "Insert and delete give the key's rank".
abbrev pub ranked_of : Result ℕ Refusal → Reply
ranked_of (Ok rank) = record { refusal = 0; numbers = rank ∷ [] }
ranked_of (Err r) = record { refusal = number_of r; numbers = 0 ∷ [] }

-- A number of things. A batch: "the reply gives the number of different blocks over all the search paths" (02, N2). A range: "the held keys
-- .. and their number". The writer: "length is 15 + 14·b + 30·n; the writer gives it", 6 bytes more for each measured key (02, N4), and the
-- salt's eight where it is not zero (02, N9). A listing: the length of its text; printed pages: "the number of bytes written" (02, N6).
abbrev pub sized_of : Result ℕ Refusal → Reply
sized_of (Ok n) = record { refusal = 0; numbers = n ∷ [] }
sized_of (Err r) = record { refusal = number_of r; numbers = 0 ∷ [] }

-- "Lookup gives held or absent, and rank, count and leader (zeros when absent). It also gives the number of different blocks" (01); lookups
-- carry measures (02, N4): one for held, zero for absent, then the four numbers, then the length.
abbrev pub stands_as : Option Standing → ℕ → List ℕ
stands_as (Some s) blocks = 1 ∷ s.rank ∷ s.count ∷ s.leader ∷ blocks ∷ s.length ∷ []
stands_as None blocks = 0 ∷ 0 ∷ 0 ∷ 0 ∷ blocks ∷ 0 ∷ []

abbrev pub looked_up_of : Result Looked Refusal → Reply
looked_up_of (Ok looked) = record { refusal = 0; numbers = stands_as looked.standing looked.blocks }
looked_up_of (Err r) = record { refusal = number_of r; numbers = 0 ∷ 0 ∷ 0 ∷ 0 ∷ 0 ∷ 0 ∷ [] }

-- The correction that a lookup gives, a number with a sign; zero where there is none.
abbrev pub correction_in : Option Standing → ℤ
correction_in (Some s) = s.correction
correction_in None = pos 0

abbrev pub correction_of : Result Looked Refusal → ℤ
correction_of (Ok looked) = correction_in looked.standing
correction_of (Err r) = pos 0

-- "The step yields the least held key", one and the key, or "answers end", two zeros.
abbrev pub stepped_of : Result (Option ℕ) Refusal → Reply
stepped_of (Ok (Some key)) = record { refusal = 0; numbers = 1 ∷ key ∷ [] }
stepped_of (Ok None) = record { refusal = 0; numbers = 0 ∷ 0 ∷ [] }
stepped_of (Err r) = record { refusal = number_of r; numbers = 0 ∷ 0 ∷ [] }

-- "The last's size in half points" (02, N5): one for a measured last, and its half points; "an unmeasured last has no size", two zeros.
abbrev pub pointed_of : Result (Option Size) Refusal → Reply
pointed_of (Ok (Some size)) = record { refusal = 0; numbers = 1 ∷ size.half_points ∷ [] }
pointed_of (Ok None) = record { refusal = 0; numbers = 0 ∷ 0 ∷ [] }
pointed_of (Err r) = record { refusal = number_of r; numbers = 0 ∷ 0 ∷ [] }

-- "The signed rest"; zero where there is none.
abbrev pub rest_of : Result (Option Size) Refusal → ℤ
rest_of (Ok (Some size)) = size.rest
rest_of (Ok None) = pos 0
rest_of (Err r) = pos 0

module _ {A : Type 0} where
  -- "A refusal returns its number, all other numbers zero, and changes no lent memory": what a call that was refused under this
  -- number, zero for none, gives or leaves.
  abbrev pub unless_refused : ℕ → A → A → A
  unless_refused zero accepted refused = accepted
  unless_refused (suc number) accepted refused = refused
