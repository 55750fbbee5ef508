-- What a refusal of a table that was judged tells of it. Assumes nothing.
use mathlib.Core.Bool.{Bool, true, false}
use mathlib.Core.Path.{◌≡◌, refl}
use Rattle.std.specs.Prelude.{Ok, Err}
use Rattle.call_replies.specs.declared.Refusal.{Refusal}
use Rattle.call_replies.specs.declared.Refusal.TheVariants.{NotSound}
use Rattle.call_changes.specs.Known.{sound_or_refused}

pub was_sound : (b : Bool) → sound_or_refused b ≡ Ok tt → b ≡ true
was_sound true e = refl
was_sound false e = cc

pub was_unsound : (b : Bool) (reason : Refusal) → sound_or_refused b ≡ Err reason → (b ≡ false) × (reason ≡ NotSound)
was_unsound true reason e = cc
was_unsound false reason e = (refl, cc)
