-- What the tests of a listing say of its reply and of the output after it. Assumes nothing.
use mathlib.Core.Bool.{true, false}
use mathlib.Core.List.{List}
use mathlib.Core.Path.{◌≡◌}
use Prim.Native.Nat.{ℕ, ◌<◌, ◌≤◌}
use native.Mathlib.Omega.{arith}
use lib.ListN.{length}
use borrow.Author.Tests.{lt-ltb, le-ltb}
use Rattle.std.specs.Prelude.{Result, Ok, Err}
use Rattle.lists.specs.Lists.{overwrite}
use Rattle.image.specs.Image.{read_image, is_image}
use Rattle.text_listing.specs.Listing.{listing_of}
use Rattle.call_replies.specs.Replies.{sized_of}
use Rattle.call_replies.specs.declared.Refusal.{Refusal}
use Rattle.call_replies.specs.declared.Refusal.TheVariants.{NotAnImage, OutputTooShort}
use Rattle.call_meaning.specs.Reasons.{not_an_image, output_too_short}
use Rattle.call_list.specs.Listed.{text_of, list_refusal, list_reply, list_output}

module _ (bytes output : List ℕ) where
  -- What a listing that answers so and leaves this output meets.
  abbrev pub Meets : Result ℕ Refusal → List ℕ → Type 0
  Meets answer after = record {
    reply_value : sized_of answer ≡ list_reply bytes output;
    output_after : after ≡ list_output bytes output;
  }

  pub refused_bytes : is_image bytes ≡ false → Meets (Err NotAnImage) output
  unfolding list_reply list_output list_refusal not_an_image
  refused_bytes e = record { reply_value = rw e; output_after = rw e }

  module _ (one : is_image bytes ≡ true) (n : ℕ) (size : n ≡ length (listing_of (read_image bytes))) where
    pub refused_short : length output < n → Meets (Err OutputTooShort) output
    unfolding list_reply list_output list_refusal not_an_image output_too_short text_of
    refused_short h =
        let short = lt-ltb (length output) (length (listing_of (read_image bytes))) (omega arith) in
        record { reply_value = rw (one, short); output_after = rw (one, short) }

    pub accepted : n ≤ length output → (after : List ℕ) → after ≡ overwrite output 0 (listing_of (read_image bytes)) → Meets (Ok n) after
    unfolding list_reply list_output list_refusal not_an_image output_too_short text_of
    accepted h after e =
        let fits = le-ltb (length output) (length (listing_of (read_image bytes))) (omega arith) in
        record { reply_value = rw (one, fits, size); output_after = rw (one, fits) e }
