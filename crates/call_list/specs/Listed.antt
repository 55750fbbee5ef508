-- What listing an image replies and writes. Assumes nothing.
use Rattle.std.specs.Prelude.{List, [], ◌∷◌, ℕ, length}
use Rattle.lists.specs.Lists.{overwrite}
use Rattle.image.specs.Image.{read_image}
use Rattle.text_listing.specs.Listing.{listing_of}
use Rattle.call_replies.specs.Replies.{Reply, first_that_applies, unless_refused}
use Rattle.call_meaning.specs.Reasons.{not_an_image, output_too_short}

-- The text of the image that the bytes are.
unfoldable pub text_of : List ℕ → List ℕ
text_of bytes = listing_of (read_image bytes)

-- Of the input that it is no image, and of the output that it is too short: 6, 11.
unfoldable pub list_refusal : List ℕ → List ℕ → ℕ
list_refusal bytes output = first_that_applies (not_an_image bytes ∷ output_too_short (length output) (length (text_of bytes)) ∷ [])

-- The text's length.
unfoldable pub list_reply : List ℕ → List ℕ → Reply
list_reply bytes output =
    record {
      refusal = list_refusal bytes output;
      numbers = unless_refused (list_refusal bytes output) (length (text_of bytes) ∷ []) (0 ∷ []);
    }

unfoldable pub list_output : List ℕ → List ℕ → List ℕ
list_output bytes output = unless_refused (list_refusal bytes output) (overwrite output 0 (text_of bytes)) output
