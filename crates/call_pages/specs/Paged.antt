-- What the printing of a table's pages replies and leaves in its output (document 02, N6). Assumes nothing.
use Rattle.std.specs.Prelude.{List, ℕ}
use Rattle.text_pages.specs.Pages.{pages_of}
use Rattle.call_replies.specs.Replies.{Reply}
use Rattle.call_meaning.specs.Calls.{text_refusal, text_reply, text_output}

-- "Errors: the checks are 1, 7, 11."
abbrev pub pages_refusal : List ℕ → List ℕ → ℕ
pages_refusal words output = text_refusal pages_of words output

-- "The reply is the number of bytes written,
abbrev pub pages_reply : List ℕ → List ℕ → Reply
pages_reply words output = text_reply pages_of words output

-- and later output bytes are unchanged."
abbrev pub pages_output : List ℕ → List ℕ → List ℕ
pages_output words output = text_output pages_of words output
