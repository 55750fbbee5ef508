-- Parts of a function's body that a walk goes on with. Assumes nothing.
use mir.Syntax.{Body, skip, seq, assign, block, loop, cond, switch, exit, return, unreachable, call, call_v, lend_static}

-- what comes after the first part of a body
abbrev pub after : Body → Body
after skip = skip
after (seq a b) = b
after (assign p rv) = skip
after (block b) = skip
after (loop b) = skip
after (cond c a b) = skip
after (switch c arms) = skip
after (exit n) = skip
after return = skip
after unreachable = skip
after (call f xs d) = skip
after (call_v f at xs d) = skip
after (lend_static p t c) = skip

-- what a branch does where its test holds
abbrev pub taken : Body → Body
taken skip = skip
taken (seq a b) = skip
taken (assign p rv) = skip
taken (block b) = skip
taken (loop b) = skip
taken (cond c a b) = a
taken (switch c arms) = skip
taken (exit n) = skip
taken return = skip
taken unreachable = skip
taken (call f xs d) = skip
taken (call_v f at xs d) = skip
taken (lend_static p t c) = skip
