use Rattle.std.proofs.Common.{◌≡◌, ◌++◌, drop}
use Rattle.calls.specs.States.{each_reply, reply_to}
use Rattle.calls.proofs.libraries.Library.add_each_reply.Given as goal

-- what is written so far, and then what is left
abbrev pub invariant-loop-response : goal.invariant-loop-response
invariant-loop-response l =
    l.bytes ++ each_reply (reply_to l.operation l.self.database) (drop l.response-index l.responses)
    ≡ l.initial.bytes ++ each_reply (reply_to l.operation l.self.database) l.responses
