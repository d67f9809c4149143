-- What each call makes of a database.
use Rattle.std.specs.Prelude.{ℕ, List}
use Rattle.messages.specs.declared.operations.Operation.{Operation}
use Rattle.messages.specs.declared.operations.Operation.TheVariants as op
use Rattle.messages.specs.declared.responses.Outcome.{Outcome}
use Rattle.messages.specs.declared.responses.Outcome.TheVariants as outcome
use Rattle.messages.specs.declared.responses.Response.{Response}
use Rattle.calls.specs.declared.databases.Database.{Database}
use Rattle.calls.specs.Calls.{IsOperated}
use Rattle.calls.specs.Steps.{RunsAll, Transacts}

-- there is one response
abbrev pub IsOne : (Response → Type 0) → Outcome → Type 0
IsOne Is (outcome.One r) = Is r
IsOne Is (outcome.Each rs) = ⊥

-- what an operation on a database makes, and is answered
abbrev pub IsServed : Operation → List ℕ → Database → Database → Outcome → Type 0
IsServed op.RunAll request old new o = RunsAll request old new o
IsServed op.Transact request old new o = Transacts request old new o
IsServed operation request old new o = IsOne (IsOperated operation request old new) o
