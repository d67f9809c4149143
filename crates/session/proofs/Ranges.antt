-- What limits are within.
use Rattle.std.proofs.Common.{◌≡◌, ◌<◌, ◌≤◌, ℕ, true, arith}
use Rattle.std.proofs.lemmas.Bool.{and_parts, ltb-true}
use Rattle.session.specs.Limits.{are_limits}

pub some_commits : (commits sessions : ℕ) → are_limits commits sessions ≡ true → 1 ≤ commits
some_commits commits sessions h =
    let p = and_parts _ _ h in
    let above : 0 < commits = ltb-true _ _ p.0 in omega (arith, above)

pub some_sessions : (commits sessions : ℕ) → are_limits commits sessions ≡ true → 1 ≤ sessions
some_sessions commits sessions h =
    let p = and_parts _ _ h in
    let q = and_parts _ _ p.1 in
    let above : 0 < sessions = ltb-true _ _ q.0 in omega (arith, above)
