-- The snapshots of open transactions, by their begin numbers.
use Rattle.std.proofs.Common.{◌≡◌, Bool, ℕ, ◌<◌, ◌+◌, not, [], ◌∷◌, ap, arith}
use Rattle.std.specs.Prelude.{Contains}
use Rattle.std.proofs.lemmas.Bool.{ne_eqb}
use Rattle.std.proofs.lemmas.List.Elements.{All-contains, All-filter, All-push, All-weaker, Contains-append_left, Contains-append_right}
use Rattle.siread.proofs.Members.{in_head}
use Rattle.conflict.specs.declared.open_snapshots.LiveSnapshot.{LiveSnapshot}
use Rattle.conflict.specs.Live.{AreBelow, LiveState, is_other, with_begin, without}
use Rattle.alone.proofs.Members.{in_filter}

pub fewer : (live : LiveState) (begin_number : ℕ) → AreBelow live.begun live.snapshots → AreBelow live.begun (without begin_number live).snapshots
fewer live begin_number below = All-filter (is_other begin_number) (λ (one : LiveSnapshot). one.begin_number < live.begun) live.snapshots below

pub one_more : (live : LiveState) (snapshot : ℕ) (read_only : Bool) → AreBelow live.begun live.snapshots
    → AreBelow (with_begin snapshot read_only live).begun (with_begin snapshot read_only live).snapshots
one_more live snapshot read_only below =
    All-push (λ (one : LiveSnapshot). one.begin_number < live.begun + 1) live.snapshots (record { begin_number = live.begun; snapshot = snapshot; read_only = read_only })
    (All-weaker (λ (one : LiveSnapshot). one.begin_number < live.begun) (λ (one : LiveSnapshot). one.begin_number < live.begun + 1) (λ one h. omega arith) live.snapshots below)
    (omega arith)

-- the last to begin is held
pub held_last : (live : LiveState) (snapshot : ℕ) (read_only : Bool)
    → Contains (with_begin snapshot read_only live).snapshots (record { begin_number = live.begun; snapshot = snapshot; read_only = read_only })
held_last live snapshot read_only =
    let last : LiveSnapshot = record { begin_number = live.begun; snapshot = snapshot; read_only = read_only } in
    Contains-append_right live.snapshots (last ∷ []) last (in_head last [])

-- those that were are still
pub held_more : (live : LiveState) (snapshot : ℕ) (read_only : Bool) (one : LiveSnapshot) → Contains live.snapshots one → Contains (with_begin snapshot read_only live).snapshots one
held_more live snapshot read_only one m = Contains-append_left live.snapshots (record { begin_number = live.begun; snapshot = snapshot; read_only = read_only } ∷ []) one m

-- but for one that has ended
pub held_other : (live : LiveState) (begin_number : ℕ) (one : LiveSnapshot) → (one.begin_number ≡ begin_number → ⊥) → Contains live.snapshots one → Contains (without begin_number live).snapshots one
held_other live begin_number one other m = in_filter (is_other begin_number) live.snapshots one (ap not (ne_eqb one.begin_number begin_number other)) m

pub begin_number_below : (live : LiveState) (one : LiveSnapshot) → AreBelow live.begun live.snapshots → Contains live.snapshots one → one.begin_number < live.begun
begin_number_below live one below m = All-contains (λ (one : LiveSnapshot). one.begin_number < live.begun) live.snapshots one below m
