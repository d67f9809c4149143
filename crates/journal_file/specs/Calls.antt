-- The calls on a journal's file, as a record keeps them that only proofs see, and what they make of the file.
use Rattle.std.specs.Prelude.{◌≡◌, ◌⊎◌, ◌≤◌, ℕ, ◌+◌, ◌==◌, Bool, true, false, not, if◌then◌else◌, List, [], ◌∷◌, ◌++◌, length, take, drop, slice_index}
use Rattle.journal.specs.Tails.{zeros}
use Rattle.journal.specs.Device.{Over, Grown}

-- as it is noted: which call, a place or a count, whether it succeeded, and bytes
abbrev pub Event : Type 0
Event = ℕ × ℕ × Bool × List ℕ

abbrev pub event_of : (numbers bytes : List ℕ) → Event
event_of numbers bytes = (slice_index numbers 0, slice_index numbers 1, slice_index numbers 2 == 1, bytes)

pub data Call : Type 0 where
  -- these bytes were read, from a file that had been synced
  Opened : List ℕ → Call
  -- from here on the file is what stands behind so many of its bytes
  Behind : ℕ → Call
  -- these bytes were written at this place: whole, or else any of them
  Wrote : ℕ → List ℕ → Bool → Call
  -- so many zeros were put behind the file, or else some
  Grew : ℕ → Bool → Call
  -- the file was synced, or else nothing is known of it
  Synced : Bool → Call

abbrev pub call_of : Event → Call
call_of e =
    if e.0 == 0 then Opened e.3 else if e.0 == 1 then Behind e.1 else if e.0 == 2 then Wrote e.1 e.3 e.2
    else if e.0 == 3 then Grew e.1 e.2 else Synced e.2

-- what a read returns after a call
abbrev pub seen_after : Call → List ℕ → List ℕ
seen_after (Opened bytes) seen = bytes
seen_after (Behind base) seen = drop base seen
seen_after (Wrote at bytes done) seen =
    if done then take at seen ++ (bytes ++ drop (length bytes) (drop at seen)) else seen
seen_after (Grew count done) seen = if done then seen ++ zeros count else seen
seen_after (Synced done) seen = seen

-- what a crash may leave after a call
abbrev pub left_after : Call → (seen : List ℕ) → (List ℕ → Type 0) → List ℕ → Type 0
left_after (Opened bytes) seen left c = c ≡ bytes
left_after (Behind base) seen left c = (d : List ℕ) × left d × (c ≡ drop base d)
left_after (Wrote at bytes done) seen left c = (d : List ℕ) × left d × Over at bytes d c
left_after (Grew count done) seen left c = (d : List ℕ) × left d × Grown d c
left_after (Synced done) seen left c = left c × (done ≡ true → c ≡ seen)

abbrev pub is_failed : Call → Bool
is_failed (Opened bytes) = false
is_failed (Behind base) = false
is_failed (Wrote at bytes done) = not done
is_failed (Grew count done) = not done
is_failed (Synced done) = not done

-- ---- after calls, the newest first

abbrev pub seen : List Event → List ℕ
seen [] = []
seen (e ∷ earlier) = seen_after (call_of e) (seen earlier)

abbrev pub may_leave : List Event → List ℕ → Type 0
may_leave [] c = c ≡ []
may_leave (e ∷ earlier) c = left_after (call_of e) (seen earlier) (may_leave earlier) c

-- what a crash might have left when there were t calls, or more
abbrev pub left_since : List Event → ℕ → List ℕ → Type 0
left_since [] t c = may_leave [] c
left_since (e ∷ earlier) t c = may_leave (e ∷ earlier) c ⊎ ((t ≤ length earlier) × left_since earlier t c)

abbrev pub failures : List Event → ℕ
failures [] = 0
failures (e ∷ earlier) = if is_failed (call_of e) then failures earlier + 1 else failures earlier
