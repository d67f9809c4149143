-- Who read what: for each key the ascending list of its readers, each the number of a commit.
use Rattle.std.specs.Prelude.{◌≡◌, ◌≢◌, ◌<◌, ◌≤◌, ◌^◌, ◌-◌, ◌⊎◌, ℕ, Bool, true, List, [], ◌∷◌, ◌++◌, length, map, filter, take, Contains, max, min, unwrap_or, if◌then◌else◌}
use Rattle.std.specs.List.{list_any, IsDistinct}
use Rattle.std.specs.Map.{lookup}
use Rattle.table.specs.declared.rows.Change.{Change}
use Rattle.siread.specs.declared.keys.Family.{Family}
use Rattle.siread.specs.declared.keys.LockKey.{LockKey}
use Rattle.siread.specs.Keys.{same_key, touches}
use Rattle.siread.specs.Families.{ValueReaders, family_of, last_in, readers_of, same_family, total, value_of}
use Rattle.siread.specs.Readers.{IsAscending, left_out, reach_of, reaches_above}

-- the families, each once, with the readers of their keys
abbrev pub Locks : Type 0
Locks = List (Family × ValueReaders)

-- a family that is not there has no readers
abbrev pub in_family : Locks → Family → ValueReaders
in_family locks family = unwrap_or (lookup (same_family family) locks) []

-- the readers of a key
abbrev pub readers_at : Locks → LockKey → List ℕ
readers_at locks key = readers_of (in_family locks (family_of key)) (value_of key)

-- for each key its readers
abbrev pub Reads : Type 0
Reads = LockKey → List ℕ

-- nobody has read anything
abbrev pub no_reads : Reads
no_reads key = []

-- all readers have numbers below this one
abbrev pub AreBelow : ℕ → Reads → Type 0
AreBelow number reads = (key : LockKey) (reader : ℕ) → Contains (reads key) reader → reader < number

-- with other readers of one key, made from those that it has
abbrev pub changed_at : LockKey → (List ℕ → List ℕ) → Reads → Reads
changed_at read change reads key = if same_key read key then change (reads key) else reads key

-- with one reader more, of these keys
abbrev pub with_reader : ℕ → List LockKey → Reads → Reads
with_reader number keys reads key = if list_any (same_key key) keys then reads key ++ number ∷ [] else reads key

-- with a reader taken out of these keys
abbrev pub without_reader : ℕ → List LockKey → Reads → Reads
without_reader number keys reads key = if list_any (same_key key) keys then left_out number (reads key) else reads key

-- whatever the reads were before this reader was put to the keys, they are that again
abbrev pub IsUndone : ℕ → List LockKey → Reads → Reads → Type 0
IsUndone number keys old new =
    (before : Reads) → AreBelow number before → old ≡ with_reader number keys before → new ≡ before

-- the reader is put to some first of the keys
abbrev pub IsPartlyPut : ℕ → List LockKey → Reads → Reads → Type 0
IsPartlyPut number keys old new = (count : ℕ) × (new ≡ with_reader number (take count keys) old)

-- with the readers alone that reach above this number
abbrev pub reads_above : (low : ℕ) → (reaches : List ℕ) → Reads → Reads
reads_above low reaches reads key = filter (reaches_above low reaches) (reads key)

-- the keys that have readers are among these, each of which is listed once
pub record AreKeysRead (keys : List LockKey) (reads : Reads) : Type 0 where
  pub once : IsDistinct same_key keys
  pub all : (key : LockKey) → reads key ≢ [] → Contains keys key

-- a count of the pairs of a key and a reader of it, or the most that a count can be
pub record IsCount (reads : Reads) (count : ℕ) : Type 0 where
  pub keys : List LockKey
  pub are_all : AreKeysRead keys reads
  pub counted : count ≡ min (total (map (λ key. length (reads key)) keys)) (2 ^ 64 - 1)

-- the readers of each key ascend
abbrev pub AreAscending : Reads → Type 0
AreAscending reads = (key : LockKey) → IsAscending (reads key)

-- one of some changes touches a key
abbrev pub touch : List Change → LockKey → Bool
touch changes key = list_any (λ change. touches change key) changes

-- the greatest reader of the keys that some changes touch, of those that reach at least so far, or 0
pub record IsGreatestReader (reads : Reads) (changes : List Change) (least : ℕ) (reaches : List ℕ) (greatest : ℕ)
    : Type 0 where
  pub all : (key : LockKey) (reader : ℕ) → touch changes key ≡ true → Contains (reads key) reader
      → least ≤ reach_of reaches reader → reader ≤ greatest
  pub found : (greatest ≡ 0) ⊎ ((key : LockKey) × (touch changes key ≡ true) × Contains (reads key) greatest
      × (least ≤ reach_of reaches greatest))

-- the greatest of the last readers of the keys that a change touches, as the families come
abbrev pub last_touched : (List ℕ → ℕ) → Change → Locks → ℕ
last_touched last change [] = 0
last_touched last change (e ∷ locks) = max (last_in last change e.0 e.1) (last_touched last change locks)
