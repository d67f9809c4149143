-- Who of the commits read what, as one more is put, and as some are let go.
use Rattle.std.proofs.Common.{◌≡◌, ℕ, zero, suc, ◌+◌, ◌<◌, ◌≤◌, Bool, true, false, cond, List, [], ◌∷◌, ◌++◌, filter, length, map, reverse, inl, inr, refl, sym, ap, ◌∙◌, subst, arith, lt-ltb}
use Rattle.std.specs.Prelude.{Contains, nat_lt}
use Rattle.std.specs.List.{list_any}
use Rattle.std.proofs.lemmas.Bool.{both_ways, cases_Bool, ltb-true}
use Rattle.std.proofs.lemmas.List.{append-nil, get_or_append_left, get_or-append-add, length-map, map-append, map_push}
use Rattle.std.proofs.lemmas.List.Elements.{All-contains, All-filter, All-from_recursion, All-map, filter-append}
use Rattle.siread.specs.declared.keys.LockKey.{LockKey}
use Rattle.siread.specs.Keys.{same_key}
use Rattle.siread.specs.Readers.{reach_of, reaches_above}
use Rattle.siread.specs.Locks.{AreBelow, Reads, reads_above, with_reader}
use Rattle.siread.proofs.Members.{in_head, in_tail}
use Rattle.alone.proofs.Lists.{Each}
use Rattle.alone.proofs.Members.{from_filter}
use Rattle.alone.specs.declared.records.Record.{Record}
use Rattle.alone.specs.Commits.{reach}
use Rattle.alone.proofs.Turned.{each_turned}
use Rattle.conflict.specs.Readers.{has_read, reads_of}

-- one commit more has read its keys
pub reads_more : (commits : List Record) (c : Record)
    → reads_of (commits ++ c ∷ []) ≡ with_reader c.number c.reads (reads_of commits)
reads_more commits c = λ i key. at key i
  where
    number : Record → ℕ
    number r = r.number

    go : (key : LockKey) (b : Bool) → reads_of commits key ++ map number (cond b (c ∷ []) [])
        ≡ cond b (reads_of commits key ++ c.number ∷ []) (reads_of commits key)
    go key true = refl
    go key false = append-nil (reads_of commits key)

    at : (key : LockKey) → reads_of (commits ++ c ∷ []) key ≡ with_reader c.number c.reads (reads_of commits) key
    at key =
        ap (map number) (filter-append (has_read key) commits (c ∷ []))
        ∙ map-append number (filter (has_read key) commits) (filter (has_read key) (c ∷ []))
        ∙ go key (has_read key c)

-- all that read have numbers below the next
pub all_below : (commits : List Record) (number : ℕ) → Each (λ (w : Record). w.number < number) (reverse commits)
    → AreBelow number (reads_of commits)
all_below commits number below = λ key reader m.
    All-contains (λ n. n < number) (reads_of commits key) reader
    (All-map (λ n. n < number) (λ (r : Record). r.number) (filter (has_read key) commits)
    (All-filter (has_read key) (λ (r : Record). r.number < number) commits
    (All-from_recursion (λ (r : Record). r.number < number) commits
    (each_turned (λ (r : Record). r.number < number) commits below)))) m

pub reads_below : (commits : List Record) (number low : ℕ) (reaches : List ℕ)
    → Each (λ (w : Record). w.number < number) (reverse commits) → AreBelow number (reads_above low reaches (reads_of commits))
reads_below commits number low reaches below = λ key reader m.
    all_below commits number below key reader (from_filter (reaches_above low reaches) (reads_of commits key) reader m)

-- some are let go twice, and who stays the second time would have stayed the first time
filter_twice : (early late : ℕ → Bool) (xs : List ℕ)
    → ((x : ℕ) → Contains xs x → late x ≡ true → early x ≡ true) → filter late (filter early xs) ≡ filter late xs
filter_twice early late [] stayed = refl
filter_twice early late (x ∷ xs) stayed =
    go (filter_twice early late xs (λ y m. stayed y (in_tail x xs y m))) (stayed x (in_head x xs)) (early x) refl
  where
    go : filter late (filter early xs) ≡ filter late xs → (late x ≡ true → early x ≡ true)
        → (b : Bool) → early x ≡ b → filter late (cond b (x ∷ filter early xs) (filter early xs)) ≡ filter late (x ∷ xs)
    go rest here true e = ap (λ those. cond (late x) (x ∷ those) those) rest
    go rest here false e = elim (cases_Bool (late x)) [
      | inl stays ↦ absurd (both_ways (early x) e (here stays))
      | inr goes ↦ rest ∙ sym (ap (λ b. cond b (x ∷ filter late xs) (filter late xs)) goes)
    ]

-- the second time those that do not reach above a number that is no less
pub reaching_twice : (low high : ℕ) (reaches : List ℕ) → low ≤ high → (reads : Reads)
    → reads_above high reaches (reads_above low reaches reads) ≡ reads_above high reaches reads
reaching_twice low high reaches h reads = λ i key.
    filter_twice (reaches_above low reaches) (reaches_above high reaches) (reads key)
    (λ reader m stays.
    let past = ltb-true high (reach_of reaches reader) stays in
    lt-ltb low (reach_of reaches reader) (omega (arith, h, past))) i

-- how far those reach that are there stays as one more is put behind them
reach_before : (reaches : List ℕ) (far reader : ℕ) → reader < length reaches + 1
    → reach_of (reaches ++ far ∷ []) reader ≡ reach_of reaches reader
reach_before reaches far zero before = refl
reach_before reaches far (suc at) before = get_or_append_left reaches (far ∷ []) 0 at (omega (arith, before))

stayed_above : (low high far : ℕ) (reaches : List ℕ) → low ≤ high → (reader : ℕ) → reader < length reaches + 1
    → reaches_above high (reaches ++ far ∷ []) reader ≡ true → reaches_above low reaches reader ≡ true
stayed_above low high far reaches h reader before stays =
    let past = ltb-true high (reach_of (reaches ++ far ∷ []) reader) stays in
    let is = reach_before reaches far reader before in
    lt-ltb low (reach_of reaches reader) (omega (arith, h, past, is))

-- some are let go, a reader is put, and then, where it is known how far that one reaches, some are let go again
pub reaching_put : (low high number far : ℕ) (reaches : List ℕ) (keys : List LockKey) → low ≤ high
    → (reads : Reads) → AreBelow (length reaches + 1) reads
    → reads_above high (reaches ++ far ∷ []) (with_reader number keys (reads_above low reaches reads))
    ≡ reads_above high (reaches ++ far ∷ []) (with_reader number keys reads)
reaching_put low high number far reaches keys h reads below = λ i key. at key i
  where
    late : ℕ → Bool
    late = reaches_above high (reaches ++ far ∷ [])

    kept : LockKey → List ℕ
    kept key = reads_above low reaches reads key

    twice : (key : LockKey) → filter late (kept key) ≡ filter late (reads key)
    twice key =
        filter_twice (reaches_above low reaches) late (reads key)
        (λ reader m stays. stayed_above low high far reaches h reader (below key reader m) stays)

    go : (key : LockKey) (b : Bool) → filter late (cond b (kept key ++ number ∷ []) (kept key))
        ≡ filter late (cond b (reads key ++ number ∷ []) (reads key))
    go key true =
        filter-append late (kept key) (number ∷ []) ∙ ap (λ xs. xs ++ filter late (number ∷ [])) (twice key)
        ∙ sym (filter-append late (reads key) (number ∷ []))
    go key false = twice key

    at : (key : LockKey)
        → reads_above high (reaches ++ far ∷ []) (with_reader number keys (reads_above low reaches reads)) key
        ≡ reads_above high (reaches ++ far ∷ []) (with_reader number keys reads) key
    at key = go key (list_any (same_key key) keys)

-- so of the readers that were kept before a commit, and it, the same stay as of all
pub reaching_more : (low high : ℕ) (commits : List Record) (c : Record) → low ≤ high
    → Each (λ (w : Record). w.number < length commits + 1) (reverse commits)
    → reads_above high (map reach (commits ++ c ∷ []))
    (with_reader c.number c.reads (reads_above low (map reach commits) (reads_of commits)))
    ≡ reads_above high (map reach (commits ++ c ∷ [])) (reads_of (commits ++ c ∷ []))
reaching_more low high commits c h below =
    let longer : map reach (commits ++ c ∷ []) ≡ map reach commits ++ reach c ∷ [] = map_push reach commits c in
    let number : length commits ≡ length (map reach commits) = sym (length-map commits reach) in
    let before = reads_above low (map reach commits) (reads_of commits) in
    (λ i. reads_above high (longer i) (with_reader c.number c.reads before))
    ∙ reaching_put low high c.number (reach c) (map reach commits) c.reads h (reads_of commits)
    (subst (λ n. AreBelow (n + 1) (reads_of commits)) number (all_below commits (length commits + 1) below))
    ∙ (λ i. reads_above high (sym longer i) (sym (reads_more commits c) i))

-- a reader that does not reach above the number goes as it comes
pub reaching_not : (high number : ℕ) (reaches : List ℕ) (keys : List LockKey) (reads : Reads) → reaches_above high reaches number ≡ false
    → reads_above high reaches (with_reader number keys reads) ≡ reads_above high reaches reads
reaching_not high number reaches keys reads not_far = λ i key. at key i
  where
    late : ℕ → Bool
    late = reaches_above high reaches

    goes : filter late (number ∷ []) ≡ []
    goes = ap (λ b. cond b (number ∷ []) []) not_far

    go : (key : LockKey) (b : Bool) → filter late (cond b (reads key ++ number ∷ []) (reads key)) ≡ filter late (reads key)
    go key true =
        filter-append late (reads key) (number ∷ []) ∙ ap (λ xs. filter late (reads key) ++ xs) goes
        ∙ append-nil (filter late (reads key))
    go key false = refl

    at : (key : LockKey) → reads_above high reaches (with_reader number keys reads) key ≡ reads_above high reaches reads key
    at key = go key (list_any (same_key key) keys)

-- who stayed the first time stays the second time
filter_stays : (early late : ℕ → Bool) (xs : List ℕ)
    → ((x : ℕ) → Contains xs x → early x ≡ true → late x ≡ true) → filter late (filter early xs) ≡ filter early xs
filter_stays early late [] stays = refl
filter_stays early late (x ∷ xs) stays =
    go (filter_stays early late xs (λ y m. stays y (in_tail x xs y m))) (early x) refl
  where
    go : filter late (filter early xs) ≡ filter early xs → (b : Bool) → early x ≡ b
        → filter late (cond b (x ∷ filter early xs) (filter early xs)) ≡ cond b (x ∷ filter early xs) (filter early xs)
    go rest true e =
        ap (λ b. cond b (x ∷ filter late (filter early xs)) (filter late (filter early xs))) (stays x (in_head x xs) e)
        ∙ ap (λ ys. x ∷ ys) rest
    go rest false e = rest

module _ (low far : ℕ) (reaches : List ℕ) (reads : Reads) (below : AreBelow (length reaches + 1) reads) where
  abbrev kept : Reads
  kept = reads_above low reaches reads

  abbrev longer : List ℕ
  longer = reaches ++ far ∷ []

  -- those that reach above a number do so as one more is put behind them
  pub reaching_still : reads_above low longer kept ≡ kept
  reaching_still = λ i key.
      filter_stays (reaches_above low reaches) (reaches_above low longer) (reads key)
      (λ reader m stays. ap (nat_lt low) (reach_before reaches far reader (below key reader m)) ∙ stays) i

  -- and so does that one
  pub reaching_still_with : (number : ℕ) (keys : List LockKey) → reaches_above low longer number ≡ true
      → reads_above low longer (with_reader number keys kept) ≡ with_reader number keys kept
  reaching_still_with number keys above = λ i key. at key i
    where
      late : ℕ → Bool
      late = reaches_above low longer

      stays : (key : LockKey) → filter late (kept key) ≡ kept key
      stays key = λ i. reaching_still i key

      one : filter late (number ∷ []) ≡ number ∷ []
      one = ap (λ b. cond b (number ∷ []) []) above

      go : (key : LockKey) (b : Bool) → filter late (cond b (kept key ++ number ∷ []) (kept key)) ≡ cond b (kept key ++ number ∷ []) (kept key)
      go key true = filter-append late (kept key) (number ∷ []) ∙ (λ i. stays key i ++ one i)
      go key false = stays key

      at : (key : LockKey) → reads_above low longer (with_reader number keys kept) key ≡ with_reader number keys kept key
      at key = go key (list_any (same_key key) keys)

-- how far the one that was put behind reaches
pub reach_behind : (reaches : List ℕ) (far : ℕ) → reach_of (reaches ++ far ∷ []) (length reaches + 1) ≡ far
reach_behind reaches far =
    let last : suc (length reaches + 0) ≡ length reaches + 1 = omega arith in
    ap (reach_of (reaches ++ far ∷ [])) (sym last) ∙ get_or-append-add reaches (far ∷ []) 0 0
