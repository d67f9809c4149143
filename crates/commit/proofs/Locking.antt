-- Who read what, as transactions begin, are committed, and end.
use Rattle.std.proofs.Common.{◌≡◌, ◌∙◌, Bool, true, false, ℕ, ◌+◌, ◌<◌, ◌≤◌, List, [], ◌∷◌, ◌++◌, length, map, reverse, refl, sym, ap, subst, arith, le-ltb, lt-ltb}
use Rattle.std.specs.Prelude.{if◌then◌else◌}
use Rattle.std.proofs.lemmas.List.{length-append, length-map, map_push}
use Rattle.siread.specs.Readers.{reach_of, reaches_above}
use Rattle.siread.specs.Locks.{AreBelow, Reads, reads_above, with_reader}
use Rattle.conflict.specs.Live.{LiveState, is_other, least_writing, may_another_ask, with_begin, without}
use Rattle.conflict.proofs.Least.{least_asked, least_begun, least_grows, least_unasked, least_up_to}
use Rattle.alone.proofs.Lists.{Each}
use Rattle.alone.specs.declared.records.Record.{Record}
use Rattle.alone.specs.Commits.{reach}
use Rattle.conflict.specs.Readers.{HasReaders, reads_of}
use Rattle.conflict.proofs.Readers.{all_below, reach_behind, reaching_more, reaching_not, reaching_still, reaching_still_with, reaching_twice}
use Rattle.txn.specs.Transactions.{OpenTransaction}
use Rattle.commit.specs.Cores.{CoreState, IsLive, reach_with, reads_kept, reads_noted}

-- an open transaction that may write may ask for all readers that reach past its snapshot
pub readers_above : (core : CoreState) (t : OpenTransaction) (locks : Reads) → IsLive core t → t.read_only ≡ false → locks ≡ reads_kept core
    → HasReaders locks (map reach core.records) core.records t.snapshot
readers_above core t locks live writes e = record {
  low = least_writing (length core.records) core.live.snapshots;
  within = least_up_to (length core.records) core.live.snapshots (record { begin_number = t.begin_number; snapshot = t.snapshot; read_only = t.read_only }) live.held writes;
  are = e;
}

-- how far a transaction reaches as the next commit
pub reach_within : (t : OpenTransaction) (count : ℕ) → t.snapshot ≤ count → reach_with (count + 1) t ≤ count + 1
reach_within t count h = go t.read_only
  where
    go : (b : Bool) → (if b then t.snapshot else count + 1) ≤ count + 1
    go true = omega (arith, h)
    go false = omega arith

module _ (live : LiveState) (commits : List Record) where
  abbrev far : List ℕ
  far = map reach commits

  -- as a transaction begins, none may go
  pub kept_begun : (read_only : Bool) → reads_above (least_writing (length commits) (with_begin (length commits) read_only live).snapshots) far (reads_of commits)
      ≡ reads_above (least_writing (length commits) live.snapshots) far (reads_of commits)
  kept_begun read_only = ap (λ low. reads_above low far (reads_of commits)) (least_begun (length commits) live.begun read_only live.snapshots)

  -- as one ends, some may
  pub kept_ended : (begin_number : ℕ)
      → reads_above (least_writing (length commits) (without begin_number live).snapshots) far (reads_above (least_writing (length commits) live.snapshots) far (reads_of commits))
      ≡ reads_above (least_writing (length commits) (without begin_number live).snapshots) far (reads_of commits)
  kept_ended begin_number = reaching_twice _ _ far (least_grows (length commits) (length commits) (is_other begin_number) live.snapshots (omega arith)) (reads_of commits)

  -- nobody goes while the least of those snapshots stays
  pub kept_same : reads_above (least_writing (length commits) live.snapshots) far (reads_above (least_writing (length commits) live.snapshots) far (reads_of commits))
      ≡ reads_above (least_writing (length commits) live.snapshots) far (reads_of commits)
  kept_same = reaching_twice _ _ far (omega arith) (reads_of commits)

  -- and as one is committed, the reads of which were noted where another transaction may ask for them
  module _ (begin_number : ℕ) (c : Record) (below : Each (λ (w : Record). w.number < length commits + 1) (reverse commits)) (numbered : c.number ≡ length commits + 1) where
    abbrev after : List Record
    after = commits ++ c ∷ []

    abbrev low : ℕ
    low = least_writing (length commits) live.snapshots

    abbrev high : ℕ
    high = least_writing (length after) (without begin_number live).snapshots

    abbrev kept : Reads
    kept = reads_above low far (reads_of commits)

    abbrev asked : Bool
    asked = may_another_ask begin_number (reach c) live.snapshots

    longer : map reach after ≡ far ++ reach c ∷ []
    longer = map_push reach commits c

    reached : reach_of (far ++ reach c ∷ []) c.number ≡ reach c
    reached =
        let long = length-map commits reach in
        ap (reach_of (far ++ reach c ∷ [])) (let same : c.number ≡ length far + 1 = omega (arith, long, numbered) in same) ∙ reach_behind far (reach c)

    all_small : AreBelow (length far + 1) (reads_of commits)
    all_small = subst (λ n. AreBelow (n + 1) (reads_of commits)) (sym (length-map commits reach)) (all_below commits (length commits + 1) below)

    -- those that are left are those that would be left of all
    pub kept_committed : reach c ≤ length commits + 1
        → reads_above high (map reach after) (reads_noted asked c.number c.reads kept) ≡ reads_above high (map reach after) (reads_of after)
    kept_committed within = go asked refl
      where
        long : length after ≡ length commits + 1
        long = length-append commits (c ∷ [])

        all : reads_above high (map reach after) (with_reader c.number c.reads kept) ≡ reads_above high (map reach after) (reads_of after)
        all = reaching_more low high commits c (least_grows (length commits) (length after) (is_other begin_number) live.snapshots (omega (arith, long))) below

        not_far : asked ≡ false → reaches_above high (map reach after) c.number ≡ false
        not_far e =
            let most = least_unasked (length after) begin_number (reach c) live.snapshots e (omega (arith, within, long)) in
            (λ i. reaches_above high (longer i) c.number) ∙ le-ltb high (reach_of (far ++ reach c ∷ []) c.number) (omega (arith, most, reached))

        go : (b : Bool) → asked ≡ b → reads_above high (map reach after) (reads_noted b c.number c.reads kept) ≡ reads_above high (map reach after) (reads_of after)
        go true e = all
        go false e = sym (reaching_not high c.number (map reach after) c.reads kept (not_far e)) ∙ all

    -- and nobody goes while the least of those snapshots stays
    pub noted_same : reads_above low (map reach after) (reads_noted asked c.number c.reads kept) ≡ reads_noted asked c.number c.reads kept
    noted_same = go asked refl
      where
        above : asked ≡ true → reaches_above low (far ++ reach c ∷ []) c.number ≡ true
        above e =
            let less = least_asked (length commits) begin_number (reach c) live.snapshots e in
            lt-ltb low (reach_of (far ++ reach c ∷ []) c.number) (omega (arith, less, reached))

        go : (b : Bool) → asked ≡ b → reads_above low (map reach after) (reads_noted b c.number c.reads kept) ≡ reads_noted b c.number c.reads kept
        go true e = (λ i. reads_above low (longer i) (with_reader c.number c.reads kept)) ∙ reaching_still_with low (reach c) far (reads_of commits) all_small c.number c.reads (above e)
        go false e = (λ i. reads_above low (longer i) kept) ∙ reaching_still low (reach c) far (reads_of commits) all_small
