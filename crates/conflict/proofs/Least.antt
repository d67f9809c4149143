-- The least snapshot of those that may write, from the first to the last, and as transactions begin and end.
use Rattle.std.proofs.Common.{◌≡◌, ℕ, ◌≤◌, ◌<◌, min, refl, sym, ap, ◌∙◌, subst, zero, suc, List, [], ◌∷◌, ◌++◌, ◌+◌, filter, Bool, true, false, cond, arith}
use Rattle.std.specs.Prelude.{◌&&◌, ◌||◌, nat_lt, not, drop, get_or, length, Contains}
use Rattle.std.proofs.lemmas.Bool.{ltb-false, ltb-true, or_parts}
use Rattle.std.proofs.lemmas.List.{drop_more}
use Rattle.conflict.specs.declared.open_snapshots.LiveSnapshot.{LiveSnapshot}
use Rattle.conflict.specs.Live.{is_other, least_with, least_writing, may_another_ask}

swap : (one other : LiveSnapshot) (n : ℕ) → least_with other (least_with one n) ≡ least_with one (least_with other n)
swap one other n = go one.read_only other.read_only
  where
    go : (a b : Bool) → cond b (cond a n (min one.snapshot n)) (min other.snapshot (cond a n (min one.snapshot n)))
        ≡ cond a (cond b n (min other.snapshot n)) (min one.snapshot (cond b n (min other.snapshot n)))
    go true true = refl
    go true false = refl
    go false true = refl
    go false false = omega arith

-- one that was looked at may stand with the rest
looked_at : (newest : ℕ) (one : LiveSnapshot) (rest : List LiveSnapshot)
    → least_writing (least_with one newest) rest ≡ least_with one (least_writing newest rest)
looked_at newest one [] = refl
looked_at newest one (other ∷ rest) =
    ap (least_with other) (looked_at newest one rest) ∙ swap one other (least_writing newest rest)

pub least_next : (newest : ℕ) (all : List LiveSnapshot) (index : ℕ) (d : LiveSnapshot) → index < length all
    → least_writing (least_with (get_or all index d) newest) (drop (index + 1) all)
    ≡ least_writing newest (drop index all)
least_next newest all index d within =
    looked_at newest (get_or all index d) (drop (index + 1) all)
    ∙ ap (least_writing newest) (sym (drop_more all index d within))

-- it stays where a transaction begins on the newest tables
pub least_begun : (newest begin_number : ℕ) (read_only : Bool) (all : List LiveSnapshot)
    → least_writing newest (all ++ record { begin_number = begin_number; snapshot = newest; read_only = read_only } ∷ [])
    ≡ least_writing newest all
least_begun newest begin_number true [] = refl
least_begun newest begin_number false [] = omega arith
least_begun newest begin_number read_only (one ∷ rest) = ap (least_with one) (least_begun newest begin_number read_only rest)

with_more : (one : LiveSnapshot) (n m : ℕ) → n ≤ m → least_with one n ≤ least_with one m
with_more one n m h = go one.read_only
  where
    go : (b : Bool) → cond b n (min one.snapshot n) ≤ cond b m (min one.snapshot m)
    go true = h
    go false = omega (arith, h)

with_less : (one : LiveSnapshot) (n : ℕ) → least_with one n ≤ n
with_less one n = go one.read_only
  where
    go : (b : Bool) → cond b n (min one.snapshot n) ≤ n
    go true = omega arith
    go false = omega arith

-- and does not fall where transactions end and commits are made
pub least_grows : (newest after : ℕ) (stays : LiveSnapshot → Bool) (all : List LiveSnapshot) → newest ≤ after
    → least_writing newest all ≤ least_writing after (filter stays all)
least_grows newest after stays [] h = h
least_grows newest after stays (one ∷ rest) h = go (least_grows newest after stays rest h) (stays one)
  where
    go : least_writing newest rest ≤ least_writing after (filter stays rest) → (b : Bool)
        → least_with one (least_writing newest rest)
        ≤ least_writing after (cond b (one ∷ filter stays rest) (filter stays rest))
    go more true = with_more one (least_writing newest rest) (least_writing after (filter stays rest)) more
    go more false = let less = with_less one (least_writing newest rest) in omega (arith, less, more)

-- it is at most the snapshot of each that may write
pub least_up_to : (newest : ℕ) (all : List LiveSnapshot) (one : LiveSnapshot) → Contains all one
    → one.read_only ≡ false → least_writing newest all ≤ one.snapshot
least_up_to newest [] one m writes = absurd (omega (arith, m.1))
least_up_to newest (other ∷ rest) one m writes = go (λ there. least_up_to newest rest one there writes) m.0 m.1 m.2
  where
    n : ℕ
    n = least_writing newest rest

    go : (Contains rest one → n ≤ one.snapshot) → (k : ℕ) → k < length (other ∷ rest)
        → get_or (other ∷ rest) k one ≡ one → least_with other n ≤ one.snapshot
    go later zero l e =
        let here : other.snapshot ≡ one.snapshot = ap (λ (o : LiveSnapshot). o.snapshot) e in
        let may_write : other.read_only ≡ false = ap (λ (o : LiveSnapshot). o.read_only) e ∙ writes in
        subst (λ b. cond b n (min other.snapshot n) ≤ one.snapshot) (sym may_write) (omega (arith, here))
    go later (suc k) l e =
        let more = later (k, omega (arith, l), e) in
        let less = with_less other n in
        omega (arith, less, more)

-- where no other may ask for what reaches so far, it is no less for the others
pub least_unasked : (newest begin_number far : ℕ) (all : List LiveSnapshot) → may_another_ask begin_number far all ≡ false
    → far ≤ newest → far ≤ least_writing newest (filter (is_other begin_number) all)
least_unasked newest begin_number far [] none h = h
least_unasked newest begin_number far (one ∷ rest) none h =
    let parts = or_parts (is_other begin_number one && not one.read_only && nat_lt one.snapshot far)
    (may_another_ask begin_number far rest) none in
    go (least_unasked newest begin_number far rest parts.1 h) (is_other begin_number one) parts.0
  where
    others : List LiveSnapshot
    others = filter (is_other begin_number) rest

    n : ℕ
    n = least_writing newest others

    here : far ≤ n → (b : Bool) → (not b && nat_lt one.snapshot far) ≡ false → far ≤ cond b n (min one.snapshot n)
    here later true e = later
    here later false e = let above = ltb-false one.snapshot far e in omega (arith, later, above)

    go : far ≤ n → (b : Bool) → (b && not one.read_only && nat_lt one.snapshot far) ≡ false
        → far ≤ least_writing newest (cond b (one ∷ others) others)
    go later false e = later
    go later true e = here later one.read_only e

-- and where one may, it is less
pub least_asked : (newest begin_number far : ℕ) (all : List LiveSnapshot) → may_another_ask begin_number far all ≡ true
    → least_writing newest all < far
least_asked newest begin_number far [] some = let no : ⊥ = cc in absurd no
least_asked newest begin_number far (one ∷ rest) some =
    go (least_asked newest begin_number far rest)
    (is_other begin_number one && not one.read_only && nat_lt one.snapshot far) refl some
  where
    n : ℕ
    n = least_writing newest rest

    here : (other b : Bool) → (other && not b && nat_lt one.snapshot far) ≡ true → cond b n (min one.snapshot n) < far
    here false b e = let no : ⊥ = cc in absurd no
    here true true e = let no : ⊥ = cc in absurd no
    here true false e = let below = ltb-true one.snapshot far e in omega (arith, below)

    go : (may_another_ask begin_number far rest ≡ true → n < far)
        → (b : Bool) → (is_other begin_number one && not one.read_only && nat_lt one.snapshot far) ≡ b
        → (b || may_another_ask begin_number far rest) ≡ true → least_with one n < far
    go later true is e = here (is_other begin_number one) one.read_only is
    go later false is e = let less = with_less one n in let more = later e in omega (arith, less, more)
