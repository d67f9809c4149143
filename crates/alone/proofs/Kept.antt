-- What is kept of a log beside its commits: the least conflict out of each, and the numbers in the serial order.
use Rattle.std.proofs.Common.{◌≡◌, ◌≢◌, ℕ, ◌<◌, false, List, [], ◌∷◌, ◌++◌, map, nat_eq, refl, sym, ap, ◌∙◌, arith, ne_eqb}
use mathlib.Core.List.{reverse}
use Rattle.std.specs.List.{IsDistinct, AllByRecursion}
use Rattle.std.proofs.lemmas.List.{map_push, reverse-append}
use Rattle.alone.proofs.Lists.{Each, Pairs, each_from, pairs_weaker}
use Rattle.alone.specs.declared.records.Record.{Record}
use Rattle.alone.specs.Commits.{IsLog}
use Rattle.alone.specs.Order.{least_out, rank, serial_order}
use Rattle.alone.proofs.Ranks.{earlier_numbers, least_out_stays, own_least, log_falls, sorted_arranges}
use Rattle.alone.proofs.Replays.{arranges_pairs}
use Rattle.alone.proofs.Turned.{in_turned}

-- as another commit follows, the others keep theirs
map_same : {X Y : Type 0} (f g : X → Y) (xs : List X) → Each (λ x. f x ≡ g x) xs → map f xs ≡ map g xs
map_same f g [] e = refl
map_same f g (x ∷ xs) e = (λ i. e.0 i ∷ map f xs) ∙ ap (λ o. g x ∷ o) (map_same f g xs e.1)

-- the least conflicts out of the commits, with that of one commit more
pub places_more : (commits : List Record) (c : Record) → IsLog (c ∷ reverse commits)
    → map (least_out (reverse commits)) commits ++ least_out (reverse commits) c ∷ [] ≡ map (least_out (reverse (commits ++ c ∷ []))) (commits ++ c ∷ [])
places_more commits c h =
    let log : List Record = reverse commits in
    let turned : reverse (commits ++ c ∷ []) ≡ c ∷ log = reverse-append commits (c ∷ []) in
    let others : map (least_out log) commits ≡ map (least_out (c ∷ log)) commits
    = map_same (least_out log) (least_out (c ∷ log)) commits (each_from (λ w. least_out log w ≡ least_out (c ∷ log) w) commits (λ w m. sym (least_out_stays c log w (earlier_numbers c log h.0 h.1 w (in_turned commits w m))))) in
    let own : least_out log c ≡ least_out (c ∷ log) c = sym (own_least c log) in
    (λ i. others i ++ own i ∷ []) ∙ sym (map_push (least_out (c ∷ log)) commits c) ∙ ap (λ l. map (least_out l) (commits ++ c ∷ [])) (sym turned)

-- no number stands twice in the serial order
each_differs : (number : ℕ) (order : List Record) → Each (λ w. number ≢ w.number) order → AllByRecursion (λ other. nat_eq number other ≡ false) (map (λ r. r.number) order)
each_differs number [] e = tt
each_differs number (w ∷ order) e = (ne_eqb number w.number e.0, each_differs number order e.1)

distinct_numbers : (order : List Record) → Pairs (λ a b. a.number ≢ b.number) order → IsDistinct nat_eq (map (λ r. r.number) order)
unfolding IsDistinct
distinct_numbers [] p = tt
distinct_numbers (c ∷ order) p = (each_differs c.number order p.0, distinct_numbers order p.1)

pub order_is_distinct : (log : List Record) → IsLog log → IsDistinct nat_eq (map (λ r. r.number) (serial_order log))
order_is_distinct log h =
    distinct_numbers (serial_order log)
    (arranges_pairs (λ a b. a.number ≢ b.number) (λ a b d e. d (sym e)) (serial_order log) log (sorted_arranges (rank log) log)
    (pairs_weaker (λ a b. b.number < a.number) (λ a b. a.number ≢ b.number) (λ a b l e. omega arith) log (log_falls log h)))
