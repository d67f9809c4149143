-- The commits after a snapshot. A number is a place in the log, and a commit conflicts with none that its snapshot holds.
use Rattle.std.proofs.Common.{◌≡◌, ℕ, suc, ◌-◌, ◌<◌, ◌≤◌, false, cond, ltb, leb, min, List, [], ◌∷◌, ◌++◌, length, map, get_or, take, drop, inl, inr, refl, sym, ap, ◌∙◌, subst, arith, length-append}
use Rattle.std.specs.Prelude.{Contains, ◌&&◌}
use Rattle.std.specs.List.{list_any}
use mathlib.Core.List.{reverse, reverse-cons}
use Rattle.std.proofs.lemmas.Bool.{false_from_ne_true, or_from, and_right}
use Rattle.std.proofs.lemmas.List.{get_or_append_left, map_push, length-map, take-append-drop, reverse-append, length-reverse, length-take-le}
use Rattle.std.proofs.Math.Seq.{get_or-append_seam}
use Rattle.siread.proofs.Members.{in_cases, not_in_nil}
use Rattle.alone.proofs.Lists.{Each, Pairs, each_weaker, each_at}
use Rattle.alone.proofs.Members.{in_left, in_either}
use Rattle.alone.specs.declared.records.Record.{Record}
use Rattle.alone.specs.Commits.{IsLog, conflicts_to, reach}
use Rattle.alone.specs.Numbers.{is_reader_of}
use Rattle.alone.specs.Order.{least_out}
use Rattle.alone.proofs.Arranged.{conflict_overlaps}
use Rattle.alone.proofs.Ranks.{clean, earlier_numbers, numbers_below, log_falls}
use Rattle.alone.proofs.Turned.{in_turned, from_turned, pairs_right, pairs_turned, turned_twice}

log_right : (newer older : List Record) → IsLog (newer ++ older) → IsLog older
log_right [] older h = h
log_right (c ∷ newer) older h = log_right newer older h.1

numbers_above : (newer older : List Record) → IsLog (newer ++ older) → Each (λ w. length older < w.number) newer
numbers_above [] older h = tt
numbers_above (c ∷ newer) older h = (omega (arith, h.0.numbered, length-append newer older), numbers_above newer older h.1)

-- what is kept of each commit stands at the place of its number
pub at_number : {X : Type 0} (f : Record → X) (log : List Record) → IsLog log → (w : Record) → Contains log w → (d : X)
    → get_or (map f (reverse log)) (w.number - 1) d ≡ f w
at_number f [] h w m d = absurd (not_in_nil w m)
at_number f (c ∷ log) h w m d =
    let whole : map f (reverse (c ∷ log)) ≡ map f (reverse log) ++ f c ∷ []
    = ap (map f) (reverse-cons c log) ∙ map_push f (reverse log) c in
    let long : length (map f (reverse log)) ≡ length log = length-map (reverse log) f ∙ length-reverse log in
    ap (λ xs. get_or xs (w.number - 1) d) whole
    ∙ elim (in_cases c log w m) [
      | inl same ↦
          let here : w.number - 1 ≡ length (map f (reverse log))
          = omega (arith, ap (λ z. z.number) same, h.0.numbered, long) in
          ap (λ i. get_or (map f (reverse log) ++ f c ∷ []) i d) here
          ∙ get_or-append_seam (map f (reverse log)) (f c) [] d
          ∙ ap f same
      | inr there ↦
          let small = earlier_numbers c log h.0 h.1 w there in
          let positive = (clean log h.1).snapshots w there in
          get_or_append_left (map f (reverse log)) (f c ∷ []) d (w.number - 1)
          (omega (arith, small, positive, h.0.numbered, long))
          ∙ at_number f log h.1 w there d
    ]

pub kept_at : {X : Type 0} (f : Record → X) (commits : List Record) → IsLog (reverse commits)
    → (w : Record) → Contains (reverse commits) w → (d : X) → get_or (map f commits) (w.number - 1) d ≡ f w
kept_at f commits h w m d =
    ap (λ xs. get_or (map f xs) (w.number - 1) d) (sym (turned_twice commits)) ∙ at_number f (reverse commits) h w m d

-- commits in the order of their numbers: those that a snapshot holds, and those after it
pub record Parts (commits : List Record) (snapshot : ℕ) : Type 0 where
  pub whole : reverse commits ≡ reverse (drop snapshot commits) ++ reverse (take snapshot commits)
  pub held : Each (λ w. w.number ≤ snapshot) (reverse (take snapshot commits))
  pub past : Each (λ w. snapshot < w.number) (reverse (drop snapshot commits))
  pub rises : Pairs (λ a b. a.number < b.number) (drop snapshot commits)

pub parts : (commits : List Record) (snapshot : ℕ) → IsLog (reverse commits) → snapshot ≤ length commits → Parts commits snapshot
parts commits snapshot log within =
    let newer : List Record = reverse (drop snapshot commits) in
    let older : List Record = reverse (take snapshot commits) in
    let whole : reverse commits ≡ newer ++ older = ap reverse (sym (take-append-drop snapshot commits)) ∙ reverse-append (take snapshot commits) (drop snapshot commits) in
    let split : IsLog (newer ++ older) = subst IsLog whole log in
    let long : length older ≡ snapshot = length-reverse (take snapshot commits) ∙ length-take-le snapshot commits within in
    let all : Pairs (λ (a b : Record). a.number < b.number) commits = pairs_turned (λ a b. b.number < a.number) commits (log_falls (reverse commits) log) in
    record {
      whole = whole;
      held = each_weaker (λ w. w.number < suc (length older)) (λ w. w.number ≤ snapshot) (λ w l. omega arith) older (numbers_below older (log_right newer older split));
      past = each_weaker (λ w. length older < w.number) (λ w. snapshot < w.number) (λ w l. omega arith) newer (numbers_above newer older split);
      rises = pairs_right (λ a b. a.number < b.number) (take snapshot commits) (drop snapshot commits) (subst (Pairs (λ (a b : Record). a.number < b.number)) (sym (take-append-drop snapshot commits)) all);
    }

pub in_recent : (commits : List Record) (snapshot : ℕ) → Parts commits snapshot → (w : Record) → Contains (reverse commits) w → snapshot < w.number → Contains (drop snapshot commits) w
in_recent commits snapshot p w m l =
    in_either (Contains (drop snapshot commits) w) (reverse (drop snapshot commits)) (reverse (take snapshot commits)) w
    (from_turned (drop snapshot commits) w)
    (λ o. let k : w.number ≤ snapshot = each_at (λ x. x.number ≤ snapshot) (reverse (take snapshot commits)) p.held w o in absurd (omega arith))
    (subst (λ o. Contains o w) p.whole m)

pub recent_in : (commits : List Record) (snapshot : ℕ) → Parts commits snapshot → (w : Record) → Contains (drop snapshot commits) w → Contains (reverse commits) w
recent_in commits snapshot p w m =
    subst (λ o. Contains o w) (sym p.whole) (in_left (reverse (drop snapshot commits)) (reverse (take snapshot commits)) w (in_turned (drop snapshot commits) w m))

pub recent_past : (commits : List Record) (snapshot : ℕ) → Parts commits snapshot → (w : Record) → Contains (drop snapshot commits) w → snapshot < w.number
recent_past commits snapshot p w m = each_at (λ x. snapshot < x.number) (reverse (drop snapshot commits)) p.past w (in_turned (drop snapshot commits) w m)

-- what the snapshot holds is in no conflict with the commit
no_conflict_out : (c w : Record) → w.number ≤ c.snapshot → conflicts_to c w ≡ false
no_conflict_out c w l = false_from_ne_true (conflicts_to c w) (λ e. let o = conflict_overlaps c w e in omega (arith, o.second))

least_out_held : (older : List Record) (c : Record) → Each (λ w. w.number ≤ c.snapshot) older → least_out older c ≡ c.number
least_out_held [] c e = refl
least_out_held (w ∷ older) c e =
    ap (λ b. cond b (min w.number (least_out older c)) (least_out older c)) (and_right (ltb w.number c.number) (conflicts_to c w) (no_conflict_out c w e.0))
    ∙ least_out_held older c e.1

least_out_past : (newer older : List Record) (c : Record) → Each (λ w. w.number ≤ c.snapshot) older → least_out (newer ++ older) c ≡ least_out newer c
least_out_past [] older c e = least_out_held older c e
least_out_past (v ∷ newer) older c e =
    ap (λ n. cond (ltb v.number c.number && conflicts_to c v) (min v.number n) n) (least_out_past newer older c e)

pub least_out_recent : (commits : List Record) (c : Record) → Parts commits c.snapshot → least_out (reverse commits) c ≡ least_out (reverse (drop c.snapshot commits)) c
least_out_recent commits c p =
    ap (λ o. least_out o c) p.whole ∙ least_out_past (reverse (drop c.snapshot commits)) (reverse (take c.snapshot commits)) c p.held

pub no_pivot_held : (log : List Record) (c : Record) (older : List Record) → Each (λ w. w.number ≤ c.snapshot) older → list_any (is_reader_of log c) older ≡ false
no_pivot_held log c [] e = refl
no_pivot_held log c (w ∷ older) e =
    or_from (is_reader_of log c w) (list_any (is_reader_of log c) older)
    (ap (λ b. b && (ltb (least_out log w) w.number && leb (least_out log w) (reach c))) (no_conflict_out c w e.0))
    (no_pivot_held log c older e.1)
