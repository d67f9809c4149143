-- What a journal at rest becomes, and what a crash leaves of it, while a batch is appended or room is made.
use Rattle.std.proofs.Common.{◌≡◌, inl, inr, ⊎_elim, ℕ, zero, suc, ◌+◌, ◌-◌, ◌<◌, List, [], ◌∷◌, ◌++◌, length, take, drop, Some, refl, sym, ◌∙◌, ap, subst, arith, append_assoc, length-append}
use Rattle.std.specs.Prelude.{map}
use Rattle.std.specs.List.{AllByRecursion}
use Rattle.std.proofs.lemmas.List.{take_at, drop_at, append-nil}
use Rattle.journal.specs.declared.entries.Entry.{Entry}
use Rattle.journal.specs.Spelling as spelled
use Rattle.journal.specs.Spelling.{lines}
use Rattle.journal.specs.Tails.{fed, lines_of, tail_of, IsLine, IsMixed, zeros}
use Rattle.journal.specs.Device.{IsEither, Over, Written}
use Rattle.journal.specs.Fitting.{AreNext}
use Rattle.journal.specs.Recovery.{entries_from, said}
use Rattle.journal.specs.Journals.{IsBetween}
use Rattle.journal.proofs.Shapes.{Shape, whole, fed_append, said_parts, shape_said, shape_lines, shape_tail}
use Rattle.journal.proofs.Silent.{zeros_torn}
use Rattle.journal.proofs.Crash.{crash, lines_are, all_lines, lines_again, entries_append, each_both}

-- where two lists are cut at one place, their parts are the same
pub cut_front : (a b c d : List ℕ) → length a ≡ length c → a ++ b ≡ c ++ d → a ≡ c
cut_front a b c d same whole = sym (take_at a b (length a) refl) ∙ ap (take (length a)) whole ∙ take_at c d (length a) (sym same)

pub cut_behind : (a b c d : List ℕ) → length a ≡ length c → a ++ b ≡ c ++ d → b ≡ d
cut_behind a b c d same whole = sym (drop_at a b (length a) refl) ∙ ap (drop (length a)) whole ∙ drop_at c d (length a) (sym same)

-- a write over zeros
pub record OverZeros (bytes now behind : List ℕ) (n : ℕ) : Type 0 where
  pub mixed : IsMixed bytes now
  pub rest : behind ≡ zeros (n - length bytes)

abbrev rest_of : List ℕ → List ℕ
rest_of [] = []
rest_of (x ∷ xs) = xs

abbrev head_of : List ℕ → ℕ
head_of [] = 0
head_of (x ∷ xs) = x

over_zeros : (bytes was now : List ℕ) (n : ℕ) (behind : List ℕ) → length bytes < n → zeros n ≡ was ++ behind → IsEither bytes was now → OverZeros bytes now behind n
over_zeros [] [] [] n behind long is either = record { mixed = tt; rest = sym is ∙ ap zeros (omega arith) }
over_zeros [] [] (c ∷ cs) n behind long is either = absurd either
over_zeros [] (w ∷ was) [] n behind long is either = absurd either
over_zeros [] (w ∷ was) (c ∷ cs) n behind long is either = absurd either
over_zeros (b ∷ bytes) [] now n behind long is either = absurd either
over_zeros (b ∷ bytes) (w ∷ was) [] n behind long is either = absurd either
over_zeros (b ∷ bytes) (w ∷ was) (c ∷ cs) zero behind long is either = absurd (omega (arith, long))
over_zeros (b ∷ bytes) (w ∷ was) (c ∷ cs) (suc n) behind long is either =
    let w_is : w ≡ 0 = sym (ap head_of is) in
    let more = over_zeros bytes was cs n behind (omega (arith, long)) (ap rest_of is) either.1 in
    record {
      mixed = (⊎_elim (λ old. inl (old ∙ w_is)) (λ new. inr new) either.0, more.mixed);
      rest = more.rest ∙ ap zeros (omega arith);
    }

-- a whole write is one of these
all_new : (bytes was : List ℕ) → length was ≡ length bytes → IsEither bytes was bytes
all_new [] [] same = tt
all_new [] (w ∷ was) same = absurd (omega (arith, same))
all_new (b ∷ bytes) [] same = absurd (omega (arith, same))
all_new (b ∷ bytes) (w ∷ was) same = (inr refl, all_new bytes was (omega (arith, same)))

one_zero : (n : ℕ) → 0 < n → zeros n ≡ 0 ∷ zeros (n - 1)
one_zero zero some = absurd (omega (arith, some))
one_zero (suc n) some = ap (λ (k : ℕ). 0 ∷ zeros k) (omega arith)

zeros_add : (n m : ℕ) → zeros n ++ zeros m ≡ zeros (n + m)
zeros_add zero m = ap zeros (omega arith)
zeros_add (suc n) m =
    let more : suc (n + m) ≡ suc n + m = omega arith in
    let first : zeros (suc n) ++ zeros m ≡ zeros (suc (n + m)) = ap (λ (l : List ℕ). 0 ∷ l) (zeros_add n m) in
    first ∙ ap zeros more

pub length_zeros : (n : ℕ) → length (zeros n) ≡ n
length_zeros zero = refl
length_zeros (suc n) = omega (arith, length_zeros n)

no_lines : (n : ℕ) → lines_of (zeros n) ≡ []
no_lines zero = refl
no_lines (suc n) = refl

-- a file of lines that say these entries, with zeros behind them
pub record Rests (first : ℕ) (es : List Entry) (file : List ℕ) (end room : ℕ) : Type 0 where
  pub entries : said first file ≡ Some es
  pub end_is : end ≡ length (fed (lines_of file))
  pub blank : tail_of file ≡ zeros room

pub rests : (first : ℕ) (es : List Entry) (file : List ℕ) (ls : List (List ℕ)) (room : ℕ) → AllByRecursion IsLine ls → entries_from first ls ≡ Some es → file ≡ fed ls ++ zeros room
    → Rests first es file (length (fed ls)) room
rests first es file ls room each says is =
    let s : Shape first es file = record {
      lines = ls;
      tail = zeros room;
      is = is;
      each = each;
      says = says;
      none = no_lines room;
      torn = zeros_torn (first + length es) room;
    } in
    record {
      entries = shape_said first es file s;
      end_is = ap (λ (l : List (List ℕ)). length (fed l)) (sym (shape_lines first es file s));
      blank = shape_tail first es file s;
    }

-- such a file is its lines and the zeros
pub rested : (file : List ℕ) (room : ℕ) → tail_of file ≡ zeros room → file ≡ fed (lines_of file) ++ zeros room
rested file room blank =
    let w = whole file in
    w.0 ∙ ap (λ (l : List ℕ). fed (lines_of file) ++ l) blank

-- a file that says what it said before
pub unchanged : (first : ℕ) (es batch : List Entry) (file : List ℕ) → said first file ≡ Some es → IsBetween first es batch file
unchanged first es batch file is =
    let none : ℕ = 0 in
    (none, omega arith, is ∙ ap (λ (l : List Entry). Some l) (sym (append-nil es)))

-- a write of a batch that a crash cuts short
pub torn_batch : (first : ℕ) (es batch : List Entry) (at room : ℕ) (text d c : List ℕ) → said first d ≡ Some es → tail_of d ≡ zeros room → at ≡ length (fed (lines_of d))
    → AreNext (first + length es) batch → text ≡ lines batch → length text < room → Over at text d c → IsBetween first es batch c
torn_batch first es batch at room text d c entries blank at_is next text_is fits over =
    let s = said_parts first es d entries in
    let same : length (fed (lines_of d)) ≡ length over.front = sym (over.at_is ∙ at_is) in
    let all : fed (lines_of d) ++ zeros room ≡ over.front ++ (over.was ++ over.behind) = sym (rested d room blank) ∙ over.old_is in
    let front_is = cut_front (fed (lines_of d)) (zeros room) over.front (over.was ++ over.behind) same all in
    let zeros_are = cut_behind (fed (lines_of d)) (zeros room) over.front (over.was ++ over.behind) same all in
    let over_them = over_zeros text over.was over.now room over.behind fits zeros_are over.either in
    let left = room - length text in
    let behind_is : over.behind ≡ 0 ∷ zeros (left - 1) = over_them.rest ∙ one_zero left (omega (arith, fits)) in
    let found = crash first es batch (lines_of d) over.now (left - 1) s.each s.says next (subst (λ (t : List ℕ). IsMixed t over.now) text_is over_them.mixed) in
    let c_is : c ≡ fed (lines_of d) ++ (over.now ++ 0 ∷ zeros (left - 1)) = over.new_is ∙ (λ i. (sym front_is) i ++ (over.now ++ behind_is i)) in (
      found.0,
      found.1,
      shape_said first (es ++ take found.0 batch) c (subst (λ (f : List ℕ). Shape first (es ++ take found.0 batch) f) (sym c_is) found.2),
    )

-- a whole batch
pub whole_batch : (first : ℕ) (es batch : List Entry) (at room : ℕ) (text d new : List ℕ) → said first d ≡ Some es → tail_of d ≡ zeros room → at ≡ length (fed (lines_of d))
    → AreNext (first + length es) batch → text ≡ lines batch → length text < room → Written at text d new → Rests first (es ++ batch) new (at + length text) (room - length text)
whole_batch first es batch at room text d new entries blank at_is next text_is fits written =
    let s = said_parts first es d entries in
    let same : length (fed (lines_of d)) ≡ length written.front = sym (written.at_is ∙ at_is) in
    let all : fed (lines_of d) ++ zeros room ≡ written.front ++ (written.was ++ written.behind) = sym (rested d room blank) ∙ written.old_is in
    let front_is = cut_front (fed (lines_of d)) (zeros room) written.front (written.was ++ written.behind) same all in
    let zeros_are = cut_behind (fed (lines_of d)) (zeros room) written.front (written.was ++ written.behind) same all in
    let over_them = over_zeros text written.was text room written.behind fits zeros_are (all_new text written.was written.same_length) in
    let fed_is : text ≡ fed (map spelled.line batch) = text_is ∙ lines_are batch in
    let new_is : new ≡ fed (lines_of d ++ map spelled.line batch) ++ zeros (room - length text) =
    written.new_is ∙ (λ i. (sym front_is) i ++ (fed_is i ++ over_them.rest i)) ∙ sym (append_assoc (fed (lines_of d)) (fed (map spelled.line batch)) (zeros (room - length text)))
    ∙ ap (λ (l : List ℕ). l ++ zeros (room - length text)) (sym (fed_append (lines_of d) (map spelled.line batch))) in
    let r = rests first (es ++ batch) new (lines_of d ++ map spelled.line batch) (room - length text) (each_both (lines_of d) (map spelled.line batch) s.each (all_lines batch next.fit))
    (entries_append first (lines_of d) (map spelled.line batch) es batch s.says (lines_again (first + length es) batch next.numbered next.fit)) new_is in
    let end_is : at + length text ≡ length (fed (lines_of d ++ map spelled.line batch)) =
    omega (arith, at_is, ap length fed_is, ap length (fed_append (lines_of d) (map spelled.line batch)), length-append (fed (lines_of d)) (fed (map spelled.line batch))) in
    record { entries = r.entries; end_is = end_is ∙ r.end_is; blank = r.blank }

-- more zeros
pub roomier : (first : ℕ) (es : List Entry) (at room more : ℕ) (d new : List ℕ) → said first d ≡ Some es → tail_of d ≡ zeros room → at ≡ length (fed (lines_of d)) → new ≡ d ++ zeros more
    → Rests first es new at (room + more)
roomier first es at room more d new entries blank at_is is =
    let s = said_parts first es d entries in
    let new_is : new ≡ fed (lines_of d) ++ zeros (room + more) =
    is ∙ ap (λ (l : List ℕ). l ++ zeros more) (rested d room blank) ∙ append_assoc (fed (lines_of d)) (zeros room) (zeros more)
    ∙ ap (λ (l : List ℕ). fed (lines_of d) ++ l) (zeros_add room more) in
    let r = rests first es new (lines_of d) (room + more) s.each s.says new_is in
    record { entries = r.entries; end_is = at_is ∙ r.end_is; blank = r.blank }
