-- The whole lines of a file, and what stands behind them.
use Rattle.std.proofs.Common.{◌≡◌, ◌⊎◌, inl, inr, ℕ, ◌+◌, ◌-◌, Bool, true, false, List, [], ◌∷◌, ◌++◌, length, drop, Option, Some, None, refl, sym, ◌∙◌, ap, subst, arith, append_assoc, length-append}
use Rattle.std.specs.Prelude.{if◌then◌else◌}
use Rattle.std.specs.List.{AllByRecursion}
use Rattle.std.proofs.lemmas.List.{drop_at, append-nil}
use Rattle.std.proofs.lemmas.Bool.{cases_eq}
use Rattle.std.proofs.lemmas.Bool.Decides.{nat_tests}
use Rattle.std.specs.Prelude.{◌==◌}
use Rattle.journal.specs.declared.entries.Entry.{Entry}
use Rattle.journal.specs.Tails.{with_first, lines_from, lines_of, tail_of, fed, IsPlainByte, IsLine}
use Rattle.journal.specs.Reading.{◌>>=◌}
use Rattle.journal.specs.Recovery.{entries_from, recovered, is_torn, said}
use Rattle.journal.proofs.Torn.{plain_first, whole_lines}

pub fed_append : (a b : List (List ℕ)) → fed (a ++ b) ≡ fed a ++ fed b
fed_append [] b = refl
fed_append (line ∷ a) b =
    ap (λ (l : List ℕ). 10 ∷ (line ++ 10 ∷ l)) (fed_append a b)
    ∙ ap (λ (l : List ℕ). 10 ∷ l) (sym (append_assoc line (10 ∷ fed a) (fed b)))

-- bytes are lines, and a tail with no whole line in front
record Cut (bytes : List ℕ) (lines : List (List ℕ)) : Type 0 where
  pub tail : List ℕ
  pub is : bytes ≡ fed lines ++ tail
  pub each : AllByRecursion IsLine lines
  pub none : lines_of tail ≡ []

-- the rest of a line, and lines behind it
record Ends (bytes : List ℕ) (read : List (List ℕ)) : Type 0 where
  pub line : List ℕ
  pub lines : List (List ℕ)
  pub tail : List ℕ
  pub read_is : read ≡ line ∷ lines
  pub is : bytes ≡ line ++ 10 ∷ (fed lines ++ tail)
  pub plain : IsLine line
  pub each : AllByRecursion IsLine lines
  pub none : lines_of tail ≡ []

abbrev CutIn : Bool → List ℕ → Type 0
CutIn false bytes = Cut bytes (lines_of bytes)
CutIn true bytes = (lines_from true bytes ≡ []) ⊎ Ends bytes (lines_from true bytes)

behind_feed : (bs : List ℕ) → CutIn true bs → Cut (10 ∷ bs) (lines_from true bs)
behind_feed bs (inl none) =
    subst (λ (ls : List (List ℕ)). Cut (10 ∷ bs) ls) (sym none) (record { tail = 10 ∷ bs; is = refl; each = tt; none = none })
behind_feed bs (inr e) =
    subst (λ (ls : List (List ℕ)). Cut (10 ∷ bs) ls) (sym e.read_is) (record {
      tail = e.tail;
      is = ap (λ (l : List ℕ). 10 ∷ l) (e.is ∙ sym (append_assoc e.line (10 ∷ fed e.lines) e.tail));
      each = (e.plain, e.each);
      none = e.none;
    })

outside : (b : ℕ) (bs : List ℕ) → CutIn true bs → Cut (b ∷ bs) (lines_of (b ∷ bs))
outside b bs behind = elim (cases_eq b 10) [
  | inl is ↦ subst (λ (n : ℕ). Cut (n ∷ bs) (lines_of (n ∷ bs))) (sym is) (behind_feed bs behind)
  | inr isnt ↦
      let f : (b == 10) ≡ false = grind (arith, nat_tests, isnt) in
      let no_lines : lines_of (b ∷ bs) ≡ [] = rw f refl in
      subst (λ (ls : List (List ℕ)). Cut (b ∷ bs) ls) (sym no_lines) (record { tail = b ∷ bs; is = refl; each = tt; none = no_lines })
]

one_more : (b : ℕ) (bs : List ℕ) → IsPlainByte b → CutIn true bs → CutIn true (b ∷ bs)
one_more b bs plain (inl none) = inl (plain_first b bs plain ∙ ap (with_first b) none)
one_more b bs plain (inr e) = inr (record {
  line = b ∷ e.line;
  lines = e.lines;
  tail = e.tail;
  read_is = plain_first b bs plain ∙ ap (with_first b) e.read_is;
  is = ap (λ (l : List ℕ). b ∷ l) e.is;
  plain = (plain, e.plain);
  each = e.each;
  none = e.none;
})

inside : (b : ℕ) (bs : List ℕ) → Cut bs (lines_of bs) → CutIn true bs → CutIn true (b ∷ bs)
inside b bs after behind = elim (cases_eq b 0) [
  | inl is ↦ subst (λ (n : ℕ). CutIn true (n ∷ bs)) (sym is) (inl refl)
  | inr not_zero ↦ elim (cases_eq b 10) [
    | inl is ↦ subst (λ (n : ℕ). CutIn true (n ∷ bs)) (sym is) (inr (record {
      line = [];
      lines = lines_of bs;
      tail = after.tail;
      read_is = refl;
      is = ap (λ (l : List ℕ). 10 ∷ l) after.is;
      plain = tt;
      each = after.each;
      none = after.none;
    }))
    | inr not_feed ↦ one_more b bs (not_zero, not_feed) behind
  ]
]

cut_in : (within : Bool) (bytes : List ℕ) → CutIn within bytes
cut_in false [] = record { tail = []; is = refl; each = tt; none = refl }
cut_in true [] = inl refl
cut_in false (b ∷ bs) = outside b bs (cut_in true bs)
cut_in true (b ∷ bs) = inside b bs (cut_in false bs) (cut_in true bs)

-- where the lines are cut off
drop_fed : (file tail : List ℕ) (lines : List (List ℕ)) → lines_of file ≡ lines → file ≡ fed lines ++ tail → tail_of file ≡ tail
drop_fed file tail lines read is =
    ap (λ (ls : List (List ℕ)). drop (length (fed ls)) file) read ∙ ap (drop (length (fed lines))) is
    ∙ drop_at (fed lines) tail (length (fed lines)) refl

-- a file is its whole lines, and behind them none is whole
pub whole : (file : List ℕ) → (file ≡ fed (lines_of file) ++ tail_of file) × (lines_of (tail_of file) ≡ [])
whole file =
    let c : Cut file (lines_of file) = cut_in false file in
    let t : tail_of file ≡ c.tail = drop_fed file c.tail (lines_of file) refl c.is in
    (c.is ∙ ap (λ (l : List ℕ). fed (lines_of file) ++ l) (sym t), ap lines_of t ∙ c.none)

-- where its lines end
pub end_place : (file rest : List ℕ) → rest ≡ tail_of file → length file - length rest ≡ length (fed (lines_of file))
end_place file rest is =
    let w = whole file in
    omega (arith, ap length w.0, length-append (fed (lines_of file)) (tail_of file), ap length is)

pub each_line : (file : List ℕ) → AllByRecursion IsLine (lines_of file)
each_line file =
    let c : Cut file (lines_of file) = cut_in false file in
    c.each

-- lines that were passed over, and bytes that are left
pub record Passed (bytes rest : List ℕ) : Type 0 where
  pub lines : List (List ℕ)
  pub is : bytes ≡ fed lines ++ rest
  pub read : lines_of bytes ≡ lines ++ lines_of rest

pub passed_none : (bytes : List ℕ) → Passed bytes bytes
passed_none bytes = record { lines = []; is = refl; read = refl }

pub passed_one : (bytes rest line behind : List ℕ) → Passed bytes rest → rest ≡ 10 ∷ (line ++ 10 ∷ behind) → lines_of rest ≡ line ∷ lines_of behind → Passed bytes behind
passed_one bytes rest line behind p is read = record {
  lines = p.lines ++ line ∷ [];
  is = p.is ∙ ap (λ (l : List ℕ). fed p.lines ++ l) (is ∙ ap (λ (l : List ℕ). 10 ∷ l) (sym (append_assoc line (10 ∷ []) behind)))
      ∙ sym (append_assoc (fed p.lines) (10 ∷ (line ++ 10 ∷ [])) behind)
      ∙ ap (λ (l : List ℕ). l ++ behind) (sym (fed_append p.lines (line ∷ [])));
  read = p.read ∙ ap (λ (ls : List (List ℕ)). p.lines ++ ls) read ∙ sym (append_assoc p.lines (line ∷ []) (lines_of behind));
}

pub passed_all : (bytes rest : List ℕ) → Passed bytes rest → lines_of rest ≡ [] → rest ≡ tail_of bytes
passed_all bytes rest p none =
    sym (drop_fed bytes rest p.lines (p.read ∙ ap (λ (ls : List (List ℕ)). p.lines ++ ls) none ∙ append-nil p.lines) p.is)

-- a file that says these entries
pub record Shape (first : ℕ) (es : List Entry) (file : List ℕ) : Type 0 where
  pub lines : List (List ℕ)
  pub tail : List ℕ
  pub is : file ≡ fed lines ++ tail
  pub each : AllByRecursion IsLine lines
  pub says : entries_from first lines ≡ Some es
  pub none : lines_of tail ≡ []
  pub torn : is_torn (first + length es) tail ≡ true

pub shape_lines : (first : ℕ) (es : List Entry) (file : List ℕ) (s : Shape first es file) → lines_of file ≡ s.lines
shape_lines first es file s =
    ap lines_of s.is ∙ whole_lines s.lines s.tail s.each ∙ ap (λ (ls : List (List ℕ)). s.lines ++ ls) s.none ∙ append-nil s.lines

pub shape_tail : (first : ℕ) (es : List Entry) (file : List ℕ) (s : Shape first es file) → tail_of file ≡ s.tail
shape_tail first es file s = drop_fed file s.tail s.lines (shape_lines first es file s) s.is

pub shape_said : (first : ℕ) (es : List Entry) (file : List ℕ) → Shape first es file → said first file ≡ Some es
shape_said first es file s =
    let read : recovered first file ≡ Some es = ap (entries_from first) (shape_lines first es file s) ∙ s.says in
    let torn : is_torn (first + length es) (tail_of file) ≡ true = ap (is_torn (first + length es)) (shape_tail first es file s) ∙ s.torn in
    ap (λ (r : Option (List Entry)). r >>= λ xs. if is_torn (first + length xs) (tail_of file) then Some xs else None) read
    ∙ ap (λ (b : Bool). if b then Some es else None) torn

abbrev held : Option (List Entry) → List Entry
held None = []
held (Some es) = es

chosen : (b : Bool) (fs es : List Entry) → (if b then Some fs else None) ≡ Some es → (b ≡ true) × (fs ≡ es)
chosen true fs es is = (refl, ap held is)
chosen false fs es is = absurd cc

parts : (first : ℕ) (tail : List ℕ) (read : Option (List Entry)) (es : List Entry) → (read >>= λ xs. if is_torn (first + length xs) tail then Some xs else None) ≡ Some es
    → (read ≡ Some es) × (is_torn (first + length es) tail ≡ true)
parts first tail None es is = absurd cc
parts first tail (Some fs) es is =
    let c = chosen (is_torn (first + length fs) tail) fs es is in
    (ap (λ (l : List Entry). Some l) c.1, subst (λ (l : List Entry). is_torn (first + length l) tail ≡ true) c.1 c.0)

-- a file that says entries, in the parts that it is read in
pub record Parts (first : ℕ) (es : List Entry) (file : List ℕ) : Type 0 where
  pub each : AllByRecursion IsLine (lines_of file)
  pub says : entries_from first (lines_of file) ≡ Some es
  pub none : lines_of (tail_of file) ≡ []
  pub torn : is_torn (first + length es) (tail_of file) ≡ true

pub said_parts : (first : ℕ) (es : List Entry) (file : List ℕ) → said first file ≡ Some es → Parts first es file
said_parts first es file is =
    let p = parts first (tail_of file) (recovered first file) es is in
    let w = whole file in
    record { each = each_line file; says = p.0; none = w.1; torn = p.1 }

-- nothing is said where what stands behind the lines is no crash's
pub not_torn : (first : ℕ) (es : List Entry) (file : List ℕ) → recovered first file ≡ Some es → is_torn (first + length es) (tail_of file) ≡ false → said first file ≡ None
not_torn first es file read torn =
    ap (λ (r : Option (List Entry)). r >>= λ xs. if is_torn (first + length xs) (tail_of file) then Some xs else None) read
    ∙ ap (λ (b : Bool). if b then Some es else None) torn

pub is_said : (first : ℕ) (es : List Entry) (file : List ℕ) → recovered first file ≡ Some es → is_torn (first + length es) (tail_of file) ≡ true → said first file ≡ Some es
is_said first es file read torn =
    ap (λ (r : Option (List Entry)). r >>= λ xs. if is_torn (first + length xs) (tail_of file) then Some xs else None) read
    ∙ ap (λ (b : Bool). if b then Some es else None) torn

pub none_said : (first : ℕ) (file : List ℕ) → recovered first file ≡ None → said first file ≡ None
none_said first file read =
    ap (λ (r : Option (List Entry)). r >>= λ xs. if is_torn (first + length xs) (tail_of file) then Some xs else None) read
