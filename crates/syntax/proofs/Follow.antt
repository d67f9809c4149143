-- What a text begins with, what may stand behind it, and the laws of finding with their arguments left to be found.
use Rattle.std.proofs.Common.{◌≡◌, ℕ, ◌≤◌, Bool, true, List, ◌++◌, sym, ◌∙◌, ap, subst, inl, inr, arith, append_assoc}
use Rattle.token.specs.declared.kinds.Kind.{Kind}
use Rattle.token.specs.declared.kinds.Kind.TheVariants as k
use Rattle.syntax.specs.Language.{Lexeme, Lexemes, kind_at, Language, Then, Behind}
use Rattle.syntax.specs.Language as lang
use Rattle.syntax.specs.Reading.{Reader, ◌>>=◌, pure, by_kind, expect, all}
use Rattle.syntax.proofs.WordLaws.{Finds, Accepts, finds_then, finds_pure, narrow}
use Rattle.syntax.proofs.Loops.{finds_after, kind_first, finds_all, Loops, Opening, each_small}

-- how tightly a token binds that goes on with an expression, a condition or a part of a query or statement
abbrev pub rank : Kind → ℕ
rank k.Dot = 10
rank k.Star = 9
rank k.Open = 9
rank k.Plus = 8
rank k.Minus = 8
rank k.Initially = 8
rank k.Deferrable = 8
rank k.Equal = 7
rank k.NotEqual = 7
rank k.Less = 7
rank k.AtMost = 7
rank k.Greater = 7
rank k.AtLeast = 7
rank k.Is = 7
rank k.Not = 7
rank k.Between = 7
rank k.In = 7
rank k.And = 6
rank k.Constraint = 6
rank k.Or = 5
rank k.Primary = 5
rank k.Unique = 5
rank k.Check = 5
rank k.References = 5
rank k.As = 5
rank k.Name = 5
rank k.Comma = 4
rank k.Where = 3
rank k.Group = 2
rank k.Having = 1
rank k.Create = 1
rank k.Insert = 1
rank k.Work = 1
rank k.Read = 1
rank _ = 0

-- with any tokens behind it, a text begins with a kind of which P holds
abbrev pub Opens : {A : Type 0} → Language A → (Kind → Type 0) → Type 0
Opens {A} L P = (w rest : Lexemes) (a : A) → L w a → P (kind_at (w ++ rest))

pub opens_then : {A B : Type 0} {K : Language A} {M : A → Language B} (P : Kind → Type 0) → Opens K P → Opens (Then K M) P
opens_then P o w rest b h =
    let s = h.split in
    subst (λ t. P (kind_at t)) (sym (ap (λ t. t ++ rest) s.cut ∙ append_assoc s.front s.back rest)) (o s.front (s.back ++ rest) h.tree s.first)

pub opens_token : {B : Type 0} {M : Lexeme → Language B} (P : Kind → Type 0) (kind : Kind) → P kind → Opens (Then (lang.token kind) M) P
opens_token {M = M} P kind p w rest b h = subst P (sym (kind_first kind M w rest b h)) p

pub opens_where : (P : Kind → Type 0) (kind : Kind) (test : Lexeme → Bool) → P kind → Opens (lang.token_where kind test) P
opens_where P kind test p w rest x h = subst (λ t. P (kind_at (t ++ rest))) (sym h.0) (subst P (sym h.1) p)

pub opens_either : {A : Type 0} {K L : Language A} (P : Kind → Type 0) → Opens K P → Opens L P → Opens (lang.◌∪◌ K L) P
opens_either P f g w rest a (inl h) = f w rest a h
opens_either P f g w rest a (inr h) = g w rest a h

-- where the token behind it binds at most so tightly, the token at its front does so too
abbrev pub Follows : {A : Type 0} → ℕ → ℕ → Language A → Type 0
Follows {A} l m L = (w rest : Lexemes) (a : A) → L w a → rank (kind_at rest) ≤ m → rank (kind_at (w ++ rest)) ≤ l

pub follows_opens : {A : Type 0} {L : Language A} (l m : ℕ) → Opens L (λ kind. rank kind ≤ l) → Follows l m L
follows_opens l m o w rest a h small = o w rest a h

pub follows_pure : {A : Type 0} (l m : ℕ) (a : A) → m ≤ l → Follows l m (lang.pure a)
follows_pure l m a le w rest b h small = let e = ap (λ t. rank (kind_at (t ++ rest))) h.0 in omega arith

pub follows_either : {A : Type 0} {K L : Language A} (l m : ℕ) → Follows l m K → Follows l m L → Follows l m (lang.◌∪◌ K L)
follows_either l m f g w rest a (inl h) small = f w rest a h small
follows_either l m f g w rest a (inr h) small = g w rest a h small

pub follows_then : {A B : Type 0} {K : Language A} {M : A → Language B} (l i m : ℕ) → Follows l i K → ((a : A) → Follows i m (M a)) → Follows l m (Then K M)
follows_then l i m f g w rest b h small =
    let s = h.split in
    subst (λ t. rank (kind_at t) ≤ l) (sym (ap (λ t. t ++ rest) s.cut ∙ append_assoc s.front s.back rest))
    (f s.front (s.back ++ rest) h.tree s.first (g h.tree s.back rest b s.second small))

pub follows_map : {A B : Type 0} {K : Language A} (l m : ℕ) (g : A → B) → Follows l m K → Follows l m (Then K (λ a. lang.pure (g a)))
follows_map l m g f = follows_then l m m f (λ a. follows_pure m m (g a) (omega arith))

pub follows_behind : {A : Type 0} {L : Language A} {l m : ℕ} {goes_on : Kind → Bool} (found : List A) → Loops rank l m goes_on L → Follows l m (Behind found L)
follows_behind {L = L} {l = l} {m = m} {goes_on = goes_on} found loop w rest all h small = each_small rank l m goes_on L loop h.0 w rest h.2 small

-- an item of a loop begins with one token
pub token_opening : {B : Type 0} (goes_on : Kind → Bool) (kind : Kind) (M : Lexeme → Language B) → goes_on kind ≡ true → (w : Lexemes) (b : B) → Then (lang.token kind) M w b → Opening goes_on (Then (lang.token kind) M) w
token_opening goes_on kind M passes w b h =
    record { token = h.tree; more = h.split.back; is = h.split.cut ∙ ap (λ t. t ++ h.split.back) h.split.first.0; passes = ap goes_on h.split.first.1 ∙ passes }

-- ---- finding

pub then_f : {A B : Type 0} {K : Language A} {M : A → Language B} {p : Reader A} {f : A → Reader B} (l m : ℕ)
    → Finds rank l K p → ((w : Lexemes) (a : A) → K w a → Finds rank m (M a) (f a)) → ((a : A) → Follows l m (M a)) → Finds rank m (Then K M) (p >>= f)
then_f {K = K} {M = M} {p = p} {f = f} l m fp ff follows = finds_then rank rank l m K M p f fp ff follows

pub map_f : {A B : Type 0} {K : Language A} {p : Reader A} (m : ℕ) (g : A → B) → Finds rank m K p → Finds rank m (Then K (λ a. lang.pure (g a))) (p >>= (λ a. pure (g a)))
map_f {K = K} {p = p} m g fp = finds_then rank rank m m K (λ a. lang.pure (g a)) p (λ a. pure (g a)) fp (λ w a h. finds_pure rank m (g a)) (λ a. follows_pure m m (g a) (omega arith))

pub seq_f : {B : Type 0} {M : Language B} {q : Reader B} (m : ℕ) (kind : Kind) → Finds rank m M q → Finds rank m (Then (lang.token kind) (λ _. M)) (expect kind >>= (λ _. q))
seq_f {M = M} {q = q} m kind fq = finds_after rank m kind (λ _. M) (λ _. q) (λ _ _ _. fq)

pub few : {A : Type 0} {K L : Language A} {p : Reader A} {m : ℕ} → ((w : Lexemes) (a : A) → L w a → K w a) → Finds rank m K p → Finds rank m L p
few {K = K} {L = L} {p = p} {m = m} into f = narrow rank m K L p into f

-- fewer kinds behind it
pub lower : {A : Type 0} {L : Language A} {p : Reader A} (m l : ℕ) → m ≤ l → Finds rank l L p → Finds rank m L p
lower m l le f = record { finds = λ w rest a h small. f.finds w rest a h (omega arith) }

pub all_f : {A : Type 0} {L : Language A} {item : Reader A} (l m : ℕ) (goes_on : Kind → Bool) → Loops rank l m goes_on L → Finds rank l L item → (found : List A) → Finds rank m (Behind found L) (all goes_on item found)
all_f {L = L} {item = item} l m goes_on loop f found = finds_all rank l m goes_on L item loop f found

-- the branch for the kind that comes
pub at_kind : {A : Type 0} (branch : Kind → Reader A) (kind : Kind) (ts rest : Lexemes) (a : A) → kind_at ts ≡ kind → Accepts (branch kind ts) a rest → Accepts (by_kind branch ts) a rest
at_kind branch kind ts rest a is h = subst (λ kind. Accepts (branch kind ts) a rest) (sym is) h

-- an alternative that begins with one token
pub pick : {A : Type 0} {M : Lexeme → Language A} {p : Reader A} (branch : Kind → Reader A) (kind : Kind) (m : ℕ) → branch kind ≡ p → Finds rank m (Then (lang.token kind) M) p
    → (w rest : Lexemes) (a : A) → Then (lang.token kind) M w a → rank (kind_at rest) ≤ m → Accepts (by_kind branch (w ++ rest)) a rest
pick {M = M} branch kind m is f w rest a h small =
    at_kind branch kind (w ++ rest) rest a (kind_first kind M w rest a h) (subst (λ p. Accepts (p (w ++ rest)) a rest) (sym is) (f.finds w rest a h small))

-- kinds whose branch is this reader
abbrev pub Goes : {A : Type 0} → (Kind → Reader A) → Reader A → Kind → Type 0
Goes {A} branch p kind = ◌≡◌ {A = Reader A} (branch kind) p

-- an alternative that begins with a kind whose branch is this reader
pub route : {A : Type 0} {L : Language A} {p : Reader A} (branch : Kind → Reader A) (m : ℕ) → Finds rank m L p → Opens L (Goes branch p)
    → (w rest : Lexemes) (a : A) → L w a → rank (kind_at rest) ≤ m → Accepts (by_kind branch (w ++ rest)) a rest
route {p = p} branch m f opens w rest a h small = subst (λ q. Accepts (q (w ++ rest)) a rest) (sym (opens w rest a h)) (f.finds w rest a h small)
