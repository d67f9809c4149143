-- What may be missing, lists with commas, and what stands in parentheses.
use Rattle.std.proofs.Common.{◌≡◌, ℕ, ◌≤◌, ◌<◌, Bool, true, false, [], ◌∷◌, ◌++◌, Option, Some, None, refl, sym, ◌∙◌, ap, subst, inl, inr, arith, cond}
use Rattle.token.specs.declared.kinds.Kind.{Kind}
use Rattle.token.specs.declared.kinds.Kind.TheVariants as k
use Rattle.syntax.specs.Language.{Lexeme, Lexemes, kind_at, Language, Then, Begins}
use Rattle.syntax.specs.Language as lang
use Rattle.syntax.specs.Reading.{Reader, ◌<$>◌, pure, same_kind, optional, list, list_item, is_comma}
use Rattle.syntax.proofs.WordLaws.{append-nil, same_kind_is, same_kind_self, Sound, sound_pure, sound_by_kind, sound_cond, Finds, Accepts, finds_pure}
use Rattle.syntax.proofs.Loops.{Loops}
use Rattle.syntax.proofs.Short.{then_s, map_s, seq_s, weak, all_s, token_some, mapped, mapping}
use Rattle.syntax.proofs.Follow.{rank, Opens, opens_then, Follows, follows_opens, follows_pure, follows_either, follows_behind, token_opening, then_f, map_f, seq_f, all_f}

-- ---- what may be missing

pub optional_s : {A : Type 0} {n : ℕ} {L : Language A} {p : Reader A} (kind : Kind) → Sound n n L p → Sound n n (lang.optional L) (optional kind p)
optional_s {n = n} {L = L} {p = p} kind s =
    sound_by_kind n n (lang.optional L) (λ next. cond (same_kind next kind) (Some <$> p) (pure None))
    (λ next. sound_cond n n (lang.optional L) (same_kind next kind) (Some <$> p) (pure None) (weak (λ w a h. inr h) (map_s Some s)) (weak (λ w a h. inl h) (sound_pure n None)))

not_same : (kind next : Kind) (m : ℕ) (b : Bool) → m < rank kind → rank next ≤ m → same_kind next kind ≡ b → b ≡ false
not_same kind next m true over small e = let is = ap rank (same_kind_is next kind e) in absurd (omega arith)
not_same kind next m false over small e = refl

pub optional_f : {A : Type 0} {L : Language A} {p : Reader A} (m : ℕ) (kind : Kind) → m < rank kind → Opens L (λ next. next ≡ kind) → Finds rank m L p → Finds rank m (lang.optional L) (optional kind p)
optional_f {L = L} {p = p} m kind over opens f = record { finds = go L p m kind over opens f }
  where
    go : {A : Type 0} (L : Language A) (p : Reader A) (m : ℕ) (kind : Kind) → m < rank kind → Opens L (λ next. next ≡ kind) → Finds rank m L p
        → (w rest : Lexemes) (x : Option A) → lang.optional L w x → rank (kind_at rest) ≤ m → Accepts (optional kind p (w ++ rest)) x rest
    go L p m kind over opens f w rest x (inl h) small =
        subst (λ t. Accepts (optional kind p (t ++ rest)) x rest) (sym h.0)
        (subst (λ b. Accepts (cond b (Some <$> p) (pure None) rest) x rest) (sym (not_same kind (kind_at rest) m (same_kind (kind_at rest) kind) over small refl)) ((finds_pure rank m None).finds [] rest x (refl, h.1) small))
    go L p m kind over opens f w rest x (inr h) small =
        let first : kind_at (w ++ rest) ≡ kind = opens_then (λ next. next ≡ kind) opens w rest x h in
        let same : same_kind (kind_at (w ++ rest)) kind ≡ true = ap (λ next. same_kind next kind) first ∙ same_kind_self kind in
        subst (λ b. Accepts (cond b (Some <$> p) (pure None) (w ++ rest)) x rest) (sym same) ((map_f m Some f).finds w rest x h small)

pub optional_follows : {A : Type 0} {L : Language A} (l m : ℕ) (kind : Kind) → m ≤ l → rank kind ≤ l → Opens L (λ next. next ≡ kind) → Follows l m (lang.optional L)
optional_follows l m kind le small opens = follows_either l m (follows_pure l m None le) (follows_opens l m (opens_then (λ next. rank next ≤ l) (λ w rest a h. let e = ap rank (opens w rest a h) in omega arith)))

-- ---- lists

comma_loop : {A : Type 0} (L : Language A) → Loops rank 4 3 is_comma (Then (lang.token k.Comma) (λ _. L))
comma_loop L = record { opening = token_opening is_comma k.Comma (λ _. L) refl; binds = binds; stops = stops; below = omega arith }
  where
    binds : (kind : Kind) → is_comma kind ≡ true → rank kind ≤ 4
    binds k.Comma is = omega arith
    binds _ is = absurd (cc)

    stops : (kind : Kind) → rank kind ≤ 3 → is_comma kind ≡ false
    stops k.Comma small = absurd (omega arith)
    stops _ small = refl

pub list_s : {A : Type 0} {n : ℕ} {L : Language A} {p : Reader A} → Sound n n L p → Sound n n (lang.list L) (list p)
unfolding list list_item
list_s {L = L} s = then_s s (λ w x h. all_s is_comma (seq_s k.Comma refl s) (token_some k.Comma (λ _. L)) refl (x ∷ []))

-- items stop before a comma
pub list_f : {A : Type 0} {L : Language A} {p : Reader A} → Finds rank 4 L p → Finds rank 3 (lang.list L) (list p)
unfolding list list_item
list_f {L = L} f = then_f 4 3 f (λ w x h. all_f 4 3 is_comma (comma_loop L) (seq_f 4 k.Comma f) (x ∷ [])) (λ x. follows_behind (x ∷ []) (comma_loop L))

pub some_list : {A : Type 0} (L : Language A) → Begins L [] → Begins (lang.list L) []
some_list L (w, x, h) = (w, x ∷ [], record { tree = x; split = record { front = w; back = []; cut = sym (append-nil w); first = h; second = ([], refl, refl) } })

-- ---- parentheses

pub record InParens {A : Type 0} (L : Language A) (w : Lexemes) (a : A) : Type 0 where
  pub open_ : Lexeme
  pub close : Lexeme
  pub middle : Lexemes
  pub is : w ≡ open_ ∷ (middle ++ close ∷ [])
  pub opens : open_.kind ≡ k.Open
  pub closes : close.kind ≡ k.Close
  pub inside : L middle a

pub opened_up : {A : Type 0} (L : Language A) (w : Lexemes) (a : A) → lang.parens L w a → InParens L w a
opened_up L w a h =
    let outer = h.split in
    let middle = outer.second.split in
    let last = middle.second.split in
    record {
      open_ = h.tree;
      close = middle.second.tree;
      middle = middle.front;
      is = outer.cut ∙ ap (λ t. t ++ outer.back) outer.first.0 ∙ ap (λ t. h.tree ∷ t) (middle.cut ∙ ap (λ t. middle.front ++ t) (last.cut ∙ ap (λ t. t ++ last.back) last.first.0 ∙ ap (λ t. middle.second.tree ∷ t) last.second.0));
      opens = outer.first.1;
      closes = last.first.1;
      inside = subst (λ t. L middle.front t) (sym last.second.1) middle.first;
    }

pub put_in : {A : Type 0} (L : Language A) (w : Lexemes) (a : A) → InParens L w a → lang.parens L w a
put_in L w a p = record {
  tree = p.open_;
  split = record {
    front = p.open_ ∷ [];
    back = p.middle ++ p.close ∷ [];
    cut = p.is;
    first = (refl, p.opens);
    second =
        record {
          tree = a;
          split = record {
            front = p.middle;
            back = p.close ∷ [];
            cut = refl;
            first = p.inside;
            second =
                record { tree = p.close; split = record { front = p.close ∷ []; back = []; cut = refl; first = (refl, p.closes); second = (refl, refl) } };
          };
        };
  };
}

-- with something else between the same parentheses
pub parens_into : {A B : Type 0} (K : Language A) (L : Language B) (w : Lexemes) (a : A) (b : B) → ((v : Lexemes) → K v a → L v b) → lang.parens K w a → lang.parens L w b
parens_into K L w a b f h =
    let p = opened_up K w a h in
    put_in L w b (record { open_ = p.open_; close = p.close; middle = p.middle; is = p.is; opens = p.opens; closes = p.closes; inside = f p.middle p.inside })

-- the same parentheses round something else
pub again : {A B : Type 0} {K : Language A} {w : Lexemes} {a : A} (L : Language B) (b : B) (p : InParens K w a) → L p.middle b → lang.parens L w b
again {w = w} L b p m = put_in L w b (record { open_ = p.open_; close = p.close; middle = p.middle; is = p.is; opens = p.opens; closes = p.closes; inside = m })

pub parens_either : {A : Type 0} (K L : Language A) (w : Lexemes) (a : A) → lang.parens (lang.◌∪◌ K L) w a → lang.◌∪◌ (lang.parens K) (lang.parens L) w a
parens_either K L w a h = let p = opened_up (lang.◌∪◌ K L) w a h in elim p.inside [ inl m ↦ inl (again K a p m) | inr m ↦ inr (again L a p m) ]

pub parens_map : {A B : Type 0} (f : A → B) (L : Language A) (w : Lexemes) (b : B) → lang.parens (lang.◌<$>◌ f L) w b → lang.◌<$>◌ f (lang.parens L) w b
parens_map f L w b h =
    let p = opened_up (lang.◌<$>◌ f L) w b h in
    let o = mapped f L p.middle b p.inside in
    subst (λ y. lang.◌<$>◌ f (lang.parens L) w y) (sym o.2) (mapping f (lang.parens L) w o.0 (again L o.0 p o.1))

pub map_parens : {A B : Type 0} (f : A → B) (L : Language A) (w : Lexemes) (b : B) → lang.◌<$>◌ f (lang.parens L) w b → lang.parens (lang.◌<$>◌ f L) w b
map_parens f L w b h =
    let o = mapped f (lang.parens L) w b h in
    subst (λ y. lang.parens (lang.◌<$>◌ f L) w y) (sym o.2) (parens_into L (lang.◌<$>◌ f L) w o.0 (f o.0) (λ v k. mapping f L v o.0 k) o.1)

-- behind the same first part
pub behind : {A B : Type 0} {K : Language A} {L M : Language B} {w : Lexemes} {b : B} → ((v : Lexemes) → L v b → M v b) → Then K (λ _. L) w b → Then K (λ _. M) w b
behind f h = record { tree = h.tree; split = record { front = h.split.front; back = h.split.back; cut = h.split.cut; first = h.split.first; second = f h.split.back h.split.second } }
