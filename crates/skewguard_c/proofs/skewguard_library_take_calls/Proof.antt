-- `skewguard_library_take_calls` lends the library behind the pointer for the one call of `take`, and has it back at its new state.
-- The buffer and the length are passed on for good.
use Rattle.skewguard_c.proofs.Steps.{ℕ, List, [], ◌∷◌, refl, w32, proved, leaves, full_share, id⊢, fst∗, never, Lft, ftrue, flft, flent, named, Val, vptr, bare, WpFn, sem, Body, fact, tables, Item, ‵, raw, ◌⊛◌, some, later, prop, ◌$◌, ◌∵◌, !, qed, by, move, keep, drop, use1, use2, use3, split, split3, join, fsplit, fjoin, fpack, feq_l, pick, await, regoal, enter, of_opd, addr, stop, from, fld, hop, no_more, and_then, returns, alloc_all, pass_all, free_all, look_at, look_in_at, get, get_in, through, sets, lands_as, agg, sub, whole, lft_new, lft_end, u8, u32, usize, i32, yes, Is, shows, lends_ref, ref_back, mem, part_at, lone, uint_vals, uint_Tells, sint_Lawful, flat, owns, Ptr, RawPtr, block_ptr, null_ptr, in_a_block, rawptr_vals, rawptr_Tells, MutRef, mut_vals, mut_Tells, plain, types_at, shr_slice_of, shr_slice_vals, shr_slice_Tells, mut_slice_vals, mut_slice_Tells, nothing, peeks, heard, calls_at, Lasts, lasts, triple_of, framed, Stays, walk_of, stay_dropped, gave_ref, gave_slice, Goes-dropped, Goes-gave_ref, Goes-gave_slice, Heap, LibraryState, E}
use denote.Triple.Entry.{Vals}
use Rattle.std.proofs.alloc.Global.TheLaws as heap_laws
use Rattle.std.specs.contracts.impls.GlobalAllocator.TheImpl.{ghosts}
use Rattle.calls.specs.States.{AreTaken}
use Rattle.skewguard_c.specs.Handles.{handle}
use Rattle.skewguard_c.specs.contracts.skewguard_library_take_calls as f
use Rattle.skewguard_c.proofs.skewguard_library_take_calls.Statement.{statement}
use Rattle.skewguard_c.proofs.skewguard_library_take_calls.Code as code
use Rattle.skewguard_c.specs.contracts.take as g
use Rattle.skewguard_c.proofs.take.Met.{met}

abbrev stayed : Stays f.ended.signature.params f.ended.kept
stayed = (stay_dropped _ yes, (stay_dropped _ yes, (gave_slice (0 ∷ []) tt (plain (λ _. u8)), (gave_ref (1 ∷ []) tt (plain (λ _. usize)), tt))))

abbrev heap_vals : Heap.Denot → List Val
heap_vals a = heap_laws.lowers.lowered a ∷ []

pub skewguard_library_take_calls_spec : {M : Type 1} → statement M
skewguard_library_take_calls_spec 𝓤 𝓛 𝓜 𝓡 wired =
    let H = 𝓛.H in let 𝓣 = tables 𝓤 H 𝓜 𝓡 𝓡.env in let c = f.clauses 𝓛 𝓜.mem 𝓡.returns in let W = walk_of 𝓛 f.ended stayed c in
    proved 𝓛 f.ended stayed c 𝓜 𝓡
    (Goes-dropped 𝓛 2 (plain (λ _. Heap)) yes (λ κs x w. refl), (Goes-dropped 𝓛 2 (plain (λ _. RawPtr)) yes (λ κs x w. refl), (Goes-gave_slice 𝓛 2 0 tt (plain (λ _. u8)), (Goes-gave_ref 𝓛 2 1 tt (plain (λ _. usize)), tt))))
    f.Key.name code.function (code.unfolded 𝓤 H 𝓜 𝓡 wired)
    (λ κs. (heap_vals, (rawptr_vals, (mut_slice_vals, (mut_vals, tt)))))
    (λ κs. (heap_laws.lowers.val_is, (rawptr_Tells, (mut_slice_Tells (named 0) κs.0 u8, (mut_Tells (named 1) κs.1.0 usize, tt)))))
    (λ κs qs bounds a old are.
    let alloc = a.0 in let at = a.1.0 in let buf = a.1.1.0 in let len = a.1.1.1.0 in
    let t₀ : Item 𝓤 = ‵ (flft κs.0 qs.0) in let t₁ : Item 𝓤 = ‵ (flft κs.1.0 qs.1.0) in let toks : Item 𝓤 = t₀ ⊛ t₁ ⊛ ‵ ftrue in
    let words : Ptr → Vals f.signature κs = λ p. (heap_vals alloc, (rawptr_vals p, (mut_slice_vals buf, (mut_vals len, tt)))) in
    let y : Ptr → W.Ghost = λ p. ((κs, qs, bounds, (alloc, (p, (buf, (len, tt)))), words p), old) in
    let G = triple_of 𝓛 g.signature (g.spec 𝓛 𝓜.mem 𝓡.returns) in
    let buf_fits = are.1.1.0.0.1.0 in
    qed 𝓛 ((toks ⊛ ‵ (owns (types_at f.signature.params κs) a (words at))) ∷ ‵ (handle alloc at old) ∷ []) ∵
    split ! $ move ! (1 ∷ []) $ fsplit ! $ drop ! $ fsplit ! $ drop ! $ move ! (2 ∷ []) $
    -- [the handle; the other parameters; the tokens]
    in_a_block ! at (λ p. handle alloc p old) (fst∗ 𝓤 (never 𝓤) (sem 𝓛 (ghosts.dealloc_token alloc (bare (lone E.mir)) null_ptr))) (λ b o e.
    regoal ! (λ p. prop (WpFn 𝓤 H 𝓣.C 𝓣.Λ code.function (flat (types_at f.signature.params κs) (words p)) (W.post (y p)))) e refl $ fsplit ! $
    enter ! _ _ _ _ _ $ alloc_all ! (λ l. pass_all ! refl (((heap_laws.the_row_laws.lawful 𝓛).typed alloc _ are.0).0, ((tt, tt), ((tt, (tt, (record { fits = buf_fits }, tt))), ((tt, tt), tt)))) $
    -- [the library; the right to free; the other parameters; the tokens; the locals]
    sets ! (of_opd ! (get ! refl)) refl (tt, tt) $
    sets ! (addr ! (through ! refl (stop !))) refl (tt, tt) $
    sets ! (addr ! (from ! (fld ! refl (hop ! (look_in_at ! 3 (sub ! 0 refl (whole !))) (stop !))))) refl (tt, tt) $
    sets ! (agg ! (and_then ! (get ! refl) (and_then ! (get_in ! (fld ! refl (stop !)) (sub ! 1 refl (whole !))) (no_more !)))) refl (tt, (tt, (record { fits = buf_fits }, tt))) $
    sets ! (addr ! (through ! refl (stop !))) refl (tt, tt) $
    lft_new ! tt (λ α. let κ : Lft = α ∷ [] in move ! (1 ∷ []) $
    use1 𝓛 (later (some (λ (γ : ℕ). ‵ ((MutRef (named 0) κ E).own_val (record { ref_ptr = (b, o); ghost_name = γ; now = old }) (vptr b o ∷ [])) ⊛ ‵ (flent κ (Body (mem E) b o γ)))))
    (lends_ref 𝓛 E (named 0) κ old b o) $ await ! tt $ pick ! (λ γ. split ! $
    -- [the reference; the way back; its token; the right to free; the other parameters; the tokens]
    let z : G.Ghost = (((κ, κs), (full_share, qs), tt, (record { ref_ptr = (b, o); ghost_name = γ; now = old }, (buf, (len, tt))), (vptr b o ∷ [], (mut_slice_vals buf, (mut_vals len, tt)))), tt) in
    move ! (0 ∷ 4 ∷ []) $ fjoin ! $ move ! (2 ∷ 4 ∷ []) $ join ! $ join ! $ nothing ! $ move ! (1 ∷ 0 ∷ []) $ use2 𝓛 (raw (G.pre z)) (id⊢ 𝓤 _) $
    calls_at ! (framed 𝓤 H 𝓜 𝓣) G (met 𝓤 𝓛 𝓜 𝓡 (code.calls-skewguard_c::take 𝓡.env wired)) z
    (and_then ! (get ! refl) (and_then ! (get ! refl) (and_then ! (get ! refl) (no_more !)))) (λ v.
    use1 𝓛 (later (some (λ (r : i32.Denot). ((‵ (flft κ full_share) ⊛ toks) ⊛ ‵ (i32.own_val r (v ∷ []))) ⊛ some (λ (ws : Lasts g.ended z.0.0 z.0.3). ‵ (lasts g.ended z.0.0 z.0.3 ws)
    ⊛ raw (fact 𝓤 (AreTaken old ws.0 buf.now ws.1.0 ws.1.1.0 r)))))) (id⊢ 𝓤 _) $ await ! tt $ pick ! (λ r. split ! $ move ! (1 ∷ []) $ pick ! (λ ws. split ! $
    move ! (1 ∷ []) $ heard ! _ (λ taken.
    -- [the last values; the tokens with the result; the way back; the right to free]
    fsplit ! $ fsplit ! $ move ! (2 ∷ []) $ fsplit ! $ fsplit ! $ fsplit ! $ move ! (1 ∷ []) $ feq_l ! (λ same. fjoin ! $ fjoin ! $
    nothing ! $ fjoin ! $ nothing ! $ fjoin ! $
    -- [what is left of the parameters; the library's last value; its borrow; the tokens with the result; the way back; the right to free]
    move ! (3 ∷ []) $ split ! $ split ! $ lft_end ! tt $ move ! (0 ∷ 6 ∷ 4 ∷ []) $ use3 𝓛 (later (‵ (part_at E full_share ws.0 b o))) (ref_back 𝓛 E κ γ ws.0 b o) $ await ! tt $
    move ! (2 ∷ []) $ peeks ! i32 (Is i32) (shows 𝓛 i32) r (v ∷ []) (λ is. lands_as ! refl refl ((sint_Lawful 𝓛 w32).typed r _ is).0 $
    returns ! (look_at ! 0 refl) $ free_all ! refl $
    -- [the result; the library; the tokens; what is left of the parameters; its borrow; the right to free]
    move ! (1 ∷ 5 ∷ []) $ fjoin ! $ fpack ! ((s : LibraryState) × AreTaken old s buf.now ws.1.0 ws.1.1.0 r) (λ x. handle alloc (block_ptr b o) x.0) (ws.0, taken) $
    keep ! (2 ∷ 3 ∷ 1 ∷ 0 ∷ []) $ by ! (leaves 𝓛 f.ended stayed c (y (block_ptr b o)) v r (tt, (tt, (ws.1.0, (ws.1.1.0, tt)))) (tt, (tt, (same, (tt, tt))))))))))))))))
